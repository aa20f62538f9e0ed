-- What the parts of a search answer: for the contracts of its own functions only.
use Rattle.std.specs.Prelude.{◌≡◌, ℕ, ◌^◌, ◌<◌, ◌≤◌, Bool, true, false, ◌||◌, List, length, None, slice_index, slice_index_or}
use Rattle.load.specs.Kinds.{Kind}
use Rattle.draws.specs.Draws.{Places, bit, measured, total}
use Rattle.draws.specs.Masks.{Names}
use Rattle.draws.specs.Meetings.{EachTwo, MeetAt}

-- those that meet place s, and those that hold a box, which meets itself
abbrev pub Row : Places → ℕ → ℕ → ℕ → Type 0
Row ps s = Names (λ j. MeetAt (slice_index_or ps s None) (slice_index_or ps j None))

abbrev pub Held : Places → ℕ → ℕ → Type 0
Held ps = Names (λ j. MeetAt (slice_index_or ps j None) (slice_index_or ps j None))

-- the meetings of the first n places
pub record Tabled (ps : Places) (n : ℕ) (meets : List ℕ) : Type 0 where
  pub long : length meets ≡ 24
  pub rows : (s : ℕ) → s < n → Row ps s 24 (slice_index meets s)

-- a group of which each two meet, and what it measures
pub record Reached {L : Type 0} (K : Kind L) (ps : Places) (peak group : ℕ) : Type 0 where
  pub meets : EachTwo ps (bit group)
  pub reaches : measured K ps (bit group) ≡ peak

-- Where a search stands: the boxes of the group meet in pairs, and load is their load; those that are left, none of
-- them in the group, each meet every box of it; the group itself measures no more than the best.
pub record IsNode {L : Type 0} (K : Kind L) (ps : Places) (group : ℕ) (load : L) (left best : ℕ) : Type 0 where
  pub group_within : group < 2 ^ 24
  pub left_within : left < 2 ^ 24
  pub load_is : load ≡ total K (bit group) 0 ps
  pub meets : EachTwo ps (bit group)
  pub apart : (i : ℕ) → bit left i ≡ true → bit group i ≡ false
  pub fits : (i j : ℕ) → bit left i ≡ true → bit group j ≡ true → MeetAt (slice_index_or ps i None) (slice_index_or ps j None)
  pub single : (i : ℕ) → bit left i ≡ true → MeetAt (slice_index_or ps i None) (slice_index_or ps i None)
  pub seen : measured K ps (bit group) ≤ best

-- what a visit answers: a best that no group between `group` and `group` with all that is left beats
pub record Visited {L : Type 0} (K : Kind L) (ps : Places) (group left before peak best : ℕ) : Type 0 where
  pub reached : Reached K ps peak best
  pub grows : before ≤ peak
  pub most : (h : ℕ → Bool) → EachTwo ps h → ((i : ℕ) → bit group i ≡ true → h i ≡ true) → ((i : ℕ) → h i ≡ true → (bit group i || bit left i) ≡ true) → measured K ps h ≤ peak
