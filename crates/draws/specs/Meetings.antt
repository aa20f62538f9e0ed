-- Which places of a list ever draw together.
use Rattle.std.specs.Prelude.{◌≡◌, ℕ, Bool, true, [], ◌∷◌, Some, None, Option, slice_index_or}
use Rattle.congruence.specs.Clocks.{Meet}
use Rattle.draws.specs.declared.draw.Draw.{Draw}
use Rattle.draws.specs.Draws.{Places, drawing}

-- both places hold a box, and some tick has both draw
abbrev pub MeetAt : Option Draw → Option Draw → Type 0
MeetAt None q = ⊥
MeetAt (Some d) None = ⊥
MeetAt (Some d) (Some e) = Meet (d.clock ∷ (e.clock ∷ []))

-- each two places of a set meet
abbrev pub EachTwo : Places → (ℕ → Bool) → Type 0
EachTwo ps h = (i j : ℕ) → h i ≡ true → h j ≡ true → MeetAt (slice_index_or ps i None) (slice_index_or ps j None)

-- some tick has every place of a set draw
abbrev pub Together : Places → (ℕ → Bool) → Type 0
Together ps h = (t : ℕ) × ((s : ℕ) → h s ≡ true → drawing ps t s ≡ true)
