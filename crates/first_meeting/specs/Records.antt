-- The record of a group of boxes, byte by byte.
use Rattle.std.specs.Prelude.{◌≡◌, ℕ, zero, suc, ◌+◌, ◌⊎◌, List, [], ◌∷◌, ◌++◌, length, Some, None, Ok, Err, codes, decimal, Option, Result, MatchOption, slice_index_or}
use Rattle.congruence.specs.declared.clocks.Clock.{Clock}
use Rattle.congruence.specs.declared.common.NoCommonTick.{NoCommonTick}
use Rattle.congruence.specs.Clocks.{Valid, Meet, periods}
use Rattle.congruence.specs.Divisors.{LcmBeyond, LcmWithin}

abbrev pub box_line : ℕ → Clock → List ℕ
box_line n c = codes "box " ++ (decimal n ++ (codes ": period " ++ (decimal c.period ++ (codes ", wait " ++ (decimal c.wait ++ codes "\n")))))

-- the boxes, numbered from n
abbrev pub box_lines : ℕ → List Clock → List ℕ
box_lines n [] = []
box_lines n (c ∷ cs) = box_line n c ++ box_lines (n + 1) cs

abbrev pub pair_line : ℕ → ℕ → List ℕ
pair_line m n = codes "boxes " ++ (decimal m ++ (codes " and " ++ (decimal n ++ codes " never meet\n")))

abbrev pub cycle_line : Option ℕ → List ℕ
cycle_line (Some m) = codes "lcm of the periods: " ++ (decimal m ++ codes "\n")
cycle_line None = codes "lcm of the periods: above 10^18\n"

abbrev pub tick_line : Result (Option ℕ) NoCommonTick → List ℕ
tick_line (Ok (Some t)) = codes "first common tick: " ++ (decimal t ++ codes "\n")
tick_line (Ok None) = codes "first common tick: -\n"
tick_line (Err e) = codes "first common tick: never\n"

abbrev pub clock_at : List Clock → ℕ → Clock
clock_at cs i = slice_index_or cs i (record { period = 0; wait = 0 })

-- the boxes at two places have clocks that a box can have, and some tick at which both draw
abbrev pub Meets : List Clock → ℕ → ℕ → Type 0
Meets cs i j = Valid (clock_at cs i) × Valid (clock_at cs j) × Meet (clock_at cs i ∷ (clock_at cs j ∷ []))

-- a line for each place below k whose box never meets the one at place j; boxes are numbered from 1
abbrev pub PairsWith : List Clock → ℕ → ℕ → List ℕ → Type 0
PairsWith cs j zero text = text ≡ []
PairsWith cs j (suc k) text =
    (before : List ℕ) × PairsWith cs j k before
    × ((Meets cs k j × (text ≡ before)) ⊎ ((Meets cs k j → ⊥) × (text ≡ before ++ pair_line (k + 1) (j + 1))))

-- those lines for a box behind the earlier ones, for the first k of them, whichever boxes come later
abbrev pub PairsOf : List Clock → Clock → ℕ → List ℕ → Type 0
PairsOf earlier c k text =
    (later : List Clock) → PairsWith (earlier ++ c ∷ later) (length earlier) k text

-- those lines for each of the first n boxes
abbrev pub Pairs : List Clock → ℕ → List ℕ → Type 0
Pairs cs zero text = text ≡ []
Pairs cs (suc n) text = (before : List ℕ) × (here : List ℕ) × Pairs cs n before × PairsWith cs n n here × (text ≡ before ++ here)

-- a text of which P holds is written behind the old one
abbrev pub Writes : (List ℕ → Type 0) → List ℕ → List ℕ → Type 0
Writes P old new = (text : List ℕ) × P text × (new ≡ old ++ text)

-- the whole record of a group, where `first` is what is told of its first common tick
pub record Record (cs : List Clock) (first : Result (Option ℕ) NoCommonTick) (text : List ℕ) : Type 0 where
  pub pairs : List ℕ
  pub cycle : Option ℕ
  pub never : Pairs cs (length cs) pairs
  pub lcm : MatchOption cycle (LcmBeyond (periods cs)) (λ m. LcmWithin (periods cs) m)
  pub whole : text ≡ box_lines 1 cs ++ (pairs ++ (cycle_line cycle ++ tick_line first))
