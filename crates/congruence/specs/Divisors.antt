-- Least common multiples, by divisibility alone.
use Rattle.std.specs.Prelude.{ℕ, ◌<◌, ◌≤◌, List}
use Rattle.std.specs.Int.{◌∣◌}
use Rattle.std.specs.List.{AllByRecursion}

-- m is the least common multiple of the numbers of a list; of no number it is 1
pub record IsLcm (ns : List ℕ) (m : ℕ) : Type 0 where
  pub multiple : AllByRecursion (λ n. n ∣ m) ns
  pub least : (k : ℕ) → AllByRecursion (λ n. n ∣ k) ns → m ∣ k

-- the largest multiple that is told
abbrev pub bound : ℕ
bound = 1_000_000_000_000_000_000

abbrev pub LcmWithin : List ℕ → ℕ → Type 0
LcmWithin ns m = IsLcm ns m × (m ≤ bound)

abbrev pub LcmBeyond : List ℕ → Type 0
LcmBeyond ns = (m : ℕ) × IsLcm ns m × (bound < m)
