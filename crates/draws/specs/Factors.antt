-- By how much a wait matters beside other boxes.
use Rattle.std.specs.Prelude.{ℕ, List}
use Rattle.std.specs.Int.{◌∣◌, IsGcd}
use Rattle.std.specs.List.{AllByRecursion}

-- k is a multiple of the greatest common divisors of p with each of the periods qs
abbrev pub Multiple : List ℕ → ℕ → ℕ → Type 0
Multiple qs p k = AllByRecursion (λ q. (g : ℕ) → IsGcd p q g → g ∣ k) qs

-- h is the least common multiple of these divisors, which beside no other period is 1
pub record Factor (qs : List ℕ) (p h : ℕ) : Type 0 where
  pub multiple : Multiple qs p h
  pub least : (k : ℕ) → Multiple qs p k → h ∣ k
