-- When boxes draw, and which of them draw together.
use Rattle.std.specs.Prelude.{◌≡◌, ℕ, ◌+◌, ◌-◌, ◌%◌, ◌<◌, ◌≤◌, ◌↔◌, List, [], ◌∷◌, map}
use Rattle.std.specs.Int.{◌∣◌, IsGcd}
use Rattle.std.specs.List.{AllByRecursion}
use Rattle.congruence.specs.declared.clocks.Clock.{Clock}

-- the clocks that a box can have: a period of 1 to 1,000 ticks, and a wait below it
pub record Valid (c : Clock) : Type 0 where
  pub some : 0 < c.period
  pub most : c.period ≤ 1000
  pub below : c.wait < c.period

-- the box draws at tick t
abbrev pub Due : ℕ → Clock → Type 0
Due t c = t % c.period ≡ c.wait

-- some tick has the boxes of a group draw together
abbrev pub Meet : List Clock → Type 0
Meet cs = (t : ℕ) × AllByRecursion (Due t) cs

-- each two boxes of a group meet
abbrev pub EachTwoMeet : List Clock → Type 0
EachTwoMeet [] = Unit {0}
EachTwoMeet (c ∷ cs) = AllByRecursion (λ d. Meet (c ∷ (d ∷ []))) cs × EachTwoMeet cs

abbrev pub periods : List Clock → List ℕ
periods = map (λ c. c.period)

abbrev pub apart : ℕ → ℕ → ℕ
apart m n = (m - n) + (n - m)

-- two boxes meet exactly when the greatest common divisor of their periods divides the difference of their waits
abbrev pub MeetByGcd : Type 0
MeetByGcd = (c d : Clock) (g : ℕ) → Valid c → Valid d → IsGcd c.period d.period g → Meet (c ∷ (d ∷ [])) ↔ (g ∣ apart c.wait d.wait)

-- a group meets at one tick exactly when each two of it meet
abbrev pub MeetByPairs : Type 0
MeetByPairs = (cs : List Clock) → AllByRecursion Valid cs → Meet cs ↔ EachTwoMeet cs

-- Time can be moved by a T that every period of ps divides, so that its clocks stand as they stood, and that moves a
-- clock of period p by d, if every common divisor of p with one of ps divides d.
abbrev pub Slide : Type 0
Slide =
    (ps : List ℕ) (p d : ℕ) → 0 < p → AllByRecursion (λ q. (g : ℕ) → IsGcd q p g → g ∣ d) ps
    → (T : ℕ) × AllByRecursion (λ q. q ∣ T) ps × (T % p ≡ d % p)
