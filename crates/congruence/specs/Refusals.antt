-- Which refusal is told: that of the first check that fails.
use Rattle.std.specs.Prelude.{ℕ, Bool, if◌then◌else◌, ◌&&◌, List, [], ◌∷◌, Ok, Err, Result, nat_le, nat_lt}
use Rattle.congruence.specs.declared.clocks.Clock.{Clock}
use Rattle.congruence.specs.declared.refusals.Refusal.{Refusal}
use Rattle.congruence.specs.declared.refusals.Refusal.TheVariants.{PeriodOutOfRange, WaitNotBelowPeriod}

pub record Check : Type 0 where
  pub passes : Bool
  pub refusal : Refusal

-- Ok where every check passes, and else the refusal of the first that fails
abbrev pub verdict : List Check → Result (Unit {0}) Refusal
verdict [] = Ok tt
verdict (c ∷ cs) = if c.passes then verdict cs else Err c.refusal

abbrev pub period_check : ℕ → Check
period_check p = record { passes = nat_lt 0 p && nat_le p 1000; refusal = PeriodOutOfRange }

abbrev pub wait_check : ℕ → ℕ → Check
wait_check p w = record { passes = nat_lt w p; refusal = WaitNotBelowPeriod }

abbrev pub clock_checks : Clock → List Check
clock_checks c = period_check c.period ∷ (wait_check c.period c.wait ∷ [])
