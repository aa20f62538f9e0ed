-- The first tick that the boxes of a group share.
use Rattle.std.specs.Prelude.{◌≡◌, ℕ, ◌<◌, List, length, take, Some, None, Ok, Err, Option, Result}
use Rattle.std.specs.List.{AllByRecursion, HoldsAt}
use Rattle.congruence.specs.declared.clocks.Clock.{Clock}
use Rattle.congruence.specs.declared.clocks.RefusedClock.{RefusedClock}
use Rattle.congruence.specs.declared.common.NoCommonTick.{NoCommonTick}
use Rattle.congruence.specs.declared.common.NoCommonTick.TheVariants.{Refused, Never}
use Rattle.congruence.specs.Divisors.{LcmWithin, LcmBeyond}
use Rattle.congruence.specs.Clocks.{Valid, Due, Meet, periods}
use Rattle.congruence.specs.Refusals.{verdict, clock_checks}

-- the first box of the list whose clock is not valid, and why it is not
abbrev pub IsFirstRefused : List Clock → RefusedClock → Type 0
IsFirstRefused cs e = (e.place < length cs) × AllByRecursion Valid (take e.place cs) × HoldsAt (λ c. verdict (clock_checks c) ≡ Err e.refusal) cs e.place

pub record First (cs : List Clock) (t : ℕ) : Type 0 where
  pub due : AllByRecursion (Due t) cs
  pub none_before : (s : ℕ) → s < t → AllByRecursion (Due s) cs → ⊥
  pub cycle : (m : ℕ) × LcmWithin (periods cs) m

abbrev pub NeverMeet : List Clock → Type 0
NeverMeet cs = (t : ℕ) → AllByRecursion (Due t) cs → ⊥

-- the first common tick, or none to tell where the least common multiple of the periods is beyond the bound
abbrev pub FirstOf : List Clock → Option ℕ → Type 0
FirstOf cs (Some t) = First cs t
FirstOf cs None = Meet cs × LcmBeyond (periods cs)

abbrev pub Answer : List Clock → Result (Option ℕ) NoCommonTick → Type 0
Answer cs (Ok first) = AllByRecursion Valid cs × FirstOf cs first
Answer cs (Err Never) = AllByRecursion Valid cs × NeverMeet cs
Answer cs (Err (Refused e)) = IsFirstRefused cs e
