-- What the boxes merged so far have in common: for the contracts of private functions only.
use Rattle.std.specs.Prelude.{◌≡◌, ℕ, ◌%◌, ◌<◌, ◌≤◌, List, Some, None, Ok, Err, Option, Result}
use Rattle.std.specs.List.{AllByRecursion}
use Rattle.congruence.specs.declared.clocks.Clock.{Clock}
use Rattle.congruence.specs.declared.common.NoCommonTick.{NoCommonTick}
use Rattle.congruence.specs.declared.common.NoCommonTick.TheVariants.{Refused, Never}
use Rattle.congruence.specs.declared.common.Shared.{Shared}
use Rattle.congruence.specs.Divisors.{IsLcm, LcmBeyond, bound}
use Rattle.congruence.specs.Clocks.{Due, periods}
use Rattle.congruence.specs.FirstTicks.{NeverMeet}

-- The ticks that a group has in common are tick, tick + step, tick + 2 * step and so on, and no others; step is the
-- least common multiple of its periods.
pub record Merged (cs : List Clock) (tick step : ℕ) : Type 0 where
  pub lcm : IsLcm (periods cs) step
  pub within : tick < step
  pub due : AllByRecursion (Due tick) cs
  pub only : (t : ℕ) → AllByRecursion (Due t) cs → t % step ≡ tick

-- what one more box makes of a group; a box that is merged has a clock that is not refused
abbrev pub Merges : List Clock → Result (Option Shared) NoCommonTick → Type 0
Merges cs (Ok (Some m)) = Merged cs m.tick m.step × (m.step ≤ bound)
Merges cs (Ok None) = LcmBeyond (periods cs)
Merges cs (Err Never) = NeverMeet cs
Merges cs (Err (Refused e)) = ⊥
