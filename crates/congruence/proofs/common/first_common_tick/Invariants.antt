use Rattle.std.proofs.Common.{◌≤◌, take}
use Rattle.congruence.specs.Divisors.{bound}
use Rattle.congruence.specs.Merging.{Merged}
use Rattle.congruence.proofs.common.first_common_tick.Given as goal

abbrev pub invariant-loop-clock : goal.invariant-loop-clock
invariant-loop-clock l = Merged (take l.clock-index l.clocks) l.so_far.tick l.so_far.step × (l.so_far.step ≤ bound)
