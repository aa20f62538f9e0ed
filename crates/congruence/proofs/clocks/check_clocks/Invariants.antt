use Rattle.std.specs.List.{AllByRecursion}
use Rattle.std.proofs.Common.{take}
use Rattle.congruence.specs.Clocks.{Valid}
use Rattle.congruence.proofs.clocks.check_clocks.Given as goal

abbrev pub invariant-loop-place : goal.invariant-loop-place
invariant-loop-place l = AllByRecursion Valid (take l.place-counter l.clocks)
