use Rattle.std.proofs.Common.{◌≡◌, take}
use Rattle.walk.specs.Cycles.{Cycle}
use Rattle.walk.proofs.cycle_of.Given as goal

abbrev pub invariant-loop-held : goal.invariant-loop-held
invariant-loop-held l = (l.held-items ≡ l.list.places) × Cycle (take l.held-index l.list.places) l.cycle
