use Rattle.std.proofs.Common.{ℕ}
use Rattle.draws.specs.Draws.{Reaches}
use Rattle.planner.specs.Choices.{Choice, chosen}
use Rattle.planner.proofs.planning.heaviest.Given as goal

abbrev pub invariant-loop-slot : goal.invariant-loop-slot
invariant-loop-slot g l = (v : ℕ → ℕ) → Choice l.table.slots v → Reaches g.L.Load.kind (chosen l.table.slots v) l.most
