use Rattle.planner.proofs.Factored.{BerthsTo}
use Rattle.planner.proofs.counting.berths.Given as goal

abbrev pub invariant-loop-socket : goal.invariant-loop-socket
invariant-loop-socket l = BerthsTo l.table.slots l.socket l.berths l.beside.places
