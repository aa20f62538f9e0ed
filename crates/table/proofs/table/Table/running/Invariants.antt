use Rattle.table.proofs.Started.{Listed}
use Rattle.table.proofs.table.Table.running.Given as goal

abbrev pub invariant-loop-socket : goal.invariant-loop-socket
invariant-loop-socket l = Listed l.self.slots l.socket l.list.places
