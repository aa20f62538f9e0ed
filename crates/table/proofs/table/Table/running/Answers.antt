use Rattle.std.proofs.Common.{arith}
use Rattle.std.proofs.lemmas.Grind.{common_steps}
use Rattle.table.proofs.Started.{listed_all}
use Rattle.table.proofs.table.Table.running.Goals as goal
use Rattle.table.proofs.table.Table.running.Goals.{in-Running, in_default}

pub loop-socket-preserved : goal.loop-socket-preserved
loop-socket-preserved c =
    elim c.match-slot.branch [
      | in-Running w ↦ grind (arith, common_steps)
      | in_default w ↦ grind (arith, common_steps)
    ]

pub returns : goal.returns
returns c = let table = c.args.self.now in listed_all table.slots c.loop-socket.socket c.loop-socket.list.places (omega (arith, table.whole)) c.loop-socket.invariant
