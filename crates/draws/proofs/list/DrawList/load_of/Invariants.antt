use lib.Bits.{bit_and}
use Rattle.draws.proofs.Sums.{Summed}
use Rattle.draws.proofs.list.DrawList.load_of.Given as goal

abbrev pub invariant-loop-left : goal.invariant-loop-left
invariant-loop-left g l = Summed g.L.Load.kind l.self.places (bit_and l.mask 16777215) l.left l.sum

abbrev pub decreases-loop-left : goal.decreases-loop-left
decreases-loop-left g l = l.left
