use Rattle.std.proofs.Common.{IsTrue}
use Rattle.draws.specs.Draws.{drawing}
use Rattle.draws.specs.Masks.{Names}
use Rattle.draws.proofs.list.DrawList.drawing_at.Given as goal

abbrev pub invariant-loop-place : goal.invariant-loop-place
invariant-loop-place l = Names (λ s. IsTrue (drawing l.self.places l.tick s)) l.place l.mask
