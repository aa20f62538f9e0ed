use Rattle.std.proofs.Common.{◌≡◌, true, false, get_or}
use Rattle.draws.specs.Masks.{Names}
use Rattle.draws.proofs.groups.mask_of.Given as goal

abbrev pub invariant-loop-place : goal.invariant-loop-place
invariant-loop-place l = Names (λ s. get_or l.named s false ≡ true) l.place l.mask
