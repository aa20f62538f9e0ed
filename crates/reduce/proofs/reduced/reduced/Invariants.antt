use Rattle.std.proofs.Common.{◌≡◌}
use Rattle.reduce.proofs.Places.{Sofar}
use Rattle.reduce.proofs.reduced.reduced.Given as goal

abbrev pub invariant-loop-place : goal.invariant-loop-place
invariant-loop-place l = record {
  places : l.held-items ≡ l.list.places;
  sofar : Sofar l.list.places l.place l.out.places;
}
