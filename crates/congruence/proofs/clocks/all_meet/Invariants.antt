use Rattle.std.proofs.Common.{◌↔◌, length}
use Rattle.congruence.proofs.Passes.{MeetAll}
use Rattle.congruence.proofs.clocks.all_meet.Given as goal

abbrev pub invariant-loop-left : goal.invariant-loop-left
invariant-loop-left l = MeetAll l.left ↔ MeetAll l.clocks

abbrev pub decreases-loop-left : goal.decreases-loop-left
decreases-loop-left l = length l.left
