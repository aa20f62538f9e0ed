use Rattle.std.proofs.Common.{◌≡◌, ◌++◌, take, string_bytes}
use Rattle.first_meeting.specs.Records.{box_lines}
use Rattle.first_meeting.proofs.record.write_boxes.Given as goal

abbrev pub invariant-loop-place : goal.invariant-loop-place
invariant-loop-place l = string_bytes l.out ≡ string_bytes l.initial.out ++ box_lines 1 (take l.place l.clocks)
