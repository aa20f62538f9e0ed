use Rattle.std.proofs.Common.{string_bytes}
use Rattle.first_meeting.specs.Records.{PairsOf, Writes}
use Rattle.first_meeting.proofs.record.write_pairs.Given as goal

abbrev pub invariant-loop-place : goal.invariant-loop-place
invariant-loop-place l = Writes (PairsOf l.earlier l.clock l.place) (string_bytes l.initial.out) (string_bytes l.out)
