use Rattle.std.proofs.Common.{string_bytes}
use Rattle.first_meeting.specs.Records.{Pairs, Writes}
use Rattle.first_meeting.proofs.record.write_all_pairs.Given as goal

abbrev pub invariant-loop-place : goal.invariant-loop-place
invariant-loop-place l = Writes (Pairs l.clocks l.place) (string_bytes l.initial.out) (string_bytes l.out)
