use Rattle.std.proofs.Common.{refl}
use Rattle.first_meeting.proofs.Texts.{appended, pairs_more, pairs_of_whole}
use Rattle.first_meeting.proofs.record.write_all_pairs.Goals as goal

pub loop-place-preserved : goal.loop-place-preserved
loop-place-preserved c =
    let old = c.loop-place.invariant in
    let here = c.in_ok-write_pairs.ensures in
    let pairs = pairs_of_whole c.args.clocks.now c.loop-place.place _ _ c.loop-place-test.true here.1 in
    (_, pairs_more c.args.clocks.now c.loop-place.place old.0 here.0 old.1 pairs, appended _ _ _ _ _ _ here.2 old.2 refl)
