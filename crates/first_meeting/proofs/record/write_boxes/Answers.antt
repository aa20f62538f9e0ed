use Rattle.first_meeting.proofs.Texts.{appended, box_lines_more}
use Rattle.first_meeting.proofs.record.write_boxes.Goals as goal

pub loop-place-preserved : goal.loop-place-preserved
loop-place-preserved c =
    appended _ _ _ _ _ _ c.in_ok-write_box.ensures c.loop-place.invariant
    (box_lines_more c.args.clocks.now c.loop-place.place _ c.loop-place-test.true)
