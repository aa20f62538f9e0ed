use Rattle.std.proofs.Common.{string_bytes, refl, ap, ◌∙◌}
use Rattle.std.proofs.lemmas.Bool.Decides.{not_from_Decides}
use Rattle.first_meeting.proofs.Texts.{appended, pairs_of_apart, pairs_of_met}
use Rattle.first_meeting.proofs.record.write_pairs.Goals as goal
use Rattle.first_meeting.proofs.record.write_pairs.Goals.{then-not-meets+in_ok-write_pair, else-not-meets}

pub loop-place-preserved : goal.loop-place-preserved
loop-place-preserved c =
    let old = c.loop-place.invariant in
    let means = c.meets.ensures.value in
    let within = c.loop-place-test.true in
    elim c.if-not-meets.branch [
      | then-not-meets+in_ok-write_pair w ↦ (
        _,
        pairs_of_apart c.args.earlier.now c.args.clock c.loop-place.place old.0 within old.1 (not_from_Decides _ means w.if-not-meets.true),
        ap string_bytes w.out-is ∙ appended _ _ _ _ _ _ w.in_ok-write_pair.ensures old.2 refl,
      )
      | else-not-meets w ↦ (
        old.0,
        pairs_of_met c.args.earlier.now c.args.clock c.loop-place.place old.0 within old.1 (means.0 w.if-not-meets.false),
        ap string_bytes w.out-is ∙ old.2,
      )
    ]
