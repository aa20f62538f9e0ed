use Rattle.std.proofs.Common.{refl}
use Rattle.std.proofs.lemmas.Bool.{both_ways, false≢true}
use Rattle.congruence.proofs.Meetings.{meet_by_pairs, slide}
use Rattle.congruence.proofs.Passes.{meet_more, meet_none, meet_not}
use Rattle.congruence.proofs.clocks.all_meet.Goals as goal

pub returns-then-not-meets_each : goal.returns-then-not-meets_each
returns-then-not-meets_each c = record {
  value = (
    λ e. absurd (false≢true e),
    λ h. absurd (meet_not _ _ c.in-len1-up.len_at_least (λ f. both_ways _ c.if-not-meets_each.true (c.meets_each.ensures.1 f)) (c.loop-left.invariant.1 h)),
  );
  by_pairs = meet_by_pairs;
  slide = slide;
}

pub loop-left-preserved : goal.loop-left-preserved
loop-left-preserved c =
    let more = meet_more _ _ c.in-len1-up.len_at_least (c.meets_each.ensures.0 c.if-not-meets_each.false) in
    (λ h. c.loop-left.invariant.0 (more.0 h), λ h. more.1 (c.loop-left.invariant.1 h))

pub returns : goal.returns
returns c = record {
  value = (λ e. c.loop-left.invariant.0 (meet_none _ c.in_default.len_below), λ h. refl);
  by_pairs = meet_by_pairs;
  slide = slide;
}
