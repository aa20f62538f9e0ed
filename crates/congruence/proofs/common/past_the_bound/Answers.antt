use Rattle.std.proofs.lemmas.Bool.{both_ways}
use Rattle.congruence.proofs.common.past_the_bound.Goals as goal

pub returns-else-all_meet : goal.returns-else-all_meet
returns-else-all_meet c =
    (c.requires.valid, λ t h. both_ways _ c.if-all_meet.false (c.all_meet.ensures.value.1 (c.requires.valid, (t, h))))
