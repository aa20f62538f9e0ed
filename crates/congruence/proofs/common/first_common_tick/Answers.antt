use Rattle.std.proofs.Common.{Ok, ap, ◌∙◌, ◌+◌, take, subst, arith}
use Rattle.std.proofs.ByRecursion.{All-get_or}
use Rattle.std.proofs.lemmas.List.{take_all}
use Rattle.congruence.specs.Clocks.{Valid}
use Rattle.congruence.specs.FirstTicks.{First}
use Rattle.congruence.specs.Merging.{Merges}
use Rattle.congruence.proofs.Firsts.{merges_next, never_of_front, beyond_of_all, first_from_merged}
use Rattle.congruence.proofs.Merges.{merged_none}
use Rattle.congruence.proofs.common.first_common_tick.Goals as goal
use Rattle.congruence.proofs.common.first_common_tick.Goals.{After-merge}

pub loop-clock-init : goal.loop-clock-init
loop-clock-init c = (merged_none, omega arith)

pub merge-requires : goal.merge-requires
merge-requires c = record {
  valid = All-get_or Valid _ _ _ c.loop-clock-test.true c.in_ok-check_clocks.ensures;
  within = c.loop-clock.invariant.0.within;
  bounded = c.loop-clock.invariant.1;
}

-- what `merge` says of the boxes up to this one
one_more : (c : After-merge) → Merges (take (c.loop-clock.clock-index + 1) c.args.clocks.now) c.merge.result
one_more c = merges_next _ _ _ _ c.loop-clock-test.true (c.merge.ensures _ c.loop-clock.invariant.0)

pub returns-in_err-shared : goal.returns-in_err-shared
returns-in_err-shared c =
    let merged = one_more (goal.at.returns-in_err-shared c).After-merge in
    never_of_front (c.loop-clock.clock-index + 1) _ _ _ c.in_ok-check_clocks.ensures (subst (Merges _) c.in_err-shared.was merged)
    c.from_residual-in_err-shared.ensures.1

pub past_the_bound-requires : goal.past_the_bound-requires
past_the_bound-requires c =
    let valid = c.in_ok-check_clocks.ensures in
    let long = subst (Merges _) (c.in_ok-shared.was ∙ ap Ok c.in_default.is) (one_more (goal.at.past_the_bound-requires c).After-merge) in
    record { valid = valid; beyond = beyond_of_all (c.loop-clock.clock-index + 1) _ valid long }

pub returns : goal.returns
returns c = (
  c.in_ok-check_clocks.ensures,
  subst (λ cs. First cs c.loop-clock.so_far.tick) (take_all _ _ c.loop-clock-test.false)
      (first_from_merged _ _ _ c.loop-clock.invariant.0 c.loop-clock.invariant.1),
)
