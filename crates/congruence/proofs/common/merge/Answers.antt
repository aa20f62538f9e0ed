use Rattle.std.proofs.Common.{◌+◌, ◌*◌, ◌%◌, ◌<◌, [], ◌∷◌, ◌++◌, sym, ap, ◌∙◌, subst, arith}
use Rattle.congruence.specs.Divisors.{IsLcm}
use Rattle.congruence.specs.Clocks.{Due}
use Rattle.congruence.specs.Merging.{Merged}
use Rattle.congruence.proofs.Multiples.{lcm_some}
use Rattle.congruence.proofs.Merges.{lcm_push, merged_more, never, step_within}
use Rattle.congruence.proofs.common.merge.Goals as goal
use Rattle.congruence.proofs.common.merge.Goals.{In-Some}

cycle : (c : In-Some) → IsLcm (c.args.so_far.step ∷ (c.args.clock.period ∷ [])) c.in-Some.next
cycle c = subst (λ p. IsLcm (c.args.so_far.step ∷ (p ∷ [])) c.in-Some.next) c.from-period.ensures c.in-Some.ensures.0

pub returns-in_default : goal.returns-in_default
returns-in_default c = λ cs m.
    let long = c.in_default.ensures in
    (long.0, lcm_push cs _ _ _ c.args.clock m (subst (λ p. IsLcm (c.args.so_far.step ∷ (p ∷ [])) long.0) c.from-period.ensures long.1), long.2)

pub returns-then-tick-period : goal.returns-then-tick-period
returns-then-tick-period c = λ cs m.
    let tick = c.loop-tried.invariant.0 in
    let due : Due (c.args.so_far.tick + c.loop-tried._tried * c.args.so_far.step) c.args.clock =
    ap (λ t. t % c.args.clock.period) (sym tick) ∙ ap (λ p. c.loop-tried.tick % p) (sym c.from-period.ensures) ∙ c.if-tick-period.true ∙ c.from-wait.ensures in
    let more = merged_more cs _ _ _ c.args.clock m (cycle (goal.at.returns-then-tick-period c).In-Some) c.loop-tried._tried c.loop-tried-test.true due in
    (subst (λ t. Merged (cs ++ c.args.clock ∷ []) t c.in-Some.next) (sym tick) more, c.in-Some.ensures.1)

pub overflow_add-tick : goal.overflow_add-tick
overflow_add-tick c =
    let inside = step_within c.loop-tried._tried c.args.so_far.step c.in-Some.next c.in-Some.ensures.0.multiple.0 c.loop-tried-test.true in
    omega (arith, c.loop-tried.invariant.0, c.requires.bounded, c.requires.within, c.in-Some.ensures.1)

pub returns : goal.returns
returns c = λ cs m t h.
    let l = cycle (goal.at.returns c).In-Some in
    let some : 0 < c.args.so_far.step = omega (arith, c.requires.within) in
    never cs _ _ _ c.args.clock m l (lcm_some l some c.requires.valid.some)
    (λ k within due. c.loop-tried.invariant.1 k (omega arith) (ap (λ p. (c.args.so_far.tick + k * c.args.so_far.step) % p) c.from-period.ensures ∙ due ∙ sym c.from-wait.ensures))
    t h
