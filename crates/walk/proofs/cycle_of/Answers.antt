use Rattle.std.proofs.Common.{rules, ◌≡◌, ◌+◌, ◌<◌, [], ◌∷◌, length, get_or, None, sym, ap, ◌∙◌, subst, arith}
use Rattle.std.proofs.lemmas.List.{take_all}
use Rattle.congruence.proofs.Multiples.{lcm_none}
use Rattle.draws.proofs.Sounds.{all_valid}
use Rattle.walk.specs.Cycles.{Cycle}
use Rattle.walk.proofs.Cycles.{front_more, front_skip, told, too_long}
use Rattle.walk.proofs.cycle_of.Goals as goal
use Rattle.walk.proofs.cycle_of.Goals.{After-filter, After-places-held-items, in-Some+in_ok-cycle, in_default}

pub loop-held-init : goal.loop-held-init
loop-held-init c = (c.places-held-items.ensures, (lcm_none, omega arith))

pub returns-in_err-cycle : goal.returns-in_err-cycle
returns-in_err-cycle c =
    let list = c.args.list.now in
    let n = c.loop-held.held-index in
    let same = c.loop-held.invariant.0 in
    let within : n < length list.places = omega (arith, c.loop-held-test.true, ap length same) in
    let at = ap (λ ps. get_or ps n None) (sym same) ∙ c.in-Some.is in
    let next = told (c.loop-held.cycle ∷ (c.in-Some.draw.clock.period ∷ [])) _ _ _ (rw c.from.ensures at c.lcm-next.ensures) c.filter.ensures (λ x k. search rules) (λ x k. search rules) in
    let long = rw c.in_err-cycle.was at next in
    rw c.from_residual.ensures
    (too_long list.places (n + 1) long.0 (all_valid list) (front_more list.places n _ _ c.in-Some.draw within at c.loop-held.invariant.1.0 long.1) long.2)

pub loop-held-preserved : goal.loop-held-preserved
loop-held-preserved c =
    let list = c.args.list.now in
    let n = c.loop-held.held-index in
    let same = c.loop-held.invariant.0 in
    let within : n < length list.places = omega (arith, c.loop-held-test.true, ap length same) in
    let at : (p : _) → get_or c.places-held-items.result.now n None ≡ p → get_or list.places n None ≡ p = λ p e. ap (λ ps. get_or ps n None) (sym same) ∙ e in (
      same,
      elim c.match-held.branch [
        | in-Some+in_ok-cycle w ↦
            let next = told (c.loop-held.cycle ∷ (w.in-Some.draw.clock.period ∷ [])) _ _ _ (rw w.from.ensures at w.lcm-next.ensures) w.filter.ensures (λ x k. search rules) (λ x k. search rules) in
            let short = rw w.in_ok-cycle.was at next in
            rw w.cycle-is (front_more list.places n _ _ w.in-Some.draw within (at _ w.in-Some.is) c.loop-held.invariant.1.0 short.0, short.1)
        | in_default w ↦ rw w.cycle-is (front_skip list.places n _ within (at _ w.in_default.is) c.loop-held.invariant.1.0, c.loop-held.invariant.1.1)
      ],
    )

pub returns : goal.returns
returns c =
    let list = c.args.list.now in
    subst (λ ps. Cycle ps c.loop-held.cycle) (take_all _ list.places (omega (arith, c.loop-held-test.false, ap length c.loop-held.invariant.0))) c.loop-held.invariant.1
