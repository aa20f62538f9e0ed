use Rattle.std.proofs.Common.{◌+◌, ◌<◌, ◌≤◌, length, set, None, sym, subst, inl, inr, arith}
use Prim.Native.Nat.{◌∣◌}
use native.Mathlib.Nat.{le_of_dvd, one-dvd}
use Rattle.std.proofs.lemmas.List.{length-set, take_all}
use Rattle.draws.specs.Draws.{periods_of}
use Rattle.draws.specs.Factors.{Factor}
use Rattle.draws.proofs.Factoring.{FactorOfFront, factor_none, front_more, front_skip}
use Rattle.draws.proofs.list.DrawList.factor_without.Goals as goal
use Rattle.draws.proofs.list.DrawList.factor_without.Goals.{in-Some+then-other-place, in-Some+else-other-place, in_default}

pub loop-other-init : goal.loop-other-init
loop-other-init c = (factor_none c.args.period, one-dvd c.args.period)

pub loop-other-preserved : goal.loop-other-preserved
loop-other-preserved c =
    let ps = c.args.self.now.places in
    let out = c.args.place in
    let n = c.loop-other.other in
    let p = c.args.period in
    let low : n < length ps = omega (arith, c.args.self.now.whole, c.loop-other-test.true) in
    let old = c.loop-other.invariant in
    elim c.match-held.branch [
      | in-Some+then-other-place w ↦
          subst (λ h. FactorOfFront ps out (n + 1) p h × (h ∣ p)) (sym w.factor-is)
          (front_more ps out n p _ _ w.in-Some.draw low w.in-Some.is w.if-other-place.true old.0 w.joined-factor.ensures.factor, w.joined-factor.ensures.divides)
      | in-Some+else-other-place w ↦
          subst (λ h. FactorOfFront ps out (n + 1) p h × (h ∣ p)) (sym w.factor-is)
          (front_skip ps out n p _ low (inl w.if-other-place.false) old.0, old.1)
      | in_default w ↦
          subst (λ h. FactorOfFront ps out (n + 1) p h × (h ∣ p)) (sym w.factor-is)
          (front_skip ps out n p _ low (inr w.in_default.is) old.0, old.1)
    ]

pub overflow_cast-result : goal.overflow_cast-result
overflow_cast-result c =
    let low : c.loop-other.factor ≤ c.args.period = le_of_dvd (omega (arith, c.if-period-eq0.false)) c.loop-other.invariant.1 in
    omega (arith, low, c.ranges.period)

pub returns : goal.returns
returns c =
    let ps = set c.args.self.now.places c.args.place None in
    subst (λ l. Factor (periods_of l) c.args.period c.loop-other.factor) (take_all _ ps (omega (arith, length-set c.args.self.now.places c.args.place None, c.args.self.now.whole, c.loop-other-test.false))) c.loop-other.invariant.0
