use Rattle.std.proofs.Common.{◌≡◌, ◌+◌, ◌<◌, length, get_or, None, sym, ap, ◌∙◌, subst, arith}
use Rattle.draws.proofs.Sets.{accepted}
use Rattle.draws.proofs.Sounds.{place_ok}
use Rattle.reduce.proofs.Places.{Sofar, sofar_none, sofar_some}
use Rattle.reduce.proofs.reduced.reduced.Goals as goal
use Rattle.reduce.proofs.reduced.reduced.Goals.{Joined-held, in-Some, in_default}

pub shorter-requires : goal.shorter-requires
shorter-requires c = ap (λ ps. get_or ps c.loop-place.place None) (sym c.loop-place.invariant.places) ∙ c.in-Some.is

low : (c : Joined-held) → c.loop-place.place < 24
low c = omega (arith, c.args.list.now.whole, ap length c.loop-place.invariant.places)

pub loop-place-preserved : goal.loop-place-preserved
loop-place-preserved c =
    let same = c.loop-place.invariant.places in
    let sofar = c.loop-place.invariant.sofar in
    let ps = c.args.list.now.places in
    let n = c.loop-place.place in
    let at : (p : _) → get_or c.places-held-items.result.now n None ≡ p → get_or ps n None ≡ p = λ p e. ap (λ ps. get_or ps n None) (sym same) ∙ e in
    record {
      places = same;
      sofar = elim c.match-held.branch [
        | in-Some w ↦
            let e = w.shorter.result in
            let after = accepted w.set.result _ _ _ w.set.ensures.told (place_ok n e (low c) w.shorter.ensures.fits) w.set.ensures.ok in
            subst (λ l. Sofar ps (n + 1) l.places) (sym w.out-is) (sofar_some ps n _ _ _ e (low c) sofar (at _ w.in-Some.is) w.shorter.ensures.shortened after)
        | in_default w ↦ subst (λ l. Sofar ps (n + 1) l.places) (sym w.out-is) (sofar_none ps n _ (low c) sofar (at _ w.in_default.is))
      ];
    }
