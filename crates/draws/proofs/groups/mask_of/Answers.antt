use Rattle.std.proofs.Common.{◌≡◌, true, false, get_or, sym, subst, arith}
use Rattle.std.proofs.lemmas.Bool.{both_ways}
use Rattle.draws.specs.Masks.{Names}
use Rattle.draws.proofs.Masks.{names_more, names_same}
use Rattle.draws.proofs.groups.mask_of.Goals as goal
use Rattle.draws.proofs.groups.mask_of.Goals.{then-named, else-named}

pub loop-place-preserved : goal.loop-place-preserved
loop-place-preserved c =
    let names = Names (λ s. get_or c.args.named.now s false ≡ true) in
    elim c.if-named.branch [
      | then-named w ↦ subst (names _) (sym w.mask-is) (names_more _ c.loop-place.place c.loop-place.mask c.loop-place.invariant (omega arith) w.if-named.true)
      | else-named w ↦ subst (names _) (sym w.mask-is) (names_same _ c.loop-place.place c.loop-place.mask c.loop-place.invariant (λ h. both_ways _ w.if-named.false h))
    ]
