use Rattle.std.proofs.Common.{rules, ◌≡◌, IsTrue, sym, subst, arith}
use Rattle.std.proofs.lemmas.Bool.{both_ways}
use Rattle.draws.specs.Draws.{drawing}
use Rattle.draws.specs.Masks.{Names}
use Rattle.draws.proofs.Masks.{names_more, names_same}
use Rattle.draws.proofs.list.DrawList.drawing_at.Goals as goal
use Rattle.draws.proofs.list.DrawList.drawing_at.Goals.{After-is_some_and, then-is_some_and, else-is_some_and}

told : (c : After-is_some_and) → c.is_some_and.result ≡ drawing c.args.self.now.places c.args.tick c.loop-place.place
told c = search rules

pub loop-place-preserved : goal.loop-place-preserved
loop-place-preserved c =
    let names = Names (λ s. IsTrue (drawing c.args.self.now.places c.args.tick s)) in
    let same = told (goal.at.loop-place-preserved c).After-is_some_and in
    elim c.if-is_some_and.branch [
      | then-is_some_and w ↦ subst (names _) (sym w.mask-is) (names_more _ c.loop-place.place c.loop-place.mask c.loop-place.invariant (omega arith) (subst IsTrue same w.if-is_some_and.true))
      | else-is_some_and w ↦ subst (names _) (sym w.mask-is) (names_same _ c.loop-place.place c.loop-place.mask c.loop-place.invariant (λ h. both_ways _ w.if-is_some_and.false (subst IsTrue (sym same) h)))
    ]
