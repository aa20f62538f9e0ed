use Rattle.std.proofs.Common.{[], ◌∷◌, length, is_ok, vec_items, sym, refl, ap, ◌∙◌, subst, append-nil, arith}
use Rattle.std.proofs.ResultArms.{chosen}
use Rattle.std.proofs.lemmas.List.{length_push, map_push, nil_from_length}
use Rattle.std.proofs.lemmas.Bool.{eqb-true, eqb-false}
use Rattle.rows.specs.Rows.{Gives, Numbers, none, one, said}
use Rattle.rows.proofs.Layout.add.Goals as goal
use Rattle.rows.proofs.Layout.add.Goals.{After-len-2}

-- the line has a row
gives : (c : After-len-2) → Gives c.args.self.columns c.args.at c.args.line.now (record { line = c.args.at; numbers = vec_items c.in_ok-numbers.numbers } ∷ [])
gives c =
    let held = c.in_ok-numbers.numbers.ok.0 in
    let some = eqb-false _ 0 (sym c.is_empty.ensures ∙ c.if-is_empty.false) in
    one (vec_items c.in_ok-numbers.numbers) c.in_ok-numbers.ensures (omega (arith, held, some)) (omega (arith, held, c.len.ensures, c.if-len-self.false))

pub returns-then-is_empty : goal.returns-then-is_empty
returns-then-is_empty c =
    let held = c.in_ok-numbers.numbers.ok.0 in
    let empty = eqb-true _ 0 (sym c.is_empty.ensures ∙ c.if-is_empty.true) in
    let items = nil_from_length (vec_items c.in_ok-numbers.numbers) (omega (arith, held, empty)) in
    ([], none (subst (Numbers c.args.line.now) items c.in_ok-numbers.ensures), sym (append-nil _), λ h. h)

pub returns-then-len-self-2 : goal.returns-then-len-self-2
returns-then-len-self-2 c =
    (refl, omega (arith, c.args.rows.now.ok.0, c.len-2.ensures, c.if-len-self-2.true), (_, gives (goal.at.returns-then-len-self-2 c).After-len-2))

pub returns : goal.returns
returns c =
    let pushed = chosen _ _ _ _ c.push.ensures.items (ap is_ok c.in_ok-push.was) in (
      _,
      gives (goal.at.returns c).After-len-2,
      ap (mathlib.Core.List.map said) pushed ∙ map_push said (vec_items c.args.rows.now) _,
      λ few. omega (arith, ap length pushed ∙ length_push _ _, c.args.rows.now.ok.0, c.len-2.ensures, c.if-len-self-2.false),
    )
