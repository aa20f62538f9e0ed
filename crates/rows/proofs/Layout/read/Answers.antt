use Rattle.std.proofs.Common.{vec_items, subst, arith, inl, inr}
use Rattle.std.proofs.lemmas.List.{nil_from_length}
use Rattle.std.proofs.lemmas.Result.{err_from_is_err_and}
use Rattle.rows.specs.Rows.{Lines}
use Rattle.rows.proofs.Lines.{read_more, read_fault}
use Rattle.rows.proofs.Layout.read.Goals as goal

pub loop-line-preserved : goal.loop-line-preserved
loop-line-preserved c =
    let steps = c.in-Some.ensures.steps in
    let so_far = rw (← steps.1.0) at c.loop-line.invariant in
    rw steps.1.1
    (read_more c.args.self.columns c.args.self.most c.args.text.now _ c.in-Some.line.now _ _ _ _ so_far steps.0.0 c.in_ok-add.ensures)

pub returns-in_err-add : goal.returns-in_err-add
returns-in_err-add c =
    let steps = c.in-Some.ensures.steps in
    let so_far = rw (← steps.1.0) at c.loop-line.invariant in
    let p = err_from_is_err_and c.from_residual.result c.from_residual.ensures.1 in
    rw (p.1, p.2)
    (read_fault c.args.self.columns c.args.self.most c.args.text.now _ c.in-Some.line.now _ c.in-Some.at (vec_items c.loop-line.rows) (vec_items c.add.new.rows) _ so_far steps.0.0 c.in_err-add.ensures)

pub returns : goal.returns
returns c =
    let r = c.loop-line.invariant in
    elim c.in-None.ensures.steps [
      | inl ended ↦ (r.lines, subst (Lines c.args.text.now r.lines) (nil_from_length _ ended.1.0.0) r.cut, r.given, omega (arith, r.few, c.loop-line.rows.ok.0))
      | inr counted ↦ absurd (omega (arith, r.within, counted.1.0))
    ]
