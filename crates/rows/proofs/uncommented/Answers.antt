use Rattle.std.proofs.Common.{Some, None, sym, ap, ◌∙◌, arith}
use Rattle.std.proofs.lemmas.Str.Pattern.{split_parts}
use Rattle.rows.specs.Rows.{before}
use Rattle.rows.proofs.Lines.{before_none, before_some}
use Rattle.rows.proofs.uncommented.Goals as goal

pub returns-in-Some : goal.returns-in-Some
returns-in-Some c =
    let parts = split_parts 35 c.args.line.now (Some (c.in-Some.text, c.in-Some.field-0-1)) c.in-Some.ensures.cases (omega arith) in
    before_some 35 _ c.in-Some.field-0-1.now parts.1 ∙ ap (before 35) (sym parts.0)

pub returns-in-None : goal.returns-in-None
returns-in-None c = before_none 35 _ (split_parts 35 c.args.line.now None c.in-None.ensures.cases (omega arith))
