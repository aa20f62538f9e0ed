use Rattle.std.proofs.Common.{vec_items}
use Rattle.std.specs.Str.Iter.{lines_rest}
use Rattle.rows.proofs.Lines.{Read}
use Rattle.rows.proofs.Layout.read.Given as goal

abbrev pub invariant-loop-line : goal.invariant-loop-line
invariant-loop-line l =
    Read l.self.columns l.self.most l.text (lines_rest l.line-iterator.a) l.line-iterator.b.start (vec_items l.rows)
