use Rattle.std.proofs.Common.{vec_items}
use Rattle.std.specs.Str.Iter.{split_whitespace_rest}
use Rattle.rows.specs.Rows.{before}
use Rattle.rows.proofs.Lines.{Sofar}
use Rattle.rows.proofs.numbers.Given as goal

abbrev pub invariant-loop-word : goal.invariant-loop-word
invariant-loop-word l = Sofar (before 35 l.line) (split_whitespace_rest l.word-iterator) (vec_items l.out)
