use Rattle.std.proofs.Common.{◌+◌, eqb, Decides, arith}
use Rattle.std.specs.List.{ContainsAt}
use Rattle.std.proofs.lemmas.List.Elements.{contains_decides}
use Rattle.std.proofs.lemmas.Bool.Decides.{not_from_Decides, Decides-eqb}
use Rattle.congruence.proofs.Multiples.{all_some, lcm_beyond_front, lcm_next, lcm_none, lcm_with_zero}
use Rattle.congruence.proofs.numbers.lcm_of.Goals as goal
use Rattle.congruence.proofs.numbers.lcm_of.Goals.{After-contains}

zeros : (c : After-contains) → Decides c.contains.result (ContainsAt c.args.numbers.now 0)
zeros c = contains_decides eqb Decides-eqb _ _ _ c.contains.ensures.cases

pub returns-then-contains : goal.returns-then-contains
returns-then-contains c = (lcm_with_zero _ ((zeros (goal.at.returns-then-contains c).After-contains).0 c.if-contains.true), omega arith)

pub loop-n-init : goal.loop-n-init
loop-n-init c = (lcm_none, omega arith)

pub returns-in_err-so_far : goal.returns-in_err-so_far
returns-in_err-so_far c =
    let none = not_from_Decides _ (zeros (goal.at.returns-in_err-so_far c).After-contains) c.if-contains.false in
    let long = c.in_err-so_far.ensures in
    rw c.from_residual.ensures
    (lcm_beyond_front (c.loop-n.n-index + 1) _ (all_some _ none) (long.0, lcm_next _ _ _ _ _ c.loop-n-test.true c.loop-n.invariant.0 long.1, long.2))

pub loop-n-preserved : goal.loop-n-preserved
loop-n-preserved c =
    let next = c.in_ok-so_far.ensures in
    (lcm_next _ _ _ _ _ c.loop-n-test.true c.loop-n.invariant.0 next.0, next.1)
