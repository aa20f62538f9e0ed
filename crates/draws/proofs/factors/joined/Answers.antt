use Rattle.std.proofs.Common.{◌≤◌, arith}
use native.Mathlib.Nat.{le_of_dvd}
use Rattle.std.specs.Int.{IsGcd}
use Rattle.draws.proofs.Factoring.{factor_push}
use Rattle.draws.proofs.factors.joined.Goals as goal
use Rattle.draws.proofs.factors.joined.Goals.{After-lcm}

divisor : (c : After-lcm) → IsGcd c.args.period c.args.other c.gcd.result
divisor c = rw (c.from.ensures, c.from-2.ensures) at c.gcd.ensures

pub unreachable-requires : goal.unreachable-requires
unreachable-requires c =
    let long = c.in-None.ensures in
    let low : long.0 ≤ c.args.period = le_of_dvd c.requires.period (long.1.least c.args.period (c.requires.divides, ((divisor (goal.at.unreachable-requires c).After-lcm).0, tt))) in
    omega (arith, long.2)

pub returns : goal.returns
returns c =
    let next = c.in-Some.ensures.0 in
    let g = divisor (goal.at.returns c).After-lcm in
    record {
      factor = λ qs old. factor_push qs _ _ _ _ _ g old next;
      divides = next.least c.args.period (c.requires.divides, (g.0, tt));
    }
