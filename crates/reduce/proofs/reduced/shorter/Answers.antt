use Rattle.std.proofs.Common.{◌<◌, ◌≤◌, refl, mod-lt, arith}
use Rattle.congruence.specs.Clocks.{Valid}
use Rattle.draws.specs.Factors.{Factor}
use Rattle.draws.proofs.Factoring.{factor_most, factor_some}
use Rattle.draws.proofs.Sounds.{all_in_range, all_valid, verdict_ok}
use Rattle.reduce.specs.Reductions.{others, shortened}
use Rattle.reduce.proofs.reduced.shorter.Goals as goal
use Rattle.reduce.proofs.reduced.shorter.Goals.{In-Some, Start}

valid : (c : Start) → Valid c.args.draw.clock
valid c = all_valid c.args.list.now c.args.place c.args.draw c.requires

factor_is : (c : In-Some) → Factor (others c.args.list.now.places c.args.place) c.args.draw.clock.period c.in-Some.period
factor_is c = c.in-Some.ensures

pub nonzero_rem-result : goal.nonzero_rem-result
nonzero_rem-result c = factor_some (valid (goal.at.nonzero_rem-result c).Start).some c.in-Some.ensures

pub returns : goal.returns
returns c =
    let v = valid (goal.at.returns c).Start in
    let f = factor_is (goal.at.returns c).In-Some in
    let h = c.in-Some.period in
    let small = shortened c.args.draw h in
    let some : 0 < h = factor_some v.some f in
    let low : h ≤ c.args.draw.clock.period = factor_most v.some f in
    let fits : Valid small.clock = record { some = some; most = omega (arith, v.most); below = mod-lt c.args.draw.clock.wait some } in
    record { shortened = (h, f, refl); fits = verdict_ok small fits (all_in_range c.args.list.now c.args.place c.args.draw c.requires) }
