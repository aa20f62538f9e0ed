use Rattle.std.proofs.Common.{◌≤◌, length, sym, ap, ◌∙◌, subst, arith}
use lib.Bits.{bit_and, and_le_r}
use lib.Count.{count_trailing_zeros}
use Rattle.draws.specs.Draws.{bit}
use Rattle.draws.proofs.Bits.{bit_cut, lowest_of}
use Rattle.draws.proofs.Sums.{Summed, summed_none, summed_all, summed_more}
use Rattle.draws.proofs.Totals.{total_below}
use Rattle.draws.proofs.list.DrawList.load_of.Goals as goal

pub loop-left-init : goal.loop-left-init
loop-left-init g c =
    let list = c.args.self.now in
    let low = and_le_r c.args.mask 16777215 in
    summed_none g.L.Load.kind g.met.L.Load.lawful list.places (omega (arith, list.whole)) (bit_and c.args.mask 16777215) c.none-sum.result (omega arith) c.none-sum.ensures

pub loop-left-preserved : goal.loop-left-preserved
loop-left-preserved g c =
    let K = g.L.Load.kind in
    let list = c.args.self.now in
    let mask = bit_and c.args.mask 16777215 in
    let low = lowest_of 24 32 c.loop-left.left (omega arith) (omega arith) c.loop-left.invariant.within in
    let sum = c.plus-sum.ensures ∙ ap (K.plus c.loop-left.sum) c.load_at.ensures in
    subst (Summed K list.places mask _) (sym sum)
    (summed_more K g.met.L.Load.lawful list.places (omega (arith, list.whole)) mask c.loop-left.left (count_trailing_zeros 32 c.loop-left.left) c.loop-left.sum low c.loop-left.invariant)

pub returns : goal.returns
returns g c =
    let K = g.L.Load.kind in
    let laws = g.met.L.Load.lawful in
    let list = c.args.self.now in
    let few : length list.places ≤ 64 = omega (arith, list.whole) in
    let mask = bit_and c.args.mask 16777215 in
    summed_all K laws list.places few mask c.loop-left.left c.loop-left.sum (omega arith) c.loop-left.invariant
    ∙ total_below K laws (bit mask) (bit c.args.mask) 0 list.places (λ i below. bit_cut c.args.mask i (omega (arith, list.whole)))
