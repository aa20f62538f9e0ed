use Rattle.std.proofs.Common.{◌≡◌, ◌+◌, ◌*◌, ◌<◌, get_or, None, arith}
use Rattle.std.proofs.lemmas.Grind.{common_steps}
use Rattle.planner.specs.Berths.{factor_of}
use Rattle.planner.specs.Settings.{most_settings}
use Rattle.planner.proofs.Products.{product_front, product_more}
use Rattle.planner.proofs.counting.product.Goals as goal

pub returns-in_err-n : goal.returns-in_err-n
returns-in_err-n c =
    let i = c.loop-place.place-index in
    let xs = c.args.berths.now in
    let over : most_settings < c.loop-place.n * c.map_or-factor.result = grind arith in
    let factor : c.map_or-factor.result ≡ factor_of (get_or xs i None) = grind (arith, common_steps) in
    let more = product_more xs i (omega (arith, c.told-berths, c.loop-place-test.true)) in
    let front = product_front xs (i + 1) in
    rw c.from_residual.ensures (grind arith)

pub loop-place-preserved : goal.loop-place-preserved
loop-place-preserved c =
    let i = c.loop-place.place-index in
    let more = product_more c.args.berths.now i (omega (arith, c.told-berths, c.loop-place-test.true)) in
    grind (arith, common_steps)
