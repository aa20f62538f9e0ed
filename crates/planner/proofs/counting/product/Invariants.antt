use Rattle.std.proofs.Common.{◌≡◌, ◌≤◌, take}
use Rattle.planner.specs.Berths.{factors_of}
use Rattle.planner.specs.Settings.{most_settings, product}
use Rattle.planner.proofs.counting.product.Given as goal

abbrev pub invariant-loop-place : goal.invariant-loop-place
invariant-loop-place l = (l.n ≡ product (factors_of (take l.place-index l.berths))) × (l.n ≤ most_settings)
