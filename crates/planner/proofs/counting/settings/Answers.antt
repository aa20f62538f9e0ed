use Rattle.planner.proofs.Factored.{counted_by, factors}
use Rattle.planner.proofs.counting.settings.Goals as goal

pub returns : goal.returns
returns c = counted_by c.args.table.now.slots _ (factors c.args.table.now.slots c.berths.result c.berths.ensures) c.product.result c.product.ensures
