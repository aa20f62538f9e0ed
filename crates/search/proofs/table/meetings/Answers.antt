use Rattle.std.proofs.Common.{rules}
use Rattle.draws.proofs.Masks.{each_of_calls}
use Rattle.search.specs.Visits.{Row}
use Rattle.search.proofs.table.meetings.Goals as goal

pub returns : goal.returns
returns c =
    let made = c.from_fn.ensures.items in
    record { long = made.long; rows = each_of_calls (λ s. Row c.args.list.now.places s 24) _ _ _ _ 0 made (search rules) (λ s row call. search rules) }
