use Rattle.std.proofs.Common.{rules, arith}
use Rattle.std.proofs.iter.runs.Sources.{range_runs}
use Rattle.draws.proofs.Sounds.{all_valid}
use Rattle.walk.proofs.Cycles.{cycle_some}
use Rattle.walk.proofs.Walks.{best_of_fold, better, found_best}
use Rattle.walk.proofs.walk_cycle.Goals as goal

pub returns : goal.returns
returns g c =
    let list = c.args.list.now in
    let some = cycle_some list.places c.args.cycle (all_valid list) c.requires.0 in
    let folded = c.fold.ensures.runs in
    let mapped = c.map.ensures.runs folded.0 folded.0.seen folded.1 in
    let up = rw mapped.1 at (range_runs mapped.0 mapped.0.seen) in
    rw (folded.3 better (λ b x r f k. search rules))
    (found_best g.L.Load.kind g.met.L.Load.lawful list.places (omega (arith, list.whole)) folded.0 mapped.0 _ _ c.args.cycle folded.2 mapped.2 up
    (search rules) (λ t r k. search rules) some c.requires.0 _ (best_of_fold folded.0.items (0, 0)))
