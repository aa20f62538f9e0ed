use Rattle.std.proofs.Common.{arith}
use Rattle.draws.proofs.Sounds.{all_valid}
use Rattle.search.proofs.Starts.{found, node_none, reached_none}
use Rattle.search.proofs.visit.best_group.Goals as goal

pub visit-requires : goal.visit-requires
visit-requires g c =
    let K = g.L.Load.kind in
    let laws = g.met.L.Load.lawful in
    let ps = c.args.list.now.places in
    record {
      tabled = c.meetings.ensures;
      node = node_none K laws ps c.held.result c.none.result c.none.ensures c.held.ensures;
      reached = reached_none K laws ps;
    }

pub returns : goal.returns
returns g c =
    let list = c.args.list.now in
    found g.L.Load.kind g.met.L.Load.lawful list.places c.held.result _ _ (omega (arith, list.whole)) (all_valid list) c.held.ensures c.visit.ensures
