use Rattle.draws.proofs.Sounds.{all_valid}
use Rattle.reduce.proofs.Peaks.{answered}
use Rattle.reduce.proofs.reduce.ReduceFinder.find.Goals as goal

pub returns : goal.returns
returns g c =
    let list = c.args.list.now in
    let short = c.reduced-short.result in
    record {
      answer = answered list.places short.places list.whole c.reduced-short.ensures (all_valid list) (all_valid short) g.L.Load.kind g.met.L.Load.lawful (g.F.Finder.reach c.args.self.now.below) c.find.result c.find.ensures.answer;
      reach = λ ps.
          let same = c.find.ensures.reach in
          (λ within qs reduced. (same qs).0 (within qs reduced), λ within qs reduced. (same qs).1 (within qs reduced));
    }
