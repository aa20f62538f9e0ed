use Rattle.std.proofs.Common.{arith}
use Rattle.draws.proofs.Peaks.{peak_from_found}
use Rattle.planner.proofs.prefix.Prefix.new.Goals as goal

pub returns-clause-is_peak : goal.returns-clause-is_peak
returns-clause-is_peak g c =
    let list = c.args.list in
    peak_from_found g.L.Load.kind g.met.L.Load.lawful list.places _ _ (omega (arith, list.whole)) c.find_any-peak.ensures.answer
