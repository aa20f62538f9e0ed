use Rattle.planner.specs.Searches.{Fits}
use Rattle.planner.proofs.fitting.with_best.Given as goal

abbrev pub invariant-loop-wait : goal.invariant-loop-wait
invariant-loop-wait g l = Fits g.L.Load.kind l.prefix l.berth l.wait l.best
