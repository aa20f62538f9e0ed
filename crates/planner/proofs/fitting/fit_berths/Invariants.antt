use Rattle.planner.specs.Berths.{factors_of}
use Rattle.planner.proofs.Fits.{FittedTo}
use Rattle.planner.proofs.fitting.fit_berths.Given as goal

abbrev pub invariant-loop-place : goal.invariant-loop-place
invariant-loop-place g l = FittedTo g.L.Load.kind l.table (factors_of l.berths) l.place-index l.prefix
