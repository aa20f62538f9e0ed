use Rattle.std.proofs.Common.{◌-◌, ◌<◌}
use Rattle.table.specs.declared.table.Table.{Table}
use Rattle.planner.specs.Berths.{factors_of}
use Rattle.planner.specs.Plans.{waits_of}
use Rattle.planner.specs.Searches.{Begun, Completes, Outcome, Sound}
use Rattle.planner.proofs.branches.Space.+extend.Given as goal

abbrev pub decreases-extend : goal.decreases-extend
decreases-extend g l = 24 - l.socket

abbrev pub invariant-loop-wait : goal.invariant-loop-wait
invariant-loop-wait g l =
    (table : Table) → Sound g.L.Load.kind table.slots l.self → Begun g.L.Load.kind table.slots (factors_of l.self.berths) l.socket l.prefix
    → Outcome g.L.Load.kind table.slots l.self.limit (λ v. Completes table.slots (factors_of l.self.berths) l.socket (waits_of l.prefix.waits) v × (v l.socket < l.wait)) l.initial.best l.best
