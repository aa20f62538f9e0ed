use Prim.Native.Nat.{◌∣◌}
use Rattle.draws.proofs.Factoring.{FactorOfFront}
use Rattle.draws.proofs.list.DrawList.factor_without.Given as goal

abbrev pub invariant-loop-other : goal.invariant-loop-other
invariant-loop-other l = FactorOfFront l.self.places l.place l.other l.period l.factor × (l.factor ∣ l.period)
