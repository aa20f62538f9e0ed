use Rattle.std.proofs.Common.{◌≡◌, ℕ, ◌+◌, ◌*◌, ◌%◌, ◌<◌}
use Rattle.congruence.proofs.common.merge.Given as goal

abbrev pub invariant-loop-tried : goal.invariant-loop-tried
invariant-loop-tried l =
    (l.tick ≡ l.so_far.tick + l._tried * l.so_far.step)
    × ((k : ℕ) → k < l._tried → (l.so_far.tick + k * l.so_far.step) % l.period ≡ l.wait → ⊥)
