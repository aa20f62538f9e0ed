-- What a list refuses.
use Rattle.std.specs.Prelude.{ℕ, ◌∷◌, Result, nat_lt}
use Rattle.congruence.specs.declared.refusals.Refusal.{Refusal}
use Rattle.congruence.specs.declared.refusals.Refusal.TheVariants.{SocketOutOfRange}
use Rattle.congruence.specs.Refusals.{Check, verdict}
use Rattle.draws.specs.declared.draw.Draw.{Draw}
use Rattle.draws.specs.Checks.{draw_checks}

abbrev pub place_check : ℕ → Check
place_check s = record { passes = nat_lt s 24; refusal = SocketOutOfRange }

-- place, period, wait and rating, in this order
abbrev pub place_verdict : ℕ → Draw → Result (Unit {0}) Refusal
place_verdict s d = verdict (place_check s ∷ draw_checks d)
