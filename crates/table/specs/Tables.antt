-- What the boxes of a table draw, now and once booked boxes have started.
use Rattle.std.specs.Prelude.{ℕ, suc, if◌then◌else◌, List, [], ◌∷◌, Some, None, Err, Option, Result, nat_lt}
use Rattle.congruence.specs.declared.refusals.Refusal.{Refusal}
use Rattle.draws.specs.declared.draw.Draw.{Draw}
use Rattle.draws.specs.Draws.{Places}
use Rattle.draws.specs.Lists.{place_check}
use Rattle.table.specs.declared.slot.Slot.{Slot}
use Rattle.table.specs.declared.slot.Slot.TheVariants.{Empty, Booked, Running}
use Rattle.table.specs.Slots.{slot_verdict, started}

-- socket first, then what is wrong with the slot
abbrev pub set_verdict : ℕ → Slot → Result (Unit {0}) Refusal
set_verdict s x = if (place_check s).passes then slot_verdict x else Err (place_check s).refusal

-- What draws at socket s once the booked boxes of the sockets below n have started, each with the wait that w gives it.
abbrev pub place_of : ℕ → (ℕ → ℕ) → ℕ → Slot → Option Draw
place_of n w s Empty = None
place_of n w s (Booked b) = if nat_lt s n then Some (started b (w s)) else None
place_of n w s (Running d) = Some d

-- the same of slots of which the first is socket s
unfoldable pub places_from : ℕ → (ℕ → ℕ) → ℕ → List Slot → Places
places_from n w s [] = []
places_from n w s (x ∷ xs) = place_of n w s x ∷ places_from n w (suc s) xs

-- the places of a table of which the booked boxes below n have started
abbrev pub places : List Slot → ℕ → (ℕ → ℕ) → Places
places slots n w = places_from n w 0 slots

-- the running boxes alone
abbrev pub running : List Slot → Places
running slots = places slots 0 (λ s. 0)
