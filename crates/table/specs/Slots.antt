-- What a socket can hold.
use Rattle.std.specs.Prelude.{◌≡◌, ℕ, ◌<◌, ◌≤◌, Bool, true, [], ◌∷◌, is_ok, Ok, Result}
use Rattle.congruence.specs.declared.refusals.Refusal.{Refusal}
use Rattle.congruence.specs.Refusals.{period_check, verdict}
use Rattle.load.specs.Ratings.{in_range}
use Rattle.draws.specs.declared.draw.Draw.{Draw}
use Rattle.draws.specs.Checks.{draw_verdict, range_check}
use Rattle.table.specs.declared.slot.Booking.{Booking}
use Rattle.table.specs.declared.slot.Slot.{Slot}
use Rattle.table.specs.declared.slot.Slot.TheVariants.{Empty, Booked, Running}

-- a booked box that runs with wait w
abbrev pub started : Booking → ℕ → Draw
started b w = record { clock = record { period = b.period; wait = w }; rating = b.rating }

-- period and rating, in this order
abbrev pub booking_verdict : Booking → Result (Unit {0}) Refusal
booking_verdict b = verdict (period_check b.period ∷ (range_check b.rating ∷ []))

abbrev pub slot_verdict : Slot → Result (Unit {0}) Refusal
slot_verdict Empty = Ok tt
slot_verdict (Booked b) = booking_verdict b
slot_verdict (Running d) = draw_verdict d

abbrev pub sound_slot : Slot → Bool
sound_slot x = is_ok (slot_verdict x)

-- a booked box within its ranges
pub record Bookable (b : Booking) : Type 0 where
  pub some : 0 < b.period
  pub most : b.period ≤ 1000
  pub range : in_range b.rating ≡ true
