-- What plan answers.
use Rattle.std.specs.Prelude.{◌≡◌, ℕ, ◌≤◌, Bool, true, false, ◌⊎◌, List, is_some, unwrap_or, Some, None, Option, Ok, Err, Result, slice_index_or}
use Rattle.congruence.specs.declared.refusals.Refusal.{Refusal}
use Rattle.congruence.specs.declared.refusals.Refusal.TheVariants.{LimitPassed, TooManySettings}
use Rattle.load.specs.Kinds.{Kind}
use Rattle.draws.specs.Draws.{Passes}
use Rattle.table.specs.declared.slot.Slot.{Slot}
use Rattle.table.specs.declared.slot.Slot.TheVariants.{Empty, Booked, Running}
use Rattle.planner.specs.declared.timetable.Timetable.{Timetable}
use Rattle.planner.specs.Choices.{Choice, Planned, chosen}
use Rattle.planner.specs.Settings.{Counted}

-- the wait of each socket, 0 where there is none
abbrev pub waits_of : List (Option ℕ) → ℕ → ℕ
waits_of ws s = unwrap_or (slice_index_or ws s None) 0

abbrev pub is_booked : Slot → Bool
is_booked Empty = false
is_booked (Booked b) = true
is_booked (Running d) = false

-- there is a wait at just the sockets where a box is booked
abbrev pub JustBooked : List Slot → List (Option ℕ) → Type 0
JustBooked slots ws = (s : ℕ) → is_some (slice_index_or ws s None) ≡ is_booked (slice_index_or slots s Empty)

abbrev pub Told : {L : Type 0} → Kind L → List Slot → ℕ → Result Timetable Refusal → Type 0
Told K slots limit (Ok p) =
    ((n : ℕ) × Counted slots (Some n)) × Planned K slots (waits_of p.waits) p.peak × (p.peak ≤ limit) × JustBooked slots p.waits
Told K slots limit (Err e) =
    ((e ≡ TooManySettings) × Counted slots None)
    ⊎ ((e ≡ LimitPassed) × ((n : ℕ) × Counted slots (Some n)) × ((v : ℕ → ℕ) → Choice slots v → Passes K (chosen slots v) limit))
