-- What a text says of boxes.
use Rattle.std.specs.Prelude.{◌≡◌, ℕ, ◌≤◌, min, List, [], map, length, Ok, Err, string_bytes, Option, Result, String, slice_index}
use Rattle.std.specs.declared.alloc.Global.{Global}
use Rattle.std.specs.List.{HoldsAt, AllByRecursion}
use Rattle.congruence.specs.declared.clocks.Clock.{Clock}
use Rattle.congruence.specs.declared.common.NoCommonTick.{NoCommonTick}
use Rattle.congruence.specs.declared.refusals.Refusal.{Refusal}
use Rattle.congruence.specs.Clocks.{Valid}
use Rattle.congruence.specs.FirstTicks.{Answer, IsFirstRefused}
use Rattle.rows.specs.declared.RowsFault.{RowsFault}
use Rattle.rows.specs.declared.RowsFault.TheVariants.{BadLine as BadRow, TooManyRows, Memory as NoMemory}
use Rattle.rows.specs.Rows.{Lines, Reads, Rows, Said}
use Rattle.first_meeting.specs.declared.meeting.Fault.{Fault}
use Rattle.first_meeting.specs.declared.meeting.Fault.TheVariants.{BadLine, TooManyBoxes, BadBox, Memory}
use Rattle.first_meeting.specs.Records.{Record}

-- a row as a clock: numbers that are too large for one stay too large
abbrev pub clock_said : Said → Clock
clock_said r = record { period = min (slice_index r.numbers 0) 65535; wait = min (slice_index r.numbers 1) 65535 }

abbrev pub FromRows : RowsFault → Fault → Type 0
FromRows (BadRow n) e = e ≡ BadLine n
FromRows (TooManyRows n) e = e ≡ TooManyBoxes n
FromRows NoMemory e = e ≡ Memory

abbrev pub box_fault : Said → Refusal → Fault
box_fault r e = BadBox r.line (slice_index r.numbers 0) (slice_index r.numbers 1) e

-- the text has just the rows rs, of two numbers each
abbrev pub HasRows : List ℕ → List Said → Type 0
HasRows text rs = (ls : List (List ℕ)) × Lines text ls [] × Rows 2 1 ls rs × (length rs ≤ 24)

abbrev pub clocks_said : List Said → List Clock
clocks_said = map clock_said

-- what is told of a text
abbrev pub Meeting : List ℕ → Result (String Global) Fault → Type 0
Meeting text (Ok s) =
    (rs : List Said) × (first : Result (Option ℕ) NoCommonTick) × HasRows text rs × AllByRecursion Valid (clocks_said rs) × Answer (clocks_said rs) first × Record (clocks_said rs) first (string_bytes s)
Meeting text (Err (BadLine n)) = Reads 2 24 text (Err (BadRow n))
Meeting text (Err (TooManyBoxes n)) = Reads 2 24 text (Err (TooManyRows n))
Meeting text (Err (BadBox line period wait refusal)) =
    (rs : List Said) × (place : ℕ) × HasRows text rs × IsFirstRefused (clocks_said rs) (record { place = place; refusal = refusal })
    × HoldsAt (λ r. BadBox line period wait refusal ≡ box_fault r refusal) rs place
Meeting text (Err Memory) = Unit {0}
