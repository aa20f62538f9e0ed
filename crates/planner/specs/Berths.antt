-- The booked boxes of a table with their factors: for the contracts of private functions only.
use Rattle.std.specs.Prelude.{◌≡◌, ℕ, List, length, map, Some, None, Option, MatchOption, slice_index_or}
use Rattle.draws.specs.Factors.{Factor}
use Rattle.table.specs.declared.slot.Booking.{Booking}
use Rattle.table.specs.declared.slot.Slot.{Slot}
use Rattle.planner.specs.declared.berth.Berth.{Berth}
use Rattle.planner.specs.Choices.{BookedAt}
use Rattle.planner.specs.Settings.{beside}

-- the factors of the sockets: 1 where no box is booked
abbrev pub factor_of : Option Berth → ℕ
factor_of None = 1
factor_of (Some x) = x.factor

abbrev pub factors_of : List (Option Berth) → List ℕ
factors_of xs = map factor_of xs

-- x is the box booked at socket s
pub record IsBerth (slots : List Slot) (s : ℕ) (x : Berth) : Type 0 where
  pub socket : x.socket ≡ s
  pub booked : BookedAt slots s x.booking
  pub factor : Factor (beside slots s) x.booking.period x.factor

-- what stands at socket s: the box booked there, or nothing where none is
abbrev pub BerthAt : List Slot → ℕ → Option Berth → Type 0
BerthAt slots s place = MatchOption place ((b : Booking) → ¬ BookedAt slots s b) (IsBerth slots s)

-- xs has just the booked boxes, each at the place of its socket
pub record Berths (slots : List Slot) (xs : List (Option Berth)) : Type 0 where
  pub long : length xs ≡ length slots
  pub at : (s : ℕ) → BerthAt slots s (slice_index_or xs s None)
