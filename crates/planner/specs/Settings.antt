-- How many distinct settings the booked boxes of a table have.
use Rattle.std.specs.Prelude.{◌≡◌, ℕ, ◌*◌, ◌<◌, ◌≤◌, List, [], ◌∷◌, length, Some, None, Option, slice_index, slice_index_or}
use Rattle.draws.specs.Draws.{periods_of}
use Rattle.draws.specs.Factors.{Factor}
use Rattle.table.specs.declared.slot.Slot.{Slot}
use Rattle.table.specs.declared.slot.Slot.TheVariants.{Empty, Booked, Running}
use Rattle.table.specs.Tables.{places}

-- the periods of all running boxes and of the booked boxes in sockets below s
abbrev pub beside : List Slot → ℕ → List ℕ
beside slots s = periods_of (places slots s (λ j. 0))

-- the factor of what a socket holds: 1 where no box is booked
abbrev pub FactorAt : List Slot → ℕ → Slot → ℕ → Type 0
FactorAt slots s Empty h = h ≡ 1
FactorAt slots s (Booked b) h = Factor (beside slots s) b.period h
FactorAt slots s (Running d) h = h ≡ 1

-- hs are the factors of all sockets
pub record Factors (slots : List Slot) (hs : List ℕ) : Type 0 where
  pub long : length hs ≡ length slots
  pub at : (s : ℕ) → s < length slots → FactorAt slots s (slice_index_or slots s Empty) (slice_index hs s)

abbrev pub product : List ℕ → ℕ
product [] = 1
product (h ∷ hs) = h * product hs

-- n is the number of distinct settings
abbrev pub Settings : List Slot → ℕ → Type 0
Settings slots n = (hs : List ℕ) × Factors slots hs × (product hs ≡ n)

-- the most settings that are planned
abbrev pub most_settings : ℕ
most_settings = 1_000_000

-- the number itself, or that there are more
abbrev pub Counted : List Slot → Option ℕ → Type 0
Counted slots (Some n) = Settings slots n × (n ≤ most_settings)
Counted slots None = (n : ℕ) × Settings slots n × (most_settings < n)
