-- The choices there are for the booked boxes of a table, which of two comes first, and the best of them.
use Rattle.std.specs.Prelude.{◌≡◌, ℕ, ◌+◌, ◌<◌, if◌then◌else◌, List, length, ◌==◌, slice_index_or}
use Rattle.load.specs.Kinds.{Kind}
use Rattle.draws.specs.Draws.{Passes, Peak, Places, Reaches}
use Rattle.table.specs.declared.slot.Booking.{Booking}
use Rattle.table.specs.declared.slot.Slot.{Slot}
use Rattle.table.specs.declared.slot.Slot.TheVariants.{Empty, Booked}
use Rattle.table.specs.Tables.{places}

-- socket s holds a booked box
abbrev pub BookedAt : List Slot → ℕ → Booking → Type 0
BookedAt slots s b = slice_index_or slots s Empty ≡ Booked b

-- a choice gives each booked box a wait below its period
abbrev pub Choice : List Slot → (ℕ → ℕ) → Type 0
Choice slots w = (s : ℕ) (b : Booking) → BookedAt slots s b → w s < b.period

-- all boxes, the booked ones started with the waits of a choice, and the running ones as they run
abbrev pub chosen : List Slot → (ℕ → ℕ) → Places
chosen slots w = places slots (length slots) w

-- v comes before w: at the lowest booked socket where they differ it has the smaller wait
pub record Earlier (slots : List Slot) (v w : ℕ → ℕ) : Type 0 where
  pub socket : ℕ
  pub booking : Booking
  pub booked : BookedAt slots socket booking
  pub less : v socket < w socket
  pub same : (j : ℕ) (b : Booking) → j < socket → BookedAt slots j b → v j ≡ w j

-- the running boxes, the boxes fitted in sockets below s, and the box of socket s with wait x
abbrev pub fitting : List Slot → (ℕ → ℕ) → ℕ → ℕ → Places
fitting slots w s x = places slots (s + 1) (λ j. if j == s then x else w j)

module _ {L : Type 0} (K : Kind L) (slots : List Slot) (w : ℕ → ℕ) where
  -- of all choices with the least peak, w is the first
  pub record Planned (peak : ℕ) : Type 0 where
    pub choice : Choice slots w
    pub is_peak : Peak K (chosen slots w) peak
    pub least : (v : ℕ → ℕ) → Choice slots v → Reaches K (chosen slots v) peak
    pub first : (v : ℕ → ℕ) → Choice slots v → Earlier slots v w → Passes K (chosen slots v) peak

  -- of all waits below the period of box b, that of socket s is the smallest that makes the peak least
  pub record FittedAt (s : ℕ) (b : Booking) : Type 0 where
    pub peak : ℕ
    pub is_peak : Peak K (fitting slots w s (w s)) peak
    pub least : (x : ℕ) → x < b.period → Reaches K (fitting slots w s x) peak
    pub first : (x : ℕ) → x < w s → Passes K (fitting slots w s x) peak

  -- the booked boxes are fitted one after the other, in socket order
  pub record Fitted (peak : ℕ) : Type 0 where
    pub choice : Choice slots w
    pub each : (s : ℕ) (b : Booking) → BookedAt slots s b → FittedAt s b
    pub is_peak : Peak K (chosen slots w) peak
