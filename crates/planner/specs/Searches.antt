-- Where a search for the best choice stands: for the contracts of private functions only.
use Rattle.std.specs.Prelude.{◌≡◌, ℕ, suc, ◌<◌, ◌≤◌, ◌⊎◌, List, length, is_some, Some, None, Option, slice_index, slice_index_or, slice_set}
use Rattle.load.specs.Kinds.{Kind}
use Rattle.draws.specs.Draws.{Passes, Peak, Places, Reaches, periods_of}
use Rattle.draws.specs.Factors.{Factor}
use Rattle.table.specs.declared.slot.Booking.{Booking}
use Rattle.table.specs.declared.slot.Slot.{Slot}
use Rattle.table.specs.declared.slot.Slot.TheVariants.{Empty}
use Rattle.table.specs.Slots.{started}
use Rattle.table.specs.Tables.{places}
use Rattle.planner.specs.declared.berth.Berth.{Berth}
use Rattle.planner.specs.declared.branches.Space.{Space}
use Rattle.planner.specs.declared.prefix.Prefix.{Prefix}
use Rattle.planner.specs.declared.timetable.Timetable.{Timetable}
use Rattle.planner.specs.Berths.{Berths}
use Rattle.planner.specs.Choices.{BookedAt, Choice, Earlier, chosen}
use Rattle.planner.specs.Plans.{JustBooked, is_booked, waits_of}

-- beside the boxes of a list, and among the waits below k, x is the smallest of box b that makes the peak least
pub record BestWait {L : Type 0} (K : Kind L) (ps : Places) (s : ℕ) (b : Booking) (k x peak : ℕ) : Type 0 where
  pub low : x < k
  pub is_peak : Peak K (slice_set ps s (Some (started b x))) peak
  pub least : (y : ℕ) → y < k → Reaches K (slice_set ps s (Some (started b y))) peak
  pub first : (y : ℕ) → y < x → Passes K (slice_set ps s (Some (started b y))) peak

-- v has the waits of w in sockets below n, and from there on waits below the factors hs
pub record Completes (slots : List Slot) (hs : List ℕ) (n : ℕ) (w v : ℕ → ℕ) : Type 0 where
  pub agrees : (s : ℕ) (b : Booking) → s < n → BookedAt slots s b → v s ≡ w s
  pub low : (s : ℕ) (b : Booking) → n ≤ s → BookedAt slots s b → v s < slice_index hs s

-- the prefix with box b started in socket s with wait x
pub record Boxed {L : Type 0} (K : Kind L) (prefix : Prefix) (s : ℕ) (b : Booking) (x : ℕ) (next : Prefix) : Type 0 where
  pub list : next.list.places ≡ slice_set prefix.list.places s (Some (started b x))
  pub is_peak : Peak K next.list.places next.peak
  pub waits : next.waits ≡ slice_set prefix.waits s (Some x)

-- the box is not started yet, and the factor is the one beside the boxes of the prefix
pub record Joins {L : Type 0} (K : Kind L) (prefix : Prefix) (x : Berth) : Type 0 where
  pub empty : slice_index_or prefix.list.places x.socket None ≡ None
  pub is_peak : Peak K prefix.list.places prefix.peak
  pub factor : Factor (periods_of prefix.list.places) x.booking.period x.factor

-- the prefix with the box started, with the best of its waits below k
pub record Fits {L : Type 0} (K : Kind L) (prefix : Prefix) (x : Berth) (k : ℕ) (next : Prefix) : Type 0 where
  pub wait : ℕ
  pub low : wait < x.factor
  pub boxed : Boxed K prefix x.socket x.booking wait next
  pub best : BestWait K prefix.list.places x.socket x.booking k wait next.peak

-- only a peak below this is better than the best so far
abbrev pub bar : ℕ → Option Timetable → ℕ
bar limit None = suc limit
bar limit (Some t) = t.peak

module _ {L : Type 0} (K : Kind L) (slots : List Slot) where
  -- of the choices In, w is the first of those with the least peak, and that is below the bar
  pub record Improved (In : (ℕ → ℕ) → Type 0) (high : ℕ) (w : ℕ → ℕ) (peak : ℕ) : Type 0 where
    pub is_in : In w
    pub is_peak : Peak K (chosen slots w) peak
    pub below : peak < high
    pub least : (v : ℕ → ℕ) → In v → Reaches K (chosen slots v) peak
    pub first : (v : ℕ → ℕ) → In v → Earlier slots v w → Passes K (chosen slots v) peak

  -- none of the choices In peaks below the bar, and the best stays; or the best is now the first of them with the least peak
  abbrev pub Outcome : ℕ → ((ℕ → ℕ) → Type 0) → Option Timetable → Option Timetable → Type 0
  Outcome limit In old new =
      ((new ≡ old) × ((v : ℕ → ℕ) → In v → Reaches K (chosen slots v) (bar limit old)))
      ⊎ ((t : Timetable) × (new ≡ Some t) × Improved In (bar limit old) (waits_of t.waits) t.peak × JustBooked slots t.waits)

  -- the boxes are those of the table, and no choice peaks below the floor
  pub record Sound (space : Space) : Type 0 where
    pub berths : Berths slots space.berths
    pub floor : (v : ℕ → ℕ) → Choice slots v → Reaches K (chosen slots v) space.floor

  -- the boxes in sockets below n have started, each with a wait below its factor
  pub record Begun (hs : List ℕ) (n : ℕ) (prefix : Prefix) : Type 0 where
    pub within : n ≤ 24
    pub list : prefix.list.places ≡ places slots n (waits_of prefix.waits)
    pub is_peak : Peak K prefix.list.places prefix.peak
    pub long : length prefix.waits ≡ 24
    pub low : (s : ℕ) → s < n → (b : Booking) → BookedAt slots s b → waits_of prefix.waits s < slice_index hs s
    pub booked : (s : ℕ) → s < n → is_some (slice_index_or prefix.waits s None) ≡ is_booked (slice_index_or slots s Empty)
    pub ahead : (s : ℕ) → n ≤ s → slice_index_or prefix.waits s None ≡ None
