-- What draws at a tick, what it comes to, and what the peak of a list is.
use Rattle.std.specs.Prelude.{◌≡◌, ℕ, suc, ◌/◌, ◌%◌, ◌^◌, ◌<◌, ◌≤◌, Bool, true, false, cond, List, [], ◌∷◌, Some, None, Option, ◌==◌, slice_index_or}
use Rattle.load.specs.Kinds.{Kind}
use Rattle.draws.specs.declared.draw.Draw.{Draw}

-- places, each empty or a box
abbrev pub Places : Type 0
Places = List (Option Draw)

-- the box of a place draws at tick t
abbrev pub due : ℕ → Option Draw → Bool
due t None = false
due t (Some d) = t % d.clock.period == d.clock.wait

-- which places draw at tick t
abbrev pub drawing : Places → ℕ → ℕ → Bool
drawing ps t s = due t (slice_index_or ps s None)

-- the periods of the boxes
abbrev pub periods_of : Places → List ℕ
periods_of [] = []
periods_of (None ∷ ps) = periods_of ps
periods_of (Some d ∷ ps) = d.clock.period ∷ periods_of ps

-- which places a mask names: bit s stands for place s
abbrev pub bit : ℕ → ℕ → Bool
bit m s = m / 2 ^ s % 2 == 1

module _ {L : Type 0} (K : Kind L) where
  abbrev pub load_of : Option Draw → L
  load_of None = K.none
  load_of (Some d) = K.load d.rating

  -- the load of those places that `inside` has; the first of them is place s
  unfoldable pub total : (ℕ → Bool) → ℕ → Places → L
  total inside s [] = K.none
  total inside s (p ∷ ps) = K.plus (cond (inside s) (load_of p) K.none) (total inside (suc s) ps)

  -- what a set of places measures, and what a tick does
  abbrev pub measured : Places → (ℕ → Bool) → ℕ
  measured ps inside = K.measure (total inside 0 ps)

  abbrev pub at_tick : Places → ℕ → ℕ
  at_tick ps t = measured ps (drawing ps t)

  -- no tick measures more than the peak, and the group, all of whose boxes draw at some tick, measures it
  pub record Found (ps : Places) (peak group : ℕ) : Type 0 where
    pub tick : ℕ
    pub together : (s : ℕ) → bit group s ≡ true → drawing ps tick s ≡ true
    pub reaches : measured ps (bit group) ≡ peak
    pub most : (t : ℕ) → at_tick ps t ≤ peak

  -- no tick in unending time measures more, and some tick measures it
  pub record Peak (ps : Places) (peak : ℕ) : Type 0 where
    pub tick : ℕ
    pub reaches : at_tick ps tick ≡ peak
    pub most : (t : ℕ) → at_tick ps t ≤ peak

  -- some tick measures n or more
  abbrev pub Reaches : Places → ℕ → Type 0
  Reaches ps n = (t : ℕ) × (n ≤ at_tick ps t)

  -- some tick measures more than n
  abbrev pub Passes : Places → ℕ → Type 0
  Passes ps n = (t : ℕ) × (n < at_tick ps t)
