-- The worked examples, as one list.
use Rattle.std.specs.Prelude.{◌≡◌, ℕ, ◌≤◌, List, [], ◌∷◌, Some, Ok, Err, Option, Result}
use Rattle.congruence.specs.declared.clocks.Clock.{Clock}
use Rattle.congruence.specs.declared.common.NoCommonTick.{NoCommonTick}
use Rattle.congruence.specs.declared.common.NoCommonTick.TheVariants.{Never}
use Rattle.congruence.specs.FirstTicks.{Answer}
use Rattle.load.specs.Kinds.{Kind}
use Rattle.load.specs.Amps.{amps_kind}
use Rattle.load.specs.Phases.{phases_kind}
use Rattle.load.specs.Inrush.{inrush_kind}
use Rattle.draws.specs.declared.draw.Draw.{Draw}
use Rattle.draws.specs.Draws.{Places, at_tick}

pub data LoadKind : Type 0 where
  amps : LoadKind
  phases : LoadKind
  inrush : LoadKind

pub data Example : Type 0 where
  -- boxes, and what is told of their first common tick
  first_tick : List Clock → Result (Option ℕ) NoCommonTick → Example
  -- places under a kind of load, their peak, and a tick that measures it
  peak_at : LoadKind → Places → ℕ → ℕ → Example

-- the tick measures n, and no tick measures more
abbrev pub PeakAt : {L : Type 0} → Kind L → Places → ℕ → ℕ → Type 0
PeakAt K ps n tick = (at_tick K ps tick ≡ n) × ((t : ℕ) → at_tick K ps t ≤ n)

abbrev pub Holds : Example → Type 0
Holds (first_tick cs answer) = Answer cs answer
Holds (peak_at amps ps n tick) = PeakAt amps_kind ps n tick
Holds (peak_at phases ps n tick) = PeakAt phases_kind ps n tick
Holds (peak_at inrush ps n tick) = PeakAt inrush_kind ps n tick

-- a clock of period p and wait w
abbrev pub clock : ℕ → ℕ → Clock
clock p w = record { period = p; wait = w }

-- a place with a box of period p, wait 0 and the rating (a, b, c)
abbrev pub place : ℕ → ℕ → ℕ → ℕ → Option Draw
place p a b c = Some (record { clock = clock p 0; rating = record { a = a; b = b; c = c } })

abbrev pub worked : List Example
worked =
    first_tick (clock 5 1 ∷ (clock 3 2 ∷ [])) (Ok (Some 11))
    ∷ (first_tick (clock 4 0 ∷ (clock 6 1 ∷ [])) (Err Never)
    ∷ (first_tick (clock 4 0 ∷ (clock 6 2 ∷ [])) (Ok (Some 8))
    ∷ (first_tick (clock 4 3 ∷ (clock 9 5 ∷ [])) (Ok (Some 23))
    ∷ (first_tick [] (Ok (Some 0))
    ∷ (peak_at amps (place 2 1 0 0 ∷ (place 3 2 0 0 ∷ (place 5 3 0 0 ∷ []))) 6 0
    ∷ (peak_at phases (place 1 3 0 0 ∷ (place 1 0 3 0 ∷ [])) 3 0
    ∷ (peak_at phases (place 1 3 0 0 ∷ (place 1 3 0 0 ∷ [])) 6 0
    ∷ (peak_at inrush (place 1 2 5 0 ∷ (place 1 3 4 0 ∷ [])) 10 0
    ∷ (peak_at amps [] 0 0
    ∷ [])))))))))
