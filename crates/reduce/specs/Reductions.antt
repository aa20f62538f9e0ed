-- What a list is reduced to.
use Rattle.std.specs.Prelude.{◌≡◌, ℕ, ◌%◌, ◌<◌, List, length, Some, None, Option, slice_index_or, slice_set}
use Rattle.draws.specs.declared.draw.Draw.{Draw}
use Rattle.draws.specs.Draws.{Places, periods_of}
use Rattle.draws.specs.Factors.{Factor}

-- a box with its period replaced by h, and its wait by the remainder
abbrev pub shortened : Draw → ℕ → Draw
shortened d h = record { clock = record { period = h; wait = d.clock.wait % h }; rating = d.rating }

-- the periods of all places but s
abbrev pub others : Places → ℕ → List ℕ
others ps s = periods_of (slice_set ps s None)

-- place s reduced: an empty place stays empty
abbrev pub ReducedAt : Places → ℕ → Option Draw → Option Draw → Type 0
ReducedAt ps s None q = q ≡ None
ReducedAt ps s (Some d) q = (h : ℕ) × Factor (others ps s) d.clock.period h × (q ≡ Some (shortened d h))

-- the first n places of qs are those of ps reduced
pub record Reduced (ps : Places) (n : ℕ) (qs : Places) : Type 0 where
  pub long : length qs ≡ 24
  pub at : (s : ℕ) → s < n → ReducedAt ps s (slice_index_or ps s None) (slice_index_or qs s None)
