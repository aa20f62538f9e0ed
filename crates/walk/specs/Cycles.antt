-- Which lists have a short cycle.
use Rattle.std.specs.Prelude.{ℕ, ◌≤◌}
use Rattle.congruence.specs.Divisors.{IsLcm}
use Rattle.draws.specs.Draws.{Places, periods_of}

-- the longest cycle that is gone through
abbrev pub longest : ℕ
longest = 65_536

-- m is the least common multiple of the periods, and not too long
abbrev pub Cycle : Places → ℕ → Type 0
Cycle ps m = IsLcm (periods_of ps) m × (m ≤ longest)

abbrev pub Short : Places → Type 0
Short ps = (m : ℕ) × Cycle ps m
