-- Masks of places.
use Rattle.std.specs.Prelude.{◌≡◌, ℕ, ◌^◌, ◌<◌, true}
use Rattle.draws.specs.Draws.{bit}

-- the mask names just the places below n of which P holds
pub record Names (P : ℕ → Type 0) (n mask : ℕ) : Type 0 where
  pub below : mask < 2 ^ n
  pub sound : (j : ℕ) → bit mask j ≡ true → (j < n) × P j
  pub complete : (j : ℕ) → j < n → P j → bit mask j ≡ true
