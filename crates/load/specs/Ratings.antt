-- The range of a rating.
use Rattle.std.specs.Prelude.{Bool, ◌&&◌, ℕ, nat_le}
use Rattle.load.specs.declared.rating.Rating.{Rating}

-- the largest part of a rating
abbrev pub most_part : ℕ
most_part = 1_000_000

abbrev pub in_range : Rating → Bool
in_range r = nat_le r.a most_part && (nat_le r.b most_part && nat_le r.c most_part)
