-- Which boxes a list can hold.
use Rattle.std.specs.Prelude.{Bool, true, List, [], ◌∷◌, ◌++◌, is_ok, Some, None, Option, Result}
use Rattle.congruence.specs.declared.refusals.Refusal.{Refusal}
use Rattle.congruence.specs.declared.refusals.Refusal.TheVariants.{RatingUnlawful}
use Rattle.congruence.specs.Refusals.{Check, clock_checks, verdict}
use Rattle.load.specs.declared.rating.Rating.{Rating}
use Rattle.load.specs.Ratings.{in_range}
use Rattle.draws.specs.declared.draw.Draw.{Draw}

abbrev pub range_check : Rating → Check
range_check r = record { passes = in_range r; refusal = RatingUnlawful }

-- period, wait and rating, in this order
abbrev pub draw_checks : Draw → List Check
draw_checks d = clock_checks d.clock ++ (range_check d.rating ∷ [])

abbrev pub draw_verdict : Draw → Result (Unit {0}) Refusal
draw_verdict d = verdict (draw_checks d)

-- a place is empty, or holds a box that passes its checks
abbrev pub sound : Option Draw → Bool
sound None = true
sound (Some d) = is_ok (draw_verdict d)
