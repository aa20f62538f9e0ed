-- Single-phase amps.
use Rattle.std.specs.Prelude.{Bool, if◌then◌else◌, ◌&&◌, ℕ, ◌+◌, ◌==◌}
use Rattle.load.specs.declared.amps.Amps.{Amps}
use Rattle.load.specs.declared.rating.Rating.{Rating}
use Rattle.load.specs.Kinds.{Kind, if_fits}
use Rattle.load.specs.Ratings.{in_range}

abbrev amps : ℕ → Amps
amps a = record { amps = a }

abbrev lawful : Rating → Bool
lawful r = in_range r && (r.b == 0 && r.c == 0)

abbrev pub amps_kind : Kind Amps
amps_kind = record {
  lawful = lawful;
  load = λ r. if lawful r then amps r.a else amps 0;
  none = amps 0;
  plus = λ x y. if_fits (x.amps + y.amps) (amps (x.amps + y.amps)) (amps 0);
  measure = λ x. x.amps;
  size = λ x. x.amps;
}
