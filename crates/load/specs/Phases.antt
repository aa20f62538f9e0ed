-- Three phases.
use Rattle.std.specs.Prelude.{if◌then◌else◌, ℕ, ◌+◌, max}
use Rattle.load.specs.declared.phases.Phases.{Phases}
use Rattle.load.specs.Kinds.{Kind, if_fits}
use Rattle.load.specs.Ratings.{in_range}

abbrev phases : ℕ → ℕ → ℕ → Phases
phases a b c = record { a = a; b = b; c = c }

abbrev pub largest : Phases → ℕ
largest x = max (max x.a x.b) x.c

abbrev pub phases_kind : Kind Phases
phases_kind = record {
  lawful = in_range;
  load = λ r. if in_range r then phases r.a r.b r.c else phases 0 0 0;
  none = phases 0 0 0;
  plus = λ x y. if_fits (largest x + largest y) (phases (x.a + y.a) (x.b + y.b) (x.c + y.c)) (phases 0 0 0);
  measure = largest;
  size = largest;
}
