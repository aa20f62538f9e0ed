-- Running current and the largest start current.
use Rattle.std.specs.Prelude.{Bool, if◌then◌else◌, ◌&&◌, ℕ, ◌+◌, max, min, ◌==◌}
use Rattle.load.specs.declared.inrush.Inrush.{Inrush}
use Rattle.load.specs.declared.rating.Rating.{Rating}
use Rattle.load.specs.Kinds.{Kind, if_fits}
use Rattle.load.specs.Ratings.{in_range}

abbrev inrush : ℕ → ℕ → Inrush
inrush a s = record { running = a; start = s }

abbrev lawful : Rating → Bool
lawful r = in_range r && r.c == 0

abbrev pub larger : Inrush → ℕ
larger x = max x.running x.start

-- the measure is held below 2^32, which is far above any size that the laws speak of
abbrev pub inrush_kind : Kind Inrush
inrush_kind = record {
  lawful = lawful;
  load = λ r. if lawful r then inrush r.a r.b else inrush 0 0;
  none = inrush 0 0;
  plus = λ x y. if_fits (larger x + larger y) (inrush (x.running + y.running) (max x.start y.start)) (inrush 0 0);
  measure = λ x. min (x.running + x.start) 4294967295;
  size = larger;
}
