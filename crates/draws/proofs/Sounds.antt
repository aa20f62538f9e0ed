-- What the ranges of a list give.
use Rattle.std.proofs.lemmas.Option.{none-some}
use Rattle.std.proofs.Common.{◌≡◌, ℕ, ◌<◌, true, ◌&&◌, ltb, leb, get_or, Some, None, Ok, sym, ap, ◌∙◌, ⊎_elim, arith}
use Rattle.std.proofs.lemmas.List.{get_or_past}
use Rattle.std.proofs.lemmas.Bool.{and_from, and_parts, cases_lt, cond-true, le-leb, leb-true, lt-ltb, ltb-true}
use Rattle.congruence.proofs.Verdicts.{all_pass}
use Rattle.congruence.specs.Clocks.{Valid}
use Rattle.draws.specs.declared.draw.Draw.{Draw}
use Rattle.draws.specs.declared.list.DrawList.{DrawList}
use Rattle.load.specs.Ratings.{in_range}
use Rattle.draws.specs.Checks.{draw_checks, draw_verdict, sound}
use Rattle.draws.specs.Lists.{place_verdict}
use Rattle.draws.proofs.Cliques.{AllValid}

checks : (d : Draw) → sound (Some d) ≡ true → ((ltb 0 d.clock.period && leb d.clock.period 1000) ≡ true) × (ltb d.clock.wait d.clock.period ≡ true) × (in_range d.rating ≡ true)
checks d e = let all = all_pass (draw_checks d) e in (all.0, all.1.0, all.1.1.0)

pub sound_valid : (d : Draw) → sound (Some d) ≡ true → Valid d.clock
sound_valid d e =
    let all = checks d e in
    let range = and_parts (ltb 0 d.clock.period) (leb d.clock.period 1000) all.0 in
    record { some = ltb-true _ _ range.0; most = leb-true _ _ range.1; below = ltb-true _ _ all.1 }

-- a valid clock and a rating in its range pass
pub verdict_ok : (d : Draw) → Valid d.clock → in_range d.rating ≡ true → draw_verdict d ≡ Ok tt
verdict_ok d valid range =
    let period = and_from _ _ (lt-ltb 0 d.clock.period valid.some) (le-leb d.clock.period 1000 valid.most) in
    cond-true _ _ _ period ∙ cond-true _ _ _ (lt-ltb d.clock.wait d.clock.period valid.below) ∙ cond-true _ _ _ range

-- and at a place of the list so does what passes
pub place_ok : (s : ℕ) (d : Draw) → s < 24 → draw_verdict d ≡ Ok tt → place_verdict s d ≡ Ok tt
place_ok s d low fits = cond-true _ _ _ (lt-ltb s 24 low) ∙ fits

held : (list : DrawList) (s : ℕ) (d : Draw) → get_or list.places s None ≡ Some d → sound (Some d) ≡ true
held list s d e =
    ⊎_elim
    (λ low. ap sound (sym e) ∙ list.ranges s low)
    (λ past. absurd (none-some _ (sym (get_or_past list.places s None (omega (arith, list.whole))) ∙ e)))
    (cases_lt s 24)

pub all_valid : (list : DrawList) → AllValid list.places
all_valid list s d e = sound_valid d (held list s d e)

pub all_in_range : (list : DrawList) (s : ℕ) (d : Draw) → get_or list.places s None ≡ Some d → in_range d.rating ≡ true
all_in_range list s d e = (checks d (held list s d e)).2
