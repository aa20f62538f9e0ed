-- A reduced list has the pairs that meet and the loads of the list itself, and so its peak.
use Rattle.std.proofs.lemmas.Option.{none-some}
use Rattle.std.proofs.Common.{◌≡◌, ℕ, ◌<◌, Bool, [], ◌∷◌, length, get_or, Some, None, Ok, Err, Option, Result, sym, refl, ap, ◌∙◌, subst, ⊎_elim, mod-eq_of_lt, arith}
use native.Mathlib.Nat.{dvd_antisymm}
use Rattle.std.proofs.lemmas.List.{ext_get_or, get_or_past}
use Rattle.std.proofs.lemmas.Bool.{cases_eq, cases_lt}
use Rattle.congruence.specs.Clocks.{Meet, Valid}
use Rattle.congruence.specs.declared.refusals.Refusal.{Refusal}
use Rattle.load.specs.Kinds.{Kind, Laws}
use Rattle.draws.specs.declared.draw.Draw.{Draw}
use Rattle.draws.specs.Draws.{Found, Places, bit, drawing, load_of, total}
use Rattle.draws.specs.Meetings.{EachTwo, MeetAt}
use Rattle.draws.proofs.Cliques.{AllValid, drawing_pairs, pairs_from_together, together_from_pairs}
use Rattle.draws.proofs.Peaks.{total_places}
use Rattle.draws.proofs.Totals.{measured_grows}
use Rattle.finder.specs.Finders.{Answered}
use Rattle.reduce.specs.Reductions.{Reduced, ReducedAt, shortened}
use Rattle.reduce.proofs.Meetings.{meet_lengthened, meet_shortened}

-- a place is reduced in one way only
same_at : (ps : Places) (s : ℕ) (p q r : Option Draw) → ReducedAt ps s p q → ReducedAt ps s p r → q ≡ r
same_at ps s None q r x y = x ∙ sym y
same_at ps s (Some d) q r (h, f, x) (k, f', y) =
    x ∙ ap (λ n. Some (shortened d n)) (dvd_antisymm (f.least k f'.multiple) (f'.least h f.multiple)) ∙ sym y

pub same_reduced : (ps qs rs : Places) → Reduced ps 24 qs → Reduced ps 24 rs → qs ≡ rs
same_reduced ps qs rs x y = ext_get_or None qs rs (x.long ∙ sym y.long) (λ s low. same_at ps s (get_or ps s None) (get_or qs s None) (get_or rs s None) (x.at s (omega (arith, x.long))) (y.at s (omega (arith, x.long))))

meets_itself : (d : Draw) → Valid d.clock → Meet (d.clock ∷ (d.clock ∷ []))
meets_itself d valid =
    let due = mod-eq_of_lt valid.below in
    (d.clock.wait, (due, (due, tt)))

some_meets : (p : Option Draw) → ((d : Draw) → p ≡ Some d → Valid d.clock) → (d : Draw) → p ≡ Some d → MeetAt p p
some_meets None valid d e = none-some _ e
some_meets (Some c) valid d e = meets_itself c (valid c refl)

not_empty : (q : Option Draw) → MeetAt q q → q ≡ None → ⊥
not_empty None m e = m
not_empty (Some d) m e = subst (λ p. MeetAt p p) e m

some_low : (ps : Places) (i : ℕ) → length ps ≡ 24 → MeetAt (get_or ps i None) (get_or ps i None) → i < 24
some_low ps i long m = ⊎_elim (λ low. low) (λ past. absurd (not_empty (get_or ps i None) m (get_or_past ps i None (omega (arith, long))))) (cases_lt i 24)

module _ (ps qs : Places) (long : length ps ≡ 24) (reduced : Reduced ps 24 qs) (valid : AllValid ps) (valid' : AllValid qs) where
  -- two places
  module _ (i j : ℕ) (i_low : i < 24) (j_low : j < 24) where
    shorter : (p q p' q' : Option Draw) → get_or ps i None ≡ p → get_or ps j None ≡ q → get_or qs i None ≡ p' → get_or qs j None ≡ q' → ReducedAt ps i p p' → ReducedAt ps j q q' → MeetAt p q → MeetAt p' q'
    shorter None q p' q' a b a' b' x y m = absurd m
    shorter (Some d) None p' q' a b a' b' x y m = absurd m
    shorter (Some d) (Some e) p' q' a b a' b' (h, f, x) (k, f', y) m =
        let valid-d' = valid' i (shortened d h) (a' ∙ x) in
        let valid-e' = valid' j (shortened e k) (b' ∙ y) in
        let to : MeetAt (Some (shortened d h)) (Some (shortened e k)) → MeetAt p' q' = λ z. subst (λ u. MeetAt u q') (sym x) (subst (λ u. MeetAt (Some (shortened d h)) u) (sym y) z) in
        ⊎_elim
        (λ same. subst (λ u. MeetAt p' u) (sym a' ∙ ap (λ n. get_or qs n None) same ∙ b') (some_meets p' (λ c z. valid' i c (a' ∙ z)) (shortened d h) x))
        (λ differ. to (meet_shortened ps i j d e h k differ a b f f' (valid i d a) (valid j e b) valid-d' valid-e' m))
        (cases_eq i j)

    longer : (p q p' q' : Option Draw) → get_or ps i None ≡ p → get_or ps j None ≡ q → get_or qs i None ≡ p' → get_or qs j None ≡ q' → ReducedAt ps i p p' → ReducedAt ps j q q' → MeetAt p' q' → MeetAt p q
    longer None q p' q' a b a' b' x y m = subst (λ u. MeetAt u q') x m
    longer (Some d) None p' q' a b a' b' (h, f, x) y m = subst (λ u. MeetAt u None) x (subst (λ u. MeetAt p' u) y m)
    longer (Some d) (Some e) p' q' a b a' b' (h, f, x) (k, f', y) m =
        let valid-d' = valid' i (shortened d h) (a' ∙ x) in
        let valid-e' = valid' j (shortened e k) (b' ∙ y) in
        let short : MeetAt (Some (shortened d h)) (Some (shortened e k)) = subst (λ u. MeetAt u (Some (shortened e k))) x (subst (λ u. MeetAt p' u) y m) in
        ⊎_elim
        (λ same. subst (λ u. MeetAt (Some d) u) (sym a ∙ ap (λ n. get_or ps n None) same ∙ b) (meets_itself d (valid i d a)))
        (λ differ. meet_lengthened ps i j d e h k differ a b f f' (valid i d a) (valid j e b) valid-d' valid-e' short)
        (cases_eq i j)

  pairs_shortened : (inside : ℕ → Bool) → EachTwo ps inside → EachTwo qs inside
  pairs_shortened inside pairs i j a b =
      let i_low = some_low ps i long (pairs i i a a) in
      let j_low = some_low ps j long (pairs j j b b) in
      shorter i j i_low j_low (get_or ps i None) (get_or ps j None) (get_or qs i None) (get_or qs j None) refl refl refl refl (reduced.at i i_low) (reduced.at j j_low) (pairs i j a b)

  pairs_lengthened : (inside : ℕ → Bool) → EachTwo qs inside → EachTwo ps inside
  pairs_lengthened inside pairs i j a b =
      let i_low = some_low qs i reduced.long (pairs i i a a) in
      let j_low = some_low qs j reduced.long (pairs j j b b) in
      longer i j i_low j_low (get_or ps i None) (get_or ps j None) (get_or qs i None) (get_or qs j None) refl refl refl refl (reduced.at i i_low) (reduced.at j j_low) (pairs i j a b)

  module _ {L : Type 0} (K : Kind L) (laws : Laws K) where
    load_at : (s : ℕ) (p q : Option Draw) → ReducedAt ps s p q → load_of K p ≡ load_of K q
    load_at s None q x = ap (load_of K) (sym x)
    load_at s (Some d) q (h, f, x) = ap (load_of K) (sym x)

    same_totals : (inside : ℕ → Bool) → total K inside 0 ps ≡ total K inside 0 qs
    same_totals inside = total_places K inside 0 ps qs (long ∙ sym reduced.long) (λ j low picked. load_at j (get_or ps j None) (get_or qs j None) (reduced.at j (omega (arith, low, long))))

    pub found_reduced : (peak group : ℕ) → Found K qs peak group → Found K ps peak group
    found_reduced peak group f =
        let tick = together_from_pairs ps (bit group) valid (pairs_lengthened (bit group) (pairs_from_together qs (bit group) (f.tick, f.together))) in
        record {
          tick = tick.0;
          together = tick.1;
          reaches = ap K.measure (same_totals (bit group)) ∙ f.reaches;
          most = λ t.
              let at = together_from_pairs qs (drawing ps t) valid' (pairs_shortened (drawing ps t) (drawing_pairs ps t)) in
              omega (arith, ap K.measure (same_totals (drawing ps t)), measured_grows K laws (drawing ps t) (drawing qs at.0) qs at.1 (omega (arith, reduced.long)), f.most at.0);
        }

    -- an answer about the reduced list is one about the list
    pub answered : (Reach : Places → Type 0) (r : Result (ℕ × ℕ) Refusal) → Answered K qs (Reach qs) r → Answered K ps ((rs : Places) → Reduced ps 24 rs → Reach rs) r
    answered Reach (Ok x) (within, f) = (λ rs also. subst Reach (same_reduced ps qs rs reduced also) within, found_reduced x.0 x.1 f)
    answered Reach (Err e) (beyond, is) = (λ within. beyond (within qs reduced), is)
