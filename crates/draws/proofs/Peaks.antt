-- Lists with more boxes, and the peak of a list.
use Rattle.std.proofs.Common.{◌≡◌, ℕ, suc, ◌+◌, ◌<◌, ◌≤◌, Bool, true, false, cond, [], ◌∷◌, length, get_or, Some, None, Option, sym, refl, ap, ◌∙◌, subst, mod-eq_of_lt, arith}
use Rattle.std.proofs.lemmas.Bool.{eq-eqb, eqb-true, false≢true}
use Rattle.congruence.specs.Clocks.{Valid}
use Rattle.load.specs.Kinds.{Kind, Laws}
use Rattle.draws.specs.declared.draw.Draw.{Draw}
use Rattle.draws.specs.Draws.{Found, Peak, Places, Reaches, at_tick, bit, drawing, due, load_of, total}
use Rattle.draws.proofs.Totals.{measured_grows, only, total_only}

-- every box of the first list stands in the second
abbrev pub Among : Places → Places → Type 0
Among ps qs = (s : ℕ) (d : Draw) → get_or ps s None ≡ Some d → get_or qs s None ≡ Some d

due_among : (t : ℕ) (p q : Option Draw) → ((d : Draw) → p ≡ Some d → q ≡ Some d) → due t p ≡ true → q ≡ p
due_among t None q same h = absurd (false≢true h)
due_among t (Some d) q same h = same d refl

module _ {L : Type 0} (K : Kind L) where
  -- lists whose loads are the same where a set picks them
  pub total_places : (inside : ℕ → Bool) (s : ℕ) (xs ys : Places) → length xs ≡ length ys → ((j : ℕ) → j < length xs → inside (s + j) ≡ true → load_of K (get_or xs j None) ≡ load_of K (get_or ys j None)) → total K inside s xs ≡ total K inside s ys
  unfolding total
  total_places inside s [] [] e loads = refl
  total_places inside s [] (y ∷ ys) e loads = absurd (omega (arith, e))
  total_places inside s (x ∷ xs) [] e loads = absurd (omega (arith, e))
  total_places inside s (x ∷ xs) (y ∷ ys) e loads =
      ap (λ v. K.plus v (total K inside (suc s) xs)) (here (inside s) refl)
      ∙ ap (K.plus (cond (inside s) (load_of K y) K.none)) (total_places inside (suc s) xs ys (omega (arith, e)) (λ j low picked. loads (suc j) (omega (arith, low)) (subst (λ i. inside i ≡ true) (omega arith) picked)))
    where
      here : (b : Bool) → inside s ≡ b → cond (inside s) (load_of K x) K.none ≡ cond (inside s) (load_of K y) K.none
      here true picked = ap (λ v. cond (inside s) v K.none) (loads 0 (omega arith) (subst (λ i. inside i ≡ true) (omega arith) picked))
      here false out = ap (λ b. cond b (load_of K x) K.none) out ∙ sym (ap (λ b. cond b (load_of K y) K.none) out)

  module _ (laws : Laws K) where
    -- with more boxes no tick measures less
    pub at_tick_more : (ps qs : Places) (t : ℕ) → Among ps qs → length ps ≡ length qs → length qs ≤ 64 → at_tick K ps t ≤ at_tick K qs t
    at_tick_more ps qs t among long few =
        let same : (s : ℕ) → drawing ps t s ≡ true → get_or qs s None ≡ get_or ps s None = λ s h. due_among t (get_or ps s None) (get_or qs s None) (among s) h in
        let loads = total_places (drawing ps t) 0 ps qs long (λ j low picked. ap (load_of K) (sym (same j (subst (λ i. drawing ps t i ≡ true) (omega arith) picked)))) in
        let grows = measured_grows K laws (drawing ps t) (drawing qs t) qs (λ s h. ap (due t) (same s h) ∙ h) few in
        omega (arith, ap K.measure loads, grows)

    pub reaches_more : (ps qs : Places) (n : ℕ) → Among ps qs → length ps ≡ length qs → length qs ≤ 64 → Reaches K ps n → Reaches K qs n
    reaches_more ps qs n among long few r = (r.0, omega (arith, r.1, at_tick_more ps qs r.0 among long few))

    -- a box draws at the tick of its wait, and what draws measures no less than it does alone
    pub reaches_alone : (ps : Places) (s : ℕ) (d : Draw) → length ps ≤ 64 → get_or ps s None ≡ Some d → Valid d.clock → Reaches K ps (K.measure (K.load d.rating))
    reaches_alone ps s d few e valid =
        let t = d.clock.wait in
        let due_here : drawing ps t s ≡ true = ap (due t) e ∙ eq-eqb _ _ (mod-eq_of_lt valid.below) in
        let alone : total K (only s) 0 ps ≡ K.load d.rating = ap (λ k. total K (only k) 0 ps) (omega arith) ∙ total_only K laws s 0 ps few ∙ ap (load_of K) e in
        let grows = measured_grows K laws (only s) (drawing ps t) ps (λ i here. ap (drawing ps t) (eqb-true i s here) ∙ due_here) few in
        (t, omega (arith, ap K.measure alone, grows))

    -- what a finder answers is the peak
    pub peak_from_found : (ps : Places) (peak group : ℕ) → length ps ≤ 64 → Found K ps peak group → Peak K ps peak
    peak_from_found ps peak group few f = record {
      tick = f.tick;
      reaches = omega (arith, f.reaches, measured_grows K laws (bit group) (drawing ps f.tick) ps f.together few, f.most f.tick);
      most = f.most;
    }

  pub reaches_peak : {ps : Places} {peak : ℕ} (n : ℕ) → n ≤ peak → Peak K ps peak → Reaches K ps n
  reaches_peak n low p = (p.tick, omega (arith, p.reaches, low))

  pub reached_below : {ps : Places} {peak : ℕ} (n : ℕ) → Reaches K ps n → Peak K ps peak → n ≤ peak
  reached_below n r p = omega (arith, r.1, p.most r.0)
