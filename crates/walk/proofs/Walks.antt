-- The ticks that were gone through, and all others.
use Rattle.std.proofs.Common.{rules, ◌≡◌, ℕ, zero, suc, ◌%◌, ◌<◌, ◌≤◌, ◌⊎◌, ⊎_elim, inl, inr, true, false, cond, eqb, nat_lt, List, [], ◌∷◌, length, get_or, Option, Some, None, IfSome, IsSomeAnd, sym, refl, ap, ◌∙◌, subst, mod-lt, zero-add, arith}
use Rattle.std.specs.List.{fold}
use Rattle.std.proofs.lemmas.Bool.{cases_Bool, cond-false, cond-true, false≢true}
use Rattle.std.proofs.lemmas.Option.{same_Some}
use Prim.Native.Nat.{◌∣◌}
use denote.Param.Members.{Called, Mut}
use native.Mathlib.Nat.{mod-mod_of_dvd}
use Rattle.std.specs.List.{AllByRecursion}
use Rattle.std.specs.Iterator.Runs.{CallKeepsClosure, IsMapRun, ItemsCountUp, Run}
use Rattle.load.specs.Kinds.{Kind, Laws}
use Rattle.std.proofs.lemmas.Iterator.Adapters.{option_map_id}
use Rattle.congruence.specs.Divisors.{IsLcm}
use Rattle.draws.specs.Draws.{Found, Places, at_tick, bit, drawing, measured, periods_of, total}
use Rattle.draws.specs.Masks.{Names}
use Rattle.draws.proofs.Bits.{bit_none, same_test}
use Rattle.draws.proofs.Totals.{total_below, total_none, total_same}

-- a cycle later each place does as it did
drawing_cycle : (ps : Places) (m t s : ℕ) → AllByRecursion (λ p. p ∣ m) (periods_of ps) → drawing ps (t % m) s ≡ drawing ps t s
drawing_cycle [] m t s all = refl
drawing_cycle (None ∷ ps) m t zero all = refl
drawing_cycle (None ∷ ps) m t (suc s) all = drawing_cycle ps m t s all
drawing_cycle (Some d ∷ ps) m t zero all = ap (λ n. eqb n d.clock.wait) (mod-mod_of_dvd d.clock.period t all.0)
drawing_cycle (Some d ∷ ps) m t (suc s) all = drawing_cycle ps m t s all.1

some_of : {X : Type 0} (P : X → Type 0) (o : Option X) → IsSomeAnd o P → (x : X) × (o ≡ Some x) × P x
some_of P (Some x) h = (x, refl, h)
some_of P None h = absurd h

-- of two pairs of a peak and a group the one that measures more, and the first where they measure the same
abbrev pub better : ℕ × ℕ → ℕ × ℕ → ℕ × ℕ
better best found = cond (nat_lt best.0 found.0) found best

-- r is the start or one of the pairs, and none of these measures more
pub record Best (start : ℕ × ℕ) (xs : List (ℕ × ℕ)) (r : ℕ × ℕ) : Type 0 where
  pub grows : start.0 ≤ r.0
  pub most : (k : ℕ) (d : ℕ × ℕ) → k < length xs → (get_or xs k d).0 ≤ r.0
  pub one : (r ≡ start) ⊎ ((k : ℕ) × (k < length xs) × ((d : ℕ × ℕ) → get_or xs k d ≡ r))

better_grows : (b x : ℕ × ℕ) → (b.0 ≤ (better b x).0) × (x.0 ≤ (better b x).0)
better_grows b x =
    ⊎_elim
    (λ lt. rw (cond-true (nat_lt b.0 x.0) x b lt) (omega (arith, lt_of_lt lt), omega arith))
    (λ ge. rw (cond-false (nat_lt b.0 x.0) x b ge) (omega arith, omega (arith, ge_of_lt ge)))
    (cases_Bool (nat_lt b.0 x.0))
  where
    lt_of_lt : nat_lt b.0 x.0 ≡ true → b.0 < x.0
    lt_of_lt h = search rules

    ge_of_lt : nat_lt b.0 x.0 ≡ false → x.0 ≤ b.0
    ge_of_lt h = search rules

pub best_of_fold : (xs : List (ℕ × ℕ)) (start : ℕ × ℕ) → Best start xs (fold better start xs)
best_of_fold [] start = record { grows = omega arith; most = λ k d low. absurd (omega arith); one = inl refl }
best_of_fold (x ∷ xs) start =
    let rest = best_of_fold xs (better start x) in
    let here = better_grows start x in
    record { grows = omega (arith, rest.grows, here.0); most = most rest here.1; one = ⊎_elim first (λ item. inr (suc item.0, omega (arith, item.1), item.2)) rest.one }
  where
    most : Best (better start x) xs (fold better (better start x) xs) → x.0 ≤ (better start x).0 → (k : ℕ) (d : ℕ × ℕ) → k < length (x ∷ xs) → (get_or (x ∷ xs) k d).0 ≤ (fold better (better start x) xs).0
    most rest here zero d low = omega (arith, rest.grows)
    most rest here (suc k) d low = rest.most k d (omega arith)

    first : fold better (better start x) xs ≡ better start x → (fold better (better start x) xs ≡ start) ⊎ ((k : ℕ) × (k < length (x ∷ xs)) × ((d : ℕ × ℕ) → get_or (x ∷ xs) k d ≡ fold better (better start x) xs))
    first same =
        ⊎_elim
        (λ lt. inr (0, omega arith, λ d. sym (same ∙ cond-true (nat_lt start.0 x.0) x start lt)))
        (λ ge. inl (same ∙ cond-false (nat_lt start.0 x.0) x start ge))
        (cases_Bool (nat_lt start.0 x.0))

module _ {L : Type 0} (K : Kind L) (laws : Laws K) (ps : Places) (few : length ps ≤ 24) where
  -- what a mask of all that draw at a tick measures
  pub drawn_load : (t mask : ℕ) → Names (λ s. drawing ps t s ≡ true) 24 mask → total K (bit mask) 0 ps ≡ total K (drawing ps t) 0 ps
  drawn_load t mask names =
      total_below K laws (bit mask) (drawing ps t) 0 ps (λ i below. same_test (bit mask i) (drawing ps t i) (λ h. (names.sound i h).1) (λ h. names.complete i (omega arith) h))

  -- what draws at a tick, as a mask, and what it measures
  abbrev pub Drawn : ℕ → ℕ × ℕ → Type 0
  Drawn t r = Names (λ s. drawing ps t s ≡ true) 24 r.1 × (r.0 ≡ K.measure (total K (bit r.1) 0 ps))

  -- no place, which measures nothing and draws at any tick
  nothing : (tick : ℕ) × ((s : ℕ) → bit 0 s ≡ true → drawing ps tick s ≡ true) × (measured K ps (bit 0) ≡ 0)
  nothing = (0, λ s h. absurd (false≢true (sym (bit_none s) ∙ h)), ap K.measure (total_none K laws (bit 0) ps bit_none) ∙ laws.none_measure)

  -- the greatest of what all ticks of a cycle measure
  module _ {S T F : Type 0} {steps : S → Option (ℕ × ℕ) → S → Type 0} {source : T → Option ℕ → T → Type 0} (p : Run steps) (q : Run source)
      (g : Mut F (ℕ × Unit {0}) (ℕ × ℕ)) (f : F) (cycle : ℕ) (whole : p.whole ≡ true) (mapped : IsMapRun p q g f) (up : ItemsCountUp q 0 cycle)
      (keeps : CallKeepsClosure g f) (drawn : (t : ℕ) (r : ℕ × ℕ) → Called g f (t, tt) r f → Drawn t r) where
    long : q.len ≡ cycle
    long = let e = up.1 (mapped.0 ∙ whole) in omega (arith, e)

    drawn_at : (t : ℕ) → t < cycle → (r : ℕ × ℕ) × (p.at t ≡ Some r) × Drawn t r
    drawn_at t low =
        let at : q.at t ≡ Some t = sym (option_map_id _) ∙ rw (zero-add t) at (up.3 t (omega (arith, long))) in
        let r = some_of (λ r. Called g f (t, tt) r f) (p.at t) (subst (λ o. IfSome o (λ x. IsSomeAnd (p.at t) (λ y. Called g f (x, tt) y f))) at ((mapped.2 keeps).0 t)) in
        (r.0, r.1, drawn t r.0 r.2)

    item_at : (k : ℕ) → k < p.len → p.at k ≡ Some (get_or p.items k (0, 0))
    item_at k low = sym (option_map_id _) ∙ p.reads k (0, 0) low

    tick_of : (k : ℕ) (m : ℕ × ℕ) → p.at k ≡ Some m → (t : ℕ) × Drawn t m
    tick_of k m e =
        let t = some_of (λ t. Called g f (t, tt) m f) (q.at k) (subst (λ o. IfSome o (λ y. IsSomeAnd (q.at k) (λ x. Called g f (x, tt) y f))) e ((mapped.2 keeps).1 k)) in
        (t.0, drawn t.0 m t.2)

    -- what the fold over all ticks comes to
    pub found_best : 0 < cycle → IsLcm (periods_of ps) cycle → (best : ℕ × ℕ) → Best (0, 0) p.items best → Found K ps best.0 best.1
    found_best some l best is =
        let one : (tick : ℕ) × ((s : ℕ) → bit best.1 s ≡ true → drawing ps tick s ≡ true) × (measured K ps (bit best.1) ≡ best.0) =
        ⊎_elim
        (λ start. subst (λ r. (tick : ℕ) × ((s : ℕ) → bit r.1 s ≡ true → drawing ps tick s ≡ true) × (measured K ps (bit r.1) ≡ r.0)) (sym start) nothing)
        (λ item.
        let tick = tick_of item.0 best (item_at item.0 (omega (arith, p.long, item.1)) ∙ ap Some (item.2 (0, 0))) in
        (tick.0, λ s h. (tick.1.0.sound s h).1, sym tick.1.1))
        is.one in
        record {
          tick = one.0;
          together = one.1;
          reaches = one.2;
          most = λ t.
              let low : t % cycle < cycle = mod-lt t some in
              let r = drawn_at (t % cycle) low in
              let within : t % cycle < p.len = omega (arith, mapped.1, long) in
              let here : r.0 ≡ get_or p.items (t % cycle) (0, 0) = same_Some _ _ (sym r.1 ∙ item_at (t % cycle) within) in
              let less : r.0.0 ≤ best.0 = subst (λ x. x.0 ≤ best.0) (sym here) (is.most (t % cycle) (0, 0) (omega (arith, p.long))) in
              let same : r.0.0 ≡ at_tick K ps (t % cycle) = r.2.1 ∙ ap K.measure (drawn_load (t % cycle) r.0.1 r.2.0) in
              let later : total K (drawing ps (t % cycle)) 0 ps ≡ total K (drawing ps t) 0 ps =
              total_same K laws (drawing ps (t % cycle)) (drawing ps t) 0 ps (λ s. drawing_cycle ps cycle t s l.multiple) in
              subst (λ x. K.measure x ≤ best.0) later (omega (arith, less, same));
        }
