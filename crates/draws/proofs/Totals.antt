-- The load of a set of places: disjoint sets add, and a larger set never measures less.
use Rattle.std.proofs.Common.{◌≡◌, ℕ, zero, suc, ◌+◌, ◌*◌, ◌<◌, ◌≤◌, Bool, true, false, cond, not, ◌&&◌, ◌||◌, eqb, [], ◌∷◌, length, get_or, Some, None, Option, sym, refl, ap, ◌∙◌, subst, arith}
use Rattle.std.proofs.lemmas.Bool.{eq-eqb, eqb-true, false≢true, ne_eqb, true≢false}
use Rattle.load.specs.Kinds.{Kind, Laws, most_size}
use Rattle.draws.specs.declared.draw.Draw.{Draw}
use Rattle.draws.specs.Draws.{Places, load_of, total, measured}

-- no place is in both
abbrev pub Apart : (h k : ℕ → Bool) → Type 0
Apart h k = (i : ℕ) → h i ≡ true → k i ≡ true → ⊥

abbrev pub either : (h k : ℕ → Bool) → ℕ → Bool
either h k i = h i || k i

-- every place of the first set is in the second
abbrev pub Within : (h k : ℕ → Bool) → Type 0
Within h k = (i : ℕ) → h i ≡ true → k i ≡ true

-- the place j alone
abbrev pub only : ℕ → ℕ → Bool
only j i = eqb i j

module _ {L : Type 0} (K : Kind L) (laws : Laws K) where
  load_size : (p : Option Draw) → K.size (load_of K p) ≤ 1000000
  load_size None = omega (arith, laws.none_size)
  load_size (Some d) = laws.part_size d.rating

  -- the same set as far as the places go, the same load
  pub total_below : (h k : ℕ → Bool) (s : ℕ) (ps : Places) → ((i : ℕ) → i < s + length ps → h i ≡ k i) → total K h s ps ≡ total K k s ps
  unfolding total
  total_below h k s [] e = refl
  total_below h k s (p ∷ ps) e =
      ap (λ b. K.plus (cond b (load_of K p) K.none) (total K h (suc s) ps)) (e s (omega arith))
      ∙ ap (K.plus (cond (k s) (load_of K p) K.none)) (total_below h k (suc s) ps (λ i below. e i (omega arith)))

  pub total_same : (h k : ℕ → Bool) (s : ℕ) (ps : Places) → ((i : ℕ) → h i ≡ k i) → total K h s ps ≡ total K k s ps
  total_same h k s ps e = total_below h k s ps (λ i below. e i)

  -- a set with no place from s on has no load there
  total_past : (h : ℕ → Bool) (s : ℕ) (ps : Places) → ((i : ℕ) → s ≤ i → h i ≡ false) → total K h s ps ≡ K.none
  unfolding total
  total_past h s [] none = refl
  total_past h s (p ∷ ps) none =
      ap (λ b. K.plus (cond b (load_of K p) K.none) (total K h (suc s) ps)) (none s (omega arith)) ∙ ap (K.plus K.none) (total_past h (suc s) ps (λ i past. none i (omega arith))) ∙ laws.neutral K.none (omega (arith, laws.none_size))

  pub total_none : (h : ℕ → Bool) (ps : Places) → ((i : ℕ) → h i ≡ false) → total K h 0 ps ≡ K.none
  total_none h ps none = total_past h 0 ps (λ i past. none i)

  pick : Bool → Option Draw → L
  pick b p = cond b (load_of K p) K.none

  picks_size : (a b : Bool) (p : Option Draw) → (a ≡ true → b ≡ true → ⊥) → K.size (pick a p) + K.size (pick b p) ≤ 1000000
  unfolding pick
  picks_size true true p apart = absurd (apart refl refl)
  picks_size true false p apart = omega (arith, laws.none_size, load_size p)
  picks_size false true p apart = omega (arith, laws.none_size, load_size p)
  picks_size false false p apart = omega (arith, laws.none_size)

  pub totals_size : (h k : ℕ → Bool) (s : ℕ) (ps : Places) → Apart h k → K.size (total K h s ps) + K.size (total K k s ps) ≤ length ps * 1000000
  unfolding total pick
  totals_size h k s [] apart = omega (arith, laws.none_size)
  totals_size h k s (p ∷ ps) apart =
      omega (
        arith,
        laws.plus_size (pick (h s) p) (total K h (suc s) ps),
        laws.plus_size (pick (k s) p) (total K k (suc s) ps),
        picks_size (h s) (k s) p (apart s),
        totals_size h k (suc s) ps apart,
      )

  -- a place that is in one of two sets, beside the loads of the sets
  place_split : (a b : Bool) (p : Option Draw) (x y : L) → (a ≡ true → b ≡ true → ⊥) → 1000000 + K.size x + K.size y ≤ most_size → K.plus (pick (a || b) p) (K.plus x y) ≡ K.plus (K.plus (pick a p) x) (K.plus (pick b p) y)
  unfolding pick
  place_split true true p x y apart few = absurd (apart refl refl)
  place_split true false p x y apart few =
      sym (laws.associates (load_of K p) x y (omega (arith, load_size p))) ∙ ap (K.plus (K.plus (load_of K p) x)) (sym (laws.neutral y (omega arith)))
  place_split false true p x y apart few =
      let v = load_of K p in
      let small = load_size p in
      sym (laws.associates v x y (omega (arith, small)))
      ∙ ap (λ z. K.plus z y) (laws.commutes v x (omega (arith, small)))
      ∙ laws.associates x v y (omega (arith, small))
      ∙ ap (λ z. K.plus z (K.plus v y)) (sym (laws.neutral x (omega arith)))
  place_split false false p x y apart few =
      laws.neutral (K.plus x y) (omega (arith, laws.plus_size x y))
      ∙ ap (λ z. K.plus z y) (sym (laws.neutral x (omega arith))) ∙ ap (K.plus (K.plus K.none x)) (sym (laws.neutral y (omega arith)))

  -- the load of two sets that share no place is the sum of their loads
  pub total_split : (h k : ℕ → Bool) (s : ℕ) (ps : Places) → Apart h k → length ps ≤ 64 → total K (either h k) s ps ≡ K.plus (total K h s ps) (total K k s ps)
  unfolding total pick
  total_split h k s [] apart few = sym (laws.neutral K.none (omega (arith, laws.none_size)))
  total_split h k s (p ∷ ps) apart few =
      ap (K.plus (pick (h s || k s) p)) (total_split h k (suc s) ps apart (omega arith))
      ∙ place_split (h s) (k s) p (total K h (suc s) ps) (total K k (suc s) ps) (apart s) (omega (arith, totals_size h k (suc s) ps apart))

  without : (h k : ℕ → Bool) → ℕ → Bool
  without h k i = k i && not (h i)

  rest_apart : (a b : Bool) → a ≡ true → (b && not a) ≡ true → ⊥
  rest_apart true true e f = false≢true f
  rest_apart true false e f = false≢true f
  rest_apart false b e f = false≢true e

  rest_joins : (a b : Bool) → (a ≡ true → b ≡ true) → b ≡ (a || (b && not a))
  rest_joins true true h = refl
  rest_joins true false h = h refl
  rest_joins false true h = refl
  rest_joins false false h = refl

  -- a larger set never measures less: the one place that uses the monotone law
  pub measured_grows : (h k : ℕ → Bool) (ps : Places) → Within h k → length ps ≤ 64 → measured K ps h ≤ measured K ps k
  unfolding without
  measured_grows h k ps inside few =
      let apart : Apart h (without h k) = λ i. rest_apart (h i) (k i) in
      let sum = total_same k (either h (without h k)) 0 ps (λ i. rest_joins (h i) (k i) (inside i)) ∙ total_split h (without h k) 0 ps apart few in
      subst (λ x. measured K ps h ≤ K.measure x) (sym sum) (laws.grows (total K h 0 ps) (total K (without h k) 0 ps) (omega (arith, totals_size h (without h k) 0 ps apart)))

  -- a single place
  pub total_only : (j s : ℕ) (ps : Places) → length ps ≤ 64 → total K (only (s + j)) s ps ≡ load_of K (get_or ps j None)
  unfolding total
  total_only j s [] few = refl
  total_only zero s (p ∷ ps) few =
      ap (λ b. K.plus (cond b (load_of K p) K.none) (total K (only (s + 0)) (suc s) ps)) (eq-eqb s (s + 0) (omega arith))
      ∙ ap (K.plus (load_of K p)) (total_past (only (s + 0)) (suc s) ps (λ i past. ne_eqb i (s + 0) (λ e. omega arith)))
      ∙ laws.commutes (load_of K p) K.none (omega (arith, load_size p, laws.none_size)) ∙ laws.neutral (load_of K p) (omega (arith, load_size p))
  total_only (suc j) s (p ∷ ps) few =
      ap (λ b. K.plus (cond b (load_of K p) K.none) (total K (only (s + suc j)) (suc s) ps)) (ne_eqb s (s + suc j) (λ e. omega arith))
      ∙ ap (K.plus K.none) (ap (λ k. total K (only k) (suc s) ps) (omega arith) ∙ total_only j (suc s) ps (omega arith))
      ∙ laws.neutral (load_of K (get_or ps j None)) (omega (arith, load_size (get_or ps j None)))

  -- one place more
  pub total_more : (h : ℕ → Bool) (j : ℕ) (ps : Places) → h j ≡ false → length ps ≤ 64 → total K (either h (only j)) 0 ps ≡ K.plus (total K h 0 ps) (load_of K (get_or ps j None))
  total_more h j ps out few =
      let apart : Apart h (only j) = λ i inside here. true≢false (sym inside ∙ ap h (eqb-true i j here) ∙ out) in
      total_split h (only j) 0 ps apart few ∙ ap (K.plus (total K h 0 ps)) (ap (λ k. total K (only k) 0 ps) (omega arith) ∙ total_only j 0 ps few)
