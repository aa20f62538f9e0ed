-- One step of a search: what a branch may be cut for, and that with the next place and without it nothing is missed.
use Rattle.std.proofs.Common.{◌≡◌, ℕ, ◌-◌, ◌^◌, ◌≤◌, Bool, true, false, not, ◌&&◌, ◌||◌, eqb, ◌⊎◌, length, get_or, Some, None, Option, sym, refl, ap, ◌∙◌, subst, inl, inr, ⊎_elim, arith}
use lib.Bits.{bit_and, bit_or, and_le_l, or_lt}
use lib.Pow.{pow-lt}
use Rattle.std.proofs.lemmas.Bool.{and_from, and_parts, cases_Bool, cases_eq, eq-eqb, eqb-true, false≢true, ne_eqb, not_from_false, or_cases, or_from, or_left, or_right, true≢false}
use Rattle.load.specs.Kinds.{Kind, Laws}
use Rattle.draws.specs.declared.draw.Draw.{Draw}
use Rattle.draws.specs.Draws.{Places, bit, load_of, total}
use Rattle.draws.specs.Meetings.{EachTwo, MeetAt}
use Rattle.draws.proofs.Bits.{Lowest, bit_of_and, bit_below, bit_none, bit_of_or, bit_power}
use Rattle.draws.proofs.Sums.{bit_cleared}
use Rattle.draws.proofs.Totals.{either, only, measured_grows, total_more, total_same, total_split}
use Rattle.search.specs.Visits.{IsNode, Reached, Row, Visited}

meet_sym : (p q : Option Draw) → MeetAt p q → MeetAt q p
meet_sym None q m = absurd m
meet_sym (Some d) None m = absurd m
meet_sym (Some d) (Some e) m = (m.0, (m.1.1.0, (m.1.0, tt)))

-- what is left behind the lowest place, and a group with one place more
abbrev pub behind : ℕ → ℕ
behind left = bit_and left (left - 1)

abbrev pub with_place : ℕ → ℕ → ℕ
with_place group s = bit_or group (2 ^ s)

module _ {L : Type 0} (K : Kind L) (laws : Laws K) (ps : Places) (few : length ps ≤ 64) (group : ℕ) (load : L) (left peak best : ℕ) (node : IsNode K ps group load left peak) (reached : Reached K ps peak best) where
  -- nothing is left
  pub visited_none : left ≡ 0 → Visited K ps group left peak peak best
  visited_none e = record {
    reached = reached;
    grows = omega arith;
    most = λ h pairs inside within.
        let same = measured_grows K laws h (bit group) ps
        (λ i here. ⊎_elim (λ g. g) (λ l. absurd (false≢true (sym (bit_none i) ∙ ap (λ n. bit n i) (sym e) ∙ l))) (or_cases (bit group i) (bit left i) (within i here))) few in
        omega (arith, same, node.seen);
  }

  -- all that is left together measures no more than the best
  pub visited_cut : K.measure (K.plus load (total K (bit left) 0 ps)) ≤ peak → Visited K ps group left peak peak best
  visited_cut low = record {
    reached = reached;
    grows = omega arith;
    most = λ h pairs inside within.
        let sum = total_split K laws (bit group) (bit left) 0 ps (λ i g l. true≢false (sym g ∙ node.apart i l)) few ∙ ap (λ x. K.plus x (total K (bit left) 0 ps)) (sym node.load_is) in
        let most = measured_grows K laws h (either (bit group) (bit left)) ps within few in
        omega (arith, most, ap K.measure sum);
  }

  module _ (s row : ℕ) (low : Lowest 24 left s) (meets-s : Row ps s 24 row) where
    bit_rest : (i : ℕ) → bit (behind left) i ≡ (bit left i && not (eqb i s))
    bit_rest i = bit_cleared left s i low

    bit_with : (i : ℕ) → bit (with_place group s) i ≡ (bit group i || eqb i s)
    bit_with i = bit_of_or group (2 ^ s) i ∙ ap (λ b. bit group i || b) (bit_power s i)

    -- of a place that is left behind s
    rest_left : (i : ℕ) → bit (behind left) i ≡ true → bit left i ≡ true
    rest_left i h = (and_parts _ _ (sym (bit_rest i) ∙ h)).0

    rest_other : (i : ℕ) → bit (behind left) i ≡ true → eqb i s ≡ false
    rest_other i h = go (eqb i s) (and_parts _ _ (sym (bit_rest i) ∙ h)).1
      where
        go : (b : Bool) → not b ≡ true → b ≡ false
        go true e = absurd (false≢true e)
        go false e = refl

    -- of a place of the larger group
    with_cases : (i : ℕ) → bit (with_place group s) i ≡ true → (bit group i ≡ true) ⊎ (i ≡ s)
    with_cases i h = ⊎_elim inl (λ here. inr (eqb-true i s here)) (or_cases (bit group i) (eqb i s) (sym (bit_with i) ∙ h))

    load_with : K.plus load (load_of K (get_or ps s None)) ≡ total K (bit (with_place group s)) 0 ps
    load_with =
        ap (λ x. K.plus x (load_of K (get_or ps s None))) node.load_is
        ∙ sym (total_more K laws (bit group) s ps (node.apart s low.is_set) few)
        ∙ total_same K laws (either (bit group) (only s)) (bit (with_place group s)) 0 ps (λ i. sym (bit_with i))

    with_meets : EachTwo ps (bit (with_place group s))
    with_meets i j a b =
        ⊎_elim
        (λ gi. ⊎_elim (λ gj. node.meets i j gi gj) (λ js. subst (λ k. MeetAt (get_or ps i None) (get_or ps k None)) (sym js) (meet_sym (get_or ps s None) (get_or ps i None) (node.fits s i low.is_set gi))) (with_cases j b))
        (λ is. subst (λ k. MeetAt (get_or ps k None) (get_or ps j None)) (sym is)
        (⊎_elim (λ gj. node.fits s j low.is_set gj) (λ js. subst (λ k. MeetAt (get_or ps s None) (get_or ps k None)) (sym js) (node.single s low.is_set)) (with_cases j b)))
        (with_cases i a)

    pub reached_with : Reached K ps (K.measure (K.plus load (load_of K (get_or ps s None)))) (with_place group s)
    reached_with = record { meets = with_meets; reaches = ap K.measure (sym load_with) }

    pub node_with : (now : ℕ) → K.measure (K.plus load (load_of K (get_or ps s None))) ≤ now → IsNode K ps (with_place group s) (K.plus load (load_of K (get_or ps s None))) (bit_and (behind left) row) now
    node_with now seen = record {
      group_within = or_lt 24 group (2 ^ s) node.group_within (pow-lt low.within);
      left_within = omega (arith, node.left_within, and_le_l left (left - 1), and_le_l (bit_and left (left - 1)) row);
      load_is = load_with;
      meets = with_meets;
      apart = λ i h. let r = (both i h).0 in bit_with i ∙ or_from (bit group i) (eqb i s) (node.apart i (rest_left i r)) (rest_other i r);
      fits = λ i j h g.
          ⊎_elim
          (λ gj. node.fits i j (rest_left i (both i h).0) gj)
          (λ js. subst (λ k. MeetAt (get_or ps i None) (get_or ps k None)) (sym js) (meet_sym (get_or ps s None) (get_or ps i None) (meets-s.sound i (both i h).1).1))
          (with_cases j g);
      single = λ i h. node.single i (rest_left i (both i h).0);
      seen = omega (arith, seen, ap K.measure load_with);
    }
      where
        both : (i : ℕ) → bit (bit_and (behind left) row) i ≡ true → (bit (behind left) i ≡ true) × (bit row i ≡ true)
        both i h = and_parts _ _ (sym (bit_of_and (behind left) row i) ∙ h)

    pub node_without : (now : ℕ) → peak ≤ now → IsNode K ps group load (behind left) now
    node_without now more = record {
      group_within = node.group_within;
      left_within = omega (arith, node.left_within, and_le_l left (left - 1));
      load_is = node.load_is;
      meets = node.meets;
      apart = λ i h. node.apart i (rest_left i h);
      fits = λ i j h g. node.fits i j (rest_left i h) g;
      single = λ i h. node.single i (rest_left i h);
      seen = omega (arith, node.seen);
    }

    -- with s and without it
    pub visited_both : (here mid after middle last : ℕ) → peak ≤ here → Visited K ps (with_place group s) (bit_and (behind left) row) here mid middle → Visited K ps group (behind left) mid after last → Visited K ps group left peak after last
    visited_both here mid after middle last more taken skipped = record {
      reached = skipped.reached;
      grows = omega (arith, more, taken.grows, skipped.grows);
      most = λ h pairs inside within.
          ⊎_elim
          (λ has. let m = taken.most h pairs (λ i g. ⊎_elim (inside i) (λ is. subst (λ k. h k ≡ true) (sym is) has) (with_cases i g)) (λ i hi. in_with h pairs within has i hi) in omega (arith, m, skipped.grows))
          (λ hasnt. skipped.most h pairs inside (λ i hi. in_rest h within hasnt i hi))
          (cases_Bool (h s));
    }
      where
        in_with : (h : ℕ → Bool) → EachTwo ps h → ((i : ℕ) → h i ≡ true → (bit group i || bit left i) ≡ true) → h s ≡ true → (i : ℕ) → h i ≡ true → (bit (with_place group s) i || bit (bit_and (behind left) row) i) ≡ true
        in_with h pairs within has i hi =
            ⊎_elim
            (λ g. or_left _ _ (bit_with i ∙ or_left (bit group i) (eqb i s) g))
            (λ l.
            ⊎_elim
            (λ here. or_left _ _ (bit_with i ∙ or_right (bit group i) (eqb i s) (eq-eqb i s here)))
            (λ other. or_right _ _ (bit_of_and (behind left) row i ∙ and_from _ _ (bit_rest i ∙ and_from _ _ l (not_from_false _ (ne_eqb i s other))) (meets-s.complete i (bit_below 24 left i node.left_within l) (pairs s i has hi))))
            (cases_eq i s))
            (or_cases (bit group i) (bit left i) (within i hi))

        in_rest : (h : ℕ → Bool) → ((i : ℕ) → h i ≡ true → (bit group i || bit left i) ≡ true) → h s ≡ false → (i : ℕ) → h i ≡ true → (bit group i || bit (behind left) i) ≡ true
        in_rest h within hasnt i hi =
            ⊎_elim
            (λ g. or_left (bit group i) (bit (behind left) i) g)
            (λ l. or_right (bit group i) (bit (behind left) i) (bit_rest i ∙ and_from _ _ l (not_from_false _ (ne_eqb i s (λ here. true≢false (sym hi ∙ ap h here ∙ hasnt))))))
            (or_cases (bit group i) (bit left i) (within i hi))
