-- Where a search begins, and what its end says.
use Rattle.std.proofs.Common.{◌≡◌, ℕ, ◌<◌, ◌≤◌, true, length, None, sym, ap, ◌∙◌, ⊎_elim, arith}
use Rattle.std.proofs.lemmas.List.{get_or_past}
use Rattle.std.proofs.lemmas.Bool.{cases_lt, false≢true, or_right}
use Rattle.load.specs.Kinds.{Kind, Laws}
use Rattle.draws.specs.Draws.{Found, Places, bit, drawing, due, measured}
use Rattle.draws.proofs.Bits.{bit_none}
use Rattle.draws.proofs.Cliques.{AllValid, drawing_pairs, together_from_pairs}
use Rattle.draws.proofs.Totals.{total_none}
use Rattle.search.specs.Visits.{Held, IsNode, Reached, Visited}

none_set : (i : ℕ) → bit 0 i ≡ true → ⊥
none_set i e = false≢true (sym (bit_none i) ∙ e)

drawn_below : (ps : Places) (t i : ℕ) → length ps ≤ 24 → drawing ps t i ≡ true → i < 24
drawn_below ps t i few h =
    ⊎_elim (λ low. low) (λ past. absurd (false≢true (sym (ap (due t) (get_or_past ps i None (omega arith))) ∙ h))) (cases_lt i 24)

module _ {L : Type 0} (K : Kind L) (laws : Laws K) (ps : Places) where
  nothing : measured K ps (bit 0) ≡ 0
  nothing = ap K.measure (total_none K laws (bit 0) ps bit_none) ∙ laws.none_measure

  pub reached_none : Reached K ps 0 0
  reached_none = record { meets = λ i j a b. absurd (none_set i a); reaches = nothing }

  pub node_none : (left : ℕ) (load : L) → load ≡ K.none → Held ps 24 left → IsNode K ps 0 load left 0
  node_none left load e held = record {
    group_within = omega arith;
    left_within = held.below;
    load_is = e ∙ sym (total_none K laws (bit 0) ps bit_none);
    meets = λ i j a b. absurd (none_set i a);
    apart = λ i h. bit_none i;
    fits = λ i j h g. absurd (none_set j g);
    single = λ i h. (held.sound i h).1;
    seen = omega (arith, nothing);
  }

  pub found : (left peak group : ℕ) → length ps ≤ 24 → AllValid ps → Held ps 24 left → Visited K ps 0 left 0 peak group → Found K ps peak group
  found left peak group few valid held v =
      let tick = together_from_pairs ps (bit group) valid v.reached.meets in
      record {
        tick = tick.0;
        together = tick.1;
        reaches = v.reached.reaches;
        most = λ t. v.most (drawing ps t) (drawing_pairs ps t) (λ i h. absurd (none_set i h)) (λ i h. or_right (bit 0 i) (bit left i) (held.complete i (drawn_below ps t i few h) (drawing_pairs ps t i i h h)));
      }
