-- A list reduced place by place.
use Rattle.std.proofs.Common.{◌≡◌, ℕ, ◌+◌, ◌<◌, ◌≤◌, length, get_or, set, Option, Some, None, refl, sym, ap, ◌∙◌, subst, ⊎_elim, arith}
use Rattle.std.proofs.lemmas.List.{get_or-set_other, get_or-set_same, length-set, set-get_or}
use Rattle.std.proofs.lemmas.Bool.{cases_eq}
use Rattle.draws.specs.declared.draw.Draw.{Draw}
use Rattle.draws.specs.Draws.{Places}
use Rattle.reduce.specs.Reductions.{Reduced, ReducedAt}

-- the first n places are reduced, and the others empty still
pub record Sofar (ps : Places) (n : ℕ) (qs : Places) : Type 0 where
  pub done : Reduced ps n qs
  pub empty : (s : ℕ) → n ≤ s → get_or qs s None ≡ None

-- place s of a list under construction now holds the reduced box
abbrev pub Replaced : Places → ℕ → Places → Places → Type 0
Replaced ps s before after = (q : Option Draw) × ReducedAt ps s (get_or ps s None) q × (after ≡ set before s q)

sofar_more : (ps : Places) (n : ℕ) (qs rs : Places) → n < 24 → Sofar ps n qs → Replaced ps n qs rs → Sofar ps (n + 1) rs
sofar_more ps n qs rs low old new =
    let q = new.0 in
    let long = old.done.long in
    let here : get_or rs n None ≡ q = ap (λ l. get_or l n None) new.2 ∙ get_or-set_same qs n q None (omega (arith, long)) in
    let there : (s : ℕ) → (s ≡ n → ⊥) → get_or rs s None ≡ get_or qs s None = λ s ne. ap (λ l. get_or l s None) new.2 ∙ get_or-set_other qs n s q None ne in
    record {
      done = record {
        long = ap length new.2 ∙ length-set qs n q ∙ long;
        at = λ s below.
            ⊎_elim
            (λ e. subst (λ i. ReducedAt ps i (get_or ps i None) (get_or rs i None)) (sym e) (subst (ReducedAt ps n (get_or ps n None)) (sym here) new.1))
            (λ ne. subst (ReducedAt ps s (get_or ps s None)) (sym (there s ne)) (old.done.at s (less s below ne)))
            (cases_eq s n);
      };
      empty = λ s past. there s (λ e. omega arith) ∙ old.empty s (omega arith);
    }
  where
    less : (s : ℕ) → s < n + 1 → (s ≡ n → ⊥) → s < n
    less s below ne = omega arith

-- with the box of the place, and where it has none
pub sofar_some : (ps : Places) (n : ℕ) (qs rs : Places) (d e : Draw) → n < 24 → Sofar ps n qs → get_or ps n None ≡ Some d → ReducedAt ps n (Some d) (Some e) → rs ≡ set qs n (Some e) → Sofar ps (n + 1) rs
sofar_some ps n qs rs d e low old at short new = sofar_more ps n qs rs low old (Some e, subst (λ p. ReducedAt ps n p (Some e)) (sym at) short, new)

pub sofar_none : (ps : Places) (n : ℕ) (qs : Places) → n < 24 → Sofar ps n qs → get_or ps n None ≡ None → Sofar ps (n + 1) qs
sofar_none ps n qs low old at =
    sofar_more ps n qs qs low old
    (None, subst (λ p. ReducedAt ps n p None) (sym at) refl, sym (set-get_or qs n None) ∙ ap (set qs n) (old.empty n (omega arith)))
