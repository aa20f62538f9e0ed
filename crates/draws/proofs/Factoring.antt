-- The factor of a period beside the boxes of a list.
use Rattle.std.proofs.lemmas.Nat.Gcd.{same_from_IsGcd}
use Rattle.std.proofs.Common.{◌≡◌, ℕ, ◌+◌, ◌<◌, ◌≤◌, List, [], ◌∷◌, ◌++◌, length, get_or, set, take, Some, None, sym, ◌∙◌, subst, inl, inr, ◌⊎◌, ⊎_elim, append-nil, arith}
use Prim.Native.Nat.{◌∣◌}
use native.Mathlib.Nat.{dvd_trans, one-dvd, pos_of_dvd_of_pos, le_of_dvd}
use Rattle.std.specs.List.{AllByRecursion}
use Rattle.std.proofs.ByRecursion.{All-append, All-weaker}
use Rattle.std.proofs.lemmas.List.{get_or-set_other, get_or-set_same, length-set}
use Rattle.std.proofs.lemmas.Bool.{cases_eq}
use Rattle.congruence.specs.Divisors.{IsLcm}
use Rattle.congruence.proofs.Multiples.{all_split}
use Rattle.std.specs.Int.{IsGcd}
use Rattle.draws.specs.declared.draw.Draw.{Draw}
use Rattle.draws.specs.Draws.{Places, periods_of}
use Rattle.draws.proofs.Periods.{periods_more}
use Rattle.draws.specs.Factors.{Factor}

pub factor_none : (p : ℕ) → Factor [] p 1
factor_none p = record { multiple = tt; least = λ k all. one-dvd k }

-- one more period
pub factor_push : (qs : List ℕ) (p q g h m : ℕ) → IsGcd p q g → Factor qs p h → IsLcm (h ∷ (g ∷ [])) m → Factor (qs ++ q ∷ []) p m
factor_push qs p q g h m is old l = record {
  multiple =
      All-append (λ n. (d : ℕ) → IsGcd p n d → d ∣ m) qs (q ∷ [])
      (All-weaker (λ n. (d : ℕ) → IsGcd p n d → d ∣ h) (λ n. (d : ℕ) → IsGcd p n d → d ∣ m) (λ n f d is'. dvd_trans d (f d is') l.multiple.0) qs old.multiple)
      (λ d is'. subst (λ k. k ∣ m) (same_from_IsGcd _ _ _ _ is is') l.multiple.1.0, tt);
  least = λ k all. let parts = all_split (λ n. (d : ℕ) → IsGcd p n d → d ∣ k) qs (q ∷ []) all in l.least k (old.least k parts.0, (parts.1.0 g is, tt));
}

-- the boxes of the first places but one
abbrev pub FactorOfFront : Places → ℕ → ℕ → ℕ → ℕ → Type 0
FactorOfFront ps out n p h = Factor (periods_of (take n (set ps out None))) p h

pub front_more :
    (ps : Places) (out n p h m : ℕ) (d : Draw) → n < length ps → get_or ps n None ≡ Some d → (n ≡ out → ⊥)
    → FactorOfFront ps out n p h → ((qs : List ℕ) → Factor qs p h → Factor (qs ++ d.clock.period ∷ []) p m) → FactorOfFront ps out (n + 1) p m
front_more ps out n p h m d low at apart front more =
    let same : get_or (set ps out None) n None ≡ Some d = get_or-set_other ps out n None None apart ∙ at in
    subst (λ qs. Factor qs p m) (sym (periods_more (set ps out None) n (omega (arith, length-set ps out None))))
    (subst (λ x. Factor (periods_of (take n (set ps out None)) ++ periods_of (x ∷ [])) p m) (sym same) (more _ front))

-- a place that is left out, or empty
pub front_skip : (ps : Places) (out n p h : ℕ) → n < length ps → (n ≡ out) ⊎ (get_or ps n None ≡ None) → FactorOfFront ps out n p h → FactorOfFront ps out (n + 1) p h
front_skip ps out n p h low none front =
    let empty : get_or (set ps out None) n None ≡ None =
    ⊎_elim
    (λ here. subst (λ i. get_or (set ps i None) n None ≡ None) here (get_or-set_same ps n None None low))
    (λ there. get_or-set_other ps out n None None (λ same. there.0 same) ∙ there.1)
    (apart none) in
    subst (λ qs. Factor qs p h) (sym (periods_more (set ps out None) n (omega (arith, length-set ps out None))))
    (subst (λ x. Factor (periods_of (take n (set ps out None)) ++ periods_of (x ∷ [])) p h) (sym empty) (subst (λ qs. Factor qs p h) (sym (append-nil _)) front))
  where
    apart : (n ≡ out) ⊎ (get_or ps n None ≡ None) → (n ≡ out) ⊎ ((n ≡ out → ⊥) × (get_or ps n None ≡ None))
    apart (inl e) = inl e
    apart (inr none) = ⊎_elim (λ e. inl e) (λ ne. inr (ne, none)) (cases_eq n out)

all_any : {P : ℕ → Type 0} (qs : List ℕ) → ((q : ℕ) → P q) → AllByRecursion P qs
all_any [] each = tt
all_any (q ∷ qs) each = (each q, all_any qs each)

pub factor_divides : {qs : List ℕ} {p h : ℕ} → Factor qs p h → h ∣ p
factor_divides {qs} {p} f = f.least p (all_any qs (λ q g is. is.0))

pub factor_some : {qs : List ℕ} {p h : ℕ} → 0 < p → Factor qs p h → 0 < h
factor_some some f = pos_of_dvd_of_pos (factor_divides f) some

pub factor_most : {qs : List ℕ} {p h : ℕ} → 0 < p → Factor qs p h → h ≤ p
factor_most some f = le_of_dvd some (factor_divides f)
