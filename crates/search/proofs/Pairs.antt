-- Of two pairs of a peak and a group the one with the higher peak.
use Rattle.std.proofs.Common.{rules, ◌≡◌, ℕ, ◌≤◌, true, false, is_lt, nat_cmp, sym, ◌∙◌, subst, ⊎_elim, arith}
use Rattle.std.specs.Ordering.{on, ord_max}
use Rattle.std.proofs.lemmas.Bool.{cases_Bool, cond-false, cond-true}

-- pairs by their peaks alone
abbrev peak_of : ℕ × ℕ → ℕ
peak_of x = x.0

less : (a b : ℕ) → is_lt (nat_cmp a b) ≡ true → a ≤ b
less a b h = search rules

more : (a b : ℕ) → is_lt (nat_cmp a b) ≡ false → b ≤ a
more a b h = search rules

-- r is one of a and b, and has no lower peak than either
pub record Higher (a b r : ℕ × ℕ) : Type 1 where
  pub first : a.0 ≤ r.0
  pub second : b.0 ≤ r.0
  pub one : (P : ℕ × ℕ → Type 0) → P a → P b → P r

pub higher_of_max : (a b r : ℕ × ℕ) → r ≡ ord_max (on peak_of nat_cmp) b a → Higher a b r
higher_of_max a b r e =
    ⊎_elim
    (λ lt. subst (Higher a b) (sym (e ∙ cond-true _ _ _ lt)) (record { first = less a.0 b.0 lt; second = omega arith; one = λ P x y. y }))
    (λ ge. subst (Higher a b) (sym (e ∙ cond-false _ _ _ ge)) (record { first = omega arith; second = more a.0 b.0 ge; one = λ P x y. x }))
    (cases_Bool (is_lt (nat_cmp a.0 b.0)))
