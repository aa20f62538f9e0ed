use Rattle.std.proofs.Common.{rules, ◌≡◌, ℕ, ◌*◌, ◌/◌, ◌<◌, ◌≤◌, [], ◌∷◌, Bool, true, false, Option, Some, None, MatchOption, arith}
use native.Mathlib.Nat.{pos_of_dvd_of_pos}
use Rattle.std.specs.Bool.{then_some}
use Rattle.std.specs.Option.{SomeIff}
use Rattle.congruence.specs.Divisors.{IsLcm, LcmBeyond, LcmWithin, bound}
use Rattle.congruence.proofs.Euclid.{lcm_zero, gcd_lcm}
use Rattle.congruence.proofs.numbers.lcm.Goals as goal
use Rattle.congruence.proofs.numbers.lcm.Goals.{After-gcd}

some_divisor : (c : After-gcd) → 0 < c.gcd.result
some_divisor c = pos_of_dvd_of_pos c.gcd.ensures.0 (omega (arith, c.if-a-eq0.false))

multiple : (c : After-gcd) → IsLcm (c.args.a ∷ (c.args.b ∷ [])) (c.args.a / c.gcd.result * c.args.b)
multiple c = gcd_lcm _ _ _ c.gcd.ensures (some_divisor c)

-- a product that is told only where it is within the bound
told :
    (a b m : ℕ) (product result : Option ℕ) (Kept : ℕ → Bool → Type 0) → IsLcm (a ∷ (b ∷ [])) m
    → SomeIff product (m < 18446744073709551616) m
    → MatchOption product (result ≡ None) (λ x. (b : Bool) × Kept x b × (result ≡ then_some b x))
    → ((x : ℕ) → Kept x true → x ≤ bound) → ((x : ℕ) → Kept x false → bound < x)
    → MatchOption result (LcmBeyond (a ∷ (b ∷ []))) (LcmWithin (a ∷ (b ∷ [])))
told a b m None result Kept l large none within past = rw none (m, l, omega arith)
told a b m (Some x) result Kept l fits (true, kept, same) within past = rw same (rw fits.1 l, within x kept)
told a b m (Some x) result Kept l fits (false, kept, same) within past = rw same (x, rw fits.1 l, past x kept)

pub returns-then-a-eq0 : goal.returns-then-a-eq0
returns-then-a-eq0 c = (lcm_zero _ _ c.if-a-eq0.true, omega arith)

pub nonzero_div-a : goal.nonzero_div-a
nonzero_div-a c = some_divisor c

pub returns : goal.returns
returns c =
    told _ _ _ _ _ _ (multiple (goal.at.returns c).After-gcd) c.checked_mul.ensures c.filter.ensures
    (λ x k. search rules) (λ x k. search rules)
