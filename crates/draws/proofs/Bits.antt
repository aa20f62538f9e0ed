-- Masks bit by bit.
use Rattle.std.proofs.Common.{◌≡◌, ℕ, zero, suc, ◌-◌, ◌/◌, ◌%◌, ◌^◌, ◌<◌, ◌≤◌, min, max, Bool, true, false, not, ◌&&◌, ◌||◌, eqb, sym, refl, ap, ◌∙◌, subst, ⊎_elim, lt_of_lt_of_le, mod-lt, mul_comm, pow-suc, div-one, arith, pow_pos, pow_mono}
use native.Mathlib.Nat.{div-div-eq-div-mul, div-eq_of_lt, zero-div}
use lib.Bits.{bit_and, bit_or, and_step, or_step}
use lib.Count.{count_trailing_zeros, under}
use lib.Dec.{eqb-suc-suc, eqb-suc-zero}
use Rattle.std.proofs.lemmas.Bool.{cases_lt, eq-eqb, false≢true, ne_eqb}
use Rattle.draws.specs.Draws.{bit}

pub bit_zero : (m : ℕ) → bit m 0 ≡ eqb (m % 2) 1
bit_zero m = ap (λ n. eqb (n % 2) 1) (div-one m)

pub bit_suc : (m i : ℕ) → bit m (suc i) ≡ bit (m / 2) i
bit_suc m i = ap (λ n. eqb (n % 2) 1) (ap (λ k. m / k) (pow-suc 2 i ∙ mul_comm (2 ^ i) 2) ∙ sym (div-div-eq-div-mul m 2 (2 ^ i)))

pub bit_none : (i : ℕ) → bit 0 i ≡ false
bit_none i = ap (λ n. eqb (n % 2) 1) (zero-div (2 ^ i))

-- two tests that are true of the same
pub same_test : (a b : Bool) → (a ≡ true → b ≡ true) → (b ≡ true → a ≡ true) → a ≡ b
same_test true b f g = sym (f refl)
same_test false true f g = g refl
same_test false false f g = refl

digit : (n : ℕ) → n % 2 < 2
digit n = mod-lt n (omega arith)

eqb_min : (x y : ℕ) → x < 2 → y < 2 → eqb (min x y) 1 ≡ (eqb x 1 && eqb y 1)
eqb_min zero zero a b = refl
eqb_min zero (suc zero) a b = refl
eqb_min zero (suc (suc y)) a b = absurd (omega arith)
eqb_min (suc zero) zero a b = refl
eqb_min (suc zero) (suc zero) a b = refl
eqb_min (suc zero) (suc (suc y)) a b = absurd (omega arith)
eqb_min (suc (suc x)) y a b = absurd (omega arith)

eqb_max : (x y : ℕ) → x < 2 → y < 2 → eqb (max x y) 1 ≡ (eqb x 1 || eqb y 1)
eqb_max zero zero a b = refl
eqb_max zero (suc zero) a b = refl
eqb_max zero (suc (suc y)) a b = absurd (omega arith)
eqb_max (suc zero) zero a b = refl
eqb_max (suc zero) (suc zero) a b = refl
eqb_max (suc zero) (suc (suc y)) a b = absurd (omega arith)
eqb_max (suc (suc x)) y a b = absurd (omega arith)

pub bit_of_and : (a b i : ℕ) → bit (bit_and a b) i ≡ (bit a i && bit b i)
bit_of_and a b zero =
    let low : bit_and a b % 2 ≡ min (a % 2) (b % 2) = omega (arith, and_step a b, digit a, digit b) in
    bit_zero (bit_and a b) ∙ ap (λ n. eqb n 1) low ∙ eqb_min (a % 2) (b % 2) (digit a) (digit b) ∙ ap (λ x. x && eqb (b % 2) 1) (sym (bit_zero a)) ∙ ap (λ y. bit a 0 && y) (sym (bit_zero b))
bit_of_and a b (suc i) =
    let half : bit_and a b / 2 ≡ bit_and (a / 2) (b / 2) = omega (arith, and_step a b, digit a, digit b) in
    bit_suc (bit_and a b) i ∙ ap (λ n. bit n i) half ∙ bit_of_and (a / 2) (b / 2) i ∙ ap (λ x. x && bit (b / 2) i) (sym (bit_suc a i)) ∙ ap (λ y. bit a (suc i) && y) (sym (bit_suc b i))

pub bit_of_or : (a b i : ℕ) → bit (bit_or a b) i ≡ (bit a i || bit b i)
bit_of_or a b zero =
    let low : bit_or a b % 2 ≡ max (a % 2) (b % 2) = omega (arith, or_step a b, digit a, digit b) in
    bit_zero (bit_or a b) ∙ ap (λ n. eqb n 1) low ∙ eqb_max (a % 2) (b % 2) (digit a) (digit b) ∙ ap (λ x. x || eqb (b % 2) 1) (sym (bit_zero a)) ∙ ap (λ y. bit a 0 || y) (sym (bit_zero b))
bit_of_or a b (suc i) =
    let half : bit_or a b / 2 ≡ bit_or (a / 2) (b / 2) = omega (arith, or_step a b, digit a, digit b) in
    bit_suc (bit_or a b) i ∙ ap (λ n. bit n i) half ∙ bit_of_or (a / 2) (b / 2) i ∙ ap (λ x. x || bit (b / 2) i) (sym (bit_suc a i)) ∙ ap (λ y. bit a (suc i) || y) (sym (bit_suc b i))

-- a power of two has one bit
pub bit_power : (s i : ℕ) → bit (2 ^ s) i ≡ eqb i s
bit_power zero zero = refl
bit_power zero (suc i) = bit_suc 1 i ∙ bit_none i ∙ sym (ne_eqb (suc i) 0 (λ e. omega arith))
bit_power (suc s) zero =
    let even : 2 ^ suc s % 2 ≡ 0 = omega (arith, pow-suc 2 s) in
    bit_zero (2 ^ suc s) ∙ ap (λ n. eqb n 1) even ∙ sym (ne_eqb 0 (suc s) (λ e. omega arith))
bit_power (suc s) (suc i) =
    let half : 2 ^ suc s / 2 ≡ 2 ^ s = omega (arith, pow-suc 2 s) in
    bit_suc (2 ^ suc s) i ∙ ap (λ n. bit n i) half ∙ bit_power s i ∙ sym (eqb-suc-suc i s)

-- a number below 2 ^ k has no bit from k on
pub bit_beyond : (k m i : ℕ) → m < 2 ^ k → k ≤ i → bit m i ≡ false
bit_beyond k m i low past = ap (λ n. eqb (n % 2) 1) (div-eq_of_lt (lt_of_lt_of_le low (pow_mono past)))

pub bit_below : (k m i : ℕ) → m < 2 ^ k → bit m i ≡ true → i < k
bit_below k m i low is_set = ⊎_elim (λ in_range. in_range) (λ past. absurd (false≢true (sym (bit_beyond k m i low past) ∙ is_set))) (cases_lt i k)

-- s is the lowest set bit of m, of k bits, and m - 1 is m without it and with all bits below it
pub record Lowest (k m s : ℕ) : Type 0 where
  pub within : s < k
  pub is_set : bit m s ≡ true
  pub cleared : (i : ℕ) → (bit m i && bit (m - 1) i) ≡ (bit m i && not (eqb i s))

and_self : (b : Bool) → (b && b) ≡ (b && true)
and_self true = refl
and_self false = refl

odd_lowest : (k m : ℕ) → m % 2 ≡ 1 → Lowest (suc k) m 0
odd_lowest k m odd = record { within = omega arith; is_set = bit_zero m ∙ eq-eqb _ _ odd; cleared = cleared }
  where
    cleared : (i : ℕ) → (bit m i && bit (m - 1) i) ≡ (bit m i && not (eqb i 0))
    cleared zero = ap (λ b. bit m 0 && b) (bit_zero (m - 1) ∙ ne_eqb _ _ (λ e. omega arith))
    cleared (suc i) =
        let half : (m - 1) / 2 ≡ m / 2 = omega arith in
        ap (λ b. bit m (suc i) && b) (bit_suc (m - 1) i ∙ ap (λ n. bit n i) half ∙ sym (bit_suc m i)) ∙ and_self (bit m (suc i)) ∙ ap (λ b. bit m (suc i) && not b) (sym (eqb-suc-zero i))

even_lowest : (k m s : ℕ) → m % 2 ≡ 0 → 0 < m → Lowest k (m / 2) s → Lowest (suc k) m (suc s)
even_lowest k m s even some low = record { within = omega (arith, low.within); is_set = bit_suc m s ∙ low.is_set; cleared = cleared }
  where
    cleared : (i : ℕ) → (bit m i && bit (m - 1) i) ≡ (bit m i && not (eqb i (suc s)))
    cleared zero =
        let none : bit m 0 ≡ false = bit_zero m ∙ ne_eqb _ _ (λ e. omega arith) in
        ap (λ b. b && bit (m - 1) 0) none ∙ sym (ap (λ b. b && not (eqb 0 (suc s))) none)
    cleared (suc i) =
        let half : (m - 1) / 2 ≡ m / 2 - 1 = omega arith in
        ap (λ b. b && bit (m - 1) (suc i)) (bit_suc m i) ∙ ap (λ b. bit (m / 2) i && b) (bit_suc (m - 1) i ∙ ap (λ n. bit n i) half)
        ∙ low.cleared i ∙ ap (λ b. b && not (eqb i s)) (sym (bit_suc m i)) ∙ ap (λ b. bit m (suc i) && not b) (sym (eqb-suc-suc i s))

-- what `trailing_zeros` finds
pub lowest : (k m : ℕ) → 0 < m → m < 2 ^ k → Lowest k m (count_trailing_zeros k m)
unfolding count_trailing_zeros
lowest zero m some low = absurd (omega arith)
lowest (suc k) m some low = go (m % 2) refl (λ more. lowest k (m / 2) more (omega (arith, pow-suc 2 k)))
  where
    go : (d : ℕ) → m % 2 ≡ d → (0 < m / 2 → Lowest k (m / 2) (count_trailing_zeros k (m / 2))) → Lowest (suc k) m (under (m % 2) (count_trailing_zeros k (m / 2)))
    go zero e rest = subst (λ d. Lowest (suc k) m (under d (count_trailing_zeros k (m / 2)))) (sym e) (even_lowest k m (count_trailing_zeros k (m / 2)) e some (rest (omega arith)))
    go (suc d) e rest = subst (λ d. Lowest (suc k) m (under d (count_trailing_zeros k (m / 2)))) (sym e) (odd_lowest k m (omega (arith, digit m)))

-- the same counted in a wider number
pub lowest_of : (j k m : ℕ) → j ≤ k → 0 < m → m < 2 ^ j → Lowest j m (count_trailing_zeros k m)
lowest_of j k m wide some low =
    let found = lowest k m some (lt_of_lt_of_le low (pow_mono wide)) in
    record {
      within = bit_below j m (count_trailing_zeros k m) low found.is_set;
      is_set = found.is_set;
      cleared = found.cleared;
    }

-- all bits below k
pub bit_ones : (k i : ℕ) → i < k → bit (2 ^ k - 1) i ≡ true
bit_ones zero i h = absurd (omega arith)
bit_ones (suc k) zero h = bit_zero (2 ^ suc k - 1) ∙ eq-eqb _ _ (omega (arith, pow-suc 2 k, pow_pos k))
bit_ones (suc k) (suc i) h =
    let half : (2 ^ suc k - 1) / 2 ≡ 2 ^ k - 1 = omega (arith, pow-suc 2 k, pow_pos k) in
    bit_suc (2 ^ suc k - 1) i ∙ ap (λ n. bit n i) half ∙ bit_ones k i (omega arith)

-- a mask cut to its lowest 24 bits
pub bit_cut : (m i : ℕ) → i < 24 → bit (bit_and m 16777215) i ≡ bit m i
bit_cut m i h = bit_of_and m 16777215 i ∙ ap (λ b. bit m i && b) (bit_ones 24 i h) ∙ and_true (bit m i)
  where
    and_true : (b : Bool) → (b && true) ≡ b
    and_true true = refl
    and_true false = refl
