-- Least common multiples of lists.
use Rattle.std.proofs.Common.{◌≡◌, ℕ, ◌+◌, ◌*◌, ◌<◌, ◌≤◌, List, [], ◌∷◌, ◌++◌, length, get_or, take, sym, subst, ⊎_elim, mul-pos, arith}
use Prim.Native.Nat.{◌∣◌}
use native.Mathlib.Nat.{dvd-mul_left, dvd-mul_right, dvd_refl, dvd_trans, dvd-zero, le_of_dvd, one-dvd, pos_of_dvd_of_pos}
use Rattle.std.specs.List.{ContainsAt, AllByRecursion}
use Rattle.std.proofs.ByRecursion.{All-append, All-from_get_or, all-has, All-take, All-weaker, has_get_or}
use Rattle.std.proofs.lemmas.List.{take_more}
use Rattle.std.proofs.lemmas.Bool.{cases_lt}
use Rattle.congruence.specs.Divisors.{IsLcm, LcmBeyond}
use Rattle.congruence.proofs.Euclid.{euclid, euclid_lcm}

pub all_split : {X : Type 0} (P : X → Type 0) (xs ys : List X) → AllByRecursion P (xs ++ ys) → AllByRecursion P xs × AllByRecursion P ys
all_split P [] ys h = (tt, h)
all_split P (x ∷ xs) ys h = let r = all_split P xs ys h.1 in ((h.0, r.0), r.1)

pub lcm_none : IsLcm [] 1
lcm_none = record { multiple = tt; least = λ k h. one-dvd k }

pub lcm_one : (n : ℕ) → IsLcm (n ∷ []) n
lcm_one n = record { multiple = (dvd_refl n, tt); least = λ k h. h.0 }

-- the lists of two multiples joined
pub lcm_append : {ms ns : List ℕ} {m n k : ℕ} → IsLcm ms m → IsLcm ns n → IsLcm (m ∷ (n ∷ [])) k → IsLcm (ms ++ ns) k
lcm_append {ms} {ns} {m} {n} {k} s t l = record {
  multiple =
      All-append (λ a. a ∣ k) ms ns
      (All-weaker (λ a. a ∣ m) (λ a. a ∣ k) (λ a h. dvd_trans a h l.multiple.0) ms s.multiple)
      (All-weaker (λ a. a ∣ n) (λ a. a ∣ k) (λ a h. dvd_trans a h l.multiple.1.0) ns t.multiple);
  least = λ j h. let parts = all_split (λ a. a ∣ j) ms ns h in l.least j (s.least j parts.0, (t.least j parts.1, tt));
}

pub lcm_some : {a b m : ℕ} → IsLcm (a ∷ (b ∷ [])) m → 0 < a → 0 < b → 0 < m
lcm_some {a} {b} l some-a some-b = pos_of_dvd_of_pos (l.least (a * b) (dvd-mul_right a b, (dvd-mul_left b a, tt))) (mul-pos some-a some-b)

pub lcm_exists : (ns : List ℕ) → AllByRecursion (λ n. 0 < n) ns → (m : ℕ) × IsLcm ns m × (0 < m)
lcm_exists [] h = (1, lcm_none, omega arith)
lcm_exists (n ∷ ns) h =
    let rest = lcm_exists ns h.1 in
    let e = euclid n rest.0 in
    (e.over_a * rest.0, lcm_append (lcm_one n) rest.1 (euclid_lcm e), lcm_some (euclid_lcm e) h.0 rest.2)

-- a whole list has no smaller multiple than its front
pub lcm_beyond_front : (n : ℕ) (ns : List ℕ) → AllByRecursion (λ k. 0 < k) ns → LcmBeyond (take n ns) → LcmBeyond ns
lcm_beyond_front n ns h front =
    let whole = lcm_exists ns h in
    let less : front.0 ≤ whole.0 = le_of_dvd whole.2 (front.1.least whole.0 (All-take (λ k. k ∣ whole.0) n ns whole.1.multiple)) in
    (whole.0, whole.1, omega (arith, front.2))

-- one number more of a list
pub lcm_next : (ns : List ℕ) (i d m k : ℕ) → i < length ns → IsLcm (take i ns) m → IsLcm (m ∷ (get_or ns i d ∷ [])) k → IsLcm (take (i + 1) ns) k
lcm_next ns i d m k within front l = subst (λ l. IsLcm l k) (sym (take_more ns i d within)) (lcm_append front (lcm_one (get_or ns i d)) l)

-- a list with a 0 has no other multiple than 0
pub lcm_with_zero : (ns : List ℕ) → ContainsAt ns 0 → IsLcm ns 0
lcm_with_zero ns has = record {
  multiple = All-from_get_or (λ n. n ∣ 0) ns 0 (λ i within. dvd-zero (get_or ns i 0));
  least = λ k h. all-has (λ n. n ∣ k) ns 0 h has;
}

pub all_some : (ns : List ℕ) → (ContainsAt ns 0 → ⊥) → AllByRecursion (λ n. 0 < n) ns
all_some ns none =
    All-from_get_or (λ n. 0 < n) ns 0
    (λ i within. ⊎_elim (λ some. some) (λ low. let zero : get_or ns i 0 ≡ 0 = omega arith in absurd (none (subst (ContainsAt ns) zero (has_get_or ns i 0 within)))) (cases_lt 0 (get_or ns i 0)))
