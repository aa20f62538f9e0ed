-- Bezout's identity without subtraction, and what it gives of divisors and multiples.
use Rattle.std.proofs.lemmas.Nat.Gcd.{same_from_IsGcd}
use Rattle.std.proofs.Common.{◌≡◌, ℕ, zero, suc, ◌+◌, ◌*◌, ◌/◌, ◌%◌, ◌<◌, ◌≤◌, [], ◌∷◌, sym, refl, ap, ◌∙◌, subst, mod-lt, arith}
use Prim.Native.Nat.{◌∣◌}
use native.Mathlib.Nat.{div-add-mod, div-eq_of_eq-mul_right, dvd-add, dvd-add_iff_right, dvd-mul_left_of_dvd, dvd-mul_right, dvd-mul_right_of_dvd, dvd_refl, dvd-zero, mul-dvd-mul_left, mul-dvd-mul_right}
use Rattle.congruence.specs.Divisors.{IsLcm}
use Rattle.std.specs.Int.{IsGcd}

-- a and b over a common divisor g, and how g is made of them: a * x + b * y is g more than a * u + b * v
pub record Euclid (a b : ℕ) : Type 0 where
  pub g : ℕ
  pub over_a : ℕ
  pub over_b : ℕ
  pub x : ℕ
  pub y : ℕ
  pub u : ℕ
  pub v : ℕ
  pub left : a ≡ g * over_a
  pub right : b ≡ g * over_b
  pub one : over_a * x + over_b * y ≡ over_a * u + over_b * v + 1

euclid_zero : (a b : ℕ) → b ≡ 0 → Euclid a b
euclid_zero a b e = record {
  g = a;
  over_a = 1;
  over_b = 0;
  x = 1;
  y = 0;
  u = 0;
  v = 0;
  left = omega arith;
  right = omega arith;
  one = refl;
}

euclid_more : (a b : ℕ) → Euclid b (a % b) → Euclid a b
euclid_more a b e =
    let q = a / b in
    let parts : b * q + a % b ≡ a = div-add-mod a b in
    record {
      g = e.g;
      over_a = e.over_a * q + e.over_b;
      over_b = e.over_a;
      x = e.y;
      y = e.x + q * e.v;
      u = e.v;
      v = e.u + q * e.y;
      left = omega (arith, parts, e.right, ap (λ z. z * q) e.left);
      right = e.left;
      one = omega (arith, e.one);
    }

euclid_below : (fuel a b : ℕ) → b ≤ fuel → Euclid a b
euclid_below zero a b h = euclid_zero a b (omega arith)
euclid_below (suc fuel) a zero h = euclid_zero a zero refl
euclid_below (suc fuel) a (suc b) h =
    let low : a % suc b < suc b = mod-lt a (omega arith) in
    euclid_more a (suc b) (euclid_below fuel (suc b) (a % suc b) (omega arith))

pub euclid : (a b : ℕ) → Euclid a b
euclid a b = euclid_below b a b (omega arith)

module _ {a b : ℕ} (e : Euclid a b) where
  pub bezout : a * e.x + b * e.y ≡ a * e.u + b * e.v + e.g
  bezout =
      omega (
        arith,
        ap (λ z. z * e.x) e.left,
        ap (λ z. z * e.u) e.left,
        ap (λ z. z * e.y) e.right,
        ap (λ z. z * e.v) e.right,
        ap (λ z. e.g * z) e.one,
      )

  pub euclid_gcd : IsGcd a b e.g
  euclid_gcd = (
    subst (λ n. e.g ∣ n) (sym e.left) (dvd-mul_right e.g e.over_a),
    subst (λ n. e.g ∣ n) (sym e.right) (dvd-mul_right e.g e.over_b),
    λ d da db.
        let more : d ∣ a * e.u + b * e.v = dvd-add d (dvd-mul_right_of_dvd d da e.u) (dvd-mul_right_of_dvd d db e.v) in
        let whole : d ∣ a * e.x + b * e.y = dvd-add d (dvd-mul_right_of_dvd d da e.x) (dvd-mul_right_of_dvd d db e.y) in
        (dvd-add_iff_right d more).1 (subst (λ n. d ∣ n) bezout whole),
  )

  -- over_a * b is over_b * a
  over : e.over_a * b ≡ a * e.over_b
  over = omega (arith, ap (λ z. e.over_a * z) e.right, ap (λ z. z * e.over_b) e.left)

  least_multiple : (k : ℕ) → a ∣ k → b ∣ k → e.over_a * b ∣ k
  least_multiple k ak bk =
      let m = e.over_a * b in
      let by_a : m ∣ k * e.over_a = subst (λ n. m ∣ n) (omega arith) (mul-dvd-mul_left b e.over_a bk) in
      let by_b : m ∣ k * e.over_b = subst (λ n. n ∣ k * e.over_b) (sym over) (mul-dvd-mul_right a ak e.over_b) in
      let more : m ∣ k * e.over_a * e.u + k * e.over_b * e.v = dvd-add m (dvd-mul_right_of_dvd m by_a e.u) (dvd-mul_right_of_dvd m by_b e.v) in
      let whole : m ∣ k * e.over_a * e.x + k * e.over_b * e.y = dvd-add m (dvd-mul_right_of_dvd m by_a e.x) (dvd-mul_right_of_dvd m by_b e.y) in
      let sums : k * e.over_a * e.x + k * e.over_b * e.y ≡ k * e.over_a * e.u + k * e.over_b * e.v + k = omega (arith, ap (λ z. k * z) e.one) in
      (dvd-add_iff_right m more).1 (subst (λ n. m ∣ n) sums whole)

  pub euclid_lcm : IsLcm (a ∷ (b ∷ [])) (e.over_a * b)
  euclid_lcm = record {
    multiple = (subst (λ n. a ∣ n) (sym over) (dvd-mul_right a e.over_b), (dvd-mul_left_of_dvd b (dvd_refl b) e.over_a, tt));
    least = λ k ks. least_multiple k ks.0 ks.1.0;
  }

pub lcm_zero : (a b : ℕ) → a ≡ 0 → IsLcm (a ∷ (b ∷ [])) 0
lcm_zero a b e = record { multiple = (dvd-zero a, (dvd-zero b, tt)); least = λ k ks. subst (λ n. n ∣ k) e ks.0 }

-- the multiple that a greatest common divisor gives
pub gcd_lcm : (a b g : ℕ) → IsGcd a b g → 0 < g → IsLcm (a ∷ (b ∷ [])) (a / g * b)
gcd_lcm a b g s some =
    let e = euclid a b in
    let same : e.g ≡ g = same_from_IsGcd a b e.g g (euclid_gcd e) s in
    let part : a / g ≡ e.over_a = div-eq_of_eq-mul_right some (e.left ∙ ap (λ z. z * e.over_a) same) in
    subst (λ n. IsLcm (a ∷ (b ∷ [])) (n * b)) (sym part) (euclid_lcm e)
