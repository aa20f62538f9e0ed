-- Numbers that agree modulo the greatest common divisor of two others, and what joins such agreements.
use Rattle.std.proofs.lemmas.Nat.Gcd.{same_from_IsGcd}
use Rattle.std.proofs.Common.{◌≡◌, ℕ, zero, suc, ◌+◌, ◌*◌, ◌/◌, ◌%◌, ◌<◌, List, [], ◌∷◌, sym, refl, ap, ◌∙◌, subst, ⊎_elim, arith}
use Prim.Native.Nat.{◌∣◌}
use native.Mathlib.Nat.{add-mul-mod_self_left, dvd-add, dvd-mul_right_of_dvd, dvd_refl, dvd-sub, mul-div_cancel'}
use Rattle.std.specs.List.{AllByRecursion}
use Rattle.std.proofs.ByRecursion.{All-weaker}
use Rattle.std.proofs.str.Laws.{order}
use Rattle.std.specs.Int.{IsGcd}
use Rattle.congruence.specs.Clocks.{apart}
use Rattle.congruence.proofs.Euclid.{Euclid, euclid, bezout, euclid_gcd}

-- u and v agree modulo every common divisor of a and b
pub record Link (a b u v : ℕ) : Type 0 where
  pub x : ℕ
  pub y : ℕ
  pub x' : ℕ
  pub y' : ℕ
  pub same : u + a * x + b * y ≡ v + a * x' + b * y'

pub link_sym : {a b u v : ℕ} → Link a b u v → Link a b v u
link_sym l = record { x = l.x'; y = l.y'; x' = l.x; y' = l.y; same = sym l.same }

-- u may be replaced by what it leaves modulo a
pub link_from : {a b u v w : ℕ} (q : ℕ) → w ≡ u + a * q → Link a b u v → Link a b w v
link_from {a} q e l = record {
  x = l.x;
  y = l.y;
  x' = l.x' + q;
  y' = l.y';
  same = omega (arith, l.same, e);
}

-- from a common divisor: u is v and k of them
link_above : {a b : ℕ} (v k : ℕ) (e : Euclid a b) → Link a b (v + e.g * k) v
link_above v k e = record {
  x = e.u * k;
  y = e.v * k;
  x' = e.x * k;
  y' = e.y * k;
  same = omega (arith, ap (λ z. z * k) (bezout e));
}

pub link_from_gcd : {a b g u v : ℕ} → IsGcd a b g → g ∣ apart u v → Link a b u v
link_from_gcd {a} {b} {g} {u} {v} s d =
    let e = euclid a b in
    let same : g ≡ e.g = same_from_IsGcd _ _ _ _ s (euclid_gcd e) in
    let k = apart u v / g in
    let times : e.g * k ≡ apart u v = ap (λ z. z * k) (sym same) ∙ mul-div_cancel' g d in
    ⊎_elim
    (λ h. link_sym (subst (λ n. Link a b n u) (omega (arith, times)) (link_above u k e)))
    (λ h. subst (λ n. Link a b n v) (omega (arith, times)) (link_above v k e))
    (order u v)

pub gcd_from_link : {a b u v : ℕ} (g : ℕ) → g ∣ a → g ∣ b → Link a b u v → g ∣ apart u v
gcd_from_link {a} {b} {u} {v} g ga gb l =
    let multiple : (s t : ℕ) → g ∣ a * s + b * t = λ s t. dvd-add g (dvd-mul_right_of_dvd g ga s) (dvd-mul_right_of_dvd g gb t) in
    ⊎_elim
    (λ h. subst (λ n. g ∣ n) (omega (arith, l.same)) (dvd-sub g (multiple l.x l.y) (multiple l.x' l.y')))
    (λ h. subst (λ n. g ∣ n) (omega (arith, l.same)) (dvd-sub g (multiple l.x' l.y') (multiple l.x l.y)))
    (order u v)

-- steps of a bring u to what v leaves modulo b
pub link_move : {a u v : ℕ} (b : ℕ) → 0 < b → Link a b u v → (k : ℕ) × ((u + a * k) % b ≡ v % b)
link_move zero some l = absurd (omega arith)
link_move {a} {u} {v} (suc b) some l =
    let k = l.x + b * l.x' in
    let sums : (u + a * k) + suc b * l.y ≡ v + suc b * (l.y' + a * l.x') = omega (arith, l.same) in
    (k, sym (add-mul-mod_self_left (u + a * k) (suc b) l.y) ∙ ap (λ n. n % suc b) sums ∙ add-mul-mod_self_left v (suc b) (l.y' + a * l.x'))

link_add : {a b u v s t : ℕ} → Link a b u v → Link a b s t → Link a b (u + s) (v + t)
link_add k l = record {
  x = k.x + l.x;
  y = k.y + l.y;
  x' = k.x' + l.x';
  y' = k.y' + l.y';
  same = omega (arith, k.same, l.same);
}

link_times : {a b u v : ℕ} (n : ℕ) → Link a b u v → Link a b (u * n) (v * n)
link_times n l = record {
  x = l.x * n;
  y = l.y * n;
  x' = l.x' * n;
  y' = l.y' * n;
  same = omega (arith, ap (λ z. z * n) l.same);
}

link_cancel : {a b u v s t : ℕ} → Link a b (u + s) (v + t) → Link a b s t → Link a b u v
link_cancel k l = record {
  x = k.x + l.x';
  y = k.y + l.y';
  x' = k.x' + l.x;
  y' = k.y' + l.y;
  same = omega (arith, k.same, l.same);
}

module _ {m q u v : ℕ} where
  -- a multiple of a link's first modulus, at multiples of its ends
  link_scaled : {p : ℕ} (j : ℕ) → p * j ≡ m → Link p q u v → Link m q (u * j) (v * j)
  link_scaled {p} j e l = record {
    x = l.x;
    y = l.y * j;
    x' = l.x';
    y' = l.y' * j;
    same = omega (arith, ap (λ z. z * j) l.same, ap (λ z. z * l.x) e, ap (λ z. z * l.x') e);
  }

  -- multiples of the ends by i and by j, where i and j have no common divisor, give the ends
  link_join : (i j x y x' y' : ℕ) → i * x + j * y ≡ i * x' + j * y' + 1 → Link m q (u * i) (v * i) → Link m q (u * j) (v * j) → Link m q u v
  link_join i j x y x' y' one s t =
      let upper = link_add (link_times x s) (link_times y t) in
      let lower = link_add (link_times x' s) (link_times y' t) in
      let whole : (w : ℕ) → w * i * x + w * j * y ≡ w + (w * i * x' + w * j * y') = λ w. omega (arith, ap (λ z. w * z) one) in
      link_cancel (subst (λ n. Link m q n (v + (v * i * x' + v * j * y'))) (whole u) (subst (λ n. Link m q (u * i * x + u * j * y) n) (whole v) upper)) lower

-- a common multiple of a list of periods, modulo which agreements modulo each of them join
pub record Common (ps : List ℕ) : Type 0 where
  pub m : ℕ
  pub multiple : AllByRecursion (λ p. p ∣ m) ps
  pub joins : (q u v : ℕ) → AllByRecursion (λ p. Link p q u v) ps → Link m q u v

pub common : (ps : List ℕ) → Common ps
common [] = record {
  m = 1;
  multiple = tt;
  joins = λ q u v ls. record { x = v; y = 0; x' = u; y' = 0; same = omega arith };
}
common (p ∷ ps) =
    let rest = common ps in
    let e = euclid p rest.m in
    let m = p * e.over_b in
    let other : rest.m * e.over_a ≡ m = omega (arith, ap (λ z. z * e.over_b) e.left, ap (λ z. z * e.over_a) e.right) in
    record {
      m = m;
      multiple = (
        dvd-mul_right_of_dvd p (dvd_refl p) e.over_b,
        All-weaker (λ n. n ∣ rest.m) (λ n. n ∣ m) (λ n h. subst (λ k. n ∣ k) other (dvd-mul_right_of_dvd n h e.over_a)) ps rest.multiple,
      );
      joins = λ q u v ls.
          link_join e.over_a e.over_b e.x e.y e.u e.v e.one
          (link_scaled e.over_a other (rest.joins q u v ls.1))
          (link_scaled e.over_b refl ls.0);
    }
