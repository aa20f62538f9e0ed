-- A list of boxes all of whose clocks are moved by the same number of ticks draws the same, that much later.
use Rattle.std.proofs.lemmas.Nat.Gcd.{IsGcd-swap}
use Rattle.std.proofs.lemmas.Option.{none-some, same_Some}
use Rattle.std.proofs.Common.{◌≡◌, ℕ, zero, suc, ◌+◌, ◌-◌, ◌*◌, ◌/◌, ◌%◌, ◌<◌, ◌≤◌, eqb, List, [], ◌∷◌, map, length, get_or, Some, None, Option, sym, refl, ap, ◌∙◌, subst, mod-eq_of_lt, mul-add, arith}
use Prim.Native.Nat.{◌∣◌}
use native.Mathlib.Nat.{add-mul-mod_self_right, dvd-mul_left, dvd-mul_right_of_dvd, dvd-sub, dvd_trans, mod-add-div, mod-add-mod, add-mod-mod}
use Rattle.std.specs.List.{AllByRecursion}
use Rattle.std.proofs.ByRecursion.{All-weaker}
use Rattle.std.proofs.lemmas.List.{length-map}
use Rattle.std.proofs.lemmas.Bool.{eq-eqb, eqb-true}
use Rattle.congruence.specs.Clocks.{Valid}
use Rattle.std.specs.Int.{IsGcd}
use Rattle.congruence.proofs.Meetings.{mod_more, slide}
use Rattle.congruence.proofs.Multiples.{lcm_exists}
use Rattle.load.specs.Kinds.{Kind, Laws}
use Rattle.draws.specs.declared.draw.Draw.{Draw}
use Rattle.draws.specs.Draws.{Places, Reaches, drawing, due, load_of, periods_of, total}
use Rattle.draws.specs.Factors.{Factor}
use Rattle.draws.proofs.Bits.{same_test}
use Rattle.draws.proofs.Cliques.{AllValid}
use Rattle.draws.proofs.Peaks.{total_places}
use Rattle.draws.proofs.Periods.{periods_all, periods_at}
use Rattle.draws.proofs.Totals.{total_same}

-- a box whose clock is moved by T ticks
abbrev pub moved : ℕ → Draw → Draw
moved T d = record { clock = record { period = d.clock.period; wait = (d.clock.wait + T) % d.clock.period }; rating = d.rating }

abbrev pub moved_place : ℕ → Option Draw → Option Draw
moved_place T None = None
moved_place T (Some d) = Some (moved T d)

abbrev pub slid : ℕ → Places → Places
slid T ps = map (moved_place T) ps

pub get_or_slid : (T : ℕ) (ps : Places) (s : ℕ) → get_or (slid T ps) s None ≡ moved_place T (get_or ps s None)
get_or_slid T [] s = refl
get_or_slid T (p ∷ ps) zero = refl
get_or_slid T (p ∷ ps) (suc s) = get_or_slid T ps s

pub length_slid : (T : ℕ) (ps : Places) → length (slid T ps) ≡ length ps
length_slid T ps = length-map ps (moved_place T)

-- equal remainders stay equal
mod_plus : (a b c p : ℕ) → a % p ≡ b % p → (a + c) % p ≡ (b + c) % p
mod_plus a b c p e = sym (mod-add-mod a p c) ∙ ap (λ n. (n + c) % p) e ∙ mod-add-mod b p c

-- and a shift can be taken back
mod_minus : (a b c p : ℕ) → 0 < p → (a + c) % p ≡ (b + c) % p → a % p ≡ b % p
mod_minus a b c p some e =
    let back : (x : ℕ) → (x + c + c * (p - 1)) % p ≡ x % p =
    λ x. ap (λ n. n % p) (whole x) ∙ add-mul-mod_self_right x c p in
    sym (back a) ∙ mod_plus (a + c) (b + c) (c * (p - 1)) p e ∙ back b
  where
    whole : (x : ℕ) → x + c + c * (p - 1) ≡ x + c * p
    whole x =
        let one : 1 + (p - 1) ≡ p = omega arith in
        omega (arith, mul-add c 1 (p - 1), ap (λ n. c * n) one)

due_moved : (t T : ℕ) (p : Option Draw) → ((d : Draw) → p ≡ Some d → Valid d.clock) → due (t + T) (moved_place T p) ≡ due t p
due_moved t T None valid = refl
due_moved t T (Some d) valid =
    let v = valid d refl in
    let low = mod-eq_of_lt v.below in
    same_test _ _
    (λ e. eq-eqb _ _ (mod_minus t d.clock.wait T d.clock.period v.some (eqb-true _ _ e) ∙ low))
    (λ e. eq-eqb _ _ (mod_plus t d.clock.wait T d.clock.period (eqb-true _ _ e ∙ sym low)))

drawing_moved : (t T : ℕ) (ps : Places) (s : ℕ) → AllValid ps → drawing (slid T ps) (t + T) s ≡ drawing ps t s
drawing_moved t T ps s valid = ap (due (t + T)) (get_or_slid T ps s) ∙ due_moved t T (get_or ps s None) (valid s)

-- a number of ticks that every period divides changes nothing
due_later : (t n : ℕ) (p : Option Draw) → ((d : Draw) → p ≡ Some d → d.clock.period ∣ n) → due (t + n) p ≡ due t p
due_later t n None all = refl
due_later t n (Some d) all = ap (λ r. eqb r d.clock.wait) (mod_more t n d.clock.period (all d refl))

module _ {L : Type 0} (K : Kind L) (laws : Laws K) (T : ℕ) (ps : Places) (valid : AllValid ps) where
  loads : (p : Option Draw) → load_of K (moved_place T p) ≡ load_of K p
  loads None = refl
  loads (Some d) = refl

  -- what the moved list reaches, the list itself reaches: one cycle less the move earlier
  pub reaches_moved : (n : ℕ) → Reaches K (slid T ps) n → Reaches K ps n
  reaches_moved n r =
      let u = r.0 in
      let cycle = lcm_exists (periods_of ps) (periods_all (λ p. 0 < p) ps (λ s d e. (valid s d e).some)) in
      let m = cycle.0 in
      let t = u + (m - 1) * T in
      let sums : t + T ≡ u + m * T = whole u m cycle.2 in
      let same : (s : ℕ) → drawing ps t s ≡ drawing (slid T ps) u s =
      λ s.
      sym (drawing_moved t T ps s valid) ∙ ap (λ k. drawing (slid T ps) k s) sums
      ∙ ap (due (u + m * T)) (get_or_slid T ps s)
      ∙ due_later u (m * T) (moved_place T (get_or ps s None)) (λ d e. dvd-mul_right_of_dvd d.clock.period (divides m cycle.1.multiple s (get_or ps s None) refl d e) T)
      ∙ sym (ap (due u) (get_or_slid T ps s)) in
      let sum : total K (drawing (slid T ps) u) 0 (slid T ps) ≡ total K (drawing ps t) 0 ps =
      total_places K (drawing (slid T ps) u) 0 (slid T ps) ps (length_slid T ps) (λ j low picked. ap (load_of K) (get_or_slid T ps j) ∙ loads (get_or ps j None))
      ∙ sym (total_same K laws (drawing ps t) (drawing (slid T ps) u) 0 ps same) in
      (t, subst (λ x. n ≤ K.measure x) sum r.1)
    where
      whole : (u m : ℕ) → 0 < m → u + (m - 1) * T + T ≡ u + m * T
      whole u m some =
          let one : m - 1 + 1 ≡ m = omega arith in
          omega (arith, native.Mathlib.Nat.add-mul (m - 1) 1 T, ap (λ k. k * T) one)

      divides : (m : ℕ) → AllByRecursion (λ p. p ∣ m) (periods_of ps) → (s : ℕ) (p : Option Draw) → get_or ps s None ≡ p → (d : Draw) → moved_place T p ≡ Some d → d.clock.period ∣ m
      divides m all s None e d is = absurd (none-some _ is)
      divides m all s (Some c) e d is = subst (λ q. q ∣ m) (ap (λ b. b.clock.period) (same_Some _ _ is)) (periods_at (λ p. p ∣ m) ps all s c e)

-- Time can be moved so that every clock of the periods qs stands as it stood and the wait x of a box of period p becomes
-- its remainder by the factor.
pub slide_to : (qs : List ℕ) (p h x : ℕ) → 0 < p → x < p → Factor qs p h → (T : ℕ) × AllByRecursion (λ q. q ∣ T) qs × ((x + T) % p ≡ x % h)
slide_to qs p h x some below f =
    let c = h * (x / h) in
    let whole : x % h + c ≡ x = mod-add-div x h in
    let d = p - c in
    let move = slide qs p d some (All-weaker (λ q. (g : ℕ) → IsGcd p q g → g ∣ h) (λ q. (g : ℕ) → IsGcd q p g → g ∣ d) (λ q all g is. dvd-sub g is.1 (dvd-mul_right_of_dvd g (all g (IsGcd-swap _ _ _ is)) (x / h))) qs f.multiple) in
    let sum : x + d ≡ x % h + 1 * p = omega arith in (
      move.0,
      move.1,
      sym (add-mod-mod x move.0 p) ∙ ap (λ n. (x + n) % p) move.2 ∙ add-mod-mod x d p ∙ ap (λ n. n % p) sum ∙ add-mul-mod_self_right (x % h) 1 p ∙ mod-eq_of_lt (omega arith),
    )
