-- The ticks that a group has in common, and what one more box leaves of them.
use Rattle.std.proofs.Common.{◌≡◌, ℕ, ◌+◌, ◌-◌, ◌*◌, ◌/◌, ◌%◌, ◌<◌, ◌≤◌, List, [], ◌∷◌, ◌++◌, sym, ap, ◌∙◌, subst, ⊎_elim, mul-le-mul_right, mod-lt, mod-eq_of_lt, div-lt_iff_lt-mul, arith}
use Prim.Native.Nat.{◌∣◌}
use native.Mathlib.Nat.{add-mul-mod_self_left, div-mul_cancel, dvd-mul_left_of_dvd, dvd-mul_right, dvd-sub, le_of_dvd, mod-add-div, mod-mod_of_dvd, mod-one}
use Rattle.std.specs.List.{AllByRecursion}
use Rattle.std.proofs.ByRecursion.{All-push, All-weaker}
use Rattle.std.proofs.lemmas.List.{map_push}
use Rattle.std.proofs.lemmas.Bool.{cases_lt}
use Rattle.congruence.specs.declared.clocks.Clock.{Clock}
use Rattle.congruence.specs.Divisors.{IsLcm}
use Rattle.congruence.specs.Clocks.{Due, periods, apart}
use Rattle.congruence.specs.Merging.{Merged}
use Rattle.congruence.proofs.Multiples.{all_split, lcm_none, lcm_one, lcm_append}
use Rattle.congruence.proofs.Meetings.{due_more}

-- numbers of one remainder lie a multiple apart
pub apart_multiple : (m n p : ℕ) → m % p ≡ n % p → p ∣ apart m n
apart_multiple m n p e =
    let a = mod-add-div m p in
    let b = mod-add-div n p in
    let whole : (i j : ℕ) → p ∣ p * i - p * j = λ i j. dvd-sub p (dvd-mul_right p i) (dvd-mul_right p j) in
    ⊎_elim
    (λ h. subst (λ k. p ∣ k) (omega (arith, a, b, e)) (whole (n / p) (m / p)))
    (λ h. subst (λ k. p ∣ k) (omega (arith, a, b, e)) (whole (m / p) (n / p)))
    (cases_lt m n)

-- a number below n that n divides is 0
none_below : (m n : ℕ) → n ∣ m → m < n → m ≡ 0
none_below m n d h = ⊎_elim (λ some. absurd (let le : n ≤ m = le_of_dvd some d in omega arith)) (λ none. omega arith) (cases_lt 0 m)

-- a step that begins below next ends within it
pub step_within : (k step next : ℕ) → step ∣ next → k < next / step → k * step + step ≤ next
step_within k step next d h =
    let whole : next / step * step ≡ next = div-mul_cancel step d in
    let upto : (k + 1) * step ≤ next / step * step = mul-le-mul_right step (omega arith) in
    omega arith

pub merged_none : Merged [] 0 1
merged_none = record { lcm = lcm_none; within = omega arith; due = tt; only = λ t h. mod-one t }

-- a group with the ticks tick, tick + step, .., and one more box, whose period makes step to next
module _ (cs : List Clock) (tick step next : ℕ) (c : Clock) (so_far : Merged cs tick step) (l : IsLcm (step ∷ (c.period ∷ [])) next) where
  some_step : 0 < step
  some_step = omega (arith, so_far.within)

  pub lcm_push : IsLcm (periods (cs ++ c ∷ [])) next
  lcm_push = subst (λ ns. IsLcm ns next) (sym (map_push (λ d. d.period) cs c)) (lcm_append so_far.lcm (lcm_one c.period) l)

  -- a tick of all, taken modulo next, is one of those tried
  module _ (some : 0 < next) (t : ℕ) (h : AllByRecursion (Due t) (cs ++ c ∷ [])) where
    parts : AllByRecursion (Due t) cs × AllByRecursion (Due t) (c ∷ [])
    parts = all_split (Due t) cs (c ∷ []) h

    low : t % next < next
    low = mod-lt t some

    on_step : t % next % step ≡ tick
    on_step = mod-mod_of_dvd step t l.multiple.0 ∙ so_far.only t parts.0

    on_period : t % next % c.period ≡ c.wait
    on_period = mod-mod_of_dvd c.period t l.multiple.1.0 ∙ parts.1.0

    pub tried : (k : ℕ) × (k < next / step) × (t % next ≡ tick + k * step)
    tried =
        let whole : next / step * step ≡ next = div-mul_cancel step l.multiple.0 in
        let split = mod-add-div (t % next) step in (
          t % next / step,
          (div-lt_iff_lt-mul some_step).1 (subst (λ n. t % next < n) (sym whole) low),
          omega (arith, split, on_step),
        )

  pub never : 0 < next → ((k : ℕ) → k < next / step → Due (tick + k * step) c → ⊥) → (t : ℕ) → AllByRecursion (Due t) (cs ++ c ∷ []) → ⊥
  never some missed t h =
      let k = tried some t h in
      missed k.0 k.1 (subst (λ n. n % c.period ≡ c.wait) k.2 (on_period some t h))

  pub merged_more : (k : ℕ) → k < next / step → Due (tick + k * step) c → Merged (cs ++ c ∷ []) (tick + k * step) next
  merged_more k h due =
      let inside : tick + k * step < next = omega (arith, so_far.within, step_within k step next l.multiple.0 h) in
      let steps : (tick + k * step) % step ≡ tick = ap (λ n. (tick + n) % step) (omega arith) ∙ add-mul-mod_self_left tick step k ∙ mod-eq_of_lt so_far.within in
      record {
        lcm = lcm_push;
        within = inside;
        due =
            All-push (Due (tick + k * step)) cs c
            (due_more tick (k * step) cs (All-weaker (λ p. p ∣ step) (λ p. p ∣ k * step) (λ p d. dvd-mul_left_of_dvd p d k) (periods cs) so_far.lcm.multiple) so_far.due)
            due;
        only = λ t all.
            let some : 0 < next = omega arith in
            let far : next ∣ apart (t % next) (tick + k * step) =
            l.least _ (apart_multiple _ _ step (on_step some t all ∙ sym steps), (apart_multiple _ _ c.period (on_period some t all ∙ sym due), tt)) in
            let less : apart (t % next) (tick + k * step) < next = omega (arith, low some t all) in
            let none : apart (t % next) (tick + k * step) ≡ 0 = none_below _ next far less in
            omega arith;
      }
