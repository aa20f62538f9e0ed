-- When two boxes meet, when a group does, and the slide.
use Rattle.std.proofs.Common.{◌≡◌, ℕ, ◌+◌, ◌*◌, ◌/◌, ◌%◌, List, [], ◌∷◌, sym, ap, ◌∙◌, subst, mod-eq_of_lt, arith}
use Prim.Native.Nat.{◌∣◌}
use native.Mathlib.Nat.{add-mul-mod_self_left, dvd-mul_right_of_dvd, mod-add-div, mul-div_cancel'}
use Rattle.std.specs.List.{AllByRecursion}
use Rattle.std.proofs.ByRecursion.{All-weaker}
use Rattle.congruence.specs.declared.clocks.Clock.{Clock}
use Rattle.std.specs.Int.{IsGcd}
use Rattle.congruence.specs.Clocks.{Valid, Due, Meet, EachTwoMeet, periods, MeetByGcd, MeetByPairs, Slide}
use Rattle.congruence.proofs.Euclid.{euclid, euclid_gcd}
use Rattle.congruence.proofs.Links.{Link, link_from, link_from_gcd, gcd_from_link, link_move, common}

-- adding a multiple of p changes nothing modulo p
pub mod_more : (t n p : ℕ) → p ∣ n → (t + n) % p ≡ t % p
mod_more t n p d = ap (λ z. (t + z) % p) (sym (mul-div_cancel' p d)) ∙ add-mul-mod_self_left t p (n / p)

-- a tick is its remainder and a number of periods
ticks : (t : ℕ) (c : Clock) → Due t c → t ≡ c.wait + c.period * (t / c.period)
ticks t c due = omega (arith, mod-add-div t c.period, due)

due_link : (t : ℕ) (c d : Clock) → Due t c → Due t d → Link c.period d.period c.wait d.wait
due_link t c d dc dd = record {
  x = t / c.period;
  y = 0;
  x' = 0;
  y' = t / d.period;
  same = omega (arith, ticks t c dc, ticks t d dd);
}

link_meet : (c d : Clock) → Valid c → Valid d → Link c.period d.period c.wait d.wait → Meet (c ∷ (d ∷ []))
link_meet c d vc vd l =
    let k = link_move d.period vd.some l in (
      c.wait + c.period * k.0,
      (add-mul-mod_self_left c.wait c.period k.0 ∙ mod-eq_of_lt vc.below, (k.1 ∙ mod-eq_of_lt vd.below, tt)),
    )

pub meet_by_gcd : MeetByGcd
meet_by_gcd c d g vc vd s = (
  λ m. gcd_from_link g s.0 s.1 (due_link m.0 c d m.1.0 m.1.1.0),
  λ h. link_meet c d vc vd (link_from_gcd s h),
)

pub pairs_from_tick : (t : ℕ) (cs : List Clock) → AllByRecursion (Due t) cs → EachTwoMeet cs
pairs_from_tick t [] h = tt
pairs_from_tick t (c ∷ cs) h =
    (All-weaker (Due t) (λ d. Meet (c ∷ (d ∷ []))) (λ d due. (t, (h.0, (due, tt)))) cs h.1, pairs_from_tick t cs h.1)

-- a tick of the group agrees with c as far as each period of the group asks
links : (t : ℕ) (c : Clock) (cs : List Clock) → AllByRecursion (λ d. Meet (c ∷ (d ∷ []))) cs → AllByRecursion (Due t) cs → AllByRecursion (λ p. Link p c.period t c.wait) (periods cs)
links t c [] ms h = tt
links t c (d ∷ cs) ms h =
    let m = ms.0 in (
      link_from (t / d.period) (ticks t d h.0) (due_link m.0 d c m.1.1.0 m.1.0),
      links t c cs ms.1 h.1,
    )

-- a group that is due stays due after a common multiple of its periods
pub due_more : (t n : ℕ) (cs : List Clock) → AllByRecursion (λ p. p ∣ n) (periods cs) → AllByRecursion (Due t) cs → AllByRecursion (Due (t + n)) cs
due_more t n [] ds h = tt
due_more t n (c ∷ cs) ds h = (mod_more t n c.period ds.0 ∙ h.0, due_more t n cs ds.1 h.1)

pub tick_from_pairs : (cs : List Clock) → AllByRecursion Valid cs → EachTwoMeet cs → Meet cs
tick_from_pairs [] vs ms = (0, tt)
tick_from_pairs (c ∷ cs) vs ms =
    let rest = tick_from_pairs cs vs.1 ms.1 in
    let m = common (periods cs) in
    let k = link_move c.period vs.0.some (m.joins c.period rest.0 c.wait (links rest.0 c cs ms.0 rest.1)) in
    let whole = All-weaker (λ p. p ∣ m.m) (λ p. p ∣ m.m * k.0) (λ p d. dvd-mul_right_of_dvd p d k.0) (periods cs) m.multiple in
    (rest.0 + m.m * k.0, (k.1 ∙ mod-eq_of_lt vs.0.below, due_more rest.0 (m.m * k.0) cs whole rest.1))

pub meet_by_pairs : MeetByPairs
meet_by_pairs cs vs = (λ m. pairs_from_tick m.0 cs m.1, tick_from_pairs cs vs)

pub slide : Slide
slide ps p d some divides =
    let m = common ps in
    let joined : (q : ℕ) → ((g : ℕ) → IsGcd q p g → g ∣ d) → Link q p 0 d =
    λ q h. let e = euclid q p in link_from_gcd (euclid_gcd e) (subst (λ n. e.g ∣ n) (omega arith) (h e.g (euclid_gcd e))) in
    let k = link_move p some (m.joins p 0 d (All-weaker (λ q. (g : ℕ) → IsGcd q p g → g ∣ d) (λ q. Link q p 0 d) joined ps divides)) in (
      m.m * k.0,
      All-weaker (λ q. q ∣ m.m) (λ q. q ∣ m.m * k.0) (λ q h. dvd-mul_right_of_dvd q h k.0) ps m.multiple,
      ap (λ n. n % p) (omega arith) ∙ k.1,
    )
