-- A place more of a mask.
use Rattle.std.proofs.Common.{◌≡◌, ℕ, ◌+◌, ◌*◌, ◌%◌, ◌^◌, ◌<◌, ◌↔◌, Bool, true, false, List, get_or, zero, suc, ◌≤◌, IsTrue, sym, ◌∙◌, subst, ⊎_elim, lt_of_lt_of_le, arith, pow_mono}
use lib.Bits.{bit_or, or_lt}
use lib.Pow.{pow-lt}
use Rattle.std.proofs.lemmas.Nat.{one_shl}
use denote.Param.Members.{Called, Mut}
use Rattle.std.specs.Array.{IsFromFnResult, IsFromFnResultFrom}
use Rattle.std.specs.Iterator.Runs.{CallKeepsClosure}
use Rattle.std.proofs.lemmas.Bool.{cases_eq, cases_lt, eq-eqb, eqb-true, or_cases, or_left, or_right}
use Rattle.draws.specs.Draws.{bit}
use Rattle.draws.specs.Masks.{Names}
use Rattle.draws.proofs.Bits.{bit_of_or, bit_power}

module _ (P : ℕ → Type 0) (n mask : ℕ) (old : Names P n mask) where
  names_with : P n → Names P (n + 1) (bit_or mask (2 ^ n))
  names_with holds = record {
    below = or_lt (n + 1) mask (2 ^ n) (lt_of_lt_of_le old.below (pow_mono (omega arith))) (pow-lt (omega arith));
    sound = λ j e.
        ⊎_elim
        (λ was. let h = old.sound j was in (omega (arith, h.0), h.1))
        (λ new. let here : j ≡ n = eqb-true j n (sym (bit_power n j) ∙ new) in (omega arith, subst P (sym here) holds))
        (or_cases (bit mask j) (bit (2 ^ n) j) (sym (bit_of_or mask (2 ^ n) j) ∙ e));
    complete = λ j h m.
        bit_of_or mask (2 ^ n) j
        ∙ ⊎_elim
        (λ low. or_left (bit mask j) (bit (2 ^ n) j) (old.complete j low m))
        (λ high. or_right (bit mask j) (bit (2 ^ n) j) (bit_power n j ∙ eq-eqb j n (omega arith)))
        (cases_lt j n);
  }

  -- as `mask |= 1 << n` leaves it
  pub names_more : n < 32 → P n → Names P (n + 1) (bit_or mask (1 * 2 ^ n % 4294967296))
  names_more small holds = subst (λ k. Names P (n + 1) (bit_or mask k)) (sym (one_shl n 32 small)) (names_with holds)

  pub names_same : (P n → ⊥) → Names P (n + 1) mask
  names_same not_here = record {
    below = lt_of_lt_of_le old.below (pow_mono (omega arith));
    sound = λ j e. let h = old.sound j e in (omega (arith, h.0), h.1);
    complete = λ j h m.
        ⊎_elim
        (λ low. old.complete j low m)
        (λ high. let here : j ≡ n = omega arith in absurd (not_here (subst P here m)))
        (cases_lt j n);
  }

-- the calls of a closure that stays as it was, at each number in turn
calls_kept :
    {F B : Type 0} (g : Mut F (ℕ × Unit {0}) B) (f : F) (ys : List B) (d : B) → CallKeepsClosure g f
    → (i n : ℕ) → IsFromFnResultFrom g f ys i n → (s : ℕ) → i ≤ s → s < i + n → Called g f (s, tt) (get_or ys s d) f
calls_kept g f ys d keeps i zero each s from below = absurd (omega arith)
calls_kept {F} {B} g f ys d keeps i (suc n) each s from below =
    let same : each.0 ≡ f = keeps _ _ _ each.3 in
    ⊎_elim
    (λ here.
    let call : Called g f (i, tt) (get_or ys i d) f = subst (λ q. Called g f (i, tt) (get_or ys i d) q) same (subst (λ y. Called g f (i, tt) y each.0) (sym (each.2.1 d)) each.3) in
    subst (λ k. Called g f (k, tt) (get_or ys k d) f) (sym here) call)
    (λ other. calls_kept g f ys d keeps (i + 1) n (subst (λ q. IsFromFnResultFrom g q ys (i + 1) n) same each.4) s (omega arith) (omega arith))
    (cases_eq s i)

-- what it tells at each number holds of the elements of the array that is made of the calls
pub each_of_calls :
    {F B : Type 0} (P : ℕ → B → Type 0) (g : Mut F (ℕ × Unit {0}) B) (f : F) (ys : List B) (n : ℕ) (d : B)
    → IsFromFnResult g f ys n → CallKeepsClosure g f → ((s : ℕ) (y : B) → Called g f (s, tt) y f → P s y)
    → (s : ℕ) → s < n → P s (get_or ys s d)
each_of_calls P g f ys n d made keeps told s low = told s _ (calls_kept g f ys d keeps 0 n made.each s (omega arith) (omega arith))

-- the mask of the places of which a closure tells that P holds
pub names_of_calls :
    {F : Type 0} (P : ℕ → Type 0) (g : Mut F (ℕ × Unit {0}) Bool) (f : F) (named : List Bool) (n mask : ℕ)
    → IsFromFnResult g f named n → CallKeepsClosure g f → Names (λ s. get_or named s false ≡ true) n mask
    → ((s : ℕ) (b : Bool) → Called g f (s, tt) b f → IsTrue b ↔ P s) → Names P n mask
names_of_calls P g f named n mask made keeps names told =
    let each = each_of_calls (λ s b. IsTrue b ↔ P s) g f named n false made keeps told in
    record {
      below = names.below;
      sound = λ j e. let h = names.sound j e in (h.0, (each j h.0).0 h.1);
      complete = λ j low m. names.complete j low ((each j low).1 m);
    }
