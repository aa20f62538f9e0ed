-- The examples of first common ticks: earlier ticks are tried one by one.
use Rattle.std.proofs.Common.{◌≡◌, ℕ, zero, suc, ◌*◌, ◌%◌, ◌<◌, ◌≤◌, Bool, true, not, ◌&&◌, eqb, List, [], ◌∷◌, Some, Ok, Err, refl, subst, ⊎_elim, arith}
use native.Mathlib.Nat.{one-dvd}
use Rattle.std.specs.List.{AllByRecursion}
use Rattle.std.proofs.lemmas.Bool.{and_from, and_parts, both_ways, cases_lt, eq-eqb, not-true}
use Rattle.congruence.specs.declared.clocks.Clock.{Clock}
use Rattle.congruence.specs.declared.common.NoCommonTick.TheVariants.{Never}
use Rattle.congruence.specs.Clocks.{Valid, Due}
use Rattle.congruence.proofs.Euclid.{Euclid, euclid_lcm}
use Rattle.examples.specs.Worked.{Holds, clock, first_tick}

abbrev all_due : ℕ → List Clock → Bool
all_due t [] = true
all_due t (c ∷ cs) = eqb (t % c.period) c.wait && all_due t cs

abbrev none_below : ℕ → List Clock → Bool
none_below zero cs = true
none_below (suc t) cs = not (all_due t cs) && none_below t cs

all_due_from : (t : ℕ) (cs : List Clock) → AllByRecursion (Due t) cs → all_due t cs ≡ true
all_due_from t [] h = refl
all_due_from t (c ∷ cs) h = and_from _ _ (eq-eqb _ _ h.0) (all_due_from t cs h.1)

none_before : (t : ℕ) (cs : List Clock) → none_below t cs ≡ true → (s : ℕ) → s < t → AllByRecursion (Due s) cs → ⊥
none_before zero cs e s before h = omega arith
none_before (suc t) cs e s before h =
    let parts = and_parts (not (all_due t cs)) (none_below t cs) e in
    ⊎_elim
    (λ earlier. none_before t cs parts.1 s earlier h)
    (λ late. let here : s ≡ t = omega arith in both_ways _ (not-true _ parts.0) (all_due_from t cs (subst (λ n. AllByRecursion (Due n) cs) here h)))
    (cases_lt s t)

valid : (p w : ℕ) → 0 < p → p ≤ 1000 → w < p → Valid (clock p w)
valid p w some most below = record { some = some; most = most; below = below }

-- two boxes that are due at t and not before; e makes the cycle of their periods
at_tick : {p q : ℕ} (w v t : ℕ) (e : Euclid p q) → Valid (clock p w) → Valid (clock q v) → t % p ≡ w → t % q ≡ v → none_below t (clock p w ∷ (clock q v ∷ [])) ≡ true → e.over_a * q ≤ 1000 → Holds (first_tick (clock p w ∷ (clock q v ∷ [])) (Ok (Some t)))
at_tick {p} {q} w v t e valid-p valid-q due-p due-q none few = (
  (valid-p, (valid-q, tt)),
  record {
    due = (due-p, (due-q, tt));
    none_before = none_before t (clock p w ∷ (clock q v ∷ [])) none;
    cycle = (e.over_a * q, (euclid_lcm e, omega arith));
  },
)

pub at_11 : Holds (first_tick (clock 5 1 ∷ (clock 3 2 ∷ [])) (Ok (Some 11)))
at_11 =
    let e : Euclid 5 3 = record { g = 1; over_a = 5; over_b = 3; x = 2; y = 0; u = 0; v = 3; left = refl; right = refl; one = refl } in
    at_tick 1 2 11 e (valid 5 1 (omega arith) (omega arith) (omega arith)) (valid 3 2 (omega arith) (omega arith) (omega arith)) refl refl refl (omega arith)

pub at_8 : Holds (first_tick (clock 4 0 ∷ (clock 6 2 ∷ [])) (Ok (Some 8)))
at_8 =
    let e : Euclid 4 6 = record { g = 2; over_a = 2; over_b = 3; x = 2; y = 0; u = 0; v = 1; left = refl; right = refl; one = refl } in
    at_tick 0 2 8 e (valid 4 0 (omega arith) (omega arith) (omega arith)) (valid 6 2 (omega arith) (omega arith) (omega arith)) refl refl refl (omega arith)

pub at_23 : Holds (first_tick (clock 4 3 ∷ (clock 9 5 ∷ [])) (Ok (Some 23)))
at_23 =
    let e : Euclid 4 9 = record { g = 1; over_a = 4; over_b = 9; x = 7; y = 0; u = 0; v = 3; left = refl; right = refl; one = refl } in
    at_tick 3 5 23 e (valid 4 3 (omega arith) (omega arith) (omega arith)) (valid 9 5 (omega arith) (omega arith) (omega arith)) refl refl refl (omega arith)

pub never : Holds (first_tick (clock 4 0 ∷ (clock 6 1 ∷ [])) (Err Never))
never = (
  (valid 4 0 (omega arith) (omega arith) (omega arith), (valid 6 1 (omega arith) (omega arith) (omega arith), tt)),
  λ t h. let a = h.0 in let b = h.1.0 in omega arith,
)

pub nobody : Holds (first_tick [] (Ok (Some 0)))
nobody = (
  tt,
  record { due = tt; none_before = none_before 0 [] refl; cycle = (1, (record { multiple = tt; least = λ k h. one-dvd k }, omega arith)) },
)
