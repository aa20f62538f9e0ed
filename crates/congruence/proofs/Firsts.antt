-- From the boxes merged so far to the whole group.
use Rattle.std.proofs.Common.{◌≡◌, Ok, Err, IsErrAnd, Option, Result, ℕ, ◌+◌, ◌<◌, ◌≤◌, List, [], ◌∷◌, ◌++◌, length, get_or, take, sym, subst, arith}
use native.Mathlib.Nat.{mod-le}
use Rattle.std.specs.List.{AllByRecursion}
use Rattle.std.proofs.ByRecursion.{All-map, All-take, All-weaker}
use Rattle.std.proofs.lemmas.List.{take-map, take_more}
use Rattle.congruence.specs.declared.clocks.Clock.{Clock}
use Rattle.congruence.specs.declared.common.NoCommonTick.{NoCommonTick}
use Rattle.congruence.specs.declared.common.NoCommonTick.TheVariants.{Never, Refused}
use Rattle.congruence.specs.declared.common.Shared.{Shared}
use Rattle.congruence.specs.Divisors.{LcmBeyond, bound}
use Rattle.congruence.specs.Clocks.{Valid, Due, periods}
use Rattle.congruence.specs.FirstTicks.{Answer, First}
use Rattle.congruence.specs.Merging.{Merged, Merges}
use Rattle.congruence.proofs.Multiples.{lcm_beyond_front}

-- the box at place i joins those before it
pub merges_next : (cs : List Clock) (i : ℕ) (d : Clock) (r : Result (Option Shared) NoCommonTick) → i < length cs → Merges (take i cs ++ get_or cs i d ∷ []) r → Merges (take (i + 1) cs) r
merges_next cs i d r within h = subst (λ l. Merges l r) (sym (take_more cs i d within)) h

pub none_of_all : (n : ℕ) (cs : List Clock) → ((t : ℕ) → AllByRecursion (Due t) (take n cs) → ⊥) → (t : ℕ) → AllByRecursion (Due t) cs → ⊥
none_of_all n cs none t h = none t (All-take (Due t) n cs h)

pub beyond_of_all : (n : ℕ) (cs : List Clock) → AllByRecursion Valid cs → LcmBeyond (periods (take n cs)) → LcmBeyond (periods cs)
beyond_of_all n cs valid h =
    let some = All-map (λ p. 0 < p) (λ c. c.period) cs (All-weaker Valid (λ c. 0 < c.period) (λ c v. v.some) cs valid) in
    lcm_beyond_front n (periods cs) some (subst LcmBeyond (sym (take-map (λ c. c.period) n cs)) h)

pub first_from_merged : (cs : List Clock) (tick step : ℕ) → Merged cs tick step → step ≤ bound → First cs tick
first_from_merged cs tick step m within = record {
  due = m.due;
  none_before = λ s before h. let low : tick ≤ s = subst (λ n. n ≤ s) (m.only s h) (mod-le s step) in omega arith;
  cycle = (step, (m.lcm, within));
}

-- a box that was merged has a valid clock, so that where merging fails no tick is shared
pub never_of_front :
    (n : ℕ) (cs : List Clock) (e : NoCommonTick) (r : Result (Option ℕ) NoCommonTick) → AllByRecursion Valid cs
    → Merges (take n cs) (Err e) → IsErrAnd r (λ v. v ≡ e) → Answer cs r
never_of_front n cs Never (Err Never) valid none told = (valid, none_of_all n cs none)
never_of_front n cs Never (Err (Refused e)) valid none told = absurd cc
never_of_front n cs Never (Ok t) valid none told = absurd told
never_of_front n cs (Refused e) r valid none told = absurd none
