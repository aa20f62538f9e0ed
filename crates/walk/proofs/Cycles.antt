-- The cycle of a list, box by box, and when it is told.
use Rattle.std.proofs.Common.{◌≡◌, ℕ, ◌+◌, ◌<◌, ◌≤◌, Bool, true, false, List, [], ◌∷◌, ◌++◌, length, get_or, take, drop, Option, Some, None, MatchOption, sym, ap, ◌∙◌, subst, append-nil, arith, take-append-drop}
use Prim.Native.Nat.{◌∣◌}
use native.Mathlib.Nat.{dvd_trans, le_of_dvd, pos_of_dvd_of_pos}
use Rattle.std.specs.Bool.{then_some}
use Rattle.std.specs.List.{AllByRecursion}
use Rattle.std.proofs.ByRecursion.{All-append, All-weaker}
use Rattle.congruence.specs.Divisors.{IsLcm, LcmBeyond, LcmWithin}
use Rattle.congruence.proofs.Multiples.{all_split, lcm_exists}
use Rattle.draws.specs.declared.draw.Draw.{Draw}
use Rattle.draws.specs.Draws.{Places, periods_of}
use Rattle.draws.proofs.Cliques.{AllValid}
use Rattle.draws.proofs.Periods.{periods_all, periods_append, periods_more}
use Rattle.walk.specs.Cycles.{Short, longest}

-- a multiple is told where it is short enough, and only there
pub told :
    (ns : List ℕ) (multiple result : Option ℕ) (Kept : ℕ → Bool → Type 0)
    → MatchOption multiple (LcmBeyond ns) (LcmWithin ns)
    → MatchOption multiple (result ≡ None) (λ x. (b : Bool) × Kept x b × (result ≡ then_some b x))
    → ((x : ℕ) → Kept x true → x ≤ longest) → ((x : ℕ) → Kept x false → longest < x)
    → MatchOption result ((k : ℕ) × IsLcm ns k × (longest < k)) (λ m. IsLcm ns m × (m ≤ longest))
told ns None result Kept long none within past = rw none (long.0, long.1, omega (arith, long.2))
told ns (Some x) result Kept m (true, kept, same) within past = rw same (m.0, within x kept)
told ns (Some x) result Kept m (false, kept, same) within past = rw same (x, m.0, past x kept)

-- more numbers onto a list whose multiple is known
lcm_onto : {ms ns : List ℕ} {m k : ℕ} → IsLcm ms m → IsLcm (m ∷ ns) k → IsLcm (ms ++ ns) k
lcm_onto {ms} {ns} {m} {k} s l = record {
  multiple = All-append (λ a. a ∣ k) ms ns (All-weaker (λ a. a ∣ m) (λ a. a ∣ k) (λ a h. dvd_trans a h l.multiple.0) ms s.multiple) l.multiple.1;
  least = λ j h. let parts = all_split (λ a. a ∣ j) ms ns h in l.least j (s.least j parts.0, parts.1);
}

-- one place more, with a box and without
pub front_more :
    (ps : Places) (s m n : ℕ) (d : Draw) → s < length ps → get_or ps s None ≡ Some d → IsLcm (periods_of (take s ps)) m → IsLcm (m ∷ (d.clock.period ∷ [])) n
    → IsLcm (periods_of (take (s + 1) ps)) n
front_more ps s m n d within at front l =
    subst (λ ns. IsLcm ns n) (sym (periods_more ps s within))
    (subst (λ p. IsLcm (periods_of (take s ps) ++ periods_of (p ∷ [])) n) (sym at) (lcm_onto front l))

pub front_skip : (ps : Places) (s m : ℕ) → s < length ps → get_or ps s None ≡ None → IsLcm (periods_of (take s ps)) m → IsLcm (periods_of (take (s + 1) ps)) m
front_skip ps s m within at front =
    subst (λ ns. IsLcm ns m) (sym (periods_more ps s within))
    (subst (λ p. IsLcm (periods_of (take s ps) ++ periods_of (p ∷ [])) m) (sym at) (subst (λ ns. IsLcm ns m) (sym (append-nil _)) front))

pub cycle_some : (ps : Places) (m : ℕ) → AllValid ps → IsLcm (periods_of ps) m → 0 < m
cycle_some ps m valid l =
    let some = lcm_exists (periods_of ps) (periods_all (λ p. 0 < p) ps (λ s d e. (valid s d e).some)) in
    pos_of_dvd_of_pos (l.least some.0 some.1.multiple) some.2

-- where the front has too long a cycle, so has the whole
pub too_long : (ps : Places) (n k : ℕ) → AllValid ps → IsLcm (periods_of (take n ps)) k → longest < k → Short ps → ⊥
too_long ps n k valid front long short =
    let m = short.0 in
    let parts = all_split (λ p. p ∣ m) (periods_of (take n ps)) (periods_of (drop n ps)) (subst (AllByRecursion (λ p. p ∣ m)) (ap periods_of (sym (take-append-drop n ps)) ∙ periods_append (take n ps) (drop n ps)) short.1.0.multiple) in
    let less : k ≤ m = le_of_dvd (cycle_some ps m valid short.1.0) (front.least m parts.0) in
    omega (arith, short.1.1)
