use Rattle.std.proofs.Common.{◌≡◌, sym, ◌∙◌, subst}
use Prim.Native.Nat.{◌∣◌}
use native.Mathlib.Nat.{dvd_of_mod-eq-zero, mod-eq-zero_of_dvd, pos_of_dvd_of_pos}
use Rattle.std.proofs.lemmas.Bool.{both_ways, eq-eqb, eqb-true, false≢true}
use Rattle.congruence.specs.Clocks.{Valid, apart}
use Rattle.std.specs.Int.{IsGcd}
use Rattle.congruence.proofs.Meetings.{meet_by_gcd}
use Rattle.congruence.proofs.clocks.meets.Goals as goal
use Rattle.congruence.proofs.clocks.meets.Goals.{then-not-is_valid-via-then-not-is_valid, then-not-is_valid-via-else-not-is_valid+then-not-is_valid-2, After-from-3}

pub returns-then-not-is_valid : goal.returns-then-not-is_valid
returns-then-not-is_valid c = record {
  value = (
    λ e. absurd (false≢true e),
    λ m.
        elim c.then-not-is_valid.branch [
          | then-not-is_valid-via-then-not-is_valid w ↦ absurd (both_ways _ w.if-not-is_valid.true (c.is_valid.ensures.1 m.0))
          | then-not-is_valid-via-else-not-is_valid+then-not-is_valid-2 w ↦
              absurd (both_ways _ w.if-not-is_valid-2.true (w.is_valid-else-not-is_valid.ensures.1 m.1))
        ],
  );
  by_gcd = meet_by_gcd;
}

valid_a : (c : After-from-3) → Valid c.args.a
valid_a c = c.is_valid.ensures.0 c.if-not-is_valid.false

valid_b : (c : After-from-3) → Valid c.args.b
valid_b c = c.is_valid-else-not-is_valid.ensures.0 c.if-not-is_valid-2.false

divisor : (c : After-from-3) → IsGcd c.args.a.period c.args.b.period c.gcd-common.result
divisor c = rw (c.from.ensures, c.from-2.ensures) at c.gcd-common.ensures

distance : (c : After-from-3) → c.from-3.result ≡ apart c.args.a.wait c.args.b.wait
distance c = c.from-3.ensures ∙ c.abs_diff.ensures

pub nonzero_rem-result : goal.nonzero_rem-result
nonzero_rem-result c = pos_of_dvd_of_pos (divisor c).0 (valid_a c).some

pub returns : goal.returns
returns c =
    let g = c.gcd-common.result in
    let by = meet_by_gcd c.args.a c.args.b g (valid_a c) (valid_b c) (divisor c) in
    record {
      value = (
        λ e. (valid_a c, valid_b c, by.1 (subst (λ n. g ∣ n) (distance c) (dvd_of_mod-eq-zero g (eqb-true _ 0 e)))),
        λ m. eq-eqb _ 0 (mod-eq-zero_of_dvd g (subst (λ n. g ∣ n) (sym (distance c)) (by.0 m.2))),
      );
      by_gcd = meet_by_gcd;
    }
