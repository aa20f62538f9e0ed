use Rattle.std.proofs.Common.{rules, [], ◌∷◌}
use Rattle.std.proofs.lemmas.Iterator.{cases_from_all, YieldsList-from_slice}
use Rattle.congruence.specs.declared.clocks.Clock.{Clock}
use Rattle.congruence.specs.Clocks.{Valid, Meet}
use Rattle.congruence.proofs.Passes.{all_of_pass}
use Rattle.congruence.proofs.clocks.meets_each.Goals as goal

abbrev Fit : Clock → Clock → Type 0
Fit c d = Valid d × Meet (c ∷ (d ∷ []))

pub returns-then-is_valid : goal.returns-then-is_valid
returns-then-is_valid c =
    let valid : Valid c.args.clock = c.is_valid.ensures.0 c.if-is_valid.true in
    let pass =
    cases_from_all _ _ _ (Fit c.args.clock) (λ d. Fit c.args.clock d → ⊥) c.all.ensures.ran
    (YieldsList-from_slice c.args.others.now cc) (λ x q k. search rules) (λ x q k. search rules) in
    let all = all_of_pass (Fit c.args.clock) _ (record { period = 0; wait = 0 }) _ pass in
    (λ e. (valid, all.0 e), λ h. all.1 h.1)
