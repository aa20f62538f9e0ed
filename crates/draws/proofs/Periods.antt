-- The periods of a list, place by place.
use Rattle.std.proofs.lemmas.Option.{none-some, same_Some}
use Rattle.std.proofs.Common.{◌≡◌, ℕ, zero, suc, ◌+◌, ◌<◌, [], ◌∷◌, ◌++◌, length, get_or, take, Some, None, refl, ap, ◌∙◌, subst}
use Rattle.std.proofs.lemmas.List.{take_more}
use Rattle.std.specs.List.{AllByRecursion}
use Rattle.draws.specs.declared.draw.Draw.{Draw}
use Rattle.draws.specs.Draws.{Places, periods_of}

pub periods_append : (ps qs : Places) → periods_of (ps ++ qs) ≡ periods_of ps ++ periods_of qs
periods_append [] qs = refl
periods_append (None ∷ ps) qs = periods_append ps qs
periods_append (Some d ∷ ps) qs = ap (λ l. d.clock.period ∷ l) (periods_append ps qs)

-- one place more of a front
pub periods_more : (ps : Places) (s : ℕ) → s < length ps → periods_of (take (s + 1) ps) ≡ periods_of (take s ps) ++ periods_of (get_or ps s None ∷ [])
periods_more ps s within = ap periods_of (take_more ps s None within) ∙ periods_append (take s ps) (get_or ps s None ∷ [])

-- what holds of the period of each box holds of all periods
pub periods_all : (P : ℕ → Type 0) (ps : Places) → ((s : ℕ) (d : Draw) → get_or ps s None ≡ Some d → P d.clock.period) → AllByRecursion P (periods_of ps)
periods_all P [] each = tt
periods_all P (None ∷ ps) each = periods_all P ps (λ s d e. each (suc s) d e)
periods_all P (Some c ∷ ps) each = (each 0 c refl, periods_all P ps (λ s d e. each (suc s) d e))

-- and back
pub periods_at : (P : ℕ → Type 0) (ps : Places) → AllByRecursion P (periods_of ps) → (s : ℕ) (d : Draw) → get_or ps s None ≡ Some d → P d.clock.period
periods_at P [] all s d e = absurd (none-some _ e)
periods_at P (None ∷ ps) all zero d e = absurd (none-some _ e)
periods_at P (None ∷ ps) all (suc s) d e = periods_at P ps all s d e
periods_at P (Some c ∷ ps) all zero d e = subst (λ b. P b.clock.period) (same_Some _ _ e) all.0
periods_at P (Some c ∷ ps) all (suc s) d e = periods_at P ps all.1 s d e
