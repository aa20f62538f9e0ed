-- What a finder answers.
use Rattle.std.specs.Prelude.{◌≡◌, ℕ, Ok, Err, Result}
use Rattle.congruence.specs.declared.refusals.Refusal.{Refusal}
use Rattle.congruence.specs.declared.refusals.Refusal.TheVariants.{BeyondReach}
use Rattle.load.specs.Kinds.{Kind}
use Rattle.draws.specs.Draws.{Places, Found}

-- within reach a peak and a group that reaches it, and beyond it the one refusal
abbrev pub Answered : {L : Type 0} → Kind L → Places → Type 0 → Result (ℕ × ℕ) Refusal → Type 0
Answered K ps Within (Ok r) = Within × Found K ps r.0 r.1
Answered K ps Within (Err e) = (Within → ⊥) × (e ≡ BeyondReach)
