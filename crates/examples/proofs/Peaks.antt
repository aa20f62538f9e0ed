-- The peaks of the worked examples: whichever of the boxes draw, they measure no more than all of them.
use Rattle.std.proofs.Common.{ℕ, ◌≤◌, Bool, true, false, cond, [], ◌∷◌, Option, refl, arith}
use Rattle.load.specs.Kinds.{Kind}
use Rattle.load.specs.Amps.{amps_kind}
use Rattle.load.specs.Phases.{phases_kind}
use Rattle.load.specs.Inrush.{inrush_kind}
use Rattle.draws.specs.declared.draw.Draw.{Draw}
use Rattle.draws.specs.Draws.{due, load_of, total}
use Rattle.examples.specs.Worked.{PeakAt, place}

-- what two places measure, of which those count that draw
two : {L : Type 0} → Kind L → Option Draw → Option Draw → Bool → Bool → ℕ
two K p q a b = K.measure (K.plus (cond a (load_of K p) K.none) (K.plus (cond b (load_of K q) K.none) K.none))

three : {L : Type 0} → Kind L → Option Draw → Option Draw → Option Draw → Bool → Bool → Bool → ℕ
three K p q r a b c = K.measure (K.plus (cond a (load_of K p) K.none) (K.plus (cond b (load_of K q) K.none) (K.plus (cond c (load_of K r) K.none) K.none)))

amps_below : (a b c : Bool) → three amps_kind (place 2 1 0 0) (place 3 2 0 0) (place 5 3 0 0) a b c ≤ 6
unfolding three
amps_below true true true = omega arith
amps_below true true false = omega arith
amps_below true false true = omega arith
amps_below true false false = omega arith
amps_below false true true = omega arith
amps_below false true false = omega arith
amps_below false false true = omega arith
amps_below false false false = omega arith

pub peak_6 : PeakAt amps_kind (place 2 1 0 0 ∷ (place 3 2 0 0 ∷ (place 5 3 0 0 ∷ []))) 6 0
unfolding three total
peak_6 = (refl, λ t. amps_below (due t (place 2 1 0 0)) (due t (place 3 2 0 0)) (due t (place 5 3 0 0)))

apart_below : (a b : Bool) → two phases_kind (place 1 3 0 0) (place 1 0 3 0) a b ≤ 3
unfolding two
apart_below true true = omega arith
apart_below true false = omega arith
apart_below false true = omega arith
apart_below false false = omega arith

pub phases_3 : PeakAt phases_kind (place 1 3 0 0 ∷ (place 1 0 3 0 ∷ [])) 3 0
unfolding two total
phases_3 = (refl, λ t. apart_below (due t (place 1 3 0 0)) (due t (place 1 0 3 0)))

same_below : (a b : Bool) → two phases_kind (place 1 3 0 0) (place 1 3 0 0) a b ≤ 6
unfolding two
same_below true true = omega arith
same_below true false = omega arith
same_below false true = omega arith
same_below false false = omega arith

pub phases_6 : PeakAt phases_kind (place 1 3 0 0 ∷ (place 1 3 0 0 ∷ [])) 6 0
unfolding two total
phases_6 = (refl, λ t. same_below (due t (place 1 3 0 0)) (due t (place 1 3 0 0)))

inrush_below : (a b : Bool) → two inrush_kind (place 1 2 5 0) (place 1 3 4 0) a b ≤ 10
unfolding two
inrush_below true true = omega arith
inrush_below true false = omega arith
inrush_below false true = omega arith
inrush_below false false = omega arith

pub inrush_10 : PeakAt inrush_kind (place 1 2 5 0 ∷ (place 1 3 4 0 ∷ [])) 10 0
unfolding two total
inrush_10 = (refl, λ t. inrush_below (due t (place 1 2 5 0)) (due t (place 1 3 4 0)))

pub nothing_0 : PeakAt amps_kind [] 0 0
unfolding total
nothing_0 = (refl, λ t. omega arith)
