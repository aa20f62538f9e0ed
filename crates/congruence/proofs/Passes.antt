-- What one pass over a list of clocks tells of all of it.
use Rattle.std.proofs.Common.{◌≡◌, ℕ, ◌-◌, ◌<◌, ◌≤◌, ◌↔◌, Bool, true, false, List, [], ◌∷◌, length, get_or, take, drop, IsTrue, refl, arith}
use Rattle.std.proofs.lemmas.List.{take_all}
use Rattle.std.specs.Bool.{MatchBool}
use Rattle.std.specs.List.{AllByRecursion, AllWithin, HoldsAt}
use Rattle.std.proofs.ByRecursion.{All-from_get_or, All-get_or, All-weaker}
use Rattle.congruence.specs.declared.clocks.Clock.{Clock}
use Rattle.congruence.specs.Clocks.{Valid, Due, Meet, EachTwoMeet}
use Rattle.congruence.proofs.Meetings.{meet_by_pairs}

-- a pass that stops at the first element without P
pub all_of_pass :
    {X : Type 0} (P : X → Type 0) (xs : List X) (d : X) (r : Bool)
    → MatchBool r (AllWithin P xs 0 (length xs)) ((k : ℕ) × (k < length xs) × HoldsAt (λ x. P x → ⊥) xs k)
    → IsTrue r ↔ AllByRecursion P xs
all_of_pass P xs d true all = (λ _. All-from_get_or P xs d (λ i within. all i d (omega arith) within), λ _. refl)
all_of_pass P xs d false stop = (λ e. absurd cc, λ all. absurd (stop.2 d (All-get_or P xs stop.0 d stop.1 all)))

-- the clock is valid and meets each of the others, which are valid too
abbrev pub Fits : Clock → List Clock → Type 0
Fits c cs = Valid c × AllByRecursion (λ d. Valid d × Meet (c ∷ (d ∷ []))) cs

-- a group that meets, front to back
pub fits_of : (c : Clock) (cs : List Clock) → AllByRecursion Valid (c ∷ cs) → Meet (c ∷ cs) → Fits c cs
fits_of c cs v m = (v.0, go cs v.1 m.1.1)
  where
    go : (ds : List Clock) → AllByRecursion Valid ds → AllByRecursion (Due m.0) ds → AllByRecursion (λ d. Valid d × Meet (c ∷ (d ∷ []))) ds
    go [] v h = tt
    go (d ∷ ds) v h = ((v.0, (m.0, (m.1.0, (h.0, tt)))), go ds v.1 h.1)

pub meet_of_fits : (c : Clock) (cs : List Clock) → Fits c cs → AllByRecursion Valid cs → Meet cs → Meet (c ∷ cs)
meet_of_fits c cs fits v m =
    let pairs : EachTwoMeet (c ∷ cs) =
    (All-weaker (λ d. Valid d × Meet (c ∷ (d ∷ []))) (λ d. Meet (c ∷ (d ∷ []))) (λ d p. p.1) cs fits.1, (meet_by_pairs cs v).0 m) in
    (meet_by_pairs (c ∷ cs) (fits.0, v)).1 pairs

-- the clocks of a list behind the first
abbrev others : List Clock → List Clock
others cs = take (length cs - 1) (drop 1 cs)

others-cons : (c : Clock) (cs : List Clock) → others (c ∷ cs) ≡ cs
others-cons c cs = take_all _ cs (omega arith)

-- all clocks are valid, and some tick has all boxes draw
abbrev pub MeetAll : List Clock → Type 0
MeetAll cs = AllByRecursion Valid cs × Meet cs

pub meet_none : (cs : List Clock) → length cs < 1 → MeetAll cs
meet_none [] none = (tt, (0, tt))
meet_none (c ∷ cs) none = absurd (omega arith)

-- a list whose first clock fits the others meets exactly when the others do
pub meet_more : (cs : List Clock) (d : Clock) → 1 ≤ length cs → Fits (get_or cs 0 d) (others cs) → MeetAll (others cs) ↔ MeetAll cs
meet_more [] d some fits = absurd (omega arith)
meet_more (c ∷ cs) d some fits =
    let fits : Fits c cs = rw others-cons at fits in
    rw others-cons (λ h. ((fits.0, h.0), meet_of_fits c cs fits h.0 h.1), λ h. (h.0.1, (h.1.0, h.1.1.1)))

-- and does not meet where it fits them not
pub meet_not : (cs : List Clock) (d : Clock) → 1 ≤ length cs → (Fits (get_or cs 0 d) (others cs) → ⊥) → MeetAll cs → ⊥
meet_not [] d some none h = absurd (omega arith)
meet_not (c ∷ cs) d some none h =
    let fits : Fits c (others (c ∷ cs)) = rw others-cons (fits_of c cs h.0 h.1) in
    none fits
