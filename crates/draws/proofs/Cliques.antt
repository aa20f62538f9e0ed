-- A set of places draws together at some tick exactly when each two of it meet.
use Rattle.std.proofs.lemmas.Option.{none-some, same_Some}
use Rattle.std.proofs.Common.{◌≡◌, ℕ, zero, suc, ◌+◌, Bool, true, false, cond, List, [], ◌∷◌, get_or, Some, None, Option, sym, refl, subst, arith}
use Rattle.std.specs.List.{AllByRecursion}
use Rattle.std.proofs.lemmas.Bool.{eq-eqb, eqb-true, false≢true}
use Rattle.congruence.specs.declared.clocks.Clock.{Clock}
use Rattle.congruence.specs.Clocks.{Valid, Due, Meet, EachTwoMeet}
use Rattle.congruence.proofs.Meetings.{tick_from_pairs}
use Rattle.draws.specs.declared.draw.Draw.{Draw}
use Rattle.draws.specs.Draws.{Places, drawing, due}
use Rattle.draws.specs.Meetings.{MeetAt, EachTwo, Together}

-- the clocks of the places that a set picks, the first of them place s
picks : (ℕ → Bool) → ℕ → Places → List Clock
picks h s [] = []
picks h s (None ∷ ps) = picks h (suc s) ps
picks h s (Some d ∷ ps) = cond (h s) (d.clock ∷ picks h (suc s) ps) (picks h (suc s) ps)

-- what holds of the clock of each place that is picked
module _ (P : Clock → Type 0) (h : ℕ → Bool) where
  Each : ℕ → Places → Type 0
  Each s ps = (j : ℕ) (d : Draw) → get_or ps j None ≡ Some d → h (s + j) ≡ true → P d.clock

  each_tail : (s : ℕ) (p : Option Draw) (ps : Places) → Each s (p ∷ ps) → Each (suc s) ps
  unfolding Each
  each_tail s p ps each j d e picked = each (suc j) d e (subst (λ i. h i ≡ true) (omega arith) picked)

  picks_all : (s : ℕ) (ps : Places) → Each s ps → AllByRecursion P (picks h s ps)
  unfolding Each picks
  picks_all s [] each = tt
  picks_all s (None ∷ ps) each = picks_all (suc s) ps (each_tail s None ps each)
  picks_all s (Some d ∷ ps) each =
      let rest = picks_all (suc s) ps (each_tail s (Some d) ps each) in
      go (h s) refl rest
    where
      go : (b : Bool) → h s ≡ b → AllByRecursion P (picks h (suc s) ps) → AllByRecursion P (cond (h s) (d.clock ∷ picks h (suc s) ps) (picks h (suc s) ps))
      go true e rest = subst (λ b. AllByRecursion P (cond b (d.clock ∷ picks h (suc s) ps) (picks h (suc s) ps))) (sym e) (each 0 d refl (subst (λ i. h i ≡ true) (omega arith) e), rest)
      go false e rest = subst (λ b. AllByRecursion P (cond b (d.clock ∷ picks h (suc s) ps) (picks h (suc s) ps))) (sym e) rest

  cond_tail : (b : Bool) (c : Clock) (cs : List Clock) → AllByRecursion P (cond b (c ∷ cs) cs) → AllByRecursion P cs
  cond_tail true c cs all = all.1
  cond_tail false c cs all = all

  cond_head : (b : Bool) (c : Clock) (cs : List Clock) → b ≡ true → AllByRecursion P (cond b (c ∷ cs) cs) → P c
  cond_head true c cs e all = all.0
  cond_head false c cs e all = absurd (false≢true e)

  -- and back
  all_picked : (s : ℕ) (ps : Places) → AllByRecursion P (picks h s ps) → Each s ps
  unfolding Each picks
  all_picked s [] all j d e picked = absurd (none-some _ e)
  all_picked s (None ∷ ps) all zero d e picked = absurd (none-some _ e)
  all_picked s (None ∷ ps) all (suc j) d e picked = all_picked (suc s) ps all j d e (subst (λ i. h i ≡ true) (omega arith) picked)
  all_picked s (Some c ∷ ps) all zero d e picked =
      subst (λ k. P k.clock) (same_Some _ _ e) (cond_head (h s) c.clock (picks h (suc s) ps) (subst (λ i. h i ≡ true) (omega arith) picked) all)
  all_picked s (Some c ∷ ps) all (suc j) d e picked =
      all_picked (suc s) ps (cond_tail (h s) c.clock (picks h (suc s) ps) all) j d e (subst (λ i. h i ≡ true) (omega arith) picked)

-- each two of the clocks that a set picks meet
picks_meet : (h : ℕ → Bool) (s : ℕ) (ps : Places) → ((i j : ℕ) (d e : Draw) → get_or ps i None ≡ Some d → get_or ps j None ≡ Some e → h (s + i) ≡ true → h (s + j) ≡ true → Meet (d.clock ∷ (e.clock ∷ []))) → EachTwoMeet (picks h s ps)
unfolding picks Each
picks_meet h s [] pairs = tt
picks_meet h s (None ∷ ps) pairs = picks_meet h (suc s) ps (λ i j d e x y a b. pairs (suc i) (suc j) d e x y (subst (λ k. h k ≡ true) (omega arith) a) (subst (λ k. h k ≡ true) (omega arith) b))
picks_meet h s (Some c ∷ ps) pairs =
    go (h s) refl
    (picks_meet h (suc s) ps (λ i j d e x y a b. pairs (suc i) (suc j) d e x y (subst (λ k. h k ≡ true) (omega arith) a) (subst (λ k. h k ≡ true) (omega arith) b)))
  where
    go : (b : Bool) → h s ≡ b → EachTwoMeet (picks h (suc s) ps) → EachTwoMeet (cond (h s) (c.clock ∷ picks h (suc s) ps) (picks h (suc s) ps))
    go true e rest =
        subst (λ b. EachTwoMeet (cond b (c.clock ∷ picks h (suc s) ps) (picks h (suc s) ps))) (sym e) (
          picks_all (λ k. Meet (c.clock ∷ (k ∷ []))) h (suc s) ps (λ j d y b. pairs 0 (suc j) c d refl y (subst (λ k. h k ≡ true) (omega arith) e) (subst (λ k. h k ≡ true) (omega arith) b)),
          rest,
        )
    go false e rest = subst (λ b. EachTwoMeet (cond b (c.clock ∷ picks h (suc s) ps) (picks h (suc s) ps))) (sym e) rest

-- every place holds a valid clock or none
abbrev pub AllValid : Places → Type 0
AllValid ps = (s : ℕ) (d : Draw) → get_or ps s None ≡ Some d → Valid d.clock

meet_at : (p q : Option Draw) (d e : Draw) → p ≡ Some d → q ≡ Some e → MeetAt p q → Meet (d.clock ∷ (e.clock ∷ []))
meet_at None q d e x y m = absurd m
meet_at (Some a) None d e x y m = absurd m
meet_at (Some a) (Some b) d e x y m = subst (λ k. Meet (k.clock ∷ (e.clock ∷ []))) (same_Some _ _ x) (subst (λ k. Meet (a.clock ∷ (k.clock ∷ []))) (same_Some _ _ y) m)

due_some : (t : ℕ) (p : Option Draw) → MeetAt p p → ((d : Draw) → p ≡ Some d → Due t d.clock) → due t p ≡ true
due_some t None m h = absurd m
due_some t (Some d) m h = eq-eqb _ _ (h d refl)

pub together_from_pairs : (ps : Places) (h : ℕ → Bool) → AllValid ps → EachTwo ps h → Together ps h
unfolding Each
together_from_pairs ps h valid pairs =
    let at : (i : ℕ) → h (0 + i) ≡ true → h i ≡ true = λ i e. subst (λ k. h k ≡ true) (omega arith) e in
    let group = picks h 0 ps in
    let meets = picks_meet h 0 ps (λ i j d e x y a b. meet_at (get_or ps i None) (get_or ps j None) d e x y (pairs i j (at i a) (at j b))) in
    let tick = tick_from_pairs group (picks_all Valid h 0 ps (λ j d e picked. valid j d e)) meets in (
      tick.0,
      λ s inside. due_some tick.0 (get_or ps s None) (pairs s s inside inside) (λ d e. all_picked (Due tick.0) h 0 ps tick.1 s d e (subst (λ k. h k ≡ true) (omega arith) inside)),
    )

both_due : (t : ℕ) (p q : Option Draw) → due t p ≡ true → due t q ≡ true → MeetAt p q
both_due t None q a b = absurd (false≢true a)
both_due t (Some d) None a b = absurd (false≢true b)
both_due t (Some d) (Some e) a b = (t, (eqb-true _ _ a, (eqb-true _ _ b, tt)))

pub pairs_from_together : (ps : Places) (h : ℕ → Bool) → Together ps h → EachTwo ps h
pairs_from_together ps h tick i j a b = both_due tick.0 (get_or ps i None) (get_or ps j None) (tick.1 i a) (tick.1 j b)

-- what draws at a tick meets in pairs
pub drawing_pairs : (ps : Places) (t : ℕ) → EachTwo ps (drawing ps t)
drawing_pairs ps t = pairs_from_together ps (drawing ps t) (t, λ s h. h)
