-- The places of a table with some of its booked boxes started.
use Rattle.std.proofs.lemmas.Option.{none-some, same_Some}
use Rattle.std.proofs.Common.{◌≡◌, ℕ, suc, ◌+◌, ◌<◌, ◌≤◌, true, false, if◌then◌else◌, nat_lt, List, [], ◌∷◌, length, get_or, set, Some, None, sym, refl, ap, ◌∙◌, subst, ⊎_elim, arith}
use Rattle.std.proofs.lemmas.List.{ext_get_or, get_or_past, get_or-set_other, get_or-set_same, length-set}
use Rattle.std.proofs.lemmas.Bool.{cases_eq, cases_lt, cond-false, cond-true, le-ltb, lt-ltb}
use Rattle.congruence.specs.Clocks.{Valid}
use Rattle.draws.specs.Draws.{periods_of}
use Rattle.draws.proofs.Cliques.{AllValid}
use Rattle.draws.proofs.Peaks.{Among}
use Rattle.table.specs.declared.slot.Booking.{Booking}
use Rattle.table.specs.declared.slot.Slot.{Slot}
use Rattle.table.specs.declared.slot.Slot.TheVariants.{Empty, Booked, Running}
use Rattle.table.specs.declared.table.Table.{Table}
use Rattle.table.specs.Slots.{started}
use Rattle.table.specs.Tables.{place_of, places, places_from}
use Rattle.table.proofs.Started.{bookable, get_or_places, length_places, running_valid, started_valid}
use Rattle.planner.specs.Choices.{BookedAt}

-- the same waits for the booked boxes below n
abbrev pub Agree : List Slot → ℕ → (v w : ℕ → ℕ) → Type 0
Agree slots n v w = (s : ℕ) (b : Booking) → s < n → BookedAt slots s b → v s ≡ w s

-- a socket with a booked box is one of the table's
pub booked_within : (slots : List Slot) (s : ℕ) (b : Booking) → BookedAt slots s b → s < length slots
booked_within slots s b e = ⊎_elim (λ low. low) (λ past. absurd (let z = sym (get_or_past slots s Empty past) ∙ e in cc)) (cases_lt s (length slots))

started_at : (n : ℕ) (w : ℕ → ℕ) (s : ℕ) (b : Booking) → s < n → place_of n w s (Booked b) ≡ Some (started b (w s))
started_at n w s b low = cond-true _ _ _ (lt-ltb s n low)

waiting_at : (n : ℕ) (w : ℕ → ℕ) (s : ℕ) (b : Booking) → n ≤ s → place_of n w s (Booked b) ≡ None
waiting_at n w s b past = cond-false _ _ _ (le-ltb s n past)

pub place_started : (slots : List Slot) (n : ℕ) (w : ℕ → ℕ) (s : ℕ) (b : Booking) → s < n → BookedAt slots s b → get_or (places slots n w) s None ≡ Some (started b (w s))
place_started slots n w s b low e = get_or_places n w slots s ∙ ap (place_of n w s) e ∙ started_at n w s b low

pub place_waiting : (slots : List Slot) (n : ℕ) (w : ℕ → ℕ) (s : ℕ) (b : Booking) → n ≤ s → BookedAt slots s b → get_or (places slots n w) s None ≡ None
place_waiting slots n w s b past e = get_or_places n w slots s ∙ ap (place_of n w s) e ∙ waiting_at n w s b past

module _ (slots : List Slot) where
  -- two lists of places that are the same socket by socket
  same_places : (n m : ℕ) (v w : ℕ → ℕ) → ((s : ℕ) → place_of n v s (get_or slots s Empty) ≡ place_of m w s (get_or slots s Empty)) → places slots n v ≡ places slots m w
  same_places n m v w same =
      ext_get_or None (places slots n v) (places slots m w) (length_places n v slots ∙ sym (length_places m w slots))
      (λ s low. get_or_places n v slots s ∙ same s ∙ sym (get_or_places m w slots s))

  pub places_agree : (n : ℕ) (v w : ℕ → ℕ) → Agree slots n v w → places slots n v ≡ places slots n w
  places_agree n v w agree = same_places n n v w (λ s. go s (get_or slots s Empty) refl)
    where
      go : (s : ℕ) (x : Slot) → get_or slots s Empty ≡ x → place_of n v s x ≡ place_of n w s x
      go s Empty e = refl
      go s (Running d) e = refl
      go s (Booked b) e =
          ⊎_elim
          (λ low. started_at n v s b low ∙ ap (λ k. Some (started b k)) (agree s b low e) ∙ sym (started_at n w s b low))
          (λ past. waiting_at n v s b past ∙ sym (waiting_at n w s b past))
          (cases_lt s n)

  -- at a socket with no booked box there is nothing to start
  pub places_skip : (s : ℕ) (w : ℕ → ℕ) → ((b : Booking) → BookedAt slots s b → ⊥) → places slots (s + 1) w ≡ places slots s w
  places_skip s w none = same_places (s + 1) s w w (λ j. go j (get_or slots j Empty) refl)
    where
      go : (j : ℕ) (x : Slot) → get_or slots j Empty ≡ x → place_of (s + 1) w j x ≡ place_of s w j x
      go j Empty e = refl
      go j (Running d) e = refl
      go j (Booked b) e =
          ⊎_elim
          (λ low. started_at (s + 1) w j b (omega arith) ∙ sym (started_at s w j b low))
          (λ past.
          ⊎_elim
          (λ here. absurd (none b (ap (λ i. get_or slots i Empty) (sym here) ∙ e)))
          (λ other. waiting_at (s + 1) w j b (omega arith) ∙ sym (waiting_at s w j b past))
          (cases_eq j s))
          (cases_lt j s)

  -- one box more
  pub places_set : (s : ℕ) (b : Booking) (v w : ℕ → ℕ) (x : ℕ) → BookedAt slots s b → Agree slots s v w → w s ≡ x → set (places slots s v) s (Some (started b x)) ≡ places slots (s + 1) w
  places_set s b v w x e agree is =
      let within = booked_within slots s b e in
      let long = length_places s v slots in
      ext_get_or None (set (places slots s v) s (Some (started b x))) (places slots (s + 1) w) (length-set (places slots s v) s (Some (started b x)) ∙ long ∙ sym (length_places (s + 1) w slots))
      (λ j low.
      ⊎_elim
      (λ here. ap (λ i. get_or (set (places slots s v) s (Some (started b x))) i None) here ∙ get_or-set_same (places slots s v) s (Some (started b x)) None (omega (arith, long)) ∙ ap (λ k. Some (started b k)) (sym is) ∙ sym (place_started slots (s + 1) w s b (omega arith) e) ∙ ap (λ i. get_or (places slots (s + 1) w) i None) (sym here))
      (λ other. get_or-set_other (places slots s v) s j (Some (started b x)) None other ∙ get_or_places s v slots j ∙ go j other (get_or slots j Empty) refl ∙ sym (get_or_places (s + 1) w slots j))
      (cases_eq j s))
    where
      go : (j : ℕ) → (j ≡ s → ⊥) → (y : Slot) → get_or slots j Empty ≡ y → place_of s v j y ≡ place_of (s + 1) w j y
      go j other Empty e = refl
      go j other (Running d) e = refl
      go j other (Booked c) e' =
          ⊎_elim
          (λ low. started_at s v j c low ∙ ap (λ k. Some (started c k)) (agree j c low e') ∙ sym (started_at (s + 1) w j c (omega arith)))
          (λ past. waiting_at s v j c past ∙ sym (waiting_at (s + 1) w j c (omega arith)))
          (cases_lt j s)

  -- started boxes stay when more have started
  pub places_among : (n m : ℕ) (v w : ℕ → ℕ) → n ≤ m → Agree slots n v w → Among (places slots n v) (places slots m w)
  places_among n m v w less agree s d e = get_or_places m w slots s ∙ go (get_or slots s Empty) refl (sym (get_or_places n v slots s) ∙ e)
    where
      go : (x : Slot) → get_or slots s Empty ≡ x → place_of n v s (get_or slots s Empty) ≡ Some d → place_of m w s (get_or slots s Empty) ≡ Some d
      go Empty is h = ap (place_of m w s) is ∙ sym (ap (place_of n v s) is) ∙ h
      go (Running c) is h = ap (place_of m w s) is ∙ sym (ap (place_of n v s) is) ∙ h
      go (Booked b) is h =
          ⊎_elim
          (λ low. ap (place_of m w s) is ∙ started_at m w s b (omega arith) ∙ ap (λ k. Some (started b k)) (sym (agree s b low is)) ∙ sym (started_at n v s b low) ∙ sym (ap (place_of n v s) is) ∙ h)
          (λ past. absurd (none-some _ (sym (waiting_at n v s b past) ∙ sym (ap (place_of n v s) is) ∙ h)))
          (cases_lt s n)

-- the waits change no period
pub periods_places : (slots : List Slot) (n : ℕ) (v w : ℕ → ℕ) → periods_of (places slots n v) ≡ periods_of (places slots n w)
unfolding places_from
periods_places slots n v w = from 0 slots
  where
    from : (s : ℕ) (xs : List Slot) → periods_of (places_from n v s xs) ≡ periods_of (places_from n w s xs)
    from s [] = refl
    from s (Empty ∷ xs) = from (suc s) xs
    from s (Running d ∷ xs) = ap (λ qs. d.clock.period ∷ qs) (from (suc s) xs)
    from s (Booked b ∷ xs) =
        elim (nat_lt s n) as (λ test. periods_of ((if test then Some (started b (v s)) else None) ∷ places_from n v (suc s) xs) ≡ periods_of ((if test then Some (started b (w s)) else None) ∷ places_from n w (suc s) xs)) [
          | true ↦ ap (λ qs. b.period ∷ qs) (from (suc s) xs)
          | false ↦ from (suc s) xs
        ]

-- every started box has a wait below its period, and so every clock is valid
pub places_valid : (table : Table) (n : ℕ) (w : ℕ → ℕ) → ((s : ℕ) (b : Booking) → s < n → BookedAt table.slots s b → w s < b.period) → AllValid (places table.slots n w)
places_valid table n w below s d e = go (get_or table.slots s Empty) refl (sym (get_or_places n w table.slots s) ∙ e)
  where
    go : (x : Slot) → get_or table.slots s Empty ≡ x → place_of n w s (get_or table.slots s Empty) ≡ Some d → Valid d.clock
    go Empty is h = absurd (none-some _ (sym (ap (place_of n w s) is) ∙ h))
    go (Running c) is h = subst (λ k. Valid k.clock) (same_Some _ _ (sym (ap (place_of n w s) is) ∙ h)) (running_valid table s c is)
    go (Booked b) is h =
        ⊎_elim
        (λ low. subst (λ k. Valid k.clock) (same_Some _ _ (sym (started_at n w s b low) ∙ sym (ap (place_of n w s) is) ∙ h)) (started_valid (bookable table s b is) (below s b low is)))
        (λ past. absurd (none-some _ (sym (waiting_at n w s b past) ∙ sym (ap (place_of n w s) is) ∙ h)))
        (cases_lt s n)
