-- Every choice can be moved to one below the factors that peaks no higher and comes no later.
use Rattle.std.proofs.Common.{◌≡◌, ℕ, zero, suc, ◌+◌, ◌%◌, ◌<◌, ◌≤◌, List, length, get_or, Some, None, sym, refl, ap, ◌∙◌, subst, inl, inr, ⊎_elim, mod-lt, mod-eq_of_lt, arith}
use Prim.Native.Nat.{◌∣◌}
use Rattle.std.proofs.lemmas.Bool.{cases_lt}
use Rattle.congruence.specs.Clocks.{Valid}
use Rattle.congruence.proofs.Meetings.{mod_more}
use Rattle.load.specs.Kinds.{Kind, Laws}
use Rattle.draws.specs.declared.draw.Draw.{Draw}
use Rattle.draws.specs.Draws.{Reaches}
use Rattle.draws.specs.Factors.{Factor}
use Rattle.draws.proofs.Factoring.{factor_some}
use Rattle.draws.proofs.Periods.{periods_at}
use Rattle.table.specs.declared.slot.Booking.{Booking}
use Rattle.table.specs.declared.slot.Slot.{Slot}
use Rattle.table.specs.declared.slot.Slot.TheVariants.{Empty, Booked, Running}
use Rattle.table.specs.declared.table.Table.{Table}
use Rattle.table.specs.Slots.{started}
use Rattle.table.specs.Tables.{places}
use Rattle.table.proofs.Started.{bookable, get_or_places, running_valid}
use Rattle.planner.specs.Choices.{BookedAt, Choice, Earlier, chosen}
use Rattle.planner.specs.Settings.{FactorAt, Factors, beside}
use Rattle.planner.proofs.Moves.{moved_booked, moved_waits, places_moved}
use Rattle.planner.proofs.Orders.{NotLater, earlier_not_later}
use Rattle.planner.proofs.Placing.{place_started, places_valid}
use Rattle.planner.proofs.Slides.{reaches_moved, slide_to}

module _ {L : Type 0} (K : Kind L) (laws : Laws K) (table : Table) (hs : List ℕ) (factors : Factors table.slots hs) where
  -- every booked wait below n is below its factor
  abbrev pub Low : ℕ → (ℕ → ℕ) → Type 0
  Low n w = (s : ℕ) (b : Booking) → s < n → BookedAt table.slots s b → w s < get_or hs s 0

  -- what v can be lowered to as far as socket n
  pub record Lowered (n : ℕ) (v r : ℕ → ℕ) : Type 0 where
    pub choice : Choice table.slots r
    pub low : Low n r
    pub peaks : (k : ℕ) → Reaches K (chosen table.slots r) k → Reaches K (chosen table.slots v) k
    pub order : NotLater table.slots r v

  -- the factor of a booked box
  pub factor_of : (s : ℕ) (b : Booking) → s < 24 → BookedAt table.slots s b → Factor (beside table.slots s) b.period (get_or hs s 0)
  factor_of s b low e = subst (λ x. FactorAt table.slots s x (get_or hs s 0)) e (factors.at s (omega (arith, table.whole)))

  -- one box more, whose wait is not below its factor
  module _ (n : ℕ) (b : Booking) (v r : ℕ → ℕ) (within : n < 24) (at : BookedAt table.slots n b) (old : Lowered n v r) (high : get_or hs n 0 ≤ r n) where
    h : ℕ
    h = get_or hs n 0

    is_factor : Factor (beside table.slots n) b.period h
    unfolding h
    is_factor = factor_of n b within at

    some : 0 < b.period
    some = (bookable table n b at).some

    move : (T : ℕ) × Rattle.std.specs.List.AllByRecursion (λ q. q ∣ T) (beside table.slots n) × ((r n + T) % b.period ≡ r n % h)
    move = slide_to (beside table.slots n) b.period h (r n) some (old.choice n b at) is_factor

    T : ℕ
    T = move.0

    next : ℕ → ℕ
    next = moved_waits table.slots T r

    divides : (s : ℕ) (d : Draw) → get_or (places table.slots n (λ j. 0)) s None ≡ Some d → d.clock.period ∣ T
    unfolding T
    divides = periods_at (λ q. q ∣ T) (places table.slots n (λ j. 0)) move.1

    still : (s : ℕ) (d : Draw) → get_or table.slots s Empty ≡ Running d → Valid d.clock × (d.clock.period ∣ T)
    still s d e = (running_valid table s d e, divides s d (get_or_places n (λ j. 0) table.slots s ∙ ap (Rattle.table.specs.Tables.place_of n (λ j. 0) s) e))

    -- lower boxes keep their waits
    kept : (s : ℕ) (c : Booking) → s < n → BookedAt table.slots s c → next s ≡ r s
    unfolding next
    kept s c low e =
        moved_booked table.slots T r s c e ∙ mod_more (r s) T c.period (divides s (started c 0) (place_started table.slots n (λ j. 0) s c low e)) ∙ mod-eq_of_lt (old.choice s c e)

    here : next n ≡ r n % h
    unfolding next T
    here = moved_booked table.slots T r n b at ∙ move.2

    lower : next n < h
    lower = subst (λ k. k < h) (sym here) (mod-lt (r n) (factor_some some is_factor))

    earlier : Earlier table.slots next r
    unfolding h
    earlier = record { socket = n; booking = b; booked = at; less = omega (arith, lower); same = λ j c low e. kept j c low e }

    lowered_next : Lowered (suc n) v next
    unfolding next h
    lowered_next = record {
      choice = λ s c e. subst (λ k. k < c.period) (sym (moved_booked table.slots T r s c e)) (mod-lt (r s + T) (bookable table s c e).some);
      low = λ s c below e.
          ⊎_elim
          (λ before. subst (λ k. k < get_or hs s 0) (sym (kept s c before e)) (old.low s c before e))
          (λ last. let same : n ≡ s = omega arith in subst (λ k. next k < get_or hs k 0) same lower)
          (cases_lt s n);
      peaks = λ k reach.
          old.peaks k
          (reaches_moved K laws T (chosen table.slots r) (places_valid table (length table.slots) r (λ s c below e. old.choice s c e)) k
          (subst (λ ps. Reaches K ps k) (places_moved table.slots (length table.slots) T r still) reach));
      order = inr (earlier_not_later table.slots next r v earlier old.order);
    }

  lowered_same : (n : ℕ) (v r : ℕ → ℕ) → ((b : Booking) → BookedAt table.slots n b → r n < get_or hs n 0) → Lowered n v r → Lowered (suc n) v r
  lowered_same n v r fine old = record {
    choice = old.choice;
    low = λ s c below e.
        ⊎_elim
        (λ before. old.low s c before e)
        (λ last. let same : s ≡ n = omega arith in subst (λ k. r k < get_or hs k 0) (sym same) (fine c (ap (λ k. get_or table.slots k Empty) (sym same) ∙ e)))
        (cases_lt s n);
    peaks = old.peaks;
    order = old.order;
  }

  step : (n : ℕ) (v r : ℕ → ℕ) → n < 24 → (x : Slot) → get_or table.slots n Empty ≡ x → Lowered n v r → (r' : ℕ → ℕ) × Lowered (suc n) v r'
  step n v r within Empty e old = (r, lowered_same n v r (λ b at. absurd (let z = sym e ∙ at in cc)) old)
  step n v r within (Running d) e old = (r, lowered_same n v r (λ b at. absurd (let z = sym e ∙ at in cc)) old)
  step n v r within (Booked b) e old =
      ⊎_elim
      (λ fine. (r, lowered_same n v r (λ c at. fine) old))
      (λ high. (next n b v r within e old high, lowered_next n b v r within e old high))
      (cases_lt (r n) (get_or hs n 0))

  pub lowered : (v : ℕ → ℕ) → Choice table.slots v → (n : ℕ) → n ≤ 24 → (r : ℕ → ℕ) × Lowered n v r
  lowered v choice zero within = (v, record { choice = choice; low = λ s b below e. absurd (omega arith); peaks = λ k reach. reach; order = inl (λ s b e. refl) })
  lowered v choice (suc n) within =
      let old = lowered v choice n (omega arith) in
      step n v old.0 (omega arith) (get_or table.slots n Empty) refl old.1
