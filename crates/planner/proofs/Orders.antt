-- The order of choices.
use Rattle.std.proofs.Common.{◌≡◌, ℕ, ◌<◌, ◌⊎◌, List, sym, ◌∙◌, subst, ⊎_elim, arith}
use Rattle.std.proofs.lemmas.Bool.{cases_order}
use Rattle.table.specs.declared.slot.Booking.{Booking}
use Rattle.table.specs.declared.slot.Slot.{Slot}
use Rattle.planner.specs.Choices.{BookedAt, Earlier}

module _ (slots : List Slot) where
  -- the same waits for all booked boxes
  abbrev pub Same : (v w : ℕ → ℕ) → Type 0
  Same v w = (s : ℕ) (b : Booking) → BookedAt slots s b → v s ≡ w s

  -- v is w, or comes before it
  abbrev pub NotLater : (v w : ℕ → ℕ) → Type 0
  NotLater v w = Same v w ⊎ Earlier slots v w

  pub earlier_trans : (u v w : ℕ → ℕ) → Earlier slots u v → Earlier slots v w → Earlier slots u w
  earlier_trans u v w x y =
      ⊎_elim
      (λ e. record {
        socket = x.socket;
        booking = x.booking;
        booked = x.booked;
        less = omega (arith, x.less, subst (λ s. v s < w s) (sym e) y.less);
        same = λ j b low at. x.same j b low at ∙ y.same j b (omega arith) at;
      })
      (⊎_elim
      (λ before. record {
        socket = x.socket;
        booking = x.booking;
        booked = x.booked;
        less = omega (arith, x.less, y.same x.socket x.booking before x.booked);
        same = λ j b low at. x.same j b low at ∙ y.same j b (omega arith) at;
      })
      (λ after. record {
        socket = y.socket;
        booking = y.booking;
        booked = y.booked;
        less = omega (arith, y.less, x.same y.socket y.booking after y.booked);
        same = λ j b low at. x.same j b (omega arith) at ∙ y.same j b low at;
      }))
      (cases_order x.socket y.socket)

  pub earlier_same : (u v w : ℕ → ℕ) → Earlier slots u v → Same v w → Earlier slots u w
  earlier_same u v w x same = record {
    socket = x.socket;
    booking = x.booking;
    booked = x.booked;
    less = omega (arith, x.less, same x.socket x.booking x.booked);
    same = λ j b low at. x.same j b low at ∙ same j b at;
  }

  pub same_earlier : (u v w : ℕ → ℕ) → Same u v → Earlier slots v w → Earlier slots u w
  same_earlier u v w same x = record {
    socket = x.socket;
    booking = x.booking;
    booked = x.booked;
    less = omega (arith, x.less, same x.socket x.booking x.booked);
    same = λ j b low at. same j b at ∙ x.same j b low at;
  }

  pub earlier_not_later : (u v w : ℕ → ℕ) → Earlier slots u v → NotLater v w → Earlier slots u w
  earlier_not_later u v w x = ⊎_elim (earlier_same u v w x) (earlier_trans u v w x)

  pub not_later_earlier : (u v w : ℕ → ℕ) → NotLater u v → Earlier slots v w → Earlier slots u w
  not_later_earlier u v w n x = ⊎_elim (λ same. same_earlier u v w same x) (λ before. earlier_trans u v w before x) n
