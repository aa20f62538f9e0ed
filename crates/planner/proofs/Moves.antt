-- A choice whose waits are all moved by the same number of ticks.
use Rattle.std.proofs.Common.{◌≡◌, ℕ, ◌+◌, ◌%◌, true, false, cond, ltb, List, get_or, Some, None, sym, refl, ap, ◌∙◌, mod-eq_of_lt}
use Prim.Native.Nat.{◌∣◌}
use Rattle.std.proofs.lemmas.List.{ext_get_or}
use Rattle.congruence.specs.Clocks.{Valid}
use Rattle.congruence.proofs.Meetings.{mod_more}
use Rattle.draws.specs.declared.draw.Draw.{Draw}
use Rattle.table.specs.declared.slot.Booking.{Booking}
use Rattle.table.specs.declared.slot.Slot.{Slot}
use Rattle.table.specs.declared.slot.Slot.TheVariants.{Empty, Booked, Running}
use Rattle.table.specs.Slots.{started}
use Rattle.table.specs.Tables.{place_of, places}
use Rattle.table.proofs.Started.{get_or_places, length_places}
use Rattle.planner.specs.Choices.{BookedAt}
use Rattle.planner.proofs.Slides.{get_or_slid, length_slid, moved, moved_place, slid}

-- the wait x of what a socket holds, T ticks on
abbrev pub moved_wait : ℕ → Slot → ℕ → ℕ
moved_wait T Empty x = x
moved_wait T (Booked b) x = (x + T) % b.period
moved_wait T (Running d) x = x

abbrev pub moved_waits : List Slot → ℕ → (ℕ → ℕ) → ℕ → ℕ
moved_waits slots T w s = moved_wait T (get_or slots s Empty) (w s)

pub moved_booked : (slots : List Slot) (T : ℕ) (w : ℕ → ℕ) (s : ℕ) (b : Booking) → BookedAt slots s b → moved_waits slots T w s ≡ (w s + T) % b.period
moved_booked slots T w s b e = ap (λ x. moved_wait T x (w s)) e

-- a clock whose period divides T stands as it stood
pub unmoved : (T : ℕ) (d : Draw) → Valid d.clock → d.clock.period ∣ T → d ≡ moved T d
unmoved T d valid divides = ap (λ w. record { clock = record { period = d.clock.period; wait = w }; rating = d.rating }) (sym (mod_more d.clock.wait T d.clock.period divides ∙ mod-eq_of_lt valid.below))

-- where every running period divides T, the whole list is moved
pub places_moved : (slots : List Slot) (n T : ℕ) (w : ℕ → ℕ) → ((s : ℕ) (d : Draw) → get_or slots s Empty ≡ Running d → Valid d.clock × (d.clock.period ∣ T)) → places slots n (moved_waits slots T w) ≡ slid T (places slots n w)
places_moved slots n T w still =
    ext_get_or None (places slots n (moved_waits slots T w)) (slid T (places slots n w)) (length_places n (moved_waits slots T w) slots ∙ sym (length_slid T (places slots n w) ∙ length_places n w slots))
    (λ s low. get_or_places n (moved_waits slots T w) slots s ∙ go s (get_or slots s Empty) refl ∙ sym (ap (moved_place T) (get_or_places n w slots s)) ∙ sym (get_or_slid T (places slots n w) s))
  where
    go : (s : ℕ) (x : Slot) → get_or slots s Empty ≡ x → place_of n (moved_waits slots T w) s (get_or slots s Empty) ≡ moved_place T (place_of n w s (get_or slots s Empty))
    go s Empty e = ap (place_of n (moved_waits slots T w) s) e ∙ sym (ap (λ x. moved_place T (place_of n w s x)) e)
    go s (Running d) e =
        let h = still s d e in
        ap (place_of n (moved_waits slots T w) s) e ∙ ap Some (unmoved T d h.0 h.1) ∙ sym (ap (λ x. moved_place T (place_of n w s x)) e)
    go s (Booked b) e =
        ap (place_of n (moved_waits slots T w) s) e
        ∙ ap (λ k. cond (ltb s n) (Some (started b k)) None) (moved_booked slots T w s b e)
        ∙ branch (ltb s n)
        ∙ sym (ap (λ x. moved_place T (place_of n w s x)) e)
      where
        branch : (c : mathlib.Core.Bool.Bool) → cond c (Some (started b ((w s + T) % b.period))) None ≡ moved_place T (cond c (Some (started b (w s))) None)
        branch true = refl
        branch false = refl
