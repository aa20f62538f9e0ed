-- The places of a table, socket by socket.
use Rattle.std.proofs.Common.{◌≡◌, ℕ, zero, suc, ◌+◌, ◌<◌, ◌≤◌, true, ltb, leb, List, [], ◌∷◌, length, get_or, None, sym, refl, ap, ◌∙◌, ⊎_elim, arith}
use Rattle.std.proofs.lemmas.List.{ext_get_or, get_or_past}
use Rattle.std.proofs.lemmas.Bool.{and_parts, cases_lt, leb-true, ltb-true}
use Rattle.congruence.specs.Clocks.{Valid}
use Rattle.draws.specs.declared.draw.Draw.{Draw}
use Rattle.congruence.specs.Refusals.{period_check}
use Rattle.congruence.proofs.Verdicts.{all_pass}
use Rattle.draws.specs.Checks.{range_check}
use Rattle.draws.specs.Draws.{Places}
use Rattle.draws.proofs.Sounds.{sound_valid}
use Rattle.table.specs.declared.slot.Booking.{Booking}
use Rattle.table.specs.declared.slot.Slot.{Slot}
use Rattle.table.specs.declared.slot.Slot.TheVariants.{Empty, Booked, Running}
use Rattle.table.specs.declared.table.Table.{Table}
use Rattle.table.specs.Slots.{Bookable, sound_slot, started}
use Rattle.table.specs.Tables.{place_of, places, places_from, running}

module _ (n : ℕ) (w : ℕ → ℕ) where
  length_from : (s : ℕ) (slots : List Slot) → length (places_from n w s slots) ≡ length slots
  unfolding places_from
  length_from s [] = refl
  length_from s (x ∷ xs) = ap suc (length_from (suc s) xs)

  get_or_from : (s : ℕ) (slots : List Slot) (k : ℕ) → get_or (places_from n w s slots) k None ≡ place_of n w (s + k) (get_or slots k Empty)
  unfolding places_from
  get_or_from s [] k = refl
  get_or_from s (x ∷ xs) zero = ap (λ j. place_of n w j x) (omega arith)
  get_or_from s (x ∷ xs) (suc k) = get_or_from (suc s) xs k ∙ ap (λ j. place_of n w j (get_or xs k Empty)) (omega arith)

  pub length_places : (slots : List Slot) → length (places slots n w) ≡ length slots
  length_places slots = length_from 0 slots

  pub get_or_places : (slots : List Slot) (k : ℕ) → get_or (places slots n w) k None ≡ place_of n w k (get_or slots k Empty)
  get_or_places slots k = get_or_from 0 slots k ∙ ap (λ j. place_of n w j (get_or slots k Empty)) (omega arith)

-- the first n places are those of the running boxes, and the others empty still
pub record Listed (slots : List Slot) (n : ℕ) (ps : Places) : Type 0 where
  pub long : length ps ≡ length slots
  pub done : (k : ℕ) → k < n → get_or ps k None ≡ place_of 0 (λ s. 0) k (get_or slots k Empty)
  pub empty : (k : ℕ) → n ≤ k → get_or ps k None ≡ None

pub listed_all : (slots : List Slot) (n : ℕ) (ps : Places) → length slots ≤ n → Listed slots n ps → ps ≡ running slots
listed_all slots n ps all l =
    ext_get_or None ps (running slots) (l.long ∙ sym (length_places 0 (λ s. 0) slots))
    (λ k low. l.done k (omega (arith, l.long)) ∙ sym (get_or_places 0 (λ s. 0) slots k))

sound_at : (table : Table) (s : ℕ) → sound_slot (get_or table.slots s Empty) ≡ true
sound_at table s =
    ⊎_elim
    (λ low. table.ranges s low)
    (λ past. ap sound_slot (get_or_past table.slots s Empty (omega (arith, table.whole))))
    (cases_lt s 24)

pub bookable : (table : Table) (s : ℕ) (b : Booking) → get_or table.slots s Empty ≡ Booked b → Bookable b
bookable table s b e =
    let all = all_pass (period_check b.period ∷ (range_check b.rating ∷ [])) (ap sound_slot (sym e) ∙ sound_at table s) in
    let range = and_parts (ltb 0 b.period) (leb b.period 1000) all.0 in
    record { some = ltb-true _ _ range.0; most = leb-true _ _ range.1; range = all.1.0 }

pub running_valid : (table : Table) (s : ℕ) (d : Draw) → get_or table.slots s Empty ≡ Running d → Valid d.clock
running_valid table s d e = sound_valid d (ap sound_slot (sym e) ∙ sound_at table s)

-- and so can a booked one that has started
pub started_valid : {b : Booking} {w : ℕ} → Bookable b → w < b.period → Valid (started b w).clock
started_valid fits below = record { some = fits.some; most = fits.most; below = below }
