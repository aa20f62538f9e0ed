-- The boxes of the first sockets, started one after the other.
use Rattle.std.proofs.Common.{◌≡◌, ℕ, ◌+◌, ◌<◌, ◌≤◌, false, List, length, get_or, set, replicate, is_some, Some, None, sym, refl, ap, ◌∙◌, ⊎_elim, arith}
use borrow.Author.Count.{below_more}
use Rattle.std.specs.Prelude.{unwrap_or}
use Rattle.std.proofs.lemmas.List.{get_or_past, get_or-set_other, get_or-set_same, length-set}
use Rattle.std.proofs.lemmas.Bool.{cases_lt}
use Rattle.load.specs.Kinds.{Kind}
use Rattle.draws.specs.Draws.{Peak}
use Rattle.table.specs.declared.slot.Booking.{Booking}
use Rattle.table.specs.declared.slot.Slot.{Slot}
use Rattle.table.specs.declared.slot.Slot.TheVariants.{Empty, Booked, Running}
use Rattle.table.specs.declared.table.Table.{Table}
use Rattle.table.specs.Slots.{started}
use Rattle.table.specs.Tables.{running}
use Rattle.planner.specs.declared.prefix.Prefix.{Prefix}
use Rattle.planner.specs.Choices.{BookedAt}
use Rattle.planner.specs.Plans.{JustBooked, is_booked, waits_of}
use Rattle.planner.specs.Searches.{Begun, Boxed}
use Rattle.planner.proofs.Factored.{none_at}
use Rattle.planner.proofs.Placing.{booked_within, places_agree, places_set, places_skip}

unbooked : (x : Slot) → ((b : Booking) → x ≡ Booked b → ⊥) → is_booked x ≡ false
unbooked Empty none = refl
unbooked (Booked b) none = absurd (none b refl)
unbooked (Running d) none = refl

module _ {L : Type 0} (K : Kind L) (table : Table) (hs : List ℕ) where
  pub begun_none : (prefix : Prefix) → prefix.list.places ≡ running table.slots → Peak K prefix.list.places prefix.peak → prefix.waits ≡ replicate 24 None → Begun K table.slots hs 0 prefix
  begun_none prefix list peak waits = record {
    within = omega arith;
    list = list ∙ places_agree table.slots 0 (λ s. 0) (waits_of prefix.waits) (λ s b low at. absurd (omega arith));
    is_peak = peak;
    long = ap length waits;
    low = λ s low b at. absurd (omega arith);
    booked = λ s low. absurd (omega arith);
    ahead = λ s past. ap (λ l. get_or l s None) waits ∙ none_at 24 s;
  }

  module _ (n : ℕ) (prefix : Prefix) (begun : Begun K table.slots hs n prefix) where
    pub begun_skip : n < 24 → ((b : Booking) → BookedAt table.slots n b → ⊥) → Begun K table.slots hs (n + 1) prefix
    begun_skip within none = record {
      within = omega arith;
      list = begun.list ∙ sym (places_skip table.slots n (waits_of prefix.waits) none);
      is_peak = begun.is_peak;
      long = begun.long;
      low = below_more (λ s. (b : Booking) → BookedAt table.slots s b → waits_of prefix.waits s < get_or hs s 0) n begun.low (λ b at. absurd (none b at));
      booked = below_more (λ s. is_some (get_or prefix.waits s None) ≡ is_booked (get_or table.slots s Empty)) n begun.booked (ap is_some (begun.ahead n (omega arith)) ∙ sym (unbooked (get_or table.slots n Empty) none));
      ahead = λ s past. begun.ahead s (omega arith);
    }

    module _ (b : Booking) (at : BookedAt table.slots n b) (k : ℕ) (low : k < get_or hs n 0) (next : Prefix) (boxed : Boxed K prefix n b k next) where
      last : n < 24
      last = omega (arith, booked_within table.slots n b at, table.whole)

      -- the waits after one more
      here : get_or next.waits n None ≡ Some k
      here = ap (λ l. get_or l n None) boxed.waits ∙ get_or-set_same prefix.waits n (Some k) None (omega (arith, begun.long, last))

      there : (s : ℕ) → (s ≡ n → ⊥) → get_or next.waits s None ≡ get_or prefix.waits s None
      there s other = ap (λ l. get_or l s None) boxed.waits ∙ get_or-set_other prefix.waits n s (Some k) None other

      pub next_here : waits_of next.waits n ≡ k
      next_here = ap (λ o. unwrap_or o 0) here

      pub next_there : (s : ℕ) → (s ≡ n → ⊥) → waits_of next.waits s ≡ waits_of prefix.waits s
      next_there s other = ap (λ o. unwrap_or o 0) (there s other)

      pub begun_next : Begun K table.slots hs (n + 1) next
      begun_next = record {
        within = omega (arith, last);
        list = boxed.list ∙ ap (λ ps. set ps n (Some (started b k))) begun.list ∙ places_set table.slots n b (waits_of prefix.waits) (waits_of next.waits) k at (λ s c less e. sym (next_there s (λ same. omega arith))) next_here;
        is_peak = boxed.is_peak;
        long = ap length boxed.waits ∙ length-set prefix.waits n (Some k) ∙ begun.long;
        low = below_more (λ s. (c : Booking) → BookedAt table.slots s c → waits_of next.waits s < get_or hs s 0) n
            (λ s less c e. omega (arith, begun.low s less c e, next_there s (λ same. omega arith)))
            (λ c e. omega (arith, low, next_here));
        booked = below_more (λ s. is_some (get_or next.waits s None) ≡ is_booked (get_or table.slots s Empty)) n
            (λ s less. ap is_some (there s (λ same. omega arith)) ∙ begun.booked s less)
            (ap is_some here ∙ sym (ap is_booked at));
        ahead = λ s past. there s (λ same. omega arith) ∙ begun.ahead s (omega arith);
      }

  -- no socket is left
  pub just_booked : (n : ℕ) (prefix : Prefix) → 24 ≤ n → Begun K table.slots hs n prefix → JustBooked table.slots prefix.waits
  just_booked n prefix all begun s =
      ⊎_elim
      (λ low. begun.booked s low)
      (λ past. ap is_some (begun.ahead s past) ∙ sym (ap is_booked (get_or_past table.slots s Empty (omega (arith, table.whole)))))
      (cases_lt s n)
