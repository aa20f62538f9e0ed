-- The booked boxes of a table with their factors, socket by socket.
use Rattle.std.proofs.Common.{◌≡◌, ℕ, zero, suc, ◌+◌, ◌<◌, ◌≤◌, List, length, get_or, set, replicate, Some, None, MatchOption, Option, sym, refl, ap, ◌∙◌, subst, arith}
use borrow.Author.Count.{below_more}
use Rattle.std.proofs.lemmas.List.{get_or-map, get_or-set_other, get_or-set_same, length-map, length-set}
use Rattle.draws.specs.Draws.{Places, periods_of}
use Rattle.draws.specs.Factors.{Factor}
use Rattle.table.specs.declared.slot.Booking.{Booking}
use Rattle.table.specs.declared.slot.Slot.{Slot}
use Rattle.table.specs.declared.slot.Slot.TheVariants.{Empty, Booked, Running}
use Rattle.table.specs.Slots.{started}
use Rattle.table.specs.Tables.{places}
use Rattle.planner.specs.declared.berth.Berth.{Berth}
use Rattle.planner.specs.Berths.{BerthAt, Berths, IsBerth, factor_of, factors_of}
use Rattle.planner.specs.Choices.{BookedAt}
use Rattle.planner.specs.Settings.{Counted, FactorAt, Factors, beside, most_settings, product}
use Rattle.planner.proofs.Placing.{booked_within, places_set, places_skip}

-- no place of an empty list holds anything
pub none_at : {X : Type 0} (n s : ℕ) → get_or {A = Option X} (replicate n None) s None ≡ None
none_at zero s = refl
none_at (suc n) zero = refl
none_at (suc n) (suc s) = none_at n s

-- the booked boxes of the first n sockets, none behind them, and the boxes that count there
pub record BerthsTo (slots : List Slot) (n : ℕ) (xs : List (Option Berth)) (ps : Places) : Type 0 where
  pub long : length xs ≡ length slots
  pub at : (s : ℕ) → s < n → BerthAt slots s (get_or xs s None)
  pub ahead : (s : ℕ) → n ≤ s → get_or xs s None ≡ None
  pub list : ps ≡ places slots n (λ j. 0)

module _ (slots : List Slot) (n : ℕ) (xs : List (Option Berth)) (ps : Places) (f : BerthsTo slots n xs ps) where
  pub berths_skip : ((b : Booking) → BookedAt slots n b → ⊥) → BerthsTo slots (n + 1) xs ps
  berths_skip none = record {
    long = f.long;
    at = below_more (λ s. BerthAt slots s (get_or xs s None)) n f.at (subst (BerthAt slots n) (sym (f.ahead n (omega arith))) none);
    ahead = λ s past. f.ahead s (omega arith);
    list = f.list ∙ sym (places_skip slots n (λ j. 0) none);
  }

  pub berths_more : (x : Berth) (qs : Places) → x.socket ≡ n → BookedAt slots n x.booking → Factor (periods_of ps) x.booking.period x.factor → qs ≡ set ps n (Some (started x.booking 0)) → BerthsTo slots (n + 1) (set xs n (Some x)) qs
  berths_more x qs here booked factor is =
      let within : n < length xs = omega (arith, f.long, booked_within slots n x.booking booked) in
      let box : IsBerth slots n x = record { socket = here; booked = booked; factor = subst (λ l. Factor (periods_of l) x.booking.period x.factor) f.list factor } in
      record {
        long = length-set xs n (Some x) ∙ f.long;
        at = below_more (λ s. BerthAt slots s (get_or (set xs n (Some x)) s None)) n
            (λ s low. subst (BerthAt slots s) (sym (get_or-set_other xs n s (Some x) None (λ same. omega arith))) (f.at s low))
            (subst (BerthAt slots n) (sym (get_or-set_same xs n (Some x) None within)) box);
        ahead = λ s past. get_or-set_other xs n s (Some x) None (λ same. omega arith) ∙ f.ahead s (omega arith);
        list = is ∙ ap (λ l. set l n (Some (started x.booking 0))) f.list ∙ places_set slots n x.booking (λ j. 0) (λ j. 0) 0 booked (λ j c low e. refl) refl;
      }

module _ (slots : List Slot) (xs : List (Option Berth)) (f : Berths slots xs) where
  pub factors : Factors slots (factors_of xs)
  factors = record {
    long = length-map xs factor_of ∙ f.long;
    at = λ s low. subst (FactorAt slots s (get_or slots s Empty)) (sym (get_or-map factor_of xs s None 0 (omega (arith, f.long)))) (go s (get_or slots s Empty) refl (get_or xs s None) (f.at s));
  }
    where
      go : (s : ℕ) (y : Slot) → get_or slots s Empty ≡ y → (p : Option Berth) → BerthAt slots s p → FactorAt slots s y (factor_of p)
      go s Empty e None h = refl
      go s Empty e (Some x) h = absurd (let z = sym e ∙ h.booked in cc)
      go s (Booked b) e None h = absurd (h b e)
      go s (Booked b) e (Some x) h = let same : x.booking ≡ b = let z = sym h.booked ∙ e in cc in subst (λ c. Factor (beside slots s) c.period x.factor) same h.factor
      go s (Running d) e None h = refl
      go s (Running d) e (Some x) h = absurd (let z = sym e ∙ h.booked in cc)

  -- what stands at a place
  module _ (s : ℕ) (low : s < length slots) where
    pub none_booked : get_or xs s None ≡ None → (b : Booking) → BookedAt slots s b → ⊥
    none_booked e = subst (BerthAt slots s) e (f.at s)

    module _ (x : Berth) (e : get_or xs s None ≡ Some x) where
      pub is_berth : IsBerth slots s x
      is_berth = subst (BerthAt slots s) e (f.at s)

      pub its_factor : get_or (factors_of xs) s 0 ≡ x.factor
      its_factor = get_or-map factor_of xs s None 0 (omega (arith, f.long)) ∙ ap factor_of e

-- the product of the factors is the number of settings
pub counted_by : (slots : List Slot) (hs : List ℕ) → Factors slots hs → (r : Option ℕ) → MatchOption r (most_settings < product hs) (λ n. (n ≡ product hs) × (n ≤ most_settings)) → Counted slots r
counted_by slots hs f None more = (product hs, (hs, f, refl), more)
counted_by slots hs f (Some n) is = ((hs, f, sym is.0), is.1)
