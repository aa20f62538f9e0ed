-- The best wait of one box, and the boxes fitted so far.
use Rattle.std.proofs.lemmas.Option.{none-some, same_Some}
use Rattle.std.proofs.Common.{◌≡◌, ℕ, suc, ◌+◌, ◌%◌, ◌<◌, ◌≤◌, max, cond, eqb, List, length, get_or, set, Some, None, Option, sym, refl, ap, ◌∙◌, subst, ⊎_elim, mod-lt, arith}
use Prim.Native.Nat.{◌∣◌}
use borrow.Author.Count.{below_more}
use Rattle.std.proofs.lemmas.List.{ext_get_or, get_or-set_other, get_or-set_same, length-set}
use Rattle.std.proofs.lemmas.Bool.{cases_eq, cases_lt, cond-false, cond-true, eq-eqb, ne_eqb}
use Rattle.congruence.specs.Clocks.{Valid}
use Rattle.load.specs.Kinds.{Kind, Laws}
use Rattle.draws.specs.declared.draw.Draw.{Draw}
use Rattle.draws.specs.Draws.{Passes, Peak, Places, Reaches, periods_of}
use Rattle.draws.specs.Factors.{Factor}
use Rattle.draws.proofs.Cliques.{AllValid}
use Rattle.draws.proofs.Factoring.{factor_some}
use Rattle.draws.proofs.Peaks.{reaches_alone, reaches_more, reaches_peak}
use Rattle.draws.proofs.Periods.{periods_at}
use Rattle.draws.proofs.Sounds.{all_valid}
use Rattle.table.specs.declared.slot.Booking.{Booking}
use Rattle.table.specs.declared.slot.Slot.{Slot}
use Rattle.table.specs.declared.table.Table.{Table}
use Rattle.table.specs.Slots.{Bookable, started}
use Rattle.table.specs.Tables.{places}
use Rattle.table.proofs.Started.{started_valid}
use Rattle.planner.specs.declared.berth.Berth.{Berth}
use Rattle.planner.specs.declared.prefix.Prefix.{Prefix}
use Rattle.planner.specs.Berths.{IsBerth}
use Rattle.planner.specs.Choices.{BookedAt, Fitted, FittedAt, fitting}
use Rattle.planner.specs.Plans.{waits_of}
use Rattle.planner.specs.Searches.{Begun, BestWait, Boxed, Fits, Joins}
use Rattle.planner.specs.Settings.{Factors}
use Rattle.planner.proofs.Moves.{unmoved}
use Rattle.planner.proofs.Outcomes.{below_period, reaches_less, reaches_max}
use Rattle.planner.proofs.Placing.{Agree, booked_within, periods_places, place_waiting, places_agree, places_set}
use Rattle.planner.proofs.Prefixes.{begun_next, begun_skip, next_here, next_there}
use Rattle.planner.proofs.Slides.{get_or_slid, length_slid, moved_place, reaches_moved, slid, slide_to}

-- beside the boxes of a list
module _ {L : Type 0} (K : Kind L) (laws : Laws K) (ps : Places) (s : ℕ) (b : Booking) (few : length ps ≤ 64) (valid : AllValid ps) (within : s < length ps) (fits : Bookable b) where
  with_box : ℕ → Places
  with_box x = set ps s (Some (started b x))

  with_valid : (x : ℕ) → x < b.period → AllValid (with_box x)
  unfolding with_box
  with_valid x low j d e =
      ⊎_elim
      (λ here. subst (λ k. Valid k.clock) (same_Some _ _ (sym (get_or-set_same ps s (Some (started b x)) None within) ∙ ap (λ i. get_or (set ps s (Some (started b x))) i None) (sym here) ∙ e)) (started_valid fits low))
      (λ other. valid j d (sym (get_or-set_other ps s j (Some (started b x)) None other) ∙ e))
      (cases_eq j s)

  -- every wait reaches what the box measures alone
  pub with_reaches_alone : (x : ℕ) → x < b.period → Reaches K (set ps s (Some (started b x))) (K.measure (K.load b.rating))
  with_reaches_alone x low = reaches_alone K laws (set ps s (Some (started b x))) s (started b x) (omega (arith, length-set ps s (Some (started b x)))) (get_or-set_same ps s (Some (started b x)) None within) (started_valid fits low)

  -- and the peak of the list, where the box is not started yet
  pub with_reaches_list : get_or ps s None ≡ None → (peak : ℕ) → Peak K ps peak → (x : ℕ) → Reaches K (set ps s (Some (started b x))) peak
  with_reaches_list empty peak is_peak x =
      reaches_more K laws ps (set ps s (Some (started b x))) peak
      (λ j d e. ⊎_elim (λ here. absurd (none-some _ (sym empty ∙ ap (λ i. get_or ps i None) (sym here) ∙ e))) (λ other. get_or-set_other ps s j (Some (started b x)) None other ∙ e) (cases_eq j s))
      (sym (length-set ps s (Some (started b x)))) (omega (arith, length-set ps s (Some (started b x)))) (reaches_peak K peak (omega arith) is_peak)

  -- a wait and its remainder by the factor
  pub with_reduced : (h x : ℕ) → Factor (periods_of ps) b.period h → x < b.period → (n : ℕ) → Reaches K (set ps s (Some (started b (x % h)))) n → Reaches K (set ps s (Some (started b x))) n
  unfolding with_box
  with_reduced h x f low n reach =
      let move = slide_to (periods_of ps) b.period h x fits.some low f in
      let T = move.0 in
      let same : set ps s (Some (started b (x % h))) ≡ slid T (set ps s (Some (started b x))) =
      ext_get_or None _ _ (length-set ps s (Some (started b (x % h))) ∙ sym (length_slid T (set ps s (Some (started b x))) ∙ length-set ps s (Some (started b x))))
      (λ j below. at T move.1 move.2 j) in
      reaches_moved K laws T (set ps s (Some (started b x))) (with_valid x low) n (subst (λ qs. Reaches K qs n) same reach)
    where
      still : (T : ℕ) → Rattle.std.specs.List.AllByRecursion (λ q. q ∣ T) (periods_of ps) → (j : ℕ) (p : Option Draw) → get_or ps j None ≡ p → p ≡ moved_place T p
      still T all j None e = refl
      still T all j (Some d) e = ap Some (unmoved T d (valid j d e) (periods_at (λ q. q ∣ T) ps all j d e))

      at : (T : ℕ) → Rattle.std.specs.List.AllByRecursion (λ q. q ∣ T) (periods_of ps) → (x + T) % b.period ≡ x % h → (j : ℕ) → get_or (set ps s (Some (started b (x % h)))) j None ≡ get_or (slid T (set ps s (Some (started b x)))) j None
      at T all is j =
          ⊎_elim
          (λ here.
          ap (λ i. get_or (set ps s (Some (started b (x % h)))) i None) here ∙ get_or-set_same ps s (Some (started b (x % h))) None within ∙ ap (λ k. Some (started b k)) (sym is)
          ∙ ap (moved_place T) (sym (get_or-set_same ps s (Some (started b x)) None within)) ∙ sym (get_or_slid T (set ps s (Some (started b x))) s) ∙ ap (λ i. get_or (slid T (set ps s (Some (started b x)))) i None) (sym here))
          (λ other.
          get_or-set_other ps s j (Some (started b (x % h))) None other ∙ still T all j (get_or ps j None) refl ∙ ap (moved_place T) (sym (get_or-set_other ps s j (Some (started b x)) None other)) ∙ sym (get_or_slid T (set ps s (Some (started b x))) j))
          (cases_eq j s)

  -- the waits below the factor stand for all
  pub best_all : (h k x peak : ℕ) → Factor (periods_of ps) b.period h → h ≤ k → x < b.period → BestWait K ps s b k x peak → BestWait K ps s b b.period x peak
  best_all h k x peak f all below best = record {
    low = below;
    is_peak = best.is_peak;
    least = λ y low. with_reduced h y f low peak (best.least (y % h) (omega (arith, mod-lt y (factor_some fits.some f))));
    first = best.first;
  }

  -- nothing can be less
  pub best_stop : (k x peak : ℕ) → x < b.period → ((y : ℕ) → y < b.period → Reaches K (set ps s (Some (started b y))) peak) → BestWait K ps s b k x peak → BestWait K ps s b b.period x peak
  best_stop k x peak below all best = record { low = below; is_peak = best.is_peak; least = all; first = best.first }

  -- one wait more
  module _ (k x peak : ℕ) (best : BestWait K ps s b k x peak) (next : ℕ) (p : Peak K (set ps s (Some (started b k))) next) where
    at_last : (y n : ℕ) → y < k + 1 → k ≤ y → n ≤ next → Reaches K (set ps s (Some (started b y))) n
    at_last y n low high less = let same : k ≡ y = omega arith in subst (λ j. Reaches K (set ps s (Some (started b j))) n) same (reaches_peak K n less p)

    pub best_better : next < peak → BestWait K ps s b (k + 1) k next
    best_better better = record {
      low = omega arith;
      is_peak = p;
      least = λ y low. ⊎_elim (λ before. reaches_less K (set ps s (Some (started b y))) next peak (omega arith) (best.least y before)) (λ last. at_last y next low last (omega arith)) (cases_lt y k);
      first = λ y low. reaches_less K (set ps s (Some (started b y))) (suc next) peak better (best.least y low);
    }

    pub best_kept : peak ≤ next → BestWait K ps s b (k + 1) x peak
    best_kept kept = record {
      low = omega (arith, best.low);
      is_peak = best.is_peak;
      least = λ y low. ⊎_elim (λ before. best.least y before) (λ last. at_last y peak low last kept) (cases_lt y k);
      first = best.first;
    }

-- the best wait so far of a box that joins a prefix
module _ {L : Type 0} (K : Kind L) (laws : Laws K) (prefix : Prefix) (x : Berth) (joins : Joins K prefix x) where
  few : length prefix.list.places ≤ 64
  few = omega (arith, prefix.list.whole)

  within : x.socket < length prefix.list.places
  within = omega (arith, prefix.list.whole, x.within)

  peak_at : (k : ℕ) (next : Prefix) → Boxed K prefix x.socket x.booking k next → Peak K (set prefix.list.places x.socket (Some (started x.booking k))) next.peak
  peak_at k next boxed = subst (λ ps. Peak K ps next.peak) boxed.list boxed.is_peak

  -- one wait more
  module _ (k : ℕ) (best next : Prefix) (old : Fits K prefix x k best) (boxed : Boxed K prefix x.socket x.booking k next) where
    pub fits_better : k < x.factor → next.peak < best.peak → Fits K prefix x (k + 1) next
    fits_better low better = record {
      wait = k;
      low = low;
      boxed = boxed;
      best = best_better K laws prefix.list.places x.socket x.booking few (all_valid prefix.list) within x.bookable k old.wait best.peak old.best next.peak (peak_at k next boxed) better;
    }

    pub fits_kept : best.peak ≤ next.peak → Fits K prefix x (k + 1) best
    fits_kept kept = record {
      wait = old.wait;
      low = old.low;
      boxed = old.boxed;
      best = best_kept K laws prefix.list.places x.socket x.booking few (all_valid prefix.list) within x.bookable k old.wait best.peak old.best next.peak (peak_at k next boxed) kept;
    }

  module _ (k : ℕ) (best : Prefix) (old : Fits K prefix x k best) where
    below : old.wait < x.booking.period
    below = omega (arith, old.low, x.within_period)

    pub fits_all : x.factor ≤ k → Fits K prefix x x.booking.period best
    fits_all all = record {
      wait = old.wait;
      low = old.low;
      boxed = old.boxed;
      best = best_all K laws prefix.list.places x.socket x.booking few (all_valid prefix.list) within x.bookable x.factor k old.wait best.peak joins.factor all below old.best;
    }

    -- nothing can be less than the peak of the prefix and what the box measures alone
    pub fits_stop : (least : ℕ) → least ≡ max prefix.peak (K.measure (K.load x.booking.rating)) → best.peak ≤ least → Fits K prefix x x.booking.period best
    fits_stop least is low = record {
      wait = old.wait;
      low = old.low;
      boxed = old.boxed;
      best = best_stop K laws prefix.list.places x.socket x.booking few (all_valid prefix.list) within x.bookable k old.wait best.peak below
          (λ y less.
          reaches_max K (set prefix.list.places x.socket (Some (started x.booking y))) prefix.peak (K.measure (K.load x.booking.rating)) least best.peak is low
          (with_reaches_list K laws prefix.list.places x.socket x.booking few (all_valid prefix.list) within x.bookable joins.empty prefix.peak joins.is_peak y)
          (with_reaches_alone K laws prefix.list.places x.socket x.booking few (all_valid prefix.list) within x.bookable y less))
          old.best;
    }

-- two functions that agree up to s fit alike
pub fitting_agree : (slots : List Slot) (v w : ℕ → ℕ) (s x : ℕ) → Agree slots s v w → fitting slots v s x ≡ fitting slots w s x
fitting_agree slots v w s x agree =
    places_agree slots (s + 1) (λ j. cond (eqb j s) x (v j)) (λ j. cond (eqb j s) x (w j))
    (λ j b low at.
    ⊎_elim
    (λ here. cond-true _ _ _ (eq-eqb j s here) ∙ sym (cond-true _ _ _ (eq-eqb j s here)))
    (λ other. cond-false _ _ _ (ne_eqb j s other) ∙ agree j b (omega arith) at ∙ sym (cond-false _ _ _ (ne_eqb j s other)))
    (cases_eq j s))

-- the list with a box more, as it is fitted
pub fitting_set : (slots : List Slot) (w : ℕ → ℕ) (s : ℕ) (b : Booking) (x : ℕ) → BookedAt slots s b → set (places slots s w) s (Some (started b x)) ≡ fitting slots w s x
fitting_set slots w s b x at =
    places_set slots s b w (λ j. cond (eqb j s) x (w j)) x at (λ j c low e. sym (cond-false _ _ _ (ne_eqb j s (λ here. omega arith)))) (cond-true _ _ _ (eq-eqb s s refl))

module _ {L : Type 0} (K : Kind L) (table : Table) (hs : List ℕ) where
  fitted_agree : (v w : ℕ → ℕ) (s : ℕ) (b : Booking) → Agree table.slots s v w → v s ≡ w s → FittedAt K table.slots v s b → FittedAt K table.slots w s b
  fitted_agree v w s b agree here f = record {
    peak = f.peak;
    is_peak = subst (λ ps. Peak K ps f.peak) (fitting_agree table.slots v w s (v s) agree ∙ ap (fitting table.slots w s) here) f.is_peak;
    least = λ x low. subst (λ ps. Reaches K ps f.peak) (fitting_agree table.slots v w s x agree) (f.least x low);
    first = λ x low. subst (λ ps. Passes K ps f.peak) (fitting_agree table.slots v w s x agree) (f.first x (omega (arith, here)));
  }

  -- the boxes booked below n are fitted
  pub record FittedTo (n : ℕ) (prefix : Prefix) : Type 0 where
    pub begun : Begun K table.slots hs n prefix
    pub each : (s : ℕ) → s < n → (b : Booking) → BookedAt table.slots s b → FittedAt K table.slots (waits_of prefix.waits) s b

  pub fitted_none : (prefix : Prefix) → Begun K table.slots hs 0 prefix → FittedTo 0 prefix
  fitted_none prefix begun = record { begun = begun; each = λ s low b at. absurd (omega arith) }

  module _ (n : ℕ) (prefix : Prefix) (f : FittedTo n prefix) where
    pub fitted_skip : n < 24 → ((b : Booking) → BookedAt table.slots n b → ⊥) → FittedTo (n + 1) prefix
    fitted_skip within none = record {
      begun = begun_skip K table hs n prefix f.begun within none;
      each = below_more (λ s. (b : Booking) → BookedAt table.slots s b → FittedAt K table.slots (waits_of prefix.waits) s b) n f.each (λ b at. absurd (none b at));
    }

    module _ (x : Berth) (is : IsBerth table.slots n x) where
      -- the box can join
      pub fitted_joins : Joins K prefix x
      fitted_joins = record {
        empty = ap (λ ps. get_or ps x.socket None) f.begun.list ∙ place_waiting table.slots n (waits_of prefix.waits) x.socket x.booking (omega (arith, is.socket)) (subst (λ s. BookedAt table.slots s x.booking) (sym is.socket) is.booked);
        is_peak = f.begun.is_peak;
        factor = subst (λ qs. Factor qs x.booking.period x.factor) (periods_places table.slots n (λ j. 0) (waits_of prefix.waits) ∙ ap periods_of (sym f.begun.list)) is.factor;
      }

      module _ (factor : get_or hs n 0 ≡ x.factor) (next : Prefix) (fits : Fits K prefix x x.booking.period next) where
        w : ℕ → ℕ
        w = waits_of prefix.waits

        w' : ℕ → ℕ
        w' = waits_of next.waits

        boxed : Boxed K prefix n x.booking fits.wait next
        boxed = subst (λ s. Boxed K prefix s x.booking fits.wait next) is.socket fits.boxed

        best : BestWait K prefix.list.places n x.booking x.booking.period fits.wait next.peak
        best = subst (λ s. BestWait K prefix.list.places s x.booking x.booking.period fits.wait next.peak) is.socket fits.best

        low : fits.wait < get_or hs n 0
        low = omega (arith, fits.low, factor)

        here : w' n ≡ fits.wait
        unfolding w'
        here = next_here K table hs n prefix f.begun x.booking is.booked fits.wait low next boxed

        there : (s : ℕ) → (s ≡ n → ⊥) → w s ≡ w' s
        unfolding w w'
        there s other = sym (next_there K table hs n prefix f.begun x.booking is.booked fits.wait low next boxed s other)

        agree : Agree table.slots n w w'
        agree s c less e = there s (λ same. omega arith)

        same_box : (c : Booking) → BookedAt table.slots n c → c ≡ x.booking
        same_box c e = let z = sym e ∙ is.booked in cc

        list_is : (y : ℕ) → set prefix.list.places n (Some (started x.booking y)) ≡ fitting table.slots w' n y
        unfolding w w'
        list_is y = ap (λ l. set l n (Some (started x.booking y))) f.begun.list ∙ fitting_set table.slots w n x.booking y is.booked ∙ fitting_agree table.slots w w' n y agree

        pub fitted_more : FittedTo (n + 1) next
        unfolding w w'
        fitted_more = record {
          begun = begun_next K table hs n prefix f.begun x.booking is.booked fits.wait low next boxed;
          each = below_more (λ s. (c : Booking) → BookedAt table.slots s c → FittedAt K table.slots w' s c) n
              (λ s less c e. fitted_agree w w' s c (λ j d before e'. agree j d (omega arith) e') (there s (λ same. omega arith)) (f.each s less c e))
              (λ c e. record {
                peak = next.peak;
                is_peak = subst (λ l. Peak K l next.peak) (list_is fits.wait ∙ ap (fitting table.slots w' n) (sym here)) best.is_peak;
                least = λ y low. subst (λ l. Reaches K l next.peak) (list_is y) (best.least y (omega (arith, low, ap (λ (b : Booking). b.period) (same_box c e))));
                first = λ y low. subst (λ l. Passes K l next.peak) (list_is y) (best.first y (omega (arith, here)));
              });
        }

  pub fitted_all : (laws : Laws K) (factors : Factors table.slots hs) (n : ℕ) (prefix : Prefix) → 24 ≤ n → FittedTo n prefix → Fitted K table.slots (waits_of prefix.waits) prefix.peak
  fitted_all laws factors n prefix all f = record {
    choice = λ s b at. below_period K laws table hs factors s b (waits_of prefix.waits s) at (f.begun.low s (inside s b at) b at);
    each = λ s b at. f.each s (inside s b at) b at;
    is_peak = subst (λ l. Peak K l prefix.peak) (f.begun.list ∙ ap (λ k. places table.slots k (waits_of prefix.waits)) (omega (arith, f.begun.within, table.whole))) f.begun.is_peak;
  }
    where
      inside : (s : ℕ) (b : Booking) → BookedAt table.slots s b → s < n
      inside s b at = omega (arith, booked_within table.slots s b at, table.whole)
