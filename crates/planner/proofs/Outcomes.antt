-- What trying some choices leaves as the best, and the choices of one branch.
use Rattle.std.proofs.Common.{◌≡◌, ℕ, suc, ◌+◌, ◌<◌, ◌≤◌, max, ◌⊎◌, List, length, get_or, Some, Option, sym, refl, ap, ◌∙◌, subst, inl, inr, ⊎_elim, arith}
use Rattle.std.proofs.lemmas.Bool.{cases_eq, cases_lt, cases_order}
use Rattle.load.specs.Kinds.{Kind, Laws}
use Rattle.draws.specs.Draws.{Peak, Places, Reaches}
use Rattle.draws.proofs.Factoring.{factor_most}
use Rattle.draws.proofs.Peaks.{reaches_more, reaches_peak}
use Rattle.table.specs.declared.slot.Booking.{Booking}
use Rattle.table.specs.declared.slot.Slot.{Slot}
use Rattle.table.specs.declared.slot.Slot.TheVariants.{Empty}
use Rattle.table.specs.declared.table.Table.{Table}
use Rattle.table.specs.Tables.{places}
use Rattle.table.proofs.Started.{bookable, length_places}
use Rattle.planner.specs.declared.prefix.Prefix.{Prefix}
use Rattle.planner.specs.declared.timetable.Timetable.{Timetable}
use Rattle.planner.specs.Choices.{BookedAt, Choice, Earlier, Planned, chosen}
use Rattle.planner.specs.Plans.{waits_of}
use Rattle.planner.specs.Searches.{Begun, Boxed, Completes, Improved, Outcome, bar}
use Rattle.planner.specs.Settings.{Factors}
use Rattle.planner.proofs.Lowering.{factor_of, lowered}
use Rattle.planner.proofs.Orders.{not_later_earlier}
use Rattle.planner.proofs.Placing.{booked_within, places_agree, places_among}
use Rattle.planner.proofs.Prefixes.{just_booked, next_here, next_there}

pub reaches_less : {L : Type 0} (K : Kind L) (ps : Places) (m n : ℕ) → m ≤ n → Reaches K ps n → Reaches K ps m
reaches_less K ps m n low r = (r.0, omega (arith, r.1))

-- what reaches two numbers reaches what is not above the larger of them
pub reaches_max : {L : Type 0} (K : Kind L) (ps : Places) (a b l n : ℕ) → l ≡ max a b → n ≤ l → Reaches K ps a → Reaches K ps b → Reaches K ps n
reaches_max K ps a b l n is low ra rb =
    ⊎_elim
    (λ less. reaches_less K ps n b (omega arith) rb)
    (λ more. reaches_less K ps n a (omega arith) ra)
    (cases_lt a b)

module _ {L : Type 0} (K : Kind L) (slots : List Slot) (limit : ℕ) where
  -- the same choices, told in another way
  pub outcome_same : (In In' : (ℕ → ℕ) → Type 0) (old new : Option Timetable) → ((v : ℕ → ℕ) → In v → In' v) → ((v : ℕ → ℕ) → In' v → In v) → Outcome K slots limit In old new → Outcome K slots limit In' old new
  outcome_same In In' old new to from (inl (e, all)) = inl (e, λ v h. all v (from v h))
  outcome_same In In' old new to from (inr (t, is, best, plain)) =
      inr (t, is, record { is_in = to _ best.is_in; is_peak = best.is_peak; below = best.below; least = λ v h. best.least v (from v h); first = λ v h before. best.first v (from v h) before }, plain)

  -- first some choices were tried, then some of which none comes before the others
  module _ (In₁ In₂ In : (ℕ → ℕ) → Type 0) (left : (v : ℕ → ℕ) → In₁ v → In v) (right : (v : ℕ → ℕ) → In₂ v → In v) (both : (v : ℕ → ℕ) → In v → In₁ v ⊎ In₂ v) (after : (u v : ℕ → ℕ) → In₁ u → In₂ v → Earlier slots v u → ⊥) where
    pub outcome_join : (a b c : Option Timetable) → Outcome K slots limit In₁ a b → Outcome K slots limit In₂ b c → Outcome K slots limit In a c
    outcome_join a b c (inl (e₁, all₁)) (inl (e₂, all₂)) =
        inl (e₂ ∙ e₁, λ v h. ⊎_elim (all₁ v) (λ h₂. subst (λ k. Reaches K (chosen slots v) (bar limit k)) e₁ (all₂ v h₂)) (both v h))
    outcome_join a b c (inl (e₁, all₁)) (inr (t, is, best, plain)) =
        let below : t.peak < bar limit a = subst (λ k. t.peak < bar limit k) e₁ best.below in
        inr (
          t,
          is,
          record {
            is_in = right _ best.is_in;
            is_peak = best.is_peak;
            below = below;
            least = λ v h. ⊎_elim (λ h₁. reaches_less K (chosen slots v) t.peak (bar limit a) (omega arith) (all₁ v h₁)) (best.least v) (both v h);
            first = λ v h before. ⊎_elim (λ h₁. reaches_less K (chosen slots v) (suc t.peak) (bar limit a) below (all₁ v h₁)) (λ h₂. best.first v h₂ before) (both v h);
          },
          plain,
        )
    outcome_join a b c (inr (t, is, best, plain)) (inl (e₂, all₂)) =
        inr (
          t,
          e₂ ∙ is,
          record {
            is_in = left _ best.is_in;
            is_peak = best.is_peak;
            below = best.below;
            least = λ v h. ⊎_elim (best.least v) (λ h₂. subst (λ k. Reaches K (chosen slots v) (bar limit k)) is (all₂ v h₂)) (both v h);
            first = λ v h before. ⊎_elim (λ h₁. best.first v h₁ before) (λ h₂. absurd (after _ v best.is_in h₂ before)) (both v h);
          },
          plain,
        )
    outcome_join a b c (inr (u, was, best₁, plain₁)) (inr (t, is, best, plain)) =
        let less : t.peak < u.peak = subst (λ k. t.peak < bar limit k) was best.below in
        inr (
          t,
          is,
          record {
            is_in = right _ best.is_in;
            is_peak = best.is_peak;
            below = omega (arith, best₁.below);
            least = λ v h. ⊎_elim (λ h₁. reaches_less K (chosen slots v) t.peak u.peak (omega arith) (best₁.least v h₁)) (best.least v) (both v h);
            first = λ v h before. ⊎_elim (λ h₁. reaches_less K (chosen slots v) (suc t.peak) u.peak less (best₁.least v h₁)) (λ h₂. best.first v h₂ before) (both v h);
          },
          plain,
        )

module _ {L : Type 0} (K : Kind L) (laws : Laws K) (table : Table) (hs : List ℕ) (factors : Factors table.slots hs) where
  low_24 : (s : ℕ) (b : Booking) → BookedAt table.slots s b → s < 24
  low_24 s b e = omega (arith, booked_within table.slots s b e, table.whole)

  -- a wait below its factor is below the period
  pub below_period : (s : ℕ) (b : Booking) (x : ℕ) → BookedAt table.slots s b → x < get_or hs s 0 → x < b.period
  below_period s b x e low =
      let f = factor_of K laws table hs factors s b (low_24 s b e) e in
      omega (arith, low, factor_most (bookable table s b e).some f)

  -- no socket is left
  pub outcome_leaf : (limit : ℕ) (prefix : Prefix) (best : Option Timetable) (n : ℕ) → 24 ≤ n → Begun K table.slots hs n prefix → prefix.peak < bar limit best → Outcome K table.slots limit (Completes table.slots hs n (waits_of prefix.waits)) best (Some (record { peak = prefix.peak; waits = prefix.waits }))
  outcome_leaf limit prefix best n all begun below =
      let w = waits_of prefix.waits in
      let last : n ≡ length table.slots = omega (arith, begun.within, table.whole) in
      let whole : prefix.list.places ≡ chosen table.slots w = begun.list ∙ ap (λ k. places table.slots k w) last in
      let same : (v : ℕ → ℕ) → Completes table.slots hs n w v → chosen table.slots w ≡ chosen table.slots v =
      λ v h. places_agree table.slots (length table.slots) w v (λ s b low at. sym (h.agrees s b (omega (arith, low_24 s b at)) at)) in
      let is_peak : Peak K (chosen table.slots w) prefix.peak = subst (λ ps. Peak K ps prefix.peak) whole begun.is_peak in
      inr (
        record { peak = prefix.peak; waits = prefix.waits },
        refl,
        record {
          is_in = record { agrees = λ s b low at. refl; low = λ s b past at. absurd (omega (arith, low_24 s b at)) };
          is_peak = is_peak;
          below = below;
          least = λ v h. reaches_peak K prefix.peak (omega arith) (subst (λ ps. Peak K ps prefix.peak) (same v h) is_peak);
          first = λ v h before. absurd (omega (arith, before.less, h.agrees before.socket before.booking (omega (arith, low_24 before.socket before.booking before.booked)) before.booked));
        },
        just_booked K table hs n prefix all begun,
      )

  module _ (n : ℕ) (prefix : Prefix) (begun : Begun K table.slots hs n prefix) where
    abbrev w : ℕ → ℕ
    w = waits_of prefix.waits

    -- the choices that begin with the prefix
    abbrev pub In : (ℕ → ℕ) → Type 0
    In = Completes table.slots hs n (waits_of prefix.waits)

    -- what completes the prefix is a choice, and reaches what the prefix does
    pub completes_choice : (v : ℕ → ℕ) → In v → Choice table.slots v
    completes_choice v h s b at =
        ⊎_elim
        (λ low. below_period s b (v s) at (subst (λ k. k < get_or hs s 0) (sym (h.agrees s b low at)) (begun.low s low b at)))
        (λ past. below_period s b (v s) at (h.low s b past at))
        (cases_lt s n)

    pub completes_reaches : (v : ℕ → ℕ) → In v → Reaches K (chosen table.slots v) prefix.peak
    completes_reaches v h =
        let p : Peak K (places table.slots n w) prefix.peak = subst (λ ps. Peak K ps prefix.peak) begun.list begun.is_peak in
        reaches_more K laws (places table.slots n w) (chosen table.slots v) prefix.peak (places_among table.slots n (length table.slots) w v (omega (arith, begun.within, table.whole)) (λ s b low at. sym (h.agrees s b low at)))
        (length_places n w table.slots ∙ sym (length_places (length table.slots) v table.slots)) (omega (arith, length_places (length table.slots) v table.slots, table.whole)) (reaches_peak K prefix.peak (omega arith) p)

    -- a socket with no booked box
    module _ (none : (b : Booking) → BookedAt table.slots n b → ⊥) where
      not_here : (s : ℕ) (b : Booking) → BookedAt table.slots s b → s ≡ n → ⊥
      not_here s b at same = none b (ap (λ k. get_or table.slots k Empty) (sym same) ∙ at)

      pub outcome_skip : (limit : ℕ) (old new : Option Timetable) → Outcome K table.slots limit (Completes table.slots hs (n + 1) (waits_of prefix.waits)) old new → Outcome K table.slots limit In old new
      outcome_skip limit old new =
          outcome_same K table.slots limit _ _ old new
          (λ v h. record { agrees = λ s b low at. h.agrees s b (omega arith) at; low = λ s b past at. h.low s b (omega (arith, not_here s b at)) at })
          (λ v h. record { agrees = λ s b low at. h.agrees s b (omega (arith, not_here s b at)) at; low = λ s b past at. h.low s b (omega arith) at })

    -- a socket with a booked box: the choices by its wait
    module _ (limit : ℕ) (b : Booking) (at : BookedAt table.slots n b) where
      abbrev pub Under : ℕ → (ℕ → ℕ) → Type 0
      Under k v = In v × (v n < k)

      abbrev pub Exactly : ℕ → (ℕ → ℕ) → Type 0
      Exactly k v = In v × (v n ≡ k)

      abbrev pub From : ℕ → (ℕ → ℕ) → Type 0
      From k v = In v × (k ≤ v n)

      -- a larger wait here does not come before a smaller
      ordered : (u v : ℕ → ℕ) → In u → In v → u n < v n → Earlier table.slots v u → ⊥
      ordered u v hu hv less before =
          ⊎_elim
          (λ same. omega (arith, subst (λ s. v s < u s) same before.less))
          (⊎_elim
          (λ low. omega (arith, before.less, hv.agrees before.socket before.booking low before.booked, hu.agrees before.socket before.booking low before.booked))
          (λ high. omega (arith, before.same n b high at)))
          (cases_order before.socket n)

      pub under_more : (k : ℕ) (x y z : Option Timetable) → Outcome K table.slots limit (Under k) x y → Outcome K table.slots limit (Exactly k) y z → Outcome K table.slots limit (Under (k + 1)) x z
      under_more k =
          outcome_join K table.slots limit (Under k) (Exactly k) (Under (k + 1)) (λ v h. (h.0, omega (arith, h.1))) (λ v h. (h.0, omega (arith, h.1)))
          (λ v h. ⊎_elim (λ low. inl (h.0, low)) (λ high. inr (h.0, omega (arith, h.1))) (cases_lt (v n) k)) (λ u v hu hv. ordered u v hu.0 hv.0 (omega (arith, hu.1, hv.1)))

      pub under_stop : (k : ℕ) (x y : Option Timetable) → Outcome K table.slots limit (Under k) x y → ((v : ℕ → ℕ) → In v → Reaches K (chosen table.slots v) (bar limit y)) → Outcome K table.slots limit In x y
      under_stop k x y old all =
          outcome_join K table.slots limit (Under k) (From k) In (λ v h. h.0) (λ v h. h.0)
          (λ v h. ⊎_elim (λ low. inl (h, low)) (λ high. inr (h, high)) (cases_lt (v n) k)) (λ u v hu hv. ordered u v hu.0 hv.0 (omega (arith, hu.1, hv.1)))
          x y y old (inl (refl, λ v h. all v h.0))

      pub under_all : (k : ℕ) (x y : Option Timetable) → get_or hs n 0 ≤ k → Outcome K table.slots limit (Under k) x y → Outcome K table.slots limit In x y
      under_all k x y most = outcome_same K table.slots limit _ _ x y (λ v h. h.0) (λ v h. (h, omega (arith, h.low n b (omega arith) at)))

      -- the prefix with this box at wait k
      module _ (k : ℕ) (low : k < get_or hs n 0) (next : Prefix) (boxed : Boxed K prefix n b k next) where
        here : waits_of next.waits n ≡ k
        here = next_here K table hs n prefix begun b at k low next boxed

        there : (s : ℕ) → (s ≡ n → ⊥) → waits_of next.waits s ≡ waits_of prefix.waits s
        there = next_there K table hs n prefix begun b at k low next boxed

        to_next : (v : ℕ → ℕ) → Exactly k v → Completes table.slots hs (n + 1) (waits_of next.waits) v
        to_next v h = record {
          agrees = λ s c less e.
              ⊎_elim
              (λ same. ap v same ∙ h.1 ∙ sym here ∙ ap (waits_of next.waits) (sym same))
              (λ other. h.0.agrees s c (omega arith) e ∙ sym (there s other))
              (cases_eq s n);
          low = λ s c past e. h.0.low s c (omega arith) e;
        }

        from_next : (v : ℕ → ℕ) → Completes table.slots hs (n + 1) (waits_of next.waits) v → Exactly k v
        from_next v h =
            let is : v n ≡ k = h.agrees n b (omega arith) at ∙ here in (
              record {
                agrees = λ s c less e. h.agrees s c (omega arith) e ∙ there s (λ same. omega arith);
                low = λ s c past e. ⊎_elim (λ same. subst (λ j. v j < get_or hs j 0) (sym same) (subst (λ x. x < get_or hs n 0) (sym is) low)) (λ other. h.low s c (omega arith) e) (cases_eq s n);
              },
              is,
            )

        pub exactly_next : (x y : Option Timetable) → Outcome K table.slots limit (Completes table.slots hs (n + 1) (waits_of next.waits)) x y → Outcome K table.slots limit (Exactly k) x y
        exactly_next x y = outcome_same K table.slots limit _ _ x y from_next to_next

      -- not even the prefix peaks below the bar
      pub exactly_cut : (k : ℕ) (low : k < get_or hs n 0) (next : Prefix) (boxed : Boxed K prefix n b k next) (best : Option Timetable) → bar limit best ≤ next.peak → ((v : ℕ → ℕ) → Completes table.slots hs (n + 1) (waits_of next.waits) v → Reaches K (chosen table.slots v) next.peak) → Outcome K table.slots limit (Exactly k) best best
      exactly_cut k low next boxed best over reach = inl (refl, λ v h. reaches_less K (chosen table.slots v) (bar limit best) next.peak over (reach v (to_next k low next boxed v h)))

  -- a choice below all factors stands for every choice
  pub planned : (t : Timetable) (high : ℕ) (w : ℕ → ℕ) → Improved K table.slots (Completes table.slots hs 0 w) high (waits_of t.waits) t.peak → Planned K table.slots (waits_of t.waits) t.peak
  planned t high w best = record {
    choice = λ s b at. below_period s b (waits_of t.waits s) at (best.is_in.low s b (omega arith) at);
    is_peak = best.is_peak;
    least = λ v choice.
        let r = lowered K laws table hs factors v choice 24 (omega arith) in
        r.1.peaks t.peak (best.least r.0 (in_all w r.0 r.1.low));
    first = λ v choice before.
        let r = lowered K laws table hs factors v choice 24 (omega arith) in
        r.1.peaks (suc t.peak) (best.first r.0 (in_all w r.0 r.1.low) (not_later_earlier table.slots r.0 v (waits_of t.waits) r.1.order before));
  }
    where
      in_all : (w r : ℕ → ℕ) → ((s : ℕ) (b : Booking) → s < 24 → BookedAt table.slots s b → r s < get_or hs s 0) → Completes table.slots hs 0 w r
      in_all w r low = record { agrees = λ s b less at. absurd (omega arith); low = λ s b past at. low s b (low_24 s b at) at }

  pub all_reach : (high : ℕ) (w : ℕ → ℕ) → ((v : ℕ → ℕ) → Completes table.slots hs 0 w v → Reaches K (chosen table.slots v) high) → (v : ℕ → ℕ) → Choice table.slots v → Reaches K (chosen table.slots v) high
  all_reach high w all v choice =
      let r = lowered K laws table hs factors v choice 24 (omega arith) in
      r.1.peaks high (all r.0 (record { agrees = λ s b less at. absurd (omega arith); low = λ s b past at. r.1.low s b (low_24 s b at) at }))
