use Rattle.std.proofs.Common.{◌≡◌, ℕ, suc, ◌≤◌, ◌<◌, min, List, length, true, false, is_some, ok_or, Some, None, Option, sym, refl, ap, ◌∙◌, subst, inl, inr, arith}
use Rattle.std.proofs.lemmas.Bool.{false≢true}
use Rattle.congruence.specs.declared.refusals.Refusal.TheVariants.{LimitPassed}
use Rattle.load.specs.Kinds.{Kind, Laws}
use Rattle.draws.specs.Draws.{Peak, Reaches, Passes}
use Rattle.draws.proofs.Peaks.{reached_below, reaches_more, reaches_peak}
use Rattle.table.specs.declared.slot.Slot.{Slot}
use Rattle.table.specs.declared.table.Table.{Table}
use Rattle.table.specs.Tables.{running}
use Rattle.table.proofs.Started.{length_places}
use Rattle.planner.specs.declared.timetable.Timetable.{Timetable}
use Rattle.planner.specs.Berths.{factors_of}
use Rattle.planner.specs.Choices.{Choice, chosen}
use Rattle.planner.specs.Plans.{Told, waits_of}
use Rattle.planner.specs.Searches.{Completes, Outcome}
use Rattle.planner.specs.Settings.{Counted, Factors}
use Rattle.planner.proofs.Factored.{counted_by, factors}
use Rattle.planner.proofs.Outcomes.{all_reach, planned}
use Rattle.planner.proofs.Placing.{places_among}
use Rattle.planner.proofs.Prefixes.{begun_none}
use Rattle.planner.proofs.planning.plan.Given as given
use Rattle.planner.proofs.planning.plan.Goals as goal
use Rattle.planner.proofs.planning.plan.Goals.{After-product}

-- a number that is not told is too large
counted : (slots : List Slot) (r : Option ℕ) → Counted slots r → is_some r ≡ true → (n : ℕ) × Counted slots (Some n)
counted slots None is e = absurd (false≢true e)
counted slots (Some n) is e = (n, is)

uncounted : (slots : List Slot) (r : Option ℕ) → Counted slots r → is_some r ≡ false → Counted slots None
uncounted slots None is e = is
uncounted slots (Some n) is e = absurd (false≢true (sym e))

module _ {L : Type 0} (K : Kind L) (laws : Laws K) (table : Table) where
  -- no choice peaks below the running boxes
  running_reached : (peak : ℕ) → Peak K (running table.slots) peak → (v : ℕ → ℕ) → Reaches K (chosen table.slots v) peak
  running_reached peak is v =
      reaches_more K laws (running table.slots) (chosen table.slots v) peak
      (places_among table.slots 0 (length table.slots) (λ s. 0) v (omega arith) (λ s b low at. absurd (omega arith)))
      (length_places 0 (λ s. 0) table.slots ∙ sym (length_places (length table.slots) v table.slots))
      (omega (arith, length_places (length table.slots) v table.slots, table.whole))
      (reaches_peak K peak (omega arith) is)

  -- what the fitted choice reaches as well as every other, and the lower of its peak and the limit does not, passes the limit
  limit_passed : (fit limit low n : ℕ) (w : ℕ → ℕ) → Peak K (chosen table.slots w) fit → low ≡ min fit limit → low < n → Reaches K (chosen table.slots w) n → (v : ℕ → ℕ) → Reaches K (chosen table.slots v) n → Passes K (chosen table.slots v) limit
  limit_passed fit limit low n w is least above here v there =
      let most = reached_below K n here is in
      (there.0, omega (arith, there.1))

  -- what the search found is the best choice
  module _ (hs : List ℕ) (factors : Factors table.slots hs) (fit limit low : ℕ) (w u : ℕ → ℕ) (choice : Choice table.slots w) (is : Peak K (chosen table.slots w) fit) (least : low ≡ min fit limit) (few : (n : ℕ) × Counted table.slots (Some n)) where
    told : (found : Option Timetable) → Outcome K table.slots low (Completes table.slots hs 0 u) None found → Told K table.slots limit (ok_or found LimitPassed)
    told None (inl (e, all)) =
        let reached = all_reach K laws table hs factors (suc low) u all in
        inr (refl, few, λ v h. limit_passed fit limit low (suc low) w is least (omega arith) (reached w choice) v (reached v h))
    told None (inr (t, e, best, booked)) = absurd (let z = e in cc)
    told (Some p) (inl (e, all)) = absurd (let z = e in cc)
    told (Some p) (inr (t, e, best, booked)) =
        let same : t ≡ p = let z = e in cc in
        let below : t.peak ≤ limit = omega (arith, best.below) in
        subst (λ (q : Timetable). Told K table.slots limit (ok_or (Some q) LimitPassed)) same (few, planned K laws table hs factors t (suc low) u best, below, booked)

-- the number of settings, counted by the berths
count : (g : given.Over) (c : After-product g) → Counted c.args.table.now.slots c.product.result
count g c =
    let slots = c.args.table.now.slots in
    counted_by slots _ (factors slots c.berths-berths.result c.berths-berths.ensures) c.product.result c.product.ensures

pub returns-then-is_none : goal.returns-then-is_none
returns-then-is_none g c =
    let table = c.args.table.now in
    inl (refl, uncounted table.slots c.product.result (count g (goal.at.returns-then-is_none g c).After-product) c.if-is_none.ensures)

pub returns-then-prefix-limit : goal.returns-then-prefix-limit
returns-then-prefix-limit g c =
    let K = g.L.Load.kind in
    let laws = g.met.L.Load.lawful in
    let table = c.args.table.now in
    let prefix = c.new-prefix.result in
    let fitted = c.fit_berths.ensures.fitted in
    let reached = running_reached K laws table prefix.peak (subst (λ ps. Peak K ps prefix.peak) (ap (λ l. l.places) c.new-prefix.ensures.list ∙ c.running.ensures) c.new-prefix.ensures.is_peak) in
    inr (
      refl,
      counted table.slots c.product.result (count g (goal.at.returns-then-prefix-limit g c).After-product) c.if-is_none.ensures,
      λ v choice. limit_passed K laws table c.fit_berths.result.peak c.args.limit c.min-limit.result prefix.peak (waits_of c.fit_berths.result.waits) fitted.is_peak c.min-limit.ensures c.if-prefix-limit.true (reached (waits_of c.fit_berths.result.waits)) v (reached v),
    )

pub returns : goal.returns
returns g c =
    let K = g.L.Load.kind in
    let laws = g.met.L.Load.lawful in
    let table = c.args.table.now in
    let hs = factors_of c.berths-berths.result in
    let prefix = c.new-prefix.ensures in
    let fitted = c.fit_berths.ensures.fitted in
    let begun = begun_none K table hs c.new-prefix.result (ap (λ l. l.places) prefix.list ∙ c.running.ensures) prefix.is_peak prefix.waits in
    let found = c.extend.ensures table (record { berths = c.berths-berths.ensures; floor = c.heaviest.ensures }) begun in
    subst (Told K table.slots c.args.limit) (sym c.ok_or.ensures.value)
    (told K laws table hs (factors table.slots c.berths-berths.result c.berths-berths.ensures) c.fit_berths.result.peak c.args.limit c.min-limit.result (waits_of c.fit_berths.result.waits) (waits_of c.new-prefix.result.waits) fitted.choice fitted.is_peak c.min-limit.ensures (counted table.slots c.product.result (count g (goal.at.returns g c).After-product) c.if-is_none.ensures) c.extend.result found)
