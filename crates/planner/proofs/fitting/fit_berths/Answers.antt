use Rattle.std.proofs.Common.{◌+◌, ◌<◌, length, None, sym, ap, ◌∙◌, subst, arith}
use Rattle.std.proofs.lemmas.List.{get_or_default}
use Rattle.planner.specs.declared.timetable.Timetable.{Timetable}
use Rattle.planner.specs.Berths.{factors_of}
use Rattle.planner.specs.Choices.{Fitted}
use Rattle.planner.specs.Plans.{waits_of}
use Rattle.planner.proofs.Factored.{factors, is_berth, its_factor, none_booked}
use Rattle.planner.proofs.Fits.{FittedTo, fitted_all, fitted_joins, fitted_more, fitted_none, fitted_skip}
use Rattle.planner.proofs.Prefixes.{begun_none}
use Rattle.planner.proofs.fitting.fit_berths.Goals as goal
use Rattle.planner.proofs.fitting.fit_berths.Goals.{in-Some, in_default}

pub loop-place-init : goal.loop-place-init
loop-place-init g c =
    let K = g.L.Load.kind in
    let table = c.args.table.now in
    let hs = factors_of c.args.berths.now in
    let prefix = c.new-prefix.ensures in
    fitted_none K table hs c.new-prefix.result (begun_none K table hs c.new-prefix.result (ap (λ l. l.places) prefix.list ∙ c.running.ensures) prefix.is_peak prefix.waits)

pub with_best-prefix-requires : goal.with_best-prefix-requires
with_best-prefix-requires g c =
    let table = c.args.table.now in
    let xs = c.args.berths.now in
    let n = c.loop-place.place-index in
    let within : n < length xs = omega (arith, c.loop-place-test.true, c.requires.long, table.whole) in
    let box = is_berth table.slots xs c.requires n (omega (arith, within, c.requires.long)) c.in-Some.berth (get_or_default xs n None c.place-item.result within ∙ c.in-Some.is) in
    fitted_joins g.L.Load.kind table (factors_of xs) n c.loop-place.prefix c.loop-place.invariant c.in-Some.berth box

pub loop-place-preserved : goal.loop-place-preserved
loop-place-preserved g c =
    let K = g.L.Load.kind in
    let table = c.args.table.now in
    let xs = c.args.berths.now in
    let hs = factors_of xs in
    let n = c.loop-place.place-index in
    let within : n < length xs = omega (arith, c.loop-place-test.true, c.requires.long, table.whole) in
    let low : n < length table.slots = omega (arith, within, c.requires.long) in
    let here = get_or_default xs n None c.place-item.result within in
    elim c.match-place.branch [
      | in-Some w ↦
          let x = w.in-Some.berth in
          let holds = here ∙ w.in-Some.is in
          subst (FittedTo K table hs (n + 1)) (sym w.prefix-is)
          (fitted_more K table hs n c.loop-place.prefix c.loop-place.invariant x (is_berth table.slots xs c.requires n low x holds) (its_factor table.slots xs c.requires n low x holds) w.with_best-prefix.result w.with_best-prefix.ensures)
      | in_default w ↦
          subst (FittedTo K table hs (n + 1)) (sym w.prefix-is)
          (fitted_skip K table hs n c.loop-place.prefix c.loop-place.invariant (omega (arith, low, table.whole)) (none_booked table.slots xs c.requires n low (here ∙ w.in_default.is)))
    ]

pub returns-clause-fitted : goal.returns-clause-fitted
returns-clause-fitted g c =
    let K = g.L.Load.kind in
    let table = c.args.table.now in
    let xs = c.args.berths.now in
    subst (λ (t : Timetable). Fitted K table.slots (waits_of t.waits) t.peak) (sym c.timetable.ensures)
    (fitted_all K table (factors_of xs) g.met.L.Load.lawful (factors table.slots xs c.requires) c.loop-place.place-index c.loop-place.prefix c.loop-place-test.false c.loop-place.invariant)
