use Rattle.std.proofs.Common.{length, get_or, sym, ap, ◌∙◌, subst, arith}
use Rattle.draws.specs.Draws.{Reaches}
use Rattle.draws.proofs.Peaks.{reaches_alone}
use Rattle.table.proofs.Started.{bookable, length_places, started_valid}
use Rattle.table.specs.declared.slot.Slot.TheVariants.{Empty}
use Rattle.table.specs.Slots.{started}
use Rattle.planner.specs.Choices.{chosen}
use Rattle.planner.proofs.Outcomes.{reaches_max}
use Rattle.planner.proofs.Placing.{booked_within, place_started}
use Rattle.planner.proofs.planning.heaviest.Goals as goal
use Rattle.planner.proofs.planning.heaviest.Goals.{in-Booked, in_default}

pub loop-slot-preserved : goal.loop-slot-preserved
loop-slot-preserved g c =
    elim c.match-slot.branch [
      | in-Booked w ↦ λ v choice.
          let K = g.L.Load.kind in
          let table = c.args.table.now in
          let s = c.loop-slot.slot-index in
          let b = w.in-Booked.booking in
          let at = ap (λ l. get_or l s Empty) (sym c.slots-slot-items.ensures) ∙ w.in-Booked.is in
          let long = length_places (length table.slots) v table.slots in
          let within = booked_within table.slots s b at in
          let alone = reaches_alone K g.met.L.Load.lawful (chosen table.slots v) s (started b (v s)) (omega (arith, long, table.whole)) (place_started table.slots (length table.slots) v s b within at) (started_valid (bookable table s b at) (choice s b at)) in
          let measures = subst (Reaches K (chosen table.slots v)) (sym (w.measure.ensures ∙ ap K.measure w.of.ensures)) alone in
          reaches_max K (chosen table.slots v) c.loop-slot.most w.measure.result c.match-slot.most c.match-slot.most (w.most-is ∙ w.max-most.ensures) (omega arith) (c.loop-slot.invariant v choice) measures
      | in_default w ↦ λ v choice. subst (Reaches g.L.Load.kind (chosen c.args.table.now.slots v)) (sym w.most-is) (c.loop-slot.invariant v choice)
    ]
