use Rattle.std.proofs.Common.{◌+◌, length, get_or, sym, refl, ap, ◌∙◌, subst, arith}
use Rattle.draws.proofs.Factoring.{factor_most, factor_some}
use Rattle.table.specs.declared.slot.Slot.TheVariants.{Empty}
use Rattle.table.proofs.Started.{bookable}
use Rattle.planner.proofs.Factored.{BerthsTo, berths_more, berths_skip}
use Rattle.planner.proofs.counting.berths.Goals as goal
use Rattle.planner.proofs.counting.berths.Goals.{in-Booked+in-Some, in_default}

pub invariant_of-berth : goal.invariant_of-berth
invariant_of-berth c =
    let table = c.args.table.now in
    let n = c.loop-socket.socket in
    let slots = c.slots-slot-items.ensures in
    let fits = bookable table n c.in-Booked.booking (ap (λ l. get_or l n Empty) (sym slots) ∙ c.in-Booked.is) in
    record {
      within = omega (arith, c.loop-socket-test.true, ap length slots, table.whole);
      bookable = fits;
      positive = factor_some fits.some c.in-Some.ensures;
      within_period = factor_most fits.some c.in-Some.ensures;
    }

pub loop-socket-preserved : goal.loop-socket-preserved
loop-socket-preserved c =
    let table = c.args.table.now in
    let n = c.loop-socket.socket in
    let slots = c.slots-slot-items.ensures in
    let old = c.loop-socket.invariant in
    elim c.match-slot.branch [
      | in-Booked+in-Some w ↦
          let booked = ap (λ l. get_or l n Empty) (sym slots) ∙ w.in-Booked.is in
          subst (λ xs. BerthsTo table.slots (n + 1) xs c.match-slot.beside.places) (sym w.berths-is)
          (berths_more table.slots n c.loop-socket.berths c.loop-socket.beside.places old _ c.match-slot.beside.places refl booked w.in-Some.ensures (ap (λ l. l.places) w.beside-is ∙ w.started_in-beside.ensures))
      | in_default w ↦
          subst (λ xs. BerthsTo table.slots (n + 1) xs c.match-slot.beside.places) (sym w.berths-is)
          (subst (λ l. BerthsTo table.slots (n + 1) c.loop-socket.berths l.places) (sym w.beside-is)
          (berths_skip table.slots n c.loop-socket.berths c.loop-socket.beside.places old (λ b e. w.in_default.not-Booked b (ap (λ l. get_or l n Empty) slots ∙ e))))
    ]
