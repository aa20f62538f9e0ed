use Rattle.std.proofs.Common.{is_ok, sym, ap, ◌∙◌, arith}
use Rattle.draws.proofs.Sets.{set_ranges}
use Rattle.table.specs.declared.slot.Slot.TheVariants.{Empty}
use Rattle.table.specs.Slots.{sound_slot}
use Rattle.table.proofs.table.Table.set.Goals as goal

pub invariant_of-self-clause-ranges : goal.invariant_of-self-clause-ranges
invariant_of-self-clause-ranges c =
    let table = c.args.self.now in
    set_ranges sound_slot Empty table.slots 24 c.args.socket _ (omega (arith, table.whole)) (ap is_ok (sym c.check.ensures ∙ c.in_ok-check.was)) table.ranges
