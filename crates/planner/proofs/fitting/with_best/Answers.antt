use Rattle.std.proofs.Common.{◌+◌, max, sym, ap, ◌∙◌, subst}
use Rattle.planner.specs.Searches.{Fits}
use Rattle.planner.proofs.Fits.{fits_all, fits_better, fits_kept, fits_stop}
use Rattle.planner.proofs.fitting.with_best.Goals as goal
use Rattle.planner.proofs.fitting.with_best.Goals.{then-next-best, else-next-best}

pub returns-then-best-least : goal.returns-then-best-least
returns-then-best-least g c =
    let K = g.L.Load.kind in
    fits_stop K g.met.L.Load.lawful c.args.prefix.now c.args.berth.now c.requires c.loop-wait.wait c.loop-wait.best c.loop-wait.invariant c.max-least.result (c.max-least.ensures ∙ ap (max c.args.prefix.now.peak) (c.measure.ensures ∙ ap K.measure c.of.ensures)) c.if-best-least.true

pub loop-wait-preserved : goal.loop-wait-preserved
loop-wait-preserved g c =
    let K = g.L.Load.kind in
    let prefix = c.args.prefix.now in
    let x = c.args.berth.now in
    let k = c.loop-wait.wait in
    let best = c.loop-wait.best in
    let next = c.with_box-next.result in
    elim c.if-next-best.branch [
      | then-next-best w ↦ subst (Fits K prefix x (k + 1)) (sym w.best-is) (fits_better K g.met.L.Load.lawful prefix x c.requires k best next c.loop-wait.invariant c.with_box-next.ensures c.loop-wait-test.true w.if-next-best.true)
      | else-next-best w ↦ subst (Fits K prefix x (k + 1)) (sym w.best-is) (fits_kept K g.met.L.Load.lawful prefix x c.requires k best next c.loop-wait.invariant c.with_box-next.ensures w.if-next-best.false)
    ]

pub returns : goal.returns
returns g c = fits_all g.L.Load.kind g.met.L.Load.lawful c.args.prefix.now c.args.berth.now c.requires c.loop-wait.wait c.loop-wait.best c.loop-wait.invariant c.loop-wait-test.false
