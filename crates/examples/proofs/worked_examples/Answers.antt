use Rattle.std.proofs.Common.{refl}
use Rattle.examples.proofs.Peaks.{inrush_10, nothing_0, peak_6, phases_3, phases_6}
use Rattle.examples.proofs.Ticks.{at_11, never, at_8, at_23, nobody}
use Rattle.examples.proofs.worked_examples.Goals as goal

pub returns : goal.returns
returns c = record { count = refl; hold = (at_11, (never, (at_8, (at_23, (nobody, (peak_6, (phases_3, (phases_6, (inrush_10, (nothing_0, tt)))))))))) }
