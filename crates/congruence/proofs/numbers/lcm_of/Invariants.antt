use Rattle.std.proofs.Common.{take}
use Rattle.congruence.specs.Divisors.{LcmWithin}
use Rattle.congruence.proofs.numbers.lcm_of.Given as goal

abbrev pub invariant-loop-n : goal.invariant-loop-n
invariant-loop-n l = LcmWithin (take l.n-index l.numbers) l.so_far
