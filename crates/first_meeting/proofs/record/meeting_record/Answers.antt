use Rattle.std.proofs.Common.{◌∙◌, subst, MatchOption, rules, append_assoc}
use Rattle.congruence.specs.Divisors.{LcmBeyond, LcmWithin}
use Rattle.first_meeting.proofs.record.meeting_record.Goals as goal

pub returns : goal.returns
returns c =
    let pairs = c.in_ok-write_all_pairs.ensures in
    let items = c.as_slice.ensures.value ∙ c.in_ok-periods_of.ensures in
    record {
      pairs = pairs.0;
      cycle = c.lcm_of.result;
      never = pairs.1;
      lcm = subst (λ ns. MatchOption c.lcm_of.result (LcmBeyond ns) (λ m. LcmWithin ns m)) items c.lcm_of.ensures;
      whole = search (rules, append_assoc);
    }
