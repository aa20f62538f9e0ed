use Rattle.std.proofs.Common.{rules, ℕ, Option, Result, Ok, ◌≡◌, ◌<◌, List, [], ◌∷◌, map, length, Err, vec_items, string_bytes, sym, refl, ap, ◌∙◌, subst, arith}
use Rattle.std.proofs.lemmas.List.{get_or-map, length-map}
use Rattle.rows.specs.declared.Row.{Row}
use Rattle.rows.specs.Rows.{said}
use Rattle.std.specs.List.{AllByRecursion}
use Rattle.congruence.specs.Clocks.{Valid}
use Rattle.congruence.specs.FirstTicks.{Answer, IsFirstRefused}
use Rattle.congruence.specs.declared.clocks.Clock.{Clock}
use Rattle.congruence.specs.declared.clocks.RefusedClock.{RefusedClock}
use Rattle.congruence.specs.declared.common.NoCommonTick.{NoCommonTick}
use Rattle.congruence.specs.declared.common.NoCommonTick.TheVariants.{Never, Refused}
use Rattle.first_meeting.specs.Meetings.{box_fault, clock_said, clocks_said, HasRows, Meeting}
use Rattle.first_meeting.specs.Records.{Record}
use Rattle.first_meeting.proofs.meeting.first_meeting.Goals as goal
use Rattle.first_meeting.proofs.meeting.first_meeting.Goals.{After-first_common_tick-first}

map_map : (rs : List Row) → map (λ r. clock_said (said r)) rs ≡ clocks_said (map said rs)
map_map [] = refl
map_map (r ∷ rs) = ap (λ l. clock_said (said r) ∷ l) (map_map rs)

abbrev rows : After-first_common_tick-first → List Row
rows c = vec_items c.in_ok-rows.rows

-- the clocks are those that the text says
clocks : (c : After-first_common_tick-first) → vec_items c.in_ok-clocks.clocks ≡ clocks_said (map said (rows c))
clocks c = c.in_ok-clocks.ensures ∙ ap (map (λ r. clock_said (said r))) c.deref.ensures.value ∙ map_map (rows c)

has_rows : (c : After-first_common_tick-first) → HasRows c.args.text.now (map said (rows c))
has_rows c =
    let read = c.in_ok-rows.ensures in
    (read.0, read.1, read.2, omega (arith, read.3, length-map (rows c) said, c.in_ok-rows.rows.ok.0))

-- the lists of rows and of clocks are as long
as_long : (c : After-first_common_tick-first) → length (clocks_said (map said (rows c))) ≡ length (rows c)
as_long c = length-map (map said (rows c)) clock_said ∙ length-map (rows c) said

told : (c : After-first_common_tick-first) → Answer (clocks_said (map said (rows c))) c.first_common_tick-first.result
told c = subst (λ cs. Answer cs c.first_common_tick-first.result) (c.deref-2.ensures.value ∙ clocks c) c.first_common_tick-first.ensures

refused :
    (c : After-first_common_tick-first) (e : RefusedClock) → c.first_common_tick-first.result ≡ Err (Refused e)
    → IsFirstRefused (clocks_said (map said (rows c))) e
refused c e is = subst (Answer (clocks_said (map said (rows c)))) is (told c)

-- the clocks are valid unless one is refused
valid_of : (cs : List Clock) (r : Result (Option ℕ) NoCommonTick) → Answer cs r → ((e : RefusedClock) → r ≡ Err (Refused e) → ⊥) → AllByRecursion Valid cs
valid_of cs (Ok first) a h = a.0
valid_of cs (Err Never) a h = a.0
valid_of cs (Err (Refused e)) a h = absurd (h e refl)

pub index-requires : goal.index-requires
index-requires c =
    let at = (goal.at.index-requires c).After-first_common_tick-first in
    let bad = refused at c.in-Err-Refused.refused (search rules) in
    omega (arith, bad.0, as_long at, c.in_ok-rows.rows.ok.0)

pub returns-in-Err-Refused : goal.returns-in-Err-Refused
returns-in-Err-Refused c =
    let at = (goal.at.returns-in-Err-Refused c).After-first_common_tick-first in
    let bad = refused at c.in-Err-Refused.refused (search rules) in
    let place = c.in-Err-Refused.refused.place in
    let within : place < length (rows at) = omega (arith, bad.0, as_long at) in
    subst (λ e. Meeting c.args.text.now (Err e)) (sym c.bad_box.ensures) (
      map said (rows at),
      place,
      has_rows at,
      bad,
      λ d. ap (λ r. box_fault r c.in-Err-Refused.refused.refusal) (ap said c.index.ensures ∙ sym (get_or-map said (rows at) place _ d within)),
    )

pub returns : goal.returns
returns c =
    let at = (goal.at.returns c).After-first_common_tick-first in
    let first = c.first_common_tick-first.result in
    let cs = clocks_said (map said (rows at)) in
    let valid : AllByRecursion Valid cs = valid_of cs first (told at) (search rules) in
    let record_of = subst (λ cs. Record cs first (string_bytes c.in_ok-meeting_record.field-0)) (c.deref-3.ensures.value ∙ clocks at) c.in_ok-meeting_record.ensures in
    (map said (rows at), first, has_rows at, valid, told at, record_of)
