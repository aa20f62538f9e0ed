use Rattle.std.proofs.Common.{◌≡◌, ℕ, ◌+◌, ◌≤◌, ◌<◌, length, get_or, Some, None, sym, ◌∙◌, subst, ⊎_elim, arith}
use Rattle.std.proofs.lemmas.Bool.{cases_lt, false≢true}
use Rattle.table.specs.declared.table.Table.{Table}
use Rattle.planner.specs.Berths.{IsBerth, factors_of}
use Rattle.planner.specs.Choices.{chosen}
use Rattle.planner.specs.Plans.{waits_of}
use Rattle.planner.specs.Searches.{Boxed, Completes, Outcome, Sound, bar}
use Rattle.planner.proofs.Factored.{factors, is_berth, its_factor, none_booked}
use Rattle.planner.proofs.Outcomes.{completes_choice, completes_reaches, exactly_cut, exactly_next, outcome_leaf, outcome_skip, reaches_max, under_all, under_more, under_stop}
use Rattle.planner.proofs.Prefixes.{begun_next, begun_skip}
use Rattle.planner.proofs.branches.Space.+extend.Given as given
use Rattle.planner.proofs.branches.Space.+extend.Goals as goal
use Rattle.planner.proofs.branches.Space.+extend.Goals.{In-Some-place, then-is_better, else-is_better}

pub returns-in_default : goal.returns-in_default
returns-in_default g t c = λ table sound begun.
    let K = g.L.Load.kind in
    let space = c.args.self.now in
    let prefix = c.args.prefix.now in
    let hs = factors_of space.berths in
    let all : 24 ≤ c.args.socket = omega (arith, c.in_default.ensures.lookup.3, sound.berths.long, table.whole) in
    subst (λ r. Outcome K table.slots space.limit (Completes table.slots hs c.args.socket (waits_of prefix.waits)) c.args.best (Some r)) (sym c.timetable.ensures)
    (outcome_leaf K g.met.L.Load.lawful table hs (factors table.slots space.berths sound.berths) space.limit prefix c.args.best c.args.socket all begun c.requires)

pub returns-in_default-place : goal.returns-in_default-place
returns-in_default-place g t c = λ table sound begun.
    let K = g.L.Load.kind in
    let space = c.args.self.now in
    let prefix = c.args.prefix.now in
    let hs = factors_of space.berths in
    let n = c.args.socket in
    let lookup = c.in-Some.ensures.lookup.3 in
    let none = none_booked table.slots space.berths sound.berths n (omega (arith, lookup.0, sound.berths.long)) (sym (lookup.1 None) ∙ c.in_default-place.is) in
    let next = c.extend.ensures table sound (begun_skip K table hs n prefix begun (omega (arith, lookup.0, sound.berths.long, table.whole)) none) in
    outcome_skip K g.met.L.Load.lawful table hs (factors table.slots space.berths sound.berths) n prefix begun none space.limit c.args.best c.extend.result next

-- the box of the socket
module _ (g : given.Over) (t : ℕ) (c : In-Some-place g t) (table : Table) (sound : Sound g.L.Load.kind table.slots c.args.self.now) where
  low : c.args.socket < length table.slots
  low = omega (arith, c.in-Some.ensures.lookup.3.0, sound.berths.long)

  holds : get_or c.args.self.now.berths c.args.socket None ≡ Some c.in-Some-place.berth
  holds = sym (c.in-Some.ensures.lookup.3.1 None) ∙ c.in-Some-place.is

  box : IsBerth table.slots c.args.socket c.in-Some-place.berth
  box = is_berth table.slots c.args.self.now.berths sound.berths c.args.socket low c.in-Some-place.berth holds

  factor_is : get_or (factors_of c.args.self.now.berths) c.args.socket 0 ≡ c.in-Some-place.berth.factor
  factor_is = its_factor table.slots c.args.self.now.berths sound.berths c.args.socket low c.in-Some-place.berth holds

pub returns-then-not-is_better : goal.returns-then-not-is_better
returns-then-not-is_better g t c = λ table sound begun.
    let K = g.L.Load.kind in
    let laws = g.met.L.Load.lawful in
    let space = c.args.self.now in
    let prefix = c.args.prefix.now in
    let hs = factors_of space.berths in
    let all = factors table.slots space.berths sound.berths in
    let n = c.args.socket in
    let here = box g t (goal.at.returns-then-not-is_better g t c).In-Some-place table sound in
    let high = bar space.limit c.loop-wait.best in
    let most : high ≤ c.max-least.result = ⊎_elim (λ less. absurd (false≢true (c.if-not-is_better.ensures.1 less))) (λ past. past) (cases_lt c.max-least.result high) in
    under_stop K laws table hs all n prefix begun space.limit c.in-Some-place.berth.booking here.booked c.loop-wait.wait c.args.best c.loop-wait.best (c.loop-wait.invariant table sound begun)
    (λ v h. reaches_max K (chosen table.slots v) prefix.peak space.floor c.max-least.result high c.max-least.ensures most (completes_reaches K laws table hs all n prefix begun v h) (sound.floor v (completes_choice K laws table hs all n prefix begun v h)))

pub loop-wait-preserved : goal.loop-wait-preserved
loop-wait-preserved g t c = λ table sound begun.
    let K = g.L.Load.kind in
    let laws = g.met.L.Load.lawful in
    let space = c.args.self.now in
    let prefix = c.args.prefix.now in
    let hs = factors_of space.berths in
    let all = factors table.slots space.berths sound.berths in
    let n = c.args.socket in
    let k = c.loop-wait.wait in
    let b = c.in-Some-place.berth.booking in
    let next = c.with_box-next.result in
    let here = box g t (goal.at.loop-wait-preserved g t c).In-Some-place table sound in
    let less : k < get_or hs n 0 = omega (arith, c.loop-wait-test.true, factor_is g t (goal.at.loop-wait-preserved g t c).In-Some-place table sound) in
    let boxed = subst (λ s. Boxed K prefix s b k next) here.socket c.with_box-next.ensures in
    let more = begun_next K table hs n prefix begun b here.booked k less next boxed in
    under_more K laws table hs all n prefix begun space.limit b here.booked k c.args.best c.loop-wait.best c.if-is_better.best (c.loop-wait.invariant table sound begun)
    (elim c.if-is_better.branch [
      | then-is_better w ↦ subst (Outcome K table.slots space.limit _ c.loop-wait.best) (sym w.best-is) (exactly_next K laws table hs all n prefix begun space.limit b here.booked k less next boxed c.loop-wait.best w.extend-best.result (w.extend-best.ensures table sound more))
      | else-is_better w ↦
          subst (Outcome K table.slots space.limit _ c.loop-wait.best) (sym w.best-is)
          (exactly_cut K laws table hs all n prefix begun space.limit b here.booked k less next boxed c.loop-wait.best
          (⊎_elim (λ better. absurd (false≢true (sym w.if-is_better.false ∙ c.is_better-in-loop-wait.ensures.1 better))) (λ past. past) (cases_lt next.peak (bar space.limit c.loop-wait.best)))
          (completes_reaches K laws table hs all (n + 1) next more))
    ])

pub returns : goal.returns
returns g t c = λ table sound begun.
    let space = c.args.self.now in
    let here = box g t (goal.at.returns g t c).In-Some-place table sound in
    under_all g.L.Load.kind g.met.L.Load.lawful table (factors_of space.berths) (factors table.slots space.berths sound.berths) c.args.socket c.args.prefix.now begun space.limit c.in-Some-place.berth.booking here.booked c.loop-wait.wait c.args.best c.loop-wait.best (omega (arith, factor_is g t (goal.at.returns g t c).In-Some-place table sound, c.loop-wait-test.false)) (c.loop-wait.invariant table sound begun)
