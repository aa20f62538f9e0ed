use Rattle.std.proofs.Common.{rules, ◌≡◌, ℕ, ◌-◌, ◌*◌, ◌%◌, ◌^◌, ◌≤◌, length, get_or, None, sym, ap, ◌∙◌, subst, arith}
use lib.Bits.{bit_and, bit_or, and_le_l, and_le_r}
use lib.Count.{count_trailing_zeros}
use Rattle.std.proofs.lemmas.Fn.{always_returns_same}
use Rattle.std.proofs.lemmas.Nat.{one_shl}
use Rattle.draws.specs.Draws.{load_of}
use Rattle.draws.proofs.Bits.{Lowest, lowest_of}
use Rattle.search.specs.Visits.{IsNode, Reached, Visited}
use Rattle.search.proofs.Pairs.{Higher, higher_of_max}
use Rattle.search.proofs.Visits.{behind, with_place, node_with, node_without, reached_with, visited_both, visited_cut, visited_none}
use Rattle.search.proofs.visit.+visit.Given as given
use Rattle.search.proofs.visit.+visit.Goals as goal
use Rattle.search.proofs.visit.+visit.Goals.{then-left-eq0-via-then-left-eq0, then-left-eq0-via-else-left-eq0+then-measure-best, Else-measure-best, After-max_by_key-here}

low : (g : given.Over) (t : ℕ) (c : Else-measure-best g t) → Lowest 24 c.args.node.left (count_trailing_zeros 32 c.args.node.left)
low g t c = lowest_of 24 32 c.args.node.left (omega arith) (omega (arith, c.if-left-eq0.false)) c.requires.node.left_within

pub returns-then-left-eq0 : goal.returns-then-left-eq0
returns-then-left-eq0 g t c =
    let K = g.L.Load.kind in
    let laws = g.met.L.Load.lawful in
    let list = c.args.list.now in
    let few : length list.places ≤ 64 = omega (arith, list.whole) in
    elim c.then-left-eq0.branch [
      | then-left-eq0-via-then-left-eq0 w ↦ visited_none K laws list.places few c.args.node.group c.args.node.load c.args.node.left c.args.best.0 c.args.best.1 c.requires.node c.requires.reached w.if-left-eq0.true
      | then-left-eq0-via-else-left-eq0+then-measure-best w ↦
          let measured = w.measure.ensures ∙ ap K.measure (w.plus.ensures ∙ ap (K.plus c.args.node.load) w.load_of.ensures) in
          visited_cut K laws list.places few c.args.node.group c.args.node.load c.args.node.left c.args.best.0 c.args.best.1 c.requires.node c.requires.reached (omega (arith, measured, w.if-measure-best.true))
    ]

pub bounds-meets-next : goal.bounds-meets-next
bounds-meets-next g t c = (low g t (goal.at.bounds-meets-next g t c).Else-measure-best).within

better :
    (g : given.Over) (t : ℕ) (c : After-max_by_key-here g t)
    → Higher c.args.best (c.measure-2.result, bit_or c.args.node.group (1 * 2 ^ count_trailing_zeros 32 c.args.node.left % 4294967296)) c.max_by_key-here.result
better g t c = higher_of_max _ _ _ (c.max_by_key-here.ensures (λ p. p.0) (always_returns_same _ _ _ (λ a r f k. search rules)))

-- the load with what stands at the next place
added : (g : given.Over) (t : ℕ) (c : After-max_by_key-here g t) → c.plus-2.result ≡ g.L.Load.kind.plus c.args.node.load (load_of g.L.Load.kind (get_or c.args.list.now.places (count_trailing_zeros 32 c.args.node.left) None))
added g t c = c.plus-2.ensures ∙ ap (g.L.Load.kind.plus c.args.node.load) c.load_at.ensures

shifted : (left : ℕ) → Lowest 24 left (count_trailing_zeros 32 left) → 1 * 2 ^ count_trailing_zeros 32 left % 4294967296 ≡ 2 ^ count_trailing_zeros 32 left
shifted left low = one_shl (count_trailing_zeros 32 left) 32 (omega (arith, low.within))

pub visit-taken-requires : goal.visit-taken-requires
visit-taken-requires g t c κs within =
    let K = g.L.Load.kind in
    let laws = g.met.L.Load.lawful in
    let list = c.args.list.now in
    let left = c.args.node.left in
    let s = count_trailing_zeros 32 left in
    let few : length list.places ≤ 64 = omega (arith, list.whole) in
    let lowest = low g t (goal.at.visit-taken-requires g t c).Else-measure-best in
    let sum = added g t (goal.at.visit-taken-requires g t c).After-max_by_key-here in
    let measured = c.measure-2.ensures ∙ ap K.measure sum in
    let row = c.requires.tabled.rows s lowest.within in
    let higher = better g t (goal.at.visit-taken-requires g t c).After-max_by_key-here in
    let node = node_with K laws list.places few c.args.node.group c.args.node.load left c.args.best.0 c.args.best.1 c.requires.node c.requires.reached s (get_or c.args.meets.now s 0) lowest row c.max_by_key-here.result.0 (omega (arith, measured, higher.second)) in
    let with_it = reached_with K laws list.places few c.args.node.group c.args.node.load left c.args.best.0 c.args.best.1 c.requires.node c.requires.reached s (get_or c.args.meets.now s 0) lowest row in (
      omega (arith, c.decreases, and_le_l (behind left) (get_or c.args.meets.now s 0), and_le_r left (left - 1), c.if-left-eq0.false),
      (
        within,
        (
          c.requires.tabled,
          (
            subst (λ k. IsNode K list.places (bit_or c.args.node.group k) c.plus-2.result (bit_and (behind left) (get_or c.args.meets.now s 0)) c.max_by_key-here.result.0) (sym (shifted left lowest))
                (subst (λ x. IsNode K list.places (with_place c.args.node.group s) x (bit_and (behind left) (get_or c.args.meets.now s 0)) c.max_by_key-here.result.0) (sym sum) node),
            higher.one (λ p. Reached K list.places p.0 p.1) c.requires.reached
                (rw (shifted left lowest) (rw measured with_it)),
          ),
        ),
      ),
    )

pub visit-requires : goal.visit-requires
visit-requires g t c κs within =
    let K = g.L.Load.kind in
    let laws = g.met.L.Load.lawful in
    let list = c.args.list.now in
    let left = c.args.node.left in
    let s = count_trailing_zeros 32 left in
    let few : length list.places ≤ 64 = omega (arith, list.whole) in
    let lowest = low g t (goal.at.visit-requires g t c).Else-measure-best in
    let row = c.requires.tabled.rows s lowest.within in
    let node = node_without K laws list.places few c.args.node.group c.args.node.load left c.args.best.0 c.args.best.1 c.requires.node c.requires.reached s (get_or c.args.meets.now s 0) lowest row c.visit-taken.result.0 (omega (arith, (better g t (goal.at.visit-requires g t c).After-max_by_key-here).first, c.visit-taken.ensures.grows)) in
    (omega (arith, c.decreases, and_le_r left (left - 1), c.if-left-eq0.false), (within, (c.requires.tabled, (node, c.visit-taken.ensures.reached))))

pub returns : goal.returns
returns g t c =
    let K = g.L.Load.kind in
    let laws = g.met.L.Load.lawful in
    let list = c.args.list.now in
    let left = c.args.node.left in
    let s = count_trailing_zeros 32 left in
    let few : length list.places ≤ 64 = omega (arith, list.whole) in
    let lowest = low g t (goal.at.returns g t c).Else-measure-best in
    let row = c.requires.tabled.rows s lowest.within in
    let taken = subst (λ k. Visited K list.places (bit_or c.args.node.group k) (bit_and (behind left) (get_or c.args.meets.now s 0)) c.max_by_key-here.result.0 c.visit-taken.result.0 c.visit-taken.result.1) (shifted left lowest) c.visit-taken.ensures in
    visited_both K laws list.places few c.args.node.group c.args.node.load left c.args.best.0 c.args.best.1 c.requires.node c.requires.reached s (get_or c.args.meets.now s 0) lowest row
    c.max_by_key-here.result.0 c.visit-taken.result.0 c.visit.result.0 c.visit-taken.result.1 c.visit.result.1 (better g t (goal.at.returns g t c).After-max_by_key-here).first taken c.visit.ensures
