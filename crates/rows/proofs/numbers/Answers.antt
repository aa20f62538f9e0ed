use Rattle.std.proofs.Common.{rules, ◌≡◌, ℕ, List, Ok, Err, MatchResult, Result, is_ok, sym, refl, ap, subst}
use Rattle.std.proofs.ResultArms.{chosen}
use Rattle.std.specs.Result.{IsErrAnd}
use Rattle.std.proofs.lemmas.Result.{OkIff-at_ok, OkIff-at_err, err_from_is_err_and}
use Rattle.std.specs.Str.Iter.{split_whitespace_rest}
use Rattle.rows.proofs.Lines.{Sofar, first_word, sofar_more, words_push}
use Rattle.rows.specs.declared.RowsFault.TheVariants.{BadLine}
use Rattle.rows.proofs.numbers.Goals as goal

-- what `map_err` keeps of an `Ok`, and of an `Err`
ok_kept : {T E D : Type 0} (Q : E → D → Type 0) (r : Result T E) (m : Result T D) (x : T) → MatchResult r (λ y. m ≡ Ok y) (λ e. IsErrAnd m (Q e)) → m ≡ Ok x → r ≡ Ok x
ok_kept Q (Ok y) m x h is = cc
ok_kept Q (Err e) m x h is = let p = err_from_is_err_and m h in let q = p.1 in cc

err_kept : {T E D : Type 0} (Q : E → D → Type 0) (r : Result T E) (m : Result T D) (d : D) → MatchResult r (λ y. m ≡ Ok y) (λ e. IsErrAnd m (Q e)) → m ≡ Err d → (e : E) × (r ≡ Err e) × Q e d
err_kept Q (Ok y) m d h is = cc
err_kept Q (Err e) m d h is = (e, refl, subst (λ n. IsErrAnd n (Q e)) is h)

pub returns-in_err-n : goal.returns-in_err-n
returns-in_err-n c =
    let old = c.loop-word.invariant in
    let first = first_word _ c.in-Some.word.now (split_whitespace_rest c.next.new.self) c.in-Some.ensures.steps in
    let e = err_kept _ c.parse.result c.map_err.result _ c.map_err.ensures.cases c.in_err-n.was in
    let fault : c.in_err-n.field-0.0 ≡ BadLine c.args.at = search rules in
    let other = OkIff-at_err _ _ _ _ c.parse.ensures.value.0 e.1 in
    let p = err_from_is_err_and c.from_residual.result c.from_residual.ensures.1 in
    rw (p.1, p.2, fault)
    (refl, (old.seen, c.in-Some.word.now, _, words_push _ old.seen _ _ _ old.words first, other))

pub loop-word-preserved : goal.loop-word-preserved
loop-word-preserved c =
    let first = first_word _ c.in-Some.word.now (split_whitespace_rest c.next.new.self) c.in-Some.ensures.steps in
    let pushed = chosen {X = List ℕ} _ _ _ _ c.push.ensures.items (ap is_ok c.in_ok-push.was) in
    let was = ok_kept _ c.parse.result c.map_err.result _ c.map_err.ensures.cases c.in_ok-n.was in
    let read = OkIff-at_ok _ _ _ _ c.parse.ensures.value.0 was in
    subst (Sofar _ _) (sym pushed) (sofar_more _ _ _ _ _ _ c.loop-word.invariant first read.0 read.1)
