-- What passes its checks.
use Rattle.std.proofs.Common.{◌≡◌, Bool, true, false, if◌then◌else◌, List, [], ◌∷◌, Err, is_ok, refl}
use Rattle.std.specs.List.{AllByRecursion}
use Rattle.std.proofs.lemmas.Bool.{false≢true}
use Rattle.congruence.specs.Refusals.{Check, verdict}

-- what is not refused passes every check
pub all_pass : (cs : List Check) → is_ok (verdict cs) ≡ true → AllByRecursion (λ c. c.passes ≡ true) cs
all_pass [] e = tt
all_pass (c ∷ cs) e = go c.passes refl e (all_pass cs)
  where
    go :
        (b : Bool) → c.passes ≡ b → is_ok (if b then verdict cs else Err c.refusal) ≡ true
        → (is_ok (verdict cs) ≡ true → AllByRecursion (λ c. c.passes ≡ true) cs) → (c.passes ≡ true) × AllByRecursion (λ c. c.passes ≡ true) cs
    go true p e rest = (p, rest e)
    go false p e rest = absurd (false≢true e)
