-- A list that is changed at one place stays within its ranges.
use Rattle.std.proofs.Common.{◌≡◌, ℕ, ◌<◌, Bool, true, List, length, get_or, set, Ok, Err, Result, OnOk, ap, ◌∙◌, ⊎_elim}
use Rattle.std.proofs.lemmas.List.{get_or-set_other, get_or-set_same}
use Rattle.std.proofs.lemmas.Bool.{cases_eq}

pub set_ranges : {X : Type 0} (sound : X → Bool) (d : X) (xs : List X) (n i : ℕ) (v : X) → i < length xs → sound v ≡ true → ((k : ℕ) → k < n → sound (get_or xs k d) ≡ true) → (k : ℕ) → k < n → sound (get_or (set xs i v) k d) ≡ true
set_ranges sound d xs n i v within fits h k below =
    ⊎_elim
    (λ e. ap (λ j. sound (get_or (set xs i v) j d)) e ∙ ap sound (get_or-set_same xs i v d within) ∙ fits)
    (λ ne. ap sound (get_or-set_other xs i k v d ne) ∙ h k below)
    (cases_eq k i)

-- what passes its checks is accepted
pub accepted : {X E : Type 0} (r v : Result X E) (x : X) (P : Type 0) → r ≡ v → v ≡ Ok x → OnOk r P → P
accepted (Ok y) v x P told fits after = after
accepted (Err e) v x P told fits after = absurd cc
