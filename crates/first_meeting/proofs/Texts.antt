-- A line more of a record.
use Rattle.std.proofs.Common.{◌≡◌, ℕ, suc, drop, ◌+◌, ◌<◌, List, [], ◌∷◌, ◌++◌, length, get_or, take, sym, refl, ap, ◌∙◌, inl, inr, append_assoc, append-nil, add-one, arith}
use Rattle.std.proofs.Math.ListN.{get_or-append}
use Rattle.std.proofs.Math.Seq.{get_or-append_seam, split_at}
use Rattle.std.proofs.lemmas.List.{length-take-le, take_more}
use Rattle.congruence.specs.declared.clocks.Clock.{Clock}
use Rattle.congruence.specs.Clocks.{Valid, Meet}
use Rattle.first_meeting.specs.Records.{box_line, box_lines, clock_at, pair_line, PairsOf, PairsWith, Pairs}

-- what is asked of two boxes that meet
abbrev pub Together : Clock → Clock → Type 0
Together a b = Valid a × Valid b × Meet (a ∷ (b ∷ []))

abbrev zero_clock : Clock
zero_clock = record { period = 0; wait = 0 }

box_lines_push : (n : ℕ) (cs : List Clock) (c : Clock) → box_lines n (cs ++ c ∷ []) ≡ box_lines n cs ++ box_line (n + length cs) c
box_lines_push n [] c = append-nil (box_line n c) ∙ ap (λ k. box_line k c) (omega arith)
box_lines_push n (d ∷ cs) c =
    ap (λ l. box_line n d ++ l) (box_lines_push (n + 1) cs c ∙ ap (λ k. box_lines (n + 1) cs ++ box_line k c) (omega arith))
    ∙ sym (append_assoc (box_line n d) (box_lines (n + 1) cs) (box_line (n + length (d ∷ cs)) c))

pub box_lines_more : (cs : List Clock) (i : ℕ) (d : Clock) → i < length cs → box_lines 1 (take i cs) ++ box_line (i + 1) (get_or cs i d) ≡ box_lines 1 (take (i + 1) cs)
box_lines_more cs i d within =
    ap (λ k. box_lines 1 (take i cs) ++ box_line k (get_or cs i d)) (omega (arith, length-take-le i cs (omega arith)))
    ∙ sym (box_lines_push 1 (take i cs) (get_or cs i d)) ∙ ap (box_lines 1) (sym (take_more cs i d within))

pub pairs_of_met : (earlier : List Clock) (c : Clock) (k : ℕ) (text : List ℕ) → k < length earlier → PairsOf earlier c k text → Together (clock_at earlier k) c → PairsOf earlier c (k + 1) text
pairs_of_met earlier c k text within h met =
    λ later. rw add-one (text, h later, inl (rw (get_or-append earlier (c ∷ later) zero_clock k within, get_or-append_seam earlier c later zero_clock) met, refl))

pub pairs_of_apart : (earlier : List Clock) (c : Clock) (k : ℕ) (text : List ℕ) → k < length earlier → PairsOf earlier c k text → (Together (clock_at earlier k) c → ⊥) → PairsOf earlier c (k + 1) (text ++ pair_line (k + 1) (length earlier + 1))
pairs_of_apart earlier c k text within h never =
    λ later. rw add-one (text, h later, inr (λ met. never (rw (get_or-append earlier (c ∷ later) zero_clock k within, get_or-append_seam earlier c later zero_clock) at met), ap (λ i. text ++ pair_line i (length earlier + 1)) (omega arith)))

pub pairs_of_whole : (cs : List Clock) (n : ℕ) (d : Clock) (text : List ℕ) → n < length cs → PairsOf (take n cs) (get_or cs n d) (length (take n cs)) text → PairsWith cs n n text
pairs_of_whole cs n d text within h =
    rw (← split_at cs n d within, length-take-le n cs (omega arith)) at (h (drop (suc n) cs))

pub pairs_more : (cs : List Clock) (n : ℕ) (text here : List ℕ) → Pairs cs n text → PairsWith cs n n here → Pairs cs (n + 1) (text ++ here)
pairs_more cs n text here h w = rw add-one (text, here, h, w, refl)

-- a text that was start and text has one line more
pub appended : (after now line start text next : List ℕ) → after ≡ now ++ line → now ≡ start ++ text → text ++ line ≡ next → after ≡ start ++ next
appended after now line start text next push was more = push ∙ ap (λ l. l ++ line) was ∙ append_assoc start text line ∙ ap (λ l. start ++ l) more
