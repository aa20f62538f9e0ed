-- A word more of a line, a line more of a text, and what stands before a comment.
use Rattle.std.proofs.Common.{◌≡◌, ℕ, zero, suc, drop, length-append, ◌+◌, ◌<◌, ◌≤◌, false, eqb, List, [], ◌∷◌, ◌++◌, map, length, get_or, Ok, Err, sym, refl, ap, ◌∙◌, subst, append_assoc, append-nil, arith}
use Rattle.std.specs.Char.{encode_utf8, is_newline, is_whitespace, is_not_whitespace}
use Rattle.std.proofs.lemmas.Str.{length-encode, len_utf8_bounds}
use Rattle.std.specs.Str.{NoCharPasses, EmptyOrStartsWithPassing}
use Rattle.std.specs.List.{AllByRecursion}
use Rattle.std.proofs.ByRecursion.{All-push}
use Rattle.std.proofs.lemmas.List.{length-map, length_push, map_push}
use Rattle.std.proofs.lemmas.Bool.{cond-true, cond-false, eq-eqb, ne_eqb}
use Rattle.std.specs.Str.Lines.{IsFirstLine}
use Rattle.rows.specs.declared.Row.{Row}
use Rattle.rows.specs.declared.RowsFault.{RowsFault}
use Rattle.rows.specs.declared.RowsFault.TheVariants.{BadLine, TooManyRows, Memory}
use Rattle.rows.specs.Rows.{before, FirstWord, Words, IsNumber, number_of, Lines, Said, said, Gives, Rows, Adds, Reads, UpTo}

-- the byte c is not in bs
abbrev pub Lacks : ℕ → List ℕ → Type 0
Lacks c bs = (i : ℕ) → i < length bs → get_or bs i 0 ≡ c → ⊥

lacks_head : (c b : ℕ) (bs : List ℕ) → Lacks c (b ∷ bs) → eqb b c ≡ false
lacks_head c b bs h = ne_eqb b c (h 0 (omega arith))

lacks_tail : (c b : ℕ) (bs : List ℕ) → Lacks c (b ∷ bs) → Lacks c bs
lacks_tail c b bs h = λ i within. h (suc i) (omega arith)

pub before_none : (c : ℕ) (bs : List ℕ) → Lacks c bs → bs ≡ before c bs
before_none c [] h = refl
before_none c (b ∷ bs) h = ap (λ l. b ∷ l) (before_none c bs (lacks_tail c b bs h)) ∙ sym (cond-false _ _ _ (lacks_head c b bs h))

pub before_some : (c : ℕ) (bs rest : List ℕ) → Lacks c bs → bs ≡ before c (bs ++ (c ∷ rest))
before_some c [] rest h = sym (cond-true _ _ _ (eq-eqb c c refl))
before_some c (b ∷ bs) rest h = ap (λ l. b ∷ l) (before_some c bs rest (lacks_tail c b bs h)) ∙ sym (cond-false _ _ _ (lacks_head c b bs h))

-- what `split_whitespace` says of an item
pub first_word : (bs w rest : List ℕ) → (gap : List ℕ) × (bs ≡ gap ++ (w ++ rest)) × (0 < length w) × NoCharPasses is_not_whitespace gap × NoCharPasses is_whitespace w × ((more : List ℕ) × EmptyOrStartsWithPassing is_whitespace rest more) → FirstWord bs w rest
first_word bs w rest cut = record { gap = cut.0; cut = cut.1; some = cut.2; blank = cut.3; solid = cut.4; ends = cut.5 }

pub words_push : (bs : List ℕ) (ws : List (List ℕ)) (rest w next : List ℕ) → Words bs ws rest → FirstWord rest w next → Words bs (ws ++ w ∷ []) next
words_push bs [] rest w next h first = (next, subst (λ l. FirstWord l w next) (sym h) first, refl)
words_push bs (v ∷ ws) rest w next h first = (h.0, h.1, words_push h.0 ws rest w next h.2 first)

-- the words up to rest, all of them numbers, give the numbers ns
pub record Sofar (text rest : List ℕ) (ns : List ℕ) : Type 0 where
  pub seen : List (List ℕ)
  pub words : Words text seen rest
  pub all : AllByRecursion IsNumber seen
  pub numbers : ns ≡ map number_of seen

pub sofar_more : (text rest ns w next : List ℕ) (n : ℕ) → Sofar text rest ns → FirstWord rest w next → IsNumber w → n ≡ number_of w → Sofar text next (ns ++ n ∷ [])
sofar_more text rest ns w next n old first is e = record {
  seen = old.seen ++ w ∷ [];
  words = words_push text old.seen rest w next old.words first;
  all = All-push IsNumber old.seen w old.all is;
  numbers = ap (λ l. l ++ n ∷ []) old.numbers ∙ ap (λ k. map number_of old.seen ++ k ∷ []) e ∙ sym (map_push number_of old.seen w);
}

pub lines_push : (bs : List ℕ) (ls : List (List ℕ)) (rest l next : List ℕ) → Lines bs ls rest → 0 < length rest → IsFirstLine rest l next → Lines bs (ls ++ l ∷ []) next
lines_push bs [] rest l next h some line = (next, subst (λ w. 0 < length w) (sym h) some, subst (λ w. IsFirstLine w l next) (sym h) line, refl)
lines_push bs (v ∷ ls) rest l next h some line = (h.0, h.1, h.2, lines_push h.0 ls rest l next h.3 some line)

pub rows_push : (k n m : ℕ) (ls : List (List ℕ)) (rs : List Said) (l : List ℕ) (here : List Said) → m ≡ n + length ls → Rows k n ls rs → Gives k m l here → Rows k n (ls ++ l ∷ []) (rs ++ here)
rows_push k n m [] rs l here e h gives = (
  here,
  [],
  subst (λ i. Gives k i l here) (omega (arith, e)) gives,
  refl,
  ap (λ r. r ++ here) h ∙ sym (append-nil here),
)
rows_push k n m (v ∷ ls) rs l here e h gives = (
  h.0,
  h.1 ++ here,
  h.2,
  rows_push k (n + 1) m ls h.1 l here (omega (arith, e)) h.3 gives,
  ap (λ r. r ++ here) h.4 ∙ append_assoc h.0 h.1 here,
)

-- the lines up to rest, before line `at`, give the rows
pub record Read (k most : ℕ) (text rest : List ℕ) (at : ℕ) (rows : List Row) : Type 0 where
  pub lines : List (List ℕ)
  pub cut : Lines text lines rest
  pub number : at ≡ length lines + 1
  pub within : at + length rest ≤ length text + 1
  pub given : Rows k 1 lines (map said rows)
  pub few : length rows ≤ most

-- what `lines` says of an item
abbrev Next : List ℕ → List ℕ → List ℕ → Type 0
Next rest l next = (0 < length rest) × (length l + length next ≤ length rest) × IsFirstLine rest l next

-- each line takes a byte at least
shorter : (n : ℕ) (rest next : List ℕ) → 0 < length rest → EmptyOrStartsWithPassing is_newline (drop n rest) next → n + length next ≤ length rest → length next < length rest
shorter zero rest next some starts within =
    let first = starts some in
    omega (arith, ap length first.2, length-append (encode_utf8 first.0) next, length-encode first.0, len_utf8_bounds first.0)
shorter (suc n) rest next some starts within = omega arith

pub read_more : (k most : ℕ) (text rest l next : List ℕ) (at : ℕ) (old new : List Row) → Read k most text rest at old → Next rest l next → Adds k most at l old new (Ok tt) → Read k most text next (at + 1) new
read_more k most text rest l next at old new r line adds = record {
  lines = r.lines ++ l ∷ [];
  cut = lines_push text r.lines rest l next r.cut line.0 line.2;
  number = omega (arith, r.number, length_push r.lines l);
  within = omega (arith, r.within, shorter line.2.0 rest next line.0 line.2.2 line.2.3);
  given = subst (Rows k 1 (r.lines ++ l ∷ [])) (sym adds.2) (rows_push k 1 at r.lines (map said old) l adds.0 (omega (arith, r.number)) r.given adds.1);
  few = adds.3 r.few;
}

upto : (k most n : ℕ) (text rest l next : List ℕ) (at : ℕ) (old : List Row) → Read k most text rest at old → Next rest l next → n ≡ at → UpTo k text n l (map said old)
upto k most n text rest l next at old r line e = record {
  lines = r.lines;
  rest = next;
  cut = lines_push text r.lines rest l next r.cut line.0 line.2;
  number = e ∙ r.number;
  rows = r.given;
}

pub read_fault : (k most : ℕ) (text rest l next : List ℕ) (at : ℕ) (old new : List Row) (e : RowsFault) → Read k most text rest at old → Next rest l next → Adds k most at l old new (Err e) → Reads k most text (Err e)
read_fault k most text rest l next at old new (BadLine n) r line adds = (l, map said old, upto k most n text rest l next at old r line adds.0, adds.1)
read_fault k most text rest l next at old new (TooManyRows n) r line adds = (
  l,
  map said old,
  upto k most n text rest l next at old r line adds.0,
  omega (arith, length-map old said, r.few, adds.1),
  (adds.2.0, subst (λ m. Gives k m l (adds.2.0 ∷ [])) (sym adds.0) adds.2.1),
)
read_fault k most text rest l next at old new Memory r line adds = tt
