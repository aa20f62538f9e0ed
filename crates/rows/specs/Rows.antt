-- What the lines of a text say: the numbers of each, up to its comment.
use Rattle.std.specs.Prelude.{◌≡◌, ℕ, ◌+◌, ◌^◌, ◌<◌, ◌≤◌, if◌then◌else◌, ◌⊎◌, List, [], ◌∷◌, ◌++◌, map, length, Ok, Err, vec_items, vec_len, Result, Vec, ◌==◌, ◌≢◌}
use Rattle.std.specs.Str.Parse.{IsNumeral, without_leading_plus, digits_value}
use Rattle.std.specs.Char.{is_whitespace, is_not_whitespace}
use Rattle.std.specs.Str.{NoCharPasses, EmptyOrStartsWithPassing}
use Rattle.std.specs.List.{AllByRecursion}
use Rattle.std.specs.Str.Lines.{IsFirstLine}
use Rattle.std.specs.declared.alloc.Global.{Global}
use Rattle.rows.specs.declared.Row.{Row}
use Rattle.rows.specs.declared.RowsFault.{RowsFault}
use Rattle.rows.specs.declared.RowsFault.TheVariants.{BadLine, TooManyRows, Memory}

-- what stands before the first byte c
abbrev pub before : ℕ → List ℕ → List ℕ
before c [] = []
before c (b ∷ bs) = if b == c then [] else b ∷ before c bs

-- bs is white space, the word w, and rest, which is empty or begins with white space
pub record FirstWord (bs w rest : List ℕ) : Type 0 where
  pub gap : List ℕ
  pub cut : bs ≡ gap ++ (w ++ rest)
  pub some : 0 < length w
  pub blank : NoCharPasses is_not_whitespace gap
  pub solid : NoCharPasses is_whitespace w
  pub ends : (more : List ℕ) × EmptyOrStartsWithPassing is_whitespace rest more

-- bs begins with the words ws, and rest stands behind them
abbrev pub Words : List ℕ → List (List ℕ) → List ℕ → Type 0
Words bs [] rest = bs ≡ rest
Words bs (w ∷ ws) rest = (next : List ℕ) × FirstWord bs w next × Words next ws rest

-- the word is a whole number of 32 bits in decimal digits, a `+` in front allowed
abbrev pub IsNumber : List ℕ → Type 0
IsNumber w = IsNumeral 10 (without_leading_plus w) × (digits_value 10 (without_leading_plus w) < 2 ^ 32)

abbrev pub number_of : List ℕ → ℕ
number_of w = digits_value 10 (without_leading_plus w)

-- the line has just the numbers ns
abbrev pub Numbers : List ℕ → List ℕ → Type 0
Numbers line ns =
    (ws : List (List ℕ)) × (rest : List ℕ) × Words (before 35 line) ws rest × NoCharPasses is_not_whitespace rest × AllByRecursion IsNumber ws × (ns ≡ map number_of ws)

-- some word of the line is no number
abbrev pub OtherWord : List ℕ → Type 0
OtherWord line =
    (ws : List (List ℕ)) × (w rest : List ℕ) × Words (before 35 line) (ws ++ w ∷ []) rest × (IsNumber w → ⊥)

abbrev pub NoNumbers : ℕ → List ℕ → RowsFault → Type 0
NoNumbers at line (BadLine n) = (n ≡ at) × OtherWord line
NoNumbers at line (TooManyRows n) = ⊥
NoNumbers at line Memory = Unit {0}

-- bs begins with the lines ls, and rest stands behind them
abbrev pub Lines : List ℕ → List (List ℕ) → List ℕ → Type 0
Lines bs [] rest = bs ≡ rest
Lines bs (l ∷ ls) rest = (next : List ℕ) × (0 < length bs) × IsFirstLine bs l next × Lines next ls rest

-- a row as text says it: the number of its line, and its numbers
pub record Said : Type 0 where
  pub line : ℕ
  pub numbers : List ℕ

abbrev pub said : Row → Said
said r = record { line = r.line; numbers = vec_items r.numbers }

-- line n gives the rows rs: none where it has no number, and else one, of k numbers
pub data Gives (k n : ℕ) (line : List ℕ) : List Said → Type 0 where
  none : Numbers line [] → Gives k n line []
  one : (ns : List ℕ) → Numbers line ns → 0 < length ns → length ns ≡ k → Gives k n line (record { line = n; numbers = ns } ∷ [])

-- line has a word that is no number, or some numbers that are not k
abbrev pub Unreadable : ℕ → List ℕ → Type 0
Unreadable k line = OtherWord line ⊎ ((ns : List ℕ) × Numbers line ns × (0 < length ns) × (length ns ≢ k))

-- what line n adds to the rows old
abbrev pub Adds : (k most n : ℕ) → List ℕ → List Row → List Row → Result (Unit {0}) RowsFault → Type 0
Adds k most n line old new (Ok _) = (rs : List Said) × Gives k n line rs × (map said new ≡ map said old ++ rs) × (length old ≤ most → length new ≤ most)
Adds k most n line old new (Err (BadLine m)) = (m ≡ n) × Unreadable k line
Adds k most n line old new (Err (TooManyRows m)) = (m ≡ n) × (most ≤ length old) × ((r : Said) × Gives k n line (r ∷ []))
Adds k most n line old new (Err Memory) = Unit {0}

-- lines ls, of which the first is line n, give the rows rs
abbrev pub Rows : (k n : ℕ) → List (List ℕ) → List Said → Type 0
Rows k n [] rs = rs ≡ []
Rows k n (l ∷ ls) rs = (here : List Said) × (there : List Said) × Gives k n l here × Rows k (n + 1) ls there × (rs ≡ here ++ there)

-- the lines before line n, and their rows
pub record UpTo (k : ℕ) (text : List ℕ) (n : ℕ) (line : List ℕ) (rs : List Said) : Type 0 where
  pub lines : List (List ℕ)
  pub rest : List ℕ
  pub cut : Lines text (lines ++ line ∷ []) rest
  pub number : n ≡ length lines + 1
  pub rows : Rows k 1 lines rs

-- what a text says in rows of k numbers, at most `most` of them
abbrev pub Reads : (k most : ℕ) → List ℕ → Result (Vec Row Global) RowsFault → Type 0
Reads k most text (Ok v) = (ls : List (List ℕ)) × Lines text ls [] × Rows k 1 ls (map said (vec_items v)) × (vec_len v ≤ most)
Reads k most text (Err (BadLine n)) = (line : List ℕ) × (rs : List Said) × UpTo k text n line rs × Unreadable k line
Reads k most text (Err (TooManyRows n)) = (line : List ℕ) × (rs : List Said) × UpTo k text n line rs × (length rs ≡ most) × ((r : Said) × Gives k n line (r ∷ []))
Reads k most text (Err Memory) = Unit {0}
