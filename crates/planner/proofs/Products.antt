-- The product of the factors, socket by socket.
use Rattle.std.proofs.Common.{◌≡◌, ℕ, zero, suc, ◌+◌, ◌*◌, ◌<◌, ◌≤◌, List, [], ◌∷◌, ◌++◌, length, get_or, take, Some, None, Option, sym, ap, ◌∙◌, mul_assoc, mul-le-mul_left, mul-pos, one-mul, mul-one, arith}
use Rattle.std.proofs.lemmas.List.{map_more}
use Rattle.planner.specs.declared.berth.Berth.{Berth}
use Rattle.planner.specs.Berths.{factor_of, factors_of}
use Rattle.planner.specs.Settings.{product}

product_append : (xs ys : List ℕ) → product (xs ++ ys) ≡ product xs * product ys
product_append [] ys = sym (one-mul (product ys))
product_append (x ∷ xs) ys = ap (λ k. x * k) (product_append xs ys) ∙ sym (mul_assoc x (product xs) (product ys))

pub product_more : (xs : List (Option Berth)) (i : ℕ) → i < length xs → product (factors_of (take (i + 1) xs)) ≡ product (factors_of (take i xs)) * factor_of (get_or xs i None)
product_more xs i within =
    let last = factor_of (get_or xs i None) in
    ap product (map_more factor_of xs i None within) ∙ product_append (factors_of (take i xs)) (last ∷ []) ∙ ap (λ k. product (factors_of (take i xs)) * k) (mul-one last)

factor_some : (x : Option Berth) → 0 < factor_of x
factor_some None = omega arith
factor_some (Some x) = x.positive

product_some : (xs : List (Option Berth)) → 0 < product (factors_of xs)
product_some [] = omega arith
product_some (x ∷ xs) = mul-pos (factor_some x) (product_some xs)

-- a whole product is not below that of a front
pub product_front : (xs : List (Option Berth)) (i : ℕ) → product (factors_of (take i xs)) ≤ product (factors_of xs)
product_front xs zero = product_some xs
product_front [] (suc i) = omega arith
product_front (x ∷ xs) (suc i) = mul-le-mul_left (factor_of x) (product_front xs i)
