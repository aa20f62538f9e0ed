-- The load of a mask, place by place from the lowest bit up.
use Rattle.std.proofs.Common.{◌≡◌, ℕ, ◌-◌, ◌^◌, ◌<◌, ◌≤◌, Bool, true, false, not, ◌&&◌, ◌||◌, eqb, length, get_or, None, sym, refl, ap, ◌∙◌, subst, arith}
use lib.Bits.{bit_and, and_le_r}
use Rattle.std.proofs.lemmas.Bool.{and_parts, eqb-true, false≢true}
use Rattle.load.specs.Kinds.{Kind, Laws}
use Rattle.draws.specs.Draws.{Places, bit, load_of, total}
use Rattle.draws.proofs.Bits.{Lowest, bit_of_and, bit_none}
use Rattle.draws.proofs.Totals.{either, only, total_more, total_none, total_same}

-- the places of a mask that are gone from what is left
unfoldable pub gone : ℕ → ℕ → ℕ → Bool
gone mask left i = bit mask i && not (bit left i)

-- sum is the load of the places that are gone
pub record Summed {L : Type 0} (K : Kind L) (ps : Places) (mask left : ℕ) (sum : L) : Type 0 where
  pub within : left < 2 ^ 24
  pub inside : (i : ℕ) → bit left i ≡ true → bit mask i ≡ true
  pub is : sum ≡ total K (gone mask left) 0 ps

-- what is left without its lowest place
pub bit_cleared : (left s i : ℕ) → Lowest 24 left s → bit (bit_and left (left - 1)) i ≡ (bit left i && not (eqb i s))
bit_cleared left s i low = bit_of_and left (left - 1) i ∙ low.cleared i

and_not_self : (b : Bool) → (b && not b) ≡ false
and_not_self true = refl
and_not_self false = refl

and_not_none : (b : Bool) → (b && not false) ≡ b
and_not_none true = refl
and_not_none false = refl

-- a place goes: m is the mask there, l what is left, here whether it is the place that goes
gone_one : (m l here : Bool) → (l ≡ true → m ≡ true) → (here ≡ true → l ≡ true) → (m && not (l && not here)) ≡ ((m && not l) || here)
gone_one true true true a b = refl
gone_one true true false a b = refl
gone_one true false true a b = absurd (false≢true (b refl))
gone_one true false false a b = refl
gone_one false true true a b = absurd (false≢true (a refl))
gone_one false true false a b = absurd (false≢true (a refl))
gone_one false false true a b = absurd (false≢true (b refl))
gone_one false false false a b = refl

module _ {L : Type 0} (K : Kind L) (laws : Laws K) (ps : Places) (few : length ps ≤ 64) where
  pub summed_none : (mask : ℕ) (sum : L) → mask < 2 ^ 24 → sum ≡ K.none → Summed K ps mask mask sum
  unfolding gone
  summed_none mask sum within e = record {
    within = within;
    inside = λ i h. h;
    is = e ∙ sym (total_none K laws (gone mask mask) ps (λ i. and_not_self (bit mask i)));
  }

  pub summed_all : (mask left : ℕ) (sum : L) → left ≡ 0 → Summed K ps mask left sum → sum ≡ total K (bit mask) 0 ps
  unfolding gone
  summed_all mask left sum e h =
      h.is ∙ total_same K laws (gone mask left) (bit mask) 0 ps (λ i. ap (λ b. bit mask i && not b) (ap (λ n. bit n i) e ∙ bit_none i) ∙ and_not_none (bit mask i))

  pub summed_more : (mask left s : ℕ) (sum : L) → Lowest 24 left s → Summed K ps mask left sum → Summed K ps mask (bit_and left (left - 1)) (K.plus sum (load_of K (get_or ps s None)))
  unfolding gone
  summed_more mask left s sum low h =
      let at : (i : ℕ) → eqb i s ≡ true → bit left i ≡ true = λ i e. subst (λ j. bit left j ≡ true) (sym (eqb-true i s e)) low.is_set in
      record {
        within = omega (arith, h.within, and_le_r left (left - 1));
        inside = λ i e. h.inside i (and_parts _ _ (sym (bit_cleared left s i low) ∙ e)).0;
        is =
            ap (λ x. K.plus x (load_of K (get_or ps s None))) h.is
            ∙ sym (total_more K laws (gone mask left) s ps (ap (λ b. bit mask s && not b) low.is_set ∙ and_false (bit mask s)) few)
            ∙ total_same K laws (either (gone mask left) (only s)) (gone mask (bit_and left (left - 1))) 0 ps
            (λ i. sym (ap (λ b. bit mask i && not b) (bit_cleared left s i low) ∙ gone_one (bit mask i) (bit left i) (eqb i s) (h.inside i) (at i)));
      }
    where
      and_false : (b : Bool) → (b && false) ≡ false
      and_false true = refl
      and_false false = refl
