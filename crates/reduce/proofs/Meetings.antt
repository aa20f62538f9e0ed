-- Two boxes meet exactly when they meet with their periods reduced.
use Rattle.std.proofs.lemmas.Nat.Gcd.{IsGcd-swap}
use Rattle.std.proofs.Common.{◌≡◌, ℕ, ◌%◌, [], ◌∷◌, get_or, set, Some, None, sym, ap, ◌∙◌, ⊎_elim, arith}
use Prim.Native.Nat.{◌∣◌}
use native.Mathlib.Nat.{dvd_trans, mod-mod_of_dvd}
use Rattle.std.proofs.lemmas.Bool.{cases_lt}
use Rattle.std.specs.Int.{IsGcd}
use Rattle.congruence.specs.Clocks.{Meet, Valid, apart}
use Rattle.congruence.proofs.Euclid.{euclid, euclid_gcd}
use Rattle.congruence.proofs.Meetings.{meet_by_gcd, mod_more}
use Rattle.congruence.proofs.Merges.{apart_multiple}
use Rattle.draws.specs.declared.draw.Draw.{Draw}
use Rattle.draws.specs.Draws.{Places}
use Rattle.reduce.specs.Reductions.{others, shortened}
use Rattle.draws.specs.Factors.{Factor}
use Rattle.draws.proofs.Factoring.{factor_divides}
use Rattle.draws.proofs.Periods.{periods_at}
use Rattle.std.proofs.lemmas.List.{get_or-set_other}

-- numbers that lie a multiple apart have one remainder
same_remainder : (a b g : ℕ) → g ∣ apart a b → a % g ≡ b % g
same_remainder a b g d =
    ⊎_elim
    (λ less. sym (mod_more a (apart a b) g d) ∙ ap (λ n. n % g) (omega arith))
    (λ more. ap (λ n. n % g) (omega arith) ∙ mod_more b (apart a b) g d)
    (cases_lt a b)

-- two boxes at different places, before and after
module _ (ps : Places) (i j : ℕ) (d e : Draw) (h k : ℕ) (differ : i ≡ j → ⊥) (at_i : get_or ps i None ≡ Some d) (at_j : get_or ps j None ≡ Some e) (f : Factor (others ps i) d.clock.period h) (f' : Factor (others ps j) e.clock.period k) (valid-d : Valid d.clock) (valid-e : Valid e.clock) (valid-d' : Valid (shortened d h).clock) (valid-e' : Valid (shortened e k).clock) where
  g : ℕ
  g = (euclid d.clock.period e.clock.period).g

  before : IsGcd d.clock.period e.clock.period g
  unfolding g
  before = euclid_gcd (euclid d.clock.period e.clock.period)

  in_h : g ∣ h
  in_h = periods_at (λ q. (n : ℕ) → IsGcd d.clock.period q n → n ∣ h) (set ps i None) f.multiple j e (get_or-set_other ps i j None None (λ same. differ (sym same)) ∙ at_j) g before

  in_k : g ∣ k
  in_k = periods_at (λ q. (n : ℕ) → IsGcd e.clock.period q n → n ∣ k) (set ps j None) f'.multiple i d (get_or-set_other ps j i None None differ ∙ at_i) g (IsGcd-swap _ _ _ before)

  after : IsGcd h k g
  after = (in_h, in_k, λ c x y. before.2 c (dvd_trans c x (factor_divides f)) (dvd_trans c y (factor_divides f')))

  pub meet_shortened : Meet (d.clock ∷ (e.clock ∷ [])) → Meet ((shortened d h).clock ∷ ((shortened e k).clock ∷ []))
  meet_shortened m =
      let d_rem = mod-mod_of_dvd g d.clock.wait in_h in
      let e_rem = mod-mod_of_dvd g e.clock.wait in_k in
      let same = same_remainder d.clock.wait e.clock.wait g ((meet_by_gcd d.clock e.clock g valid-d valid-e before).0 m) in
      (meet_by_gcd (shortened d h).clock (shortened e k).clock g valid-d' valid-e' after).1 (apart_multiple (d.clock.wait % h) (e.clock.wait % k) g (d_rem ∙ same ∙ sym e_rem))

  pub meet_lengthened : Meet ((shortened d h).clock ∷ ((shortened e k).clock ∷ [])) → Meet (d.clock ∷ (e.clock ∷ []))
  meet_lengthened m =
      let d_rem = mod-mod_of_dvd g d.clock.wait in_h in
      let e_rem = mod-mod_of_dvd g e.clock.wait in_k in
      let same = same_remainder (d.clock.wait % h) (e.clock.wait % k) g ((meet_by_gcd (shortened d h).clock (shortened e k).clock g valid-d' valid-e' after).0 m) in
      (meet_by_gcd d.clock e.clock g valid-d valid-e before).1 (apart_multiple d.clock.wait e.clock.wait g (sym d_rem ∙ same ∙ e_rem))
