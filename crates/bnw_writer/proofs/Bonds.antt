-- The words that are bonds: what `bonds` makes of each, and how many there are.
use Rattle.std.proofs.Common.{◌≡◌, refl, sym, ap, ap₂, ◌∙◌, cond, true, false, List, [], ◌∷◌, ℕ, suc, ◌+◌, ◌/◌, ◌<◌, ◌≤◌, length, get_or, take, count_by, length-append, add-one, add-zero, arith}
use Rattle.std.specs.List.{enumerate_from}
use Rattle.std.proofs.lemmas.List.Sums.{sum_by-cons, count_by-le-length, count_by_more_yes, count_by_more_no}
use Rattle.std.proofs.lemmas.List.FromFn.{length-enumerate_from, get_or-enumerate_from}
use Rattle.graph.specs.Lists.{gather, numbers_from}
use Rattle.network.specs.Maxima.{places}
use Rattle.bonds.specs.Bonds.{bond, bond_at, bonds_of}
use Rattle.bonds.proofs.TableBonds.{bonds_fit}
use Rattle.bnw_writer.specs.Words.{is_bond}

module _ (t : List ℕ) (i : ℕ) where
  pub one_bond : is_bond i (get_or t i 0) ≡ true → bond_at t i ≡ bond (i / places) (get_or t i 0) ∷ []
  unfolding bond_at
  one_bond h = rw h refl

  pub no_bond : is_bond i (get_or t i 0) ≡ false → bond_at t i ≡ []
  unfolding bond_at
  no_bond h = rw h refl

  -- with the bonds of earlier words it is one of the table's
  pub bond_fits : i < length t → is_bond i (get_or t i 0) ≡ true → length (gather (bond_at t) (numbers_from i 0)) + 1 ≤ length (bonds_of t)
  bond_fits l h = omega (arith, bonds_fit t i l, ap length (one_bond h))

  many : length (bond_at t i) ≡ cond (is_bond i (get_or t i 0)) 1 0
  many = elim (is_bond i (get_or t i 0)) as (λ b. is_bond i (get_or t i 0) ≡ b → length (bond_at t i) ≡ cond b 1 0) [ true ↦ λ h. ap length (one_bond h) | false ↦ λ h. ap length (no_bond h) ] refl

-- the words from word a on
counted_from : (t xs : List ℕ) (a : ℕ) → ((k i : ℕ) → i ≡ a + k → k < length xs → get_or t i 0 ≡ get_or xs k 0)
    → count_by (λ (x : ℕ × ℕ). is_bond x.0 x.1) (enumerate_from a xs) ≡ length (gather (bond_at t) (numbers_from (length xs) a))
counted_from t [] a e = refl
counted_from t (w ∷ xs) a e =
    let first : get_or t a 0 ≡ w = e 0 a (omega arith) (omega arith) in
    let here : count_by (λ (x : ℕ × ℕ). is_bond x.0 x.1) (enumerate_from a (w ∷ xs)) ≡ cond (is_bond a w) 1 0 + count_by (λ (x : ℕ × ℕ). is_bond x.0 x.1) (enumerate_from (a + 1) xs) =
    sum_by-cons (λ (x : ℕ × ℕ). cond (is_bond x.0 x.1) 1 0) (a, w) (enumerate_from (a + 1) xs) in
    let rest = counted_from t xs (a + 1) (λ k i d l. e (suc k) i (omega arith) (omega arith)) in
    here
    ∙ ap₂ ◌+◌ (sym (rw first at (many t a))) (rest ∙ ap (λ (i : ℕ). length (gather (bond_at t) (numbers_from (length xs) i))) (add-one a))
    ∙ sym (length-append (bond_at t a) (gather (bond_at t) (numbers_from (length xs) (suc a))))

pub counted : (t : List ℕ) → count_by (λ (x : ℕ × ℕ). is_bond x.0 x.1) (enumerate_from 0 t) ≡ length (bonds_of t)
unfolding bonds_of
counted t = counted_from t t 0 (λ k i d l. let z : i ≡ k = omega arith in rw z refl)

-- one word more
pub counted_next : (t : List ℕ) (i : ℕ) → i < length t
    → count_by (λ (x : ℕ × ℕ). is_bond x.0 x.1) (take (i + 1) (enumerate_from 0 t)) ≡ count_by (λ (x : ℕ × ℕ). is_bond x.0 x.1) (take i (enumerate_from 0 t)) + cond (is_bond i (get_or t i 0)) 1 0
counted_next t i l =
    let none : 0 + i ≡ i = omega arith in
    let at : get_or (enumerate_from 0 t) i (0, 0) ≡ (i, get_or t i 0) = get_or-enumerate_from 0 t i (0, 0) l ∙ ap (λ (k : ℕ). (k, get_or t i 0)) none in
    let inside : i < length (enumerate_from 0 t) = rw length-enumerate_from l in
    elim (is_bond i (get_or t i 0)) as (λ b. is_bond i (get_or t i 0) ≡ b → count_by (λ (x : ℕ × ℕ). is_bond x.0 x.1) (take (i + 1) (enumerate_from 0 t)) ≡ count_by (λ (x : ℕ × ℕ). is_bond x.0 x.1) (take i (enumerate_from 0 t)) + cond b 1 0) [
      | true ↦ λ h. count_by_more_yes (λ (x : ℕ × ℕ). is_bond x.0 x.1) (enumerate_from 0 t) i (0, 0) inside (rw at h)
      | false ↦ λ h. count_by_more_no (λ (x : ℕ × ℕ). is_bond x.0 x.1) (enumerate_from 0 t) i (0, 0) inside (rw at h) ∙ sym (add-zero _)
    ] refl

-- a table has no more bonds than words
pub no_more : (t : List ℕ) → count_by (λ (x : ℕ × ℕ). is_bond x.0 x.1) (enumerate_from 0 t) ≤ length t
no_more t = omega (arith, count_by-le-length (λ (x : ℕ × ℕ). is_bond x.0 x.1) (enumerate_from 0 t), length-enumerate_from 0 t)
