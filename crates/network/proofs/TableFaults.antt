-- The faults of a bond table, as they are computed: the number of a word tells what is at fault there, and so the first fault is named.
use mathlib.Core.Path.{◌≡◌, refl, sym, ◌∙◌, ap, subst}
use mathlib.Core.Logic.{◌⊎◌, inl, inr}
use mathlib.Core.Bool.{Bool, true, false}
use mathlib.Core.List.{List}
use Prim.Native.Nat.{ℕ, zero, suc, ◌+◌, ◌-◌, ◌*◌, ◌/◌, ◌%◌, ◌≤◌, ◌<◌}
use native.Mathlib.Omega.{arith}
use native.Mathlib.Decide.{dec_le, ℕ_discrete}
use lib.ListN.{length, get_or}
use borrow.Author.Tests.{eq-eqb, ne_eqb}
use Rattle.network.specs.declared.Answer.{Answer}
use Rattle.network.specs.Maxima.{places, free}
use Rattle.network.specs.Network.{word, Holds, Counted}
use Rattle.network.specs.Verdict.{place_fault, bond_fault, faults, stands}
use Rattle.network.specs.FirstFault.{Outside, AfterFree, Own, NotAbove, AtPlace, Unanswered, NamesFirst, NumberOf, Faultless}
use Rattle.network.proofs.PlaceFaults.{fault_free, fault_7, fault_8, fault_9, fault_9_first, fault_10, fault_none, fault_none_first, bond_free, bond_answered, bond_unanswered}
use Rattle.network.proofs.Verdicts.{below}
use Rattle.network.proofs.FirstFaults.{first_told}

-- a search through a row that finds, and what it finds
pub found : (t : List ℕ) (x y k p : ℕ) → stands t x y k p ≡ true → (q : ℕ) × (q < p + k) × (word t y q ≡ x)
unfolding stands
found t x y zero p s = let z : ◌≡◌ {A = Bool} false true = s in absurd (let e : ◌≡◌ {A = ℕ} 0 1 = cc in omega arith)
found t x y (suc k) p s =
    elim (ℕ_discrete (word t y p) x) [
      | yes e ↦ (p, omega arith, e)
      | no e ↦ (let r = found t x y k (p + 1) (simp (ne_eqb _ _ e) at s) in (r.0, omega (arith, r.1), r.2))
    ]

pub finds : (t : List ℕ) (x y k p q : ℕ) → p ≤ q → q < p + k → word t y q ≡ x → stands t x y k p ≡ true
unfolding stands
finds t x y zero p q l m e = absurd (omega arith)
finds t x y (suc k) p q l m e =
    elim (ℕ_discrete (word t y p) x) [
      | yes h ↦ simp (eq-eqb _ _ h)
      | no h ↦ rw (ne_eqb _ _ h) (finds t x y k (p + 1) q (elim (ℕ_discrete p q) [ yes d ↦ absurd (h (rw d e)) | no d ↦ omega arith ]) (omega arith) e)
    ]

-- "after a free place": where the places before in the row have no fault, one of them is free just where the last of them is
module _ (n : ℕ) (t : List ℕ) (x : ℕ) where
  pub free_stays : (p q : ℕ) → p ≤ q → q < places → ((r : ℕ) → r ≤ q → place_fault n t (x * places + r) ≡ 0) → word t x p ≡ free → word t x q ≡ free
  free_stays p zero l m f h = let e : p ≡ 0 = omega arith in rw e at h
  free_stays p (suc q) l m f h =
      elim (ℕ_discrete p (suc q)) [
        | yes e ↦ rw e at h
        | no e ↦ elim (ℕ_discrete (word t x (suc q)) free) [
          | yes z ↦ z
          | no z ↦ (let before = free_stays p q (omega arith) (omega arith) (λ r k. f r (omega arith)) h in
              let d : x * places + suc q - 1 ≡ x * places + q = omega arith in
              absurd (omega (arith, f (suc q) (omega arith), fault_8 n t (x * places + suc q) z (below n t (x * places + suc q) (f (suc q) (omega arith)) z) (omega arith) (rw d before))))
        ]
      ]

-- a place after places of its row without a fault
module _ (n : ℕ) (t : List ℕ) (x p : ℕ) (inside : p < places) (earlier : (r : ℕ) → r < p → place_fault n t (x * places + r) ≡ 0) where
  abbrev at : ℕ
  at = x * places + p

  row_of : at / places ≡ x
  row_of = omega arith

  place_of : at % places ≡ p
  place_of = omega arith

  word_before : 0 < p → get_or t (at - 1) 0 ≡ word t x (p - 1)
  word_before l = ap (λ (k : ℕ). get_or t k 0) (let d : at - 1 ≡ x * places + (p - 1) = omega arith in d)

  free_before : AfterFree n t x p → (0 < p) × (word t x (p - 1) ≡ free)
  free_before (h, (q, l, e)) = (omega arith, free_stays n t x q (p - 1) (omega arith) (omega arith) (λ r k. earlier r (omega arith)) e)

  -- a number below which no fault is
  at_least : (c : ℕ) → (c ≤ 7 ⊎ (Outside n t x p → ⊥)) → (c ≤ 8 ⊎ (AfterFree n t x p → ⊥)) → (c ≤ 9 ⊎ (Own n t x p → ⊥)) → (c ≤ 10 ⊎ (NotAbove n t x p → ⊥)) → (d : ℕ) → AtPlace n t x p d → c ≤ d
  at_least c (inl l) _ _ _ d (inl a) = omega (arith, a.0)
  at_least c (inr h) _ _ _ d (inl a) = absurd (h a.1)
  at_least c _ (inl l) _ _ d (inr (inl a)) = omega (arith, a.0)
  at_least c _ (inr h) _ _ d (inr (inl a)) = absurd (h a.1)
  at_least c _ _ (inl l) _ d (inr (inr (inl a))) = omega (arith, a.0)
  at_least c _ _ (inr h) _ d (inr (inr (inl a))) = absurd (h a.1)
  at_least c _ _ _ (inl l) d (inr (inr (inr a))) = omega (arith, a.0)
  at_least c _ _ _ (inr h) d (inr (inr (inr a))) = absurd (h a.1)

  given : (c : ℕ) → suc c ≡ place_fault n t at → AtPlace n t x p (suc c) → ((d : ℕ) → AtPlace n t x p d → suc c ≤ d) → NumberOf (AtPlace n t x p) (place_fault n t at)
  given c e a s = subst (λ (k : ℕ). NumberOf (AtPlace n t x p) k) e (record { none = λ z. absurd (omega arith); there = λ _. a; smallest = s })

  none_given : 0 ≡ place_fault n t at → (Outside n t x p → ⊥) → (AfterFree n t x p → ⊥) → (Own n t x p → ⊥) → (NotAbove n t x p → ⊥) → NumberOf (AtPlace n t x p) (place_fault n t at)
  none_given e a b c d = subst (λ (k : ℕ). NumberOf (AtPlace n t x p) k) e (record {
    none = λ _ k h. elim h [ inl f ↦ a f.1 | inr g ↦ elim g [ inl f ↦ b f.1 | inr g ↦ elim g [ inl f ↦ c f.1 | inr f ↦ d f.1 ] ] ];
    there = λ z. absurd (z refl);
    smallest = λ k _. omega arith;
  })

  own : word t x p ≡ x → word t x p ≡ at / places
  own e = e ∙ sym row_of

  not_own : (word t x p ≡ x → ⊥) → word t x p ≡ at / places → ⊥
  not_own o e = o (e ∙ row_of)

  pub place_told : NumberOf (AtPlace n t x p) (place_fault n t at)
  place_told = go (ℕ_discrete (word t x p) free) (dec_le n (word t x p)) (ℕ_discrete p 0) (ℕ_discrete (word t x (p - 1)) free) (ℕ_discrete (word t x p) x) (dec_le (word t x p) (word t x (p - 1)))
    where
      not_above : 0 < p → (word t x p ≤ word t x (p - 1) → ⊥) → NotAbove n t x p → ⊥
      not_above l u (h, (q, e, k, m)) = u (let d : q ≡ p - 1 = omega arith in subst (λ (r : ℕ). word t x p ≤ word t x r) d m)

      go : Dec (word t x p ≡ free) → Dec (n ≤ word t x p) → Dec (p ≡ 0) → Dec (word t x (p - 1) ≡ free) → Dec (word t x p ≡ x) → Dec (word t x p ≤ word t x (p - 1)) → NumberOf (AtPlace n t x p) (place_fault n t at)
      go (yes h) _ _ _ _ _ = none_given (fault_free n t at h) (λ a. a.0 h) (λ a. a.0 h) (λ a. a.0 h) (λ a. a.0 h)
      go (no h) (yes m) _ _ _ _ =
          given 6 (fault_7 n t at h m) (inl (refl, (h, m)))
          (at_least 7 (inl (omega arith)) (inl (omega arith)) (inl (omega arith)) (inl (omega arith)))
      go (no h) (no m) (yes q) _ (yes o) _ =
          given 8 (fault_9_first n t at h (omega arith) (place_of ∙ q) (own o)) (inr (inr (inl (refl, (h, o)))))
          (at_least 9 (inr (λ a. m a.1)) (inr (λ a. omega (arith, a.1.1))) (inl (omega arith)) (inl (omega arith)))
      go (no h) (no m) (yes q) _ (no o) _ =
          none_given (fault_none_first n t at h (omega arith) (place_of ∙ q) (not_own o)) (λ a. m a.1) (λ a. omega (arith, a.1.1)) (λ a. o a.1) (λ a. omega (arith, a.1.1))
      go (no h) (no m) (no q) (yes b) _ _ =
          given 7 (fault_8 n t at h (omega arith) (omega (arith, place_of)) (word_before (omega arith) ∙ b)) (inr (inl (refl, (h, (p - 1, omega arith, b)))))
          (at_least 8 (inr (λ a. m a.1)) (inl (omega arith)) (inl (omega arith)) (inl (omega arith)))
      go (no h) (no m) (no q) (no b) (yes o) _ =
          given 8 (fault_9 n t at h (omega arith) (omega (arith, place_of)) (λ e. b (sym (word_before (omega arith)) ∙ e)) (own o)) (inr (inr (inl (refl, (h, o)))))
          (at_least 9 (inr (λ a. m a.1)) (inr (λ a. b (free_before a).1)) (inl (omega arith)) (inl (omega arith)))
      go (no h) (no m) (no q) (no b) (no o) (yes u) =
          given 9 (fault_10 n t at h (omega arith) (omega (arith, place_of)) (λ e. b (sym (word_before (omega arith)) ∙ e)) (not_own o) (omega (arith, word_before (omega arith))))
          (inr (inr (inr (refl, (h, (p - 1, omega arith, b, u))))))
          (at_least 10 (inr (λ a. m a.1)) (inr (λ a. b (free_before a).1)) (inr (λ a. o a.1)) (inl (omega arith)))
      go (no h) (no m) (no q) (no b) (no o) (no u) =
          none_given (fault_none n t at h (omega arith) (omega (arith, place_of)) (λ e. b (sym (word_before (omega arith)) ∙ e)) (not_own o) (omega (arith, word_before (omega arith))))
          (λ a. m a.1) (λ a. b (free_before a).1) (λ a. o a.1) (not_above (omega arith) u)

-- 11, where each neighbour is an atom
module _ (n : ℕ) (t : List ℕ) (C : Counted n) (whole : length t ≡ places * n) (x p : ℕ) (row : x < n) (inside : p < places) (atom : Holds t x p → word t x p < n) where
  abbrev answers : Bool
  answers = stands t ((x * places + p) / places) (word t x p) places 0

  same_row : (x * places + p) / places ≡ x
  same_row = omega arith

  pub bond_told : NumberOf (λ d. (d ≡ 11) × Unanswered n t x p) (bond_fault t (x * places + p))
  bond_told = go (ℕ_discrete (word t x p) free) answers refl
    where
      told : (c : ℕ) → c ≡ bond_fault t (x * places + p) → NumberOf (λ d. (d ≡ 11) × Unanswered n t x p) c → NumberOf (λ d. (d ≡ 11) × Unanswered n t x p) (bond_fault t (x * places + p))
      told c e r = subst (λ (k : ℕ). NumberOf (λ d. (d ≡ 11) × Unanswered n t x p) k) e r

      clean : (Unanswered n t x p → ⊥) → NumberOf (λ d. (d ≡ 11) × Unanswered n t x p) 0
      clean u = record { none = λ _ d h. u h.1; there = λ z. absurd (z refl); smallest = λ d _. omega arith }

      go : Dec (word t x p ≡ free) → (b : Bool) → b ≡ answers → NumberOf (λ d. (d ≡ 11) × Unanswered n t x p) (bond_fault t (x * places + p))
      go (yes h) b e = told 0 (bond_free t (x * places + p) h) (clean (λ u. u.0 h))
      go (no h) true e =
          let r = found t ((x * places + p) / places) (word t x p) places 0 (sym e) in
          told 0 (bond_answered t (x * places + p) h true e refl)
          (clean (λ u. u.1 (record {
            place = r.0;
            within_row = omega (arith, r.1);
            in_table = omega (arith, r.1, whole, atom h);
            stands = r.2 ∙ same_row;
            atom = λ f. omega (arith, C.most);
          })))
      go (no h) false e =
          told 11 (bond_unanswered t (x * places + p) h false e refl) (record {
            none = λ z. absurd (omega arith);
            there = λ _. (
              refl,
              (
                h,
                λ b. let y : ◌≡◌ {A = Bool} false true = e ∙ finds t ((x * places + p) / places) (word t x p) places 0 b.place (omega arith) (omega (arith, b.within_row)) (b.stands ∙ sym same_row) in
                    let w : ◌≡◌ {A = ℕ} 0 1 = cc in omega arith,
              ),
            );
            smallest = λ d u. omega (arith, u.0);
          })

-- the faults of a table of n rows name the first, or there is none and what comes later decides
module _ (n : ℕ) (t : List ℕ) (C : Counted n) (whole : length t ≡ places * n) (later : Answer) where
  pub faults_told : NamesFirst n t (faults n t later) ⊎ (Faultless n (AtPlace n t) (Unanswered n t) × (faults n t later ≡ later))
  unfolding faults
  faults_told =
      first_told n (AtPlace n t) (Unanswered n t) (place_fault n t) (bond_fault t) (λ x p l m. place_told n t x p m)
      (λ none x p l m. bond_told n t C whole x p l m (below n t (x * places + p) (none (x * places + p) (omega arith))))
      (length t) whole later
