-- The first fault, over any notion of a fault at a place and of an unanswered bond: two passes that compute the number of each word name it,
-- and there is one.
use mathlib.Core.Path.{◌≡◌, refl, sym, ◌∙◌, ap, ap₂, subst, subst₂}
use mathlib.Core.Logic.{◌⊎◌, inl, inr}
use Prim.Native.Nat.{ℕ, zero, suc, ◌+◌, ◌*◌, ◌/◌, ◌%◌, ◌≤◌, ◌<◌}
use native.Mathlib.Omega.{arith}
use native.Mathlib.Decide.{dec_le, dec_lt, ℕ_discrete}
use Rattle.network.specs.declared.Answer.{Answer}
use Rattle.network.specs.Maxima.{places}
use Rattle.network.specs.Verdict.{first_fault, or_else, answer, accepted}
use Rattle.network.specs.FirstFault.{Earlier, FirstPlaceFault, FirstBondFault, FirstFault, Faultless, NumberOf}
use Rattle.network.proofs.Verdicts.{clean_at, kept, clean}

-- the answer of a pass that finds something
record First (fault : ℕ → ℕ) (k i : ℕ) (a : Answer) : Type 0 where
  at : ℕ
  low : i ≤ at
  high : at < i + k
  is : a ≡ answer (fault at) (at / places) (at % places)
  some : fault at ≡ 0 → ⊥
  none : (j : ℕ) → i ≤ j → j < at → fault j ≡ 0

scan_first : (fault : ℕ → ℕ) (k i : ℕ) → ((first_fault fault k i accepted).code ≡ 0 → ⊥) → First fault k i (first_fault fault k i accepted)
unfolding first_fault or_else
scan_first fault zero i z = absurd (z refl)
scan_first fault (suc k) i z = go (fault i) refl (scan_first fault k (i + 1)) z
  where
    go : (c : ℕ) → fault i ≡ c → (((first_fault fault k (i + 1) accepted).code ≡ 0 → ⊥) → First fault k (i + 1) (first_fault fault k (i + 1) accepted))
        → ((or_else c i (first_fault fault k (i + 1) accepted)).code ≡ 0 → ⊥) → First fault (suc k) i (or_else c i (first_fault fault k (i + 1) accepted))
    go zero e ih z =
        let r = ih z in
        record {
          at = r.at;
          low = omega (arith, r.low);
          high = omega (arith, r.high);
          is = r.is;
          some = r.some;
          none = λ j l m. elim (dec_le (i + 1) j) [ yes h ↦ r.none j h m | no h ↦ (let d : j ≡ i = omega arith in rw d e) ];
        }
    go (suc c) e ih z = record {
      at = i;
      low = omega arith;
      high = omega arith;
      is = ap (λ (m : ℕ). answer m (i / places) (i % places)) (sym e);
      some = omega arith;
      none = λ j l m. absurd (omega arith);
    }

-- the first of two places
pub same_place : (p q : ℕ) → (p < q → ⊥) → (q < p → ⊥) → p ≡ q
same_place p q h k = elim (dec_lt p q) [ yes l ↦ absurd (h l) | no l ↦ elim (dec_lt q p) [ yes m ↦ absurd (k m) | no m ↦ omega arith ] ]

pub same_answer : (a b : Answer) → a.code ≡ b.code → a.row ≡ b.row → a.place ≡ b.place → a ≡ b
same_answer a b e f g = ap₂ (λ (c x : ℕ). answer c x a.place) e f ∙ ap (λ (p : ℕ). answer b.code b.row p) g

same_row : (x p y q : ℕ) → p < places → q < places → (Earlier x p y q → ⊥) → (Earlier y q x p → ⊥) → (x ≡ y) × (p ≡ q)
same_row x p y q l m h k = let e : x * places + p ≡ y * places + q = same_place (x * places + p) (y * places + q) h k in (omega (arith, e), omega (arith, e))

module _ (n : ℕ) (FaultAt : ℕ → ℕ → ℕ → Type 0) (UnansweredAt : ℕ → ℕ → Type 0) where
  pub faultless_none : Faultless n FaultAt UnansweredAt → (a : Answer) → FirstFault n FaultAt UnansweredAt a → ⊥
  faultless_none F a (inl P) = F.no_place a.row a.place a.code P.row P.place P.there
  faultless_none F a (inr B) = F.no_bond a.row a.place B.row B.place B.there

  -- two answers that name the first fault are one
  one_place : (a b : Answer) → FirstPlaceFault n FaultAt a → FirstPlaceFault n FaultAt b → a ≡ b
  one_place a b h k =
      let at = same_row a.row a.place b.row b.place h.place k.place (λ l. k.first a.row a.place a.code h.place l h.there) (λ l. h.first b.row b.place b.code k.place l k.there) in
      let up : a.code ≤ b.code = h.smallest b.code (subst₂ (λ x p. FaultAt x p b.code) (sym at.0) (sym at.1) k.there) in
      let down : b.code ≤ a.code = k.smallest a.code (subst₂ (λ x p. FaultAt x p a.code) at.0 at.1 h.there) in
      same_answer a b (omega (arith, up, down)) at.0 at.1

  one_bond : (a b : Answer) → FirstBondFault n FaultAt UnansweredAt a → FirstBondFault n FaultAt UnansweredAt b → a ≡ b
  one_bond a b h k =
      let at = same_row a.row a.place b.row b.place h.place k.place (λ l. k.first a.row a.place h.place l h.there) (λ l. h.first b.row b.place k.place l k.there) in
      same_answer a b (h.eleven ∙ sym k.eleven) at.0 at.1

  pub one_first : (a b : Answer) → FirstFault n FaultAt UnansweredAt a → FirstFault n FaultAt UnansweredAt b → a ≡ b
  one_first a b (inl h) (inl k) = one_place a b h k
  one_first a b (inl h) (inr k) = absurd (k.clean a.row a.place a.code h.row h.place h.there)
  one_first a b (inr h) (inl k) = absurd (h.clean b.row b.place b.code k.row k.place k.there)
  one_first a b (inr h) (inr k) = one_bond a b h k

  -- numbers of the words that tell their faults: at a place after places of the row without a fault, and of bonds where no place has one
  module _ (place bond : ℕ → ℕ)
      (at_place : (x p : ℕ) → x < n → p < places → ((r : ℕ) → r < p → place (x * places + r) ≡ 0) → NumberOf (FaultAt x p) (place (x * places + p)))
      (at_bond : ((j : ℕ) → j < places * n → place j ≡ 0) → (x p : ℕ) → x < n → p < places → NumberOf (λ d. (d ≡ 11) × UnansweredAt x p) (bond (x * places + p)))
      (k : ℕ) (whole : k ≡ places * n) (later : Answer) where
    abbrev passes : Answer
    passes = first_fault place k 0 (first_fault bond k 0 later)

    clean_before : (i : ℕ) → i ≤ k → ((j : ℕ) → j < i → place j ≡ 0) → (x p c : ℕ) → p < places → x * places + p < i → FaultAt x p c → ⊥
    clean_before i l none x p c m e = (at_place x p (omega arith) m (λ r q. none (x * places + r) (omega arith))).none (none (x * places + p) e) c

    places_decide : First place k 0 (first_fault place k 0 accepted) → first_fault place k 0 later ≡ first_fault place k 0 accepted → FirstFault n FaultAt UnansweredAt (first_fault place k 0 later)
    places_decide f same =
        let i : f.at ≡ f.at / places * places + f.at % places = omega arith in
        let g = subst (λ (j : ℕ). NumberOf (FaultAt (f.at / places) (f.at % places)) (place j)) (sym i)
        (at_place (f.at / places) (f.at % places) (omega (arith, f.high)) (omega arith) (λ r l. f.none (f.at / places * places + r) (omega arith) (omega arith))) in
        subst (λ (a : Answer). FirstFault n FaultAt UnansweredAt a) (sym (same ∙ f.is))
        (inl (record {
          row = omega (arith, f.high);
          place = omega arith;
          there = g.there f.some;
          smallest = g.smallest;
          first = λ x p c l b. clean_before f.at (omega (arith, f.high)) (λ j m. f.none j (omega arith) m) x p c l (omega arith);
        }))

    module _ (none : (j : ℕ) → j < k → place j ≡ 0) where
      no_place : (x p c : ℕ) → x < n → p < places → FaultAt x p c → ⊥
      no_place x p c l m = clean_before k (omega arith) none x p c m (omega arith)

      number : (x p : ℕ) → x < n → p < places → NumberOf (λ d. (d ≡ 11) × UnansweredAt x p) (bond (x * places + p))
      number = at_bond (λ j l. none j (omega arith))

      bonds_decide : First bond k 0 (first_fault bond k 0 accepted) → first_fault bond k 0 later ≡ first_fault bond k 0 accepted → FirstFault n FaultAt UnansweredAt (first_fault bond k 0 later)
      bonds_decide f same =
          let i : f.at ≡ f.at / places * places + f.at % places = omega arith in
          let g = subst (λ (j : ℕ). NumberOf (λ d. (d ≡ 11) × UnansweredAt (f.at / places) (f.at % places)) (bond j)) (sym i)
          (number (f.at / places) (f.at % places) (omega (arith, f.high)) (omega arith)) in
          subst (λ (a : Answer). FirstFault n FaultAt UnansweredAt a) (sym (same ∙ f.is))
          (inr (record {
            row = omega (arith, f.high);
            place = omega arith;
            eleven = (g.there f.some).0;
            there = (g.there f.some).1;
            clean = no_place;
            first = λ x p l b u. (number x p (omega (arith, f.high)) l).none (f.none (x * places + p) (omega arith) (omega arith)) 11 (refl, u);
          }))

    -- the answer names the first fault, or there is none and what comes later decides
    pub first_told : FirstFault n FaultAt UnansweredAt passes ⊎ (Faultless n FaultAt UnansweredAt × (passes ≡ later))
    first_told = go (ℕ_discrete (first_fault place k 0 accepted).code 0) (ℕ_discrete (first_fault bond k 0 accepted).code 0)
      where
        go : Dec ((first_fault place k 0 accepted).code ≡ 0) → Dec ((first_fault bond k 0 accepted).code ≡ 0) → FirstFault n FaultAt UnansweredAt passes ⊎ (Faultless n FaultAt UnansweredAt × (passes ≡ later))
        go (no e) _ =
            inl (subst (λ (a : Answer). FirstFault n FaultAt UnansweredAt a) (kept place k 0 later e ∙ sym (kept place k 0 (first_fault bond k 0 later) e))
            (places_decide (scan_first place k 0 e) (kept place k 0 later e)))
        go (yes e) (no z) =
            inl (subst (λ (a : Answer). FirstFault n FaultAt UnansweredAt a) (sym (clean place k 0 (first_fault bond k 0 later) e))
            (bonds_decide (λ j l. clean_at place k 0 e j (omega arith) (omega arith)) (scan_first bond k 0 z) (kept bond k 0 later z)))
        go (yes e) (yes z) =
            let none : (j : ℕ) → j < k → place j ≡ 0 = λ j l. clean_at place k 0 e j (omega arith) (omega arith) in
            inr (
              record {
                no_place = no_place none;
                no_bond = λ x p l m u. (number none x p l m).none (clean_at bond k 0 z (x * places + p) (omega arith) (omega arith)) 11 (refl, u);
              },
              clean place k 0 (first_fault bond k 0 later) e ∙ clean bond k 0 later z,
            )
