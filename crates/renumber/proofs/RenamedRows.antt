-- A row's words under their new names, sorted, are a row of the new table.
use Rattle.std.proofs.Common.{◌≡◌, ◌≢◌, refl, sym, ◌∙◌, ◌⊎◌, inl, inr, List, ℕ, ◌<◌, length, get_or, swap, IsPermutation, arith, eq-eqb, ne_eqb}
use Rattle.std.specs.List.Sorted.{IsNonDecreasing}
use Rattle.std.proofs.lemmas.List.{get_or_default}
use Rattle.std.proofs.lemmas.List.Elements.{Contains-get_or}
use Rattle.std.proofs.lemmas.List.Edits.{swapped_from_swap, length-swap}
use Rattle.std.proofs.lemmas.List.Sorted.{IsPermutation-keeps, IsPermutation-sym, Contains-permutation, length_permutation}
use native.Mathlib.Decide.{dec_lt, ℕ_discrete}
use Rattle.network.specs.Maxima.{places, free}
use Rattle.names.specs.Names.{name, OneToOne}
use Rattle.names.proofs.Naming.{same_name}
use Rattle.renumber.specs.Rows.{OldRow, new_word, NewRow}

-- no word stands twice but that of a free place
abbrev Apart : List ℕ → Type 0
Apart l = (i j : ℕ) → i < length l → j < length l → i ≢ j → get_or l i 0 ≡ get_or l j 0 → get_or l i 0 ≡ free

-- where a word stood before two were exchanged
record Before (l : List ℕ) (a b m : ℕ) : Type 0 where
  place : ℕ
  within : place < length l
  is : get_or (swap l a b) m 0 ≡ get_or l place 0
  which : ((m ≡ a) × (place ≡ b)) ⊎ ((m ≡ b) × (place ≡ a)) ⊎ ((m ≢ a) × (m ≢ b) × (place ≡ m))

before : (l : List ℕ) (a b m : ℕ) → a < length l → b < length l → m < length l → Before l a b m
before l a b m u v w =
    let s = swapped_from_swap l (swap l a b) a b 0 u v refl in
    elim (ℕ_discrete m a) [
      | yes e ↦ record { place = b; within = v; is = rw e s.0; which = inl (e, refl) }
      | no e ↦ elim (ℕ_discrete m b) [
        | yes d ↦ record { place = a; within = u; is = rw d s.1; which = inr (inl (d, refl)) }
        | no d ↦ record { place = m; within = w; is = s.2 m e d; which = inr (inr (e, d, refl)) }
      ]
    ]

apart_swap : (l : List ℕ) (a b : ℕ) → a < length l → b < length l → Apart l → Apart (swap l a b)
apart_swap l a b u v A i j k m d e =
    let n : length (swap l a b) ≡ length l = length-swap l a b in
    let p = before l a b i u v (omega (arith, n)) in
    let q = before l a b j u v (omega (arith, n)) in
    p.is ∙ A p.place q.place p.within q.within (differ p q) (sym p.is ∙ e ∙ q.is)
  where
    differ : (p : Before l a b i) (q : Before l a b j) → p.place ≢ q.place
    differ p q = λ h. go p.which q.which h
      where
        go : {x y : ℕ} → ((i ≡ a) × (x ≡ b)) ⊎ ((i ≡ b) × (x ≡ a)) ⊎ ((i ≢ a) × (i ≢ b) × (x ≡ i)) → ((j ≡ a) × (y ≡ b)) ⊎ ((j ≡ b) × (y ≡ a)) ⊎ ((j ≢ a) × (j ≢ b) × (y ≡ j)) → x ≡ y → ⊥
        go x y h = grind arith

module _ (names : List ℕ) (O : OneToOne (length names) names) (old : List ℕ) (R : OldRow (length names) old) where
  word_free : (q : ℕ) → get_or old q 0 ≡ free → new_word names (get_or old q 0) ≡ free
  word_free q e = rw (eq-eqb _ _ e) refl

  word_name : (q : ℕ) → (get_or old q 0 ≡ free → ⊥) → new_word names (get_or old q 0) ≡ name names (get_or old q 0)
  word_name q h = rw (ne_eqb _ _ h) refl

  -- the words before they are sorted
  module _ (words : List ℕ) (long : length words ≡ places) (each : (k : ℕ) → k < places → get_or words k 0 ≡ new_word names (get_or old k 0)) where
    apart : Apart words
    apart i j k m d e = pick (ℕ_discrete (get_or old i 0) free) (ℕ_discrete (get_or old j 0) free)
      where
        is_i : get_or words i 0 ≡ new_word names (get_or old i 0)
        is_i = each i (omega (arith, long))

        is_j : get_or words j 0 ≡ new_word names (get_or old j 0)
        is_j = each j (omega (arith, long))

        clash : (get_or old i 0 ≡ free → ⊥) → get_or old i 0 ≡ get_or old j 0 → ⊥
        clash h s = elim (dec_lt i j) [
          | yes l ↦ h (R.apart i j l (omega (arith, long)) s)
          | no l ↦ h (s ∙ R.apart j i (omega arith) (omega (arith, long)) (sym s))
        ]

        pick : Dec (get_or old i 0 ≡ free) → Dec (get_or old j 0 ≡ free) → get_or words i 0 ≡ free
        pick (yes h) _ = is_i ∙ word_free i h
        pick (no h) (yes g) = e ∙ is_j ∙ word_free j g
        pick (no h) (no g) =
            absurd (clash h (same_name (length names) names O (get_or old i 0) (get_or old j 0) (R.below i (omega (arith, long)) h) (R.below j (omega (arith, long)) g) (sym (is_i ∙ word_name i h) ∙ e ∙ is_j ∙ word_name j g)))

    module _ (new : List ℕ) (perm : IsPermutation words new) where
      long_new : length new ≡ places
      long_new = length_permutation words new perm ∙ long

      new_apart : Apart new
      new_apart = IsPermutation-keeps words Apart apart apart_swap new perm

      -- a word stands in each of two such lists
      place_in : (xs ys : List ℕ) → IsPermutation xs ys → (k : ℕ) → k < length xs → (i : ℕ) × (i < length ys) × (get_or ys i 0 ≡ get_or xs k 0)
      place_in xs ys h k l =
          let c = Contains-permutation xs ys (get_or xs k 0) h (Contains-get_or xs k 0 l) in
          (c.0, c.1, get_or_default ys c.0 0 (get_or xs k 0) c.1 ∙ c.2)

      pub sorted_row : IsNonDecreasing new → NewRow names old new
      sorted_row up = record {
        from = from;
        to = λ q l h. let i = place_in words new perm q (omega (arith, long)) in (i.0, omega (arith, i.1, long_new), i.2 ∙ each q l ∙ word_name q h);
        rises = rises;
      }
        where
          from : (p : ℕ) → p < places → (get_or new p 0 ≡ free → ⊥) → (q : ℕ) × (q < places) × (get_or old q 0 ≡ free → ⊥) × (name names (get_or old q 0) ≡ get_or new p 0)
          from p l h =
              let i = place_in new words (IsPermutation-sym words new perm) p (omega (arith, long_new)) in
              let m : i.0 < places = omega (arith, i.1, long) in
              let held : get_or old i.0 0 ≡ free → ⊥ = λ g. h (sym i.2 ∙ each i.0 m ∙ word_free i.0 g) in
              (i.0, m, held, sym (word_name i.0 held) ∙ sym (each i.0 m) ∙ i.2)

          rises : (p q : ℕ) → p < q → q < places → (get_or new q 0 ≡ free → ⊥) → get_or new p 0 < get_or new q 0
          rises p q l m h =
              let le = up p q 0 (omega arith) (omega (arith, long_new)) in
              elim (ℕ_discrete (get_or new p 0) (get_or new q 0)) [
                | yes e ↦ absurd (h (sym e ∙ new_apart p q (omega (arith, long_new)) (omega (arith, long_new)) (omega arith) e))
                | no e ↦ omega (arith, le)
              ]
