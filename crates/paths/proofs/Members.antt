-- The search's definition lists exactly the shortest-path rings.
use mathlib.Core.Path.{◌≡◌, refl, sym, ap, ◌∙◌, subst}
use mathlib.Core.Bool.{Bool, true, false, cond, and-eq-true_iff}
use mathlib.Core.Logic.{◌⊎◌, ⊎_elim}
use mathlib.Core.List.Memᴰ
use mathlib.Core.List.{List, [], ◌∷◌, ◌++◌, append-nil, Memᴰ}
use Prim.Native.Nat.{ℕ, zero, suc, ◌+◌, ◌-◌, ◌*◌, ◌<◌}
use native.Mathlib.Nat.{le_of_suc-le-suc, eq-or-lt_of_le}
use native.Mathlib.Numerals.{add-one}
use native.Mathlib.Omega.{arith}
use lib.ListN.{length, get_or, length-append, get_or-append}
use lib.Seq.{get_or-append_seam, append_snoc}
use borrow.Author.Tests.{lt-ltb, ltb-true, eq-eqb, eqb-true}
use Rattle.network.specs.Maxima.{places}
use Rattle.paths.specs.Search.{Test, Tests, pair_fits, fits_before, every_pair, is_ring, follows, next_word, goes_on, ended, extend, rings_from, rings_of}
use Rattle.paths.specs.Shown.{ChainShown, ShortestShown, Harmless}
use Rattle.paths.proofs.Below.{all_intro, all_elim, gather_intro, gather_elim}

-- a place of a path, and of the path with more

pub at_last : (p : List ℕ) (a : ℕ) (s : List ℕ) → get_or (p ++ (a ∷ s)) (length p) 0 ≡ a
at_last p a s = get_or-append_seam p a s 0

module _ (n : ℕ) (table dist : List ℕ) (k : ℕ) where
  ring_of : (r : List ℕ) → ShortestShown n table dist k r → is_ring n dist k r ≡ true
  unfolding is_ring every_pair fits_before pair_fits
  ring_of r h =
      rw (lt-ltb _ _ h.sense)
      (all_intro _ k (λ j lt. all_intro _ j (λ i l. eq-eqb _ _ (h.pairs i j l lt))))

  of_ring : (r : List ℕ) → length r ≡ k → ChainShown n table r → is_ring n dist k r ≡ true → ShortestShown n table dist k r
  unfolding is_ring every_pair fits_before pair_fits
  of_ring r e w h =
      let b = (and-eq-true_iff _ _).0 h in
      record {
        size = e;
        chain = w;
        pairs = λ i j l lt. eqb-true _ _ (all_elim _ j (all_elim _ k b.1 j lt) i l);
        sense = ltb-true _ _ b.0;
      }

  -- each shortest-path ring is listed, whatever harmless test turns back

  module _ (may : Test) (harmless : Harmless n table dist k may) (r : List ℕ) (h : ShortestShown n table dist k r) where
    before : (p s : List ℕ) → r ≡ p ++ s → (i : ℕ) → i < length p → get_or r i 0 ≡ get_or p i 0
    before p s e i lt = rw e (get_or-append p s 0 i lt)

    followed : (p : List ℕ) (a : ℕ) (s : List ℕ) → 0 < length p → r ≡ p ++ (a ∷ s) → follows may p a ≡ true
    unfolding follows
    followed p a s some e =
        let long : length p < length r = rw (e, length-append p (a ∷ s)) (omega arith) in
        let here : get_or r (length p) 0 ≡ a = rw e (at_last p a s) in
        rw (lt-ltb (get_or p 0 0) a (rw (← here, ← before p (a ∷ s) e 0 some) (h.chain.least (length p) some long))) (harmless r h p a s some e)

    place : (p : List ℕ) (a : ℕ) (s : List ℕ) → 0 < length p → r ≡ p ++ (a ∷ s) → (j : ℕ) × (j < places) × (next_word table p j ≡ a)
    place p a s some e =
        let i : ℕ = length p - 1 in
        let next : i + 1 ≡ length p = omega arith in
        let long : i + 1 < length r = rw (e, length-append p (a ∷ s)) (omega arith) in
        let b = h.chain.bonded i long in
        let last : get_or r i 0 ≡ get_or p i 0 = rw e (get_or-append p (a ∷ s) 0 i (omega arith)) in
        let here : get_or r (i + 1) 0 ≡ a = rw (next, e) (at_last p a s) in
        (b.0, b.1, rw (← last) (b.2 ∙ here))

    goes : (p : List ℕ) (a : ℕ) (s : List ℕ) → 0 < length p → r ≡ p ++ (a ∷ s) → (j : ℕ) → next_word table p j ≡ a → goes_on may n table p j ≡ true
    unfolding goes_on
    goes p a s some e j q =
        let long : length p < length r = rw (e, length-append p (a ∷ s)) (omega arith) in
        let here : get_or r (length p) 0 ≡ a = rw e (at_last p a s) in
        rw (q, lt-ltb a n (rw (← here) (h.chain.atoms (length p) long)), followed p a s some e)

    listed_from : (p s : List ℕ) → 0 < length p → r ≡ p ++ s → Memᴰ r (extend may n table dist k (length s) p)
    unfolding extend ended
    listed_from p [] some e =
        let e' : r ≡ p = e ∙ append-nil p in
        rw (subst (λ (x : List ℕ). is_ring n dist k x ≡ true) e' (ring_of r h)) (Memᴰ.head e')
    listed_from p (a ∷ s) some e =
        let b = place p a s some e in
        gather_intro _ places b.0 b.1
        (rw (goes p a s some e b.0 b.2, b.2)
        (listed_from (p ++ (a ∷ [])) s (rw length-append (omega arith)) (e ∙ sym (append_snoc p a s))))

-- what is listed is a shortest-path ring

pub chain_more : (n : ℕ) (table : List ℕ) (p : List ℕ) (a j : ℕ) → 0 < length p → ChainShown n table p → j < places → next_word table p j ≡ a → a < n → get_or p 0 0 < a → ChainShown n table (p ++ (a ∷ []))
chain_more n table p a j some w lt q small first = record { atoms = atoms; bonded = bonded; least = least }
  where
    more : length (p ++ (a ∷ [])) ≡ suc (length p)
    more = length-append p (a ∷ []) ∙ add-one (length p)

    old : (i : ℕ) → i < length p → get_or (p ++ (a ∷ [])) i 0 ≡ get_or p i 0
    old i l = get_or-append p (a ∷ []) 0 i l

    here : (i : ℕ) → i ≡ length p → get_or (p ++ (a ∷ [])) i 0 ≡ a
    here i e = ap (λ (x : ℕ). get_or (p ++ (a ∷ [])) x 0) e ∙ at_last p a []

    split : (i : ℕ) → i < length (p ++ (a ∷ [])) → (i ≡ length p) ⊎ (i < length p)
    split i l = eq-or-lt_of_le (le_of_suc-le-suc (subst (λ (x : ℕ). i < x) more l))

    atoms : (i : ℕ) → i < length (p ++ (a ∷ [])) → get_or (p ++ (a ∷ [])) i 0 < n
    atoms i l = ⊎_elim (λ e. rw (here i e) small) (λ b. rw (old i b) (w.atoms i b)) (split i l)

    least : (i : ℕ) → 0 < i → i < length (p ++ (a ∷ [])) → get_or (p ++ (a ∷ [])) 0 0 < get_or (p ++ (a ∷ [])) i 0
    least i z l = ⊎_elim (λ e. rw (old 0 some, here i e) first) (λ b. rw (old 0 some, old i b) (w.least i z b)) (split i l)

    bonded : (i : ℕ) → i + 1 < length (p ++ (a ∷ [])) → (j : ℕ) × (j < places) × (get_or table (get_or (p ++ (a ∷ [])) i 0 * places + j) 0 ≡ get_or (p ++ (a ∷ [])) (i + 1) 0)
    bonded i l =
        ⊎_elim
        (λ e. let e' : i ≡ length p - 1 = omega arith in (j, lt, rw (old i (omega arith), here (i + 1) e, e') q))
        (λ b. let g = w.bonded i b in (g.0, g.1, rw (old i (omega arith), old (i + 1) b) g.2))
        (split (i + 1) l)

module _ (n : ℕ) (table dist : List ℕ) (k : ℕ) (may : Test) where
  pub sound_from : (left : ℕ) (p r : List ℕ) → 0 < length p → ChainShown n table p → length p + left ≡ k → Memᴰ r (extend may n table dist k left p) → ShortestShown n table dist k r
  unfolding extend ended goes_on follows
  sound_from zero p r some w e m = go (is_ring n dist k p) refl m
    where
      go : (b : Bool) → is_ring n dist k p ≡ b → Memᴰ r (cond b (p ∷ []) []) → ShortestShown n table dist k r
      go true q m' = rw (Memᴰ.eq_of_singleton m') (of_ring n table dist k p (omega arith) w q)
      go false q m' = absurd (Memᴰ.not-nil m')
  sound_from (suc left) p r some w e m =
      let g = gather_elim _ places m in go (λ p' some' w' e' m'. sound_from left p' r some' w' e' m') g.0 g.1 (goes_on may n table p g.0) refl g.2
    where
      go : ((p' : List ℕ) → 0 < length p' → ChainShown n table p' → length p' + left ≡ k → Memᴰ r (extend may n table dist k left p') → ShortestShown n table dist k r) → (j : ℕ) → j < places → (b : Bool) → goes_on may n table p j ≡ b → Memᴰ r (cond b (extend may n table dist k left (p ++ (next_word table p j ∷ []))) []) → ShortestShown n table dist k r
      go rec j lt true q m' =
          let b = (and-eq-true_iff _ _).0 q in
          let f = (and-eq-true_iff _ _).0 b.1 in
          let long : length (p ++ (next_word table p j ∷ [])) ≡ suc (length p) = length-append p _ ∙ add-one (length p) in
          rec (p ++ (next_word table p j ∷ [])) (omega arith)
          (chain_more n table p (next_word table p j) j some w lt refl (ltb-true _ _ b.0) (ltb-true _ _ f.0))
          (omega arith) m'
      go rec j lt false q m' = absurd (Memᴰ.not-nil m')

pub chain_one : (n : ℕ) (table : List ℕ) (a : ℕ) → a < n → ChainShown n table (a ∷ [])
chain_one n table a lt = record { atoms = λ i l. only i l; bonded = λ i l. absurd (omega arith); least = λ i z l. absurd (omega arith) }
  where
    only : (i : ℕ) → i < 1 → get_or (a ∷ []) i 0 < n
    only zero l = lt
    only (suc i) l = absurd (omega arith)

-- every shortest-path ring is listed, and nothing else is
module _ (n : ℕ) (table dist : List ℕ) (k : ℕ) (may : Tests) where
  pub listed_all : Harmless n table dist k (may n dist k) → (r : List ℕ) → 0 < k → ShortestShown n table dist k r → Memᴰ r (rings_of may n table dist k)
  unfolding rings_of rings_from
  listed_all harmless [] pos h = absurd (omega (arith, h.size))
  listed_all harmless (a ∷ s) pos h =
      let e : k - 1 ≡ length s = omega (arith, h.size) in
      gather_intro _ n a (h.chain.atoms 0 (omega arith)) (rw e (listed_from n table dist k (may n dist k) harmless (a ∷ s) h (a ∷ []) s (omega arith) refl))

  pub listed_only : (r : List ℕ) → 0 < k → Memᴰ r (rings_of may n table dist k) → ShortestShown n table dist k r
  unfolding rings_of rings_from
  listed_only r pos m =
      let g = gather_elim _ n m in
      sound_from n table dist k (may n dist k) (k - 1) (g.0 ∷ []) r (omega arith) (chain_one n table g.0 g.1) (omega arith) g.2
