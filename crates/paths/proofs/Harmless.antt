-- Where the search turns back no ring is lost.
use mathlib.Core.Path.{◌≡◌, refl, subst}
use mathlib.Core.Bool.{Bool, true, false, ◌&&◌, ◌||◌, cond, or-true}
use mathlib.Core.List.{List, ◌∷◌, ◌++◌}
use Prim.Native.Nat.{ℕ, ◌+◌, ◌-◌, ◌/◌, ◌<◌, ◌≤◌}
use native.Mathlib.Omega.{arith}
use lib.ListN.{length, get_or, length-append, get_or-append}
use lib.Dec.{eqb, ltb}
use borrow.Author.Tests.{lt-ltb, ltb-true, ltb-false, eq-eqb, eqb-true}
use Rattle.graph.specs.Graph.{around}
use Rattle.distance.specs.Distances.{distance}
use Rattle.ring.specs.Maxima.{ring_least}
use Rattle.paths.specs.Search.{pair_fits, fits_before}
use Rattle.paths.specs.Turn.{any_below, antipodes, last_above, reaches, look_ahead, may_follow}
use Rattle.paths.specs.Shown.{ShortestShown, Harmless}
use Rattle.paths.proofs.Below.{any_found, all_intro}
use Rattle.paths.proofs.Members.{at_last}

-- the test is harmless

module _ (n : ℕ) (table dist : List ℕ) (k : ℕ) (least : ring_least ≤ k) (r : List ℕ) (h : ShortestShown n table dist k r) (p : List ℕ) (a : ℕ) (s : List ℕ) (some : 0 < length p) (e : r ≡ p ++ (a ∷ s)) where
  long : length p < k
  long = rw (← h.size, e, length-append p (a ∷ s)) (omega arith)

  before : (i : ℕ) → i < length p → get_or r i 0 ≡ get_or p i 0
  before i lt = rw e (get_or-append p (a ∷ s) 0 i lt)

  here : get_or r (length p) 0 ≡ a
  here = rw e (at_last p a s)

  -- an atom of the ring fits each of the path, with the place of the atom
  fits : (j : ℕ) → j < k → (i : ℕ) → i < length p → i < j → pair_fits n dist k p j (get_or r j 0) i ≡ true
  unfolding pair_fits
  fits j lt i l lj = eq-eqb (distance dist n (get_or p i 0) (get_or r j 0)) (around k (j - i)) (rw (← before i l) (h.pairs i j lj lt))

  fits_next : (i : ℕ) → i < length p → pair_fits n dist k p (length p) a i ≡ true
  fits_next i l = subst (λ (x : ℕ). pair_fits n dist k p (length p) x i ≡ true) here (fits (length p) long i l l)

  antipodes_hold : antipodes n dist k p a ≡ true
  unfolding antipodes
  antipodes_hold = go (ltb (k / 2) (length p)) refl
    where
      go : (b : Bool) → ltb (k / 2) (length p) ≡ b
          → cond b (pair_fits n dist k p (length p) a (length p - k / 2) && (eqb (k / 2 + k / 2) k || pair_fits n dist k p (length p) a (length p - k / 2 - 1))) true ≡ true
      go true q =
          let lt : k / 2 < length p = ltb-true _ _ q in
          rw (fits_next (length p - k / 2) (omega arith), fits_next (length p - k / 2 - 1) (omega arith)) (or-true (eqb (k / 2 + k / 2) k))
      go false q = refl

  last_holds : last_above k p a ≡ true
  unfolding last_above
  last_holds = go (eqb (length p + 1) k) refl
    where
      go : (b : Bool) → eqb (length p + 1) k ≡ b → cond b (ltb (get_or p 1 0) a) true ≡ true
      go true q =
          let w : length p + 1 ≡ k = eqb-true _ _ q in
          let last : k - 1 ≡ length p = omega arith in
          lt-ltb (get_or p 1 0) a (rw (← before 1 (omega arith), ← here, ← last) h.sense)
      go false q = refl

  reach_holds : length p ≤ k / 2 → reaches n dist k p a (get_or r (k / 2 + 1) 0) ≡ true
  unfolding reaches fits_before
  reach_holds le =
      rw (eq-eqb (distance dist n a (get_or r (k / 2 + 1) 0)) (around k (k / 2 + 1 - length p)) (rw (← here) (h.pairs (length p) (k / 2 + 1) (omega arith) (omega arith))))
      (all_intro _ (length p) (λ i l. fits (k / 2 + 1) (omega arith) i l (omega arith)))

  ahead_holds : look_ahead n dist k p a ≡ true
  unfolding look_ahead
  ahead_holds = go (ltb (k / 2) (length p)) refl
    where
      inside : k / 2 + 1 < length r
      inside = rw h.size (omega arith)

      go : (b : Bool) → ltb (k / 2) (length p) ≡ b → cond b true (any_below n (λ y. ltb (get_or p 0 0) y && reaches n dist k p a y)) ≡ true
      go true q = refl
      go false q =
          let le : length p ≤ k / 2 = ltb-false _ _ q in
          any_found _ n (get_or r (k / 2 + 1) 0) (h.chain.atoms (k / 2 + 1) inside)
          (rw (lt-ltb (get_or p 0 0) (get_or r (k / 2 + 1) 0) (rw (← before 0 some) (h.chain.least (k / 2 + 1) (omega arith) inside))) (reach_holds le))

  holds : may_follow n dist k p a ≡ true
  unfolding may_follow
  holds = rw (fits_next 0 some, antipodes_hold, last_holds) ahead_holds

pub turn_harmless : (n : ℕ) (table dist : List ℕ) (k : ℕ) → ring_least ≤ k → Harmless n table dist k (may_follow n dist k)
turn_harmless n table dist k least r h p a s some e = holds n table dist k least r h p a s some e
