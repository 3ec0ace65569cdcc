-- The tests that the checker computes are right: lists are the same, a cycle is a ring, a cycle is in its one writing, a list is a
-- reading of a ring.
use mathlib.Core.Path.{◌≡◌, refl, ◌∙◌, ap, ap₂, subst}
use mathlib.Core.Logic.{◌⊎◌, inl, inr}
use mathlib.Core.Bool.{Bool, not}
use mathlib.Core.List.Memᴰ
use mathlib.Core.List.{List, [], ◌∷◌, map}
use Prim.Native.Nat.{ℕ, zero, suc, ◌+◌, ◌-◌, ◌%◌, ◌<◌}
use native.Mathlib.Omega.{arith}
use lib.Dec.{T, eqb, leb, ltb, eqb→eq, eqb_refl, leb→le, ltb→lt, T_not}
use lib.ListN.{length, get_or}
use Rattle.graph.specs.Lists.{◌∈◌, numbers_from, every}
use Rattle.graph.specs.Graph.{Ring}
use Rattle.graph.specs.Writing.{RingReading, OneWriting}
use Rattle.graph.specs.Levels.{elem}
use Rattle.graph.proofs.Lists.{and_T, T_and, every_of, gather_of, count_of, count_has, length_made, get_or_made}
use Rattle.graph.proofs.Levels.{elem_of}
use Rattle.network.specs.Network.{Bonded, neighbours}
use Rattle.network.proofs.Bonds.{neighbour_bonded}
use Rattle.examples.specs.NearMisses.{every_pair_of}
use Rattle.examples.specs.Repeats.{smallest_first, second_smaller}
use Rattle.examples.specs.Computed.{same, same_pair, closed, onwards_from, backwards_from, readings_from, readings_of}

module _ {A : Type 0} (eq : A → A → Bool) where
  pub same_of : ((a b : A) → T (eq a b) → a ≡ b) → (xs ys : List A) → T (same eq xs ys) → xs ≡ ys
  same_of eq_of [] [] h = refl
  same_of eq_of [] (y ∷ ys) h = absurd h
  same_of eq_of (x ∷ xs) [] h = absurd h
  same_of eq_of (x ∷ xs) (y ∷ ys) h = let b = and_T (eq x y) (same eq xs ys) h in ap₂ ◌∷◌ (eq_of x y b.0) (same_of eq_of xs ys b.1)

  pub same_self : ((a : A) → T (eq a a)) → (xs : List A) → T (same eq xs xs)
  same_self eq_self [] = tt
  same_self eq_self (x ∷ xs) = T_and (eq x x) (same eq xs xs) (eq_self x) (same_self eq_self xs)

pub pair_of : (a b : ℕ × ℕ) → T (same_pair a b) → a ≡ b
pair_of a b h = let p = and_T (eqb a.0 b.0) (eqb a.1 b.1) h in ap₂ (λ (k m : ℕ). (k, m)) (eqb→eq a.0 b.0 p.0) (eqb→eq a.1 b.1 p.1)

pub pair_at : (p : ℕ → ℕ → Bool) (k : ℕ) → T (every_pair_of p k) → (i j : ℕ) → i < j → j < k → T (p i j)
pair_at p k h i j l m =
    every_of (λ i. p i j) (numbers_from j 0)
    (every_of (λ j. every (λ i. p i j) (numbers_from j 0)) (numbers_from k 0) h j (count_has k 0 j (omega arith) (omega arith)))
    i (count_has j 0 i (omega arith) (omega arith))

pub closed_of : (t r : List ℕ) → T (closed t r) → Ring (Bonded t) 0 r
closed_of t r h =
    let a = and_T (leb 3 (length r)) _ h in
    let b = and_T (every_pair_of (λ i j. not (eqb (get_or r i 0) (get_or r j 0))) (length r)) _ a.1 in
    let c = and_T (every (λ i. elem eqb (get_or r (suc i) 0) (neighbours t (get_or r i 0))) (numbers_from (length r - 1) 0)) _ b.1 in
    record {
      three = leb→le 3 (length r) a.0;
      different = λ i j l k e.
          T_not (eqb (get_or r i 0) (get_or r j 0)) (pair_at (λ i j. not (eqb (get_or r i 0) (get_or r j 0))) (length r) b.0 i j l k)
          (subst (λ y. T (eqb (get_or r i 0) y)) e (eqb_refl (get_or r i 0)));
      next = λ i l.
          neighbour_bonded t (get_or r i 0) (get_or r (suc i) 0)
          (elem_of eqb eqb→eq eqb_refl (get_or r (suc i) 0) (neighbours t (get_or r i 0))
          (every_of (λ i. elem eqb (get_or r (suc i) 0) (neighbours t (get_or r i 0))) (numbers_from (length r - 1) 0) c.0 i (count_has (length r - 1) 0 i (omega arith) (omega arith))));
      closes =
          neighbour_bonded t (get_or r (length r - 1) 0) (get_or r 0 0)
          (elem_of eqb eqb→eq eqb_refl (get_or r 0 0) (neighbours t (get_or r (length r - 1) 0)) c.1);
    }

pub written_of : (r : List ℕ) → T (smallest_first r) → T (second_smaller r) → OneWriting r
written_of r h k = record { smallest = small; turn = ltb→lt (get_or r 1 0) (get_or r (length r - 1) 0) k }
  where
    small : (i : ℕ) → 0 < i → i < length r → get_or r 0 0 < get_or r i 0
    small zero l m = absurd (omega arith)
    small (suc i) l m =
        ltb→lt (get_or r 0 0) (get_or r (suc i) 0)
        (every_of (λ i. ltb (get_or r 0 0) (get_or r (suc i) 0)) (numbers_from (length r - 1) 0) h i (count_has (length r - 1) 0 i (omega arith) (omega arith)))

module _ (r s : List ℕ) where
  reads_at : (at : ℕ → ℕ) → s ≡ map (λ i. get_or r (at i) 0) (numbers_from (length r) 0) → (length s ≡ length r) × ((i : ℕ) → i < length r → get_or s i 0 ≡ get_or r (at i) 0)
  reads_at at e = (ap length e ∙ length_made (λ i. get_or r (at i) 0) (length r), λ i l. ap (λ xs. get_or xs i 0) e ∙ get_or_made (λ i. get_or r (at i) 0) 0 (length r) i l)

  pub reading_of : s ∈ readings_of r → RingReading 0 r s
  reading_of m = go (Memᴰ.cases_cons from.2)
    where
      from : (start : ℕ) × (start ∈ numbers_from (length r) 0) × (s ∈ readings_from r start)
      from = gather_of (readings_from r) (numbers_from (length r) 0) m

      below : from.0 < length r
      below = omega (arith, count_of (length r) 0 from.1)

      go : (s ≡ onwards_from r from.0) ⊎ (s ∈ backwards_from r from.0 ∷ []) → RingReading 0 r s
      go (inl e) = let w = reads_at (λ i. (from.0 + i) % length r) e in record { alike = w.0; start = from.0; starts = below; reads = inl w.1 }
      go (inr b) =
          let w = reads_at (λ i. (from.0 + (length r - i)) % length r) (Memᴰ.eq_of_singleton b) in
          record { alike = w.0; start = from.0; starts = below; reads = inr w.1 }
