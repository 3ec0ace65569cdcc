-- The counts: each is the number of rings of its length.
use mathlib.Core.Path.{◌≡◌, refl, sym, ◌∙◌, ap, ap₂}
use mathlib.Core.List.Memᴰ
use mathlib.Core.List.{List, [], ◌∷◌, ◌++◌}
use Prim.Native.Nat.{ℕ, zero, suc, ◌+◌, ◌*◌, ◌≤◌}
use native.Mathlib.Nat.{zero-add, mul-zero, mul-suc}
use native.Mathlib.Omega.{arith}
use native.Mathlib.Decide.{ℕ_discrete}
use lib.ListN.{length, get_or, set, replicate, length-set, length-map}
use lib.Seq.{ext_get_or, get_or-set_same, get_or-set_other}
use borrow.Author.Tests.{eq-eqb, ne_eqb}
use Rattle.graph.specs.Lists.{◌∈◌, numbers_from}
use Rattle.graph.proofs.Lists.{get_or_map, length_count, get_or_count}
use Rattle.ring.specs.Maxima.{ring_least, ring_most}
use Rattle.graph.specs.Counts.{of_length, lengths_of}
use Rattle.census.specs.Census.{counts_by, counts_of}
use Rattle.paths.specs.Search.{gather_below, rings_of, rings_up_to, counts_up_to, lengths_up_to}
use Rattle.paths.specs.Turn.{may_follow}
use Rattle.paths.proofs.Below.{gather_elim}
use Rattle.paths.proofs.Members.{listed_only}

module _ (k : ℕ) where
  of_here : (r : List ℕ) (xs : List (List ℕ)) → length r ≡ k → of_length k (r ∷ xs) ≡ suc (of_length k xs)
  of_here r xs e = rw (eq-eqb (length r) k e)

  of_other : (r : List ℕ) (xs : List (List ℕ)) → (length r ≡ k → ⊥) → of_length k (r ∷ xs) ≡ of_length k xs
  of_other r xs e = rw (ne_eqb (length r) k e)

  of_append : (xs ys : List (List ℕ)) → of_length k (xs ++ ys) ≡ of_length k xs + of_length k ys
  of_append [] ys = sym (zero-add _)
  of_append (r ∷ xs) ys =
      elim (ℕ_discrete (length r) k) [
        | yes e ↦ omega (arith, of_here r (xs ++ ys) e, of_here r xs e, of_append xs ys)
        | no e ↦ omega (arith, of_other r (xs ++ ys) e, of_other r xs e, of_append xs ys)
      ]

  of_none : (xs : List (List ℕ)) → ((r : List ℕ) → r ∈ xs → length r ≡ k → ⊥) → of_length k xs ≡ 0
  of_none [] h = refl
  of_none (r ∷ xs) h = of_other r xs (h r (Memᴰ.head refl)) ∙ of_none xs (λ s m. h s (Memᴰ.tail m))

  of_all : (xs : List (List ℕ)) → ((r : List ℕ) → r ∈ xs → length r ≡ k) → of_length k xs ≡ length xs
  of_all [] h = refl
  of_all (r ∷ xs) h = of_here r xs (h r (Memᴰ.head refl)) ∙ ap suc (of_all xs (λ s m. h s (Memᴰ.tail m)))

lengths_append : (xs ys : List (List ℕ)) → lengths_of (xs ++ ys) ≡ lengths_of xs + lengths_of ys
lengths_append [] ys = sym (zero-add _)
lengths_append (r ∷ xs) ys = omega (arith, lengths_append xs ys)

all_alike : (k : ℕ) (xs : List (List ℕ)) → ((r : List ℕ) → r ∈ xs → length r ≡ k) → lengths_of xs ≡ k * length xs
all_alike k [] h = sym (mul-zero k)
all_alike k (r ∷ xs) h = omega (arith, h r (Memᴰ.head refl), all_alike k xs (λ s m. h s (Memᴰ.tail m)), mul-suc k (length xs))

counts_long : (xs : List (List ℕ)) → length (counts_of xs) ≡ ring_most + 1
unfolding counts_by
counts_long xs = length-map (numbers_from (ring_most + 1) 0) (λ k. of_length k xs) ∙ length_count (ring_most + 1) 0

-- the count at place k is the number of rings of k atoms
pub count_at : (xs : List (List ℕ)) (k : ℕ) → k ≤ ring_most → get_or (counts_of xs) k 0 ≡ of_length k xs
unfolding counts_by
count_at xs k l =
    get_or_map (λ k. of_length k xs) (numbers_from (ring_most + 1) 0) k 0 0 (omega (arith, length_count (ring_most + 1) 0))
    ∙ ap (λ m. of_length m xs) (get_or_count (ring_most + 1) 0 k 0 (omega arith) ∙ omega arith)

counts_none : replicate (ring_most + 1) 0 ≡ counts_of []
unfolding counts_by
counts_none = refl

-- one length more: none before has it, and all that are added have
counts_more : (k : ℕ) (xs ys : List (List ℕ)) → k ≤ ring_most → ((r : List ℕ) → r ∈ xs → length r ≡ k → ⊥) → ((r : List ℕ) → r ∈ ys → length r ≡ k)
    → set (counts_of xs) k (length ys) ≡ counts_of (xs ++ ys)
counts_more k xs ys le none all =
    ext_get_or 0 (set (counts_of xs) k (length ys)) (counts_of (xs ++ ys)) (length-set (counts_of xs) k (length ys) ∙ counts_long xs ∙ sym (counts_long (xs ++ ys))) λ i l.
    let li : i ≤ ring_most = omega (arith, length-set (counts_of xs) k (length ys), counts_long xs) in
    elim (ℕ_discrete k i) [
      | yes e ↦ rw (← e)
          (get_or-set_same (counts_of xs) k (length ys) 0 (omega (arith, counts_long xs))
          ∙ sym (count_at (xs ++ ys) k le ∙ of_append k xs ys ∙ omega (arith, of_none k xs none, of_all k ys all)))
      | no e ↦ get_or-set_other (counts_of xs) k i (length ys) 0 (λ q. e (sym q))
          ∙ count_at xs i li
          ∙ sym (count_at (xs ++ ys) i li ∙ of_append i xs ys ∙ omega (arith, of_none i ys (λ r m q. e (sym (all r m) ∙ q))))
    ]

-- the counts that the search fills in are those of its list
module _ (n : ℕ) (t dist : List ℕ) where
  sized : (j : ℕ) (r : List ℕ) → r ∈ rings_of may_follow n t dist (j + ring_least) → length r ≡ j + ring_least
  sized j r m = (listed_only n t dist (j + ring_least) may_follow r (omega arith) m).size

  pub counts_all : (m : ℕ) → m + ring_least ≤ ring_most + 1 → counts_up_to may_follow n t dist m ≡ counts_of (rings_up_to may_follow n t dist m)
  unfolding counts_up_to rings_up_to gather_below
  counts_all zero h = counts_none
  counts_all (suc m) h =
      rw (counts_all m (omega arith))
      (counts_more (m + ring_least) (rings_up_to may_follow n t dist m) (rings_of may_follow n t dist (m + ring_least)) (omega arith)
      (λ r i e. let g = gather_elim _ m i in omega (arith, g.1, sized g.0 r g.2))
      (sized m))

  -- and so is the sum of their lengths
  pub lengths_all : (m : ℕ) → lengths_up_to may_follow n t dist m ≡ lengths_of (rings_up_to may_follow n t dist m)
  unfolding lengths_up_to rings_up_to gather_below
  lengths_all zero = refl
  lengths_all (suc m) =
      ap₂ ◌+◌ (lengths_all m) (sym (all_alike (m + ring_least) (rings_of may_follow n t dist (m + ring_least)) (sized m)))
      ∙ sym (lengths_append (rings_up_to may_follow n t dist m) (rings_of may_follow n t dist (m + ring_least)))
