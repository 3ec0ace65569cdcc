-- The depth-first list is the listing of a finite network's rings, over any distances that are right as far as half the limit.
use mathlib.Core.Path.{◌≡◌, sym, ◌∙◌, ap, subst}
use mathlib.Core.Logic.{◌⊎◌, inl, inr, ◌↔◌}
use mathlib.Core.Bool.{◌||◌, not}
use mathlib.Core.List.{List, [], ◌∷◌}
use Prim.Native.Nat.{ℕ, zero, suc, ◌+◌, ◌-◌, ◌≤◌, ◌<◌}
use native.Mathlib.Omega.{arith}
use native.Mathlib.Decide.{ℕ_discrete}
use lib.Dec.{T, eqb, ltb, eqb→eq, eqb_refl, ltb→lt, lt→ltb, T_not, not_T}
use lib.ListN.{length, get_or, take}
use lib.Seq.{get_or-take, length-take-le}
use Rattle.graph.specs.Lists.{numbers_from}
use Rattle.graph.specs.Graph.{Distance}
use Rattle.graph.specs.Writing.{OneWriting}
use Rattle.graph.specs.Finite.{BondedBy, FiniteNetwork}
use Rattle.graph.specs.Listing.{RingListing}
use Rattle.graph.specs.Levels.{hit, levels}
use Rattle.graph.specs.Search.{rings_within, in_writing, distance_row, distance_table, look}
use Rattle.graph.proofs.Lists.{count_of, count_has, count_ascending, and_T, T_and, or_T, true_or_left, true_or_right, get_or_map, length_count, get_or_count}
use Rattle.graph.proofs.Levels.{hit_distance}
use Rattle.graph.proofs.Search.{searched}

look_table : (far most size : ℕ) (adj : ℕ → List ℕ) (x y : ℕ) → x < size → y < size
    → look far (distance_table far most size adj) x y ≡ hit eqb far (levels eqb adj (suc most) (x ∷ [])) 0 y
look_table far most size adj x y h k =
    let ex : get_or (distance_table far most size adj) x [] ≡ distance_row far (numbers_from size 0) (levels eqb adj (suc most) (x ∷ [])) =
    get_or_map (λ z. distance_row far (numbers_from size 0) (levels eqb adj (suc most) (z ∷ []))) (numbers_from size 0) x 0 [] (omega (arith, length_count size 0))
    ∙ ap (λ z. distance_row far (numbers_from size 0) (levels eqb adj (suc most) (z ∷ []))) (get_or_count size 0 x 0 h ∙ omega arith) in
    ap (λ t. get_or t y far) ex
    ∙ get_or_map (λ z. hit eqb far (levels eqb adj (suc most) (x ∷ [])) 0 z) (numbers_from size 0) y 0 far (omega (arith, length_count size 0))
    ∙ ap (hit eqb far (levels eqb adj (suc most) (x ∷ [])) 0) (get_or_count size 0 y 0 k ∙ omega arith)

in_writing_of : (r : List ℕ) → 3 ≤ length r → ((j : ℕ) → suc j < length r → T (in_writing (length r) (take (suc j) r) (get_or r (suc j) 0))) → OneWriting r
in_writing_of r h t = record { smallest = small; turn = subst (λ n. get_or r 1 0 < get_or r n 0) (omega arith) (last (length r - 2) (omega arith)) }
  where
    both : (j : ℕ) → suc j < length r → T (ltb (get_or (take (suc j) r) 0 0) (get_or r (suc j) 0)) × T (not (eqb (suc (length (take (suc j) r))) (length r)) || ltb (get_or (take (suc j) r) 1 0) (get_or r (suc j) 0))
    both j l = and_T (ltb (get_or (take (suc j) r) 0 0) (get_or r (suc j) 0)) (not (eqb (suc (length (take (suc j) r))) (length r)) || ltb (get_or (take (suc j) r) 1 0) (get_or r (suc j) 0)) (t j l)

    small : (i : ℕ) → 0 < i → i < length r → get_or r 0 0 < get_or r i 0
    small zero l k = absurd (omega arith)
    small (suc j) l k = omega (arith, ltb→lt (get_or (take (suc j) r) 0 0) (get_or r (suc j) 0) (both j k).0, get_or-take (suc j) r 0 0 (omega arith))

    last : (j : ℕ) → suc (suc j) ≡ length r → get_or r 1 0 < get_or r (suc j) 0
    last j e = go (or_T (not (eqb (suc (length (take (suc j) r))) (length r))) (ltb (get_or (take (suc j) r) 1 0) (get_or r (suc j) 0)) (both j (omega arith)).1)
      where
        here : suc (length (take (suc j) r)) ≡ length r
        here = ap suc (length-take-le (suc j) r (omega arith)) ∙ e

        go : T (not (eqb (suc (length (take (suc j) r))) (length r))) ⊎ T (ltb (get_or (take (suc j) r) 1 0) (get_or r (suc j) 0)) → get_or r 1 0 < get_or r (suc j) 0
        go (inl n) = absurd (T_not (eqb (suc (length (take (suc j) r))) (length r)) n (subst (λ k. T (eqb (suc (length (take (suc j) r))) k)) here (eqb_refl (suc (length (take (suc j) r))))))
        go (inr t) = omega (arith, ltb→lt (get_or (take (suc j) r) 1 0) (get_or r (suc j) 0) t, get_or-take (suc j) r 1 0 (omega arith))

in_writing_has : (r : List ℕ) → 3 ≤ length r → OneWriting r → (j : ℕ) → suc j < length r → T (in_writing (length r) (take (suc j) r) (get_or r (suc j) 0))
in_writing_has r h w j l =
    T_and (ltb (get_or (take (suc j) r) 0 0) (get_or r (suc j) 0)) (not (eqb (suc (length (take (suc j) r))) (length r)) || ltb (get_or (take (suc j) r) 1 0) (get_or r (suc j) 0))
    (lt→ltb (get_or (take (suc j) r) 0 0) (get_or r (suc j) 0) (omega (arith, w.smallest (suc j) (omega arith) l, get_or-take (suc j) r 0 0 (omega arith))))
    (go (ℕ_discrete (suc (suc j)) (length r)))
  where
    go : Dec (suc (suc j) ≡ length r) → T (not (eqb (suc (length (take (suc j) r))) (length r)) || ltb (get_or (take (suc j) r) 1 0) (get_or r (suc j) 0))
    go (yes e) = true_or_right (not (eqb (suc (length (take (suc j) r))) (length r))) (ltb (get_or (take (suc j) r) 1 0) (get_or r (suc j) 0))
        (lt→ltb (get_or (take (suc j) r) 1 0) (get_or r (suc j) 0)
        (omega (arith, get_or-take (suc j) r 1 0 (omega arith), subst (λ n. get_or r 1 0 < get_or r n 0) (let f : length r - 1 ≡ suc j = omega arith in f) w.turn)))
    go (no e) = true_or_left (not (eqb (suc (length (take (suc j) r))) (length r))) (ltb (get_or (take (suc j) r) 1 0) (get_or r (suc j) 0))
        (not_T (eqb (suc (length (take (suc j) r))) (length r)) (λ t. e (ap suc (sym (length-take-le (suc j) r (omega arith))) ∙ eqb→eq (suc (length (take (suc j) r))) (length r) t)))

-- the search over distances that are right as far as half a ring of the limit lists the rings
pub listed_by : (size : ℕ) (adj : ℕ → List ℕ) → FiniteNetwork size adj → (dist : ℕ → ℕ → ℕ) (most : ℕ)
    → ((x y d : ℕ) → x < size → y < size → d ≤ most → (dist x y ≡ d) ↔ Distance (BondedBy adj) x y d)
    → (limit : ℕ) → limit ≤ most + most + 1 → RingListing (BondedBy adj) limit (rings_within 0 (numbers_from size 0) adj dist in_writing limit)
listed_by size adj N dist most right =
    searched 0 (numbers_from size 0) adj dist in_writing (λ x. x < size) OneWriting most
    (record {
      first_in = λ x m. omega (arith, (count_of size 0 m).1);
      next_in = N.inside;
      back = N.back;
      measured = right;
      writes = λ r h. (in_writing_has r h, in_writing_of r h);
      starts = λ r h w. count_has size 0 (get_or r 0 0) (omega arith)
          (omega (arith, N.inside (get_or r 1 0) (get_or r 0 0) (N.back (get_or r 0 0) (get_or r 1 0) (h.ring.next 0 (omega (arith, h.ring.three))))));
    })
    ◌<◌ (count_ascending size 0) N.ascends

-- the table that levels compute is right as far as `most`
pub look_right : (size : ℕ) (adj : ℕ → List ℕ) (far most : ℕ) → most < far → (x y d : ℕ) → x < size → y < size → d ≤ most
    → (look far (distance_table far most size adj) x y ≡ d) ↔ Distance (BondedBy adj) x y d
look_right size adj far most f x y d hx hy l =
    subst (λ n. (n ≡ d) ↔ Distance (BondedBy adj) x y d) (sym (look_table far most size adj x y hx hy))
    (hit_distance eqb eqb→eq eqb_refl adj far most x y d l f)

-- so the list over that table is the listing
pub computed : (size : ℕ) (adj : ℕ → List ℕ) → FiniteNetwork size adj → (far most : ℕ) → most < far → (limit : ℕ) → limit ≤ most + most + 1
    → RingListing (BondedBy adj) limit (rings_within 0 (numbers_from size 0) adj (look far (distance_table far most size adj)) in_writing limit)
computed size adj N far most f =
    listed_by size adj N (look far (distance_table far most size adj)) most (look_right size adj far most f)
