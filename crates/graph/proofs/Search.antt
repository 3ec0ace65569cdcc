-- The depth-first list over a table of distances is the listing: sound, complete, ascending, each ring once.
use mathlib.Core.Path.{◌≡◌, refl, sym, ◌∙◌, ap, subst, subst₂}
use mathlib.Core.Logic.{◌⊎◌, inl, inr, ◌↔◌}
use mathlib.Core.Bool.{Bool, ◌&&◌}
use mathlib.Core.List.Memᴰ
use mathlib.Core.List.{List, [], ◌∷◌, ◌++◌, map, append_assoc, append-nil}
use Prim.Native.Nat.{ℕ, zero, suc, ◌+◌, ◌-◌, ◌≤◌, ◌<◌}
use native.Mathlib.Omega.{arith}
use lib.Dec.{T, eqb, eqb→eq, eqb_refl}
use lib.ListN.{length, get_or, take}
use lib.Seq.{get_or-take, length-take-le}
use Rattle.graph.specs.Lists.{◌∈◌, Ascending, numbers_from}
use Rattle.graph.specs.Graph.{Distance, around, ShortestPathRing}
use Rattle.graph.specs.Finite.{BondedBy}
use Rattle.graph.specs.Listing.{Lex, Before, Listing, Listed}
use Rattle.graph.specs.Search.{grow, at_ring_distances, following, rings, rings_within}
use Rattle.graph.proofs.Lists.{gather_of, gather_has, keep_of, keep_has, map_of, map_has, count_of, count_has, count_ascending, and_T, T_and, keep_ascending, gather_ascending}
use Rattle.graph.proofs.Rings.{ring_by_distances}

-- paths grown place by place: `next p` lists what may follow the path p
module _ {Vertex : Type 0} (next : List Vertex → List Vertex) where
  -- each vertex of s may follow what stands before it
  abbrev pub Fits : List Vertex → List Vertex → Type 0
  Fits p [] = Unit {0}
  Fits p (v ∷ s) = (v ∈ next p) × Fits (p ++ (v ∷ [])) s

  pub grow_of : (m : ℕ) (p s : List Vertex) → s ∈ grow next m p → (length s ≡ m) × Fits p s
  grow_of zero p s h = go (Memᴰ.cases_cons h)
    where
      go : (s ≡ []) ⊎ (s ∈ []) → (length s ≡ zero) × Fits p s
      go (inl e) = subst (λ t. (length t ≡ zero) × Fits p t) (sym e) (refl, tt)
      go (inr n) = absurd (Memᴰ.not-nil n)
  grow_of (suc m) p s h =
      let g = gather_of (λ v. map (λ t. v ∷ t) (grow next m (p ++ (v ∷ [])))) (next p) h in
      let t = map_of (λ u. g.0 ∷ u) (grow next m (p ++ (g.0 ∷ []))) g.2 in
      let ih = grow_of m (p ++ (g.0 ∷ [])) t.0 t.1 in
      subst (λ u. (length u ≡ suc m) × Fits p u) (sym t.2) (ap suc ih.0, (g.1, ih.1))

  pub grow_has : (s p : List Vertex) → Fits p s → s ∈ grow next (length s) p
  grow_has [] p h = Memᴰ.head refl
  grow_has (v ∷ s) p h =
      gather_has (λ u. map (λ t. u ∷ t) (grow next (length s) (p ++ (u ∷ [])))) h.0 (map_has (λ t. v ∷ t) (grow_has s (p ++ (v ∷ [])) h.1))

  -- the same by places
  module _ (o : Vertex) where
    pub fits_at : (s p : List Vertex) → Fits p s → (j : ℕ) → j < length s → get_or s j o ∈ next (p ++ take j s)
    fits_at [] p h j l = absurd (omega arith)
    fits_at (v ∷ s) p h zero l = rw append-nil h.0
    fits_at (v ∷ s) p h (suc j) l = subst (λ q. get_or s j o ∈ next q) (append_assoc p (v ∷ []) (take j s)) (fits_at s (p ++ (v ∷ [])) h.1 j (omega arith))

    pub at_fits : (s p : List Vertex) → ((j : ℕ) → j < length s → get_or s j o ∈ next (p ++ take j s)) → Fits p s
    at_fits [] p h = tt
    at_fits (v ∷ s) p h = (
      subst (λ q. v ∈ next q) (append-nil p) (h 0 (omega arith)),
      at_fits s (p ++ (v ∷ [])) (λ j l. subst (λ q. get_or s j o ∈ next q) (sym (append_assoc p (v ∷ []) (take j s))) (h (suc j) (omega arith))),
    )

  module _ (R : Vertex → Vertex → Type 0) (up : (p : List Vertex) → Ascending R (next p)) where
    map_ascending : (v : Vertex) (ss : List (List Vertex)) → Ascending (Lex R) ss → Ascending (Lex R) (map (λ s. v ∷ s) ss)
    map_ascending v [] h = tt
    map_ascending v (s ∷ ss) h =
        (λ t m. let k = map_of (λ u. v ∷ u) ss m in subst (λ u. Lex R (v ∷ s) u) (sym k.2) (inr (refl, h.0 k.0 k.1)), map_ascending v ss h.1)

    pub grow_ascending : (m : ℕ) (p : List Vertex) → Ascending (Lex R) (grow next m p)
    grow_ascending zero p = (λ b n. absurd (Memᴰ.not-nil n), tt)
    grow_ascending (suc m) p =
        gather_ascending R (Lex R) (λ v. map (λ s. v ∷ s) (grow next m (p ++ (v ∷ [])))) (next p) (up p)
        (λ v. map_ascending v (grow next m (p ++ (v ∷ []))) (grow_ascending m (p ++ (v ∷ []))))
        (λ v w x y lt mx my.
        let a = map_of (λ s. v ∷ s) (grow next m (p ++ (v ∷ []))) mx in
        let b = map_of (λ s. w ∷ s) (grow next m (p ++ (w ∷ []))) my in
        subst₂ (λ s t. Lex R s t) (sym a.2) (sym b.2) (inl lt))

-- the search of a graph: a path goes on to a neighbour of its last vertex that stands at the distances of a ring of k
-- from every vertex of the path, and that the writing allows there
module _ {Vertex : Type 0} (o : Vertex) (vertices : List Vertex) (adj : Vertex → List Vertex) (dist : Vertex → Vertex → ℕ) (allowed : ℕ → List Vertex → Vertex → Bool) where
  abbrev beside : ℕ → List Vertex → Vertex → Bool
  beside = at_ring_distances o vertices adj dist allowed

  abbrev follow : ℕ → List Vertex → List Vertex
  follow = following o vertices adj dist allowed

  abbrev rings_of : ℕ → List (List Vertex)
  rings_of = rings o vertices adj dist allowed

  apart_of : (k : ℕ) (p : List Vertex) (v : Vertex) → T (beside k p v) → (i : ℕ) → i < length p → dist (get_or p i o) v ≡ around k (length p - i)
  apart_of k [] v h i l = absurd (omega arith)
  apart_of k (x ∷ p) v h zero l = eqb→eq (dist x v) (around k (suc (length p))) (and_T (eqb (dist x v) (around k (suc (length p)))) (beside k p v) h).0 ∙ ap (around k) (omega arith)
  apart_of k (x ∷ p) v h (suc i) l =
      apart_of k p v (and_T (eqb (dist x v) (around k (suc (length p)))) (beside k p v) h).1 i (omega arith) ∙ ap (around k) (omega arith)

  apart_has : (k : ℕ) (p : List Vertex) (v : Vertex) → ((i : ℕ) → i < length p → dist (get_or p i o) v ≡ around k (length p - i)) → T (beside k p v)
  apart_has k [] v h = tt
  apart_has k (x ∷ p) v h =
      T_and (eqb (dist x v) (around k (suc (length p)))) (beside k p v)
      (subst (λ d. T (eqb (dist x v) d)) (h 0 (omega arith) ∙ ap (around k) (omega arith)) (eqb_refl (dist x v)))
      (apart_has k p v (λ i l. h (suc i) (omega arith) ∙ ap (around k) (omega arith)))

  -- what it is that r goes on after place j
  record Place (k : ℕ) (r : List Vertex) (j : ℕ) : Type 0 where
    bond : get_or r (suc j) o ∈ adj (get_or r j o)
    may : T (allowed k (take (suc j) r) (get_or r (suc j) o))
    far : (i : ℕ) → i < suc j → dist (get_or r i o) (get_or r (suc j) o) ≡ around k (suc j - i)

  following_of : (k : ℕ) (r : List Vertex) (j : ℕ) → suc j < length r → get_or r (suc j) o ∈ follow k (take (suc j) r) → Place k r j
  following_of k [] j l m = absurd (omega arith)
  following_of k (x ∷ r) j l m =
      let e = length-take-le j r (omega arith) in
      let g = keep_of (λ v. beside k (x ∷ take j r) v && allowed k (x ∷ take j r) v) (adj (get_or (x ∷ take j r) (length (take j r)) o)) m in
      let b = and_T (beside k (x ∷ take j r) (get_or r j o)) (allowed k (x ∷ take j r) (get_or r j o)) g.1 in
      record {
        bond = subst (λ y. get_or r j o ∈ adj y) (ap (λ n. get_or (x ∷ take j r) n o) e ∙ get_or-take (suc j) (x ∷ r) j o (omega arith)) g.0;
        may = b.1;
        far = λ i h.
            ap (λ y. dist y (get_or r j o)) (sym (get_or-take (suc j) (x ∷ r) i o h))
            ∙ apart_of k (x ∷ take j r) (get_or r j o) b.0 i (omega arith) ∙ ap (around k) (omega arith);
      }

  following_has : (k : ℕ) (r : List Vertex) (j : ℕ) → suc j < length r → Place k r j → get_or r (suc j) o ∈ follow k (take (suc j) r)
  following_has k [] j l h = absurd (omega arith)
  following_has k (x ∷ r) j l h =
      let e = length-take-le j r (omega arith) in
      keep_has (λ v. beside k (x ∷ take j r) v && allowed k (x ∷ take j r) v)
      (subst (λ y. get_or r j o ∈ adj y) (sym (ap (λ n. get_or (x ∷ take j r) n o) e ∙ get_or-take (suc j) (x ∷ r) j o (omega arith))) h.bond)
      (T_and (beside k (x ∷ take j r) (get_or r j o)) (allowed k (x ∷ take j r) (get_or r j o))
      (apart_has k (x ∷ take j r) (get_or r j o)
      (λ i l'. ap (λ y. dist y (get_or r j o)) (get_or-take (suc j) (x ∷ r) i o (omega arith)) ∙ h.far i (omega arith) ∙ ap (around k) (omega arith)))
      h.may)

  -- what the search relies on
  pub record Sound (Inside : Vertex → Type 0) (Written : List Vertex → Type 0) (most : ℕ) : Type 0 where
    pub first_in : (x : Vertex) → x ∈ vertices → Inside x
    pub next_in : (x y : Vertex) → BondedBy adj x y → Inside y
    pub back : (x y : Vertex) → BondedBy adj x y → BondedBy adj y x
    pub measured : (x y : Vertex) (d : ℕ) → Inside x → Inside y → d ≤ most → (dist x y ≡ d) ↔ Distance (BondedBy adj) x y d
    pub writes : (r : List Vertex) → 3 ≤ length r
        → Written r ↔ ((j : ℕ) → suc j < length r → T (allowed (length r) (take (suc j) r) (get_or r (suc j) o)))
    pub starts : (r : List Vertex) → ShortestPathRing (BondedBy adj) o r → Written r → get_or r 0 o ∈ vertices

  module _ (Inside : Vertex → Type 0) (Written : List Vertex → Type 0) (most : ℕ) (S : Sound Inside Written most) where
    rings_of_lem : (r : List Vertex) → 3 ≤ length r → length r ≤ most + most + 1 → r ∈ rings_of (length r) → ShortestPathRing (BondedBy adj) o r × Written r
    rings_of_lem r h c m = (ring_by_distances (BondedBy adj) S.back o r h near, (S.writes r h).1 (λ j l. (at j l).may))
      where
        at : (j : ℕ) → suc j < length r → Place (length r) r j
        at j l = following_of (length r) r j l (fits_at (follow (length r)) o r [] (grow_of (follow (length r)) (length r) [] r m).1 (suc j) l)

        inside : (j : ℕ) → j < length r → Inside (get_or r j o)
        inside zero l = S.first_in (get_or r 0 o) (fits_at (follow (length r)) o r [] (grow_of (follow (length r)) (length r) [] r m).1 0 l)
        inside (suc j) l = S.next_in (get_or r j o) (get_or r (suc j) o) (at j l).bond

        near : (i j : ℕ) → i < j → j < length r → Distance (BondedBy adj) (get_or r i o) (get_or r j o) (around (length r) (j - i))
        near i zero l l' = absurd (omega arith)
        near i (suc j) l l' = (S.measured (get_or r i o) (get_or r (suc j) o) (around (length r) (suc j - i)) (inside i (omega arith)) (inside (suc j) l') (omega arith)).0 ((at j l').far i l)

    rings_has : (r : List Vertex) → length r ≤ most + most + 1 → ShortestPathRing (BondedBy adj) o r → Written r → r ∈ rings_of (length r)
    rings_has r c h w = grow_has (follow (length r)) r [] (at_fits (follow (length r)) o r [] at)
      where
        inside : (j : ℕ) → j < length r → Inside (get_or r j o)
        inside zero l = S.first_in (get_or r 0 o) (S.starts r h w)
        inside (suc j) l = S.next_in (get_or r j o) (get_or r (suc j) o) (h.ring.next j l)

        at : (j : ℕ) → j < length r → get_or r j o ∈ follow (length r) (take j r)
        at zero l = S.starts r h w
        at (suc j) l = following_has (length r) r j l (record {
          bond = h.ring.next j l;
          may = (S.writes r h.ring.three).0 w j l;
          far = λ i l'. (S.measured (get_or r i o) (get_or r (suc j) o) (around (length r) (suc j - i)) (inside i (omega arith)) (inside (suc j) l) (omega arith)).1 (h.shortest i (suc j) l' l);
        })

    module _ (R : Vertex → Vertex → Type 0) (up : Ascending R vertices) (ups : (x : Vertex) → Ascending R (adj x)) where
      following_ascending : (k : ℕ) (p : List Vertex) → Ascending R (follow k p)
      following_ascending k [] = up
      following_ascending k (x ∷ p) = keep_ascending R (λ v. beside k (x ∷ p) v && allowed k (x ∷ p) v) (adj (get_or (x ∷ p) (length p) o)) (ups (get_or (x ∷ p) (length p) o))

      -- the search makes the listing
      pub searched : (limit : ℕ) → limit ≤ most + most + 1
          → Listing (Before R) (Listed (BondedBy adj) o Written limit) (rings_within o vertices adj dist allowed limit)
      searched limit c = record { sound = sound; complete = complete; ascending = asc }
        where
          sound : (r : List Vertex) → r ∈ rings_within o vertices adj dist allowed limit → Listed (BondedBy adj) o Written limit r
          sound r m =
              let g = gather_of rings_of (numbers_from (limit - 2) 3) m in
              let n = count_of (limit - 2) 3 g.1 in
              let e = (grow_of (follow g.0) g.0 [] r g.2).0 in
              let w = rings_of_lem r (omega arith) (omega arith) (subst (λ k. r ∈ rings_of k) (sym e) g.2) in
              record { within = omega arith; shortest = w.0; written = w.1 }

          complete : (r : List Vertex) → Listed (BondedBy adj) o Written limit r → r ∈ rings_within o vertices adj dist allowed limit
          complete r h = gather_has rings_of (count_has (limit - 2) 3 (length r) h.shortest.ring.three (omega (arith, h.within, h.shortest.ring.three)))
              (rings_has r (omega (arith, h.within)) h.shortest h.written)

          up_lex : (ss : List (List Vertex)) (k : ℕ) → ((s : List Vertex) → s ∈ ss → length s ≡ k) → Ascending (Lex R) ss → Ascending (Before R) ss
          up_lex [] k f h = tt
          up_lex (s ∷ ss) k f h =
              (λ t m. inr (f s (Memᴰ.head refl) ∙ sym (f t (Memᴰ.tail m)), h.0 t m), up_lex ss k (λ t m. f t (Memᴰ.tail m)) h.1)

          asc : Ascending (Before R) (rings_within o vertices adj dist allowed limit)
          asc = gather_ascending ◌<◌ (Before R) rings_of (numbers_from (limit - 2) 3) (count_ascending (limit - 2) 3)
              (λ k. up_lex (rings_of k) k (λ s m. (grow_of (follow k) k [] s m).0) (grow_ascending (follow k) R (following_ascending k) k []))
              (λ a b x y lt mx my. inl (omega (arith, (grow_of (follow a) a [] x mx).0, (grow_of (follow b) b [] y my).0)))
