-- Networks that are bonded alike under other names have the same distances and the same rings.
use mathlib.Core.Path.{◌≡◌, refl, ap, subst, subst₂}
use mathlib.Core.Logic.{◌↔◌}
use mathlib.Core.List.{List, map}
use Prim.Native.Nat.{ℕ, zero, suc, ◌-◌, ◌<◌}
use native.Mathlib.Omega.{arith}
use native.Mathlib.Decide.{dec_lt}
use lib.ListN.{length, get_or, length-map}
use Rattle.graph.specs.Graph.{around, Walk, Distance, ShortestPathRing}
use Rattle.graph.specs.Listing.{Before, Listing, Listed}
use Rattle.graph.specs.Carried.{Renaming}
use Rattle.graph.proofs.Lists.{get_or_map, map_same}
use Rattle.graph.proofs.Distances.{nearest_of, distance_of}
use Rattle.graph.proofs.Rings.{ring_by_distances}

module _ {A B : Type 0} {Bonded : A → A → Type 0} {Bonded' : B → B → Type 0} {f : A → B} {g : B → A} (F : Renaming Bonded Bonded' f g) where
  walk_there : (n : ℕ) (x y : A) → Walk Bonded n x y → Walk Bonded' n (f x) (f y)
  walk_there zero x y e = ap f e
  walk_there (suc n) x y w = (f w.0, F.there x w.0 w.1, walk_there n w.0 y w.2)

  walk_home : (n : ℕ) (x y : B) → Walk Bonded' n x y → Walk Bonded n (g x) (g y)
  walk_home zero x y e = ap g e
  walk_home (suc n) x y w = (g w.0, F.home x w.0 w.1, walk_home n w.0 y w.2)

  pub distance_there : (x y : A) (d : ℕ) → g (f x) ≡ x → g (f y) ≡ y → Distance Bonded x y d → Distance Bonded' (f x) (f y) d
  distance_there x y d ex ey h =
      let near = nearest_of Bonded x y d h in
      distance_of Bonded' (f x) (f y) d (record {
        walk = walk_there d x y near.walk;
        least = λ n w. near.least n (subst₂ (λ a b. Walk Bonded n a b) ex ey (walk_home n (f x) (f y) w));
      })

  pub ring_there : (back : (x y : B) → Bonded' x y → Bonded' y x) (o : A) (o' : B) (r : List A) → ShortestPathRing Bonded o r → ShortestPathRing Bonded' o' (map f r)
  ring_there back o o' r h = ring_by_distances Bonded' back o' (map f r) (omega (arith, h.ring.three, length-map r f)) far
    where
      same : (i : ℕ) → i < length r → g (f (get_or r i o)) ≡ get_or r i o
      same i l = go (dec_lt (suc i) (length r))
        where
          go : Dec (suc i < length r) → g (f (get_or r i o)) ≡ get_or r i o
          go (yes k) = F.undone (get_or r i o) (get_or r (suc i) o) (h.ring.next i k)
          go (no k) = F.undone (get_or r i o) (get_or r 0 o) (subst (λ n. Bonded (get_or r n o) (get_or r 0 o)) (omega arith) h.ring.closes)

      far : (i j : ℕ) → i < j → j < length (map f r) → Distance Bonded' (get_or (map f r) i o') (get_or (map f r) j o') (around (length (map f r)) (j - i))
      far i j l k =
          let e = length-map r f in
          let k' : j < length r = omega arith in
          rw (e, get_or_map f r i o o' (omega arith), get_or_map f r j o o' k') (distance_there (get_or r i o) (get_or r j o) (around (length r) (j - i)) (same i (omega arith)) (same j k') (h.shortest i j l k'))

-- the same bonds, said in another way
module _ {A : Type 0} {Bonded Bonded' : A → A → Type 0} (same : (x y : A) → Bonded x y ↔ Bonded' x y) where
  renamed : Renaming Bonded Bonded' (λ x. x) (λ x. x)
  renamed = record { there = λ x y. (same x y).0; home = λ x y. (same x y).1; undone = λ x y b. refl }

  pub same_ring : (back : (x y : A) → Bonded' x y → Bonded' y x) (o : A) (r : List A) → ShortestPathRing Bonded o r → ShortestPathRing Bonded' o r
  same_ring back o r h = subst (λ s. ShortestPathRing Bonded' o s) (map_same r) (ring_there renamed back o o r h)

pub same_listing : {A : Type 0} {Bonded Bonded' : A → A → Type 0} (o : A) (◌≺◌ : A → A → Type 0) (Written : List A → Type 0)
    → ((x y : A) → Bonded x y ↔ Bonded' x y) → ((x y : A) → Bonded x y → Bonded y x)
    → (limit : ℕ) (xs : List (List A)) → Listing (Before ◌≺◌) (Listed Bonded o Written limit) xs → Listing (Before ◌≺◌) (Listed Bonded' o Written limit) xs
same_listing {A} {Bonded} {Bonded'} o ◌≺◌ Written same back limit xs L = record {
  sound = λ r m. to r (L.sound r m);
  complete = λ r h. L.complete r (from r h);
  ascending = L.ascending;
}
  where
    back' : (x y : A) → Bonded' x y → Bonded' y x
    back' x y b = (same y x).0 (back x y ((same x y).1 b))

    to : (r : List A) → Listed Bonded o Written limit r → Listed Bonded' o Written limit r
    to r h = record { within = h.within; shortest = same_ring same back' o r h.shortest; written = h.written }

    from : (r : List A) → Listed Bonded' o Written limit r → Listed Bonded o Written limit r
    from r h = record { within = h.within; shortest = same_ring (λ x y. ((same x y).1, (same x y).0)) back o r h.shortest; written = h.written }
