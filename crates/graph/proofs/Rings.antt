-- Vertices at ring distance, pair by pair, are a ring: distance 1 is a bond, and distance above 0 is difference.
use mathlib.Core.Path.{◌≡◌, ap, subst}
use mathlib.Core.Logic.{◌≢◌}
use mathlib.Core.List.{List}
use Prim.Native.Nat.{ℕ, zero, suc, ◌+◌, ◌-◌, ◌≤◌, ◌<◌}
use native.Mathlib.Omega.{arith}
use lib.ListN.{length, get_or}
use Rattle.graph.specs.Graph.{Walk, Distance, around, Ring, ShortestPathRing}
use Rattle.graph.proofs.Distances.{walk_join, walk_back, nearest_of, distance_0, distance_1}

module _ {Vertex : Type 0} (Bonded : Vertex → Vertex → Type 0) (back : (x y : Vertex) → Bonded x y → Bonded y x) (o : Vertex) where
  pub ring_by_distances : (r : List Vertex) → 3 ≤ length r
      → ((i j : ℕ) → i < j → j < length r → Distance Bonded (get_or r i o) (get_or r j o) (around (length r) (j - i))) → ShortestPathRing Bonded o r
  ring_by_distances r h far = record { ring = record { three = h; different = differ; next = step; closes = last }; shortest = far }
    where
      differ : (i j : ℕ) → i < j → j < length r → get_or r i o ≢ get_or r j o
      differ i j l k e = omega (arith, distance_0 Bonded (get_or r i o) (get_or r j o) (around (length r) (j - i)) (far i j l k) e)

      step : (i : ℕ) → suc i < length r → Bonded (get_or r i o) (get_or r (suc i) o)
      step i l = distance_1 Bonded (get_or r i o) (get_or r (suc i) o) (around (length r) (suc i - i)) (omega arith) (far i (suc i) (omega arith) l)

      last : Bonded (get_or r (length r - 1) o) (get_or r 0 o)
      last =
          back (get_or r 0 o) (get_or r (length r - 1) o)
          (distance_1 Bonded (get_or r 0 o) (get_or r (length r - 1) o) (around (length r) (length r - 1 - 0)) (omega arith)
          (far 0 (length r - 1) (omega arith) (omega arith)))

-- two vertices of a ring are no farther from each other than round the ring
module _ {Vertex : Type 0} (Bonded : Vertex → Vertex → Type 0) (o : Vertex) (r : List Vertex) (R : Ring Bonded o r) where
  along : (g i : ℕ) → i + g < length r → Walk Bonded g (get_or r i o) (get_or r (i + g) o)
  along zero i l = ap (λ k. get_or r k o) (let e : i ≡ i + 0 = omega arith in e)
  along (suc g) i l = (
    get_or r (suc i) o,
    R.next i (omega arith),
    subst (λ k. Walk Bonded g (get_or r (suc i) o) (get_or r k o)) (let e : suc i + g ≡ i + suc g = omega arith in e) (along g (suc i) (omega arith)),
  )

  pub ring_joins : (i j : ℕ) → i ≤ j → j < length r → Walk Bonded (j - i) (get_or r i o) (get_or r j o)
  ring_joins i j l k = subst (λ x. Walk Bonded (j - i) (get_or r i o) (get_or r x o)) (let e : i + (j - i) ≡ j = omega arith in e) (along (j - i) i (omega arith))

  across : (i j : ℕ) → i < j → j < length r → Walk Bonded (length r - (j - i)) (get_or r j o) (get_or r i o)
  across i j l k =
      subst (λ g. Walk Bonded g (get_or r j o) (get_or r i o)) (let e : length r - 1 - j + suc (i - 0) ≡ length r - (j - i) = omega arith in e)
      (walk_join Bonded (length r - 1 - j) (suc (i - 0)) (get_or r j o) (get_or r (length r - 1) o) (get_or r i o)
      (ring_joins j (length r - 1) (omega arith) (omega arith)) (get_or r 0 o, R.closes, ring_joins 0 i (omega arith) (omega arith)))

  module _ (back : (x y : Vertex) → Bonded x y → Bonded y x) where
    pub no_farther : (i j d : ℕ) → i < j → j < length r → Distance Bonded (get_or r i o) (get_or r j o) d → d ≤ around (length r) (j - i)
    no_farther i j d l k h =
        let near = nearest_of Bonded (get_or r i o) (get_or r j o) d h in
        omega (
          arith,
          near.least (j - i) (ring_joins i j (omega arith) k),
          near.least (length r - (j - i)) (walk_back Bonded back (length r - (j - i)) (get_or r j o) (get_or r i o) (across i j l k)),
        )
