-- In the distance table of a network, a pair of a ring is short where its network distance is shorter; where none is, the ring
-- is a shortest-path ring.
use Rattle.std.proofs.Common.{◌≡◌, inl, inr, subst, true, List, ℕ, ◌+◌, ◌-◌, ◌*◌, ◌≤◌, ◌<◌, length, get_or, arith, lt-ltb, ltb-true, ltb-false, suc-mul, mul-le-mul_right, le_antisymm}
use Rattle.graph.specs.Graph.{Distance, Tells, around, Ring, ShortestPathRing}
use Rattle.graph.proofs.Distances.{no_path_no_walk, distance_unique}
use Rattle.graph.proofs.Rings.{no_farther, ring_joins}
use Rattle.network.specs.Network.{Bonded, IsNetwork}
use Rattle.network.proofs.Bonds.{bonded_back}
use Rattle.distance.specs.Distances.{no_path, distance, DistanceTable}
use Rattle.candidate_faults.specs.CandidateVerdict.{AtomsBelow}
use Rattle.candidate.specs.ShorterPairs.{short, NoneShort}
use Rattle.candidate.specs.CandidateOutcome.{Shorter, FirstPair}

module _ (n : ℕ) (t d : List ℕ) (D : DistanceTable n t d) (r : List ℕ) (R : Ring (Bonded t) 0 r) (below : AtomsBelow n r) where
  -- the entry of a pair is its distance: there is a path round the ring
  entry : (i j : ℕ) → i < j → j < length r → Distance (Bonded t) (get_or r i 0) (get_or r j 0) (distance d n (get_or r i 0) (get_or r j 0))
  unfolding AtomsBelow
  entry i j l k = go (D.tells (get_or r i 0) (get_or r j 0) (below i (omega arith)) (below j k))
    where
      go : Tells (Bonded t) no_path (get_or r i 0) (get_or r j 0) (distance d n (get_or r i 0) (get_or r j 0)) → Distance (Bonded t) (get_or r i 0) (get_or r j 0) (distance d n (get_or r i 0) (get_or r j 0))
      go (inl h) = h.1
      go (inr h) = absurd (no_path_no_walk (Bonded t) (get_or r i 0) (get_or r j 0) h.1 (j - i) (ring_joins (Bonded t) 0 r R i j (omega arith) k))

  shorter_of : (i j : ℕ) → i < j → j < length r → short n d r i j ≡ true → Shorter t r i j
  shorter_of i j l k h = record { bonds = distance d n (get_or r i 0) (get_or r j 0); least = entry i j l k; fewer = ltb-true _ _ h }

  of_shorter : (i j : ℕ) → i < j → j < length r → Shorter t r i j → short n d r i j ≡ true
  of_shorter i j l k s =
      lt-ltb (distance d n (get_or r i 0) (get_or r j 0)) (around (length r) (j - i))
      (omega (arith, s.fewer, distance_unique (Bonded t) (get_or r i 0) (get_or r j 0) s.bonds (distance d n (get_or r i 0) (get_or r j 0)) s.least (entry i j l k)))

  pub yes_shortest : IsNetwork n t → NoneShort n d r → ShortestPathRing (Bonded t) 0 r
  yes_shortest N none = record { ring = R; shortest = λ i j l k. subst (Distance (Bonded t) (get_or r i 0) (get_or r j 0)) (equal i j l k) (entry i j l k) }
    where
      equal : (i j : ℕ) → i < j → j < length r → distance d n (get_or r i 0) (get_or r j 0) ≡ around (length r) (j - i)
      equal i j l k =
          let m : ℕ = distance d n (get_or r i 0) (get_or r j 0) in
          let low : around (length r) (j - i) ≤ m = ltb-false m (around (length r) (j - i)) (none i j l k) in
          let high : m ≤ around (length r) (j - i) = no_farther (Bonded t) 0 r R (bonded_back n t N) i j m l k (entry i j l k) in
          le_antisymm high low

  pub no_pair : (x y : ℕ) → FirstPair (λ i j. short n d r i j ≡ true) (length r) x y → FirstPair (Shorter t r) (length r) x y
  no_pair x y P = record {
    in_order = P.in_order;
    inside = P.inside;
    bad = shorter_of x y P.in_order P.inside P.bad;
    first = λ v w h k b s. P.first v w h k b (of_shorter v w h k s);
  }

-- the entry of two atoms stands in the table
pub entry_inside : (n : ℕ) (r d : List ℕ) (i j : ℕ) → length d ≡ n * n → AtomsBelow n r → i < length r → j < length r → get_or r i 0 * n + get_or r j 0 < length d
unfolding AtomsBelow
entry_inside n r d i j full below l k = omega (arith, full, below j k, rw suc-mul at (mul-le-mul_right n (below i l)))
