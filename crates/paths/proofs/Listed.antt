-- The list that the search makes is the listing of the network's shortest-path rings.
use mathlib.Core.Path.{◌≡◌, refl, sym, ◌∙◌, subst}
use mathlib.Core.Logic.{⊎_elim}
use mathlib.Core.List.{List}
use Prim.Native.Nat.{ℕ, zero, suc, ◌+◌, ◌-◌, ◌/◌, ◌≤◌, ◌<◌}
use native.Mathlib.Numerals.{add-one}
use native.Mathlib.Omega.{arith}
use lib.ListN.{length, get_or}
use Rattle.graph.specs.Lists.{◌∈◌}
use Rattle.graph.specs.Graph.{Distance, around}
use Rattle.graph.specs.Writing.{OneWriting}
use Rattle.graph.specs.Listing.{Listed, RingListing}
use Rattle.graph.proofs.Rings.{ring_by_distances}
use Rattle.graph.proofs.Distances.{distance_unique}
use Rattle.network.specs.Network.{Bonded, IsNetwork}
use Rattle.network.proofs.Bonds.{bonded_from, bonded_to, bonded_back}
use Rattle.distance.specs.Distances.{no_path, DistanceTable}
use Rattle.ring.specs.Maxima.{ring_least, ring_most}
use Rattle.paths.specs.Search.{rings_up_to}
use Rattle.paths.specs.Turn.{may_follow}
use Rattle.paths.specs.Shown.{ShortestShown, RightAsFar}
use Rattle.paths.proofs.Below.{gather_intro, gather_elim}
use Rattle.paths.proofs.Members.{listed_all, listed_only}
use Rattle.paths.proofs.Order.{rows_of, all_asc}
use Rattle.paths.proofs.Harmless.{turn_harmless}

-- a distance table is right as far as the byte for no path
pub right_as_far : (most n : ℕ) (t d : List ℕ) → most < no_path → DistanceTable n t d → RightAsFar most n t d
right_as_far most n t d small D x y e lx ly le = (
  (λ q. ⊎_elim
      (λ h. subst (Distance (Bonded t) x y) q h.1)
      (λ h. absurd (omega (arith, h.0)))
      (D.tells x y lx ly)),
  λ h. ⊎_elim
      (λ g. distance_unique (Bonded t) x y _ e g.1 h)
      (λ g. absurd (g.1 e h.path))
      (D.tells x y lx ly),
)

module _ (n : ℕ) (t dist : List ℕ) (N : IsNetwork n t) (right : RightAsFar (ring_most / 2) n t dist) (limit : ℕ) (most : limit ≤ ring_most) where
  -- a ring as the table and the buffer show it is a shortest-path ring in its one writing
  listed_of : (k : ℕ) (r : List ℕ) → ring_least ≤ k → k ≤ limit → ShortestShown n t dist k r → Listed (Bonded t) 0 OneWriting limit r
  listed_of k r least within h = record {
    within = omega (arith, h.size);
    shortest = ring_by_distances (Bonded t) (bonded_back n t N) 0 r (omega (arith, h.size)) near;
    written = record { smallest = h.chain.least; turn = subst (λ m. get_or r 1 0 < get_or r (m - 1) 0) (sym h.size) h.sense };
  }
    where
      near : (i j : ℕ) → i < j → j < length r → Distance (Bonded t) (get_or r i 0) (get_or r j 0) (around (length r) (j - i))
      near i j l m =
          (right (get_or r i 0) (get_or r j 0) (around (length r) (j - i)) (h.chain.atoms i (omega arith)) (h.chain.atoms j m) (omega (arith, h.size))).0
          (rw h.size (h.pairs i j l (omega (arith, h.size))))

  -- and such a ring shows in the table and the buffer
  shows : (r : List ℕ) → Listed (Bonded t) 0 OneWriting limit r → ShortestShown n t dist (length r) r
  shows r h = record {
    size = refl;
    chain = record {
      atoms = inside;
      bonded = λ i l. (let b = h.shortest.ring.next i (omega arith) in (b.place, b.within_row, b.stands ∙ subst (λ m. get_or r (suc i) 0 ≡ get_or r m 0) (sym (add-one i)) refl));
      least = h.written.smallest;
    };
    pairs = λ i j l m. (right (get_or r i 0) (get_or r j 0) (around (length r) (j - i)) (inside i (omega arith)) (inside j m) (omega (arith, h.within))).1 (h.shortest.shortest i j l m);
    sense = h.written.turn;
  }
    where
      inside : (i : ℕ) → i < length r → get_or r i 0 < n
      inside zero l = bonded_from n t N (get_or r 0 0) (get_or r 1 0) (h.shortest.ring.next 0 (omega (arith, h.shortest.ring.three)))
      inside (suc i) l = bonded_to n t N (get_or r i 0) (get_or r (suc i) 0) (h.shortest.ring.next i l)

  pub the_listing : ring_least ≤ limit → RingListing (Bonded t) limit (rings_up_to may_follow n t dist (limit + 1 - ring_least))
  unfolding rings_up_to
  the_listing least = record { sound = sound; complete = complete; ascending = all_asc may_follow n t dist (limit + 1 - ring_least) (rows_of n t N) }
    where
      many : ℕ
      many = limit + 1 - ring_least

      sound : (r : List ℕ) → r ∈ rings_up_to may_follow n t dist many → Listed (Bonded t) 0 OneWriting limit r
      sound r m =
          let g = gather_elim _ many m in
          listed_of (g.0 + ring_least) r (omega arith) (omega (arith, g.1)) (listed_only n t dist (g.0 + ring_least) may_follow r (omega arith) g.2)

      complete : (r : List ℕ) → Listed (Bonded t) 0 OneWriting limit r → r ∈ rings_up_to may_follow n t dist many
      complete r h =
          let three = h.shortest.ring.three in
          let e : length r - ring_least + ring_least ≡ length r = omega arith in
          gather_intro _ many (length r - ring_least) (omega (arith, h.within, three))
          (rw e (listed_all n t dist (length r) may_follow (turn_harmless n t dist (length r) three) r (omega arith) (shows r h)))
