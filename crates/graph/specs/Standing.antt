-- What stands in a list of rings (demand 2), over any form of network: a form says which lists of vertices are the same ring (Same),
-- and which of them is its one writing (Written).
--
--   StandsOnce Same rings r            one of the writings of r stands at one place of the list, and no other at any place
--   StandExactly .. limit rings        what stands in the list: exactly the rings of at most limit vertices whose distances round the ring are those in
--                                      the network (RoundIsDistance), each once, in its one writing, in list order
--   OneEach Bonded o Same Written      what a form has to be: a ring is the same as itself, and the same there and back; the same ring is as long, and
--                                      a shortest-path ring too; and each ring has one writing
use Rattle.std.specs.Prelude.{◌≡◌, ◌↔◌, List, [], ℕ, ◌≤◌, ◌<◌, length, get_or}
use Rattle.graph.specs.Lists.{◌∈◌, Ascending}
use Rattle.graph.specs.Graph.{Ring, RoundIsDistance, ShortestPathRing}
use Rattle.graph.specs.Listing.{Before}

pub record StandsOnce {Vertex : Type 0} (Same : List Vertex → List Vertex → Type 0) (rings : List (List Vertex)) (r : List Vertex) : Type 0 where
  pub writing : List Vertex
  pub reading : Same r writing
  pub place : ℕ
  pub in_list : place < length rings
  pub stands : get_or rings place [] ≡ writing
  pub only : (s : List Vertex) (i : ℕ) → Same r s → i < length rings → get_or rings i [] ≡ s → (s ≡ writing) × (i ≡ place)

module _ {Vertex : Type 0} (Bonded : Vertex → Vertex → Type 0) (o : Vertex) (◌≺◌ : Vertex → Vertex → Type 0)
    (Same : List Vertex → List Vertex → Type 0) (Written : List Vertex → Type 0) where
  pub record StandExactly (limit : ℕ) (rings : List (List Vertex)) : Type 0 where
    pub exactly : (r : List Vertex) → Ring Bonded o r → length r ≤ limit → RoundIsDistance Bonded o r ↔ StandsOnce Same rings r
    -- nothing else stands there
    pub cycles : (r : List Vertex) → r ∈ rings → Ring Bonded o r × (length r ≤ limit)
    -- one way to write a ring, one place in the list
    pub written : (r : List Vertex) → r ∈ rings → Written r
    pub order : Ascending (Before ◌≺◌) rings

pub record OneEach {Vertex : Type 0} (Bonded : Vertex → Vertex → Type 0) (o : Vertex) (Same : List Vertex → List Vertex → Type 0) (Written : List Vertex → Type 0) : Type 0 where
  pub self : (r : List Vertex) → 3 ≤ length r → Same r r
  pub alike : (r s : List Vertex) → Same r s → length s ≡ length r
  pub back : (r s : List Vertex) → Same r s → Same s r
  pub shortest : (r s : List Vertex) → Same r s → ShortestPathRing Bonded o r → ShortestPathRing Bonded o s
  pub exists : (r : List Vertex) → Ring Bonded o r → (s : List Vertex) × Same r s × Written s
  pub unique : (r s t : List Vertex) → 3 ≤ length r → Same r s → Same r t → Written s → Written t → s ≡ t
