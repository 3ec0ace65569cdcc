-- The list of rings computed depth first over a table of distances (document 001, VI B).
--
--   grow next m p            every way to lengthen the path p by m vertices, where `next q` lists what may follow q
--   at_ring_distances dist k p v  v, put after p, is at the distances of a ring of k from every vertex of p
--   following .. k p         what may follow p on a ring of k
--   rings .. k               the rings of k vertices
--   rings_within .. limit    the rings of 3 to limit vertices
--   in_writing k p v         v, put after p, keeps to the one writing of a ring of k
--   distance_row far atoms ls   for each of these atoms the number of the first of the levels ls that holds it; far if none does
--   distance_table far cap size adj   a row of distances for each of `size` atoms, by levels: right as far as cap, far beyond
--   look far t x y           the entry of such a table
use Rattle.std.specs.Prelude.{Bool, true, ◌&&◌, ◌||◌, not, List, [], ◌∷◌, ◌++◌, map, ℕ, zero, suc, ◌-◌, eqb, ltb, length, get_or}
use Rattle.graph.specs.Lists.{gather, keep, numbers_from}
use Rattle.graph.specs.Graph.{around}
use Rattle.graph.specs.Levels.{hit, levels}

module _ {Vertex : Type 0} (next : List Vertex → List Vertex) where
  abbrev pub grow : ℕ → List Vertex → List (List Vertex)
  grow zero p = [] ∷ []
  grow (suc m) p = gather (λ v. map (λ s. v ∷ s) (grow m (p ++ (v ∷ [])))) (next p)

module _ {Vertex : Type 0} (o : Vertex) (vertices : List Vertex) (adj : Vertex → List Vertex) (dist : Vertex → Vertex → ℕ)
    (allowed : ℕ → List Vertex → Vertex → Bool) where
  abbrev pub at_ring_distances : ℕ → List Vertex → Vertex → Bool
  at_ring_distances k [] v = true
  at_ring_distances k (x ∷ p) v = eqb (dist x v) (around k (suc (length p))) && at_ring_distances k p v

  abbrev pub following : ℕ → List Vertex → List Vertex
  following k [] = vertices
  following k (x ∷ p) = keep (λ v. at_ring_distances k (x ∷ p) v && allowed k (x ∷ p) v) (adj (get_or (x ∷ p) (length p) o))

  abbrev pub rings : ℕ → List (List Vertex)
  rings k = grow (following k) k []

  abbrev pub rings_within : ℕ → List (List Vertex)
  rings_within limit = gather rings (numbers_from (limit - 2) 3)

abbrev pub in_writing : ℕ → List ℕ → ℕ → Bool
in_writing k p v = ltb (get_or p 0 0) v && (not (eqb (suc (length p)) k) || ltb (get_or p 1 0) v)

abbrev pub distance_row : ℕ → List ℕ → List (List ℕ) → List ℕ
distance_row far atoms ls = map (λ y. hit eqb far ls 0 y) atoms

abbrev pub distance_table : ℕ → ℕ → ℕ → (ℕ → List ℕ) → List (List ℕ)
distance_table far cap size adj = map (λ x. distance_row far (numbers_from size 0) (levels eqb adj (suc cap) (x ∷ []))) (numbers_from size 0)

abbrev pub look : ℕ → List (List ℕ) → ℕ → ℕ → ℕ
look far t x y = get_or (get_or t x []) y far
