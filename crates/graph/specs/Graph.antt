-- Paths, distances, rings and shortest-path rings (document 001, II and III).
--
--   Walk n x y             a chain of n bonds from x to y
--   via n x y w i          the vertex that the walk w has reached after i bonds
--   Path n x y             a walk of n bonds that meets no vertex twice (II: a y-z path of length k has distinct vertices)
--   Distance x y d         there is a path of d bonds from x to y, and none of fewer (II: dist(y, z), the minimum k)
--   Nearest x y d          there is a walk of d bonds from x to y, and none of fewer: the same number (walks_serve)
--   Tells far x y e        e is the distance from x to y, or far where there is no path
--   around k g             ring distance: the shorter way round a ring of k between places g apart (III: dist_R)
--   Ring r                 at least three different vertices, each bonded to the next, the last to the first (II: a closed loop)
--   RoundIsDistance r      between any two vertices of r the distance round the ring is the distance in the network (III: dist_G = dist_R)
--   ShortestPathRing r     a ring of which that is so
--
-- A graph is given by what is bonded to what, over any type of vertices: the atoms of a finite network, or of an endless crystal.
-- `get_or r i o` is the vertex at place i of r; `o` is any vertex, read past the end.
use Rattle.std.specs.Prelude.{◌≡◌, ◌≢◌, ◌⊎◌, List, ℕ, zero, suc, ◌-◌, ◌≤◌, ◌<◌, min, length, get_or}

module _ {Vertex : Type 0} (Bonded : Vertex → Vertex → Type 0) where
  abbrev pub Walk : ℕ → Vertex → Vertex → Type 0
  Walk zero x y = x ≡ y
  Walk (suc n) x y = (z : Vertex) × Bonded x z × Walk n z y

  abbrev pub via : (n : ℕ) (x y : Vertex) → Walk n x y → ℕ → Vertex
  via zero x y w i = x
  via (suc n) x y w zero = x
  via (suc n) x y w (suc i) = via n w.0 y w.2 i

  pub record Path (n : ℕ) (x y : Vertex) : Type 0 where
    pub walk : Walk n x y
    pub different : (i j : ℕ) → i < j → j ≤ n → via n x y walk i ≢ via n x y walk j

  pub record Distance (x y : Vertex) (d : ℕ) : Type 0 where
    pub path : Path d x y
    pub least : (n : ℕ) → Path n x y → d ≤ n

  pub record Nearest (x y : Vertex) (d : ℕ) : Type 0 where
    pub walk : Walk d x y
    pub least : (n : ℕ) → Walk n x y → d ≤ n

  abbrev pub Tells : ℕ → Vertex → Vertex → ℕ → Type 0
  Tells far x y e = ((e < far) × Distance x y e) ⊎ ((e ≡ far) × ((n : ℕ) → Path n x y → ⊥))

abbrev pub around : ℕ → ℕ → ℕ
around k g = min g (k - g)

module _ {Vertex : Type 0} (Bonded : Vertex → Vertex → Type 0) (o : Vertex) where
  pub record Ring (r : List Vertex) : Type 0 where
    pub three : 3 ≤ length r
    pub different : (i j : ℕ) → i < j → j < length r → get_or r i o ≢ get_or r j o
    pub next : (i : ℕ) → suc i < length r → Bonded (get_or r i o) (get_or r (suc i) o)
    pub closes : Bonded (get_or r (length r - 1) o) (get_or r 0 o)

  abbrev pub RoundIsDistance : List Vertex → Type 0
  RoundIsDistance r = (i j : ℕ) → i < j → j < length r → Distance Bonded (get_or r i o) (get_or r j o) (around (length r) (j - i))

  pub record ShortestPathRing (r : List Vertex) : Type 0 where
    pub ring : Ring r
    pub shortest : RoundIsDistance r
