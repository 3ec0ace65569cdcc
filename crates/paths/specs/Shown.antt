-- A shortest-path ring as a table of bonds and a buffer of distances show it, with no search.
--
--   ChainShown n table r         atoms below n, each bonded to the next, none but the first as small as the first
--   ShortestShown n table dist k r    a ring of k atoms in its one writing, each pair at ring distance in the buffer
--   Harmless n table dist k may  a test never turns back from a path that a shortest-path ring goes on with
--   RightAsFar most n t dist     the buffer is right for every distance as far as `most`
--   Ends n table                 in a row no atom stands after a free place
use Rattle.std.specs.Prelude.{◌≡◌, true, ◌↔◌, List, ◌∷◌, ◌++◌, ℕ, ◌+◌, ◌-◌, ◌<◌, ◌≤◌, length, get_or}
use Rattle.graph.specs.Graph.{Distance, around}
use Rattle.network.specs.Maxima.{places}
use Rattle.network.specs.Network.{word, Bonded}
use Rattle.distance.specs.Distances.{distance}
use Rattle.paths.specs.Search.{Test}

pub record ChainShown (n : ℕ) (table : List ℕ) (r : List ℕ) : Type 0 where
  pub atoms : (i : ℕ) → i < length r → get_or r i 0 < n
  pub bonded : (i : ℕ) → i + 1 < length r → (j : ℕ) × (j < places) × (word table (get_or r i 0) j ≡ get_or r (i + 1) 0)
  pub least : (i : ℕ) → 0 < i → i < length r → get_or r 0 0 < get_or r i 0

pub record ShortestShown (n : ℕ) (table dist : List ℕ) (k : ℕ) (r : List ℕ) : Type 0 where
  pub size : length r ≡ k
  pub chain : ChainShown n table r
  pub pairs : (i j : ℕ) → i < j → j < k → distance dist n (get_or r i 0) (get_or r j 0) ≡ around k (j - i)
  pub sense : get_or r 1 0 < get_or r (k - 1) 0

abbrev pub Harmless : ℕ → List ℕ → List ℕ → ℕ → Test → Type 0
Harmless n table dist k may = (r : List ℕ) → ShortestShown n table dist k r → (p : List ℕ) (a : ℕ) (s : List ℕ) → 0 < length p → r ≡ p ++ (a ∷ s) → may p a ≡ true

abbrev pub RightAsFar : ℕ → ℕ → List ℕ → List ℕ → Type 0
RightAsFar most n t dist = (x y d : ℕ) → x < n → y < n → d ≤ most → (distance dist n x y ≡ d) ↔ Distance (Bonded t) x y d

abbrev pub Ends : ℕ → List ℕ → Type 0
Ends n table = (x i j : ℕ) → x < n → i < j → j < places → n ≤ word table x i → n ≤ word table x j
