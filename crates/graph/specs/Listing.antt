-- The order of rings and the list of them (document 01, "The rings").
--
--   Lex _≺_ r s              the vertex at the first place where r and s differ is smaller in r
--   Before _≺_ r s           list order: shorter rings first, equal lengths by the first vertex that differs
--   Listing _≺_ Wanted xs    xs holds exactly the wanted, in strictly ascending order, so each of them once
--   Listed Bonded o Written limit r    r is a shortest-path ring of at most limit vertices, in its one writing, which Written tells
--   RingListing Bonded limit xs    xs is the listing of those rings of a network of atoms
use Rattle.std.specs.Prelude.{◌≡◌, ◌⊎◌, List, [], ◌∷◌, ℕ, ◌≤◌, ◌<◌, length}
use Rattle.graph.specs.Lists.{◌∈◌, Ascending}
use Rattle.graph.specs.Graph.{ShortestPathRing}
use Rattle.graph.specs.Writing.{OneWriting}

module _ {Vertex : Type 0} (◌≺◌ : Vertex → Vertex → Type 0) where
  infix 50 ◌≺◌
  abbrev pub Lex : List Vertex → List Vertex → Type 0
  Lex [] s = ⊥
  Lex (x ∷ r) [] = ⊥
  Lex (x ∷ r) (y ∷ s) = (x ≺ y) ⊎ ((x ≡ y) × Lex r s)

  abbrev pub Before : List Vertex → List Vertex → Type 0
  Before r s = (length r < length s) ⊎ ((length r ≡ length s) × Lex r s)

pub record Listing {A : Type 0} (◌≺◌ : A → A → Type 0) (Wanted : A → Type 0) (xs : List A) : Type 0 where
  pub sound : (a : A) → a ∈ xs → Wanted a
  pub complete : (a : A) → Wanted a → a ∈ xs
  pub ascending : Ascending ◌≺◌ xs

module _ {Vertex : Type 0} (Bonded : Vertex → Vertex → Type 0) (o : Vertex) (Written : List Vertex → Type 0) where
  pub record Listed (limit : ℕ) (r : List Vertex) : Type 0 where
    pub within : length r ≤ limit
    pub shortest : ShortestPathRing Bonded o r
    pub written : Written r

abbrev pub RingListing : (ℕ → ℕ → Type 0) → ℕ → List (List ℕ) → Type 0
RingListing Bonded limit = Listing (Before ◌<◌) (Listed Bonded 0 OneWriting limit)
