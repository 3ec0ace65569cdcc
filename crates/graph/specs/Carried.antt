-- Rings under new names (demand 3), over any vertex, any notion of the same ring (Same) and any writing (Written).
--
--   Renaming Bonded Bonded' f g          f renames the vertices of one network, g names them back; both carry bonds to bonds
--   WritingOf Same Written r s           s is the one writing of the ring r
--   KeptBy Same Written f xs ys mark mark'    a number that a ring keeps: mark' of each ring of ys is mark of the ring of xs whose new name it is
--   CarriedTo Same Written f xs ys       the rings of ys are those of xs under the names f, each in its one writing; every number that a ring
--                                        keeps is had by as many rings, and adds up to the same
use Rattle.std.specs.Prelude.{◌≡◌, ◌↔◌, List, map, ℕ, length}
use Rattle.graph.specs.Lists.{◌∈◌}
use Rattle.graph.specs.Counts.{having, sum_of}

pub record Renaming {A B : Type 0} (Bonded : A → A → Type 0) (Bonded' : B → B → Type 0) (f : A → B) (g : B → A) : Type 0 where
  pub there : (x y : A) → Bonded x y → Bonded' (f x) (f y)
  pub home : (x y : B) → Bonded' x y → Bonded (g x) (g y)
  pub undone : (x y : A) → Bonded x y → g (f x) ≡ x

module _ {Vertex : Type 0} (Same : List Vertex → List Vertex → Type 0) (Written : List Vertex → Type 0) where
  abbrev pub WritingOf : List Vertex → List Vertex → Type 0
  WritingOf r s = Same r s × Written s

  abbrev pub KeptBy : (Vertex → Vertex) → List (List Vertex) → List (List Vertex) → (List Vertex → ℕ) → (List Vertex → ℕ) → Type 0
  KeptBy f xs ys mark mark' = (r s : List Vertex) → r ∈ xs → s ∈ ys → WritingOf (map f r) s → mark' s ≡ mark r

  pub record CarriedTo (f : Vertex → Vertex) (xs ys : List (List Vertex)) : Type 0 where
    -- what stands in ys is exactly what is carried there
    pub exactly : (s : List Vertex) → (s ∈ ys) ↔ ((r : List Vertex) × (r ∈ xs) × WritingOf (map f r) s)
    -- each ring of xs is carried to one of ys, and no two to the same
    pub one : (r : List Vertex) → r ∈ xs → (s : List Vertex) × (s ∈ ys) × WritingOf (map f r) s × ((u : List Vertex) → WritingOf (map f r) u → u ≡ s)
    pub once : (r q s : List Vertex) → r ∈ xs → q ∈ xs → WritingOf (map f r) s → WritingOf (map f q) s → r ≡ q
    -- as many rings, and as many of each mark that they keep
    pub total : length xs ≡ length ys
    pub marks : (mark mark' : List Vertex → ℕ) → KeptBy f xs ys mark mark' → (k : ℕ) → having mark k xs ≡ having mark' k ys
    pub sums : (mark mark' : List Vertex → ℕ) → KeptBy f xs ys mark mark' → sum_of mark xs ≡ sum_of mark' ys
