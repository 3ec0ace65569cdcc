-- Networks given by the list of each vertex's neighbours.
--
--   BondedBy adj x y            y is among the neighbours of x
--   FiniteNetwork size adj      of atoms 0 .. size - 1: neighbours are atoms, bonds are answered, and each list ascends
use Rattle.std.specs.Prelude.{List, ℕ, ◌<◌}
use Rattle.graph.specs.Lists.{◌∈◌, Ascending}

abbrev pub BondedBy : {Vertex : Type 0} → (Vertex → List Vertex) → Vertex → Vertex → Type 0
BondedBy adj x y = y ∈ adj x

pub record FiniteNetwork (size : ℕ) (adj : ℕ → List ℕ) : Type 0 where
  pub inside : (x y : ℕ) → BondedBy adj x y → y < size
  pub back : (x y : ℕ) → BondedBy adj x y → BondedBy adj y x
  pub ascends : (x : ℕ) → Ascending ◌<◌ (adj x)
