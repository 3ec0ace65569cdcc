-- In a network of atoms 0 .. size - 1 every distance is below size, and the levels tell it.
use mathlib.Core.Path.{◌≡◌, sym, subst}
use mathlib.Core.Logic.{◌⊎◌, inl, inr}
use mathlib.Core.List.{List, [], ◌∷◌}
use Prim.Native.Nat.{ℕ, suc, ◌-◌, ◌≤◌, ◌<◌}
use native.Mathlib.Omega.{arith}
use lib.Dec.{eqb, eqb→eq, eqb_refl}
use Rattle.graph.specs.Graph.{Walk, via, Distance, Tells}
use Rattle.graph.specs.Finite.{BondedBy, FiniteNetwork}
use Rattle.graph.specs.Levels.{hit, levels}
use Rattle.graph.proofs.Distances.{via_in}
use Rattle.graph.proofs.Levels.{walk_from, hit_distance, hit_never, find}
use Rattle.graph.proofs.Pigeons.{pigeons}

module _ (size : ℕ) (adj : ℕ → List ℕ) (N : FiniteNetwork size adj) where
  pub distance_small : (x y d : ℕ) → x < size → Distance (BondedBy adj) x y d → d < size
  distance_small x y d l h =
      pigeons size (suc d) (via (BondedBy adj) d x y h.path.walk)
      (λ i k. via_in (BondedBy adj) (λ z. z < size) N.inside d x y h.path.walk l i)
      (λ i j k m. h.path.different i j k (omega arith))

  -- there is a shortest path, of fewer bonds than there are atoms, or there is no path at all
  pub reached : (x y : ℕ) → x < size → ((d : ℕ) × (d < size) × Distance (BondedBy adj) x y d) ⊎ ((m : ℕ) → Walk (BondedBy adj) m x y → ⊥)
  reached x y l = go (find eqb eqb→eq eqb_refl adj x y size)
    where
      go : ((d : ℕ) × (d < size) × Distance (BondedBy adj) x y d) ⊎ ((i : ℕ) → i < size → Walk (BondedBy adj) i x y → ⊥)
          → ((d : ℕ) × (d < size) × Distance (BondedBy adj) x y d) ⊎ ((m : ℕ) → Walk (BondedBy adj) m x y → ⊥)
      go (inl h) = inl h
      go (inr h) = inr (λ m w. none m w (find eqb eqb→eq eqb_refl adj x y (suc m)))
        where
          none : (m : ℕ) → Walk (BondedBy adj) m x y → ((d : ℕ) × (d < suc m) × Distance (BondedBy adj) x y d) ⊎ ((i : ℕ) → i < suc m → Walk (BondedBy adj) i x y → ⊥) → ⊥
          none m w (inl k) = h k.0 (distance_small x y k.0 l k.2) k.2.path.walk
          none m w (inr k) = k m (omega arith) w

  -- breadth-first levels, as many as there are atoms, tell the distance, or that there is no path
  pub levels_tell : (far x y : ℕ) → x < size → size ≤ far → Tells (BondedBy adj) far x y (hit eqb far (levels eqb adj size (x ∷ [])) 0 y)
  levels_tell far x y l f = go (reached x y l)
    where
      go : ((d : ℕ) × (d < size) × Distance (BondedBy adj) x y d) ⊎ ((m : ℕ) → Walk (BondedBy adj) m x y → ⊥) → Tells (BondedBy adj) far x y (hit eqb far (levels eqb adj size (x ∷ [])) 0 y)
      go (inl h) =
          let whole : suc (size - 1) ≡ size = omega arith in
          let e : hit eqb far (levels eqb adj size (x ∷ [])) 0 y ≡ h.0 =
          subst (λ n. hit eqb far (levels eqb adj n (x ∷ [])) 0 y ≡ h.0) whole
          ((hit_distance eqb eqb→eq eqb_refl adj far (size - 1) x y h.0 (omega (arith, h.1)) (omega arith)).1 h.2) in
          inl (omega (arith, e, h.1), subst (λ d. Distance (BondedBy adj) x y d) (sym e) h.2)
      go (inr h) = inr (
        hit_never eqb eqb→eq eqb_refl adj far size 0 (x ∷ []) y (λ i k m. h i (walk_from eqb eqb→eq eqb_refl adj i x y m)),
        λ n p. h n p.walk,
      )
