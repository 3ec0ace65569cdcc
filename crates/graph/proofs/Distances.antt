-- Distance is unique and the same both ways; and walks, which may meet a vertex again, give the same distance as paths.
use mathlib.Core.Path.{◌≡◌, refl, sym, ◌∙◌, subst}
use mathlib.Core.Logic.{inl, inr, ◌↔◌}
use Prim.Native.Nat.{ℕ, zero, suc, ◌+◌, ◌-◌, ◌≤◌, ◌<◌}
use native.Mathlib.Nat.{zero-add, suc-add}
use native.Mathlib.Numerals.{add-one}
use native.Mathlib.Decide.{dec_le}
use native.Mathlib.Omega.{arith}
use Rattle.graph.specs.Graph.{Walk, via, Path, Distance, Tells, Nearest}

module _ {Vertex : Type 0} (Bonded : Vertex → Vertex → Type 0) where
  pub walk_join : (m n : ℕ) (x y z : Vertex) → Walk Bonded m x y → Walk Bonded n y z → Walk Bonded (m + n) x z
  walk_join zero n x y z e w = rw (zero-add, e) w
  walk_join (suc m) n x y z w v = rw suc-add (w.0, w.1, walk_join m n w.0 y z w.2 v)

  pub first_part : (n : ℕ) (x y : Vertex) (w : Walk Bonded n x y) (i : ℕ) → i ≤ n → Walk Bonded i x (via Bonded n x y w i)
  first_part zero x y w zero l = refl
  first_part zero x y w (suc i) l = absurd (omega arith)
  first_part (suc n) x y w zero l = refl
  first_part (suc n) x y w (suc i) l = (w.0, w.1, first_part n w.0 y w.2 i (omega arith))

  pub last_part : (n : ℕ) (x y : Vertex) (w : Walk Bonded n x y) (i : ℕ) → i ≤ n → Walk Bonded (n - i) (via Bonded n x y w i) y
  last_part zero x y w zero l = w
  last_part zero x y w (suc i) l = absurd (omega arith)
  last_part (suc n) x y w zero l = subst (λ k. Walk Bonded k x y) (let f : suc n ≡ suc n - 0 = omega arith in f) w
  last_part (suc n) x y w (suc i) l =
      subst (λ k. Walk Bonded k (via Bonded n w.0 y w.2 i) y) (let f : n - i ≡ suc n - suc i = omega arith in f)
      (last_part n w.0 y w.2 i (omega arith))

  pub via_in : (P : Vertex → Type 0) → ((x y : Vertex) → Bonded x y → P y) → (n : ℕ) (x y : Vertex) (w : Walk Bonded n x y) → P x → (i : ℕ) → P (via Bonded n x y w i)
  via_in P into zero x y w h i = h
  via_in P into (suc n) x y w h zero = h
  via_in P into (suc n) x y w h (suc i) = via_in P into n w.0 y w.2 (into x w.0 w.1) i

  -- a walk that meets a vertex again can be shortened
  shortcut : (n : ℕ) (x y : Vertex) (w : Walk Bonded n x y) (i j : ℕ) → i < j → j ≤ n → via Bonded n x y w i ≡ via Bonded n x y w j → Walk Bonded (i + (n - j)) x y
  shortcut n x y w i j l k e =
      walk_join i (n - j) x (via Bonded n x y w i) y (first_part n x y w i (omega arith))
      (subst (λ z. Walk Bonded (n - j) z y) (sym e) (last_part n x y w j k))

  -- a walk than which there is no shorter one is a path
  pub least_walk_path : (n : ℕ) (x y : Vertex) → ((m : ℕ) → m < n → Walk Bonded m x y → ⊥) → Walk Bonded n x y → Path Bonded n x y
  least_walk_path n x y none w = record { walk = w; different = λ i j l k e. none (i + (n - j)) (omega arith) (shortcut n x y w i j l k e) }

  -- where no path is as short as b bonds, no walk is
  no_walk_below : (b : ℕ) (x y : Vertex) → ((n : ℕ) → n < b → Path Bonded n x y → ⊥) → (n : ℕ) → n < b → Walk Bonded n x y → ⊥
  no_walk_below zero x y none n l w = omega arith
  no_walk_below (suc b) x y none n l w =
      none n l (least_walk_path n x y (λ m k. no_walk_below b x y (λ i h. none i (omega arith)) m (omega arith)) w)

  pub no_path_no_walk : (x y : Vertex) → ((n : ℕ) → Path Bonded n x y → ⊥) → (n : ℕ) → Walk Bonded n x y → ⊥
  no_path_no_walk x y none n = no_walk_below (suc n) x y (λ i l. none i) n (omega arith)

  pub nearest_of : (x y : Vertex) (d : ℕ) → Distance Bonded x y d → Nearest Bonded x y d
  nearest_of x y d h = record { walk = h.path.walk; least = λ n w. low n w (dec_le d n) }
    where
      low : (n : ℕ) → Walk Bonded n x y → Dec (d ≤ n) → d ≤ n
      low n w (yes l) = l
      low n w (no l) = absurd (no_walk_below d x y (λ i k p. omega (arith, h.least i p)) n (omega arith) w)

  pub distance_of : (x y : Vertex) (d : ℕ) → Nearest Bonded x y d → Distance Bonded x y d
  distance_of x y d h = record {
    path = least_walk_path d x y (λ m l w. omega (arith, h.least m w)) h.walk;
    least = λ n p. h.least n p.walk;
  }

  -- walks and paths give the same distance
  pub walks_serve : (x y : Vertex) (d : ℕ) → Distance Bonded x y d ↔ Nearest Bonded x y d
  walks_serve x y d = (nearest_of x y d, distance_of x y d)

  pub distance_unique : (x y : Vertex) (c d : ℕ) → Distance Bonded x y c → Distance Bonded x y d → c ≡ d
  distance_unique x y c d h k = omega (arith, h.least d k.path, k.least c h.path)

  pub tells_unique : (far : ℕ) (x y : Vertex) (c d : ℕ) → Tells Bonded far x y c → Tells Bonded far x y d → c ≡ d
  tells_unique far x y c d (inl h) (inl k) = distance_unique x y c d h.1 k.1
  tells_unique far x y c d (inl h) (inr k) = absurd (k.1 c h.1.path)
  tells_unique far x y c d (inr h) (inl k) = absurd (h.1 d k.1.path)
  tells_unique far x y c d (inr h) (inr k) = h.0 ∙ sym k.0

  -- at distance 0 is the vertex itself, and at distance 1 what is bonded to it
  pub distance_0 : (x y : Vertex) (d : ℕ) → Distance Bonded x y d → x ≡ y → d ≡ 0
  distance_0 x y d h e = omega (arith, (nearest_of x y d h).least 0 e)

  pub distance_1 : (x y : Vertex) (d : ℕ) → d ≡ 1 → Distance Bonded x y d → Bonded x y
  distance_1 x y d e h = let w = subst (λ n. Walk Bonded n x y) e h.path.walk in subst (λ z. Bonded x z) w.2 w.1

  module _ (back : (x y : Vertex) → Bonded x y → Bonded y x) where
    pub walk_back : (n : ℕ) (x y : Vertex) → Walk Bonded n x y → Walk Bonded n y x
    walk_back zero x y e = sym e
    walk_back (suc n) x y w =
        subst (λ k. Walk Bonded k y x) (add-one n)
        (walk_join n 1 y w.0 x (walk_back n w.0 y w.2) (x, back x w.0 w.1, refl))

    pub distance_back : (x y : Vertex) (d : ℕ) → Distance Bonded x y d → Distance Bonded y x d
    distance_back x y d h =
        let m = nearest_of x y d h in
        distance_of y x d (record { walk = walk_back d x y m.walk; least = λ n w. m.least n (walk_back n y x w) })

-- walks that grow, and end, by a bond
module _ {Vertex : Type 0} (Bonded : Vertex → Vertex → Type 0) where
  pub walk_longer : (n : ℕ) (x y z : Vertex) → Walk Bonded n x y → Bonded y z → Walk Bonded (suc n) x z
  walk_longer n x y z w b = subst (λ k. Walk Bonded k x z) (add-one n) (walk_join Bonded n 1 x y z w (z, b, refl))

  pub walk_last : (n : ℕ) (x z : Vertex) → Walk Bonded (suc n) x z → (y : Vertex) × Walk Bonded n x y × Bonded y z
  walk_last zero x z w = (x, refl, subst (λ y. Bonded x y) w.2 w.1)
  walk_last (suc n) x z w = let r = walk_last n w.0 z w.2 in (r.0, (w.0, w.1, r.1), r.2)
