-- The order of rings is strict and total, and two listings of the same things are equal.
use mathlib.Core.Path.{◌≡◌, refl, sym, ◌∙◌, ap₂, subst}
use mathlib.Core.Logic.{◌≢◌, ◌⊎◌, inl, inr}
use mathlib.Core.List.{List, [], ◌∷◌}
use Prim.Native.Nat.{ℕ, ◌<◌}
use native.Mathlib.Decide.{dec_lt, ℕ_discrete}
use native.Mathlib.Omega.{arith}
use lib.ListN.{length}
use Rattle.graph.specs.Writing.{OneWriting}
use Rattle.graph.specs.Listing.{Lex, Before, Listing, RingListing, Listed}
use Rattle.graph.proofs.Lists.{ascending_unique}

module _ {Vertex : Type 0} (◌≺◌ : Vertex → Vertex → Type 0) where
  infix 50 ◌≺◌
  module _ (total : (x y : Vertex) → (x ≺ y) ⊎ (x ≡ y) ⊎ (y ≺ x)) where
    lex_total : (r s : List Vertex) → length r ≡ length s → Lex ◌≺◌ r s ⊎ (r ≡ s) ⊎ Lex ◌≺◌ s r
    lex_total [] [] e = inr (inl refl)
    lex_total [] (y ∷ s) e = absurd (omega arith)
    lex_total (x ∷ r) [] e = absurd (omega arith)
    lex_total (x ∷ r) (y ∷ s) e = go (total x y) (lex_total r s (omega arith))
      where
        go : (x ≺ y) ⊎ (x ≡ y) ⊎ (y ≺ x) → Lex ◌≺◌ r s ⊎ (r ≡ s) ⊎ Lex ◌≺◌ s r → Lex ◌≺◌ (x ∷ r) (y ∷ s) ⊎ (x ∷ r ≡ y ∷ s) ⊎ Lex ◌≺◌ (y ∷ s) (x ∷ r)
        go (inl h) _ = inl (inl h)
        go (inr (inr h)) _ = inr (inr (inl h))
        go (inr (inl h)) (inl k) = inl (inr (h, k))
        go (inr (inl h)) (inr (inl k)) = inr (inl (ap₂ ◌∷◌ h k))
        go (inr (inl h)) (inr (inr k)) = inr (inr (inr (sym h, k)))

    pub before_total : (r s : List Vertex) → r ≢ s → Before ◌≺◌ r s ⊎ Before ◌≺◌ s r
    before_total r s n = go (ℕ_discrete (length r) (length s)) (dec_lt (length r) (length s))
      where
        equal : length r ≡ length s → Lex ◌≺◌ r s ⊎ (r ≡ s) ⊎ Lex ◌≺◌ s r → Before ◌≺◌ r s ⊎ Before ◌≺◌ s r
        equal e (inl h) = inl (inr (e, h))
        equal e (inr (inl h)) = absurd (n h)
        equal e (inr (inr h)) = inr (inr (sym e, h))

        go : Dec (length r ≡ length s) → Dec (length r < length s) → Before ◌≺◌ r s ⊎ Before ◌≺◌ s r
        go (yes e) _ = equal e (lex_total r s e)
        go (no e) (yes l) = inl (inl l)
        go (no e) (no l) = inr (inl (omega arith))

  module _ (irr : (x : Vertex) → x ≺ x → ⊥) (tr : (x y z : Vertex) → x ≺ y → y ≺ z → x ≺ z) where
    lex_irr : (r : List Vertex) → Lex ◌≺◌ r r → ⊥
    lex_irr [] h = h
    lex_irr (x ∷ r) (inl h) = irr x h
    lex_irr (x ∷ r) (inr h) = lex_irr r h.1

    lex_tr : (r s t : List Vertex) → Lex ◌≺◌ r s → Lex ◌≺◌ s t → Lex ◌≺◌ r t
    lex_tr [] s t h k = absurd h
    lex_tr (x ∷ r) [] t h k = absurd h
    lex_tr (x ∷ r) (y ∷ s) [] h k = absurd k
    lex_tr (x ∷ r) (y ∷ s) (z ∷ t) (inl h) (inl k) = inl (tr x y z h k)
    lex_tr (x ∷ r) (y ∷ s) (z ∷ t) (inl h) (inr k) = inl (subst (λ a. x ≺ a) k.0 h)
    lex_tr (x ∷ r) (y ∷ s) (z ∷ t) (inr h) (inl k) = inl (subst (λ a. a ≺ z) (sym h.0) k)
    lex_tr (x ∷ r) (y ∷ s) (z ∷ t) (inr h) (inr k) = inr (h.0 ∙ k.0, lex_tr r s t h.1 k.1)

    pub before_irr : (r : List Vertex) → Before ◌≺◌ r r → ⊥
    before_irr r (inl h) = omega arith
    before_irr r (inr h) = lex_irr r h.1

    pub before_tr : (r s t : List Vertex) → Before ◌≺◌ r s → Before ◌≺◌ s t → Before ◌≺◌ r t
    before_tr r s t (inl h) (inl k) = inl (omega arith)
    before_tr r s t (inl h) (inr k) = inl (omega (arith, k.0))
    before_tr r s t (inr h) (inl k) = inl (omega (arith, h.0))
    before_tr r s t (inr h) (inr k) = inr (h.0 ∙ k.0, lex_tr r s t h.1 k.1)

    pub listing_unique : (Wanted : List Vertex → Type 0) (xs ys : List (List Vertex)) → Listing (Before ◌≺◌) Wanted xs → Listing (Before ◌≺◌) Wanted ys → xs ≡ ys
    listing_unique Wanted xs ys f g =
        ascending_unique (Before ◌≺◌) before_irr before_tr xs ys f.ascending g.ascending
        (λ a m. g.complete a (f.sound a m)) (λ a m. f.complete a (g.sound a m))

pub less_irr : (a : ℕ) → a < a → ⊥
less_irr a h = omega arith

pub less_tr : (a b c : ℕ) → a < b → b < c → a < c
less_tr a b c h k = omega arith

-- rings of atoms: strict and total, and one list of them
pub ring_order_strict : (r : List ℕ) → Before ◌<◌ r r → ⊥
ring_order_strict = before_irr ◌<◌ less_irr less_tr

pub ring_order_total : (r s : List ℕ) → r ≢ s → Before ◌<◌ r s ⊎ Before ◌<◌ s r
ring_order_total = before_total ◌<◌ (λ x y. go x y (dec_lt x y) (ℕ_discrete x y))
  where
    go : (x y : ℕ) → Dec (x < y) → Dec (x ≡ y) → (x < y) ⊎ (x ≡ y) ⊎ (y < x)
    go x y (yes l) _ = inl l
    go x y (no l) (yes e) = inr (inl e)
    go x y (no l) (no e) = inr (inr (omega arith))

pub ring_listing_unique : (Bonded : ℕ → ℕ → Type 0) (limit : ℕ) (xs ys : List (List ℕ)) → RingListing Bonded limit xs → RingListing Bonded limit ys → xs ≡ ys
ring_listing_unique Bonded limit = listing_unique ◌<◌ less_irr less_tr (Listed Bonded 0 OneWriting limit)
