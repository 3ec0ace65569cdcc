-- A chain of checks says one answer: the links of the search and of a file.
use mathlib.Core.Path.{◌≡◌, sym, ◌∙◌, subst}
use mathlib.Core.Logic.{◌⊎◌, inl, inr}
use mathlib.Core.List.{List}
use Prim.Native.Nat.{ℕ, ◌<◌}
use Rattle.graph.proofs.Listings.{ring_listing_unique}
use Rattle.network.specs.declared.Answer.{Answer}
use Rattle.network.specs.Network.{Bonded}
use Rattle.network.specs.Chain.{Answers, OneAnswer}
use Rattle.network.proofs.FirstFaults.{same_place, same_answer}
use Rattle.network.proofs.Chains.{one_link}
use Rattle.census.specs.Census.{limit_of}
use Rattle.bonds.specs.Bonds.{Bond, Ninth}
use Rattle.bnw.specs.FirstBond.{Misplaced, NamesFirstBond}
use Rattle.demands.specs.Refusals.{OfRings}
use Rattle.demands.specs.FileRefusals.{Bonds}

pub one_of_rings : (t : List ℕ) (limit : ℕ) (Later : List (List ℕ) → Answers) → ((rings : List (List ℕ)) → OneAnswer (Later rings)) → OneAnswer (OfRings t limit Later)
one_of_rings t limit Later one a b h k =
    one k.0 a b (subst (λ (rings : List (List ℕ)). Later rings a) (ring_listing_unique (Bonded t) (limit_of limit) h.0 k.0 h.1 k.1) h.2) k.2

-- the first fault of a file's bonds
module _ (n : ℕ) (bond : ℕ → Bond) (m : ℕ) where
  at_fault : (a : Answer) → NamesFirstBond n bond m a → (Misplaced n bond a.place → ⊥) × (Ninth bond a.place → ⊥) → ⊥
  at_fault a h none = elim h.there [ inl f ↦ none.0 f.1 | inr f ↦ none.1 f.2 ]

  one_fault : OneAnswer (NamesFirstBond n bond m)
  one_fault a b h k = same_answer a b (number h.there k.there) (h.row ∙ sym k.row) at
    where
      at : a.place ≡ b.place
      at = same_place a.place b.place (λ l. at_fault a h (k.first a.place l)) (λ l. at_fault b k (h.first b.place l))

      number : ((a.code ≡ 26) × Misplaced n bond a.place) ⊎ ((a.code ≡ 27) × (Misplaced n bond a.place → ⊥) × Ninth bond a.place)
          → ((b.code ≡ 26) × Misplaced n bond b.place) ⊎ ((b.code ≡ 27) × (Misplaced n bond b.place → ⊥) × Ninth bond b.place) → a.code ≡ b.code
      number (inl f) (inl g) = f.0 ∙ sym g.0
      number (inl f) (inr g) = absurd (g.1 (subst (Misplaced n bond) at f.1))
      number (inr f) (inl g) = absurd (f.1 (subst (Misplaced n bond) (sym at) g.1))
      number (inr f) (inr g) = f.0 ∙ sym g.0

  pub one_bonds : (Later : Answers) → OneAnswer Later → OneAnswer (Bonds n bond m Later)
  unfolding Bonds
  one_bonds Later = one_link (NamesFirstBond n bond m) ((k : ℕ) → k < m → (Misplaced n bond k → ⊥) × (Ninth bond k → ⊥)) Later one_fault (λ a h none. at_fault a h (none a.place h.place))
