-- The renumbered table is one only, and so is the outcome of a call.
use Rattle.std.proofs.Common.{◌≡◌, sym, ◌∙◌, ap, subst₂, List, ℕ}
use native.Mathlib.Decide.{ℕ_discrete}
use Rattle.network.specs.declared.Answer.{Answer}
use Rattle.network.specs.Network.{Bonded}
use Rattle.network.proofs.Bonds.{bonded_from, bonded_to, network_unique}
use Rattle.names.specs.Names.{OneToOne}
use Rattle.renumber.specs.Outcome.{Renumbered, RenumberOutcome}
use Rattle.names.proofs.Naming.{named}
use Rattle.renumber.proofs.Outcomes.{accepts}

module _ (n : ℕ) (t names : List ℕ) (O : OneToOne n names) where
  pub renumbered_unique : (u v : List ℕ) → Renumbered n t names u → Renumbered n t names v → u ≡ v
  renumbered_unique u v R S = network_unique n u v R.network S.network (λ x y. (over u v R S x y, over v u S R x y))
    where
      over : (u v : List ℕ) → Renumbered n t names u → Renumbered n t names v → (x y : ℕ) → Bonded u x y → Bonded v x y
      over u v R S x y b =
          let i = named n names O x (bonded_from n u R.network x y b) in
          let j = named n names O y (bonded_to n u R.network x y b) in
          subst₂ (λ p q. Bonded v p q) i.2 j.2
          ((S.bonds i.0 j.0 i.1 j.1).1 ((R.bonds i.0 j.0 i.1 j.1).0 (subst₂ (λ p q. Bonded u p q) (sym i.2) (sym j.2) b)))

pub one_outcome : (n : ℕ) (t names before after after' : List ℕ) (a a' : Answer)
    → RenumberOutcome n t names before after a → RenumberOutcome n t names before after' a' → (a ≡ a') × (after ≡ after')
one_outcome n t names before after after' a a' H K = (same, go (ℕ_discrete a.code 0))
  where
    same : a ≡ a'
    same = H.answer ∙ sym K.answer

    code : a.code ≡ a'.code
    code = ap (λ (x : Answer). x.code) same

    go : Dec (a.code ≡ 0) → after ≡ after'
    go (yes z) =
        renumbered_unique n t names ((accepts n t names before).0 (ap (λ (x : Answer). x.code) (sym H.answer) ∙ z)).1 after after' (H.renumbered z) (K.renumbered (sym code ∙ z))
    go (no z) = H.refused z ∙ sym (K.refused (λ y. z (code ∙ y)))
