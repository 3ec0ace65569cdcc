-- Names that name every atom back: there are such, and renumbering by them gives the first table again.
use Rattle.std.proofs.Common.{◌≡◌, refl, sym, ◌∙◌, ap, subst₂, List, ℕ, zero, suc, ◌*◌, ◌<◌, arith, length, eq-eqb, ne_eqb}
use native.Mathlib.Decide.{ℕ_discrete}
use Rattle.std.proofs.lemmas.List.{length-map}
use Rattle.graph.specs.Lists.{numbers_from}
use Rattle.graph.proofs.Lists.{get_or_map, length_count, get_or_count}
use Rattle.network.specs.declared.Answer.{Answer}
use Rattle.network.specs.Maxima.{places}
use Rattle.network.specs.Network.{Bonded, IsNetwork}
use Rattle.network.proofs.Bonds.{bonded_from, bonded_to, network_unique}
use Rattle.names.specs.Names.{name, OneToOne}
use Rattle.renumber.specs.Outcome.{Renumbered, RenumberOutcome}
use Rattle.renumber.specs.Carried.{Inverse, atom_of, home_names}
use Rattle.names.proofs.Naming.{same_name, named}
use Rattle.renumber.proofs.Outcomes.{accepts}

atom_of_lem : (names : List ℕ) (w k x : ℕ) → x < k → name names x ≡ w → (atom_of names w k < k) × (name names (atom_of names w k) ≡ w)
unfolding atom_of
atom_of_lem names w zero x l e = absurd (omega arith)
atom_of_lem names w (suc k) x l e =
    elim (ℕ_discrete (name names k) w) [
      | yes h ↦ rw (eq-eqb _ _ h) (omega arith, h)
      | no h ↦ (let r = atom_of_lem names w k x (elim (ℕ_discrete x k) [ yes d ↦ absurd (h (rw d at e)) | no d ↦ omega arith ]) e in rw (ne_eqb _ _ h) (omega (arith, r.0), r.1))
    ]

module _ (n : ℕ) (names : List ℕ) (O : OneToOne n names) where
  pub inverse_exists : Inverse n names (home_names n names)
  unfolding home_names
  inverse_exists = record {
    long = length-map (numbers_from n 0) (λ w. atom_of names w n) ∙ length_count n 0;
    undone = λ x l.
        let r = atom_of_lem names (name names x) n x l refl in
        get_or_map (λ w. atom_of names w n) (numbers_from n 0) (name names x) 0 0 (omega (arith, length_count n 0, O.below x l))
        ∙ ap (λ (w : ℕ). atom_of names w n) (get_or_count n 0 (name names x) 0 (O.below x l) ∙ omega arith)
        ∙ same_name n names O (atom_of names (name names x) n) x r.0 l r.1;
  }

  module _ (home : List ℕ) (I : Inverse n names home) where
    pub home_below : (w : ℕ) → w < n → name home w < n
    home_below w l = let x = named n names O w l in rw (← x.2, I.undone x.0 x.1) x.1

    pub home_named : (w : ℕ) → w < n → name names (name home w) ≡ w
    home_named w l = let x = named n names O w l in ap (λ (v : ℕ). name names (name home v)) (sym x.2) ∙ ap (name names) (I.undone x.0 x.1) ∙ x.2

    pub home_one_to_one : OneToOne n home
    home_one_to_one = record {
      long = I.long;
      below = home_below;
      apart = λ x y l m e. omega (arith, home_named x (omega arith), home_named y m, ap (name names) e);
    }

    -- there and back
    module _ (t u v : List ℕ) (N : IsNetwork n t) (R : Renumbered n t names u) (S : Renumbered n u home v) where
      pub renumbered_home : v ≡ t
      renumbered_home = network_unique n v t S.network N (λ x y. (
        λ b. let l = bonded_from n v S.network x y b in let m = bonded_to n v S.network x y b in
            (R.bonds x y l m).0 ((S.bonds (name names x) (name names y) (O.below x l) (O.below y m)).0 (subst₂ (λ p q. Bonded v p q) (sym (I.undone x l)) (sym (I.undone y m)) b)),
        λ b. let l = bonded_from n t N x y b in let m = bonded_to n t N x y b in
            subst₂ (λ p q. Bonded v p q) (I.undone x l) (I.undone y m) ((S.bonds (name names x) (name names y) (O.below x l) (O.below y m)).1 ((R.bonds x y l m).1 b)),
      ))

-- the same of two calls: what one has accepted, the other accepts, and gives the first table
pub calls_home : (n : ℕ) (t names home before after before' after' : List ℕ) (a a' : Answer) → Inverse n names home → length before' ≡ places * n
    → RenumberOutcome n t names before after a → a.code ≡ 0 → RenumberOutcome n after home before' after' a' → (a'.code ≡ 0) × (after' ≡ t)
calls_home n t names home before after before' after' a a' I long H z K = (z', renumbered_home n names given.1 home I t after after' given.0 (H.renumbered z) (K.renumbered z'))
  where
    given : IsNetwork n t × OneToOne n names × (length before ≡ places * n)
    given = (accepts n t names before).0 (ap (λ (x : Answer). x.code) (sym H.answer) ∙ z)

    z' : a'.code ≡ 0
    z' = ap (λ (x : Answer). x.code) K.answer ∙ (accepts n after home before').1 ((H.renumbered z).network, home_one_to_one n names given.1 home I, long)
