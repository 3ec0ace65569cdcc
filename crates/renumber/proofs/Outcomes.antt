-- The verdict as a chain of its checks, when a call is accepted, and the outcome at each way through the checks.
use Rattle.std.proofs.Common.{◌≡◌, refl, sym, ◌∙◌, ap, ◌↔◌, true, false, ◌||◌, List, ℕ, ◌*◌, arith, length}
use native.Mathlib.Decide.{ℕ_discrete}
use Rattle.network.specs.declared.Answer.{Answer}
use Rattle.network.specs.Maxima.{places}
use Rattle.network.specs.Network.{IsNetwork}
use Rattle.network.specs.Verdict.{accepted, refusal, not_long, sizes, faults, verdict}
use Rattle.network.specs.Chain.{Check, Sizes, Table, PlaceByPlace, Accepted}
use Rattle.network.proofs.Verdicts.{not_long_lem, long, sized}
use Rattle.network.proofs.Chains.{check_says, check_passed, sizes_say, sizes_passed, table_says, table_passed}
use Rattle.network.proofs.Networks.{network_of, verdict_kept, verdict_passed, right_atoms, right_table, wrong_sizes}
use Rattle.names.specs.Names.{OneToOne, BadName, name_faults}
use Rattle.renumber.specs.Outcome.{renumber_verdict, Renumbered, RenumberOutcome}
use Rattle.names.proofs.NameFaults.{names_say, one_to_one_of, accepted_names}

abbrev code : Answer → ℕ
code a = a.code

pub is_network : (n : ℕ) (t : List ℕ) (a : Answer) → a ≡ verdict n t → a.code ≡ 0 → IsNetwork n t
is_network n t a h z = network_of n t (ap code (sym h) ∙ z)

pub is_one_to_one : (n : ℕ) (names : List ℕ) (a : Answer) → length names ≡ n → a ≡ name_faults n names (length names) 0 accepted → a.code ≡ 0 → OneToOne n names
is_one_to_one n names a l h z = one_to_one_of n names l (ap code (sym h) ∙ z)

module _ (n : ℕ) (t names before : List ℕ) where
  -- 6
  abbrev Lengths : Type 0
  Lengths = (length names ≡ n) × (length before ≡ places * n)

  lengths : Dec Lengths
  lengths = go (ℕ_discrete (length names) n) (ℕ_discrete (length before) (places * n))
    where
      go : Dec (length names ≡ n) → Dec (length before ≡ places * n) → Dec Lengths
      go (yes v) (yes u) = yes (v, u)
      go (yes v) (no u) = no (λ h. u h.1)
      go (no v) _ = no (λ h. v h.0)

  lengths_right : Lengths → (not_long names n || not_long before (places * n)) ≡ false
  lengths_right h = rw (long names n h.0, long before (places * n) h.1) refl

  lengths_wrong : (Lengths → ⊥) → (not_long names n || not_long before (places * n)) ≡ true
  lengths_wrong h = go (ℕ_discrete (length names) n) (ℕ_discrete (length before) (places * n))
    where
      go : Dec (length names ≡ n) → Dec (length before ≡ places * n) → (not_long names n || not_long before (places * n)) ≡ true
      go (yes v) (yes u) = absurd (h (v, u))
      go (yes v) (no u) = rw (long names n v, not_long_lem before (places * n) u) refl
      go (no v) _ = rw (not_long_lem names n v) refl

  -- all that an answer can be
  pub renumber_says : Sizes n t (λ Later. Later) (Check 6 ((length names ≡ n) × (length before ≡ places * n)) (Table n t (PlaceByPlace 18 (BadName n names) n Accepted))) (renumber_verdict n t names before)
  unfolding renumber_verdict
  renumber_says =
      sizes_say n t _ _ λ C w. check_says 6 (not_long names n || not_long before (places * n)) _ Lengths _ lengths lengths_right lengths_wrong λ h.
      table_says n t _ _ C w (λ _. names_say n names h.0)

  at_rest : Lengths → renumber_verdict n t names before ≡ sizes n t (λ b. b) (faults n t (name_faults n names (length names) 0 accepted))
  unfolding renumber_verdict
  at_rest h = rw (lengths_right h) refl

  -- a call is accepted exactly when the table is a network, the names are one-to-one, and the lent table has its length
  pub accepts : ((renumber_verdict n t names before).code ≡ 0) ↔ (IsNetwork n t × OneToOne n names × (length before ≡ places * n))
  accepts = (there, λ h. ap code (at_rest (h.1.long, h.2) ∙ verdict_passed n t _ h.0 ∙ accepted_names n names h.1.long h.1))
    where
      there : (renumber_verdict n t names before).code ≡ 0 → IsNetwork n t × OneToOne n names × (length before ≡ places * n)
      there z =
          let six = check_passed 6 Lengths _ _ (omega arith) (sizes_passed n t _ _ renumber_says z).2 z in
          let N = (table_passed n t _ _ six.1 z).0 in
          (N, one_to_one_of n names six.0.0 (ap code (sym (at_rest six.0 ∙ verdict_passed n t _ N)) ∙ z), six.0.1)

  -- the outcome; s is the answer of the sizes
  module _ (a : Answer) where
    refused_with : a ≡ renumber_verdict n t names before → (a.code ≡ 0 → ⊥) → RenumberOutcome n t names before before a
    refused_with e z = record { answer = e; refused = λ _. refl; renumbered = λ y. absurd (z y) }

    pub out_sizes : a ≡ sizes n t (λ b. b) accepted → (a.code ≡ 0 → ⊥) → RenumberOutcome n t names before before a
    unfolding renumber_verdict
    out_sizes e z = refused_with (wrong_sizes n t a e z _) z

    module _ (s : Answer) (e : s ≡ sizes n t (λ b. b) accepted) (z : s.code ≡ 0) where
      pub out_6 : (Lengths → ⊥) → a ≡ refusal 6 → RenumberOutcome n t names before before a
      unfolding renumber_verdict
      out_6 l h = refused_with (h ∙ sym (sized n t (right_atoms n t s e z) (right_table n t s e z) _ ∙ rw (lengths_wrong l) refl)) (omega (arith, ap code h))

    module _ (v : length names ≡ n) (u : length before ≡ places * n) where
      pub out_faults : a ≡ verdict n t → (a.code ≡ 0 → ⊥) → RenumberOutcome n t names before before a
      out_faults h y = refused_with (h ∙ sym (at_rest (v, u) ∙ verdict_kept n t _ (λ k. y (ap code h ∙ k)))) y

      module _ (b : Answer) (g : b ≡ verdict n t) (clean : b.code ≡ 0) (h : a ≡ name_faults n names (length names) 0 accepted) where
        as_names : a ≡ renumber_verdict n t names before
        as_names = h ∙ sym (at_rest (v, u) ∙ verdict_passed n t _ (is_network n t b g clean))

        pub out_18 : (a.code ≡ 0 → ⊥) → RenumberOutcome n t names before before a
        out_18 = refused_with as_names

        pub out_renumbered : (after : List ℕ) → a.code ≡ 0 → Renumbered n t names after → RenumberOutcome n t names before after a
        out_renumbered after y R = record { answer = as_names; refused = λ k. absurd (k y); renumbered = λ _. R }
