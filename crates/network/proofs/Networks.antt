-- The verdict is the answer that the chain of its checks says: it accepts the networks, and nothing else.
use mathlib.Core.Path.{◌≡◌, refl, sym, ◌∙◌, ap}
use mathlib.Core.Logic.{◌↔◌}
use mathlib.Core.Bool.{Bool, true, false}
use mathlib.Core.List.{List}
use Prim.Native.Nat.{ℕ, ◌*◌}
use lib.ListN.{length}
use Rattle.network.specs.declared.Answer.{Answer}
use Rattle.network.specs.Maxima.{places}
use Rattle.network.specs.Network.{Counted, IsNetwork}
use Rattle.network.specs.Verdict.{accepted, check, not_atoms, not_long, sizes, faults, verdict}
use Rattle.network.specs.Chain.{Sizes, Table, Accepted}
use Rattle.network.proofs.Verdicts.{sizes_kept, sized, faults_kept}
use Rattle.network.proofs.FaultlessTables.{faultless_of}
use Rattle.network.proofs.Chains.{sizes_say, sizes_passed, table_says, table_passed}

pub verdict_says : (n : ℕ) (t : List ℕ) → Sizes n t (λ Later. Later) (Table n t Accepted) (verdict n t)
unfolding verdict
verdict_says n t = sizes_say n t _ _ λ C w. table_says n t accepted Accepted C w (λ _. refl)

abbrev code : Answer → ℕ
code a = a.code

module _ (n : ℕ) (t : List ℕ) where
  pub network_of : (verdict n t).code ≡ 0 → IsNetwork n t
  network_of z = (table_passed n t Accepted _ (sizes_passed n t _ _ (verdict_says n t) z).2 z).0

  pub verdict_faults : Counted n → length t ≡ places * n → verdict n t ≡ faults n t accepted
  unfolding verdict
  verdict_faults c h = sized n t c h (faults n t accepted)

  -- where the verdict refuses, what comes later is not asked; on a network it decides
  pub verdict_kept : (later : Answer) → ((verdict n t).code ≡ 0 → ⊥) → sizes n t (λ b. b) (faults n t later) ≡ verdict n t
  unfolding sizes verdict
  verdict_kept later z = go (not_atoms n) (not_long t (places * n)) z
    where
      go : (b d : Bool) → ((check 1 b (check 4 d (faults n t accepted))).code ≡ 0 → ⊥) → check 1 b (check 4 d (faults n t later)) ≡ check 1 b (check 4 d (faults n t accepted))
      go true d z = refl
      go false true z = refl
      go false false z = faults_kept n t later z

  pub verdict_passed : (later : Answer) → IsNetwork n t → sizes n t (λ b. b) (faults n t later) ≡ later
  verdict_passed later N = sized n t N.counted N.whole (faults n t later) ∙ faultless_of n t N later

  pub accepted_of : IsNetwork n t → verdict n t ≡ accepted
  unfolding verdict
  accepted_of = verdict_passed accepted

  -- the verdict is 0 exactly on networks, and then the answer is `accepted`
  pub network_exactly : ((verdict n t).code ≡ 0) ↔ IsNetwork n t
  network_exactly = (network_of, λ N. ap code (accepted_of N))

-- the sizes, and what comes after them
module _ (n : ℕ) (t : List ℕ) (a : Answer) (e : a ≡ sizes n t (λ b. b) accepted) where
  module _ (z : a.code ≡ 0) where
    right : Counted n × (length t ≡ places * n) × Accepted (sizes n t (λ b. b) accepted)
    right = sizes_passed n t Accepted _ (sizes_say n t accepted Accepted (λ _ _. refl)) (ap code (sym e) ∙ z)

    pub right_atoms : Counted n
    right_atoms = right.0

    pub right_table : length t ≡ places * n
    right_table = right.1

  pub wrong_sizes : (a.code ≡ 0 → ⊥) → (later : Answer) → a ≡ sizes n t (λ b. b) later
  wrong_sizes z later = e ∙ sym (sizes_kept n t later (λ y. z (ap code e ∙ y)))

  pub says_sizes : (a.code ≡ 0 → ⊥) → a ≡ verdict n t
  unfolding verdict
  says_sizes z = wrong_sizes z (faults n t accepted)

  pub says_faults : (r : Answer) → a.code ≡ 0 → r ≡ faults n t accepted → r ≡ verdict n t
  says_faults r z h = h ∙ sym (verdict_faults n t (right_atoms z) (right_table z))
