-- The outcome at each way through the checks; a call is accepted exactly on a network with a buffer of n·n bytes; the table
-- that fits is unique, and so is the outcome.
use Rattle.std.proofs.Common.{◌≡◌, refl, sym, ◌∙◌, ap, ◌↔◌, List, ℕ, ◌*◌, ◌/◌, ◌%◌, ◌≤◌, ◌<◌, mul-le-mul, div-add-mod', div-lt_iff_lt-mul, mod-lt, arith, length, ext_get_or}
use native.Mathlib.Decide.{ℕ_discrete, dec_le}
use Rattle.graph.proofs.Distances.{tells_unique}
use Rattle.network.specs.declared.Answer.{Answer}
use Rattle.network.specs.Maxima.{atoms_most}
use Rattle.network.specs.Network.{Bonded, IsNetwork}
use Rattle.network.specs.Verdict.{accepted, refusal, sizes, verdict}
use Rattle.network.specs.Chain.{Check, Sizes, Table, Accepted}
use Rattle.network.proofs.Verdicts.{not_long_lem, long, sized}
use Rattle.network.proofs.Chains.{check_long, check_passed, sizes_say, sizes_passed, table_says, table_passed}
use Rattle.network.proofs.Networks.{network_of, accepted_of, right_atoms, right_table, wrong_sizes}
use Rattle.distance.specs.Distances.{no_path, DistanceTable}
use Rattle.distance.specs.Outcome.{distance_verdict, DistancesOutcome}

pub square : (n : ℕ) → n ≤ atoms_most → n * n ≤ atoms_most * atoms_most
square n h = mul-le-mul h h

abbrev code : Answer → ℕ
code a = a.code

-- the verdict, as a chain of checks and by the validator's
module _ (n : ℕ) (t old : List ℕ) where
  pub distances_says : Sizes n t (λ Later. Later) (Check 5 (length old ≡ n * n) (Table n t Accepted)) (distance_verdict n t old)
  unfolding distance_verdict
  distances_says = sizes_say n t _ _ λ C w. check_long 5 old (n * n) _ _ λ _. table_says n t accepted Accepted C w (λ _. refl)

  verdict_rest : length old ≡ n * n → distance_verdict n t old ≡ verdict n t
  unfolding distance_verdict verdict
  verdict_rest h = rw (long old (n * n) h) refl

-- the outcome at each way through the checks
module _ (n : ℕ) (t old : List ℕ) (a : Answer) where
  refused_with : a ≡ distance_verdict n t old → (a.code ≡ 0 → ⊥) → DistancesOutcome n t old old a
  refused_with h z = record { answer = h; refused = λ _. refl; filled = λ y. absurd (z y) }

  module _ (e : a ≡ sizes n t (λ b. b) accepted) where
    pub out_sizes : (a.code ≡ 0 → ⊥) → DistancesOutcome n t old old a
    unfolding distance_verdict
    out_sizes z = refused_with (wrong_sizes n t a e z _) z

    -- refusal 5
    pub out_long : a.code ≡ 0 → (length old ≡ n * n → ⊥) → DistancesOutcome n t old old (refusal 5)
    unfolding distance_verdict
    out_long z l = record {
      answer = sym (sized n t (right_atoms n t a e z) (right_table n t a e z) _ ∙ rw (not_long_lem old (n * n) l) refl);
      refused = λ _. refl;
      filled = λ y. absurd (omega arith);
    }

  module _ (e : a ≡ verdict n t) where
    pub out_faults : length old ≡ n * n → (a.code ≡ 0 → ⊥) → DistancesOutcome n t old old a
    out_faults room = refused_with (e ∙ sym (verdict_rest n t old room))

    pub is_network : a.code ≡ 0 → IsNetwork n t
    is_network z = network_of n t (ap code (sym e) ∙ z)

    pub out_filled : a.code ≡ 0 → (new : List ℕ) → length old ≡ n * n → DistanceTable n t new → DistancesOutcome n t old new accepted
    out_filled z new room d = record {
      answer = sym (verdict_rest n t old room ∙ accepted_of n t (is_network z));
      refused = λ f. absurd (f refl);
      filled = λ _. d;
    }

-- accepted exactly on a network with a buffer of n·n bytes
module _ (n : ℕ) (t old : List ℕ) where
  pub accepted_of_distance : IsNetwork n t → length old ≡ n * n → distance_verdict n t old ≡ accepted
  accepted_of_distance N room = verdict_rest n t old room ∙ accepted_of n t N

  of_accepted : (distance_verdict n t old).code ≡ 0 → IsNetwork n t × (length old ≡ n * n)
  of_accepted z =
      let five = check_passed 5 _ _ _ (omega arith) (sizes_passed n t _ _ (distances_says n t old) z).2 z in
      ((table_passed n t Accepted _ five.1 z).0, five.0)

  pub accepted_exactly : ((distance_verdict n t old).code ≡ 0) ↔ (IsNetwork n t × (length old ≡ n * n))
  accepted_exactly = (of_accepted, λ h. ap code (accepted_of_distance h.0 h.1))

-- the table that fits is unique
pub table_unique : (n : ℕ) (t c d : List ℕ) → DistanceTable n t c → DistanceTable n t d → c ≡ d
table_unique n t c d C D = ext_get_or 0 c d (C.full ∙ sym D.full) λ i l.
    let z : 0 < n = elim (dec_le 1 n) [ yes s ↦ s | no s ↦ absurd (let e : n ≡ 0 = omega arith in omega (arith, C.full, ap (λ (m : ℕ). m * n) e)) ] in
    let x : i / n < n = (div-lt_iff_lt-mul z).1 (omega (arith, C.full)) in
    let y : i % n < n = mod-lt i z in
    let e = tells_unique (Bonded t) no_path (i / n) (i % n) _ _ (C.tells _ _ x y) (D.tells _ _ x y) in
    rw (div-add-mod' i n) at e

-- the outcome is unique
pub outcome_unique : (n : ℕ) (t before c d : List ℕ) (a b : Answer) → DistancesOutcome n t before c a → DistancesOutcome n t before d b → (a ≡ b) × (c ≡ d)
outcome_unique n t before c d a b C D =
    let e : a ≡ b = C.answer ∙ sym D.answer in (
      e,
      elim (ℕ_discrete a.code 0) [
        | yes z ↦ table_unique n t c d (C.filled z) (D.filled (ap code (sym e) ∙ z))
        | no z ↦ C.refused z ∙ sym (D.refused (λ y. z (ap code e ∙ y)))
      ],
    )
