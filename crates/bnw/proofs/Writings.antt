-- What comes of writing, at each way through the checks.
use Rattle.std.proofs.Common.{◌≡◌, refl, sym, ◌∙◌, ap, List, ◌++◌, ℕ, ◌+◌, ◌*◌, ◌≤◌, ◌<◌, arith, ltb, length, drop, lt-ltb, le-ltb}
use native.Mathlib.Decide.{ℕ_discrete}
use Rattle.std.proofs.lemmas.List.Edits.{sets}
use Rattle.graph.specs.Lists.{gather}
use Rattle.network.specs.declared.Answer.{Answer}
use Rattle.network.specs.Maxima.{atoms_most, places}
use Rattle.network.specs.Network.{IsNetwork}
use Rattle.network.specs.Verdict.{verdict, check, accepted, refusal}
use Rattle.network.specs.Chain.{Check, Sizes, Table, Accepted}
use Rattle.network.proofs.Chains.{check_most, sizes_say, table_says}
use Rattle.network.proofs.Networks.{network_of, accepted_of, verdict_kept, verdict_passed}
use Rattle.bonds.specs.Bonds.{Bond, bonds_of}
use Rattle.bonds.proofs.Runs.{sets_after}
use Rattle.bnw.specs.File.{file_of, head_of, bond_bytes, head_length, bond_length}
use Rattle.bnw.specs.Writing.{write_verdict, WriteOutcome}
use Rattle.graph.proofs.Lists.{sets_front}
use Rattle.bnw.proofs.WrittenBonds.{bytes_length}

pub file_length : (n : ℕ) (bonds : List Bond) → length (file_of n bonds) ≡ head_length + bond_length * length bonds
unfolding file_of
file_length n bonds = omega (arith, bytes_length bonds)

abbrev code : Answer → ℕ
code a = a.code

module _ (n : ℕ) (t : List ℕ) (room : ℕ) where
  pub network_judged : IsNetwork n t → write_verdict n t room ≡ check 28 (ltb room (length (file_of n (bonds_of t)))) accepted
  unfolding write_verdict
  network_judged = verdict_passed n t _

  pub refused_judged : ((verdict n t).code ≡ 0 → ⊥) → verdict n t ≡ write_verdict n t room
  unfolding write_verdict
  refused_judged z = sym (verdict_kept n t _ z)

  -- all that an answer can be
  pub write_says : Sizes n t (λ Later. Later) (Table n t (Check 28 (length (file_of n (bonds_of t)) ≤ room) Accepted)) (write_verdict n t room)
  unfolding write_verdict
  write_says = sizes_say n t _ _ λ C w. table_says n t _ _ C w λ _. check_most 28 room (length (file_of n (bonds_of t))) accepted Accepted (λ _. refl)

  -- what is written is a network
  pub writes_network : (write_verdict n t room).code ≡ 0 → IsNetwork n t
  writes_network h = elim (ℕ_discrete (verdict n t).code 0) [ yes z ↦ network_of n t z | no z ↦ absurd (z (ap code (refused_judged z) ∙ h)) ]

-- what an accepted table bounds
module _ (n : ℕ) (t : List ℕ) (a : Answer) (e : a ≡ verdict n t) (z : a.code ≡ 0) where
  pub network : IsNetwork n t
  network = network_of n t (sym (ap code e) ∙ z)

  pub few_atoms : n ≤ atoms_most
  few_atoms = network.counted.most

  pub few_words : length t ≤ places * atoms_most
  few_words = omega (arith, few_atoms, network.whole)

module _ (n : ℕ) (t before : List ℕ) (a : Answer) (e : a ≡ verdict n t) where
  pub writes_refused : (a.code ≡ 0 → ⊥) → WriteOutcome n t before before (record { answer = a; bytes = 0 })
  writes_refused z = record {
    verdict = e ∙ refused_judged n t (length before) (λ h. z (ap code e ∙ h));
    refused = λ _. (refl, refl);
    number = λ h. absurd (z h);
    written = λ h. absurd (z h);
  }

  module _ (z : a.code ≡ 0) (bonds : ℕ) (eb : bonds ≡ length (bonds_of t)) where
    right : IsNetwork n t
    right = network n t a e z

    needed : head_length + bond_length * bonds ≡ length (file_of n (bonds_of t))
    needed = omega (arith, file_length n (bonds_of t))

    pub writes_short : (r : Answer) → r ≡ refusal 28 → length before < head_length + bond_length * bonds → WriteOutcome n t before before (record { answer = r; bytes = 0 })
    writes_short r er h =
        let l : length before < length (file_of n (bonds_of t)) = omega (arith, needed) in
        record {
          verdict = er ∙ sym (network_judged n t (length before) right ∙ rw (lt-ltb _ _ l));
          refused = λ _. (refl, refl);
          number = λ d. absurd (omega (arith, ap code er));
          written = λ d. absurd (omega (arith, ap code er));
        }

    module _ (m o : List ℕ) (h : head_length + bond_length * bonds ≤ length before) (f : m ≡ sets before 0 (head_of n bonds)) (g : o ≡ sets m head_length (gather bond_bytes (bonds_of t))) where
      whole : o ≡ file_of n (bonds_of t) ++ drop (length (file_of n (bonds_of t))) before
      unfolding file_of
      whole =
          g ∙ sets_after before m 0 head_length (head_of n bonds) (gather bond_bytes (bonds_of t)) f refl
          ∙ sets_front before (head_of n bonds ++ gather bond_bytes (bonds_of t)) (omega (arith, bytes_length (bonds_of t)))
          ∙ rw eb refl

      pub writes_all : WriteOutcome n t before o (record { answer = a; bytes = head_length + bond_length * bonds })
      writes_all =
          let l : length (file_of n (bonds_of t)) ≤ length before = omega (arith, needed) in
          record {
            verdict = e ∙ accepted_of n t right ∙ sym (network_judged n t (length before) right ∙ rw (le-ltb _ _ l));
            refused = λ d. absurd (d z);
            number = λ _. needed;
            written = λ _. whole ∙ ap (λ (k : ℕ). file_of n (bonds_of t) ++ drop k before) (sym needed);
          }
