-- What comes of each call, as its contract has it, meets what is demanded.
use mathlib.Core.Path.{◌≡◌, refl, sym, ◌∙◌, ap, subst}
use mathlib.Core.List.{List}
use Prim.Native.Nat.{ℕ, ◌*◌}
use native.Mathlib.Omega.{arith}
use lib.ListN.{length, drop}
use lib.Seq.{drop_at}
use borrow.Author.Tests.{eq-eqb, ne_eqb}
use Rattle.network.specs.declared.Answer.{Answer}
use Rattle.network.specs.Maxima.{places}
use Rattle.network.specs.Verdict.{verdict}
use Rattle.network.proofs.Networks.{network_of, verdict_says}
use Rattle.distance.specs.Outcome.{DistancesOutcome}
use Rattle.distance.proofs.Outcomes.{distances_says}
use Rattle.candidate_faults.proofs.FirstPlaces.{candidate_says}
use Rattle.candidate.specs.Told.{Tested}
use Rattle.candidate.specs.CandidateOutcome.{CandidateOutcome}
use Rattle.census.specs.Told.{Census}
use Rattle.census.specs.Census.{CountOutcome, ListOutcome}
use Rattle.census.proofs.Settled.{reached}
use Rattle.renumber.specs.Outcome.{RenumberOutcome}
use Rattle.renumber.proofs.Outcomes.{renumber_says}
use Rattle.bonds.specs.declared.Reading.{Reading}
use Rattle.bonds.specs.Bonds.{table_of}
use Rattle.bonds.proofs.Partners.{table_length}
use Rattle.bonds.proofs.Readings.{read_network}
use Rattle.bnw.specs.declared.FileWritten.{FileWritten}
use Rattle.bnw.specs.Reading.{atoms_in, bonds_in, ReadOutcome}
use Rattle.bnw.specs.Writing.{WriteOutcome}
use Rattle.bnw.proofs.Writings.{write_says}
use Rattle.bnw.proofs.HeadFaults.{value_22, value_23, value_else}
use Rattle.molfile.specs.Judging.{molfile_value, MolfileOutcome}
use Rattle.molfile.proofs.Laws.{bonded_exactly}
use Rattle.demands.specs.Refusals.{ValidateSays, DistancesSays, CandidateSays, RenumberSays, WriteSays}
use Rattle.demands.specs.FileRefusals.{ReadSays}
use Rattle.demands.specs.MolfileRefusals.{ReadMolfileSays}
use Rattle.demands.specs.Calls.{ValidateMet, DistancesMet, CandidateMet, CountMet, ListMet, RenumberMet, WriteMet, ReadMet, ReadMolfileMet}
use Rattle.demands.proofs.SearchRefusals.{count_says, list_says, count_leaves, list_leaves}
use Rattle.demands.proofs.FileRefusals.{read_says}
use Rattle.demands.proofs.MolfileRefusals.{read_molfile_says}
use Rattle.demands.proofs.Rings.{accepted_count, accepted_listing}

module _ (n : ℕ) (t : List ℕ) where
  pub validate_met : (a : Answer) → a ≡ verdict n t → ValidateMet n t a
  validate_met a h = record {
    gives = subst (ValidateSays n t) (sym h) (verdict_says n t);
    refused = λ z. tt;
    done = λ z. network_of n t (ap (λ (x : Answer). x.code) (sym h) ∙ z);
  }

  pub distances_met : (dist dist' : List ℕ) (a : Answer) → DistancesOutcome n t dist dist' a → DistancesMet n t dist dist' a
  distances_met dist dist' a h = record {
    gives = subst (DistancesSays n t dist) (sym h.answer) (distances_says n t dist);
    refused = h.refused;
    done = h.filled;
  }

  pub candidate_met : (r dist dist' : List ℕ) (c : Tested) → CandidateOutcome n t r dist dist' c → CandidateMet n t r dist dist' c
  candidate_met r dist dist' c h = record {
    gives = subst (CandidateSays n t r dist) (sym h.answer) (candidate_says n t r dist);
    refused = h.refused;
    done = λ z. (h.filled z, h.says z);
  }

  module _ (limit allowance : ℕ) (dist dist' : List ℕ) where
    pub count_met : (c : Census) → CountOutcome n t limit allowance dist dist' c → CountMet n t limit allowance dist dist' c
    count_met c h = record {
      gives = count_says n t limit allowance dist dist' c h;
      refused = count_leaves n t limit allowance dist dist' c h;
      done = λ z. ((reached h z).filled, accepted_count n t limit allowance dist dist' c h z);
    }

    pub list_met : (list list' : List ℕ) (c : Census) → ListOutcome n t limit allowance dist dist' list list' c → ListMet n t limit allowance dist dist' list list' c
    list_met list list' c h = record {
      gives = list_says n t limit allowance dist dist' list list' c h;
      refused = λ z. (list_leaves n t limit allowance dist dist' list list' c h z, h.kept z);
      done = λ z. ((reached h.census z).filled, accepted_listing n t limit allowance dist dist' list list' c h z);
    }

  pub renumber_met : (names renamed renamed' : List ℕ) (a : Answer) → RenumberOutcome n t names renamed renamed' a → RenumberMet n t names renamed renamed' a
  renumber_met names renamed renamed' a h = record {
    gives = subst (RenumberSays n t names renamed) (sym h.answer) (renumber_says n t names renamed);
    refused = h.refused;
    done = h.renumbered;
  }

  pub write_met : (file file' : List ℕ) (w : FileWritten) → WriteOutcome n t file file' w → WriteMet n t file file' w
  write_met file file' w h = record {
    gives = subst (WriteSays n t file) (sym h.verdict) (write_says n t (length file));
    refused = h.refused;
    done = λ z. (h.number z, h.written z);
  }

pub read_met : (file table table' : List ℕ) (r : Reading) → ReadOutcome file table table' r → ReadMet file table table' r
read_met file table table' r h = record {
  gives = subst (ReadSays file table) (sym h.verdict) (read_says file table);
  refused = λ z. record {
    atoms = (h.refused z).0;
    bonds = (h.refused z).1;
    stays = (h.refused z).2;
    value_22 = λ e. h.signs ∙ sym (value_22 file r.answer.code e (atoms_in file) refl);
    value_23 = λ e. h.signs ∙ sym (value_23 file r.answer.code (λ g. omega (arith, e, g)) e (bonds_in file) refl);
    value_else = λ e f. h.signs ∙ sym (value_else file r.answer.code e f);
  };
  done = λ z. (h.accepts z, h.signs ∙ sym (value_else file r.answer.code (λ e. omega (arith, z, e)) (λ e. omega (arith, z, e))));
}

-- a molfile's
pub read_molfile_met : (file table table' : List ℕ) (r : Reading) → MolfileOutcome file table table' r → ReadMolfileMet file table table' r
unfolding molfile_value
read_molfile_met file table table' r h = record {
  gives = subst (ReadMolfileSays file table) (sym h.verdict) (read_molfile_says file table);
  refused = λ z. record {
    atoms = (h.refused z).0;
    bonds = (h.refused z).1;
    stays = (h.refused z).2;
    value_22 = λ e. h.signs ∙ rw (eq-eqb r.answer.code 22 e) refl;
    value_else = λ e. h.signs ∙ rw (ne_eqb r.answer.code 22 e) refl;
  };
  done = λ z.
      let A = h.accepts z in
      record {
        atoms = A.gives.atoms;
        bonds = A.number ∙ A.gives.number;
        value = h.signs ∙ rw (ne_eqb r.answer.code 22 (λ e. omega (arith, z, e))) refl;
        network = read_network h z;
        bonded = bonded_exactly file table table' r h z;
        rest = ap (drop (places * r.atoms)) A.filled ∙ drop_at (table_of r.atoms A.list) (drop (places * r.atoms) table) (places * r.atoms) (table_length A.list A.valid.eight r.atoms);
      };
}
