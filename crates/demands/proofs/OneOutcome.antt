-- What is demanded of each call is met by one outcome.
use mathlib.Core.Path.{◌≡◌, refl, sym, ◌∙◌, ap, ap₂, subst}
use mathlib.Core.Logic.{inl, inr, ◌↔◌}
use mathlib.Core.List.{List, ◌++◌}
use Prim.Native.Nat.{ℕ, ◌*◌}
use native.Mathlib.Omega.{arith}
use native.Mathlib.Decide.{ℕ_discrete}
use lib.IntN.{ℤ}
use lib.ListN.{length, take, drop, take-append-drop}
use Rattle.network.specs.declared.Answer.{Answer}
use Rattle.network.specs.Maxima.{places}
use Rattle.network.specs.Network.{Bonded, IsNetwork}
use Rattle.network.specs.Chain.{Answers, OneAnswer}
use Rattle.network.proofs.Bonds.{network_unique}
use Rattle.network.proofs.Chains.{one_accepted, one_check, one_places, one_table}
use Rattle.distance.specs.Outcome.{DistancesOutcome}
use Rattle.distance.proofs.Outcomes.{distances_says, table_unique}
use Rattle.distance.proofs.Outcomes as distance_proofs
use Rattle.candidate_faults.proofs.FirstPlaces.{candidate_says}
use Rattle.candidate.specs.Told.{Tested}
use Rattle.candidate.specs.CandidateOutcome.{CandidateOutcome}
use Rattle.candidate.proofs.Outcomes as candidate
use Rattle.census.specs.Told.{Census, no_census}
use Rattle.renumber.specs.Outcome.{RenumberOutcome}
use Rattle.renumber.proofs.Outcomes.{renumber_says}
use Rattle.renumber.proofs.OneOutcome.{one_outcome}
use Rattle.bonds.specs.declared.Reading.{Reading}
use Rattle.bnw.specs.declared.FileWritten.{FileWritten}
use Rattle.bnw.specs.Reading.{atoms_in, bonds_in, read_value, ReadOutcome}
use Rattle.bnw.specs.Writing.{WriteOutcome}
use Rattle.bnw.proofs.Writings.{write_says}
use Rattle.bnw.proofs.HeadFaults.{value_22, value_23, value_else}
use Rattle.bnw.proofs.RoundTrips.{reads_one, writes_one}
use Rattle.molfile.specs.Molfile.{Paired}
use Rattle.demands.specs.Refusals.{ValidateSays, DistancesSays, CandidateSays, CountSays, ListSays, RenumberSays, WriteSays}
use Rattle.demands.specs.FileRefusals.{ReadSays}
use Rattle.demands.specs.Calls.{Met, AfterSearch, NoMolfileRead, MolfileRead, DistancesMet, CandidateMet, RenumberMet, WriteMet, ReadMet}
use Rattle.demands.specs.OneOutcome.{ValidateFixed, DistancesFixed, CandidateFixed, CountFixed, ListFixed, RenumberFixed, WriteFixed, ReadFixed, ReadMolfileFixed}
use Rattle.demands.proofs.FileRefusals.{read_says}
use Rattle.demands.proofs.MolfileRefusals.{one_molfile_answer}
use Rattle.demands.proofs.OneAnswer.{one_of_rings, one_bonds}
use Rattle.demands.proofs.OneListing.{one_count, one_listing}

both : {A B : Type 0} (o p : A × B) → (o.0 ≡ p.0) × (o.1 ≡ p.1) → o ≡ p
both {A} {B} o p h = ap₂ pair h.0 h.1
  where
    pair : A → B → A × B
    pair x y = (x, y)

three : (o p : Census × List ℕ × List ℕ) → (o.0 ≡ p.0) × (o.1 ≡ p.1) × (o.2 ≡ p.2) → o ≡ p
three o p h = ap₂ (triple o.0) h.1 h.2 ∙ ap (λ (c : Census). triple c p.1 p.2) h.0
  where
    triple : Census → List ℕ → List ℕ → Census × List ℕ × List ℕ
    triple c x y = (c, x, y)

-- where the answers are one, both are refused or both are done
alike : {a b : Answer} {Gives : Answers} {L L' D D' : Type 0} (X : Type 0) → a ≡ b → Met Gives L D a → Met Gives L' D' b → (L → L' → X) → (D → D' → X) → X
alike {a} X e M N f g =
    elim (ℕ_discrete a.code 0) [
      | yes z ↦ g (M.done z) (N.done (ap (λ (x : Answer). x.code) (sym e) ∙ z))
      | no z ↦ f (M.refused z) (N.refused (λ y. z (ap (λ (x : Answer). x.code) e ∙ y)))
    ]

pub validate_fixed : ValidateFixed
validate_fixed n t = record { answer = only; outcome = λ a b M N. only a b M.gives N.gives }
  where
    only : OneAnswer (ValidateSays n t)
    only = one_check _ _ _ (one_check _ _ _ (one_table n t _ one_accepted))

pub distances_fixed : DistancesFixed
distances_fixed n t dist = record { answer = only; outcome = λ o p M N. both o p (distance_proofs.outcome_unique n t dist o.1 p.1 o.0 p.0 (contract o.1 o.0 M) (contract p.1 p.0 N)) }
  where
    only : OneAnswer (DistancesSays n t dist)
    only = one_check _ _ _ (one_check _ _ _ (one_check _ _ _ (one_table n t _ one_accepted)))

    contract : (dist' : List ℕ) (a : Answer) → DistancesMet n t dist dist' a → DistancesOutcome n t dist dist' a
    contract dist' a M = record { answer = only a _ M.gives (distances_says n t dist); refused = M.refused; filled = M.done }

pub candidate_fixed : CandidateFixed
candidate_fixed n t r dist = record { answer = only; outcome = λ o p M N. both o p (candidate.outcome_unique n t r dist o.1 p.1 o.0 p.0 (contract o.1 o.0 M) (contract p.1 p.0 N)) }
  where
    only : OneAnswer (CandidateSays n t r dist)
    only = one_check _ _ _ (one_check _ _ _ (one_check _ _ _ (one_table n t _ (one_check _ _ _ (one_places _ _ _ _ (one_places _ _ _ _ (one_places _ _ _ _ one_accepted)))))))

    contract : (dist' : List ℕ) (c : Tested) → CandidateMet n t r dist dist' c → CandidateOutcome n t r dist dist' c
    contract dist' c M = record { answer = only c.answer _ M.gives (candidate_says n t r dist); refused = M.refused; filled = λ z. (M.done z).0; says = λ z. (M.done z).1 }

pub renumber_fixed : RenumberFixed
renumber_fixed n t names renamed = record { answer = only; outcome = λ o p M N. both o p (one_outcome n t names renamed o.1 p.1 o.0 p.0 (contract o.1 o.0 M) (contract p.1 p.0 N)) }
  where
    only : OneAnswer (RenumberSays n t names renamed)
    only = one_check _ _ _ (one_check _ _ _ (one_check _ _ _ (one_table n t _ (one_places _ _ _ _ one_accepted))))

    contract : (renamed' : List ℕ) (a : Answer) → RenumberMet n t names renamed renamed' a → RenumberOutcome n t names renamed renamed' a
    contract renamed' a M = record { answer = only a _ M.gives (renumber_says n t names renamed); refused = M.refused; renumbered = M.done }

pub write_fixed : WriteFixed
write_fixed n t file = record { answer = only; outcome = λ o p M N. both o p (writes_one n t file o.1 p.1 o.0 p.0 (contract o.1 o.0 M) (contract p.1 p.0 N)) }
  where
    only : OneAnswer (WriteSays n t file)
    only = one_check _ _ _ (one_check _ _ _ (one_table n t _ (one_check _ _ _ one_accepted)))

    contract : (file' : List ℕ) (w : FileWritten) → WriteMet n t file file' w → WriteOutcome n t file file' w
    contract file' w M = record { verdict = only w.answer _ M.gives (write_says n t (length file)); refused = M.refused; number = λ z. (M.done z).0; written = λ z. (M.done z).1 }

-- the value that goes with an answer of the reader
value_met : (file table table' : List ℕ) (r : Reading) → ReadMet file table table' r → r.value ≡ read_value file r.answer.code
value_met file table table' r M = signs (ℕ_discrete r.answer.code 0) (ℕ_discrete r.answer.code 22) (ℕ_discrete r.answer.code 23)
  where
    signs : Dec (r.answer.code ≡ 0) → Dec (r.answer.code ≡ 22) → Dec (r.answer.code ≡ 23) → r.value ≡ read_value file r.answer.code
    signs (yes z) _ _ = (M.done z).1 ∙ value_else file r.answer.code (λ e. omega (arith, z, e)) (λ e. omega (arith, z, e))
    signs (no z) (yes e) _ = (M.refused z).value_22 e ∙ value_22 file r.answer.code e (atoms_in file) refl
    signs (no z) (no e) (yes f) = (M.refused z).value_23 f ∙ value_23 file r.answer.code e f (bonds_in file) refl
    signs (no z) (no e) (no f) = (M.refused z).value_else e f ∙ value_else file r.answer.code e f

pub read_fixed : ReadFixed
read_fixed file table = record { answer = only; outcome = λ o p M N. both o p (reads_one file table o.1 p.1 o.0 p.0 (contract o.1 o.0 M) (contract p.1 p.0 N)) }
  where
    only : OneAnswer (ReadSays file table)
    only = one_check _ _ _ (one_check _ _ _ (one_check _ _ _ (one_check _ _ _ (one_check _ _ _ (one_check _ _ _ (one_check _ _ _ (one_bonds _ _ _ _ one_accepted)))))))

    contract : (table' : List ℕ) (r : Reading) → ReadMet file table table' r → ReadOutcome file table table' r
    contract table' r M = record {
      verdict = only r.answer _ M.gives (read_says file table);
      signs = value_met file table table' r M;
      refused = λ z. ((M.refused z).atoms, (M.refused z).bonds, (M.refused z).stays);
      accepts = λ z. (M.done z).0;
    }

-- a molfile is read in one way: a network's table is determined by its bonds
pub read_molfile_fixed : ReadMolfileFixed
read_molfile_fixed file table = record {
  answer = one_molfile_answer file table;
  outcome = λ o p M N.
      let same : o.0.answer ≡ p.0.answer = one_molfile_answer file table _ _ M.gives N.gives in
      both o p (alike _ same M N (refused o.0 p.0 o.1 p.1 same) (accepted o.0 p.0 o.1 p.1 same));
}
  where
    reading : Answer → ℕ → ℕ → ℤ → Reading
    reading a n m v = record { answer = a; atoms = n; bonds = m; value = v }

    parts : (r s : Reading) → r.answer ≡ s.answer → r.atoms ≡ s.atoms → r.bonds ≡ s.bonds → r.value ≡ s.value → r ≡ s
    parts r s a n m v = ap₂ (λ (b : Answer) (k : ℕ). reading b k r.bonds r.value) a n ∙ ap₂ (λ (k : ℕ) (w : ℤ). reading s.answer s.atoms k w) m v

    refused : (r s : Reading) (table' table'' : List ℕ) → r.answer ≡ s.answer → NoMolfileRead file table table' r → NoMolfileRead file table table'' s → (r ≡ s) × (table' ≡ table'')
    refused r s table' table'' a L K = (parts r s a (L.atoms ∙ sym K.atoms) (L.bonds ∙ sym K.bonds) value, L.stays ∙ sym K.stays)
      where
        code : r.answer.code ≡ s.answer.code
        code = ap (λ (b : Answer). b.code) a

        value : r.value ≡ s.value
        value = elim (ℕ_discrete r.answer.code 22) [ yes e ↦ L.value_22 e ∙ sym (K.value_22 (sym code ∙ e)) | no e ↦ L.value_else e ∙ sym (K.value_else (λ d. e (code ∙ d))) ]

    accepted : (r s : Reading) (table' table'' : List ℕ) → r.answer ≡ s.answer → MolfileRead file table table' r → MolfileRead file table table'' s → (r ≡ s) × (table' ≡ table'')
    accepted r s table' table'' a L K = (parts r s a n (L.bonds ∙ sym K.bonds) (L.value ∙ sym K.value), sym (take-append-drop (places * r.atoms) table') ∙ ap₂ ◌++◌ rows rest ∙ take-append-drop (places * r.atoms) table'')
      where
        n : r.atoms ≡ s.atoms
        n = L.atoms ∙ sym K.atoms

        other : IsNetwork r.atoms (take (places * r.atoms) table'')
        other = subst (λ (k : ℕ). IsNetwork k (take (places * k) table'')) (sym n) K.network

        bonded : (x y : ℕ) → Bonded (take (places * r.atoms) table'') x y ↔ Paired file x y
        bonded = subst (λ (k : ℕ). (x y : ℕ) → Bonded (take (places * k) table'') x y ↔ Paired file x y) (sym n) K.bonded

        rows : take (places * r.atoms) table' ≡ take (places * r.atoms) table''
        rows =
            network_unique r.atoms (take (places * r.atoms) table') (take (places * r.atoms) table'') L.network other
            (λ x y. (λ b. (bonded x y).1 ((L.bonded x y).0 b), λ b. (L.bonded x y).1 ((bonded x y).0 b)))

        rest : drop (places * r.atoms) table' ≡ drop (places * r.atoms) table''
        rest = L.rest ∙ sym (subst (λ (k : ℕ). drop (places * k) table'' ≡ drop (places * k) table) (sym n) K.rest)

-- counting or listing is refused in one way
one_refused : (n : ℕ) (t dist dist' dist'' : List ℕ) (c e : Census) → c.answer ≡ e.answer → AfterSearch n t dist dist' c → AfterSearch n t dist dist'' e → (c ≡ e) × (dist' ≡ dist'')
one_refused n t dist dist' dist'' c e same L K = (L.nothing ∙ ap no_census same ∙ sym K.nothing, left (ℕ_discrete c.answer.code 12) (ℕ_discrete c.answer.code 13))
  where
    code : c.answer.code ≡ e.answer.code
    code = ap (λ (a : Answer). a.code) same

    left : Dec (c.answer.code ≡ 12) → Dec (c.answer.code ≡ 13) → dist' ≡ dist''
    left (yes z) _ = table_unique n t dist' dist'' (L.late (inl z)) (K.late (inl (sym code ∙ z)))
    left (no y) (yes z) = table_unique n t dist' dist'' (L.late (inr z)) (K.late (inr (sym code ∙ z)))
    left (no y) (no z) = L.early (λ h. elim h [ inl q ↦ y q | inr q ↦ z q ]) ∙ sym (K.early (λ h. elim h [ inl q ↦ y (code ∙ q) | inr q ↦ z (code ∙ q) ]))

pub count_fixed : CountFixed
count_fixed n t limit allowance dist = record {
  answer = only;
  outcome = λ o p M N.
      let same : o.0.answer ≡ p.0.answer = only _ _ M.gives N.gives in
      both o p (alike _ same M N
      (one_refused n t dist o.1 p.1 o.0 p.0 same)
      (λ d e. (one_count n t limit o.0 p.0 same d.1 e.1, table_unique n t o.1 p.1 d.0 e.0)));
}
  where
    only : OneAnswer (CountSays n t limit allowance dist)
    only = one_check _ _ _ (one_check _ _ _ (one_check _ _ _ (one_check _ _ _ (one_check _ _ _ (one_table n t _ (one_of_rings t limit _ λ rings. one_check _ _ _ one_accepted))))))

pub list_fixed : ListFixed
list_fixed n t limit allowance dist list = record {
  answer = only;
  outcome = λ o p M N.
      let same : o.0.answer ≡ p.0.answer = only _ _ M.gives N.gives in
      three o p (alike _ same M N
      (λ l k. let e = one_refused n t dist o.1 p.1 o.0 p.0 same l.0 k.0 in (e.0, e.1, l.1 ∙ sym k.1))
      (λ d e. let f = one_listing n t limit list o.2 p.2 o.0 p.0 same d.1 e.1 in (f.0, table_unique n t o.1 p.1 d.0 e.0, f.1)));
}
  where
    only : OneAnswer (ListSays n t limit allowance dist list)
    only = one_check _ _ _ (one_check _ _ _ (one_check _ _ _ (one_check _ _ _ (one_check _ _ _ (one_table n t _ (one_of_rings t limit _ λ rings. one_check _ _ _ (one_check _ _ _ one_accepted)))))))
