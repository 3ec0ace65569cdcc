-- What comes of reading, whatever the format.
--
--   table_is        accepted, the table of the bonds stands first in the table lent
--   read_network    it is the table of a network
--   rows_inside     the rows read are part of the table
--   readings_one    two outcomes of reading a file into a table are the same
use Rattle.std.proofs.Common.{◌≡◌, sym, ◌∙◌, ap, ap₂, subst, List, ◌++◌, ℕ, ◌*◌, ◌≤◌, arith, ℤ, length, take, drop, length-append, take_at}
use native.Mathlib.Decide.{ℕ_discrete}
use Rattle.network.specs.declared.Answer.{Answer}
use Rattle.network.specs.Maxima.{places}
use Rattle.network.specs.Network.{IsNetwork}
use Rattle.bonds.specs.declared.Reading.{Reading}
use Rattle.bonds.specs.Bonds.{Bond, table_of}
use Rattle.bonds.specs.Outcome.{GivesOne, ReadingOutcome}
use Rattle.bonds.proofs.Partners.{table_length}
use Rattle.bonds.proofs.Tables.{table_network}

module _ {says : Answer} {value : ℕ → ℤ} {Gives : ℕ → List Bond → Type 0} {before after : List ℕ} {r : Reading} (R : ReadingOutcome says value Gives before after r) where
  pub table_is : (z : r.answer.code ≡ 0) → take (places * r.atoms) after ≡ table_of r.atoms (R.accepts z).list
  table_is z =
      let A = R.accepts z in
      ap (take (places * r.atoms)) A.filled
      ∙ take_at (table_of r.atoms A.list) (drop (places * r.atoms) before) (places * r.atoms) (table_length A.list A.valid.eight r.atoms)

  pub read_network : r.answer.code ≡ 0 → IsNetwork r.atoms (take (places * r.atoms) after)
  read_network z = let A = R.accepts z in subst (IsNetwork r.atoms) (sym (table_is z)) (table_network r.atoms A.list A.counted A.valid)

  pub rows_inside : places * r.atoms ≤ length after
  rows_inside = go (ℕ_discrete r.answer.code 0)
    where
      go : Dec (r.answer.code ≡ 0) → places * r.atoms ≤ length after
      go (no z) = omega (arith, (R.refused z).0)
      go (yes z) =
          let A = R.accepts z in
          omega (arith, ap length A.filled, length-append (table_of r.atoms A.list) (drop (places * r.atoms) before), table_length A.list A.valid.eight r.atoms)

abbrev code : Answer → ℕ
code a = a.code

abbrev reading : Answer → ℕ → ℕ → ℤ → Reading
reading a n m v = record { answer = a; atoms = n; bonds = m; value = v }

pub readings_one : {says : Answer} {value : ℕ → ℤ} {Gives : ℕ → List Bond → Type 0} {before one other : List ℕ} {r s : Reading}
    → GivesOne Gives → ReadingOutcome says value Gives before one r → ReadingOutcome says value Gives before other s → (r ≡ s) × (one ≡ other)
readings_one {value = value} {before = before} {one = one} {other = other} {r = r} {s = s} single R S = go (ℕ_discrete r.answer.code 0)
  where
    answers : r.answer ≡ s.answer
    answers = R.verdict ∙ sym S.verdict

    values : r.value ≡ s.value
    values = R.signs ∙ ap (λ (a : Answer). value a.code) answers ∙ sym S.signs

    same : r.atoms ≡ s.atoms → r.bonds ≡ s.bonds → r ≡ s
    same n m = ap₂ (λ (a : Answer) (k : ℕ). reading a k r.bonds r.value) answers n ∙ ap₂ (λ (k : ℕ) (v : ℤ). reading s.answer s.atoms k v) m values

    go : Dec (r.answer.code ≡ 0) → (r ≡ s) × (one ≡ other)
    go (no z) =
        let p = R.refused z in
        let q = S.refused (λ h. z (ap code answers ∙ h)) in
        (same (p.0 ∙ sym q.0) (p.1 ∙ sym q.1), p.2 ∙ sym q.2)
    go (yes z) =
        let p = R.accepts z in
        let q = S.accepts (sym (ap code answers) ∙ z) in
        let e = single r.atoms s.atoms p.list q.list p.valid q.valid p.gives q.gives in (
          same e.0 (p.number ∙ ap length e.1 ∙ sym q.number),
          p.filled ∙ ap₂ (λ (n : ℕ) (bonds : List Bond). table_of n bonds ++ drop (places * n) before) e.0 e.1 ∙ sym q.filled,
        )
