-- Demand 2 holds of files.
use mathlib.Core.Path.{◌≡◌, refl, sym, ◌∙◌, ap}
use mathlib.Core.List.{List}
use Prim.Native.Nat.{ℕ, ◌*◌, ◌≤◌}
use native.Mathlib.Omega.{arith}
use native.Mathlib.Decide.{ℕ_discrete}
use lib.ListN.{length, take, drop, length-append}
use borrow.Author.Tests.{le-ltb}
use Rattle.network.specs.declared.Answer.{Answer}
use Rattle.network.specs.Maxima.{places}
use Rattle.bonds.specs.Bonds.{bonds_of}
use Rattle.bonds.proofs.Returns.{bonds_back}
use Rattle.bonds.proofs.Readings.{table_is, read_network}
use Rattle.bnw.specs.declared.FileWritten.{FileWritten}
use Rattle.bnw.specs.File.{file_of}
use Rattle.bnw.specs.Reading.{ReadOutcome}
use Rattle.bnw.specs.Writing.{WriteOutcome}
use Rattle.bnw.proofs.Writings.{file_length, network_judged}
use Rattle.bnw.proofs.RoundTrips.{read_write, write_read}
use Rattle.molfile.specs.Judging.{MolfileOutcome}
use Rattle.demands.specs.declared.ReadAndWritten.{ReadAndWritten}
use Rattle.demands.specs.declared.ReadAndWrittenAndRead.{ReadAndWrittenAndRead}
use Rattle.demands.specs.Files.{rows_read, ReadThenWrite, WriteThenRead, MolfileThenFile}
use Rattle.demands.proofs.Meets.{read_met, read_molfile_met, write_met}

-- the bytes written are part of the file
pub bytes_inside : (n : ℕ) (t file file' : List ℕ) (w : FileWritten) → WriteOutcome n t file file' w → w.bytes ≤ length file'
bytes_inside n t file file' w W = go (ℕ_discrete w.answer.code 0)
  where
    go : Dec (w.answer.code ≡ 0) → w.bytes ≤ length file'
    go (no z) = omega (arith, (W.refused z).0)
    go (yes z) = omega (arith, ap length (W.written z), length-append (file_of n (bonds_of t)) (drop w.bytes file), W.number z)

pub read_then_write : (file table table' lent lent' : List ℕ) (r : ReadAndWritten) → ReadOutcome file table table' r.reading
    → WriteOutcome r.reading.atoms (rows_read r.reading table') lent lent' r.writing → ReadThenWrite file table table' lent lent' r
read_then_write file table table' lent lent' r R W = record {
  read = read_met file table table' r.reading R;
  written = write_met r.reading.atoms (rows_read r.reading table') lent lent' r.writing W;
  network = read_network R;
  back = λ z h. (let back = read_write file table table' r.reading R z lent lent' r.writing W h in (back.0, back.2));
}

pub write_then_read : (n : ℕ) (t file file' table table' : List ℕ) (r : ReadAndWritten) → WriteOutcome n t file file' r.writing
    → ReadOutcome (take r.writing.bytes file') table table' r.reading → WriteThenRead n t file file' table table' r
write_then_read n t file file' table table' r W R = record {
  written = write_met n t file file' r.writing W;
  read = read_met (take r.writing.bytes file') table table' r.reading R;
  back = λ z h.
      let back = write_read n t file file' r.writing W z table table' r.reading R h in
      (back.0, back.1, ap (λ (k : ℕ). take (places * k) table') back.1 ∙ back.3);
}

pub molfile_then_file : (file table table' lent lent' again again' : List ℕ) (r : ReadAndWrittenAndRead) → MolfileOutcome file table table' r.reading
    → WriteOutcome r.reading.atoms (rows_read r.reading table') lent lent' r.writing → ReadOutcome (take r.writing.bytes lent') again again' r.again
    → MolfileThenFile file table table' lent lent' again again' r
molfile_then_file file table table' lent lent' again again' r R W A = record {
  read = read_molfile_met file table table' r.reading R;
  written = write_met r.reading.atoms (rows_read r.reading table') lent lent' r.writing W;
  read_again = read_met (take r.writing.bytes lent') again again' r.again A;
  back = λ z h k.
      let n = r.reading.atoms in
      let t = rows_read r.reading table' in
      let F = R.accepts z in
      let bonds : length (bonds_of t) ≡ r.reading.bonds = ap length (ap bonds_of (table_is R z) ∙ bonds_back n F.list F.counted F.valid) ∙ sym F.number in
      let fits : length (file_of n (bonds_of t)) ≤ length lent = omega (arith, file_length n (bonds_of t), bonds, h) in
      let done : r.writing.answer.code ≡ 0 =
      ap (λ (a : Answer). a.code) (W.verdict ∙ network_judged n t (length lent) (read_network R z)) ∙ rw (le-ltb (length lent) (length (file_of n (bonds_of t))) fits) refl in
      let same = write_read n t lent lent' r.writing W done again again' r.again A k in
      (done, same.0, same.1, same.2 ∙ bonds, ap (λ (j : ℕ). take (places * j) again') same.1 ∙ same.3);
}
