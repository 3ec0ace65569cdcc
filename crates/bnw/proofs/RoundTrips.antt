-- Reading and writing are each other's way back, and each contract admits one outcome.
--
--   file_gives_one    a file gives one network
--   read_write        an accepted file, read and written again, gives the same bytes
--   write_read        an accepted network, written and read again, gives the same table, atoms and bonds
--   accepted_exactly  a file is accepted exactly when it is what writing makes of a network for which there is room
--   reads_one         two outcomes of reading a file into a table are the same
--   writes_one        two outcomes of writing a network into bytes are the same
use Rattle.std.proofs.Common.{◌≡◌, refl, sym, ◌∙◌, ap, ap₂, ◌↔◌, List, ◌++◌, ℕ, ◌*◌, ◌≤◌, arith, length, take, drop, take_at, le-ltb}
use native.Mathlib.Decide.{ℕ_discrete}
use Rattle.network.specs.declared.Answer.{Answer}
use Rattle.network.specs.Maxima.{places}
use Rattle.network.specs.Network.{IsNetwork}
use Rattle.bonds.specs.declared.Reading.{Reading}
use Rattle.bonds.specs.Bonds.{Bond, table_of, bonds_of, bonds_below}
use Rattle.bonds.specs.Outcome.{GivesOne}
use Rattle.bonds.proofs.Tables.{table_network}
use Rattle.bonds.proofs.Returns.{bonds_valid, table_back, bonds_back}
use Rattle.bonds.proofs.Readings.{table_is, read_network, readings_one}
use Rattle.bnw.specs.declared.FileWritten.{FileWritten}
use Rattle.bnw.specs.File.{file_of}
use Rattle.bnw.specs.Reading.{field, bond_in, read_verdict, IsFile, ReadOutcome}
use Rattle.bnw.specs.Writing.{WriteOutcome, FileOfNetwork}
use Rattle.bnw.proofs.Writings.{network_judged, writes_network}
use Rattle.bnw.proofs.Decoded.{atoms_field, bonds_field, bonds_read}
use Rattle.bnw.proofs.Accepted.{file_accepted, file_fits}

abbrev code : Answer → ℕ
code a = a.code

-- the file gives its atoms and its bonds
pub file_atoms : (n m : ℕ) (bonds more : List Bond) → file_of n bonds ≡ file_of m more → n ≡ m
file_atoms n m bonds more e = sym (atoms_field n bonds) ∙ ap (λ (file : List ℕ). field file 5) e ∙ atoms_field m more

pub file_bonds : (n m : ℕ) (bonds more : List Bond) → file_of n bonds ≡ file_of m more → bonds ≡ more
file_bonds n m bonds more e =
    sym (bonds_read n bonds) ∙ ap₂ (λ (file : List ℕ) (k : ℕ). bonds_below (bond_in file) k) e (sym (bonds_field n bonds) ∙ ap (λ (file : List ℕ). field file 7) e ∙ bonds_field m more) ∙ bonds_read m more

-- and so a file gives one network
pub file_gives_one : (file : List ℕ) → GivesOne (IsFile file)
file_gives_one file n m bonds more B C e d = let same = sym e ∙ d in (file_atoms n m bonds more same, file_bonds n m bonds more same)

-- an accepted reading
module _ (file before after : List ℕ) (r : Reading) (R : ReadOutcome file before after r) (z : r.answer.code ≡ 0) where
  same_file : file_of r.atoms (bonds_of (take (places * r.atoms) after)) ≡ file
  same_file =
      let A = R.accepts z in
      ap (λ (t : List ℕ). file_of r.atoms (bonds_of t)) (table_is R z) ∙ ap (file_of r.atoms) (bonds_back r.atoms A.list A.counted A.valid) ∙ sym A.gives

  pub read_write : (lent written : List ℕ) (w : FileWritten) → WriteOutcome r.atoms (take (places * r.atoms) after) lent written w → length file ≤ length lent
      → (w.answer.code ≡ 0) × (w.bytes ≡ length file) × (take w.bytes written ≡ file)
  read_write lent written w W h =
      let e : length (file_of r.atoms (bonds_of (take (places * r.atoms) after))) ≡ length file = ap length same_file in
      let ok : w.answer.code ≡ 0 = ap code (W.verdict ∙ network_judged r.atoms (take (places * r.atoms) after) (length lent) (read_network R z)) ∙ rw (le-ltb (length lent) (length (file_of r.atoms (bonds_of (take (places * r.atoms) after)))) (omega (arith, e))) refl in (
        ok,
        W.number ok ∙ e,
        ap (take w.bytes) (W.written ok) ∙ take_at (file_of r.atoms (bonds_of (take (places * r.atoms) after))) (drop w.bytes lent) w.bytes (sym (W.number ok)) ∙ same_file,
      )

-- an accepted writing
module _ (n : ℕ) (t lent written : List ℕ) (w : FileWritten) (W : WriteOutcome n t lent written w) (z : w.answer.code ≡ 0) where
  pub file_is : take w.bytes written ≡ file_of n (bonds_of t)
  file_is = ap (take w.bytes) (W.written z) ∙ take_at (file_of n (bonds_of t)) (drop w.bytes lent) w.bytes (sym (W.number z))

  network : IsNetwork n t
  network = writes_network n t (length lent) (sym (ap code W.verdict) ∙ z)

  pub write_read : (before after : List ℕ) (r : Reading) → ReadOutcome (take w.bytes written) before after r → places * n ≤ length before
      → (r.answer.code ≡ 0) × (r.atoms ≡ n) × (r.bonds ≡ length (bonds_of t)) × (take (places * n) after ≡ t)
  write_read before after r R h =
      let ok : r.answer.code ≡ 0 =
      ap code (R.verdict ∙ ap (λ (file : List ℕ). read_verdict file (length before)) file_is ∙ file_accepted n (bonds_of t) network.counted (bonds_valid n t network) (length before) h) in
      let a = R.accepts ok in
      let e : file_of r.atoms a.list ≡ file_of n (bonds_of t) = sym a.gives ∙ file_is in
      let same : r.atoms ≡ n = file_atoms r.atoms n a.list (bonds_of t) e in
      let bonds : a.list ≡ bonds_of t = file_bonds r.atoms n a.list (bonds_of t) e in (
        ok,
        same,
        a.number ∙ ap length bonds,
        ap (λ (k : ℕ). take (places * k) after) (sym same) ∙ table_is R ok ∙ ap₂ table_of same bonds ∙ table_back n t network,
      )

pub accepted_exactly : (file before after : List ℕ) (r : Reading) → ReadOutcome file before after r → (r.answer.code ≡ 0) ↔ FileOfNetwork file (length before)
accepted_exactly file before after r R = (
  λ z.
      let a = R.accepts z in
      record {
        atoms = r.atoms;
        table = table_of r.atoms a.list;
        network = table_network r.atoms a.list a.counted a.valid;
        fits = file_fits r.atoms a.list a.counted a.valid (length before) (ap code (ap (λ (f : List ℕ). read_verdict f (length before)) (sym a.gives) ∙ sym R.verdict) ∙ z);
        is_file = a.gives ∙ ap (file_of r.atoms) (sym (bonds_back r.atoms a.list a.counted a.valid));
      },
  λ F. ap code (
      R.verdict ∙ ap (λ (f : List ℕ). read_verdict f (length before)) F.is_file
      ∙ file_accepted F.atoms (bonds_of F.table) F.network.counted (bonds_valid F.atoms F.table F.network) (length before) F.fits
      ),
)

-- one outcome
pub reads_one : (file before one other : List ℕ) (r s : Reading) → ReadOutcome file before one r → ReadOutcome file before other s → (r ≡ s) × (one ≡ other)
reads_one file before one other r s = readings_one (file_gives_one file)

abbrev writing : Answer → ℕ → FileWritten
writing a k = record { answer = a; bytes = k }

pub writes_one : (n : ℕ) (t before one other : List ℕ) (w v : FileWritten) → WriteOutcome n t before one w → WriteOutcome n t before other v → (w ≡ v) × (one ≡ other)
writes_one n t before one other w v W U = go (ℕ_discrete w.answer.code 0)
  where
    answers : w.answer ≡ v.answer
    answers = W.verdict ∙ sym U.verdict

    go : Dec (w.answer.code ≡ 0) → (w ≡ v) × (one ≡ other)
    go (no z) =
        let p = W.refused z in
        let q = U.refused (λ h. z (ap code answers ∙ h)) in
        (ap₂ writing answers (p.0 ∙ sym q.0), p.1 ∙ sym q.1)
    go (yes z) =
        let y : v.answer.code ≡ 0 = sym (ap code answers) ∙ z in
        let same : w.bytes ≡ v.bytes = W.number z ∙ sym (U.number y) in
        (ap₂ writing answers same, W.written z ∙ ap (λ (k : ℕ). file_of n (bonds_of t) ++ drop k before) same ∙ sym (U.written y))
