-- The bytes of a table's bonds, written word by word.
use Rattle.std.proofs.Common.{◌≡◌, refl, sym, ◌∙◌, ap, List, [], ◌∷◌, ℕ, ◌+◌, ◌*◌, ◌/◌, ◌≤◌, arith, length, get_or, length-append}
use Rattle.std.proofs.lemmas.List.Edits.{sets}
use Rattle.graph.specs.Lists.{gather, numbers_from}
use Rattle.network.specs.Maxima.{places}
use Rattle.bonds.specs.Bonds.{Bond, bond, bond_at, bonds_of}
use Rattle.bonds.proofs.Runs.{gather_more, gather_append, length_more, sets_after}
use Rattle.bnw.specs.File.{bond_bytes, head_length, bond_length, two_bytes, mark, version, head_of}

-- a bond written, or none
module _ (t : List ℕ) (i at : ℕ) where
  module _ (none : bond_at t i ≡ []) where
    pub none_past : at ≡ at + bond_length * length (bond_at t i)
    none_past = rw none (omega arith)

    pub none_written : (l : List ℕ) → l ≡ sets l at (gather bond_bytes (bond_at t i))
    none_written l = rw none

  module _ (one : bond_at t i ≡ bond (i / places) (get_or t i 0) ∷ []) where
    pub bond_past : at + bond_length ≡ at + bond_length * length (bond_at t i)
    bond_past = rw one

    pub bond_written : (l m o : List ℕ) → m ≡ sets l at (two_bytes (i / places)) → o ≡ sets m (at + 2) (two_bytes (get_or t i 0)) → o ≡ sets l at (gather bond_bytes (bond_at t i))
    bond_written l m o d h = rw one (h ∙ sets_after l m at (at + 2) (two_bytes (i / places)) (two_bytes (get_or t i 0)) d refl)

pub bytes_length : (bonds : List Bond) → length (gather bond_bytes bonds) ≡ bond_length * length bonds
bytes_length [] = refl
bytes_length (b ∷ bonds) = length-append (bond_bytes b) (gather bond_bytes bonds) ∙ omega (arith, bytes_length bonds)

-- the bonds written, word by word
module _ (t : List ℕ) where
  pub past_more : (i at r : ℕ) → at ≡ head_length + bond_length * length (gather (bond_at t) (numbers_from i 0)) → r ≡ at + bond_length * length (bond_at t i)
      → r ≡ head_length + bond_length * length (gather (bond_at t) (numbers_from (i + 1) 0))
  past_more i at r e d = omega (arith, length_more (bond_at t) i)

  pub written_more : (l m o : List ℕ) (i at : ℕ) → at ≡ head_length + bond_length * length (gather (bond_at t) (numbers_from i 0)) → m ≡ sets l head_length (gather bond_bytes (gather (bond_at t) (numbers_from i 0)))
      → o ≡ sets m at (gather bond_bytes (bond_at t i)) → o ≡ sets l head_length (gather bond_bytes (gather (bond_at t) (numbers_from (i + 1) 0)))
  written_more l m o i at e d h =
      h ∙ sets_after l m head_length at (gather bond_bytes (gather (bond_at t) (numbers_from i 0))) (gather bond_bytes (bond_at t i)) d (omega (arith, bytes_length (gather (bond_at t) (numbers_from i 0))))
      ∙ ap (sets l head_length) (sym (ap (gather bond_bytes) (gather_more (bond_at t) i) ∙ gather_append bond_bytes (gather (bond_at t) (numbers_from i 0)) (bond_at t i)))

  pub written_done : (l m : List ℕ) (i : ℕ) → i ≤ length t → length t ≤ i → m ≡ sets l head_length (gather bond_bytes (gather (bond_at t) (numbers_from i 0))) → m ≡ sets l head_length (gather bond_bytes (bonds_of t))
  unfolding bonds_of
  written_done l m i h k e = let d : length t ≡ i = omega arith in rw d e

-- the head
pub head_written : (l a b c d : List ℕ) (n m : ℕ) → a ≡ sets l 0 mark → b ≡ sets a 3 (two_bytes version) → c ≡ sets b 5 (two_bytes n) → d ≡ sets c 7 (two_bytes m) → d ≡ sets l 0 (head_of n m)
head_written l a b c d n m e f g h = rw (h, g, f, e)
