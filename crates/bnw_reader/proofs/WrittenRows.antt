-- The rows of the table, as they are written from such a slice.
use Rattle.std.proofs.Common.{◌≡◌, refl, sym, ap, ◌∙◌, arith, append_assoc, zero-add, length-take, ℕ, suc, ◌+◌, ◌-◌, ◌*◌, ◌≤◌, ◌<◌, List, [], ◌∷◌, ◌++◌, map, length, get_or, take, drop, set, replicate, length-append, take_all, take_at, drop_at, drop-drop}
use Rattle.std.specs.List.{enumerate_from}
use Rattle.std.proofs.lemmas.List.{take_more, set_at, length-replicate}
use Rattle.std.proofs.lemmas.List.FromFn.{length-enumerate_from, get_or-enumerate_from}
use Rattle.std.proofs.lemmas.Slice.{put_mid-paste}
use borrow.Rule.Slice.PartMut.{put_mid}
use Rattle.network.specs.Maxima.{places, free}
use Rattle.bonds.specs.Bonds.{Bond, partners, row_of, table_of}
use Rattle.bonds.proofs.Partners.{row_length, table_more, table_length}
use Rattle.bnw_reader.specs.FileBonds.{bond_from, partners_in}
use Rattle.bnw_reader.proofs.FileBonds.{partners_read}

-- the partner at a place, written over a free place
module _ (list : List ℕ) (few : length list ≤ places) (n : ℕ) (row : List ℕ) (er : row ≡ take n list ++ replicate (places - n) free) where
  module _ (place y : ℕ) (turn : (n < length (enumerate_from 0 list)) × ((place, y) ≡ get_or (enumerate_from 0 list) n (place, y))) where
    at_place : (place ≡ n) × (y ≡ get_or list n y) × (n < length list)
    at_place =
        let within : n < length list = omega (arith, turn.0, length-enumerate_from 0 list) in
        let same : (place, y) ≡ (0 + n, get_or list n y) = turn.1 ∙ get_or-enumerate_from 0 list n (place, y) within in
        (ap (λ (p : ℕ × ℕ). p.0) same ∙ zero-add n, ap (λ (p : ℕ × ℕ). p.1) same, within)

    long : length (take n list) ≡ n
    long = omega (arith, length-take n list, at_place.2)

    pub in_row : place < length row
    in_row = omega (arith, at_place.0, at_place.2, long, ap length er, length-append (take n list) (replicate (places - n) free), length-replicate (places - n) free)

    pub placed : set row place y ≡ take (n + 1) list ++ replicate (places - (n + 1)) free
    placed =
        let d : places - n ≡ suc (places - (n + 1)) = omega (arith, at_place.2) in
        ap (λ (r : List ℕ). set r place y) (er ∙ ap (λ (k : ℕ). take n list ++ replicate k free) d)
        ∙ set_at (take n list) free (replicate (places - (n + 1)) free) y place (long ∙ sym at_place.0)
        ∙ sym (append_assoc (take n list) (y ∷ []) (replicate (places - (n + 1)) free))
        ∙ ap (λ (r : List ℕ). r ++ replicate (places - (n + 1)) free) (ap (λ (z : ℕ). take n list ++ z ∷ []) at_place.1 ∙ sym (take_more list n y at_place.2))

-- all partners written
pub row_written : (bonds : List (List ℕ)) (x n : ℕ) (row : List ℕ) → n ≡ length (enumerate_from 0 (partners_in bonds x)) → row ≡ take n (partners_in bonds x) ++ replicate (places - n) free → row ≡ row_of (map bond_from bonds) x
unfolding row_of
row_written bonds x n row h e =
    let k : n ≡ length (partners_in bonds x) = h ∙ length-enumerate_from 0 (partners_in bonds x) in
    let all : take n (partners_in bonds x) ≡ partners (map bond_from bonds) x = take_all n (partners_in bonds x) (omega arith) ∙ sym (partners_read x bonds) in
    let rest : n ≡ length (partners (map bond_from bonds) x) = k ∙ ap length (sym (partners_read x bonds)) in
    rw (e, all, rest) refl

pub few_read : (bonds : List (List ℕ)) (x : ℕ) → length (partners (map bond_from bonds) x) ≤ places → length (partners_in bonds x) ≤ places
few_read bonds x h = omega (arith, ap length (partners_read x bonds))

-- one row more of the table
module _ (bonds : List Bond) (before : List ℕ) where
  pub table_first : before ≡ table_of 0 bonds ++ before
  unfolding table_of
  table_first = refl

  pub row_put : ((x : ℕ) → length (partners bonds x) ≤ places) → (x k : ℕ) (table row : List ℕ) → table ≡ table_of x bonds ++ drop (places * x) before → row ≡ row_of bonds x → k ≡ places
      → put_mid (places * x) k table row ≡ table_of (x + 1) bonds ++ drop (places * (x + 1)) before
  row_put eight x k table row e d h =
      let rows : List ℕ = table_of x bonds in
      let rest : List ℕ = drop (places * x) before in
      let long : length rows ≡ places * x = table_length bonds eight x in
      let whole : k ≡ length row = h ∙ sym (ap length d ∙ row_length bonds x (eight x)) in
      let front : take (places * x) table ≡ rows = ap (take (places * x)) e ∙ take_at rows rest (places * x) long in
      let middle : take k row ≡ row_of bonds x = take_all k row (omega arith) ∙ d in
      let past : places * x + k ≡ places * (x + 1) = omega arith in
      let back : drop (places * x + k) table ≡ drop (places * (x + 1)) before =
      sym (drop-drop k (places * x) table) ∙ ap (drop k) (ap (drop (places * x)) e ∙ drop_at rows rest (places * x) long)
      ∙ drop-drop k (places * x) before ∙ ap (λ (n : ℕ). drop n before) past in
      put_mid-paste (places * x) k table row row k refl refl whole ∙ rw (front, middle, back, table_more bonds x) refl
