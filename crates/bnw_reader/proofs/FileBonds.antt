-- The partners of an atom, as they are read from the bytes of the bonds.
use Rattle.std.proofs.Common.{◌≡◌, refl, sym, ap, ◌∙◌, arith, add-one, ℕ, zero, suc, ◌≤◌, Bool, true, false, cond, eqb, List, [], ◌∷◌, ◌++◌, map, length, take, Some, None}
use Rattle.std.specs.List.{cons_option}
use Rattle.std.proofs.lemmas.List as lists
use Rattle.bonds.specs.Bonds.{Bond, partner, partners, bonds_below}
use Rattle.bonds.proofs.Runs as runs
use Rattle.bnw_reader.specs.FileBonds.{bond_from, among, partner_if, partners_in}

pub same_first : {a b : Bond} → a ≡ b → a.first ≡ b.first
same_first e = ap (λ (c : Bond). c.first) e

pub same_second : {a b : Bond} → a ≡ b → a.second ≡ b.second
same_second e = ap (λ (c : Bond). c.second) e

-- the bonds below k, by their bytes
pub below_taken : (bonds : List (List ℕ)) (k : ℕ) → k ≤ length bonds → bonds_below (among bonds) k ≡ map bond_from (take k bonds)
below_taken bonds zero h = refl
below_taken bonds (suc k) h =
    rw (add-one k) at (runs.map_more (among bonds) k)
    ∙ ap (λ (bs : List Bond). bs ++ (among bonds k ∷ [])) (below_taken bonds k (omega arith))
    ∙ sym (rw (add-one k) at (lists.map_more bond_from bonds k [] (omega arith)))

module _ (x : ℕ) where
  cons_partner : (b : Bond) (ys : List ℕ) → partner x b ++ ys ≡ cons_option (partner_if x b) ys
  unfolding partner partner_if
  cons_partner b ys = go (eqb b.first x) (eqb b.second x)
    where
      go : (p q : Bool) → cond p (b.second ∷ []) (cond q (b.first ∷ []) []) ++ ys ≡ cons_option (cond p (Some b.second) (cond q (Some b.first) None)) ys
      go true q = refl
      go false true = refl
      go false false = refl

  pub partners_read : (bonds : List (List ℕ)) → partners (map bond_from bonds) x ≡ partners_in bonds x
  unfolding partners
  partners_read [] = refl
  partners_read (bytes ∷ bonds) = ap (λ (ys : List ℕ). partner x (bond_from bytes) ++ ys) (partners_read bonds) ∙ cons_partner (bond_from bytes) _

  -- those of the bonds below k
  pub counted_below : (bonds : List (List ℕ)) (k many : ℕ) → k ≤ length bonds → many ≡ length (partners_in (take k bonds) x) → many ≡ length (partners (bonds_below (among bonds) k) x)
  counted_below bonds k many h e = rw (below_taken bonds k h, partners_read) e
