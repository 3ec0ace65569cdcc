-- The file of valid bonds is accepted, and a network has no more bonds than a file may have.
use Rattle.std.proofs.Common.{◌≡◌, refl, sym, ◌∙◌, ap, ap₂, subst, true, cond, List, ℕ, zero, suc, ◌+◌, ◌-◌, ◌*◌, ◌≤◌, ◌<◌, add-one, arith, ltb, length, get_or, eq-eqb, ne_eqb, lt-ltb, le-ltb}
use native.Mathlib.Decide.{dec_lt, ℕ_discrete}
use Rattle.graph.specs.Lists.{gather, numbers_from}
use Rattle.graph.proofs.Lists.{at_place}
use Rattle.network.specs.Maxima.{places}
use Rattle.network.specs.Network.{Counted}
use Rattle.network.specs.Verdict.{accepted}
use Rattle.bonds.specs.Bonds.{Bond, EarlierBond, partner, partners, ValidBonds, bonds_below}
use Rattle.bonds.specs.Scan.{or_at}
use Rattle.bonds.proofs.Runs.{length_more}
use Rattle.bonds.proofs.Twice.{twice}
use Rattle.bonds.proofs.Scan.{clean_scan}
use Rattle.bonds.proofs.Partners.{partner_first, partner_second, partners_fit}
use Rattle.bonds.proofs.Tables.{ascending_places}
use Rattle.bnw.specs.File.{version, bonds_most, file_of}
use Rattle.bnw.specs.Reading.{earlier_bond, is_in_order, bond_in, file_bond_fault, head_fault, read_verdict}
use Rattle.bnw.proofs.HeadFaults.{head_rest}
use Rattle.bnw.proofs.Valid.{Right, right_none, earlier_is}
use Rattle.bnw.proofs.Writings.{file_length}
use Rattle.bnw.proofs.Decoded.{none, mark_field, version_field, atoms_field, bonds_field, bond_read, bonds_read}

-- a row has eight places
module _ (n : ℕ) where
  rows : (bonds : List Bond) → ((x : ℕ) → length (partners bonds x) ≤ places) → (k : ℕ) → length (gather (partners bonds) (numbers_from k 0)) ≤ places * k
  rows bonds e zero = omega arith
  rows bonds e (suc k) = omega (arith, rows bonds e k, e k, rw add-one at (length_more (partners bonds) k))

  pub few_bonds : (bonds : List Bond) → Counted n → ValidBonds n bonds → length bonds ≤ bonds_most
  few_bonds bonds C B = omega (arith, twice n bonds (λ b m. (λ e. omega (arith, B.ordered b m), omega (arith, B.ordered b m, B.below b m), B.below b m)), rows bonds B.eight n, C.most)

module _ (n : ℕ) (bonds : List Bond) (C : Counted n) (B : ValidBonds n bonds) where
  -- each bond of the file is right
  right : (k : ℕ) → k < length bonds → Right n (bond_in (file_of n bonds)) k
  unfolding is_in_order
  right k l =
      let e = bond_read n bonds k l in
      let m = at_place none bonds k l in
      record {
        ordered = subst (λ (b : Bond). b.first < b.second) (sym e) (B.ordered (get_or bonds k none) m);
        below = subst (λ (b : Bond). b.second < n) (sym e) (B.below (get_or bonds k none) m);
        after = after (ℕ_discrete k 0);
        room_first = omega (arith, fits (bond_in (file_of n bonds) k).first, ap length (partner_first _ (bond_in (file_of n bonds) k) _ refl refl));
        room_second = omega (
          arith,
          fits (bond_in (file_of n bonds) k).second,
          ap length (partner_second _ (bond_in (file_of n bonds) k) (bond_in (file_of n bonds) k).first refl apart _ refl refl),
        );
      }
    where
      fits : (x : ℕ) → length (partners (bonds_below (bond_in (file_of n bonds)) k) x) + length (partner x (bond_in (file_of n bonds) k)) ≤ places
      fits x = omega (arith, partners_fit (bond_in (file_of n bonds)) x k (length bonds) l, ap (λ (bs : List Bond). length (partners bs x)) (bonds_read n bonds), B.eight x)

      apart : (bond_in (file_of n bonds) k).first ≡ (bond_in (file_of n bonds) k).second → ⊥
      apart d = omega (arith, d, ap (λ (b : Bond). b.first) (bond_read n bonds k l), ap (λ (b : Bond). b.second) (bond_read n bonds k l), B.ordered (get_or bonds k none) (at_place none bonds k l))

      after : Dec (k ≡ 0) → is_in_order (bond_in (file_of n bonds)) k ≡ true
      after (yes z) = rw (eq-eqb k 0 z)
      after (no z) =
          rw (ne_eqb k 0 z)
          (ap₂ earlier_bond (bond_read n bonds (k - 1) (omega arith)) (bond_read n bonds k l)
          ∙ earlier_is (get_or bonds (k - 1) none) (get_or bonds k none) (ascending_places EarlierBond none bonds B.ascends (k - 1) k (omega arith) l))

  module _ (room : ℕ) where
    head : head_fault (file_of n bonds) room ≡ cond (ltb room (places * n)) 25 0
    head =
        head_rest (file_of n bonds) room (omega (arith, file_length n bonds)) true (sym (mark_field n bonds)) refl version (sym (version_field n bonds)) refl n (sym (atoms_field n bonds))
        (omega (arith, C.most)) C.some C.most (length bonds) (sym (bonds_field n bonds)) (omega (arith, few_bonds n bonds C B)) (few_bonds n bonds C B) (file_length n bonds)

    pub file_accepted : places * n ≤ room → read_verdict (file_of n bonds) room ≡ accepted
    unfolding read_verdict or_at
    file_accepted h =
        rw (head, le-ltb room (places * n) h, atoms_field n bonds, bonds_field n bonds)
        (clean_scan (file_bond_fault n (bond_in (file_of n bonds))) (length bonds) 0 (λ j l k. right_none n (bond_in (file_of n bonds)) j (right j (omega arith))))

    -- and only where there is room for its table
    pub file_fits : (read_verdict (file_of n bonds) room).code ≡ 0 → places * n ≤ room
    unfolding read_verdict or_at
    file_fits z = elim (dec_lt room (places * n)) [ yes l ↦ absurd (let e : ◌≡◌ {A = ℕ} 25 0 = rw (head, lt-ltb room (places * n) l) at z in omega arith) | no l ↦ omega arith ]
