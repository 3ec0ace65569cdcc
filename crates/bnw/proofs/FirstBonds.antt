-- Refusals 26 and 27 name the first bond at fault.
use Rattle.std.proofs.Common.{true≢false, ◌≡◌, refl, sym, ◌∙◌, subst, ◌⊎◌, inl, inr, Bool, true, false, cond, not, List, ℕ, zero, suc, ◌+◌, ◌*◌, ◌≤◌, ◌<◌, arith, eqb, ltb, length}
use native.Mathlib.Decide.{dec_le}
use Rattle.network.specs.declared.Answer.{Answer}
use Rattle.network.specs.Maxima.{atoms_most, places}
use Rattle.bonds.specs.declared.Reading.{Reading}
use Rattle.bonds.specs.Bonds.{Bond, EarlierBond, partners, bonds_below, Ninth}
use Rattle.bonds.specs.Scan.{or_at, first_bond}
use Rattle.bnw.specs.File.{version, bonds_most, head_length, bond_length}
use Rattle.bnw.specs.Reading.{atoms_in, bonds_in, version_in, signed, out_of_range, marked, head_fault, is_in_order, bond_in, file_bond_fault, read_verdict, ReadOutcome}
use Rattle.bonds.proofs.Scan.{scan_first}
use Rattle.bnw.specs.FirstBond.{Misplaced, NamesFirstBond}
use Rattle.bnw.proofs.BondFaults.{follows_none, fault_first, fault_second, fault_order, fault_after, fault_ninth_first, fault_ninth_second, fault_none}
use Rattle.bnw.proofs.Valid.{follows_earlier, earlier_follows, right_of}

-- the previous bond
not_follows : (bond : ℕ → Bond) (k : ℕ) → is_in_order bond k ≡ false → (j : ℕ) × (suc j ≡ k) × (EarlierBond (bond j) (bond k) → ⊥)
not_follows bond zero f = absurd (true≢false (follows_none bond zero refl ∙ f))
not_follows bond (suc k) f = (k, refl, λ e. true≢false (sym (earlier_follows bond k e) ∙ f))

module _ (n : ℕ) (bond : ℕ → Bond) (k : ℕ) where
  placed : (bond k).first < (bond k).second → (bond k).second < n → is_in_order bond k ≡ true → Misplaced n bond k → ⊥
  placed o s f (inl h) = omega arith
  placed o s f (inr (inl h)) = omega arith
  placed o s f (inr (inr (inl h))) = omega arith
  placed o s f (inr (inr (inr h))) =
      h.2 (subst (λ (i : ℕ). EarlierBond (bond h.0) (bond i)) h.1 (follows_earlier bond h.0 (subst (λ (i : ℕ). is_in_order bond i ≡ true) (sym h.1) f)))

  pub fault_clean : file_bond_fault n bond k ≡ 0 → (Misplaced n bond k → ⊥) × (Ninth bond k → ⊥)
  fault_clean z = let r = right_of n bond k z in (placed r.ordered r.below r.after, room)
    where
      room : Ninth bond k → ⊥
      room (inl h) = omega (arith, (right_of n bond k z).room_first)
      room (inr h) = omega (arith, (right_of n bond k z).room_second)

  fault_names : (file_bond_fault n bond k ≡ 0 → ⊥)
      → ((file_bond_fault n bond k ≡ 26) × Misplaced n bond k) ⊎ ((file_bond_fault n bond k ≡ 27) × (Misplaced n bond k → ⊥) × Ninth bond k)
  fault_names z =
      go (dec_le n (bond k).first) (dec_le n (bond k).second) (dec_le (bond k).second (bond k).first) (is_in_order bond k) refl
      (dec_le places (length (partners (bonds_below bond k) (bond k).first))) (dec_le places (length (partners (bonds_below bond k) (bond k).second)))
    where
      go : Dec (n ≤ (bond k).first) → Dec (n ≤ (bond k).second) → Dec ((bond k).second ≤ (bond k).first) → (b : Bool) → b ≡ is_in_order bond k
          → Dec (places ≤ length (partners (bonds_below bond k) (bond k).first)) → Dec (places ≤ length (partners (bonds_below bond k) (bond k).second))
          → ((file_bond_fault n bond k ≡ 26) × Misplaced n bond k) ⊎ ((file_bond_fault n bond k ≡ 27) × (Misplaced n bond k → ⊥) × Ninth bond k)
      go (yes f) _ _ b e _ _ = inl (sym (fault_first n bond k _ _ refl refl f), inl f)
      go (no f) (yes s) _ b e _ _ = inl (sym (fault_second n bond k _ _ refl refl (omega arith) s), inr (inl s))
      go (no f) (no s) (yes o) b e _ _ = inl (sym (fault_order n bond k _ _ refl refl (omega arith) (omega arith) o), inr (inr (inl o)))
      go (no f) (no s) (no o) false e _ _ = inl (sym (fault_after n bond k _ _ refl refl (omega arith) (omega arith) (omega arith) false e refl), inr (inr (inr (not_follows bond k (sym e)))))
      go (no f) (no s) (no o) true e (yes p) _ =
          inr (sym (fault_ninth_first n bond k _ _ refl refl (omega arith) (omega arith) (omega arith) true e refl _ refl p), placed (omega arith) (omega arith) (sym e), inl p)
      go (no f) (no s) (no o) true e (no p) (yes q) =
          inr (sym (fault_ninth_second n bond k _ _ refl refl (omega arith) (omega arith) (omega arith) true e refl _ refl (omega arith) _ refl q), placed (omega arith) (omega arith) (sym e), inr q)
      go (no f) (no s) (no o) true e (no p) (no q) =
          absurd (z (sym (fault_none n bond k _ _ refl refl (omega arith) (omega arith) (omega arith) true e refl _ refl (omega arith) _ refl (omega arith))))

pub names_first : (n : ℕ) (bond : ℕ → Bond) (m : ℕ) → ((first_bond (file_bond_fault n bond) m 0).code ≡ 0 → ⊥) → NamesFirstBond n bond m (first_bond (file_bond_fault n bond) m 0)
names_first n bond m z =
    let f = scan_first (file_bond_fault n bond) m 0 z in
    subst (NamesFirstBond n bond m) (sym f.is) (record {
      row = refl;
      place = omega (arith, f.high);
      there = fault_names n bond f.at f.some;
      first = λ j l. fault_clean n bond j (f.none j (omega arith) l);
    })

-- the head gives none of these numbers
head_small : (file : List ℕ) (room : ℕ) → head_fault file room ≤ 25
unfolding head_fault
head_small file room =
    go (ltb (length file) head_length) (not (marked file)) (not (eqb (version_in file) version)) (out_of_range 1 atoms_most (signed (atoms_in file))) (out_of_range 0 bonds_most (signed (bonds_in file)))
    (not (eqb (length file) (head_length + bond_length * bonds_in file))) (ltb room (places * atoms_in file))
  where
    go : (a b c d e f g : Bool) → cond a 19 (cond b 20 (cond c 21 (cond d 22 (cond e 23 (cond f 24 (cond g 25 0)))))) ≤ 25
    go true b c d e f g = omega arith
    go false true c d e f g = omega arith
    go false false true d e f g = omega arith
    go false false false true e f g = omega arith
    go false false false false true f g = omega arith
    go false false false false false true g = omega arith
    go false false false false false false true = omega arith
    go false false false false false false false = omega arith

-- a file refused for its bonds: the answer names the first bond at fault
pub read_names_first : (file before after : List ℕ) (r : Reading) → ReadOutcome file before after r → 25 < r.answer.code → NamesFirstBond (atoms_in file) (bond_in file) (bonds_in file) r.answer
unfolding read_verdict or_at
read_names_first file before after r R h =
    subst (NamesFirstBond (atoms_in file) (bond_in file) (bonds_in file)) (sym R.verdict)
    (go (head_fault file (length before)) (head_small file (length before)) (subst (λ (a : Answer). 25 < a.code) R.verdict h))
  where
    go : (c : ℕ) → c ≤ 25 → 25 < (or_at c 0 (first_bond (file_bond_fault (atoms_in file) (bond_in file)) (bonds_in file) 0)).code
        → NamesFirstBond (atoms_in file) (bond_in file) (bonds_in file) (or_at c 0 (first_bond (file_bond_fault (atoms_in file) (bond_in file)) (bonds_in file) 0))
    go zero l h = names_first (atoms_in file) (bond_in file) (bonds_in file) (λ z. omega arith)
    go (suc c) l h = absurd (omega arith)
