-- The scan of the bonds: the first fault, as they are read one after another.
use Rattle.std.proofs.Common.{◌≡◌, refl, sym, ◌∙◌, ap, ap₂, subst, inl, inr, ℕ, zero, suc, ◌+◌, ◌-◌, ◌≤◌, ◌<◌, arith}
use native.Mathlib.Nat.{sub-zero}
use native.Mathlib.Decide.{ℕ_discrete, dec_le}
use Rattle.network.specs.declared.Answer.{Answer}
use Rattle.network.specs.Verdict.{answer, accepted}
use Rattle.network.specs.Chain.{Answers, OneAnswer, Accepted}
use Rattle.network.proofs.FirstFaults.{same_place}
use Rattle.bonds.specs.Scan.{or_at, first_bond, BondByBond}

pub given : (c k : ℕ) (later : Answer) → (c ≡ 0 → ⊥) → or_at c k later ≡ answer c 0 k
unfolding or_at
given zero k later z = absurd (z refl)
given (suc c) k later z = refl

-- the answer from the start is the answer from bond k on
pub bonds_start : (fault : ℕ → ℕ) (m : ℕ) → first_bond fault m 0 ≡ first_bond fault (m - 0) 0
bonds_start fault m = rw sub-zero

module _ (fault : ℕ → ℕ) (m k : ℕ) (so_far : first_bond fault m 0 ≡ first_bond fault (m - k) k) where
  module _ (c : ℕ) (h : c ≡ fault k) (l : k < m) where
    pub bonds_here : (c ≡ 0 → ⊥) → answer c 0 k ≡ first_bond fault m 0
    unfolding first_bond
    bonds_here z = let e : m - k ≡ suc (m - (k + 1)) = omega arith in sym (so_far ∙ rw (e, ← h) (given c k _ z))

    pub bonds_next : c ≡ 0 → first_bond fault m 0 ≡ first_bond fault (m - (k + 1)) (k + 1)
    unfolding first_bond or_at
    bonds_next z = let e : m - k ≡ suc (m - (k + 1)) = omega arith in so_far ∙ rw (e, ← h, z) refl

  pub bonds_never : (a : Answer) → m ≤ k → a ≡ accepted → a ≡ first_bond fault m 0
  unfolding first_bond
  bonds_never a l h = let e : m - k ≡ 0 = omega arith in h ∙ sym (so_far ∙ rw e refl)

-- a scan that finds nothing
pub or_clean : (c k : ℕ) (a : Answer) → (or_at c k a).code ≡ 0 → (c ≡ 0) × (a.code ≡ 0)
unfolding or_at
or_clean zero k a z = (refl, z)
or_clean (suc c) k a z = absurd (omega arith)

pub scan_clean : (fault : ℕ → ℕ) (m k : ℕ) → (first_bond fault m k).code ≡ 0 → (j : ℕ) → k ≤ j → j < k + m → fault j ≡ 0
unfolding first_bond
scan_clean fault zero k z j l h = absurd (omega arith)
scan_clean fault (suc m) k z j l h =
    let both = or_clean (fault k) k _ z in
    elim (dec_le (k + 1) j) [
      | yes i ↦ scan_clean fault m (k + 1) both.1 j i (omega arith)
      | no i ↦ (let e : j ≡ k = omega arith in rw e both.0)
    ]

pub clean_scan : (fault : ℕ → ℕ) (m k : ℕ) → ((j : ℕ) → k ≤ j → j < k + m → fault j ≡ 0) → first_bond fault m k ≡ accepted
unfolding first_bond or_at
clean_scan fault zero k f = refl
clean_scan fault (suc m) k f = rw (f k (omega arith) (omega arith)) (clean_scan fault m (k + 1) (λ j l h. f j (omega arith) (omega arith)))

-- a number that no bond gives is no answer
pub scan_never : (c : ℕ) → (c ≡ 0 → ⊥) → (fault : ℕ → ℕ) → ((k : ℕ) → fault k ≡ c → ⊥) → (m k : ℕ) → (first_bond fault m k).code ≡ c → ⊥
unfolding first_bond or_at
scan_never c z fault f zero k e = z (sym e)
scan_never c z fault f (suc m) k e = go (fault k) refl (scan_never c z fault f m (k + 1)) e
  where
    go : (d : ℕ) → fault k ≡ d → ((first_bond fault m (k + 1)).code ≡ c → ⊥) → (or_at d k (first_bond fault m (k + 1))).code ≡ c → ⊥
    go zero h ih e = ih e
    go (suc d) h ih e = f k (h ∙ e)

-- the answer of a scan that finds something
pub record First (fault : ℕ → ℕ) (m k : ℕ) (a : Answer) : Type 0 where
  pub at : ℕ
  pub low : k ≤ at
  pub high : at < k + m
  pub is : a ≡ answer (fault at) 0 at
  pub some : fault at ≡ 0 → ⊥
  pub none : (j : ℕ) → k ≤ j → j < at → fault j ≡ 0

pub scan_first : (fault : ℕ → ℕ) (m k : ℕ) → ((first_bond fault m k).code ≡ 0 → ⊥) → First fault m k (first_bond fault m k)
unfolding first_bond or_at
scan_first fault zero k z = absurd (z refl)
scan_first fault (suc m) k z = go (fault k) refl (scan_first fault m (k + 1)) z
  where
    go : (c : ℕ) → fault k ≡ c → (((first_bond fault m (k + 1)).code ≡ 0 → ⊥) → First fault m (k + 1) (first_bond fault m (k + 1)))
        → ((or_at c k (first_bond fault m (k + 1))).code ≡ 0 → ⊥) → First fault (suc m) k (or_at c k (first_bond fault m (k + 1)))
    go zero e ih z =
        let r = ih z in
        record {
          at = r.at;
          low = omega (arith, r.low);
          high = omega (arith, r.high);
          is = r.is;
          some = r.some;
          none = λ j l h. elim (dec_le (k + 1) j) [ yes i ↦ r.none j i h | no i ↦ (let d : j ≡ k = omega arith in rw d e) ];
        }
    go (suc c) e ih z = record {
      at = k;
      low = omega arith;
      high = omega arith;
      is = ap (λ (i : ℕ). answer i 0 k) (sym e);
      some = omega arith;
      none = λ j l h. absurd (omega arith);
    }

-- what a scan says, where the number of each bond tells its fault
module _ (fault : ℕ → ℕ) (Fault : ℕ → ℕ → Type 0) (none : (k c : ℕ) → fault k ≡ 0 → Fault k c → ⊥) (some : (k : ℕ) → (fault k ≡ 0 → ⊥) → Fault k (fault k)) where
  pub scan_says : (m : ℕ) → BondByBond Fault m Accepted (first_bond fault m 0)
  unfolding BondByBond
  scan_says m = go (ℕ_discrete (first_bond fault m 0).code 0)
    where
      go : Dec ((first_bond fault m 0).code ≡ 0) → BondByBond Fault m Accepted (first_bond fault m 0)
      go (yes z) =
          let clean : (k : ℕ) → 0 ≤ k → k < 0 + m → fault k ≡ 0 = scan_clean fault m 0 z in
          inr (λ k l c. none k c (clean k (omega arith) (omega arith)), clean_scan fault m 0 clean)
      go (no z) =
          let f = scan_first fault m 0 z in
          inl (f.at, fault f.at, omega (arith, f.high), some f.at f.some, λ j l d. none j d (f.none j (omega arith) (omega (arith, l))), f.is)

-- one answer, where a bond has one number
pub one_bond_by_bond : (Fault : ℕ → ℕ → Type 0) → ((k c d : ℕ) → Fault k c → Fault k d → c ≡ d) → (m : ℕ) (Later : Answers) → OneAnswer Later → OneAnswer (BondByBond Fault m Later)
unfolding BondByBond
one_bond_by_bond Fault single m Later one a b (inl h) (inl k) =
    let e : h.0 ≡ k.0 = same_place h.0 k.0 (λ l. k.4 h.0 l h.1 h.3) (λ l. h.4 k.0 l k.1 k.3) in
    let d : h.1 ≡ k.1 = single k.0 h.1 k.1 (subst (λ (j : ℕ). Fault j h.1) e h.3) k.3 in
    h.5 ∙ ap₂ (λ (c j : ℕ). answer c 0 j) d e ∙ sym k.5
one_bond_by_bond Fault single m Later one a b (inl h) (inr k) = absurd (k.0 h.0 h.2 h.1 h.3)
one_bond_by_bond Fault single m Later one a b (inr h) (inl k) = absurd (h.0 k.0 k.2 k.1 k.3)
one_bond_by_bond Fault single m Later one a b (inr h) (inr k) = one a b h.1 k.1
