-- Bonds without a fault are valid bonds.
use Rattle.std.proofs.Common.{◌≡◌, refl, sym, subst, inl, inr, Bool, true, false, [], ◌∷◌, ℕ, zero, suc, ◌-◌, ◌≤◌, ◌<◌, add-one, arith, length, eq-eqb, ne_eqb, lt-ltb, le-ltb}
use mathlib.Core.List.Memᴰ
use native.Mathlib.Decide.{dec_le, dec_lt, ℕ_discrete}
use Rattle.std.proofs.lemmas.Bool.{false≢true}
use Rattle.graph.specs.Lists.{Ascending}
use Rattle.graph.proofs.Lists.{append_ascending}
use Rattle.network.specs.Maxima.{places}
use Rattle.bonds.specs.Bonds.{Bond, EarlierBond, partners, ValidBonds, bonds_below}
use Rattle.bonds.proofs.Runs.{map_more}
use Rattle.bonds.proofs.Order.{earlier_on, numbered}
use Rattle.bonds.proofs.Partners.{rooms}
use Rattle.bnw.specs.Reading.{earlier_bond, is_in_order, file_bond_fault}
use Rattle.bnw.proofs.BondFaults.{fault_first, fault_second, fault_order, fault_after, fault_ninth_first, fault_ninth_second, fault_none}

-- the order of bonds
pub earlier_of : (a b : Bond) → earlier_bond a b ≡ true → EarlierBond a b
unfolding earlier_bond
earlier_of a b e = go (dec_lt a.first b.first) (ℕ_discrete a.first b.first) (dec_lt a.second b.second)
  where
    go : Dec (a.first < b.first) → Dec (a.first ≡ b.first) → Dec (a.second < b.second) → EarlierBond a b
    go (yes l) _ _ = inl l
    go (no l) (yes d) (yes m) = inr (d, m)
    go (no l) (yes d) (no m) = absurd (false≢true (rw (le-ltb a.first b.first (omega arith), eq-eqb a.first b.first d, le-ltb a.second b.second (omega arith)) at e))
    go (no l) (no d) _ = absurd (false≢true (rw (le-ltb a.first b.first (omega arith), ne_eqb a.first b.first d) at e))

pub earlier_is : (a b : Bond) → EarlierBond a b → earlier_bond a b ≡ true
unfolding earlier_bond
earlier_is a b (inl l) = rw (lt-ltb a.first b.first l)
earlier_is a b (inr h) = rw (le-ltb a.first b.first (omega (arith, h.0)), eq-eqb a.first b.first h.0, lt-ltb a.second b.second h.1)

pub follows_earlier : (bond : ℕ → Bond) (k : ℕ) → is_in_order bond (suc k) ≡ true → EarlierBond (bond k) (bond (suc k))
unfolding is_in_order
follows_earlier bond k f = let e : suc k - 1 ≡ k = omega arith in earlier_of (bond k) (bond (suc k)) (rw (ne_eqb (suc k) 0 (omega arith), e) at f)

pub earlier_follows : (bond : ℕ → Bond) (k : ℕ) → EarlierBond (bond k) (bond (suc k)) → is_in_order bond (suc k) ≡ true
unfolding is_in_order
earlier_follows bond k h = let e : suc k - 1 ≡ k = omega arith in rw (ne_eqb (suc k) 0 (omega arith), e) (earlier_is (bond k) (bond (suc k)) h)

-- what no fault at bond k says, and what says so
pub record Right (n : ℕ) (bond : ℕ → Bond) (k : ℕ) : Type 0 where
  pub ordered : (bond k).first < (bond k).second
  pub below : (bond k).second < n
  pub after : is_in_order bond k ≡ true
  pub room_first : length (partners (bonds_below bond k) (bond k).first) < places
  pub room_second : length (partners (bonds_below bond k) (bond k).second) < places

module _ (n : ℕ) (bond : ℕ → Bond) (k : ℕ) where
  pub right_none : Right n bond k → file_bond_fault n bond k ≡ 0
  right_none r =
      let l : (bond k).first < n = omega (arith, r.ordered, r.below) in
      sym (fault_none n bond k _ _ refl refl l r.below r.ordered true (sym r.after) refl _ refl r.room_first _ refl r.room_second)

  pub right_of : file_bond_fault n bond k ≡ 0 → Right n bond k
  right_of z =
      let first_below : (bond k).first < n = elim (dec_le n (bond k).first) [ yes h ↦ absurd (omega (arith, fault_first n bond k _ _ refl refl h)) | no h ↦ omega arith ] in
      let below : (bond k).second < n = elim (dec_le n (bond k).second) [ yes h ↦ absurd (omega (arith, fault_second n bond k _ _ refl refl first_below h)) | no h ↦ omega arith ] in
      let ordered : (bond k).first < (bond k).second = elim (dec_le (bond k).second (bond k).first) [ yes h ↦ absurd (omega (arith, fault_order n bond k _ _ refl refl first_below below h)) | no h ↦ omega arith ] in
      let after : is_in_order bond k ≡ true = comes first_below below ordered (is_in_order bond k) refl in
      let room_first : length (partners (bonds_below bond k) (bond k).first) < places =
      elim (dec_le places (length (partners (bonds_below bond k) (bond k).first))) [
        | yes h ↦ absurd (omega (arith, fault_ninth_first n bond k _ _ refl refl first_below below ordered true (sym after) refl _ refl h))
        | no h ↦ omega arith
      ] in
      record {
        ordered = ordered;
        below = below;
        after = after;
        room_first = room_first;
        room_second = elim (dec_le places (length (partners (bonds_below bond k) (bond k).second))) [
          | yes h ↦ absurd (omega (arith, fault_ninth_second n bond k _ _ refl refl first_below below ordered true (sym after) refl _ refl room_first _ refl h))
          | no h ↦ omega arith
        ];
      }
    where
      comes : (bond k).first < n → (bond k).second < n → (bond k).first < (bond k).second → (b : Bool) → b ≡ is_in_order bond k → is_in_order bond k ≡ true
      comes f s o true e = sym e
      comes f s o false e = absurd (omega (arith, fault_after n bond k _ _ refl refl f s o false e refl))

-- bonds without a fault
module _ (n : ℕ) (bond : ℕ → Bond) (m : ℕ) (right : (k : ℕ) → k < m → Right n bond k) where
  next : (k : ℕ) → suc k < m → EarlierBond (bond k) (bond (suc k))
  next k l = follows_earlier bond k (right (suc k) l).after

  chain : (j k : ℕ) → j < k → k < m → EarlierBond (bond j) (bond k)
  chain j zero h l = absurd (omega arith)
  chain j (suc k) h l = go (ℕ_discrete j k) (chain j k)
    where
      go : Dec (j ≡ k) → (j < k → k < m → EarlierBond (bond j) (bond k)) → EarlierBond (bond j) (bond (suc k))
      go (yes e) ih = rw e (next k l)
      go (no e) ih = earlier_on (bond j) (bond k) (bond (suc k)) (ih (omega arith) (omega arith)) (next k l)

  rises : (k : ℕ) → k ≤ m → Ascending EarlierBond (bonds_below bond k)
  rises zero h = tt
  rises (suc k) h =
      subst (Ascending EarlierBond) (sym (rw add-one at (map_more bond k)))
      (append_ascending EarlierBond (bonds_below bond k) (bond k ∷ []) (rises k (omega arith)) (λ b q. absurd (Memᴰ.not-nil q), tt)
      (λ a b p q. let r = numbered bond k p in
      subst (λ (c : Bond). EarlierBond c b) (sym r.2) (subst (λ (c : Bond). EarlierBond (bond r.0) c) (sym (Memᴰ.eq_of_singleton q)) (chain r.0 k r.1 (omega arith)))))

  pub valid : ValidBonds n (bonds_below bond m)
  valid = record {
    ordered = λ b h. let r = numbered bond m h in subst (λ (c : Bond). c.first < c.second) (sym r.2) (right r.0 r.1).ordered;
    below = λ b h. let r = numbered bond m h in subst (λ (c : Bond). c.second < n) (sym r.2) (right r.0 r.1).below;
    ascends = rises m (omega arith);
    eight = λ x. rooms bond m (λ k l. ((right k l).room_first, (right k l).room_second)) x m (omega arith);
  }
