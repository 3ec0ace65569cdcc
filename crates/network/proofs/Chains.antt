-- A chain of checks, as it computes, gives what it says; it says one answer; and what it says of an input that is accepted.
use mathlib.Core.Path.{◌≡◌, refl, sym, ◌∙◌, ap, subst}
use mathlib.Core.Logic.{◌⊎◌, inl, inr}
use mathlib.Core.Bool.{Bool, true, false, ◌&&◌, not}
use mathlib.Core.List.{List}
use Prim.Native.Nat.{ℕ, ◌*◌, ◌≤◌, ◌<◌}
use native.Mathlib.Omega.{arith}
use native.Mathlib.Decide.{ℕ_discrete, dec_le}
use lib.Dec.{leb, ltb}
use lib.ListN.{length}
use borrow.Author.Tests.{le-leb, lt-leb, lt-ltb, le-ltb}
use Rattle.network.specs.declared.Answer.{Answer}
use Rattle.network.specs.Maxima.{atoms_most, places}
use Rattle.network.specs.Network.{Counted, IsNetwork}
use Rattle.network.specs.Verdict.{answer, refusal, check, not_atoms, not_long, sizes, faults}
use Rattle.network.specs.FirstFault.{AtPlace, Unanswered, NamesFirst}
use Rattle.network.specs.Chain.{Answers, OneAnswer, Check, Sizes, Table, PlaceByPlace, Accepted}
use Rattle.network.proofs.Verdicts.{atoms, long, not_long_lem}
use Rattle.network.proofs.FirstFaults.{same_place, one_first}
use Rattle.network.proofs.FaultlessTables.{no_first, table_told}

-- one check
pub check_says : (c : ℕ) (bad : Bool) (later : Answer) (Right : Type 0) (Later : Answers) → Dec Right → (Right → bad ≡ false) → ((Right → ⊥) → bad ≡ true) → (Right → Later later) → Check c Right Later (check c bad later)
unfolding Check
check_says c bad later Right Later (yes r) f g k = subst (λ (b : Bool). Check c Right Later (check c b later)) (sym (f r)) (inr (r, k r))
check_says c bad later Right Later (no h) f g k = subst (λ (b : Bool). Check c Right Later (check c b later)) (sym (g h)) (inl (h, refl))

module _ (low high k : ℕ) where
  pub in_range : Dec ((low ≤ k) × (k ≤ high))
  in_range = go (dec_le low k) (dec_le k high)
    where
      go : Dec (low ≤ k) → Dec (k ≤ high) → Dec ((low ≤ k) × (k ≤ high))
      go (yes l) (yes h) = yes (l, h)
      go (yes l) (no h) = no (λ b. h b.1)
      go (no l) _ = no (λ b. l b.0)

  pub range_true : (low ≤ k) × (k ≤ high) → (leb low k && leb k high) ≡ true
  range_true h = rw (le-leb low k h.0, le-leb k high h.1) refl

  pub range_false : ((low ≤ k) × (k ≤ high) → ⊥) → (leb low k && leb k high) ≡ false
  range_false h = go (dec_le low k) (dec_le k high)
    where
      go : Dec (low ≤ k) → Dec (k ≤ high) → (leb low k && leb k high) ≡ false
      go (yes l) (yes m) = absurd (h (l, m))
      go (yes l) (no m) = rw (le-leb low k l, lt-leb k high (omega arith)) refl
      go (no l) _ = rw (lt-leb low k (omega arith)) refl

pub check_atoms : (n : ℕ) (later : Answer) (Later : Answers) → (Counted n → Later later) → Check 1 (Counted n) Later (check 1 (not_atoms n) later)
check_atoms n later Later = check_says 1 (not_atoms n) later (Counted n) Later counted (λ C. atoms n C.some C.most) (λ h. ap not (range_false 1 atoms_most n (λ b. h (record { some = b.0; most = b.1 }))))
  where
    counted : Dec (Counted n)
    counted = elim (in_range 1 atoms_most n) [ yes b ↦ yes (record { some = b.0; most = b.1 }) | no b ↦ no (λ C. b (C.some, C.most)) ]

pub check_long : (c : ℕ) (t : List ℕ) (m : ℕ) (later : Answer) (Later : Answers) → (length t ≡ m → Later later) → Check c (length t ≡ m) Later (check c (not_long t m) later)
check_long c t m later Later = check_says c (not_long t m) later (length t ≡ m) Later (ℕ_discrete (length t) m) (long t m) (not_long_lem t m)

pub check_most : (c a b : ℕ) (later : Answer) (Later : Answers) → (b ≤ a → Later later) → Check c (b ≤ a) Later (check c (ltb a b) later)
check_most c a b later Later = check_says c (ltb a b) later (b ≤ a) Later (dec_le b a) (le-ltb a b) (λ h. lt-ltb a b (omega arith))

pub sizes_say : (n : ℕ) (t : List ℕ) (later : Answer) (Later : Answers) → (Counted n → length t ≡ places * n → Later later) → Sizes n t (λ Rest. Rest) Later (sizes n t (λ a. a) later)
unfolding sizes
sizes_say n t later Later k = check_atoms n _ _ λ C. check_long 4 t (places * n) later Later (k C)

-- the table
pub table_says : (n : ℕ) (t : List ℕ) (later : Answer) (Later : Answers) → Counted n → length t ≡ places * n → (IsNetwork n t → Later later) → Table n t Later (faults n t later)
unfolding Table
table_says n t later Later C w k = elim (table_told n t C w later) [ inl F ↦ inl F | inr h ↦ inr (h.0, subst Later (sym h.1) (k h.0)) ]

-- one answer
pub one_accepted : OneAnswer Accepted
one_accepted a b h k = h ∙ sym k

-- of one link, refused or right
module _ (Refused : Answers) (Right : Type 0) (Later : Answers) where
  pub one_link : OneAnswer Refused → ((a : Answer) → Refused a → Right → ⊥) → OneAnswer Later → OneAnswer (λ a. Refused a ⊎ (Right × Later a))
  one_link one not later a b (inl h) (inl k) = one a b h k
  one_link one not later a b (inl h) (inr k) = absurd (not a h k.0)
  one_link one not later a b (inr h) (inl k) = absurd (not b k h.0)
  one_link one not later a b (inr h) (inr k) = later a b h.1 k.1

pub one_check : (c : ℕ) (Right : Type 0) (Later : Answers) → OneAnswer Later → OneAnswer (Check c Right Later)
unfolding Check
one_check c Right Later = one_link (λ a. (Right → ⊥) × (a ≡ refusal c)) Right Later (λ a b h k. h.1 ∙ sym k.1) (λ a h r. h.0 r)

pub one_places : (c : ℕ) (Bad : ℕ → Type 0) (m : ℕ) (Later : Answers) → OneAnswer Later → OneAnswer (PlaceByPlace c Bad m Later)
unfolding PlaceByPlace
one_places c Bad m Later =
    one_link (λ a. (p : ℕ) × (p < m) × Bad p × ((i : ℕ) → i < p → Bad i → ⊥) × (a ≡ answer c 0 p)) ((i : ℕ) → i < m → Bad i → ⊥) Later
    (λ a b h k. h.4 ∙ ap (λ (p : ℕ). answer c 0 p) (same_place h.0 k.0 (λ l. k.3 h.0 l h.2) (λ l. h.3 k.0 l k.2)) ∙ sym k.4)
    (λ a h none. none h.0 h.1 h.2)

pub one_table : (n : ℕ) (t : List ℕ) (Later : Answers) → OneAnswer Later → OneAnswer (Table n t Later)
unfolding Table
one_table n t Later = one_link (NamesFirst n t) (IsNetwork n t) Later (one_first n (AtPlace n t) (Unanswered n t)) (λ a h N. no_first n t N a h)

-- the first bad place is named; where none is bad what comes later says
pub places_at : (c : ℕ) (Bad : ℕ → Type 0) (k : ℕ) (Later : Answers) (p : ℕ) → p < k → Bad p → ((i : ℕ) → i < p → Bad i → ⊥) → PlaceByPlace c Bad k Later (answer c 0 p)
unfolding PlaceByPlace
places_at c Bad k Later p l b first = inl (p, l, b, first, refl)

pub places_right : (c : ℕ) (Bad : ℕ → Type 0) (k : ℕ) (Later : Answers) (a : Answer) → ((i : ℕ) → i < k → Bad i → ⊥) → Later a → PlaceByPlace c Bad k Later a
unfolding PlaceByPlace
places_right c Bad k Later a h l = inr (h, l)

-- accepted
pub check_passed : (c : ℕ) (Right : Type 0) (Later : Answers) (a : Answer) → (c ≡ 0 → ⊥) → Check c Right Later a → a.code ≡ 0 → Right × Later a
unfolding Check
check_passed c Right Later a s (inl h) z = absurd (s (ap (λ (b : Answer). b.code) (sym h.1) ∙ z))
check_passed c Right Later a s (inr h) z = h

pub sizes_passed : (n : ℕ) (t : List ℕ) (Later : Answers) (a : Answer) → Sizes n t (λ Rest. Rest) Later a → a.code ≡ 0 → Counted n × (length t ≡ places * n) × Later a
sizes_passed n t Later a S z =
    let one = check_passed 1 (Counted n) _ a (omega arith) S z in
    let four = check_passed 4 (length t ≡ places * n) Later a (omega arith) one.1 z in
    (one.0, four.0, four.1)

-- the numbers of a table's faults are 7 to 11
module _ (n : ℕ) (t : List ℕ) where
  pub first_number : (a : Answer) → NamesFirst n t a → (7 ≤ a.code) × (a.code ≤ 11)
  first_number a (inl P) = at P.there
    where
      at : AtPlace n t a.row a.place a.code → (7 ≤ a.code) × (a.code ≤ 11)
      at (inl h) = (omega (arith, h.0), omega (arith, h.0))
      at (inr (inl h)) = (omega (arith, h.0), omega (arith, h.0))
      at (inr (inr (inl h))) = (omega (arith, h.0), omega (arith, h.0))
      at (inr (inr (inr h))) = (omega (arith, h.0), omega (arith, h.0))
  first_number a (inr B) = (omega (arith, B.eleven), omega (arith, B.eleven))

  pub table_passed : (Later : Answers) (a : Answer) → Table n t Later a → a.code ≡ 0 → IsNetwork n t × Later a
  unfolding Table
  table_passed Later a (inl F) z = absurd (omega (arith, z, (first_number a F).0))
  table_passed Later a (inr h) z = h

pub places_passed : (c : ℕ) (Bad : ℕ → Type 0) (k : ℕ) (Later : Answers) (a : Answer) → (c ≡ 0 → ⊥) → PlaceByPlace c Bad k Later a → a.code ≡ 0 → ((i : ℕ) → i < k → Bad i → ⊥) × Later a
unfolding PlaceByPlace
places_passed c Bad k Later a s (inl h) z = absurd (s (ap (λ (b : Answer). b.code) (sym h.4) ∙ z))
places_passed c Bad k Later a s (inr h) z = h
