-- What refusals 7 to 11 mean at a place of a table, and which fault is the first (document 01, "Numbered refusals"). The first fault is
-- told over any notion of a fault at a place, `FaultAt x p c` with its number c, and of an unanswered bond there, `UnansweredAt x p`.
--
--   Earlier x p y q       place p of row x is read before place q of row y: rows ascending, then places
--   FirstPlaceFault n FaultAt a                 the answer a is the first fault at a place: the smallest number there, and no earlier place has one
--   FirstBondFault n FaultAt UnansweredAt a     the answer a is the first 11: no place has a fault, and no earlier bond is unanswered
--   FirstFault n FaultAt UnansweredAt a         the one or the other: the answer a is the first fault of n rows
--   Faultless n FaultAt UnansweredAt            there is no fault in n rows
--   NumberOf At c         the number c tells which faults a place has: 0 where it has none, else the smallest
--
--   Outside n t x p       7: the word at place p of row x is neither free nor below n
--   AfterFree n t x p     8: it is a neighbour after a free place
--   Own n t x p           9: it is the atom itself
--   NotAbove n t x p      10: it is a neighbour not above the one before it
--   Unanswered n t x p    11: it is a bond unanswered in the other row
--   AtPlace n t x p c     one of 7 to 10 there, with its number c
--   NamesFirst n t a      the answer a is the first fault of the table t
use Rattle.std.specs.Prelude.{◌≡◌, ◌⊎◌, List, ℕ, suc, ◌+◌, ◌*◌, ◌≤◌, ◌<◌}
use Rattle.network.specs.declared.Answer.{Answer}
use Rattle.network.specs.Maxima.{places, free}
use Rattle.network.specs.Network.{word, Holds, Bonded}

abbrev pub Earlier : ℕ → ℕ → ℕ → ℕ → Type 0
Earlier x p y q = x * places + p < y * places + q

module _ (n : ℕ) (FaultAt : ℕ → ℕ → ℕ → Type 0) where
  pub record FirstPlaceFault (a : Answer) : Type 0 where
    pub row : a.row < n
    pub place : a.place < places
    pub there : FaultAt a.row a.place a.code
    pub smallest : (c : ℕ) → FaultAt a.row a.place c → a.code ≤ c
    pub first : (x p c : ℕ) → p < places → Earlier x p a.row a.place → FaultAt x p c → ⊥

  module _ (UnansweredAt : ℕ → ℕ → Type 0) where
    pub record FirstBondFault (a : Answer) : Type 0 where
      pub row : a.row < n
      pub place : a.place < places
      pub eleven : a.code ≡ 11
      pub there : UnansweredAt a.row a.place
      pub clean : (x p c : ℕ) → x < n → p < places → FaultAt x p c → ⊥
      pub first : (x p : ℕ) → p < places → Earlier x p a.row a.place → UnansweredAt x p → ⊥

    abbrev pub FirstFault : Answer → Type 0
    FirstFault a = FirstPlaceFault a ⊎ FirstBondFault a

    pub record Faultless : Type 0 where
      pub no_place : (x p c : ℕ) → x < n → p < places → FaultAt x p c → ⊥
      pub no_bond : (x p : ℕ) → x < n → p < places → UnansweredAt x p → ⊥

pub record NumberOf (At : ℕ → Type 0) (c : ℕ) : Type 0 where
  pub none : c ≡ 0 → (d : ℕ) → At d → ⊥
  pub there : (c ≡ 0 → ⊥) → At c
  pub smallest : (d : ℕ) → At d → c ≤ d

module _ (n : ℕ) (t : List ℕ) (x p : ℕ) where
  abbrev pub Outside : Type 0
  Outside = Holds t x p × (n ≤ word t x p)

  abbrev pub AfterFree : Type 0
  AfterFree = Holds t x p × ((q : ℕ) × (q < p) × (word t x q ≡ free))

  abbrev pub Own : Type 0
  Own = Holds t x p × (word t x p ≡ x)

  abbrev pub NotAbove : Type 0
  NotAbove = Holds t x p × ((q : ℕ) × (suc q ≡ p) × Holds t x q × (word t x p ≤ word t x q))

  abbrev pub Unanswered : Type 0
  Unanswered = Holds t x p × (Bonded t (word t x p) x → ⊥)

  abbrev pub AtPlace : ℕ → Type 0
  AtPlace c = ((c ≡ 7) × Outside) ⊎ ((c ≡ 8) × AfterFree) ⊎ ((c ≡ 9) × Own) ⊎ ((c ≡ 10) × NotAbove)

abbrev pub NamesFirst : ℕ → List ℕ → Answer → Type 0
NamesFirst n t = FirstFault n (AtPlace n t) (Unanswered n t)
