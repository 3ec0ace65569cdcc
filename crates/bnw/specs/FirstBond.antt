-- What refusals 26 and 27 mean at a bond, and which fault is the first (document 01, "Numbered refusals").
--
--   Misplaced n bond k    26: an atom is not below n, the first is not below the second, or the bond is not after the previous one
--   NamesFirstBond n bond m a    the answer a names the first of m bonds at fault: 26 where the bond has both, and none earlier has either
use Rattle.std.specs.Prelude.{◌≡◌, ◌⊎◌, ℕ, suc, ◌≤◌, ◌<◌}
use Rattle.network.specs.declared.Answer.{Answer}
use Rattle.bonds.specs.Bonds.{Bond, EarlierBond, Ninth}

abbrev pub Misplaced : ℕ → (ℕ → Bond) → ℕ → Type 0
Misplaced n bond k =
    (n ≤ (bond k).first)
    ⊎ (n ≤ (bond k).second)
    ⊎ ((bond k).second ≤ (bond k).first)
    ⊎ ((j : ℕ) × (suc j ≡ k) × (EarlierBond (bond j) (bond k) → ⊥))

pub record NamesFirstBond (n : ℕ) (bond : ℕ → Bond) (m : ℕ) (a : Answer) : Type 0 where
  pub row : a.row ≡ 0
  pub place : a.place < m
  pub there : ((a.code ≡ 26) × Misplaced n bond a.place) ⊎ ((a.code ≡ 27) × (Misplaced n bond a.place → ⊥) × Ninth bond a.place)
  pub first : (j : ℕ) → j < a.place → (Misplaced n bond j → ⊥) × (Ninth bond j → ⊥)
