-- The first fault, bond by bond, as it is computed and as what an answer says.
--
--   or_at c k later        fault c with place k; 0 is none, and what comes later decides
--   first_bond fault m k   the first fault among the m bonds from k on
--   BondByBond Fault m Later a    refusal c at row 0 and place k, where `Fault k c` says it of the first bond at fault; else none of the m bonds has
--                          one, and what comes later says
use Rattle.std.specs.Prelude.{◌≡◌, ◌⊎◌, ℕ, zero, suc, ◌+◌, ◌<◌}
use Rattle.network.specs.declared.Answer.{Answer}
use Rattle.network.specs.Chain.{Answers}
use Rattle.network.specs.Verdict.{answer, accepted}

unfoldable pub or_at : ℕ → ℕ → Answer → Answer
or_at zero k later = later
or_at (suc c) k later = answer (suc c) 0 k

unfoldable pub first_bond : (ℕ → ℕ) → ℕ → ℕ → Answer
first_bond fault zero k = accepted
first_bond fault (suc m) k = or_at (fault k) k (first_bond fault m (k + 1))

unfoldable pub BondByBond : (ℕ → ℕ → Type 0) → ℕ → Answers → Answers
BondByBond Fault m Later a =
    ((k : ℕ) × (c : ℕ) × (k < m) × Fault k c × ((j : ℕ) → j < k → (d : ℕ) → Fault j d → ⊥) × (a ≡ answer c 0 k))
    ⊎ (((k : ℕ) → k < m → (c : ℕ) → Fault k c → ⊥) × Later a)
