-- The scan of a table, from the start and from where a loop stands.
use mathlib.Core.Path.{◌≡◌, refl, sym, ◌∙◌}
use Prim.Native.Nat.{ℕ, zero, suc, ◌+◌, ◌-◌, ◌/◌, ◌%◌, ◌≤◌, ◌<◌}
use native.Mathlib.Nat.{sub-zero}
use native.Mathlib.Omega.{arith}
use Rattle.network.specs.declared.Answer.{Answer}
use Rattle.network.specs.Maxima.{places}
use Rattle.network.specs.Verdict.{first_fault, or_else, answer}

given : (c i : ℕ) (later : Answer) → (c ≡ 0 → ⊥) → or_else c i later ≡ answer c (i / places) (i % places)
unfolding or_else
given zero i later z = absurd (z refl)
given (suc c) i later z = refl

-- the answer from the start is the answer from word i on
pub fault_start : (fault : ℕ → ℕ) (m : ℕ) (later : Answer) → first_fault fault m 0 later ≡ first_fault fault (m - 0) 0 later
fault_start fault m later = rw sub-zero

module _ (fault : ℕ → ℕ) (m i : ℕ) (later : Answer) (so_far : first_fault fault m 0 later ≡ first_fault fault (m - i) i later) (c : ℕ) (h : c ≡ fault i) where
  pub fault_here : i < m → (c ≡ 0 → ⊥) → answer c (i / places) (i % places) ≡ first_fault fault m 0 later
  unfolding first_fault
  fault_here l z = let e : m - i ≡ suc (m - (i + 1)) = omega arith in sym (so_far ∙ rw (e, ← h) (given c i _ z))

  pub fault_next : i < m → c ≡ 0 → first_fault fault m 0 later ≡ first_fault fault (m - (i + 1)) (i + 1) later
  unfolding first_fault or_else
  fault_next l z = let e : m - i ≡ suc (m - (i + 1)) = omega arith in so_far ∙ rw (e, ← h, z) refl

pub fault_never : (fault : ℕ → ℕ) (m i : ℕ) (later a : Answer) → first_fault fault m 0 later ≡ first_fault fault (m - i) i later → m ≤ i → a ≡ later → a ≡ first_fault fault m 0 later
unfolding first_fault
fault_never fault m i later a so_far l h = let e : m - i ≡ 0 = omega arith in h ∙ sym (so_far ∙ rw e refl)
