-- The first number that passes a test.
use Rattle.std.proofs.Common.{◌≡◌, refl, sym, ◌∙◌, Bool, true, false, cond, ℕ, zero, suc, ◌+◌, ◌≤◌, ◌<◌, arith}
use Rattle.std.proofs.lemmas.Bool.{true≢false}
use Rattle.std.proofs.Math.Decide.{ℕ_discrete, dec_lt}
use Rattle.candidate_faults.specs.Firsts.{first_of}

-- r is the first of the numbers from i below b that passes p, or b
pub record First (p : ℕ → Bool) (i b r : ℕ) : Type 0 where
  pub low : i ≤ r
  pub high : r ≤ b
  pub here : r < b → p r ≡ true
  pub none : (x : ℕ) → i ≤ x → x < r → p x ≡ false

pub first_of_lem : (p : ℕ → Bool) (m i : ℕ) → First p i (i + m) (first_of p m i)
unfolding first_of
first_of_lem p zero i = record { low = omega arith; high = omega arith; here = λ l. absurd (omega arith); none = λ x l k. absurd (omega arith) }
first_of_lem p (suc m) i = go (p i) refl (first_of_lem p m (i + 1))
  where
    go : (b : Bool) → p i ≡ b → First p (i + 1) (i + 1 + m) (first_of p m (i + 1)) → First p i (i + suc m) (cond (p i) i (first_of p m (i + 1)))
    go true e F = rw e (record { low = omega arith; high = omega arith; here = λ _. e; none = λ x l k. absurd (omega arith) })
    go false e F = rw e (record {
      low = omega (arith, F.low);
      high = omega (arith, F.high);
      here = λ l. F.here (omega arith);
      none = λ x l k. elim (ℕ_discrete x i) [ yes q ↦ rw q e | no q ↦ F.none x (omega arith) k ];
    })

-- and there is no other
pub first_is : (p : ℕ → Bool) (k x : ℕ) → x ≤ k → (x < k → p x ≡ true) → ((i : ℕ) → i < x → p i ≡ false) → x ≡ first_of p k 0
first_is p k x high here none =
    let F = first_of_lem p k 0 in
    elim (dec_lt x (first_of p k 0)) [
      | yes l ↦ absurd (true≢false (sym (here (omega (arith, F.high))) ∙ F.none x (omega arith) l))
      | no l ↦ elim (dec_lt (first_of p k 0) x) [
        | yes m ↦ absurd (true≢false (sym (F.here (omega (arith, high))) ∙ none (first_of p k 0) m))
        | no m ↦ omega arith
      ]
    ]
