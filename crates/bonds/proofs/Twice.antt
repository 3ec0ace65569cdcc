-- Each bond stands in two rows.
use Rattle.std.proofs.Common.{◌≡◌, refl, ◌∙◌, ap, cond, List, [], ◌∷◌, ◌++◌, ℕ, zero, suc, ◌+◌, ◌*◌, ◌<◌, add-one, arith, ltb, length, length-append, lt-ltb, le-ltb}
use mathlib.Core.List.Memᴰ
use native.Mathlib.Decide.{ℕ_discrete, dec_lt}
use Rattle.graph.specs.Lists.{◌∈◌, gather, numbers_from}
use Rattle.bonds.specs.Bonds.{Bond, partner, partners}
use Rattle.bonds.proofs.Runs.{length_more}
use Rattle.bonds.proofs.Partners.{partner_first, partner_second, partner_none}

both : {A B : Type 0} (f g : A → List B) (xs : List A) → length (gather (λ x. f x ++ g x) xs) ≡ length (gather f xs) + length (gather g xs)
both f g [] = refl
both f g (x ∷ xs) =
    length-append (f x ++ g x) (gather (λ y. f y ++ g y) xs)
    ∙ omega (arith, length-append (f x) (g x), both f g xs, length-append (f x) (gather f xs), length-append (g x) (gather g xs))

-- 1 where a is one of the numbers below n, else 0
abbrev among : ℕ → ℕ → ℕ
among a n = cond (ltb a n) 1 0

among_here : (a n : ℕ) → a ≡ n → among a (suc n) ≡ suc (among a n)
among_here a n e = rw (lt-ltb a (suc n) (omega arith), le-ltb a n (omega arith)) refl

among_else : (a n : ℕ) → (a ≡ n → ⊥) → among a (suc n) ≡ among a n
among_else a n e = elim (dec_lt a n) [ yes l ↦ rw (lt-ltb a (suc n) (omega arith), lt-ltb a n l) refl | no l ↦ rw (le-ltb a (suc n) (omega (arith, e)), le-ltb a n (omega arith)) refl ]

module _ (b : Bond) (apart : b.first ≡ b.second → ⊥) where
  two_among : (n : ℕ) → length (gather (λ x. partner x b) (numbers_from n 0)) ≡ among b.first n + among b.second n
  two_among zero = rw (le-ltb b.first 0 (omega arith), le-ltb b.second 0 (omega arith)) refl
  two_among (suc n) = rw add-one at (length_more (λ x. partner x b) n) ∙ go (ℕ_discrete b.first n) (ℕ_discrete b.second n) (two_among n)
    where
      go : Dec (b.first ≡ n) → Dec (b.second ≡ n) → length (gather (λ x. partner x b) (numbers_from n 0)) ≡ among b.first n + among b.second n
          → length (gather (λ x. partner x b) (numbers_from n 0)) + length (partner n b) ≡ among b.first (suc n) + among b.second (suc n)
      go (yes e) (yes d) ih = absurd (apart (omega arith))
      go (yes e) (no d) ih = omega (arith, ap length (partner_first n b _ refl e), among_here b.first n e, among_else b.second n d)
      go (no e) (yes d) ih = omega (arith, ap length (partner_second n b _ refl e _ refl d), among_else b.first n e, among_here b.second n d)
      go (no e) (no d) ih = omega (arith, ap length (partner_none n b _ refl e _ refl d), among_else b.first n e, among_else b.second n d)

  two : (n : ℕ) → b.first < n → b.second < n → length (gather (λ x. partner x b) (numbers_from n 0)) ≡ 2
  two n h k = two_among n ∙ rw (lt-ltb b.first n h, lt-ltb b.second n k) refl

pub twice : (n : ℕ) (bonds : List Bond) → ((b : Bond) → b ∈ bonds → (b.first ≡ b.second → ⊥) × (b.first < n) × (b.second < n)) → length (gather (partners bonds) (numbers_from n 0)) ≡ 2 * length bonds
unfolding partners
twice n [] h = none n 0
  where
    none : (m a : ℕ) → length (gather {A = ℕ} {B = ℕ} (λ x. []) (numbers_from m a)) ≡ 0
    none zero a = refl
    none (suc m) a = none m (suc a)
twice n (b ∷ bonds) h =
    let r = h b (Memᴰ.head refl) in
    both (λ x. partner x b) (partners bonds) (numbers_from n 0) ∙ omega (arith, two b r.0 n r.1 r.2, twice n bonds (λ c m. h c (Memᴰ.tail m)))
