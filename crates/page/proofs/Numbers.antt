-- A number in decimal: written digit by digit; what its digits spell; how many it has.
use Rattle.std.proofs.Common.{◌≡◌, refl, ◌∙◌, ap, ℕ, zero, suc, ◌+◌, ◌-◌, ◌*◌, ◌/◌, ◌%◌, ◌^◌, ◌≤◌, ◌<◌, List, [], ◌∷◌, ◌++◌, length, arith, length-append, pow-suc, lt-ltb, le-ltb}
use native.Mathlib.Decide.{dec_lt}
use Rattle.page.specs.Numbers.{digits, digits_most, number, value_of}

-- a number below ten is one digit
pub number_one : (n : ℕ) → n < 10 → number n ≡ (48 + n % 10) ∷ []
unfolding digits
number_one n h = rw (lt-ltb _ _ h) refl

-- more digits than a number has make no difference
digits_enough : (left n : ℕ) → n < 10 ^ suc left → digits (suc left) n ≡ digits (suc (suc left)) n
unfolding digits
digits_enough zero n h = rw (lt-ltb n 10 h) refl
digits_enough (suc left) n h =
    elim (dec_lt n 10) [
      | yes l ↦ rw (lt-ltb _ _ l) refl
      | no l ↦ (let k : 10 ≤ n = omega arith in
          rw (le-ltb _ _ k) (ap (λ (ds : List ℕ). ds ++ ((48 + n % 10) ∷ [])) (digits_enough left (n / 10) (omega (arith, pow-suc 10 (suc left))))))
    ]

-- any other is its tenth, and then a digit
pub number_more : (n : ℕ) → 10 ≤ n → n < 2 ^ 64 → number n ≡ number (n / 10) ++ ((48 + n % 10) ∷ [])
unfolding digits
number_more n h l = rw (le-ltb _ _ h) (ap (λ (ds : List ℕ). ds ++ ((48 + n % 10) ∷ [])) (digits_enough 18 (n / 10) (omega arith)))

value_join : (xs ys : List ℕ) (v : ℕ) → value_of v (xs ++ ys) ≡ value_of (value_of v xs) ys
unfolding value_of
value_join [] ys v = refl
value_join (x ∷ xs) ys v = value_join xs ys (v * 10 + (x - 48))

digits_spell : (left n : ℕ) → n < 10 ^ left → value_of 0 (digits left n) ≡ n
unfolding digits value_of
digits_spell zero n h = omega arith
digits_spell (suc left) n h =
    elim (dec_lt n 10) [
      | yes l ↦ rw (lt-ltb _ _ l) (omega arith)
      | no l ↦ (let k : 10 ≤ n = omega arith in
          rw (le-ltb _ _ k)
          (value_join (digits left (n / 10)) ((48 + n % 10) ∷ []) 0
          ∙ ap (λ (v : ℕ). v * 10 + (48 + n % 10 - 48)) (digits_spell left (n / 10) (omega (arith, pow-suc 10 left)))
          ∙ omega arith))
    ]

-- every number of the machine is spelt by its decimal
pub number_spells : (n : ℕ) → n < 2 ^ 64 → value_of 0 (number n) ≡ n
number_spells n h = digits_spell digits_most n (omega arith)

digits_length : (left n : ℕ) → length (digits left n) ≤ left
unfolding digits
digits_length zero n = omega arith
digits_length (suc left) n =
    elim (dec_lt n 10) [
      | yes l ↦ rw (lt-ltb _ _ l) (omega arith)
      | no l ↦ (let k : 10 ≤ n = omega arith in
          rw (le-ltb _ _ k) (omega (arith, digits_length left (n / 10), length-append (digits left (n / 10)) ((48 + n % 10) ∷ []))))
    ]

number_length : (n : ℕ) → length (number n) ≤ digits_most
number_length n = digits_length digits_most n

-- a number below a power of ten
pub digits_short : (left d n : ℕ) → n < 10 ^ suc d → length (digits left n) ≤ suc d
unfolding digits
digits_short zero d n h = omega arith
digits_short (suc left) zero n h = rw (lt-ltb n 10 h) (omega arith)
digits_short (suc left) (suc d) n h =
    elim (dec_lt n 10) [
      | yes l ↦ rw (lt-ltb _ _ l) (omega arith)
      | no l ↦ (let k : 10 ≤ n = omega arith in
          rw (le-ltb _ _ k)
          (omega (arith, digits_short left d (n / 10) (omega (arith, pow-suc 10 (suc d))), length-append (digits left (n / 10)) ((48 + n % 10) ∷ []))))
    ]

pub named_length : (name : List ℕ) (n : ℕ) → length (name ++ number n) ≤ length name + digits_most
named_length name n = omega (arith, length-append name (number n), number_length n)
