-- How long the texts are at most: in the line of a ring, whose length has at most two digits and whose atoms have at most three, it is
-- five bytes for each word of the list.
use Rattle.std.proofs.Common.{refl, true, false, cond, List, [], ◌∷◌, ◌++◌, ℕ, suc, ◌+◌, ◌*◌, ◌≤◌, ◌<◌, arith, eqb, length, length-append}
use mathlib.Core.List.Memᴰ
use Rattle.graph.specs.Lists.{◌∈◌, gather}
use Rattle.graph.specs.Counts.{words_of}
use Rattle.network.specs.declared.Answer.{Answer}
use Rattle.page.specs.Numbers.{digits_most, number}
use Rattle.page.proofs.Numbers.{digits_short, named_length}
use Rattle.text.specs.Lines.{space, newline, atoms_name, bonds_name, ring_name, count_name, total_name, refused_name, sizes_text, ring_text, count_text, counts_text, total_text, refusal_text}

pub sizes_length : (n bonds : ℕ) → length (sizes_text n bonds) ≤ 54
unfolding sizes_text
sizes_length n bonds =
    omega (
      arith,
      length-append (atoms_name ++ number n) ((bonds_name ++ number bonds) ++ newline),
      length-append (bonds_name ++ number bonds) newline,
      named_length atoms_name n,
      named_length bonds_name bonds,
    )

pub refusal_length : (a : Answer) → length (refusal_text a) ≤ 71
unfolding refusal_text
refusal_length a =
    omega (
      arith,
      length-append (refused_name ++ number a.code) ((space ++ number a.row) ++ ((space ++ number a.place) ++ newline)),
      length-append (space ++ number a.row) ((space ++ number a.place) ++ newline),
      length-append (space ++ number a.place) newline,
      named_length refused_name a.code,
      named_length space a.row,
      named_length space a.place,
    )

pub total_length : (rings : ℕ) → length (total_text rings) ≤ 27
unfolding total_text
total_length rings = omega (arith, length-append (total_name ++ number rings) newline, named_length total_name rings)

count_length : (k rings : ℕ) → length (count_text k rings) ≤ 48
unfolding count_text
count_length k rings =
    elim (eqb rings 0) as (λ none. length (cond none [] ((count_name ++ number k) ++ ((space ++ number rings) ++ newline))) ≤ 48) [
      | true ↦ omega arith
      | false ↦ omega (arith, length-append (count_name ++ number k) ((space ++ number rings) ++ newline), length-append (space ++ number rings) newline, named_length count_name k, named_length space rings)
    ]

pub counts_length : (k : ℕ) (cs : List ℕ) → length (counts_text k cs) ≤ 48 * length cs
unfolding counts_text
counts_length k [] = omega arith
counts_length k (c ∷ cs) = omega (arith, length-append (count_text k c) (counts_text (k + 1) cs), count_length k c, counts_length (k + 1) cs)

-- a ring whose line is at most five bytes for each of its words
pub record Short (r : List ℕ) : Type 0 where
  pub three : 3 ≤ length r
  pub few : length r < 100
  pub atoms : (a : ℕ) → a ∈ r → a < 1000

atoms_length : (r : List ℕ) → ((a : ℕ) → a ∈ r → a < 1000) → length (gather (λ a. space ++ number a) r) ≤ 4 * length r
atoms_length [] below = omega arith
atoms_length (a ∷ r) below =
    omega (
      arith,
      length-append (space ++ number a) (gather (λ a. space ++ number a) r),
      length-append space (number a),
      digits_short digits_most 2 a (below a (Memᴰ.head refl)),
      atoms_length r (λ b m. below b (Memᴰ.tail m)),
    )

ring_length : (r : List ℕ) → Short r → length (ring_text r) ≤ 5 * suc (length r)
unfolding ring_text
ring_length r S =
    omega (
      arith,
      length-append (ring_name ++ number (length r)) (gather (λ a. space ++ number a) r ++ newline),
      length-append ring_name (number (length r)),
      length-append (gather (λ a. space ++ number a) r) newline,
      digits_short digits_most 1 (length r) S.few,
      atoms_length r S.atoms,
      S.three,
    )

pub rings_length : (rings : List (List ℕ)) → ((r : List ℕ) → r ∈ rings → Short r) → length (gather ring_text rings) ≤ 5 * words_of rings
rings_length [] short = omega arith
rings_length (r ∷ rings) short =
    omega (arith, length-append (ring_text r) (gather ring_text rings), ring_length r (short r (Memᴰ.head refl)), rings_length rings (λ s m. short s (Memᴰ.tail m)))
