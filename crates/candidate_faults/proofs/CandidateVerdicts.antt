-- The verdict on a candidate at each way through the checks; it is accepted exactly where the candidate is a ring of 3 to 24
-- atoms in a network, and the distance buffer has n·n bytes.
use Rattle.std.proofs.Common.{◌≡◌, ◌≢◌, ◌↔◌, ◌⊎◌, inl, inr, refl, sym, ◌∙◌, ap, subst, Bool, true, false, eqb, List, ℕ, suc, ◌+◌, ◌-◌, ◌*◌, ◌%◌, ◌≤◌, ◌<◌, length, get_or, take, arith, mod-eq_of_lt, mod-lt, lt-ltb, le-ltb, leb-false, eq-eqb, eqb-true, get_or-take, length-take-le}
use Rattle.std.proofs.lemmas.Bool.{true≢false, false_from_ne_true, not-false, not_from_true}
use Rattle.std.proofs.lemmas.List.{get_or_default}
use Rattle.std.proofs.lemmas.List.Folds.{Any-from_list_any, list_any_at}
use Rattle.std.proofs.Math.Nat.{mod_self}
use Rattle.std.proofs.Math.Decide.{dec_lt}
use Rattle.std.proofs.lemmas.Bool.{lt-leb}
use Rattle.graph.specs.Graph.{Ring}
use Rattle.network.specs.declared.Answer.{Answer}
use Rattle.network.specs.Maxima.{places}
use Rattle.network.specs.Network.{Bonded, IsNetwork}
use Rattle.network.specs.Verdict.{answer, accepted, refusal, stands, in_row, sizes, verdict, faults}
use Rattle.network.specs.Chain.{Check, Sizes, Table}
use Rattle.network.proofs.Verdicts.{not_refused, not_long_lem, long, sized}
use Rattle.network.proofs.Chains.{check_long, check_passed, sizes_say, sizes_passed, table_says, table_passed}
use Rattle.network.proofs.Networks.{verdict_kept, verdict_passed, right_atoms, right_table, wrong_sizes}
use Rattle.network.proofs.Bonds.{ring_atoms}
use Rattle.network.proofs.Stands.{in_row_lem}
use Rattle.network.proofs.TableFaults.{found, finds}
use Rattle.ring.specs.Maxima.{ring_least, ring_most}
use Rattle.ring.specs.Writes.{not_ring}
use Rattle.ring.proofs.Readers.{long_enough, right_length}
use Rattle.candidate_faults.specs.Firsts.{first_of}
use Rattle.candidate_faults.specs.CandidateVerdict.{not_atom, seen_before, not_bonded, first_place, ring_verdict, candidate_verdict}
use Rattle.candidate_faults.specs.RightCandidate.{RightCandidate}
use Rattle.candidate_faults.proofs.Firsts.{first_of_lem, first_is}

abbrev code : Answer → ℕ
code a = a.code

-- one check of all places: it refuses at the first bad one, and where there is none what comes later decides
module _ (c k : ℕ) (bad : ℕ → Bool) where
  pub place_found : (x : ℕ) → x < k → bad x ≡ true → ((i : ℕ) → i < x → bad i ≡ false) → (later : Answer) → first_place c bad k later ≡ answer c 0 x
  place_found x l h none later = rw (← first_is bad k x (omega arith) (λ _. h) none) (simp (lt-ltb _ _ l))

  pub place_clean : ((i : ℕ) → i < k → bad i ≡ false) → (later : Answer) → first_place c bad k later ≡ later
  place_clean none later = let e : k ≤ k = omega arith in rw (← first_is bad k k e (λ l. absurd (omega arith)) none) (simp (le-ltb _ _ e))

  pub place_cases : ((x : ℕ) × (x < k) × (bad x ≡ true) × ((i : ℕ) → i < x → bad i ≡ false)) ⊎ ((i : ℕ) → i < k → bad i ≡ false)
  place_cases =
      let F = first_of_lem bad k 0 in
      elim (dec_lt (first_of bad k 0) k) [
        | yes l ↦ inl (first_of bad k 0, l, F.here (omega arith), λ i. F.none i (omega arith))
        | no l ↦ inr (λ i m. F.none i (omega arith) (omega arith))
      ]

  place_kept : (a : Answer) → a ≡ first_place c bad k accepted → (a.code ≡ 0 → ⊥) → (later : Answer) → a ≡ first_place c bad k later
  place_kept a e z later = elim place_cases [
    | inl f ↦ e ∙ place_found f.0 f.1 f.2 f.3 accepted ∙ sym (place_found f.0 f.1 f.2 f.3 later)
    | inr none ↦ absurd (z (ap code (e ∙ place_clean none accepted)))
  ]

  place_passed : (c ≡ 0 → ⊥) → accepted ≡ first_place c bad k accepted → (later : Answer) → first_place c bad k later ≡ later
  place_passed s e later = elim place_cases [
    | inl f ↦ absurd (s (sym (ap code (e ∙ place_found f.0 f.1 f.2 f.3 accepted))))
    | inr none ↦ place_clean none later
  ]

-- 14 to 17: a refusal ends the checks, and after one that accepts comes the next
pub says_14 : (n : ℕ) (t r : List ℕ) → not_ring (length r) ≡ true → refusal 14 ≡ ring_verdict n t r
unfolding ring_verdict
says_14 n t r h = rw h refl

module _ (n : ℕ) (t r : List ℕ) (size : not_ring (length r) ≡ false) where
  pub says_15 : (a : Answer) → a ≡ first_place 15 (not_atom n r) (length r) accepted → (a.code ≡ 0 → ⊥) → a ≡ ring_verdict n t r
  unfolding ring_verdict
  says_15 a e z = rw size (place_kept _ _ _ a e z _)

  module _ (clean_15 : accepted ≡ first_place 15 (not_atom n r) (length r) accepted) where
    pub says_16 : (a : Answer) → a ≡ first_place 16 (seen_before r) (length r) accepted → (a.code ≡ 0 → ⊥) → a ≡ ring_verdict n t r
    unfolding ring_verdict
    says_16 a e z = rw (size, place_passed _ _ _ (omega arith) clean_15) (place_kept _ _ _ a e z _)

    pub says_17 : accepted ≡ first_place 16 (seen_before r) (length r) accepted → (a : Answer) → a ≡ first_place 17 (not_bonded t r) (length r) accepted → a ≡ ring_verdict n t r
    unfolding ring_verdict
    says_17 clean_16 a e = rw (size, place_passed _ _ _ (omega arith) clean_15, place_passed _ _ _ (omega arith) clean_16) e

-- all checks, in the same way
module _ (n : ℕ) (t r d : List ℕ) where
  pub says_sizes : (a : Answer) → a ≡ sizes n t (λ b. b) accepted → (a.code ≡ 0 → ⊥) → a ≡ candidate_verdict n t r d
  unfolding candidate_verdict
  says_sizes a e z = wrong_sizes n t a e z _

  pub says_5 : accepted ≡ sizes n t (λ b. b) accepted → (length d ≡ n * n → ⊥) → refusal 5 ≡ candidate_verdict n t r d
  unfolding candidate_verdict
  says_5 e l = sym (sized n t (right_atoms n t accepted e refl) (right_table n t accepted e refl) _ ∙ rw (not_long_lem d (n * n) l) refl)

  module _ (room : length d ≡ n * n) where
    verdict_rest : candidate_verdict n t r d ≡ sizes n t (λ b. b) (faults n t (ring_verdict n t r))
    unfolding candidate_verdict
    verdict_rest = rw (long d (n * n) room) refl

    pub says_faults : (a : Answer) → a ≡ verdict n t → (a.code ≡ 0 → ⊥) → a ≡ candidate_verdict n t r d
    says_faults a e z = e ∙ sym (verdict_rest ∙ verdict_kept n t (ring_verdict n t r) (λ y. z (ap code e ∙ y)))

    pub says_rest : IsNetwork n t → (a : Answer) → a ≡ ring_verdict n t r → a ≡ candidate_verdict n t r d
    says_rest N a e = e ∙ sym (verdict_rest ∙ verdict_passed n t (ring_verdict n t r) N)

-- whether one atom stands in the row of another
module _ (n : ℕ) (t : List ℕ) (N : IsNetwork n t) (x y : ℕ) (lx : x < n) where
  looked : in_row t y x ≡ stands t y x places 0
  looked = in_row_lem t y x (omega (arith, N.whole)) (in_row t y x) refl

  pub bonded_of : y < n → in_row t y x ≡ true → Bonded t x y
  bonded_of ly h =
      let q = found t y x places 0 (sym looked ∙ h) in
      record { place = q.0; within_row = omega (arith, q.1); in_table = omega (arith, q.1, N.whole); stands = q.2; atom = λ e. omega (arith, N.counted.most) }

  pub of_bonded : Bonded t x y → in_row t y x ≡ true
  of_bonded b = looked ∙ finds t y x places 0 b.place (omega arith) (omega (arith, b.within_row)) b.stands

-- 16: none stands earlier
pub different_of : (r : List ℕ) (j : ℕ) → j < length r → seen_before r j ≡ false → (i : ℕ) → i < j → get_or r i 0 ≢ get_or r j 0
different_of r j m h i l e =
    let same : eqb (get_or (take j r) i 0) (get_or r j 0) ≡ true = rw (get_or-take j r i 0 l) (eq-eqb _ _ e) in
    absurd (true≢false (sym (list_any_at (λ x. eqb x (get_or r j 0)) (take j r) i 0 (omega (arith, length-take-le j r)) same) ∙ h))

pub seen_at : (r : List ℕ) (j : ℕ) → j < length r → seen_before r j ≡ true → (i : ℕ) × (i < j) × (get_or r i 0 ≡ get_or r j 0)
seen_at r j m h =
    let s = Any-from_list_any (λ x. eqb x (get_or r j 0)) (take j r) h in
    let l : s.0 < j = omega (arith, s.2, length-take-le j r) in
    (s.0, l, sym (get_or-take j r s.0 0 l) ∙ get_or_default (take j r) s.0 0 s.1 s.2 ∙ s.3 ∙ eqb-true _ _ s.4)

pub of_different : (r : List ℕ) (j : ℕ) → j < length r → ((i : ℕ) → i < j → get_or r i 0 ≢ get_or r j 0) → seen_before r j ≡ false
of_different r j m h = false_from_ne_true _ (λ e. let s = seen_at r j m e in h s.0 s.1 s.2)

-- 14 to 17 are not given exactly to rings
module _ (n : ℕ) (t : List ℕ) (N : IsNetwork n t) (r : List ℕ) where
  next_place : (i : ℕ) → suc i < length r → (i + 1) % length r ≡ suc i
  next_place i l = ap (λ x. x % length r) (let e : i + 1 ≡ suc i = omega arith in e) ∙ mod-eq_of_lt l

  last_place : (k : ℕ) → 0 < k → (k - 1 + 1) % k ≡ 0
  last_place k l = ap (λ x. x % k) (let e : k - 1 + 1 ≡ k = omega arith in e) ∙ mod_self k

  -- what the four checks say together
  record Sound : Type 0 where
    size : not_ring (length r) ≡ false
    inside : (i : ℕ) → i < length r → not_atom n r i ≡ false
    once : (i : ℕ) → i < length r → seen_before r i ≡ false
    joined : (i : ℕ) → i < length r → not_bonded t r i ≡ false

  ring_there : Sound → Ring (Bonded t) 0 r × (length r ≤ ring_most)
  ring_there S = (
    record {
      three = three;
      different = λ i j l m. different_of r j m (S.once j m) i l;
      next = λ i l. subst (λ y. Bonded t (get_or r i 0) (get_or r y 0)) (next_place i l) (bond i (omega arith));
      closes = subst (λ y. Bonded t (get_or r (length r - 1) 0) (get_or r y 0)) (last_place (length r) (omega (arith, three))) (bond (length r - 1) (omega (arith, three)));
    },
    (right_length (length r) S.size).1,
  )
    where
      three : ring_least ≤ length r
      three = (right_length (length r) S.size).0

      below : (i : ℕ) → i < length r → get_or r i 0 < n
      below i l = leb-false n (get_or r i 0) (S.inside i l)

      bond : (i : ℕ) → i < length r → Bonded t (get_or r i 0) (get_or r ((i + 1) % length r) 0)
      bond i l = bonded_of n t N (get_or r i 0) (get_or r ((i + 1) % length r) 0) (below i l) (below ((i + 1) % length r) (mod-lt (i + 1) (omega arith))) (not-false _ (S.joined i l))

  of_ring : Ring (Bonded t) 0 r → length r ≤ ring_most → Sound
  of_ring R most = record {
    size = long_enough (length r) R.three most;
    inside = λ i l. lt-leb n (get_or r i 0) (ring_atoms n t N r R i l);
    once = λ j m. of_different r j m (λ i l. R.different i j l m);
    joined = λ i l. not_from_true _ (of_bonded n t N _ _ (ring_atoms n t N r R i l) (bond i l));
  }
    where
      bond : (i : ℕ) → i < length r → Bonded t (get_or r i 0) (get_or r ((i + 1) % length r) 0)
      bond i l =
          elim (dec_lt (suc i) (length r)) [
            | yes m ↦ subst (λ y. Bonded t (get_or r i 0) (get_or r y 0)) (sym (next_place i m)) (R.next i m)
            | no m ↦ (let e : i ≡ length r - 1 = omega arith in
                rw e (subst (λ y. Bonded t (get_or r (length r - 1) 0) (get_or r y 0)) (sym (last_place (length r) (omega arith))) R.closes))
          ]

  sound_says : Sound → ring_verdict n t r ≡ accepted
  unfolding ring_verdict
  sound_says S = rw S.size (place_clean 15 _ _ S.inside _ ∙ place_clean 16 _ _ S.once _ ∙ place_clean 17 _ _ S.joined _)

  places_passed : (c k : ℕ) (bad : ℕ → Bool) (later : Answer) → (c ≡ 0 → ⊥) → (first_place c bad k later).code ≡ 0 → ((i : ℕ) → i < k → bad i ≡ false) × (later.code ≡ 0)
  places_passed c k bad later z e = elim (place_cases c k bad) [
    | inl f ↦ absurd (z (sym (ap code (place_found c k bad f.0 f.1 f.2 f.3 later)) ∙ e))
    | inr none ↦ (none, sym (ap code (place_clean c k bad none later)) ∙ e)
  ]

  sound_of : (ring_verdict n t r).code ≡ 0 → Sound
  unfolding ring_verdict
  sound_of z =
      let a = not_refused 14 _ _ (omega arith) z in
      let b = places_passed 15 (length r) (not_atom n r) _ (omega arith) a.1 in
      let c = places_passed 16 (length r) (seen_before r) _ (omega arith) b.1 in
      let d = places_passed 17 (length r) (not_bonded t r) _ (omega arith) c.1 in
      record { size = a.0; inside = b.0; once = c.0; joined = d.0 }

  pub ring_exactly : ((ring_verdict n t r).code ≡ 0) ↔ (Ring (Bonded t) 0 r × (length r ≤ ring_most))
  ring_exactly = (λ z. ring_there (sound_of z), λ h. ap code (sound_says (of_ring h.0 h.1)))

module _ (n : ℕ) (t r d : List ℕ) where
  -- the checks of the candidate come last
  in_chain : Sizes n t (λ Later. Later) (Check 5 (length d ≡ n * n) (Table n t (λ a. a ≡ ring_verdict n t r))) (candidate_verdict n t r d)
  unfolding candidate_verdict
  in_chain = sizes_say n t _ _ λ C w. check_long 5 d (n * n) _ _ λ _. table_says n t (ring_verdict n t r) (λ a. a ≡ ring_verdict n t r) C w (λ _. refl)

  accepted_of : (candidate_verdict n t r d).code ≡ 0 → RightCandidate n t r d
  accepted_of z =
      let five = check_passed 5 _ _ _ (omega arith) (sizes_passed n t _ _ in_chain z).2 z in
      let table = table_passed n t _ _ five.1 z in
      let R = (ring_exactly n t table.0 r).0 (ap code (sym table.1) ∙ z) in
      record { network = table.0; room = five.0; ring = R.0; most = R.1 }

  of_accepted : RightCandidate n t r d → (candidate_verdict n t r d).code ≡ 0
  of_accepted A = ap code (verdict_rest n t r d A.room ∙ verdict_passed n t (ring_verdict n t r) A.network) ∙ (ring_exactly n t A.network r).1 (A.ring, A.most)

  pub accepted_exactly : ((candidate_verdict n t r d).code ≡ 0) ↔ RightCandidate n t r d
  accepted_exactly = (accepted_of, of_accepted)
