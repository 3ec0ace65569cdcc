-- 18 is given at the first bad name, and names without one are one-to-one.
use Rattle.std.proofs.Common.{◌≡◌, refl, sym, ◌∙◌, subst, ◌⊎◌, inl, inr, ◌==◌, Bool, true, false, cond, List, ℕ, zero, suc, ◌+◌, ◌≤◌, ◌<◌, length, take, Decides, arith, length-take-le, get_or-take, eq-eqb, eqb-true}
use Rattle.std.specs.List.{list_any}
use Rattle.std.proofs.lemmas.Bool.Decides.{nat_tests, Decides-or, not_from_Decides}
use Rattle.std.proofs.lemmas.List.{get_or_default}
use Rattle.std.proofs.lemmas.List.Folds.{Any-from_list_any, list_any_at}
use native.Mathlib.Decide.{dec_le, ℕ_discrete}
use Rattle.network.specs.declared.Answer.{Answer}
use Rattle.network.specs.Verdict.{answer, accepted}
use Rattle.network.specs.Chain.{PlaceByPlace, Accepted}
use Rattle.network.proofs.Chains.{one_accepted, one_places, places_at, places_right, places_passed}
use Rattle.names.specs.Names.{name, OneToOne, BadName, bad_name, name_faults}

-- the computed test is the fault
module _ (n : ℕ) (names : List ℕ) (i : ℕ) (within : i < length names) where
  seen_decides : Decides (list_any (λ w. w == name names i) (take i names)) ((j : ℕ) × (j < i) × (name names j ≡ name names i))
  seen_decides = (of_seen, λ r. list_any_at _ (take i names) r.0 0 (omega (arith, length-take-le i names (omega arith), r.1)) (eq-eqb _ _ (get_or-take i names r.0 0 r.1 ∙ r.2)))
    where
      of_seen : list_any (λ w. w == name names i) (take i names) ≡ true → (j : ℕ) × (j < i) × (name names j ≡ name names i)
      of_seen s =
          let r = Any-from_list_any _ (take i names) s in
          let l : r.0 < i = omega (arith, length-take-le i names (omega arith), r.2) in
          (r.0, l, get_or_default names r.0 0 r.1 (omega (arith, l)) ∙ sym (get_or-take i names r.0 r.1 l) ∙ r.3 ∙ eqb-true _ _ r.4)

  bad_decides : Decides (bad_name n names i) (BadName n names i)
  unfolding bad_name
  bad_decides = Decides-or _ _ (grind (arith, nat_tests)) seen_decides

-- the scan: the first bad name of the k from i on, or none of them is
record Found (n : ℕ) (names : List ℕ) (k i : ℕ) (a : Answer) : Type 0 where
  at : ℕ
  low : i ≤ at
  high : at < i + k
  bad : BadName n names at
  none : (j : ℕ) → i ≤ j → j < at → BadName n names j → ⊥
  is : a ≡ answer 18 0 at

record None (n : ℕ) (names : List ℕ) (k i : ℕ) (a : Answer) : Type 0 where
  none : (j : ℕ) → i ≤ j → j < i + k → BadName n names j → ⊥
  is : a ≡ accepted

scan : (n : ℕ) (names : List ℕ) (k i : ℕ) → i + k ≤ length names → Found n names k i (name_faults n names k i accepted) ⊎ None n names k i (name_faults n names k i accepted)
unfolding name_faults
scan n names zero i within = inr (record { none = λ j l m. absurd (omega arith); is = refl })
scan n names (suc k) i within = go (bad_name n names i) refl (name_faults n names k (i + 1) accepted) (scan n names k (i + 1) (omega arith))
  where
    decides : Decides (bad_name n names i) (BadName n names i)
    decides = bad_decides n names i (omega arith)

    go : (b : Bool) → bad_name n names i ≡ b → (a : Answer) → Found n names k (i + 1) a ⊎ None n names k (i + 1) a
        → Found n names (suc k) i (cond b (answer 18 0 i) a) ⊎ None n names (suc k) i (cond b (answer 18 0 i) a)
    go true e a _ = inl (record { at = i; low = omega arith; high = omega arith; bad = decides.0 e; none = λ j l m. absurd (omega arith); is = refl })
    go false e a (inl r) = inl (record {
      at = r.at;
      low = omega (arith, r.low);
      high = omega (arith, r.high);
      bad = r.bad;
      none = λ j l m. elim (ℕ_discrete j i) [ yes d ↦ rw d (not_from_Decides _ decides e) | no d ↦ r.none j (omega arith) m ];
      is = r.is;
    })
    go false e a (inr r) = inr (record {
      none = λ j l m. elim (ℕ_discrete j i) [ yes d ↦ rw d (not_from_Decides _ decides e) | no d ↦ r.none j (omega arith) (omega arith) ];
      is = r.is;
    })

module _ (n : ℕ) (names : List ℕ) (long : length names ≡ n) where
  -- 18 at the first place that is bad
  pub names_say : PlaceByPlace 18 (BadName n names) n Accepted (name_faults n names (length names) 0 accepted)
  names_say = go (scan n names (length names) 0 (omega arith))
    where
      go : {a : Answer} → Found n names (length names) 0 a ⊎ None n names (length names) 0 a → PlaceByPlace 18 (BadName n names) n Accepted a
      go (inl r) =
          subst (PlaceByPlace 18 (BadName n names) n Accepted) (sym r.is)
          (places_at 18 (BadName n names) n Accepted r.at (omega (arith, r.high)) r.bad (λ i l. r.none i (omega arith) l))
      go (inr r) = places_right 18 (BadName n names) n Accepted _ (λ i l. r.none i (omega arith) (omega arith)) r.is

  pub one_to_one_of : (name_faults n names (length names) 0 accepted).code ≡ 0 → OneToOne n names
  one_to_one_of z =
      let none = (places_passed 18 (BadName n names) n Accepted _ (omega arith) names_say z).0 in
      record {
        long = long;
        below = λ x l. elim (dec_le n (name names x)) [ yes m ↦ absurd (none x l (inl m)) | no m ↦ omega arith ];
        apart = λ x y l m e. none y m (inr (x, l, e));
      }

  pub accepted_names : OneToOne n names → name_faults n names (length names) 0 accepted ≡ accepted
  accepted_names O = one_places 18 (BadName n names) n Accepted one_accepted _ _ names_say (places_right 18 (BadName n names) n Accepted accepted not_bad refl)
    where
      not_bad : (i : ℕ) → i < n → BadName n names i → ⊥
      not_bad i m (inl l) = omega (arith, O.below i m)
      not_bad i m (inr s) = O.apart s.0 i s.1 m s.2
