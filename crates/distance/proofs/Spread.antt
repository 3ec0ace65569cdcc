-- What a pass does to a row: an entry stays, and a new one has the value given and a reason.
use Rattle.std.proofs.Common.{◌≡◌, refl, sym, ◌∙◌, List, ℕ, zero, suc, ◌+◌, ◌≤◌, ◌<◌, arith, length, get_or, set, length-set, get_or-set_same, get_or-set_other, eq-eqb, ne_eqb}
use native.Mathlib.Decide.{ℕ_discrete}
use Rattle.network.specs.Maxima.{places, free}
use Rattle.network.specs.Network.{word, Holds, IsNetwork}
use Rattle.distance.specs.Distances.{no_path}
use Rattle.distance.specs.Levels.{offer, give, visit, level}
use Rattle.distance.proofs.Fills.{offer_taken, offer_set}

pub record Spread (e : ℕ) (Reason : ℕ → Type 0) (old new : List ℕ) : Type 0 where
  pub long : length new ≡ length old
  pub keeps : (w : ℕ) → (get_or old w 0 ≡ no_path → ⊥) → get_or new w 0 ≡ get_or old w 0
  pub sound : (w : ℕ) → get_or old w 0 ≡ no_path → (get_or new w 0 ≡ no_path → ⊥) → (get_or new w 0 ≡ e) × Reason w

module _ (e : ℕ) (Reason : ℕ → Type 0) where
  spread_none : (row : List ℕ) → Spread e Reason row row
  spread_none row = record { long = refl; keeps = λ w h. refl; sound = λ w h z. absurd (z h) }

  spread_more : (a b c : List ℕ) → Spread e Reason a b → Spread e Reason b c → Spread e Reason a c
  spread_more a b c f g = record {
    long = g.long ∙ f.long;
    keeps = λ w h. g.keeps w (λ z. h (sym (f.keeps w h) ∙ z)) ∙ f.keeps w h;
    sound = λ w h z. elim (ℕ_discrete (get_or b w 0) no_path) [
      | yes k ↦ g.sound w k z
      | no k ↦ (let r = f.sound w h k in (g.keeps w k ∙ r.0, r.1))
    ];
  }

  spread_set : (row : List ℕ) (w : ℕ) → w < length row → get_or row w 0 ≡ no_path → Reason w → Spread e Reason row (set row w e)
  spread_set row w l h r = record {
    long = length-set row w e;
    keeps = λ u k. get_or-set_other row w u e 0 (λ d. k (rw d h));
    sound = λ u k z. elim (ℕ_discrete u w) [
      | yes d ↦ (rw d (get_or-set_same row w e 0 l), rw d r)
      | no d ↦ absurd (z (get_or-set_other row w u e 0 d ∙ k))
    ];
  }

  spread_offer : (row : List ℕ) (w : ℕ) → w < length row → Reason w → Spread e Reason row (offer e row w)
  spread_offer row w l r =
      elim (ℕ_discrete (get_or row w 0) no_path) [
        | yes h ↦ rw (offer_set e row w h) (spread_set row w l h r)
        | no h ↦ rw (offer_taken e row w h) (spread_none row)
      ]

  -- every neighbour of v fits into the row and has a reason
  abbrev Given : List ℕ → ℕ → ℕ → List ℕ → Type 0
  Given t v m row = (q : ℕ) → q < m → Holds t v q → (word t v q < length row) × Reason (word t v q)

  spread_give : (t : List ℕ) (v k p : ℕ) (row : List ℕ) → Given t v (p + k) row → Spread e Reason row (give t v e k p row)
  unfolding give
  spread_give t v zero p row r = spread_none row
  spread_give t v (suc k) p row r =
      elim (ℕ_discrete (word t v p) free) [
        | yes z ↦ rw (eq-eqb _ _ z) (spread_none row)
        | no z ↦ (let here = r p (omega arith) z in
            let one = spread_offer row (word t v p) here.0 here.1 in
            rw (ne_eqb _ _ z) (spread_more _ _ _ one (spread_give t v k (p + 1) _ (λ q l h. let s = r q (omega arith) h in (rw one.long s.0, s.1)))))
      ]

  taken_kept : (a b : List ℕ) → Spread e Reason a b → (w : ℕ) → (get_or a w 0 ≡ no_path → ⊥) → get_or b w 0 ≡ no_path → ⊥
  taken_kept a b s w h z = h (sym (s.keeps w h) ∙ z)

  offered : (row : List ℕ) (w : ℕ) → e < no_path → w < length row → get_or (offer e row w) w 0 ≡ no_path → ⊥
  offered row w d l z =
      elim (ℕ_discrete (get_or row w 0) no_path) [
        | yes h ↦ omega (arith, get_or-set_same row w e 0 l, rw (offer_set e row w h) at z)
        | no h ↦ h (rw (offer_taken e row w h) at z)
      ]

  -- a neighbour before which no place is free has an entry
  gave : (t : List ℕ) (v k p : ℕ) (row : List ℕ) → e < no_path → Given t v (p + k) row → (q : ℕ) → p ≤ q → q < p + k
      → ((r : ℕ) → r ≤ q → Holds t v r) → get_or (give t v e k p row) (word t v q) 0 ≡ no_path → ⊥
  unfolding give
  gave t v zero p row d r q l m h = absurd (omega arith)
  gave t v (suc k) p row d r q l m h =
      let held = h p l in
      let here = r p (omega arith) held in
      let one = spread_offer row (word t v p) here.0 here.1 in
      let rest : Given t v (p + 1 + k) (offer e row (word t v p)) = λ q l h. let s = r q (omega arith) h in (rw one.long s.0, s.1) in
      rw (ne_eqb _ _ held) (elim (ℕ_discrete q p) [
        | yes a ↦ rw a (taken_kept _ _ (spread_give t v k (p + 1) _ rest) (word t v p) (offered row (word t v p) d here.0))
        | no a ↦ gave t v k (p + 1) (offer e row (word t v p)) d rest q (omega arith) (omega arith) h
      ])

-- why an atom w gets an entry in the pass at d: it stands in the row of an atom at d
pub record From (t : List ℕ) (n d : ℕ) (old : List ℕ) (w : ℕ) : Type 0 where
  pub atom : ℕ
  pub known : atom < n
  pub entry : get_or old atom 0 ≡ d
  pub place : ℕ
  pub within_row : place < places
  pub holds : Holds t atom place
  pub leads : word t atom place ≡ w

module _ (t : List ℕ) (n d : ℕ) (small : d + 1 < no_path) (N : IsNetwork n t) (old : List ℕ) where
  abbrev S : List ℕ → List ℕ → Type 0
  S = Spread (d + 1) (From t n d old)

  -- an atom is at d in the pass just where it was at d before
  was : (row : List ℕ) → S old row → (v : ℕ) → get_or row v 0 ≡ d → get_or old v 0 ≡ d
  was row s v e =
      elim (ℕ_discrete (get_or old v 0) no_path) [
        | yes z ↦ absurd (omega (arith, (s.sound v z (omega arith)).0))
        | no z ↦ sym (s.keeps v z) ∙ e
      ]

  given : (row : List ℕ) → length row ≡ n → (v : ℕ) → v < n → get_or old v 0 ≡ d → Given (d + 1) (From t n d old) t v (0 + places) row
  given row long v l e q m h =
      let within_row : q < places = omega arith in
      (rw long (N.below v q l within_row h), record { atom = v; known = l; entry = e; place = q; within_row = within_row; holds = h; leads = refl })

  one_visit : (row : List ℕ) → length row ≡ n → S old row → (v : ℕ) → v < n → S row (visit t d v row)
  unfolding visit
  one_visit row long s v l =
      elim (ℕ_discrete (get_or row v 0) d) [
        | yes e ↦ rw (eq-eqb _ _ e) (spread_give (d + 1) (From t n d old) t v places 0 row (given row long v l (was row s v e)))
        | no e ↦ rw (ne_eqb _ _ e) (spread_none (d + 1) (From t n d old) row)
      ]

  spread_level : (k v : ℕ) (row : List ℕ) → v + k ≤ n → length row ≡ n → S old row → S row (level t d k v row)
  unfolding level
  spread_level zero v row m long s = spread_none (d + 1) (From t n d old) row
  spread_level (suc k) v row m long s =
      let one = one_visit row long s v (omega arith) in
      spread_more _ _ _ _ _ one (spread_level k (v + 1) _ (omega arith) (one.long ∙ long) (spread_more _ _ _ _ _ s one))

  held_before : (u p : ℕ) → u < n → p < places → Holds t u p → (r : ℕ) → r ≤ p → Holds t u r
  held_before u p l m h r k = elim (ℕ_discrete r p) [ yes e ↦ rw e h | no e ↦ N.first u r p l (omega arith) m h ]

  visited : (row : List ℕ) → length row ≡ n → S old row → (u p : ℕ) → u < n → get_or old u 0 ≡ d → p < places → Holds t u p → get_or (visit t d u row) (word t u p) 0 ≡ no_path → ⊥
  unfolding visit
  visited row long s u p l e q h =
      let still : get_or row u 0 ≡ d = s.keeps u (omega arith) ∙ e in
      rw (eq-eqb _ _ still) (gave (d + 1) (From t n d old) t u places 0 row small (given row long u l e) p (omega arith) (omega arith) (held_before u p l q h))

  level_gave : (k v : ℕ) (row : List ℕ) → v + k ≤ n → length row ≡ n → S old row
      → (u p : ℕ) → v ≤ u → u < v + k → get_or old u 0 ≡ d → p < places → Holds t u p → get_or (level t d k v row) (word t u p) 0 ≡ no_path → ⊥
  unfolding level
  level_gave zero v row m long s u p a b e q h = absurd (omega arith)
  level_gave (suc k) v row m long s u p a b e q h =
      let one = one_visit row long s v (omega arith) in
      let both = spread_more _ _ _ _ _ s one in
      elim (ℕ_discrete u v) [
        | yes z ↦ taken_kept _ _ _ _ (spread_level k (v + 1) _ (omega arith) (one.long ∙ long) both) (word t u p) (rw (← z) (visited row long s u p (omega arith) e q h))
        | no z ↦ level_gave k (v + 1) _ (omega arith) (one.long ∙ long) both u p (omega arith) (omega arith) e q h
      ]

  -- the whole pass
  pub pass_spreads : length old ≡ n → S old (level t d n 0 old)
  pass_spreads long = spread_level n 0 old (omega arith) long (spread_none _ _ old)

  pub pass_gives : length old ≡ n → (u p : ℕ) → u < n → get_or old u 0 ≡ d → p < places → Holds t u p → get_or (level t d n 0 old) (word t u p) 0 ≡ no_path → ⊥
  pass_gives long u p l e q h = level_gave n 0 old (omega arith) long (spread_none _ _ old) u p (omega arith) (omega arith) e q h
