-- A bond line without a fault, and the rows that hold the bonds before it.
use Rattle.std.proofs.Common.{◌≡◌, refl, sym, ◌∙◌, ap, subst, ◌⊎◌, inl, inr, Bool, true, false, cond, not, ◌&&◌, ◌||◌, List, [], ◌∷◌, ◌++◌, ℕ, suc, ◌+◌, ◌-◌, ◌≤◌, ◌<◌, arith, eqb, leb, ltb, length, get_or, replicate, length-append, get_or-append-add, eq-eqb, ne_eqb, le-ltb, ltb-false, leb-true, leb-false, le-leb}
use Rattle.std.proofs.Math.Decide.{ℕ_discrete, dec_lt}
use Rattle.std.proofs.lemmas.List.{length-replicate, get_or-replicate}
use Rattle.std.proofs.Math.ListN.{get_or-append}
use mathlib.Core.List.Memᴰ
use Rattle.graph.specs.Lists.{◌∈◌}
use Rattle.graph.proofs.Lists.{place_of, at_place}
use Rattle.graph.specs.Levels.{elem}
use Rattle.network.specs.Maxima.{atoms_most, places, free}
use Rattle.network.specs.Network.{word}
use Rattle.network.specs.Verdict.{stands, in_row}
use Rattle.network.proofs.Stands.{in_row_lem}
use Rattle.network.proofs.TableFaults.{found, finds}
use Rattle.bonds.specs.Bonds.{partners, bonds_below, full}
use Rattle.molfile.specs.Columns.{value_at}
use Rattle.molfile.specs.Molfile.{bond_width, first_at, second_at}
use Rattle.molfile.specs.Judging.{two_numbers, pair_of, outside, pair_seen, pair_fault}
use Rattle.molfile.specs.Rows.{risen_on, held_row, Held, full_row, held_fault, rows_fault}
use Rattle.std.proofs.lemmas.Bool.{true≢false, and_parts, eqb-false, lt-leb, not-false}
use Rattle.molfile.proofs.Inserted.{risen_length, risen_of, risen_has}

-- a chain of tests that gives 0
pub nonzero : (k : ℕ) → suc k ≡ 0 → ⊥
nonzero k e = omega arith

pub passed : (a : Bool) (c rest : ℕ) → (c ≡ 0 → ⊥) → cond a c rest ≡ 0 → (a ≡ false) × (rest ≡ 0)
passed true c rest h e = absurd (h e)
passed false c rest h e = (refl, e)

pub neither : (a b : Bool) → (a || b) ≡ false → (a ≡ false) × (b ≡ false)
neither true b e = absurd (true≢false e)
neither false b e = (refl, e)

pub inside_of : (n v : ℕ) → outside n v ≡ false → (1 ≤ v) × (v ≤ n)
inside_of n v e =
    let b = and_parts (leb 1 v) (leb v n) (not-false (leb 1 v && leb v n) e) in
    (leb-true 1 v b.0, leb-true v n b.1)

pub of_inside : (n v : ℕ) → 1 ≤ v → v ≤ n → outside n v ≡ false
of_inside n v l h = rw (le-leb 1 v l, le-leb v n h) refl

-- membership
pub has_of : (y : ℕ) (ys : List ℕ) → elem eqb y ys ≡ true → y ∈ ys
has_of y [] e = absurd (true≢false (sym e))
has_of y (z ∷ ys) e = go (ℕ_discrete y z) (has_of y ys)
  where
    go : Dec (y ≡ z) → (elem eqb y ys ≡ true → y ∈ ys) → y ∈ z ∷ ys
    go (yes d) ih = Memᴰ.head d
    go (no d) ih = Memᴰ.tail (ih (rw (ne_eqb y z d) at e))

pub of_has : (y : ℕ) (ys : List ℕ) → y ∈ ys → elem eqb y ys ≡ true
of_has y [] m = elim m [ ]
of_has y (z ∷ ys) (Memᴰ.head d) = rw (eq-eqb y z d) refl
of_has y (z ∷ ys) (Memᴰ.tail m) = go (eqb y z) (of_has y ys m)
  where
    go : (b : Bool) → elem eqb y ys ≡ true → (b || elem eqb y ys) ≡ true
    go true ih = refl
    go false ih = ih

of_none : (y : ℕ) (ys : List ℕ) → (y ∈ ys → ⊥) → elem eqb y ys ≡ false
of_none y ys h = go (elem eqb y ys) refl
  where
    go : (b : Bool) → elem eqb y ys ≡ b → elem eqb y ys ≡ false
    go true e = absurd (h (has_of y ys e))
    go false e = e

pub record RightPair (n : ℕ) (line : ℕ → List ℕ) (k : ℕ) : Type 0 where
  pub wide : bond_width ≤ length (line k)
  pub numbers : two_numbers (line k) ≡ true
  pub first : (1 ≤ value_at (line k) first_at) × (value_at (line k) first_at ≤ n)
  pub second : (1 ≤ value_at (line k) second_at) × (value_at (line k) second_at ≤ n)
  pub apart : (pair_of line k).first ≡ (pair_of line k).second → ⊥
  pub new : (pair_of line k).second ∈ partners (bonds_below (pair_of line) k) (pair_of line k).first → ⊥
  pub room_first : length (partners (bonds_below (pair_of line) k) (pair_of line k).first) < places
  pub room_second : length (partners (bonds_below (pair_of line) k) (pair_of line k).second) < places

module _ (n : ℕ) (line : ℕ → List ℕ) (k : ℕ) where
  abbrev before : ℕ → List ℕ
  before x = partners (bonds_below (pair_of line) k) x

  pub right_of : pair_fault n line k ≡ 0 → RightPair n line k
  unfolding pair_fault pair_seen full
  right_of e =
      let s = passed (ltb (length (line k)) bond_width) 29 _ (omega arith) e in
      let t = passed (not (two_numbers (line k))) 31 _ (omega arith) s.1 in
      let o = passed (outside n (value_at (line k) first_at) || outside n (value_at (line k) second_at)) 32 _ (omega arith) t.1 in
      let d = passed (eqb (pair_of line k).first (pair_of line k).second || elem eqb (pair_of line k).second (before (pair_of line k).first)) 32 _ (omega arith) o.1 in
      let f = passed (leb places (length (before (pair_of line k).first)) || leb places (length (before (pair_of line k).second))) 27 0 (omega arith) d.1 in
      let oo = neither _ _ o.0 in
      let dd = neither _ _ d.0 in
      let ff = neither _ _ f.0 in
      record {
        wide = ltb-false (length (line k)) bond_width s.0;
        numbers = not-false (two_numbers (line k)) t.0;
        first = inside_of n (value_at (line k) first_at) oo.0;
        second = inside_of n (value_at (line k) second_at) oo.1;
        apart = eqb-false (pair_of line k).first (pair_of line k).second dd.0;
        new = λ m. true≢false (sym (of_has (pair_of line k).second (before (pair_of line k).first) m) ∙ dd.1);
        room_first = leb-false places (length (before (pair_of line k).first)) ff.0;
        room_second = leb-false places (length (before (pair_of line k).second)) ff.1;
      }

  pub none_of : RightPair n line k → pair_fault n line k ≡ 0
  unfolding pair_fault pair_seen full
  none_of R =
      rw (
        le-ltb (length (line k)) bond_width R.wide,
        R.numbers,
        of_inside n (value_at (line k) first_at) R.first.0 R.first.1,
        of_inside n (value_at (line k) second_at) R.second.0 R.second.1,
        ne_eqb (pair_of line k).first (pair_of line k).second R.apart,
        of_none (pair_of line k).second (before (pair_of line k).first) R.new,
        lt-leb places (length (before (pair_of line k).first)) R.room_first,
        lt-leb places (length (before (pair_of line k).second)) R.room_second,
      ) refl

-- the words of a row that is held
module _ (ys : List ℕ) (few : length ys ≤ places) where
  pub held_length : length (held_row ys) ≡ places
  unfolding held_row
  held_length =
      length-append (risen_on [] ys) (replicate (places - length ys) free)
      ∙ omega (arith, risen_length [] ys, length-replicate (places - length ys) free)

  pub held_here : (p : ℕ) → p < length ys → get_or (held_row ys) p 0 ≡ get_or (risen_on [] ys) p 0
  unfolding held_row
  held_here p l = get_or-append (risen_on [] ys) (replicate (places - length ys) free) 0 p (omega (arith, risen_length [] ys))

  pub held_free : (p : ℕ) → length ys ≤ p → p < places → get_or (held_row ys) p 0 ≡ free
  unfolding held_row
  held_free p l h =
      let e : p ≡ length (risen_on [] ys) + (p - length ys) = omega (arith, risen_length [] ys) in
      ap (λ (q : ℕ). get_or (risen_on [] ys ++ replicate (places - length ys) free) q 0) e
      ∙ get_or-append-add (risen_on [] ys) (replicate (places - length ys) free) (p - length ys) 0
      ∙ get_or-replicate (places - length ys) (p - length ys) free 0 (omega arith)

  -- the members of a row
  pub held_of : (y p : ℕ) → p < places → get_or (held_row ys) p 0 ≡ y → (y ≡ free → ⊥) → y ∈ ys
  held_of y p h e f = go (dec_lt p (length ys))
    where
      in_list : (y ∈ []) ⊎ (y ∈ ys) → y ∈ ys
      in_list (inl m) = absurd (Memᴰ.not-nil m)
      in_list (inr m) = m

      go : Dec (p < length ys) → y ∈ ys
      go (yes l) = in_list (risen_of y [] ys (subst (λ (z : ℕ). z ∈ risen_on [] ys) (sym (held_here p l) ∙ e) (at_place 0 (risen_on [] ys) p (omega (arith, risen_length [] ys)))))
      go (no l) = absurd (f (sym e ∙ held_free p (omega arith) h))

  pub held_has : (y : ℕ) → y ∈ ys → (p : ℕ) × (p < places) × (get_or (held_row ys) p 0 ≡ y)
  held_has y m =
      let q = place_of 0 (risen_has y [] ys (inr m)) in
      let l : q.0 < length ys = omega (arith, q.1, risen_length [] ys) in
      (q.0, omega arith, held_here q.0 l ∙ q.2)

-- what the rows say is what the bonds before say
module _ (n : ℕ) (line : ℕ → List ℕ) (k : ℕ) (rows : List ℕ) (few : n ≤ atoms_most) (H : Held rows (bonds_below (pair_of line) k))
    (eight : (x : ℕ) → length (partners (bonds_below (pair_of line) k) x) ≤ places) where
  abbrev bonded : ℕ → List ℕ
  bonded x = partners (bonds_below (pair_of line) k) x

  stands_seen : (x y : ℕ) → x < atoms_most → y < free → in_row rows y x ≡ elem eqb y (bonded x)
  stands_seen x y l h = in_row_lem rows y x (omega (arith, H.long)) (in_row rows y x) refl ∙ go (stands rows y x places 0) refl (elem eqb y (bonded x)) refl
    where
      yes_yes : stands rows y x places 0 ≡ true → elem eqb y (bonded x) ≡ true
      yes_yes e =
          let q = found rows y x places 0 e in
          of_has y (bonded x) (held_of (bonded x) (eight x) y q.0 (omega (arith, q.1)) (sym (H.row x q.0 l (omega (arith, q.1))) ∙ q.2) (λ f. omega arith))

      back : elem eqb y (bonded x) ≡ true → stands rows y x places 0 ≡ true
      back e =
          let q = held_has (bonded x) (eight x) y (has_of y (bonded x) e) in
          finds rows y x places 0 q.0 (omega arith) (omega (arith, q.1)) (H.row x q.0 l q.1 ∙ q.2)

      go : (a : Bool) → stands rows y x places 0 ≡ a → (b : Bool) → elem eqb y (bonded x) ≡ b → stands rows y x places 0 ≡ elem eqb y (bonded x)
      go true e b d = e ∙ sym (yes_yes e)
      go false e true d = back d ∙ sym d
      go false e false d = e ∙ sym d

  full_eight : (x : ℕ) → x < atoms_most → ((y : ℕ) → y ∈ bonded x → y < free) → full_row rows x ≡ leb places (length (bonded x))
  unfolding full_row
  full_eight x l below = go (dec_lt (length (bonded x)) places)
    where
      go : Dec (length (bonded x) < places) → not (eqb (word rows x (places - 1)) free) ≡ leb places (length (bonded x))
      go (yes h) =
          let e : word rows x (places - 1) ≡ free = H.row x (places - 1) l (omega arith) ∙ held_free (bonded x) (eight x) (places - 1) (omega arith) (omega arith) in
          rw (eq-eqb (word rows x (places - 1)) free e, lt-leb places (length (bonded x)) h) refl
      go (no h) =
          let s : length (bonded x) ≡ places = omega (arith, eight x) in
          let e : word rows x (places - 1) ≡ get_or (risen_on [] (bonded x)) (places - 1) 0 = H.row x (places - 1) l (omega arith) ∙ held_here (bonded x) (eight x) (places - 1) (omega arith) in
          let m : get_or (risen_on [] (bonded x)) (places - 1) 0 ∈ risen_on [] (bonded x) = at_place 0 (risen_on [] (bonded x)) (places - 1) (omega (arith, risen_length [] (bonded x))) in
          rw (ne_eqb (word rows x (places - 1)) free (λ f. lower (risen_of _ [] (bonded x) m) (sym e ∙ f)), le-leb places (length (bonded x)) (omega arith)) refl
        where
          lower : {u : ℕ} → (u ∈ []) ⊎ (u ∈ bonded x) → u ≡ free → ⊥
          lower (inl m) f = Memᴰ.not-nil m
          lower {u} (inr m) f = omega (arith, below u m)

  pub judged_same : ((x y : ℕ) → y ∈ bonded x → y < free) → rows_fault n (line k) rows ≡ pair_fault n line k
  unfolding rows_fault held_fault pair_fault pair_seen full
  judged_same below = go (outside n (value_at (line k) first_at) || outside n (value_at (line k) second_at)) refl
    where
      go : (b : Bool) → (outside n (value_at (line k) first_at) || outside n (value_at (line k) second_at)) ≡ b → rows_fault n (line k) rows ≡ pair_fault n line k
      go true e = rw e refl
      go false e =
          let o = neither _ _ e in
          let f = inside_of n (value_at (line k) first_at) o.0 in
          let s = inside_of n (value_at (line k) second_at) o.1 in
          rw (
            stands_seen (pair_of line k).first (pair_of line k).second (omega (arith, f.0, f.1)) (omega (arith, s.1)),
            full_eight (pair_of line k).first (omega (arith, f.0, f.1)) (below (pair_of line k).first),
            full_eight (pair_of line k).second (omega (arith, s.0, s.1)) (below (pair_of line k).second),
          ) refl
