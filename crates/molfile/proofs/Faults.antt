-- The refusals of a molfile, as they are computed, are what they mean.
use Rattle.std.proofs.Common.{◌≡◌, refl, sym, ◌∙◌, ap, subst, ◌⊎◌, inl, inr, Bool, true, false, cond, not, ◌&&◌, ◌||◌, List, [], ◌∷◌, ◌++◌, ℕ, zero, suc, ◌+◌, ◌≤◌, arith, eqb, leb, ltb, length, get_or, replicate, eq-eqb, ne_eqb, lt-ltb, le-ltb, leb-true, le-leb}
use Rattle.std.proofs.Math.Decide.{ℕ_discrete, dec_lt}
use mathlib.Core.List.Memᴰ
use Rattle.graph.specs.Lists.{◌∈◌}
use Rattle.graph.proofs.Lists.{gather_of, gather_has, map_has, count_has}
use Rattle.network.specs.Maxima.{places}
use Rattle.bonds.specs.Bonds.{Bond, partner, partners, bonds_below, full, Ninth}
use Rattle.bonds.proofs.Order.{numbered}
use Rattle.bonds.proofs.Tables.{partner_of, partner_has}
use Rattle.molfile.specs.Columns.{blank, is_digit, all_digits, is_number, columns, number_at, value_at}
use Rattle.molfile.specs.Molfile.{bond_width, first_at, second_at, version_at}
use Rattle.molfile.specs.Judging.{has_version, two_numbers, pair_of, outside, pair_seen, pair_fault}
use Rattle.molfile.specs.Faults.{NumberColumns, TwoNumbers, VersionThere, ShortLine, SeenBefore, NoBond, PairFault}
use Rattle.std.specs.Bool.{Decides}
use Rattle.std.proofs.lemmas.Bool.{true≢false, and_parts, cases_Bool}
use Rattle.std.proofs.lemmas.Bool.Decides.{not_from_Decides, Decides-eqb, Decides-like, Decides-not, Decides-and, Decides-or}
use Rattle.molfile.proofs.Judged.{has_of, of_has}

-- what a test decides
pub true_of : {test : Bool} {Holds : Type 0} → Decides test Holds → Holds → test ≡ true
true_of D h = D.1 h

pub false_of : {test : Bool} {Holds : Type 0} → Decides test Holds → (Holds → ⊥) → test ≡ false
false_of {test = test} D h = elim (cases_Bool test) [ inl e ↦ absurd (h (D.0 e)) | inr e ↦ e ]

pub decided : {test : Bool} {Holds : Type 0} → Decides test Holds → Dec Holds
decided {test = test} D = elim (cases_Bool test) [ inl e ↦ yes (D.0 e) | inr e ↦ no (not_from_Decides test D e) ]

le_decides : (a b : ℕ) → Decides (leb a b) (a ≤ b)
le_decides a b = (leb-true a b, le-leb a b)

-- digits
digit_of : (b : ℕ) → is_digit b ≡ true → (48 ≤ b) × (b ≤ 57)
unfolding is_digit
digit_of b e = let d = and_parts (leb 48 b) (leb b 57) e in (leb-true 48 b d.0, leb-true b 57 d.1)

is_digit_lem : (b : ℕ) → 48 ≤ b → b ≤ 57 → is_digit b ≡ true
unfolding is_digit
is_digit_lem b h k = rw (le-leb 48 b h, le-leb b 57 k) refl

all_of : (bytes : List ℕ) → all_digits bytes ≡ true → (b : ℕ) → b ∈ bytes → (48 ≤ b) × (b ≤ 57)
all_of [] e b m = elim m [ ]
all_of (a ∷ bytes) e b (Memᴰ.head d) = let t = and_parts (is_digit a) (all_digits bytes) e in subst (λ (c : ℕ). (48 ≤ c) × (c ≤ 57)) (sym d) (digit_of a t.0)
all_of (a ∷ bytes) e b (Memᴰ.tail m) = all_of bytes (and_parts (is_digit a) (all_digits bytes) e).1 b m

of_all : (bytes : List ℕ) → ((b : ℕ) → b ∈ bytes → (48 ≤ b) × (b ≤ 57)) → all_digits bytes ≡ true
of_all [] h = refl
of_all (a ∷ bytes) h = let d = h a (Memᴰ.head refl) in rw (is_digit_lem a d.0 d.1) (of_all bytes (λ b m. h b (Memᴰ.tail m)))

number_of : (bytes : List ℕ) → is_number bytes ≡ true → NumberColumns bytes
number_of [] e = absurd (true≢false (sym e))
number_of (b ∷ bytes) e = go (ℕ_discrete b blank) (number_of bytes)
  where
    go : Dec (b ≡ blank) → (is_number bytes ≡ true → NumberColumns bytes) → NumberColumns (b ∷ bytes)
    go (yes d) ih =
        let r = ih (rw (eq-eqb b blank d) at e) in
        record { blanks = suc r.blanks; digits = r.digits; are = ap (λ (c : ℕ). c ∷ bytes) d ∙ ap (λ (bs : List ℕ). blank ∷ bs) r.are; some = r.some; each = r.each }
    go (no d) ih =
        let t : (is_digit b && all_digits bytes) ≡ true = rw (ne_eqb b blank d) at e in
        record { blanks = 0; digits = b ∷ bytes; are = refl; some = omega arith; each = all_of (b ∷ bytes) t }

of_number : (bytes : List ℕ) → NumberColumns bytes → is_number bytes ≡ true
of_number bytes N = subst (λ (bs : List ℕ). is_number bs ≡ true) (sym N.are) (from N.blanks N.digits N.some N.each)
  where
    from : (k : ℕ) (ds : List ℕ) → 1 ≤ length ds → ((b : ℕ) → b ∈ ds → (48 ≤ b) × (b ≤ 57)) → is_number (replicate k blank ++ ds) ≡ true
    from (suc k) ds s h = from k ds s h
    from zero [] s h = absurd (omega arith)
    from zero (d ∷ ds) s h =
        let l = h d (Memᴰ.head refl) in
        rw (ne_eqb d blank (λ e. omega (arith, l.0)), is_digit_lem d l.0 l.1) (of_all ds (λ b m. h b (Memᴰ.tail m)))

pub number_decides : (bytes : List ℕ) → Decides (is_number bytes) (NumberColumns bytes)
number_decides bytes = (number_of bytes, of_number bytes)

pub two_decide : (line : List ℕ) → Decides (two_numbers line) (TwoNumbers line)
unfolding two_numbers number_at
two_decide line = Decides-and _ _ (number_decides (columns line first_at)) (number_decides (columns line second_at))

-- "V2000"
abbrev MarkStands : List ℕ → Type 0
MarkStands line =
    ((((get_or line version_at 0 ≡ 86) × (get_or line (version_at + 1) 0 ≡ 50)) × (get_or line (version_at + 2) 0 ≡ 48)) × (get_or line (version_at + 3) 0 ≡ 48)) × (get_or line (version_at + 4) 0 ≡ 48)

pub version_decides : (line : List ℕ) → Decides (has_version line) (VersionThere line)
unfolding has_version
version_decides line = Decides-like _ there back (Decides-and _ _ (Decides-and _ _ (Decides-and _ _ (Decides-and _ _ (Decides-eqb _ 86) (Decides-eqb _ 50)) (Decides-eqb _ 48)) (Decides-eqb _ 48)) (Decides-eqb _ 48))
  where
    there : MarkStands line → VersionThere line
    there m zero l = m.0.0.0.0
    there m (suc zero) l = m.0.0.0.1
    there m (suc (suc zero)) l = m.0.0.1
    there m (suc (suc (suc zero))) l = m.0.1
    there m (suc (suc (suc (suc zero)))) l = m.1
    there m (suc (suc (suc (suc (suc i))))) l = absurd (omega arith)

    back : VersionThere line → MarkStands line
    back h = ((((h 0 (omega arith), h 1 (omega arith)), h 2 (omega arith)), h 3 (omega arith)), h 4 (omega arith))

-- a pair seen already
module _ (line : ℕ → List ℕ) (k : ℕ) where
  abbrev bond : ℕ → Bond
  bond = pair_of line

  pub seen_decides : Decides (pair_seen bond k) (SeenBefore bond k)
  unfolding pair_seen partners
  seen_decides = (
    there,
    λ s. of_has (bond k).second (partners (bonds_below bond k) (bond k).first)
        (gather_has (partner (bond k).first) (map_has bond (count_has k 0 s.0 (omega arith) (omega (arith, s.1)))) (partner_has (bond k).first (bond k).second (bond s.0) s.2)),
  )
    where
      there : pair_seen bond k ≡ true → SeenBefore bond k
      there e =
          let g = gather_of (partner (bond k).first) (bonds_below bond k) (has_of (bond k).second (partners (bonds_below bond k) (bond k).first) e) in
          let j = numbered bond k g.1 in
          (j.0, j.1, partner_of (bond k).first (bond k).second (bond j.0) (subst (λ (b : Bond). (bond k).second ∈ partner (bond k).first b) j.2 g.2))

  module _ (n : ℕ) where
    outside_decides : (v : ℕ) → Decides (outside n v) ((1 ≤ v) × (v ≤ n) → ⊥)
    outside_decides v = Decides-not _ (Decides-and _ _ (le_decides 1 v) (le_decides v n))

    abbrev no_bond : Bool
    no_bond = (outside n (value_at (line k) first_at) || outside n (value_at (line k) second_at)) || (eqb (bond k).first (bond k).second || pair_seen bond k)

    no_bond_decides : Decides no_bond (NoBond n line k)
    no_bond_decides =
        Decides-like no_bond there back (Decides-or _ _ (Decides-or _ _ (outside_decides (value_at (line k) first_at)) (outside_decides (value_at (line k) second_at)))
        (Decides-or _ _ (Decides-eqb (bond k).first (bond k).second) seen_decides))
      where
        there : {A B C : Type 0} → (A ⊎ B) ⊎ C → A ⊎ (B ⊎ C)
        there (inl (inl a)) = inl a
        there (inl (inr b)) = inr (inl b)
        there (inr c) = inr (inr c)

        back : {A B C : Type 0} → A ⊎ (B ⊎ C) → (A ⊎ B) ⊎ C
        back (inl a) = inl (inl a)
        back (inr (inl b)) = inl (inr b)
        back (inr (inr c)) = inr c

    ninth_decides : Decides (full bond k (bond k).first || full bond k (bond k).second) (Ninth bond k)
    unfolding full
    ninth_decides = Decides-or _ _ (le_decides places (length (partners (bonds_below bond k) (bond k).first))) (le_decides places (length (partners (bonds_below bond k) (bond k).second)))

    -- the number of bond line k by the four tests
    by_tests : pair_fault n line k ≡ cond (ltb (length (line k)) bond_width) 29 (cond (not (two_numbers (line k))) 31 (cond no_bond 32 (cond (full bond k (bond k).first || full bond k (bond k).second) 27 0)))
    unfolding pair_fault
    by_tests = go (outside n (value_at (line k) first_at) || outside n (value_at (line k) second_at))
      where
        go : (o : Bool) → ◌≡◌ {A = ℕ}
            (cond (ltb (length (line k)) bond_width) 29 (cond (not (two_numbers (line k))) 31 (cond o 32 (cond (eqb (bond k).first (bond k).second || pair_seen bond k) 32 (cond (full bond k (bond k).first || full bond k (bond k).second) 27 0)))))
            (cond (ltb (length (line k)) bond_width) 29 (cond (not (two_numbers (line k))) 31 (cond (o || (eqb (bond k).first (bond k).second || pair_seen bond k)) 32 (cond (full bond k (bond k).first || full bond k (bond k).second) 27 0))))
        go true = refl
        go false = refl

    -- which number it is
    data Told : Type 0 where
      short : pair_fault n line k ≡ 29 → ShortLine (line k) → Told
      unnumbered : pair_fault n line k ≡ 31 → (ShortLine (line k) → ⊥) → (TwoNumbers (line k) → ⊥) → Told
      no_pair : pair_fault n line k ≡ 32 → (ShortLine (line k) → ⊥) → TwoNumbers (line k) → NoBond n line k → Told
      ninth : pair_fault n line k ≡ 27 → (ShortLine (line k) → ⊥) → TwoNumbers (line k) → (NoBond n line k → ⊥) → Ninth bond k → Told
      right : pair_fault n line k ≡ 0 → (ShortLine (line k) → ⊥) → TwoNumbers (line k) → (NoBond n line k → ⊥) → (Ninth bond k → ⊥) → Told

    told : Told
    told = go (dec_lt (length (line k)) bond_width) (decided (two_decide (line k))) (decided no_bond_decides) (decided ninth_decides)
      where
        go : Dec (ShortLine (line k)) → Dec (TwoNumbers (line k)) → Dec (NoBond n line k) → Dec (Ninth bond k) → Told
        go (yes s) _ _ _ = short (by_tests ∙ rw (lt-ltb (length (line k)) bond_width s) refl) s
        go (no s) (no t) _ _ = unnumbered (by_tests ∙ rw (le-ltb (length (line k)) bond_width (omega arith), false_of (two_decide (line k)) t) refl) s t
        go (no s) (yes t) (yes b) _ = no_pair (by_tests ∙ rw (le-ltb (length (line k)) bond_width (omega arith), true_of (two_decide (line k)) t, true_of no_bond_decides b) refl) s t b
        go (no s) (yes t) (no b) (yes e) =
            ninth (by_tests ∙ rw (le-ltb (length (line k)) bond_width (omega arith), true_of (two_decide (line k)) t, false_of no_bond_decides b, true_of ninth_decides e) refl) s t b e
        go (no s) (yes t) (no b) (no e) =
            right (by_tests ∙ rw (le-ltb (length (line k)) bond_width (omega arith), true_of (two_decide (line k)) t, false_of no_bond_decides b, false_of ninth_decides e) refl) s t b e

    pub pair_none : (c : ℕ) → pair_fault n line k ≡ 0 → PairFault n line k c → ⊥
    pair_none c z = go told
      where
        go : Told → PairFault n line k c → ⊥
        go (short e s) f = omega arith
        go (unnumbered e s t) f = omega arith
        go (no_pair e s t b) f = omega arith
        go (ninth e s t b h) f = omega arith
        go (right e s t b h) (inl f) = s f.1
        go (right e s t b h) (inr (inl f)) = f.2 t
        go (right e s t b h) (inr (inr (inl f))) = b f.3
        go (right e s t b h) (inr (inr (inr f))) = h f.4

    pub pair_some : (pair_fault n line k ≡ 0 → ⊥) → PairFault n line k (pair_fault n line k)
    pair_some z = go told
      where
        go : Told → PairFault n line k (pair_fault n line k)
        go (short e s) = inl (e, s)
        go (unnumbered e s t) = inr (inl (e, s, t))
        go (no_pair e s t b) = inr (inr (inl (e, s, t, b)))
        go (ninth e s t b h) = inr (inr (inr (e, s, t, b, h)))
        go (right e s t b h) = absurd (z e)

    -- a bond line has one number
    pub pair_one : (c d : ℕ) → PairFault n line k c → PairFault n line k d → c ≡ d
    pair_one c d (inl f) (inl g) = f.0 ∙ sym g.0
    pair_one c d (inl f) (inr (inl g)) = absurd (g.1 f.1)
    pair_one c d (inl f) (inr (inr (inl g))) = absurd (g.1 f.1)
    pair_one c d (inl f) (inr (inr (inr g))) = absurd (g.1 f.1)
    pair_one c d (inr (inl f)) (inl g) = absurd (f.1 g.1)
    pair_one c d (inr (inl f)) (inr (inl g)) = f.0 ∙ sym g.0
    pair_one c d (inr (inl f)) (inr (inr (inl g))) = absurd (f.2 g.2)
    pair_one c d (inr (inl f)) (inr (inr (inr g))) = absurd (f.2 g.2)
    pair_one c d (inr (inr (inl f))) (inl g) = absurd (f.1 g.1)
    pair_one c d (inr (inr (inl f))) (inr (inl g)) = absurd (g.2 f.2)
    pair_one c d (inr (inr (inl f))) (inr (inr (inl g))) = f.0 ∙ sym g.0
    pair_one c d (inr (inr (inl f))) (inr (inr (inr g))) = absurd (g.3 f.3)
    pair_one c d (inr (inr (inr f))) (inl g) = absurd (f.1 g.1)
    pair_one c d (inr (inr (inr f))) (inr (inl g)) = absurd (g.2 f.2)
    pair_one c d (inr (inr (inr f))) (inr (inr (inl g))) = absurd (f.3 g.3)
    pair_one c d (inr (inr (inr f))) (inr (inr (inr g))) = f.0 ∙ sym g.0
