-- What comes of reading a molfile, at each way through the checks.
use Rattle.std.proofs.Common.{◌≡◌, refl, sym, ◌∙◌, ap, ap₂, subst, inl, inr, Bool, true, false, cond, not, ◌||◌, List, [], ◌++◌, ℕ, suc, ◌+◌, ◌-◌, ◌*◌, ◌≤◌, ◌<◌, add-one, arith, eqb, ltb, ℤ, pos, length, take, drop, replicate, ne_eqb}
use Rattle.std.proofs.Math.Decide.{ℕ_discrete}
use Rattle.std.proofs.lemmas.List.{length-replicate, get_or-replicate}
use Rattle.network.specs.declared.Answer.{Answer}
use Rattle.network.specs.Maxima.{atoms_most, places, free}
use Rattle.network.specs.Network.{word, Counted}
use Rattle.network.specs.declared.refusals.Reason.{Reason}
use Rattle.network.specs.declared.refusals.Refusal.{Refusal}
use Rattle.network.specs.Refusals.{number_of, answer_of}
use Rattle.network.proofs.Refused.{numbered}
use Rattle.network.specs.Verdict.{answer, accepted}
use Rattle.bonds.specs.Bonds.{Joins, Joined, partners, bonds_of, bonds_below, full}
use Rattle.bonds.specs.Scan.{or_at, first_bond}
use Rattle.bonds.proofs.Scan.{given, bonds_start, bonds_here, bonds_next, bonds_never, scan_clean, scan_never}
use Rattle.bonds.proofs.Partners.{partners_start}
use Rattle.bonds.proofs.Returns.{joined_bond, bond_joined, bonds_valid, table_back}
use Rattle.molfile.specs.Lines.{line_of, past_line, from_line, line_at}
use Rattle.molfile.specs.Columns.{value_at}
use Rattle.molfile.specs.Molfile.{counts_line, bond_width, first_at, second_at, atom_count, bond_count, after_atoms, bond_line, HasPair, Paired, MolfileOf}
use Rattle.molfile.specs.Judging.{two_numbers, pair_of, outside, pair_seen, counts_fault, counts_value, pair_fault, molfile_verdict, molfile_value, MolfileOutcome}
use Rattle.molfile.specs.Rows.{Held, with_bond, rows_fault, PairsHeld}
use Rattle.molfile.proofs.Lines.{from_add}
use Rattle.molfile.proofs.Judged.{RightPair, right_of, held_free, judged_same}
use Rattle.molfile.proofs.Counts.{CountsRight, counts_right}
use Rattle.molfile.proofs.Holding.{eight, low, holds_more, bond_of, bond_has}
use Rattle.molfile.proofs.Networks.{network, number, stands, stood}

-- rows that are all free hold no bonds
pub free_rows : (rows : List ℕ) → rows ≡ replicate (places * atoms_most) free → Held rows []
free_rows rows e = record {
  long = ap length e ∙ length-replicate (places * atoms_most) free;
  row = λ x p l k.
      ap (λ (ws : List ℕ). word ws x p) e ∙ get_or-replicate (places * atoms_most) (x * places + p) free 0 (omega arith)
      ∙ sym (held_free (partners [] x) (omega (arith, none x)) p (omega (arith, none x)) k);
}
  where
    none : (x : ℕ) → 0 ≡ length (partners [] x)
    none x = partners_start (λ k. record { first = 0; second = 0 }) x

-- what is known where the line of bond k begins
pub record SoFar (n : ℕ) (rest : List ℕ) (m k : ℕ) (from rows : List ℕ) : Type 0 where
  pub inside : k ≤ m
  pub here : from ≡ from_line rest k
  pub verdict : first_bond (pair_fault n (line_at rest)) m 0 ≡ first_bond (pair_fault n (line_at rest)) (m - k) k
  pub right : (j : ℕ) → j < k → pair_fault n (line_at rest) j ≡ 0
  pub holds : Held rows (bonds_below (pair_of (line_at rest)) k)

-- the bond lines, one after the other
module _ (n : ℕ) (few : n ≤ atoms_most) (rest : List ℕ) (m : ℕ) where
  abbrev line : ℕ → List ℕ
  line = line_at rest

  pub so_far_start : (rows : List ℕ) → Held rows [] → SoFar n rest m 0 rest rows
  unfolding from_line
  so_far_start rows H = record {
    inside = omega arith;
    here = refl;
    verdict = bonds_start (pair_fault n line) m;
    right = λ j l. absurd (omega arith);
    holds = H;
  }

  module _ (k : ℕ) (from rows : List ℕ) (S : SoFar n rest m k from rows) where
    rights : (j : ℕ) → j < k → RightPair n line j
    rights j l = right_of n line j (S.right j l)

    judged : rows_fault n (line_of from) rows ≡ pair_fault n line k
    judged =
        ap (λ (bytes : List ℕ). rows_fault n (line_of bytes) rows) S.here
        ∙ judged_same n line k rows few S.holds (λ x. eight n few line k rights k x (omega arith)) (λ x y i. omega (arith, (low n few line k rights k x y (omega arith) i).0))

    pub refused_here : (reason : Reason) → number_of reason ≡ rows_fault n (line_of from) rows → k < m → answer (number_of reason) 0 k ≡ first_bond (pair_fault n line) m 0
    refused_here reason e l = bonds_here (pair_fault n line) m k S.verdict (number_of reason) (e ∙ judged) l (λ z. omega (arith, numbered reason))

    module _ (clean : 0 ≡ rows_fault n (line_of from) rows) (l : k < m) where
      right_here : RightPair n line k
      right_here = right_of n line k (sym judged ∙ sym clean)

      pub so_far_next : (next rows' : List ℕ) (x y : ℕ) → next ≡ past_line from → x + 1 ≡ value_at (line_of from) first_at → y + 1 ≡ value_at (line_of from) second_at → rows' ≡ with_bond rows x y
          → SoFar n rest m (k + 1) next rows'
      unfolding from_line
      so_far_next next rows' x y en ex ey er = record {
        inside = omega arith;
        here = en ∙ ap past_line S.here ∙ rw add-one refl;
        verdict = bonds_next (pair_fault n line) m k S.verdict 0 (clean ∙ judged) l refl;
        right = λ j h. elim (ℕ_discrete j k) [ yes d ↦ ap (pair_fault n line) d ∙ sym judged ∙ sym clean | no d ↦ S.right j (omega arith) ];
        holds = subst (λ (bytes : List ℕ). Held bytes (bonds_below (pair_of line) (k + 1))) (sym (er ∙ ap₂ (with_bond rows) (of_line first_at x ex) (of_line second_at y ey)))
            (rw add-one (holds_more n few line (suc k) (λ j h. rights_next j h) k (omega arith) rows S.holds));
      }
        where
          of_line : (i z : ℕ) → z + 1 ≡ value_at (line_of from) i → z ≡ value_at (line k) i - 1
          of_line i z e = omega (arith, e ∙ ap (λ (bytes : List ℕ). value_at (line_of bytes) i) S.here)

          rights_next : (j : ℕ) → j < suc k → RightPair n line j
          rights_next j h = elim (ℕ_discrete j k) [ yes d ↦ subst (RightPair n line) (sym d) right_here | no d ↦ rights j (omega arith) ]

    pub all_right : m ≤ k → PairsHeld n rest m rows
    all_right l = record {
      none = sym (bonds_never (pair_fault n line) m k S.verdict accepted l refl);
      holds = let d : m ≡ k = omega (arith, S.inside) in rw d S.holds;
    }

-- the numbers that a bond gives
pair_number : (n : ℕ) (line : ℕ → List ℕ) (k : ℕ) → pair_fault n line k ≡ 22 → ⊥
unfolding pair_fault
pair_number n line k e =
    let b = pair_of line k in
    go (ltb (length (line k)) bond_width) (not (two_numbers (line k))) (outside n (value_at (line k) first_at) || outside n (value_at (line k) second_at)) (eqb b.first b.second || pair_seen (pair_of line) k)
    (full (pair_of line) k b.first || full (pair_of line) k b.second) e
  where
    go : (a b c d f : Bool) → ◌≡◌ {A = ℕ} (cond a 29 (cond b 31 (cond c 32 (cond d 32 (cond f 27 0))))) 22 → ⊥
    go true b c d f e = omega arith
    go false true c d f e = omega arith
    go false false true d f e = omega arith
    go false false false true f e = omega arith
    go false false false false true e = omega arith
    go false false false false false e = omega arith

abbrev code : Answer → ℕ
code a = a.code

-- `start` is what stands from the counts line on
module _ (file before start : List ℕ) (es : start ≡ from_line file counts_line) where
  same_counts : counts_fault start (length before) ≡ counts_fault (from_line file counts_line) (length before)
  same_counts = ap (λ (bytes : List ℕ). counts_fault bytes (length before)) es

  pub reads_counts : (reason : Reason) (v : ℤ) → number_of reason ≡ counts_fault start (length before)
      → v ≡ counts_value start (number_of reason)
      → MolfileOutcome file before before (record { answer = answer (number_of reason) 0 0; atoms = 0; bonds = 0; value = v })
  unfolding molfile_verdict molfile_value
  reads_counts reason v e ev = record {
    verdict = sym (rw (← (e ∙ same_counts)) (given (number_of reason) 0 _ some));
    signs = ev ∙ ap (λ (bytes : List ℕ). counts_value bytes (number_of reason)) es;
    refused = λ _. (refl, refl, refl);
    accepts = λ h. absurd (some h);
  }
    where
      some : number_of reason ≡ 0 → ⊥
      some z = omega (arith, numbered reason)

  module _ (clean : counts_fault start (length before) ≡ 0) (n m : ℕ) (ev : n ≡ value_at (line_of start) first_at) (ew : m ≡ value_at (line_of start) second_at) where
    counts_are : CountsRight (from_line file counts_line) (length before)
    counts_are = counts_right (from_line file counts_line) (length before) (sym same_counts ∙ clean)

    en : n ≡ atom_count file
    en = ev ∙ ap (λ (bytes : List ℕ). value_at (line_of bytes) first_at) es

    em : m ≡ bond_count file
    em = ew ∙ ap (λ (bytes : List ℕ). value_at (line_of bytes) second_at) es

    pub counted : Counted n
    counted = rw en counts_are.counted

    pub table_fits : places * n ≤ length before
    table_fits = rw en counts_are.fits

    module _ (rest : List ℕ) (er : rest ≡ from_line start (n + 1)) where
      rest_is : rest ≡ after_atoms file
      rest_is =
          let e : counts_line + (n + 1) ≡ counts_line + 1 + atom_count file = omega (arith, en) in
          er ∙ ap (λ (bytes : List ℕ). from_line bytes (n + 1)) es ∙ sym (from_add file counts_line (n + 1)) ∙ ap (from_line file) e

      module _ (a : Answer) (ea : a ≡ first_bond (pair_fault n (line_at rest)) m 0) where
        judged_all : a ≡ molfile_verdict file (length before)
        unfolding molfile_verdict or_at
        judged_all =
            rw (← same_counts, clean)
            (ea ∙ ap (λ (bytes : List ℕ). first_bond (pair_fault n (line_at bytes)) m 0) rest_is
            ∙ ap₂ (λ (j k : ℕ). first_bond (pair_fault j (bond_line file)) k 0) en em)

        valued : pos 0 ≡ molfile_value file a.code
        unfolding molfile_value
        valued = rw (ne_eqb a.code 22 (λ h. scan_never 22 (omega arith) (pair_fault n (line_at rest)) (pair_number n (line_at rest)) m 0 (ap code (sym ea) ∙ h))) refl

      pub reads_pair : (refusal : Refusal) → answer_of refusal ≡ first_bond (pair_fault n (line_at rest)) m 0
          → MolfileOutcome file before before (record { answer = answer_of refusal; atoms = 0; bonds = 0; value = pos 0 })
      reads_pair refusal e = record {
        verdict = judged_all (answer_of refusal) e;
        signs = valued (answer_of refusal) e;
        refused = λ _. (refl, refl, refl);
        accepts = λ z. absurd (omega (arith, numbered refusal.reason));
      }

      module _ (rows : List ℕ) (P : PairsHeld n rest m rows) where
        right : (k : ℕ) → k < m → RightPair n (line_at rest) k
        right k l = right_of n (line_at rest) k (scan_clean (pair_fault n (line_at rest)) m 0 (ap code P.none) k (omega arith) (omega arith))

        abbrev table : List ℕ
        table = take (places * n) rows

        given_by : MolfileOf file n (bonds_of table)
        given_by = record {
          atoms = en;
          number = number n counted (line_at rest) m right rows P.holds ∙ em;
          pairs = λ x y. (there x y, back_again x y);
        }
          where
            there : (x y : ℕ) → Joined (bonds_of table) x y → Paired file x y
            there x y j =
                let N = network n counted (line_at rest) m right rows P.holds in
                let g = bond_of n counted.most (line_at rest) m right m x y (stood n counted (line_at rest) m right rows P.holds x y (joined_bond n table N x y j)) in
                (g.0, omega (arith, g.1, em), as_line g.0 (right g.0 g.1) g.2)
              where
                as_line : (k : ℕ) → RightPair n (line_at rest) k → Joins (pair_of (line_at rest) k) x y → HasPair (bond_line file k) x y
                as_line k R (inl e) = subst (λ (bytes : List ℕ). HasPair (line_at bytes k) x y) rest_is (inl (omega (arith, e.0, R.first.0), omega (arith, e.1, R.second.0)))
                as_line k R (inr e) = subst (λ (bytes : List ℕ). HasPair (line_at bytes k) x y) rest_is (inr (omega (arith, e.1, R.first.0), omega (arith, e.0, R.second.0)))

            back_again : (x y : ℕ) → Paired file x y → Joined (bonds_of table) x y
            back_again x y p =
                let N = network n counted (line_at rest) m right rows P.holds in
                bond_joined n table N x y (stands n counted (line_at rest) m right rows P.holds x y
                (bond_has n counted.most (line_at rest) m right m p.0 x y (omega arith) (omega (arith, p.1, em))
                (as_pair (subst (λ (bytes : List ℕ). HasPair (line_at bytes p.0) x y) (sym rest_is) p.2))))
              where
                as_pair : HasPair (line_at rest p.0) x y → Joins (pair_of (line_at rest) p.0) x y
                as_pair (inl e) = inl (omega (arith, e.0), omega (arith, e.1))
                as_pair (inr e) = inr (omega (arith, e.1), omega (arith, e.0))

        pub reads_all : (after : List ℕ) → after ≡ table ++ drop (places * n) before → MolfileOutcome file before after (record { answer = accepted; atoms = n; bonds = m; value = pos 0 })
        reads_all after f =
            let N = network n counted (line_at rest) m right rows P.holds in
            record {
              verdict = judged_all accepted (sym P.none);
              signs = valued accepted (sym P.none);
              refused = λ d. absurd (d refl);
              accepts = λ _. record {
                list = bonds_of table;
                counted = counted;
                valid = bonds_valid n table N;
                gives = given_by;
                number = sym (number n counted (line_at rest) m right rows P.holds);
                filled = f ∙ ap (λ (t : List ℕ). t ++ drop (places * n) before) (sym (table_back n table N));
              };
            }
