-- The verdict from the two passes.
use mathlib.Core.Path.{◌≡◌, refl, sym, ◌∙◌, ap}
use mathlib.Core.Bool.{Bool, true, false, cond}
use mathlib.Core.List.{List}
use Rattle.std.proofs.Common.{Option, None, Some}
use Prim.Native.Nat.{ℕ, zero, suc, ◌+◌, ◌*◌, ◌≤◌, ◌<◌}
use native.Mathlib.Omega.{arith}
use native.Mathlib.Decide.{dec_le, ℕ_discrete}
use lib.ListN.{length, get_or}
use borrow.Author.Tests.{eq-eqb, ne_eqb, le-leb, lt-leb}
use Rattle.network.specs.declared.Answer.{Answer}
use Rattle.network.specs.Maxima.{atoms_most, places, free}
use Rattle.network.specs.Network.{Counted}
use Rattle.network.specs.Verdict.{place_fault, bond_fault, first_fault, or_else, accepted, refusal, check, faults, not_atoms, not_long, sizes, WordsBelow}
use Rattle.network.specs.Refusals.{network_of}
use Rattle.network.specs.declared.Network.{Network}
use Rattle.network.proofs.PlaceFaults.{fault_7}

-- one word, then the rest
or_kept : (c i : ℕ) (a b : Answer) → ((or_else c i b).code ≡ 0 → ⊥) → ((b.code ≡ 0 → ⊥) → a ≡ b) → or_else c i a ≡ or_else c i b
unfolding or_else
or_kept zero i a b z f = f z
or_kept (suc c) i a b z f = refl

or_clean : (c i : ℕ) (a : Answer) → (or_else c i a).code ≡ 0 → (c ≡ 0) × (a.code ≡ 0)
unfolding or_else
or_clean zero i a z = (refl, z)
or_clean (suc c) i a z = absurd (omega arith)

-- a pass that finds a fault decides, and one that finds none leaves it to what comes later
pub kept : (fault : ℕ → ℕ) (k i : ℕ) (later : Answer) → ((first_fault fault k i accepted).code ≡ 0 → ⊥) → first_fault fault k i later ≡ first_fault fault k i accepted
unfolding first_fault
kept fault zero i later z = absurd (z refl)
kept fault (suc k) i later z = or_kept (fault i) i _ _ z (kept fault k (i + 1) later)

pub clean : (fault : ℕ → ℕ) (k i : ℕ) (later : Answer) → (first_fault fault k i accepted).code ≡ 0 → first_fault fault k i later ≡ later
unfolding first_fault or_else
clean fault zero i later z = refl
clean fault (suc k) i later z =
    let both = or_clean (fault i) i _ z in
    rw both.0 (clean fault k (i + 1) later both.1)

pub clean_at : (fault : ℕ → ℕ) (k i : ℕ) → (first_fault fault k i accepted).code ≡ 0 → (j : ℕ) → i ≤ j → j < i + k → fault j ≡ 0
unfolding first_fault
clean_at fault zero i z j l h = absurd (omega arith)
clean_at fault (suc k) i z j l h =
    let both = or_clean (fault i) i _ z in
    elim (dec_le (i + 1) j) [
      | yes m ↦ clean_at fault k (i + 1) both.1 j m (omega arith)
      | no m ↦ (let e : j ≡ i = omega arith in rw e both.0)
    ]

pub below : (n : ℕ) (t : List ℕ) (i : ℕ) → place_fault n t i ≡ 0 → (get_or t i 0 ≡ free → ⊥) → get_or t i 0 < n
below n t i z h = elim (dec_le n (get_or t i 0)) [ yes m ↦ absurd (omega (arith, fault_7 n t i h m)) | no m ↦ omega arith ]

pub words_below : (n : ℕ) (t : List ℕ) (a : Answer) → a ≡ first_fault (place_fault n t) (length t) 0 accepted → a.code ≡ 0 → WordsBelow n t
unfolding WordsBelow
words_below n t a first z i l h = below n t i (clean_at (place_fault n t) (length t) 0 (ap (λ (x : Answer). x.code) (sym first) ∙ z) i (omega arith) (omega arith)) h

-- two passes, as over places and then over bonds: the first decides where it finds something, and where it does not the second
module _ (place bond : ℕ → ℕ) (k : ℕ) where
  abbrev passes : Answer → Answer
  passes later = first_fault place k 0 (first_fault bond k 0 later)

  pub passes_kept : (later : Answer) → ((passes accepted).code ≡ 0 → ⊥) → passes later ≡ passes accepted
  passes_kept later z =
      elim (ℕ_discrete (first_fault place k 0 accepted).code 0) [
        | yes e ↦ clean place k 0 _ e ∙ kept bond k 0 later (λ y. z (ap (λ (x : Answer). x.code) (clean place k 0 _ e) ∙ y)) ∙ sym (clean place k 0 _ e)
        | no e ↦ kept place k 0 _ e ∙ sym (kept place k 0 _ e)
      ]

  module _ (a : Answer) (first : a ≡ first_fault place k 0 accepted) where
    pub says_first : (a.code ≡ 0 → ⊥) → a ≡ passes accepted
    says_first z = first ∙ sym (kept place k 0 _ (λ e. z (ap (λ (x : Answer). x.code) first ∙ e)))

    pub says_second : (b : Answer) → a.code ≡ 0 → b ≡ first_fault bond k 0 accepted → b ≡ passes accepted
    says_second b z h = h ∙ sym (clean place k 0 _ (ap (λ (x : Answer). x.code) (sym first) ∙ z))

module _ (n : ℕ) (t : List ℕ) where
  -- faults decide, whatever comes later
  pub faults_kept : (later : Answer) → ((faults n t accepted).code ≡ 0 → ⊥) → faults n t later ≡ faults n t accepted
  unfolding faults
  faults_kept = passes_kept (place_fault n t) (bond_fault t) (length t)

  pub says_place : (a : Answer) → a ≡ first_fault (place_fault n t) (length t) 0 accepted → (a.code ≡ 0 → ⊥) → a ≡ faults n t accepted
  unfolding faults
  says_place = says_first (place_fault n t) (bond_fault t) (length t)

  pub says_bond : (a : Answer) → a ≡ first_fault (place_fault n t) (length t) 0 accepted → (b : Answer) → a.code ≡ 0 → b ≡ first_fault (bond_fault t) (length t) 0 accepted → b ≡ faults n t accepted
  unfolding faults
  says_bond = says_second (place_fault n t) (bond_fault t) (length t)

-- a check that does not refuse
pub not_refused : (c : ℕ) (bad : Bool) (later : Answer) → (c ≡ 0 → ⊥) → (check c bad later).code ≡ 0 → (bad ≡ false) × (later.code ≡ 0)
not_refused c true later z e = absurd (z e)
not_refused c false later z e = (refl, e)

-- the checks of numbers, for any call
pub not_atoms_low : (n : ℕ) → n < 1 → not_atoms n ≡ true
not_atoms_low n l = simp (lt-leb _ _ l)

pub not_atoms_high : (n : ℕ) → atoms_most < n → not_atoms n ≡ true
not_atoms_high n l = let one : 1 ≤ n = omega arith in simp (le-leb _ _ one, lt-leb _ _ l)

pub atoms : (n : ℕ) → 1 ≤ n → n ≤ atoms_most → not_atoms n ≡ false
atoms n l m = simp (le-leb _ _ l, le-leb _ _ m)

-- what the constructor of networks answers
pub network_none : (n : ℕ) → ((1 ≤ n) × (n ≤ atoms_most) → ⊥) → not_atoms n ≡ true
network_none n h = elim (dec_le 1 n) [
  | yes l ↦ (elim (dec_le n atoms_most) [ yes k ↦ absurd (h (l, k)) | no k ↦ not_atoms_high n (omega arith) ])
  | no l ↦ not_atoms_low n (omega arith)
]

pub is_none : (n : ℕ) → ((1 ≤ n) × (n ≤ atoms_most) → ⊥) → None ≡ network_of n
unfolding network_of
is_none n h = rw (network_none n h) refl

pub is_some : (n : ℕ) → 1 ≤ n → n ≤ atoms_most → Some (record { atoms = n }) ≡ network_of n
unfolding network_of
is_some n l m = rw (atoms n l m) refl

pub no_network : (n : ℕ) (o : Option Network) → o ≡ network_of n → o ≡ None → not_atoms n ≡ true
unfolding network_of
no_network n o e z = go (not_atoms n) refl (sym e ∙ z)
  where
    go : (b : Bool) → not_atoms n ≡ b → cond {A = Option Network} b None (Some (record { atoms = n })) ≡ None → not_atoms n ≡ true
    go true h k = h
    go false h k = absurd (cc)

pub some_network : (n : ℕ) (o : Option Network) (m : Network) → o ≡ network_of n → o ≡ Some m → Counted n
some_network n o m e z = elim (dec_le 1 n) [
  | yes l ↦ (elim (dec_le n atoms_most) [ yes k ↦ record { some = l; most = k } | no k ↦ absurd (none (λ w. absurd (omega arith))) ])
  | no l ↦ absurd (none (λ w. absurd (omega arith)))
]
  where
    none : ((1 ≤ n) × (n ≤ atoms_most) → ⊥) → ⊥
    none h = let f = is_none n h in cc

pub not_long_lem : (t : List ℕ) (m : ℕ) → (length t ≡ m → ⊥) → not_long t m ≡ true
not_long_lem t m h = simp (ne_eqb _ _ h)

pub long : (t : List ℕ) (m : ℕ) → length t ≡ m → not_long t m ≡ false
long t m h = simp (eq-eqb _ _ h)

-- 1 and 4
module _ (n : ℕ) (t : List ℕ) where
  pub sizes_1 : not_atoms n ≡ true → refusal 1 ≡ sizes n t (λ b. b) accepted
  unfolding sizes
  sizes_1 h = rw h refl

  pub sizes_4 : Counted n → (length t ≡ places * n → ⊥) → refusal 4 ≡ sizes n t (λ b. b) accepted
  unfolding sizes
  sizes_4 some l = rw (atoms n some.some some.most, not_long_lem t (places * n) l) refl

  pub sizes_right : Counted n → length t ≡ places * n → accepted ≡ sizes n t (λ b. b) accepted
  unfolding sizes
  sizes_right some l = rw (atoms n some.some some.most, long t (places * n) l) refl

module _ (n : ℕ) (t : List ℕ) where
  -- sizes that are refused are refused whatever comes later, and where they are right what comes later decides
  pub sizes_kept : (later : Answer) → ((sizes n t (λ b. b) accepted).code ≡ 0 → ⊥) → sizes n t (λ b. b) later ≡ sizes n t (λ b. b) accepted
  unfolding sizes
  sizes_kept later z = go (not_atoms n) (not_long t (places * n)) z
    where
      go : (b d : Bool) → ((check 1 b (check 4 d accepted)).code ≡ 0 → ⊥) → check 1 b (check 4 d later) ≡ check 1 b (check 4 d accepted)
      go true d z = refl
      go false true z = refl
      go false false z = absurd (z refl)

  pub sized : Counted n → length t ≡ places * n → (later : Answer) → sizes n t (λ b. b) later ≡ later
  unfolding sizes
  sized c h later = rw (atoms n c.some c.most, long t (places * n) h) refl
