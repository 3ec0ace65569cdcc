-- The passes find the distances.
use Rattle.std.proofs.Common.{◌≡◌, refl, sym, ◌∙◌, subst, inl, inr, Bool, true, false, List, ℕ, zero, suc, ◌+◌, ◌≤◌, ◌<◌, arith, length, get_or, set, replicate, get_or-set_same, get_or-set_other}
use native.Mathlib.Decide.{ℕ_discrete, dec_le}
use lib.ListN.{length-replicate, get_or-replicate}
use Rattle.graph.specs.Graph.{Walk, Nearest}
use Rattle.graph.proofs.Distances.{distance_of, walk_longer, walk_last}
use Rattle.network.specs.Maxima.{atoms_most}
use Rattle.network.specs.Network.{Holds, Bonded, IsNetwork}
use Rattle.network.proofs.Bonds.{bonded_from, bonded_to}
use Rattle.distance.specs.Distances.{no_path}
use Rattle.distance.specs.Levels.{DistanceRow, level, first_row, unreached, PassFilled}
use Rattle.distance.proofs.Fills.{unreached_start, start_long}
use Rattle.distance.proofs.Spread.{Spread, From, pass_spreads, pass_gives}

-- before the pass at d: an entry is a distance of at most d, and where there is none, no walk has at most d bonds
pub record Reached (t : List ℕ) (n s d : ℕ) (row : List ℕ) : Type 0 where
  pub near : (w : ℕ) → w < n → (get_or row w 0 ≡ no_path → ⊥) → (get_or row w 0 ≤ d) × Nearest (Bonded t) s w (get_or row w 0)
  pub far : (w : ℕ) → w < n → get_or row w 0 ≡ no_path → (k : ℕ) → k ≤ d → Walk (Bonded t) k s w → ⊥

module _ (t : List ℕ) (n s : ℕ) (N : IsNetwork n t) (l : s < n) where
  pub reached_start : Reached t n s 0 (first_row n s)
  reached_start = record {
    near = λ w m z. elim (ℕ_discrete w s) [
      | yes e ↦ rw (e, here) (omega arith, record { walk = refl; least = λ k _. omega arith })
      | no e ↦ absurd (z (there w m e))
    ];
    far = nowhere;
  }
    where
      here : get_or (first_row n s) s 0 ≡ 0
      here = get_or-set_same (replicate n no_path) s 0 0 (rw length-replicate l)

      nowhere : (w : ℕ) → w < n → get_or (first_row n s) w 0 ≡ no_path → (k : ℕ) → k ≤ 0 → Walk (Bonded t) k s w → ⊥
      nowhere w m z zero q e =
          let g : get_or (first_row n s) s 0 ≡ no_path = rw (← e) at z in
          omega (arith, here)
      nowhere w m z (suc k) q e = omega arith

      there : (w : ℕ) → w < n → (w ≡ s → ⊥) → get_or (first_row n s) w 0 ≡ no_path
      there w m e = get_or-set_other (replicate n no_path) s w 0 0 e ∙ get_or-replicate n w no_path 0 m

  module _ (d : ℕ) (small : d + 1 < no_path) (row : List ℕ) (long : length row ≡ n) (R : Reached t n s d row) where
    abbrev new : List ℕ
    new = level t d n 0 row

    pass : Spread (d + 1) (From t n d row) row new
    pass = pass_spreads t n d small N row long

    -- an atom next to one that has been reached has an entry after the pass
    next_has : (u w k : ℕ) → Bonded t u w → Walk (Bonded t) k s u → k ≤ d → get_or row w 0 ≡ no_path → get_or new w 0 ≡ no_path → ⊥
    next_has u w k b walk q z y =
        let a : u < n = bonded_from n t N u w b in
        let at_u = R.near u a (λ e. R.far u a e k q walk) in
        let h : Holds t u b.place = λ e. b.atom (sym b.stands ∙ e) in
        elim (ℕ_discrete (get_or row u 0) d) [
          | yes e ↦ pass_gives t n d small N row long u b.place a e b.within_row h (rw b.stands y)
          | no e ↦ R.far w (bonded_to n t N u w b) z (suc (get_or row u 0)) (omega (arith, at_u.0)) (walk_longer (Bonded t) (get_or row u 0) s u w at_u.1.walk b)
        ]

    pub reached_next : Reached t n s (d + 1) new
    reached_next = record {
      near = λ w a z. elim (ℕ_discrete (get_or row w 0) no_path) [
        | yes r ↦ found w a r z
        | no r ↦ (let o = R.near w a r in rw (pass.keeps w r) (omega (arith, o.0), o.1))
      ];
      far = λ w a z k q walk. elim (ℕ_discrete (get_or row w 0) no_path) [
        | yes r ↦ nowhere w a r z k q walk
        | no r ↦ r (sym (pass.keeps w r) ∙ z)
      ];
    }
      where
        nowhere : (w : ℕ) → w < n → get_or row w 0 ≡ no_path → get_or new w 0 ≡ no_path → (k : ℕ) → k ≤ d + 1 → Walk (Bonded t) k s w → ⊥
        nowhere w a r z zero q walk = R.far w a r zero (omega arith) walk
        nowhere w a r z (suc k) q walk =
            let last = walk_last (Bonded t) k s w walk in
            next_has last.0 w k last.2 last.1 (omega arith) r z

        found : (w : ℕ) → w < n → get_or row w 0 ≡ no_path → (get_or new w 0 ≡ no_path → ⊥) → (get_or new w 0 ≤ d + 1) × Nearest (Bonded t) s w (get_or new w 0)
        found w a r z =
            let so = pass.sound w r z in
            let f = so.1 in
            let at_u = R.near f.atom f.known (omega (arith, f.entry)) in
            let b : Bonded t f.atom w = record { place = f.place; within_row = f.within_row; in_table = omega (arith, f.known, f.within_row, N.whole); stands = f.leads; atom = λ e. f.holds (f.leads ∙ e) } in
            let walk = walk_longer (Bonded t) (get_or row f.atom 0) s f.atom w at_u.1.walk b in
            let e : suc (get_or row f.atom 0) ≡ d + 1 = omega (arith, f.entry) in
            rw so.0 (
              omega arith,
              record {
                walk = subst (λ k. Walk (Bonded t) k s w) e walk;
                least = λ k y. elim (dec_le k d) [ yes c ↦ absurd (R.far w a r k c y) | no c ↦ omega arith ];
              },
            )

    -- a pass that changes nothing is the last
    all_have : (k w : ℕ) → w < n → Walk (Bonded t) k s w → new ≡ row → get_or row w 0 ≡ no_path → ⊥
    all_have zero w a walk same z = R.far w a z zero (omega arith) walk
    all_have (suc k) w a walk same z =
        let last = walk_last (Bonded t) k s w walk in
        let u = last.0 in
        let known : u < n = bonded_from n t N u w last.2 in
        let at_u = R.near u known (all_have k u known last.1 same) in
        next_has u w (get_or row u 0) last.2 at_u.1.walk at_u.0 z (rw same z)

    pub reached_all : new ≡ row → d < n → n ≤ atoms_most → DistanceRow t n s row
    reached_all same small most y a =
        elim (ℕ_discrete (get_or row y 0) no_path) [
          | yes z ↦ inr (z, λ k p. all_have k y a p.walk same z)
          | no z ↦ (let o = R.near y a z in inl (omega (arith, o.0), distance_of (Bonded t) s y (get_or row y 0) o.1))
        ]

-- what holds before each pass: the passes go on while atoms are left without an entry
pub record Before (t : List ℕ) (n s d : ℕ) (row : List ℕ) : Type 0 where
  pub net : IsNetwork n t
  pub known : s < n
  pub long : length row ≡ n
  pub reached : Reached t n s d row
  pub room : d + 1 + unreached row ≤ n

pub before_start : (t : List ℕ) (n s : ℕ) (row : List ℕ) → IsNetwork n t → s < n → row ≡ replicate n no_path → Before t n s 0 (set row s 0)
before_start t n s row N l h = rw h (record {
  net = N;
  known = l;
  long = start_long n s;
  reached = reached_start t n s N l;
  room = omega (arith, unreached_start n s l);
})

module _ (t : List ℕ) (n s d : ℕ) (row new : List ℕ) (filled : Bool) (B : Before t n s d row) (h : new ≡ level t d (length row) 0 row) (F : PassFilled row new filled) where
  small : d + 1 < no_path
  small = omega (arith, B.room, B.net.counted.most)

  passed : new ≡ level t d n 0 row
  passed = h ∙ rw B.long

  pub before_next : filled ≡ true → Before t n s (d + 1) new
  before_next z = record {
    net = B.net;
    known = B.known;
    long = F.long ∙ B.long;
    reached = rw passed (reached_next t n s B.net B.known d small row B.long B.reached);
    room = omega (arith, B.room, F.fewer z);
  }

  pub before_last : filled ≡ false → DistanceRow t n s new
  before_last z = rw (F.same z) (reached_all t n s B.net B.known d small row B.long B.reached (sym passed ∙ F.same z) (omega (arith, B.room)) B.net.counted.most)
