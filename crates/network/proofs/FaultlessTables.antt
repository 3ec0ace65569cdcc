-- A table of n rows without a fault is that of a network, and the table of a network has no fault.
use mathlib.Core.Path.{◌≡◌, refl, sym, ◌∙◌}
use mathlib.Core.Logic.{◌⊎◌, inl, inr}
use mathlib.Core.Bool.{Bool, true, false}
use mathlib.Core.List.{List}
use Prim.Native.Nat.{ℕ, zero, suc, ◌*◌, ◌<◌}
use native.Mathlib.Omega.{arith}
use native.Mathlib.Decide.{dec_le, ℕ_discrete}
use lib.ListN.{length}
use Rattle.network.specs.declared.Answer.{Answer}
use Rattle.network.specs.Maxima.{places}
use Rattle.network.specs.Network.{word, Holds, Bonded, Counted, IsNetwork}
use Rattle.network.specs.Verdict.{faults, stands}
use Rattle.network.specs.FirstFault.{AtPlace, Unanswered, NamesFirst, Faultless}
use Rattle.network.proofs.FirstFaults.{faultless_none}
use Rattle.network.proofs.TableFaults.{found, finds, faults_told}

abbrev Clean : ℕ → List ℕ → Type 0
Clean n t = Faultless n (AtPlace n t) (Unanswered n t)

-- a table of n rows without a fault is a network
module _ (n : ℕ) (t : List ℕ) (C : Counted n) (whole : length t ≡ places * n) (F : Clean n t) where
  step : (x p : ℕ) → x < n → suc p < places → Holds t x (suc p) → Holds t x p × (word t x p < word t x (suc p))
  step x p l m h =
      let held : Holds t x p = λ e. F.no_place x (suc p) 8 l m (inr (inl (refl, (h, (p, omega arith, e))))) in
      (held, elim (dec_le (word t x (suc p)) (word t x p)) [ yes k ↦ absurd (F.no_place x (suc p) 10 l m (inr (inr (inr (refl, (h, (p, refl, held, k))))))) | no k ↦ omega arith ])

  chain : (x p q : ℕ) → x < n → p < q → q < places → Holds t x q → Holds t x p × (word t x p < word t x q)
  chain x p zero l s m h = absurd (omega arith)
  chain x p (suc q) l s m h =
      let one_down = step x q l m h in
      elim (ℕ_discrete p q) [
        | yes e ↦ rw e one_down
        | no e ↦ (let rest = chain x p q l (omega arith) (omega arith) one_down.0 in (rest.0, omega (arith, rest.1, one_down.1)))
      ]

  atom : (x p : ℕ) → x < n → p < places → Holds t x p → word t x p < n
  atom x p l m h = elim (dec_le n (word t x p)) [ yes k ↦ absurd (F.no_place x p 7 l m (inl (refl, (h, k)))) | no k ↦ omega arith ]

  reply : (x p : ℕ) → x < n → p < places → Holds t x p → Bonded t (word t x p) x
  reply x p l m h = go (stands t x (word t x p) places 0) refl
    where
      go : (b : Bool) → stands t x (word t x p) places 0 ≡ b → Bonded t (word t x p) x
      go true e =
          let r = found t x (word t x p) places 0 e in
          record { place = r.0; within_row = omega (arith, r.1); in_table = omega (arith, r.1, whole, atom x p l m h); stands = r.2; atom = λ f. omega (arith, C.most) }
      go false e =
          absurd (F.no_bond x p l m (
            h,
            λ b. let y : ◌≡◌ {A = Bool} false true = sym e ∙ finds t x (word t x p) places 0 b.place (omega arith) (omega (arith, b.within_row)) b.stands in
                let w : ◌≡◌ {A = ℕ} 0 1 = cc in omega arith,
          ))

  network_clean : IsNetwork n t
  network_clean = record {
    counted = C;
    whole = whole;
    below = atom;
    other = λ x p l m h e. F.no_place x p 9 l m (inr (inr (inl (refl, (h, e)))));
    first = λ x p q l s m h. (chain x p q l s m h).0;
    ascends = λ x p q l s m h. (chain x p q l s m h).1;
    answered = reply;
  }

-- a network has no fault
module _ (n : ℕ) (t : List ℕ) (N : IsNetwork n t) where
  clean_network : Clean n t
  clean_network = record { no_place = at; no_bond = λ x p l m u. u.1 (N.answered x p l m u.0) }
    where
      at : (x p c : ℕ) → x < n → p < places → AtPlace n t x p c → ⊥
      at x p c l m (inl (_, (h, k))) = omega (arith, k, N.below x p l m h)
      at x p c l m (inr (inl (_, (h, (q, s, e))))) = N.first x q p l s m h e
      at x p c l m (inr (inr (inl (_, (h, e))))) = N.other x p l m h e
      at x p c l m (inr (inr (inr (_, (h, (q, e, k, s)))))) = omega (arith, s, N.ascends x q p l (omega arith) m h)

  pub no_first : (a : Answer) → NamesFirst n t a → ⊥
  no_first = faultless_none n (AtPlace n t) (Unanswered n t) clean_network

  pub faultless_of : (later : Answer) → faults n t later ≡ later
  faultless_of later =
      elim (faults_told n t N.counted N.whole later)
      [ inl F ↦ absurd (no_first _ F) | inr h ↦ h.1 ]

-- the table of a call: its first fault is named, or it is a network and what comes later decides
module _ (n : ℕ) (t : List ℕ) (C : Counted n) (whole : length t ≡ places * n) (later : Answer) where
  pub table_told : NamesFirst n t (faults n t later) ⊎ (IsNetwork n t × (faults n t later ≡ later))
  table_told = elim (faults_told n t C whole later) [ inl F ↦ inl F | inr h ↦ inr (network_clean n t C whole h.0, h.1) ]
