-- The values of an outcome lose nothing: they tell the case of the enum, and its places.
use mathlib.Core.Path.{◌≡◌, refl, sym, ◌∙◌, ap}
use Prim.Native.Nat.{ℕ, zero, suc}
use Rattle.candidate.specs.Told.{Shortest, Yes, No, Refused}
use Rattle.candidate.specs.CandidateOutcome.{Values, values}

abbrev pub number : Values → ℕ
number v = v.number

pub alike : (a b : Values) → a.number ≡ b.number → a.first ≡ b.first → a.second ≡ b.second → a ≡ b
alike a b n f s =
    ap (λ x. told x a.first a.second) n ∙ ap (λ x. told b.number x a.second) f ∙ ap (told b.number b.first) s
  where
    told : ℕ → ℕ → ℕ → Values
    told n f s = record { number = n; first = f; second = s }

-- the case with the number n and these places
abbrev case_of : ℕ → ℕ → ℕ → Shortest
case_of zero i j = Refused
case_of (suc zero) i j = Yes
case_of (suc (suc n)) i j = No i j

told_back : (s : Shortest) → case_of (values s).number (values s).first (values s).second ≡ s
told_back Refused = refl
told_back Yes = refl
told_back (No i j) = refl

pub values_tell : (s u : Shortest) → values s ≡ values u → s ≡ u
values_tell s u e = sym (told_back s) ∙ ap (λ (v : Values). case_of v.number v.first v.second) e ∙ told_back u
