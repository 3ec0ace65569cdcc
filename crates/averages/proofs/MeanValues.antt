-- The values of a mean lose nothing: they tell whether there is one, and its value. So averages that tell the same are the same.
use Rattle.std.proofs.Common.{◌≡◌, refl, sym, ◌∙◌, ap, ℕ, zero, suc, Float, Option, None, Some}
use Rattle.averages.specs.declared.Averages.{Averages}
use Rattle.averages.specs.Averages.{MeanValues, mean_values, AveragesTold}

-- the mean with the number n and this value
abbrev case_of : ℕ → Float → Option Float
case_of zero x = None
case_of (suc n) x = Some x

told_back : (m : Option Float) → case_of (mean_values m).number (mean_values m).value ≡ m
told_back None = refl
told_back (Some x) = refl

pub mean_told : (m k : Option Float) → mean_values m ≡ mean_values k → m ≡ k
mean_told m k e = sym (told_back m) ∙ ap (λ (v : MeanValues). case_of v.number v.value) e ∙ told_back k

pub averages_told : (a r : Averages) → AveragesTold a r → r ≡ a
averages_told a r A = ap (λ x. averages x r.mean) A.per_atom ∙ ap (averages a.per_atom) (mean_told r.mean a.mean A.mean)
  where
    averages : Float → Option Float → Averages
    averages x m = record { per_atom = x; mean = m }
