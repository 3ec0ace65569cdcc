-- What comes of reading a file of bonds, whatever its format: the answer, and the lent table before and after.
-- `Gives n bonds` says of a file that it is one of n atoms and these bonds.
--
--   GivesOne Gives                   a file gives no two networks
--   Filled Gives before after r      the file gives r's atoms and some valid bonds, of r's number, and their table stands first in the
--                                    table lent, of which the rest stays
--   ReadingOutcome says value Gives before after r    what comes of reading: the answer is what `says` says and has the value that goes
--                                    with it; refused, nothing is changed and the counts are 0
use Rattle.std.specs.Prelude.{◌≡◌, List, ◌++◌, ℕ, ◌*◌, ℤ, length, drop}
use Rattle.network.specs.declared.Answer.{Answer}
use Rattle.network.specs.Maxima.{places}
use Rattle.network.specs.Network.{Counted}
use Rattle.bonds.specs.declared.Reading.{Reading}
use Rattle.bonds.specs.Bonds.{Bond, ValidBonds, table_of}

abbrev pub GivesOne : (ℕ → List Bond → Type 0) → Type 0
GivesOne Gives = (n m : ℕ) (bonds more : List Bond) → ValidBonds n bonds → ValidBonds m more → Gives n bonds → Gives m more → (n ≡ m) × (bonds ≡ more)

pub record Filled (Gives : ℕ → List Bond → Type 0) (before after : List ℕ) (r : Reading) : Type 0 where
  pub list : List Bond
  pub counted : Counted r.atoms
  pub valid : ValidBonds r.atoms list
  pub gives : Gives r.atoms list
  pub number : r.bonds ≡ length list
  pub filled : after ≡ table_of r.atoms list ++ drop (places * r.atoms) before

pub record ReadingOutcome (says : Answer) (value : ℕ → ℤ) (Gives : ℕ → List Bond → Type 0) (before after : List ℕ) (r : Reading) : Type 0 where
  pub verdict : r.answer ≡ says
  pub signs : r.value ≡ value r.answer.code
  pub refused : (r.answer.code ≡ 0 → ⊥) → (r.atoms ≡ 0) × (r.bonds ≡ 0) × (after ≡ before)
  pub accepts : r.answer.code ≡ 0 → Filled Gives before after r
