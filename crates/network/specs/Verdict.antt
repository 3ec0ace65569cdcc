-- What a validator says of a table: the first fault, in the order of the numbered refusals (document 01).
-- Word i of a table stands in row i / 8, at place i % 8.
--
--   answer code row place        the answer with these numbers
--   accepted                     0 0 0
--   refusal code                 a refusal that names no place
--   check code bad later         one check of a call: refusal `code` where it is bad, else what comes later
--   not_atoms n                  n is no number of atoms: 1 to 250
--   not_long t m                 t has not m words
--   sizes n t between later      the checks that every call with a table begins with: 1, what is checked between, 4, and what comes later
--   later_in_row i b             word i has a word before it in its row, and b holds
--   place_fault n t i            7 to 10: the fault of word i alone, or 0
--   WordsBelow n t               each neighbour is an atom: below n
--   stands t x y k p             x stands at one of the k places of row y from p on
--   in_row t x y                 x stands in row y, and the table has that row
--   bond_fault t i               11: word i is a neighbour in whose row the number of word i's own row does not stand; else 0
--   or_else c i later            fault c at word i; where c is 0 there is none, and what comes later decides
--   first_fault fault k i later  the first fault among the k words from i on, else what comes later
--   faults n t later             7 to 11 over the whole table, 11 only where no word has another fault
--   verdict n t                  1, 4, then 7 to 11
use Rattle.std.specs.Prelude.{◌≡◌, List, Bool, true, false, cond, not, ◌&&◌, ℕ, zero, suc, ◌+◌, ◌-◌, ◌*◌, ◌/◌, ◌%◌, ◌<◌, eqb, leb, ltb, length, get_or}
use Rattle.network.specs.declared.Answer.{Answer}
use Rattle.network.specs.Maxima.{atoms_most, places, free}

abbrev pub answer : ℕ → ℕ → ℕ → Answer
answer code row place = record { code = code; row = row; place = place }

abbrev pub accepted : Answer
accepted = answer 0 0 0

abbrev pub refusal : ℕ → Answer
refusal code = answer code 0 0

abbrev pub check : ℕ → Bool → Answer → Answer
check code bad later = cond bad (refusal code) later

abbrev pub not_atoms : ℕ → Bool
not_atoms n = not (leb 1 n && leb n atoms_most)

abbrev pub not_long : List ℕ → ℕ → Bool
not_long t m = not (eqb (length t) m)

unfoldable pub sizes : ℕ → List ℕ → (Answer → Answer) → Answer → Answer
sizes n t between later = check 1 (not_atoms n) (between (check 4 (not_long t (places * n)) later))

abbrev pub later_in_row : ℕ → Bool → Bool
later_in_row i b = not (eqb (i % places) 0) && b

unfoldable pub place_fault : ℕ → List ℕ → ℕ → ℕ
place_fault n t i =
    cond (eqb (get_or t i 0) free) 0
    (cond (leb n (get_or t i 0)) 7
    (cond (later_in_row i (eqb (get_or t (i - 1) 0) free)) 8
    (cond (eqb (get_or t i 0) (i / places)) 9
    (cond (later_in_row i (leb (get_or t i 0) (get_or t (i - 1) 0))) 10
    0))))

unfoldable pub WordsBelow : ℕ → List ℕ → Type 0
WordsBelow n t = (i : ℕ) → i < length t → (get_or t i 0 ≡ free → ⊥) → get_or t i 0 < n

unfoldable pub stands : List ℕ → ℕ → ℕ → ℕ → ℕ → Bool
stands t x y zero p = false
stands t x y (suc k) p = cond (eqb (get_or t (y * places + p) 0) x) true (stands t x y k (p + 1))

unfoldable pub in_row : List ℕ → ℕ → ℕ → Bool
in_row t x y = cond (ltb y (length t / places)) (stands t x y places 0) false

unfoldable pub bond_fault : List ℕ → ℕ → ℕ
bond_fault t i = cond (eqb (get_or t i 0) free) 0 (cond (stands t (i / places) (get_or t i 0) places 0) 0 11)

unfoldable pub or_else : ℕ → ℕ → Answer → Answer
or_else zero i later = later
or_else (suc c) i later = answer (suc c) (i / places) (i % places)

unfoldable pub first_fault : (ℕ → ℕ) → ℕ → ℕ → Answer → Answer
first_fault fault zero i later = later
first_fault fault (suc k) i later = or_else (fault i) i (first_fault fault k (i + 1) later)

unfoldable pub faults : ℕ → List ℕ → Answer → Answer
faults n t later = first_fault (place_fault n t) (length t) 0 (first_fault (bond_fault t) (length t) 0 later)

unfoldable pub verdict : ℕ → List ℕ → Answer
verdict n t = sizes n t (λ a. a) (faults n t accepted)
