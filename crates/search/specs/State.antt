-- What a step of the search does.
--
--   rings_on m k path    the rings of k atoms of the network m that begin with the path, in order
--   HasNoted xs b c      the notes c are b with the rings xs noted
--   Looked test s a r    an answer to a test of a next on the path: none for no; else where the next look ahead may start
use Rattle.std.specs.Prelude.{◌≡◌, ℕ, ◌-◌, Bool, true, false, List, [], ◌∷◌, ◌++◌, Option, MatchOption, length}
use Rattle.census.specs.Census.{plain}
use Rattle.paths.specs.Search.{extend}
use Rattle.paths.specs.Turn.{may_follow, Hint}
use Rattle.notes.specs.Noting.{state, note_all}
use Rattle.search.specs.declared.net.Net.{Net}
use Rattle.search.specs.declared.state.Search.{Search}
use Rattle.search.specs.declared.state.Notes.{Notes}

abbrev pub rings_on : Net → ℕ → List ℕ → List (List ℕ)
rings_on m k path = extend (may_follow m.n m.dist.now k) m.n m.table.now m.dist.now k (k - length path) path

pub record HasNoted (xs : List (List ℕ)) (b c : Notes) : Type 0 where
  pub result : state c.found c.list.now ≡ note_all length plain b.allowance xs (state b.found b.list.now)
  pub allowance : c.allowance ≡ b.allowance

abbrev pub Looked : Bool → Search → ℕ → Option ℕ → Type 0
Looked test s a r = MatchOption r (test ≡ false) (λ from. (test ≡ true) × Hint s.net.n s.net.dist.now s.k (s.path.now ++ (a ∷ [])) from)
