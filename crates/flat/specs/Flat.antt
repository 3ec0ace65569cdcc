-- The answers as C has them: no enum, but a flag beside the values, which are 0 where the flag says that there are none.
--
--   flat_census c               what counting and listing answer: the mean by its values, number 1 where there is one
--   flat_candidate c            what the test of a candidate answers: by its values, number 1 for yes
--   PassedOn flat Contract r    r is the flat form of an answer with this contract
use Rattle.std.specs.Prelude.{◌≡◌, eqb}
use Rattle.candidate.specs.Told.{Tested}
use Rattle.candidate.specs.CandidateOutcome.{values}
use Rattle.census.specs.Told.{Census}
use Rattle.averages.specs.Averages.{mean_values}
use Rattle.flat.specs.declared.FlatCensus.{FlatCensus}
use Rattle.flat.specs.declared.FlatCandidate.{FlatCandidate}

abbrev pub flat_census : Census → FlatCensus
flat_census c = record {
  answer = c.answer;
  limit = c.limit;
  counts = c.counts;
  total = c.total;
  words = c.words;
  per_atom = c.averages.per_atom;
  has_mean = eqb (mean_values c.averages.mean).number 1;
  mean = (mean_values c.averages.mean).value;
}

abbrev pub flat_candidate : Tested → FlatCandidate
flat_candidate c = record {
  answer = c.answer;
  yes = eqb (values c.shortest).number 1;
  first = (values c.shortest).first;
  second = (values c.shortest).second;
  writing = c.writing;
}

pub record PassedOn {Own Flat : Type 0} (flat : Own → Flat) (Contract : Own → Type 0) (r : Flat) : Type 0 where
  pub own : Own
  pub meets : Contract own
  pub flattened : r ≡ flat own
