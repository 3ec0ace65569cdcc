-- What counting and listing tell, accepted or refused, as one record.
--
--   Census                  the answer, the limit used, a count for each length, the number of rings, the words that their list takes, and averages
--   no_numbers              the histogram of a refused call: every number is 0
--   no_census a             what a call refused with the answer a tells: its histogram is no_numbers
--   histogram_told outcome     that of an outcome: refused, every number is 0
use Rattle.std.specs.Prelude.{List, ℕ, ◌+◌, replicate, Result, Ok, Err}
use Rattle.network.specs.declared.Answer.{Answer}
use Rattle.network.specs.declared.refusals.Refusal.{Refusal}
use Rattle.network.specs.Verdict.{accepted}
use Rattle.network.specs.Refusals.{answer_of}
use Rattle.ring.specs.Maxima.{ring_most}
use Rattle.averages.specs.declared.Averages.{Averages}
use Rattle.averages.specs.Averages.{no_averages}
use Rattle.census.specs.declared.Histogram.{Histogram}

pub record Census : Type 0 where
  pub answer : Answer
  pub limit : ℕ
  pub counts : List ℕ
  pub total : ℕ
  pub words : ℕ
  pub averages : Averages

abbrev pub no_numbers : Histogram
no_numbers = record {
  limit = 0;
  counts = replicate (ring_most + 1) 0;
  total = 0;
  words = 0;
  averages = no_averages;
}

abbrev pub no_census : Answer → Census
no_census a = record {
  answer = a;
  limit = 0;
  counts = replicate (ring_most + 1) 0;
  total = 0;
  words = 0;
  averages = no_averages;
}

abbrev pub histogram_told : Result Histogram Refusal → Census
histogram_told (Ok h) = record {
  answer = accepted;
  limit = h.limit;
  counts = h.counts;
  total = h.total;
  words = h.words;
  averages = h.averages;
}
histogram_told (Err refusal) = no_census (answer_of refusal)
