-- All demands are met.
use Rattle.demands.specs.Demands.{Demands}
use Rattle.demands.proofs.OneOutcome.{validate_fixed, distances_fixed, candidate_fixed, count_fixed, list_fixed, renumber_fixed, read_fixed, read_molfile_fixed, write_fixed}
use Rattle.demands.proofs.Printing.{respond_fixed, respond_molfile_fixed}
use Rattle.demands.proofs.Examples as examples

pub demands_met : Demands
demands_met = record {
  validate = validate_fixed;
  distances = distances_fixed;
  candidate = candidate_fixed;
  count = count_fixed;
  list = list_fixed;
  renumber = renumber_fixed;
  read = read_fixed;
  read_molfile = read_molfile_fixed;
  write = write_fixed;
  respond = respond_fixed;
  respond_molfile = respond_molfile_fixed;
  examples = examples.examples_all;
  examples_listed = examples.examples_listed;
}
