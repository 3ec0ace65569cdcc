use Rattle.std.proofs.Common.{ℕ, ◌≤◌, sym, subst, length-take-le}
use Rattle.std.proofs.lemmas.List.{length-replicate}
use Rattle.report.specs.Report.{molfile_bytes}
use Rattle.report.proofs.Fits.{read_text_fits, responds_inside}
use Rattle.listing_molfile.proofs.main.Goals as goal

pub slice_bounds-read_full-end : goal.slice_bounds-read_full-end
slice_bounds-read_full-end c = sym (length-replicate {0} {A = ℕ} molfile_bytes 0)

pub slice_bounds-out-end : goal.slice_bounds-out-end
slice_bounds-out-end c = subst (λ (m : ℕ). c.respond_molfile-bytes.result ≤ m) (sym c.respond_molfile-bytes.auto.out) (responds_inside read_text_fits c.respond_molfile-bytes.ensures)

pub slice_bounds-write_all-end : goal.slice_bounds-write_all-end
slice_bounds-write_all-end c = sym (length-take-le _ _ (subst (λ (m : ℕ). c.respond_molfile-bytes.result ≤ m) (sym c.respond_molfile-bytes.auto.out) (responds_inside read_text_fits c.respond_molfile-bytes.ensures)))

pub slice_bounds-file-end : goal.slice_bounds-file-end
slice_bounds-file-end c = c.read_full-got.ensures.within

pub slice_bounds-respond_molfile-end : goal.slice_bounds-respond_molfile-end
slice_bounds-respond_molfile-end c = sym (length-take-le _ _ c.read_full-got.ensures.within)
