use Rattle.std.proofs.Common.{◌∙◌, sym, length, arith}
use Rattle.std.specs.List.{range_with_len}
use Rattle.std.proofs.lemmas.List.{ext_get_or}
use Rattle.std.proofs.lemmas.List.FromFn.{get_or-range_with_len, length-range_with_len}
use Rattle.told_tests.proofs.run_scan.first_of_run.Goals as goal

pub returns-clause-run : goal.returns-clause-run
returns-clause-run c =
    let rows = c.args.rows.now in
    let first = c.in_ok-first.field-0.now in
    ext_get_or 0 rows (range_with_len first (length rows)) (sym (length-range_with_len first (length rows)))
    (λ k lt. c.rows.invariant k (omega (arith, lt, c.rows-test.false)) ∙ sym (get_or-range_with_len first (length rows) k 0 lt))
