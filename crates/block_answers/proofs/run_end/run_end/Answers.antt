use Rattle.std.proofs.Common.{◌∙◌, sym, ap, arith, get_or, []}
use Rattle.definitions.specs.Queries.Evaluation.{cell, Environment}
use Rattle.query_tree.specs.Bound.{column_of}
use Rattle.query_tree.specs.declared.leaf.BlockColumn.{BlockColumn}
use Rattle.block_answers.specs.Groups.{seen}
use Rattle.block_answers.specs.Runs.{combination_at}
use Rattle.block_answers.proofs.RunTaking.{column_passed, none_left, same_at}
use Rattle.block_answers.proofs.run_end.run_end.Goals as goal

pub columns-preserved : goal.columns-preserved
columns-preserved g c =
    let s = c.args.source.now in
    let outer = g.A.OuterRows.combinations c.args.around.now in
    let items = c.args.batch.now.items in
    let row = seen s outer c.args.row.now in
    let default : BlockColumn = record { table = 0; number = 0 } in
    let column = column_of (get_or c.args.columns.now c.columns.column-index default) in
    let value = c.cell.ensures ∙ ap (λ (env : Environment). cell env.combination column) c.row_at-first.ensures in
    let shorter = c.value_end-end.ensures.within in
    record {
      forward = c.value_end-end.ensures.forward;
      within = omega (arith, c.value_end-end.ensures.within, c.columns.invariant.within);
      run = λ at from to.
          sym (column_passed c.args.columns.now c.columns.column-index default row (combination_at s outer (get_or items at [])) c.columns-test.true
          (same_at s outer column row items c.column-rows.result.now at _ value c.column-rows.ensures (omega (arith, to, shorter, c.columns.invariant.within)) (c.value_end-end.ensures.same at from to)))
          ∙ c.columns.invariant.run at from (omega (arith, to, shorter));
    }

pub returns-clause-run : goal.returns-clause-run
returns-clause-run g c at from to =
    let s = c.args.source.now in
    let outer = g.A.OuterRows.combinations c.args.around.now in
    sym (c.columns.invariant.run at from to) ∙ none_left c.args.columns.now c.columns.column-index (seen s outer c.args.row.now) (combination_at s outer (get_or c.args.batch.now.items at [])) c.columns-test.false
