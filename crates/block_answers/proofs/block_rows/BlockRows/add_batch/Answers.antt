use Rattle.std.proofs.Common.{◌∙◌, ap, map, subst}
use Rattle.std.specs.List.{AllByRecursion}
use Rattle.query_tree.specs.Bound.{bound_function_of}
use Rattle.grouping.specs.Batches.{IsOfColumn}
use Rattle.block_answers.proofs.block_rows.BlockRows.add_batch.Goals as goal

pub returns-then-branch-clause-told : goal.returns-then-branch-clause-told
returns-then-branch-clause-told g c cs typed before = c.in_ok-add_columns.ensures.told c.if-branch.true cs before

pub add_batch-requires-clause-of : goal.add_batch-requires-clause-of
add_batch-requires-clause-of g c =
    subst (λ width. AllByRecursion (IsOfColumn width) (map bound_function_of c.args.source.now.block.functions.items)) c.width.ensures.exact
    (subst (λ fs. AllByRecursion (IsOfColumn c.width.result) (map bound_function_of fs)) (c.deref.ensures.value ∙ ap (λ b. b.functions.items) c.requires.block) (c.are_of_columns.ensures c.if-are_of_columns.true))
