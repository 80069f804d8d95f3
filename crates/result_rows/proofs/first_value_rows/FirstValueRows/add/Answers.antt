use Rattle.std.proofs.Common.{◌∙◌, ◌∷◌, ◌++◌, [], ap, get_or, map}
use Rattle.std.proofs.lemmas.List.{map-append}
use Rattle.definitions.specs.Table.{Row}
use Rattle.definitions.specs.Value.{Null}
use Rattle.definitions.specs.Queries.Evaluation.{column_values}
use Rattle.sqlvalue.specs.Owned.{owned_value}
use Rattle.result_lines.specs.RowAt.{items_of, row_in}
use Rattle.result_rows.proofs.RowsOneByOne.{kept_new, kept_old, seen_more}
use Rattle.result_rows.proofs.first_value_rows.FirstValueRows.add.Goals as goal

pub returns-in_ok-push-clause-added : goal.returns-in_ok-push-clause-added
returns-in_ok-push-clause-added g c rows h =
    let row = row_in (g.S.Environment.environment c.args.env.now) (items_of c.args.items.now) in
    let noted = rw c.if-branch.true at c.in_ok-is_new.ensures.noted in
    let same = c.in_ok-is_new.ensures.distinct in
    let old = c.args.self.now.values.items in
    let kept = ap (map owned_value) (c.in_ok-push.ensures.items ∙ ap (λ v. v.items ++ c.in_ok-first.first ∷ []) c.in_ok-is_new.ensures.values) ∙ map-append owned_value old (c.in_ok-first.first ∷ []) ∙ ap (λ v. map owned_value old ++ v ∷ []) c.in_ok-first.ensures.value in
    record {
      kept = kept_new rows row c.args.self.now.seen _ same c.in_ok-is_new.ensures.bounded noted h.seen column_values _ _ (get_or row 0 Null ∷ []) kept (λ rs. map-append (λ (r : Row). get_or r 0 Null) rs (row ∷ [])) h.kept;
      seen = seen_more rows row c.args.self.now.seen _ _ same c.in_ok-is_new.ensures.bounded noted h.seen;
    }

pub returns-else-branch-clause-added : goal.returns-else-branch-clause-added
returns-else-branch-clause-added g c rows h =
    let row = row_in (g.S.Environment.environment c.args.env.now) (items_of c.args.items.now) in
    let noted = rw c.if-branch.false at c.in_ok-is_new.ensures.noted in
    let same = c.in_ok-is_new.ensures.distinct in
    record {
      kept = kept_old rows row c.args.self.now.seen _ same c.in_ok-is_new.ensures.bounded noted h.seen column_values _ (λ shapes has. ap (λ v. map owned_value v.items) c.in_ok-is_new.ensures.values ∙ h.kept shapes has);
      seen = seen_more rows row c.args.self.now.seen _ _ same c.in_ok-is_new.ensures.bounded noted h.seen;
    }
