use Rattle.std.proofs.Common.{◌∙◌, ◌∷◌, ◌++◌, [], List, ap, refl}
use Rattle.std.proofs.lemmas.List.{map-append}
use Rattle.definitions.specs.Table.{Row}
use Rattle.result_lines.specs.RowAt.{items_of, row_in}
use Rattle.result_lines.specs.Rows.{row_of, rows_of}
use Rattle.result_rows.proofs.RowsOneByOne.{kept_new, kept_old, seen_more}
use Rattle.result_rows.proofs.ordered_rows.OrderedRows.add.Goals as goal

pub returns-in_ok-push-clause-added : goal.returns-in_ok-push-clause-added
returns-in_ok-push-clause-added g c names rows h =
    let row = row_in (g.S.Environment.environment c.args.env.now) (items_of c.args.items.now) in
    let noted = rw (c.in_ok-row.ensures.row, c.if-branch.true) at c.in_ok-is_new.ensures.noted in
    let kept = ap rows_of (c.in_ok-push.ensures.items ∙ ap (λ v. v.items ++ c.in_ok-row.row ∷ []) c.in_ok-is_new.ensures.rows) ∙ map-append row_of c.args.self.now.rows.items (c.in_ok-row.row ∷ []) ∙ ap (λ r. rows_of c.args.self.now.rows.items ++ r ∷ []) c.in_ok-row.ensures.row in
    let same = c.in_ok-is_new.ensures.distinct in
    record {
      header = ap (λ v. v.items) c.in_ok-is_new.ensures.header ∙ h.header;
      kept = kept_new rows row c.args.self.now.seen _ same (λ _. c.in_ok-row.ensures.bounded) noted h.seen (λ (rs : List Row). rs) _ _ (row ∷ []) kept (λ rs. refl) h.kept;
      seen = seen_more rows row c.args.self.now.seen _ _ same (λ _. c.in_ok-row.ensures.bounded) noted h.seen;
    }

pub returns-else-branch-clause-added : goal.returns-else-branch-clause-added
returns-else-branch-clause-added g c names rows h =
    let row = row_in (g.S.Environment.environment c.args.env.now) (items_of c.args.items.now) in
    let noted = rw (c.in_ok-row.ensures.row, c.if-branch.false) at c.in_ok-is_new.ensures.noted in
    let same = c.in_ok-is_new.ensures.distinct in
    record {
      header = ap (λ v. v.items) c.in_ok-is_new.ensures.header ∙ h.header;
      kept = kept_old rows row c.args.self.now.seen _ same (λ _. c.in_ok-row.ensures.bounded) noted h.seen (λ (rs : List Row). rs) _ (λ shapes has. ap (λ v. rows_of v.items) c.in_ok-is_new.ensures.rows ∙ h.kept shapes has);
      seen = seen_more rows row c.args.self.now.seen _ _ same (λ _. c.in_ok-row.ensures.bounded) noted h.seen;
    }
