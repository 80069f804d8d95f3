use Rattle.std.proofs.Common.{◌≡◌, ◌∙◌, sym, ap, map}
use Rattle.definitions.specs.Binding.Scopes.{all_columns, own_scope}
use Rattle.query_rules.specs.ScopeRules.{found_of, named_of, scopes_of, tables_of}
use Rattle.query_rules.proofs.Blocks.{own_is}
use Rattle.query_rules.proofs.Searching.{tables_added, tables_all}
use Rattle.query_rules.proofs.scopes.Scopes.own_columns.Goals as goal

pub tables-init : goal.tables-init
tables-init c =
    let own : tables_of c.in-Some.own.now ≡ own_scope c.args.self.now =
    sym (own_is tables_of c.deref.result.now c.in-Some.own.now c.in-Some.ensures.value) ∙ ap (λ xs. own_scope (scopes_of xs)) c.deref.ensures.value ∙ ap own_scope c.self.view_is in
    rw (c.new-columns.ensures.items, c.deref-table-items.ensures.value) (ap all_columns own)

pub tables-preserved : goal.tables-preserved
tables-preserved c =
    tables_added named_of _ (map found_of c.tables.columns.items) (map found_of c.push_columns.new.columns.items) c.deref-table-items.result.now c.tables.place c.table-item.result c.tables-test.true c.table-item.is c.in_ok-push_columns.ensures c.tables.invariant

pub returns : goal.returns
returns c = tables_all named_of _ (map found_of c.tables.columns.items) c.deref-table-items.result.now c.tables.place c.tables-test.false c.tables.invariant
