use Rattle.std.proofs.Common.{◌∙◌, sym, ap, map}
use Rattle.std.specs.List.{list_any}
use Rattle.definitions.specs.Binding.Scopes.{NotThere, columns_where, is_called, only_one, resolve_qualified, with_name}
use Rattle.query_rules.specs.ScopeRules.{named_of, resolution_of, scopes_of, tables_of}
use Rattle.query_rules.proofs.Searching.{qualifier_here, qualifier_outward, qualifier_nowhere}
use Rattle.query_rules.proofs.scopes.Scopes.resolve_qualified.Goals as goal

pub scopes-init : goal.scopes-init
scopes-init c =
    ap (λ xs. resolve_qualified 0 (scopes_of xs) c.args.qualifier.now c.args.name.now) c.deref-scope-items.ensures.value ∙ ap (λ ss. resolve_qualified 0 ss c.args.qualifier.now c.args.name.now) c.self.view_is

pub returns-then-has_name : goal.returns-then-has_name
returns-then-has_name c =
    qualifier_here tables_of (resolution_of c.only_column.result) _ c.args.qualifier.now c.args.name.now c.deref-scope-items.result.now c.scopes.level c.scope-item.result c.scopes-test.true c.scope-item.is
    (ap (λ ts. list_any (is_called c.args.qualifier.now) (map named_of ts)) (sym c.deref.ensures.value) ∙ sym c.has_name.ensures ∙ c.if-has_name.true)
    (c.only_column.ensures ∙ ap (λ ts. only_one c.scopes.level (with_name c.args.name.now (columns_where (is_called c.args.qualifier.now) 0 (map named_of ts))) NotThere) c.deref-then-has_name.ensures.value) c.scopes.invariant

pub scopes-preserved : goal.scopes-preserved
scopes-preserved c =
    qualifier_outward tables_of _ c.args.qualifier.now c.args.name.now c.deref-scope-items.result.now c.scopes.level c.scope-item.result c.scopes-test.true c.scope-item.is
    (ap (λ ts. list_any (is_called c.args.qualifier.now) (map named_of ts)) (sym c.deref.ensures.value) ∙ sym c.has_name.ensures ∙ c.if-has_name.false) c.scopes.invariant

pub returns : goal.returns
returns c = qualifier_nowhere tables_of _ c.args.qualifier.now c.args.name.now c.deref-scope-items.result.now c.scopes.level c.scopes-test.false c.scopes.invariant
