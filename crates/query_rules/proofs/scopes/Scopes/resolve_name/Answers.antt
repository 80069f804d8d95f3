use Rattle.std.proofs.Common.{◌∙◌, sym, ap, map}
use Rattle.definitions.specs.Binding.Scopes.{NotThere, all_columns, only_one, resolve_name, with_name}
use Rattle.query_rules.specs.ScopeRules.{named_of, resolution_of, scopes_of, tables_of}
use Rattle.query_rules.proofs.Searching.{name_here, name_outward, name_nowhere}
use Rattle.query_rules.proofs.scopes.Scopes.resolve_name.Goals as goal

pub scopes-init : goal.scopes-init
scopes-init c = ap (λ xs. resolve_name 0 (scopes_of xs) c.args.name.now) c.deref-scope-items.ensures.value ∙ ap (λ ss. resolve_name 0 ss c.args.name.now) c.self.view_is

pub returns-then-is_there : goal.returns-then-is_there
returns-then-is_there c =
    name_here tables_of (resolution_of c.only_column-resolution.result) _ c.args.name.now c.deref-scope-items.result.now c.scopes.level c.scope-item.result c.scopes-test.true c.scope-item.is
    (c.only_column-resolution.ensures ∙ ap (λ ts. only_one c.scopes.level (with_name c.args.name.now (all_columns (map named_of ts))) NotThere) c.deref.ensures.value)
    (sym c.is_there.ensures ∙ c.if-is_there.true) c.scopes.invariant

pub scopes-preserved : goal.scopes-preserved
scopes-preserved c =
    name_outward tables_of (resolution_of c.only_column-resolution.result) _ c.args.name.now c.deref-scope-items.result.now c.scopes.level c.scope-item.result c.scopes-test.true c.scope-item.is
    (c.only_column-resolution.ensures ∙ ap (λ ts. only_one c.scopes.level (with_name c.args.name.now (all_columns (map named_of ts))) NotThere) c.deref.ensures.value)
    (sym c.is_there.ensures ∙ c.if-is_there.false) c.scopes.invariant

pub returns : goal.returns
returns c = name_nowhere tables_of _ c.args.name.now c.deref-scope-items.result.now c.scopes.level c.scopes-test.false c.scopes.invariant
