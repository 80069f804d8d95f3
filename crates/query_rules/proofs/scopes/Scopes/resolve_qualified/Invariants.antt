use Rattle.std.proofs.Common.{◌≡◌, drop}
use Rattle.definitions.specs.Binding.Scopes.{resolve_qualified}
use Rattle.query_rules.specs.ScopeRules.{scopes_of}
use Rattle.query_rules.proofs.scopes.Scopes.resolve_qualified.Given as goal

-- the blocks that are left answer as all do
abbrev pub invariant-scopes : goal.invariant-scopes
invariant-scopes l = resolve_qualified l.level (scopes_of (drop l.level l.scope-items)) l.qualifier l.name ≡ resolve_qualified 0 l.self l.qualifier l.name
