use Rattle.std.proofs.Common.{◌≡◌, drop}
use Rattle.definitions.specs.Binding.Scopes.{resolve_name}
use Rattle.query_rules.specs.ScopeRules.{scopes_of}
use Rattle.query_rules.proofs.scopes.Scopes.resolve_name.Given as goal

-- the blocks that are left answer as all do
abbrev pub invariant-scopes : goal.invariant-scopes
invariant-scopes l = resolve_name l.level (scopes_of (drop l.level l.scope-items)) l.name ≡ resolve_name 0 l.self l.name
