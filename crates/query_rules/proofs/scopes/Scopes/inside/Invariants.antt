use Rattle.std.proofs.Common.{◌≡◌, ◌++◌, drop}
use Rattle.std.proofs.Common.{◌∷◌, map}
use Rattle.definitions.specs.Binding.Scopes.{scope_of}
use Rattle.parse_tree.specs.Trees.{source_of}
use Rattle.query_rules.specs.ScopeRules.{scopes_of}
use Rattle.query_rules.proofs.scopes.Scopes.inside.Given as goal

-- the new block, with the blocks around it so far and those that are left, are all
abbrev pub invariant-around : goal.invariant-around
invariant-around l =
    scopes_of l.scopes.items ++ scopes_of (drop l.scope-index l.scope-items) ≡ scope_of l.database (map source_of l.sources) ∷ l.self
