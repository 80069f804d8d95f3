use Rattle.std.proofs.Common.{◌≡◌, subst, ◌∷◌, ◌≤◌, length, map, arith}
use Rattle.std.proofs.lemmas.List.{length-map}
use Rattle.definitions.specs.Limits.{most_from_tables}
use Rattle.definitions.specs.Binding.Scopes.{scope_of}
use Rattle.parse_tree.specs.Trees.{source_of}
use Rattle.query_rules.specs.SourceFaults as faults
use Rattle.query_rules.specs.ScopeRules.{scopes_of, tables_of, AreFew}
use Rattle.query_rules.proofs.Blocks.{first_there, scopes_there, few_inside}
use Rattle.query_rules.proofs.Views.{seen_all}
use Rattle.query_rules.proofs.scopes.Scopes.inside.Goals as goal

pub returns-then-sources-gt-MAX_FROM_TABLES-clause-refused : goal.returns-then-sources-gt-MAX_FROM_TABLES-clause-refused
returns-then-sources-gt-MAX_FROM_TABLES-clause-refused c = faults.many_tables (omega (arith, c.if-sources-gt-MAX_FROM_TABLES.true, length-map c.args.sources.now source_of))

pub returns-clause-there : goal.returns-clause-there
returns-clause-there c =
    let all = seen_all tables_of (scopes_of c.around.scopes.items) c.deref-scope-items.result.now c.around.scope-index _ c.around-test.false c.around.invariant in
    let few : length (map source_of c.args.sources.now) ≤ most_from_tables = omega (arith, c.if-sources-gt-MAX_FROM_TABLES.false, length-map c.args.sources.now source_of) in
    first_there c.around.scopes.items _ c.args.self.now (few_inside c.args.database.now (map source_of c.args.sources.now) c.args.self.now few (subst AreFew c.self.view_is c.self.invariant) _ all) all

pub returns-clause-all_there : goal.returns-clause-all_there
returns-clause-all_there c =
    let all = seen_all tables_of (scopes_of c.around.scopes.items) c.deref-scope-items.result.now c.around.scope-index _ c.around-test.false c.around.invariant in
    let few : length (map source_of c.args.sources.now) ≤ most_from_tables = omega (arith, c.if-sources-gt-MAX_FROM_TABLES.false, length-map c.args.sources.now source_of) in
    scopes_there c.around.scopes.items (few_inside c.args.database.now (map source_of c.args.sources.now) c.args.self.now few (subst AreFew c.self.view_is c.self.invariant) _ all)
