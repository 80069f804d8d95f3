use Rattle.std.proofs.Common.{◌≡◌, ◌∙◌, sym, ap, map, rules}
use Rattle.std.proofs.lemmas.Result.{IfOk-weaker}
use Rattle.definitions.specs.Binding.Scopes.{NamedTable, own_scope}
use Rattle.query_rules.specs.declared.named_table.NamedTable as code
use Rattle.query_rules.specs.ScopeRules.{scopes_of, tables_of}
use Rattle.query_rules.proofs.Blocks.{own_is, numbers_seen}
use Rattle.query_rules.proofs.scopes.Scopes.own_tables.Goals as goal

pub returns-in-Some : goal.returns-in-Some
returns-in-Some c =
    let own : tables_of c.in-Some.own.now ≡ own_scope c.args.self.now =
    sym (own_is tables_of c.deref.result.now c.in-Some.own.now c.in-Some.ensures.value) ∙ ap (λ xs. own_scope (scopes_of xs)) c.deref.ensures.value ∙ ap own_scope c.self.view_is in
    IfOk-weaker c.collect.result (λ numbers. numbers.items ≡ map (λ (t : code.NamedTable). t.number) c.in-Some.own.now.items) _ (λ numbers h. h ∙ numbers_seen c.in-Some.own.now.items ∙ ap (map (λ (t : NamedTable). t.number)) own) (search rules)
