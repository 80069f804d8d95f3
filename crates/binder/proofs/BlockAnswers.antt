-- What is answered for a block and its clauses.
use Rattle.std.proofs.Common.{◌≡◌, sym, subst, inl, ◌∷◌, Option, Result, Ok, Err, length, map}
use Rattle.std.specs.Prelude.{IfSome, IsTrue}
use Rattle.std.specs.Result.{IsErr, IsErrAnd}
use Rattle.definitions.specs.Refusal.{Refusal, UnknownColumn}
use Rattle.definitions.specs.Statement as t
use Rattle.definitions.specs.Statement.{Specification}
use Rattle.definitions.specs.Table.{Database}
use Rattle.definitions.specs.Binding.Scopes.{Scopes, scope_of, are_there}
use Rattle.definitions.specs.Binding.Faults as fault
use Rattle.definitions.specs.Binding.Faults.{BlockFaulty}
use Rattle.definitions.specs.Queries.BoundBlock.{Blocks}
use Rattle.query_tree.specs.declared.leaf.ValueType.{ValueType}
use Rattle.query_tree.specs.declared.condition.Condition.{Condition}
use Rattle.query_rules.specs.SourceFaults as source
use Rattle.query_rules.specs.SourceFaults.{SourcesFaulty, source_refusal}
use Rattle.query_rules.specs.declared.scope_fault.SourceFault.{SourceFault}
use Rattle.parse_tree.specs.Trees.{block_of, column_of, source_of}
use Rattle.parse_tree.specs.declared.expr.Block.{Block}
use Rattle.parse_tree.proofs.Views.{of_block}
use Rattle.binder.specs.declared.block.Clauses.{Clauses}
use Rattle.query_rules.specs.declared.clause.Clause.{Clause}
use Rattle.query_rules.specs.declared.fault.BindFault.{BindFault}
use Rattle.query_rules.specs.declared.fault.BindFault.TheVariants as f
use Rattle.query_rules.specs.declared.fault.QueryFault.{QueryFault}
use Rattle.binder.specs.declared.items.ResultColumns.{ResultColumns}
use Rattle.query_rules.specs.Judging.{ClauseKind, Progress, RefusesBlock}
use Rattle.binder.specs.Blocks.{OptionAnswer, ListAnswer, RefusesList, RefusesOption}
use Rattle.query_rules.specs.Groups.{SomeNotOwn}
use Rattle.binder.specs.Clauses.{ClausesAnswer, RefusesClauses}
use Rattle.query_rules.specs.Meaning.{bind_refusal, query_refusal, place_of}
use Rattle.binder.specs.Meaning.{BlockAnswer}
use Rattle.query_rules.proofs.Refused.{if_some}

pub option_err : (c : Clause) (old new : Progress) (condition : t.SearchClause) (result : Result (Option Condition) BindFault) (fault : BindFault) → result ≡ Err fault
    → IfSome (bind_refusal fault) (RefusesOption c.database.now c.scopes.now (place_of c.place) old condition) → OptionAnswer c old new condition result
option_err c old new condition result fault is h = subst (OptionAnswer c old new condition) (sym is) h

pub list_err : (c : Clause) (old new : Progress) (list : t.SelectList) (result : Result ResultColumns BindFault) (fault : BindFault) → result ≡ Err fault
    → IfSome (bind_refusal fault) (RefusesList c.database.now c.scopes.now (place_of c.place) old list) → ListAnswer c old new list result
list_err c old new list result fault is h = subst (ListAnswer c old new list) (sym is) h

pub clauses_err : (db : Database) (scopes : Scopes) (shown : ClauseKind) (old new : Blocks) (query : t.QuerySpecification) (result : Result Clauses BindFault) (fault : BindFault) → result ≡ Err fault
    → IfSome (bind_refusal fault) (RefusesClauses db scopes shown (length old) query) → ClausesAnswer db scopes shown old new query result
clauses_err db scopes shown old new query result fault is h = subst (ClausesAnswer db scopes shown old new query) (sym is) h

pub block_err : (db : Database) (outer : Scopes) (old new : Blocks) (query : t.QuerySpecification) (result : Result (Option ValueType) BindFault) (fault : BindFault) → result ≡ Err fault
    → IfSome (bind_refusal fault) (RefusesBlock db outer old query) → BlockAnswer db outer old new query result
block_err db outer old new query result fault is h = subst (BlockAnswer db outer old new query) (sym is) h

pub block_faulty : (db : Database) (outer : Scopes) (old : Blocks) (query : t.QuerySpecification) (r : Refusal) → BlockFaulty db (record { outer = outer; block = query }) r → RefusesBlock db outer old query r
block_faulty db outer old (Specification distinct list sources where' groups having) r h = inl (inl h)

pub block_refused : (db : Database) (outer : Scopes) (old new : Blocks) (query : t.QuerySpecification) (result : Result (Option ValueType) BindFault) (q : QueryFault) → result ≡ Err (f.Refused q)
    → BlockFaulty db (record { outer = outer; block = query }) (query_refusal q) → BlockAnswer db outer old new query result
block_refused db outer old new query result q is h = block_err db outer old new query result (f.Refused q) is (block_faulty db outer old query (query_refusal q) h)

faulty_sources : (db : Database) (outer : Scopes) (query : Block) (r : Refusal) → SourcesFaulty db (map source_of query.sources.tables.items) r → BlockFaulty db (record { outer = outer; block = block_of query }) r
faulty_sources db outer query _ (source.name_twice x) = rw (of_block query) (fault.name_twice x)
faulty_sources db outer query _ (source.no_table x) = rw (of_block query) (fault.no_table x)
faulty_sources db outer query _ (source.many_tables x) = rw (of_block query) (fault.many_tables x)

pub sources_refused : (db : Database) (outer : Scopes) (old new : Blocks) (query : Block) (result : Result (Option ValueType) BindFault) (fault : SourceFault) → IsErr result × IsErrAnd result (λ e. bind_refusal e ≡ source_refusal fault)
    → IfSome (source_refusal fault) (SourcesFaulty db (map source_of query.sources.tables.items)) → BlockAnswer db outer old new (block_of query) result
sources_refused db outer old new query (Ok only) fault h k = absurd cc
sources_refused db outer old new query (Err e) fault h k =
    subst (λ o. IfSome o (RefusesBlock db outer old (block_of query))) (sym h.1)
    (if_some (source_refusal fault) _ _ (λ r s. block_faulty db outer old (block_of query) r (faulty_sources db outer query r s)) k)

pub groups_refused : (db : Database) (outer scopes : Scopes) (old : Blocks) (query : Block) → scopes ≡ scope_of db (map source_of query.sources.tables.items) ∷ outer → IsTrue (are_there scopes) → (r : Refusal)
    → (r ≡ UnknownColumn) × ((db : Database) → SomeNotOwn db scopes (map column_of query.groups.items)) → RefusesBlock db outer old (block_of query) r
groups_refused db outer scopes old query s there r (same, n) =
    subst (RefusesBlock db outer old (block_of query)) (sym same)
    (block_faulty db outer old (block_of query) UnknownColumn (rw (of_block query) (fault.group_not_own (rw s at there) (rw s at (n db)))))
