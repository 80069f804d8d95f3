-- A block of a tree, by what is known of its clauses.
use Rattle.std.proofs.Common.{◌≡◌, ◌∙◌, refl, sym, ap, subst, ℕ, zero, suc, ◌+◌, ◌<◌, ◌≤◌, Bool, true, false, List, [], ◌∷◌, ◌++◌, length, map, arith, slice_set}
use Rattle.std.proofs.lemmas.List.{length-map}
use Rattle.std.specs.Prelude.{if◌then◌else◌, IsTrue}
use Rattle.definitions.specs.Limits.{most_from_tables}
use Rattle.definitions.specs.Refusal.{Refusal, MisplacedCondition}
use Rattle.definitions.specs.Table.{Database, AreDistinct}
use Rattle.definitions.specs.Plans.Order.{BlockColumn}
use Rattle.definitions.specs.Statement.{SelectList, Source, SearchClause, ColumnReference, Specification}
use Rattle.definitions.specs.Binding.Scopes.{NamedTable, Scopes, scope_of, are_there, own_scope}
use Rattle.definitions.specs.Binding.Faults as fault
use Rattle.definitions.specs.Binding.Faults.{IsGrouped}
use Rattle.definitions.specs.Queries.BoundBlock as b
use Rattle.definitions.specs.Queries.BoundBlock.{Blocks}
use Rattle.parse_tree.specs.Trees.{block_of, column_of, condition_of, list_of, source_of}
use Rattle.parse_tree.specs.declared.expr.Block.{Block}
use Rattle.parse_tree.proofs.Views.{of_block}
use Rattle.query_tree.specs.Bound.{block_of as bound_block_of}
use Rattle.query_tree.specs.declared.block.Block.{Block as BoundBlock}
use Rattle.query_rules.specs.Leaves.{InSight}
use Rattle.query_rules.specs.Judging.{BindsBlock, RefusesBlock}
use Rattle.query_rules.specs.BlockLimits.{IsWithinLimits}
use Rattle.query_rules.specs.Groups.{SomeNotOwn, own_columns, shown_in}
use Rattle.binder.specs.Clauses.{BoundClauses, BindsClauses, RefusesClauses, in_where, in_shown, condition_for_item, value_for_condition}
use Rattle.binder.proofs.BlockFaults.{where_refused, shown_refused, refused}
use Rattle.binder.proofs.BoundBlocks.{IsReady, binds_block, within_new}

as_many : {X Y : Type 0} (f : X → Y) (xs : List X) → length (map f xs) ≡ length xs
as_many f [] = refl
as_many f (x ∷ xs) = let h = as_many f xs in omega (arith, h)

module _ (db : Database) (outer : Scopes) (distinct : Bool) (list : SelectList) (sources : List Source) (where' : SearchClause) (groups : List ColumnReference) (having : SearchClause) where
  columns_if : (g : Bool) (columns own : List BlockColumn) → columns ≡ own → g ≡ true → (if g then columns else []) ≡ own
  columns_if true columns own h e = h
  columns_if false columns own h e = absurd cc

  pub clauses_refused : (grouped : Bool) (columns : List BlockColumn) → IsReady db outer distinct list sources where' groups having grouped columns → (old : Blocks) (r : Refusal)
      → RefusesClauses db (scope_of db sources ∷ outer) (shown_in grouped columns) (length old + 1) (Specification distinct list sources where' groups having) r → RefusesBlock db outer old (Specification distinct list sources where' groups having) r
  clauses_refused grouped columns ready old _ (in_where r f) = where_refused db outer distinct list sources where' groups having (length old) ready.all_there r f
  clauses_refused grouped columns ready old _ (in_shown r f) =
      shown_refused db outer distinct list sources where' groups having (length old) ready.all_there grouped (if grouped then columns else []) ready.is_grouped.0 (λ g. columns_if grouped columns _ ready.are g) ready.limits.groups r f
  clauses_refused grouped columns ready old _ (condition_for_item a) = refused db outer distinct list sources where' groups having (length old) MisplacedCondition (fault.wrong_value a)
  clauses_refused grouped columns ready old _ (value_for_condition a) = refused db outer distinct list sources where' groups having (length old) MisplacedCondition (fault.wrong_condition a)

module _ (db : Database) (outer scopes : Scopes) (query : Block) (grouped : Bool) (columns : List BlockColumn) where
  abbrev pub Ready : Type 0
  Ready = IsReady db outer query.distinct (list_of query.list) (map source_of query.sources.tables.items) (condition_of query.condition) (map column_of query.groups.items) (condition_of query.having) grouped columns

  abbrev pub Inside : Type 0
  Inside = scopes ≡ scope_of db (map source_of query.sources.tables.items) ∷ outer

  pub ready : Inside → IsTrue (are_there scopes) → IsTrue (are_there (scope_of db (map source_of query.sources.tables.items) ∷ [])) → AreDistinct (map (λ (t : NamedTable). t.name) (scope_of db (map source_of query.sources.tables.items)))
      → length query.sources.tables.items ≤ most_from_tables → IsWithinLimits grouped (block_of query) → (grouped ≡ true → IsGrouped (block_of query)) × (IsGrouped (block_of query) → grouped ≡ true)
      → ((db : Database) → SomeNotOwn db scopes (map column_of query.groups.items) → ⊥) → columns ≡ own_columns scopes (map column_of query.groups.items) → Ready
  ready s all there names tables limits g own are = record {
    all_there = subst (λ x. IsTrue (are_there x)) s all;
    there = there;
    names = names;
    tables = let same = as_many source_of query.sources.tables.items in rw same tables;
    limits = subst (IsWithinLimits grouped) (of_block query) limits;
    is_grouped = subst (λ b. (grouped ≡ true → IsGrouped b) × (IsGrouped b → grouped ≡ true)) (of_block query) g;
    own = subst (λ x. SomeNotOwn db x (map column_of query.groups.items) → ⊥) s (own db);
    are = are ∙ ap (λ x. own_columns x (map column_of query.groups.items)) s;
  }

  pub refused_in : Ready → Inside → (old first : Blocks) → length first ≡ length old + 1 → (r : Refusal) → RefusesClauses db scopes (shown_in grouped columns) (length first) (block_of query) r → RefusesBlock db outer old (block_of query) r
  refused_in h s old first count r f =
      subst (λ b. RefusesBlock db outer old b r) (sym (of_block query))
      (clauses_refused db outer query.distinct (list_of query.list) (map source_of query.sources.tables.items) (condition_of query.condition) (map column_of query.groups.items) (condition_of query.having) grouped columns h old r
      (subst (λ b. RefusesClauses db (scope_of db (map source_of query.sources.tables.items) ∷ outer) (shown_in grouped columns) (length old + 1) b r) (of_block query)
      (subst (λ n. RefusesClauses db (scope_of db (map source_of query.sources.tables.items) ∷ outer) (shown_in grouped columns) n (block_of query) r) count
      (subst (λ x. RefusesClauses db x (shown_in grouped columns) (length first) (block_of query) r) s f))))

  module _ (h : Ready) (s : Inside) (old new : Blocks) (empty : b.Block) (bound : BoundClauses) (k : BindsClauses db scopes (shown_in grouped columns) (old ++ empty ∷ []) new (block_of query) bound) where
    clauses_in : BindsClauses db (scope_of db (map source_of query.sources.tables.items) ∷ outer) (shown_in grouped columns) (old ++ empty ∷ []) new
        (Specification query.distinct (list_of query.list) (map source_of query.sources.tables.items) (condition_of query.condition) (map column_of query.groups.items) (condition_of query.having)) bound
    clauses_in = subst (λ b. BindsClauses db (scope_of db (map source_of query.sources.tables.items) ∷ outer) (shown_in grouped columns) (old ++ empty ∷ []) new b bound) (of_block query)
        (subst (λ x. BindsClauses db x (shown_in grouped columns) (old ++ empty ∷ []) new (block_of query) bound) s k)

    pub number_within : length old < length new
    number_within = within_new db outer query.distinct (list_of query.list) (map source_of query.sources.tables.items) (condition_of query.condition) (map column_of query.groups.items) (condition_of query.having) grouped columns h old new empty bound clauses_in

    pub binds_in : (number : ℕ) (tables : List ℕ) → number ≡ length old → tables ≡ map (λ (t : NamedTable). t.number) (own_scope scopes)
        → BindsBlock db outer old
        (slice_set new number (record { tables = tables; distinct = query.distinct; items = bound.items; condition = bound.condition; groups = columns; having = bound.having; functions = bound.functions; order = [] })) (block_of query) bound.only
    binds_in number tables n t =
        let whole = binds_block db outer query.distinct (list_of query.list) (map source_of query.sources.tables.items) (condition_of query.condition) (map column_of query.groups.items) (condition_of query.having) grouped columns h old new empty bound clauses_in in
        let own = t ∙ ap (λ x. map (λ (t : NamedTable). t.number) (own_scope x)) s in
        subst (λ b. BindsBlock db outer old (slice_set new number (record { tables = tables; distinct = query.distinct; items = bound.items; condition = bound.condition; groups = columns; having = bound.having; functions = bound.functions; order = [] })) b bound.only) (sym (of_block query))
        (rw (n, own) whole)

-- ---- the blocks of a tree

pub sight_inside : (db : Database) (outer scopes : Scopes) (sources : List Source) → InSight db outer → scopes ≡ scope_of db sources ∷ outer → InSight db scopes
sight_inside db outer scopes sources s e = record { valid = s.valid; froms = sources ∷ s.froms; are = e ∙ ap (λ x. scope_of db sources ∷ x) s.are }

pub pushed_block : (xs : List BoundBlock) (x : BoundBlock) → map bound_block_of (xs ++ x ∷ []) ≡ map bound_block_of xs ++ bound_block_of x ∷ []
pushed_block [] x = refl
pushed_block (y ∷ xs) x = ap (λ ys. bound_block_of y ∷ ys) (pushed_block xs x)

pub as_many_blocks : (xs : List BoundBlock) → length (map bound_block_of xs) ≡ length xs
as_many_blocks xs = length-map xs bound_block_of

pub put_block : (xs : List BoundBlock) (n : ℕ) (x : BoundBlock) → map bound_block_of (slice_set xs n x) ≡ slice_set (map bound_block_of xs) n (bound_block_of x)
put_block [] n x = refl
put_block (y ∷ xs) zero x = refl
put_block (y ∷ xs) (suc n) x = ap (λ ys. bound_block_of y ∷ ys) (put_block xs n x)
