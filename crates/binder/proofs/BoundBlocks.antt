-- A block whose clauses are bound is bound, with the blocks inside it.
use Rattle.std.proofs.Common.{◌≡◌, ◌∙◌, refl, sym, ap, ap₂, subst, inl, ℕ, ◌+◌, ◌<◌, ◌≤◌, Bool, true, false, List, [], ◌∷◌, ◌++◌, Option, None, length, map, filter, arith, slice_set}
use Rattle.std.specs.Prelude.{flat_map, if◌then◌else◌, is_some, IsTrue, IsFalse, ◌↔◌}
use Rattle.std.proofs.lemmas.List.{append_assoc}
use Rattle.definitions.specs.Lists.{AnyOf}
use Rattle.definitions.specs.Limits.{most_from_tables, most_conjuncts}
use Rattle.definitions.specs.Statement as t
use Rattle.definitions.specs.Statement.{Expr, Source, ColumnReference, SelectList, Asterisk, Listed, SearchClause, Absent, Present, Specification}
use Rattle.definitions.specs.Table.{Database, AreDistinct}
use Rattle.definitions.specs.Plans.Order.{BlockColumn}
use Rattle.definitions.specs.Binding.Scopes.{NamedTable, Scopes, scope_of, are_there}
use Rattle.definitions.specs.Binding.Types.{list_type}
use Rattle.definitions.specs.Binding.Parts.{PlacedBlock, is_function, functions_in, parts, item_values, condition_values, list_blocks, condition_blocks, block_blocks}
use Rattle.definitions.specs.Binding.BoundForm.{Next, after_list, after_condition, bound_block, bound_blocks, bound_function, bound_option, select_items}
use Rattle.definitions.specs.Binding.Faults.{is_condition, conjunct_count, column_count, IsGrouped, shown_parts}
use Rattle.definitions.specs.Queries.BoundBlock as b
use Rattle.definitions.specs.Queries.BoundBlock.{Blocks, Aggregate}
use Rattle.query_rules.specs.Judging.{InWhere, IsClean, Progress, next_of, BindsBlock}
use Rattle.query_rules.specs.BlockLimits.{IsWithinLimits}
use Rattle.query_rules.specs.Groups.{SomeNotOwn, own_columns, shown_in}
use Rattle.binder.specs.Blocks.{condition_parts, list_parts, list_length}
use Rattle.binder.specs.Clauses.{BoundClauses, BindsClauses}
use Rattle.binder.proofs.Bundles.{clean_both, blocks_of_both, length_of_both, functions_of_both, map_of_both}
use Rattle.binder.proofs.BlockFaults.{IsConditionIn, HasFewConjuncts, IsJudged, accepted}
use Rattle.binder.proofs.ClauseParts.{parts_of_both, later_refuses, no_functions}
use Rattle.binder.proofs.Nodes.{few_after, blocks_after}

-- ---- a block in the place of another

pub set_behind : {X : Type 0} (xs rest : List X) (a x : X) → slice_set (xs ++ a ∷ rest) (length xs) x ≡ xs ++ x ∷ rest
set_behind [] rest a x = refl
set_behind (y ∷ xs) rest a x = ap (λ ys. y ∷ ys) (set_behind xs rest a x)

-- ---- the blocks inside two parts

two_behind : (db : Database) (scopes : Scopes) (xs ys new : Blocks) (ps qs : List PlacedBlock) → ys ≡ xs ++ bound_blocks db (length xs) ps [] → new ≡ ys ++ bound_blocks db (length ys) qs [] → length ys ≡ length xs + length ps
    → new ≡ xs ++ bound_blocks db (length xs) (ps ++ qs) []
two_behind db scopes xs ys new ps qs h k e =
    k ∙ ap₂ (λ a n. a ++ bound_blocks db n qs []) h e ∙ append_assoc xs (bound_blocks db (length xs) ps []) (bound_blocks db (length xs + length ps) qs [])
    ∙ ap (λ z. xs ++ z) (sym (blocks_of_both db scopes InWhere (length xs) ps qs))

-- ---- set functions

one_by_one : (db : Database) (scopes : Scopes) (xs : List Expr) → filter is_function (flat_map parts xs) ≡ flat_map functions_in xs
one_by_one db scopes [] = refl
one_by_one db scopes (x ∷ xs) = functions_of_both db scopes InWhere (parts x) (flat_map parts xs) ∙ ap (λ ys. functions_in x ++ ys) (one_by_one db scopes xs)

nothing_more : {X : Type 0} (xs : List X) → xs ++ [] ≡ xs
nothing_more [] = refl
nothing_more (x ∷ xs) = ap (λ ys. x ∷ ys) (nothing_more xs)

-- ---- what is known of WHERE and HAVING

is_right : (b : Bool) → (IsFalse b → ⊥) → b ≡ true
is_right true h = refl
is_right false h = absurd (h refl)

conditions_in : (c : SearchClause) → (AnyOf (λ e. IsFalse (is_condition e)) (condition_values c) → ⊥) → IsConditionIn c
conditions_in Absent h = tt
conditions_in (Present e) h = is_right (is_condition e) (λ x. h (inl x))

not_more : (m n : ℕ) → (m < n → ⊥) → n ≤ m
not_more m n h = omega (arith, h)

few_in : (c : SearchClause) → (AnyOf (λ e. most_conjuncts < conjunct_count e) (condition_values c) → ⊥) → HasFewConjuncts c
few_in Absent h = tt
few_in (Present e) h = not_more most_conjuncts (conjunct_count e) (λ x. h (inl x))

-- ---- the number of result columns

counted : (db : Database) (outer : Scopes) (distinct : Bool) (list : SelectList) (sources : List Source) (where' : SearchClause) (groups : List ColumnReference) (having : SearchClause)
    → list_length (scope_of db sources ∷ outer) list ≡ column_count db (Specification distinct list sources where' groups having)
counted db outer distinct Asterisk sources where' groups having = refl
counted db outer distinct (Listed items) sources where' groups having = refl

module _ (db : Database) (outer : Scopes) (distinct : Bool) (list : SelectList) (sources : List Source) (where' : SearchClause) (groups : List ColumnReference) (having : SearchClause) where
  abbrev query : t.QuerySpecification
  query = Specification distinct list sources where' groups having

  abbrev scopes : Scopes
  scopes = scope_of db sources ∷ outer

  -- what is known before its clauses are bound
  pub record IsReady (grouped : Bool) (columns : List BlockColumn) : Type 0 where
    pub all_there : IsTrue (are_there scopes)
    pub there : IsTrue (are_there (scope_of db sources ∷ []))
    pub names : AreDistinct (map (λ (t : NamedTable). t.name) (scope_of db sources))
    pub tables : length sources ≤ most_from_tables
    pub limits : IsWithinLimits grouped query
    pub is_grouped : (grouped ≡ true → IsGrouped query) × (IsGrouped query → grouped ≡ true)
    pub own : SomeNotOwn db scopes groups → ⊥
    pub are : columns ≡ own_columns scopes groups

  module _ (grouped : Bool) (columns : List BlockColumn) (ready : IsReady grouped columns) (old new : Blocks) (empty : b.Block) (bound : BoundClauses) (h : BindsClauses db scopes (shown_in grouped columns) (old ++ empty ∷ []) new query bound) where
    abbrev first : Progress
    first = record { blocks = old ++ empty ∷ []; functions = [] }

    abbrev last : Progress
    last = record { blocks = new; functions = bound.functions }

    abbrev ls : List PlacedBlock
    ls = list_blocks db scopes list

    abbrev ws : List PlacedBlock
    ws = condition_blocks db scopes where'

    abbrev hs : List PlacedBlock
    hs = condition_blocks db scopes having

    count : length first.blocks ≡ length old + 1
    count = length_of_both old (empty ∷ [])

    listed_count : length h.listed.blocks ≡ length first.blocks + length ls
    listed_count = blocks_after db scopes (shown_in grouped columns) first h.listed (list_parts list) ls h.columns.adds

    kept_count : length h.kept.blocks ≡ length h.listed.blocks + length ws
    kept_count = blocks_after db scopes InWhere h.listed h.kept (condition_parts where') ws h.condition.adds

    last_count : length new ≡ length h.kept.blocks + length hs
    last_count = blocks_after db scopes (shown_in grouped columns) h.kept last (condition_parts having) hs h.having.adds

    earlier : (n k : ℕ) (ps : List Expr) (bs : List PlacedBlock) → IsClean db scopes (shown_in grouped columns) (n + k) ps bs → IsClean db scopes (shown_in grouped columns) n ps bs
    earlier n k ps bs c r f = c r (later_refuses db scopes (shown_in grouped columns) n k ps bs r f)

    having_clean : IsClean db scopes (shown_in grouped columns) (length first.blocks + length ls) (condition_parts having) hs
    having_clean =
        let moved : length h.kept.blocks ≡ length first.blocks + length ls + length ws = kept_count ∙ ap (λ n. n + length ws) listed_count in
        earlier (length first.blocks + length ls) (length ws) (condition_parts having) hs (subst (λ n. IsClean db scopes (shown_in grouped columns) n (condition_parts having) hs) moved h.having.adds.clean)

    shown_clean : IsClean db scopes (shown_in grouped columns) (length first.blocks) (shown_parts query) (ls ++ hs)
    shown_clean =
        subst (λ ps. IsClean db scopes (shown_in grouped columns) (length first.blocks) ps (ls ++ hs)) (sym (parts_of_both (item_values list) (condition_values having)))
        (clean_both db scopes (shown_in grouped columns) (length first.blocks) (list_parts list) (condition_parts having) ls hs h.columns.adds.clean having_clean)

    columns_if : (g : Bool) → g ≡ true → (if g then columns else []) ≡ columns
    columns_if true e = refl
    columns_if false e = absurd cc

    judged : IsJudged db outer distinct list sources where' groups having grouped (if grouped then columns else []) (length h.listed.blocks) (length first.blocks)
    judged = record {
      there = ready.all_there;
      names = ready.names;
      tables = ready.tables;
      where_clean = h.condition.adds.clean;
      where_condition = conditions_in where' h.condition.conditions;
      conjuncts = few_in where' ready.limits.conjuncts;
      shown_clean = shown_clean;
      is_grouped = ready.is_grouped.1;
      group_columns = λ g. columns_if grouped g ∙ ready.are;
      having_condition = conditions_in having h.having.conditions;
      values = h.columns.values;
      no_star = ready.limits.no_star;
      own_groups = ready.own;
      few_groups = ready.limits.groups;
      few_items = ready.limits.items;
    }

    -- ---- its set functions

    its_functions : bound.functions ≡ map (bound_function db scopes) (flat_map functions_in (item_values list ++ condition_values having))
    its_functions =
        let f : List Expr → List Aggregate = map (bound_function db scopes) in
        h.having.adds.functions
        ∙ ap (λ fs. fs ++ f (filter is_function (condition_parts having))) (h.condition.adds.functions ∙ ap (λ xs. h.listed.functions ++ f xs) (no_functions db scopes h.listed h.kept (condition_parts where') ws h.condition.adds) ∙ nothing_more h.listed.functions ∙ h.columns.adds.functions)
        ∙ sym (map_of_both db scopes InWhere (filter is_function (list_parts list)) (filter is_function (condition_parts having)))
        ∙ ap f (sym (functions_of_both db scopes InWhere (list_parts list) (condition_parts having)) ∙ ap (filter is_function) (sym (parts_of_both (item_values list) (condition_values having))) ∙ one_by_one db scopes (item_values list ++ condition_values having))

    -- ---- its bound form

    abbrev start : Next
    start = record { block = length old + 1; function = 0 }

    next_first : next_of first ≡ start
    next_first = ap (λ n. record { block = n; function = 0 }) count

    next_listed : next_of h.listed ≡ after_list db scopes list start
    next_listed = h.columns.next ∙ ap (after_list db scopes list) next_first

    next_kept : next_of h.kept ≡ after_condition db scopes where' (after_list db scopes list start)
    next_kept = h.condition.next ∙ ap (after_condition db scopes where') next_listed

    abbrev pub whole_block : b.Block
    whole_block = record {
      tables = map (λ (t : NamedTable). t.number) (scope_of db sources);
      distinct = distinct;
      items = bound.items;
      condition = bound.condition;
      groups = columns;
      having = bound.having;
      functions = bound.functions;
      order = [];
    }

    abbrev made : List b.Item → Option b.Condition → List BlockColumn → Option b.Condition → List Aggregate → b.Block
    made items condition columns having functions = record {
      tables = map (λ (t : NamedTable). t.number) (scope_of db sources);
      distinct = distinct;
      items = items;
      condition = condition;
      groups = columns;
      having = having;
      functions = functions;
      order = [];
    }

    its_form : whole_block ≡ bound_block db (length old) outer query []
    its_form =
        let i : List b.Item = select_items db scopes start list in
        let c : Option b.Condition = bound_option db scopes (after_list db scopes list start) where' in
        let k : Option b.Condition = bound_option db scopes (after_condition db scopes where' (after_list db scopes list start)) having in
        let items : bound.items ≡ i = h.columns.are ∙ ap (λ n. select_items db scopes n list) next_first in
        let condition : bound.condition ≡ c = h.condition.are ∙ ap (λ n. bound_option db scopes n where') next_listed in
        let having' : bound.having ≡ k = h.having.are ∙ ap (λ n. bound_option db scopes n having) next_kept in
        ap (λ x. made x bound.condition columns bound.having bound.functions) items
        ∙ ap (λ x. made i x columns bound.having bound.functions) condition
        ∙ ap (λ x. made i c x bound.having bound.functions) ready.are
        ∙ ap (λ x. made i c (own_columns scopes groups) x bound.functions) having'
        ∙ ap (λ x. made i c (own_columns scopes groups) k x) its_functions

    -- ---- all of it

    inner : new ≡ old ++ empty ∷ bound_blocks db (length old + 1) (ls ++ ws ++ hs) []
    inner =
        let two = two_behind db scopes first.blocks h.listed.blocks h.kept.blocks ls ws h.columns.adds.blocks h.condition.adds.blocks listed_count in
        let some : length (ls ++ ws) ≡ length ls + length ws = length_of_both ls ws in
        let all : length h.kept.blocks ≡ length first.blocks + length (ls ++ ws) = let a = listed_count in let b = kept_count in omega (arith, a, b, some) in
        two_behind db scopes first.blocks h.kept.blocks new (ls ++ ws) hs two h.having.adds.blocks all
        ∙ ap (λ n. (old ++ empty ∷ []) ++ bound_blocks db n (ls ++ ws ++ hs) []) count
        ∙ append_assoc old (empty ∷ []) (bound_blocks db (length old + 1) (ls ++ ws ++ hs) [])

    total : length old + length (block_blocks db outer query) ≡ length new
    total =
        let both : length (ls ++ ws ++ hs) ≡ length (ls ++ ws) + length hs = length_of_both (ls ++ ws) hs in
        let some : length (ls ++ ws) ≡ length ls + length ws = length_of_both ls ws in
        let a = count in let c = listed_count in let d = kept_count in let e = last_count in omega (arith, a, c, d, e, both, some)

    pub within_new : length old < length new
    within_new = let a = count in let c = listed_count in let d = kept_count in let e = last_count in omega (arith, a, c, d, e)

    pub binds_block : BindsBlock db outer old (slice_set new (length old) whole_block) query bound.only
    binds_block = record {
      are = ap (λ xs. slice_set xs (length old) whole_block) inner ∙ set_behind old (bound_blocks db (length old + 1) (ls ++ ws ++ hs) []) empty whole_block ∙ ap (λ x. old ++ x ∷ bound_blocks db (length old + 1) (ls ++ ws ++ hs) []) its_form;
      accepted = accepted db outer distinct list sources where' groups having grouped (if grouped then columns else []) (length h.listed.blocks) (length first.blocks) judged;
      few = let few = few_after db scopes (shown_in grouped columns) h.kept last (condition_parts having) hs h.having.adds in let same = total in omega (arith, few, same);
      there = ready.there;
      typed = ap (λ x. if x then list_type db scopes list else None) ready.there ∙ h.columns.typed;
      one = subst (λ n. (n ≡ 1) ↔ IsTrue (is_some bound.only)) (counted db outer distinct list sources where' groups having) h.columns.one;
      fine = h.columns.fine;
    }
