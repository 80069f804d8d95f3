-- The clauses of a block: what is bound of them is bound of the block, and a fault of one is one of the block.
use Rattle.std.proofs.Common.{◌≡◌, ◌∙◌, refl, sym, ap, subst, inl, inr, ℕ, ◌+◌, Bool, true, false, List, [], ◌∷◌, ◌++◌, length, filter, arith}
use Rattle.std.specs.Prelude.{flat_map, if◌then◌else◌, IsTrue, IsFalse}
use Rattle.std.proofs.lemmas.List.{append_assoc}
use Rattle.definitions.specs.Lists.{AnyOf}
use Rattle.definitions.specs.Refusal.{Refusal, MisplacedFunction, OverQueryLimit}
use Rattle.definitions.specs.Statement as t
use Rattle.definitions.specs.Statement.{Expr}
use Rattle.definitions.specs.Table.{Database}
use Rattle.definitions.specs.Binding.Scopes.{Scopes}
use Rattle.definitions.specs.Binding.Parts.{PlacedBlock, is_function, parts, item_values, condition_values, list_blocks, condition_blocks}
use Rattle.definitions.specs.Binding.Faults.{list_of, where_of, having_clause_of, where_parts}
use Rattle.definitions.specs.Queries.BoundBlock.{Blocks}
use Rattle.parse_tree.specs.Trees.{block_of, condition_of}
use Rattle.parse_tree.specs.Trees as tree
use Rattle.parse_tree.specs.declared.expr.Block.{Block}
use Rattle.parse_tree.proofs.Views.{of_block}
use Rattle.query_rules.specs.Judging.{ClauseKind, InWhere, InShown, InArgument, is_where, takes_functions, Refuses, part, argument, inner, misplaced, misplaced_function, many, Progress, Adds}
use Rattle.binder.specs.Blocks.{condition_parts, list_parts, BindsList, BindsOption, RefusesList, RefusesOption}
use Rattle.binder.specs.Clauses.{BoundClauses, BindsClauses, RefusesClauses, in_where, in_shown, condition_for_item, value_for_condition}
use Rattle.binder.proofs.Bundles.{any_left, any_right, fault_left, fault_right}
use Rattle.binder.proofs.BlockFaults.{any_map}
use Rattle.binder.proofs.Nodes.{blocks_after}

pub parts_of_both : (xs ys : List Expr) → flat_map parts (xs ++ ys) ≡ flat_map parts xs ++ flat_map parts ys
parts_of_both [] ys = refl
parts_of_both (x ∷ xs) ys = ap (λ zs. parts x ++ zs) (parts_of_both xs ys) ∙ sym (append_assoc (parts x) (flat_map parts xs) (flat_map parts ys))

not_where : (place : ClauseKind) → IsTrue (takes_functions place) → IsFalse (is_where place)
not_where InWhere h = absurd cc
not_where (InShown grouped columns) h = refl
not_where InArgument h = absurd cc

nothing_behind : (n : ℕ) (bs : List PlacedBlock) → bs ≡ [] → n + length bs ≡ n
nothing_behind n bs e = ap (λ xs. n + length xs) e ∙ zero_behind n
  where
    zero_behind : (n : ℕ) → n + 0 ≡ n
    zero_behind n = omega (arith)

module _ (db : Database) (scopes : Scopes) where
  pub later_refuses : (place : ClauseKind) (n k : ℕ) (ps : List Expr) (bs : List PlacedBlock) (r : Refusal) → Refuses db scopes place n ps bs r → Refuses db scopes place (n + k) ps bs r
  later_refuses place n k ps bs _ (part r a) = part r a
  later_refuses place n k ps bs _ (argument r p a) = argument r p a
  later_refuses place n k ps bs _ (inner r a) = inner r a
  later_refuses place n k ps bs r (misplaced p x) = misplaced p x
  later_refuses place n k ps bs r (many h) = many (omega (arith, h))

  pub no_blocks : (place : ClauseKind) (old new : Progress) (ps : List Expr) (bs : List PlacedBlock) → IsTrue (takes_functions place) → Adds db scopes place old new ps bs → bs ≡ []
  no_blocks place old new ps [] t h = refl
  no_blocks place old new ps (b ∷ bs) t h = absurd (h.clean OverQueryLimit (misplaced (not_where place t) (λ e. absurd cc)))

  filtered : (b : Bool) (p : Expr) (ps : List Expr) → (IsTrue b → ⊥) → ps ≡ [] → (if b then p ∷ ps else ps) ≡ []
  filtered true p ps h e = absurd (h refl)
  filtered false p ps h e = e

  no_functions_among : (ps : List Expr) → (AnyOf (λ e. IsTrue (is_function e)) ps → ⊥) → filter is_function ps ≡ []
  no_functions_among [] h = refl
  no_functions_among (p ∷ ps) h = filtered (is_function p) p (filter is_function ps) (λ x. h (inl x)) (no_functions_among ps (λ x. h (inr x)))

  pub no_functions : (old new : Progress) (ps : List Expr) (bs : List PlacedBlock) → Adds db scopes InWhere old new ps bs → filter is_function ps ≡ []
  no_functions old new ps bs h = no_functions_among ps (λ a. h.clean MisplacedFunction (part MisplacedFunction (any_map _ _ (λ e x. misplaced_function refl x) ps a)))

  module _ (shown : ClauseKind) (old : Blocks) where
    abbrev start : Progress
    start = record { blocks = old; functions = [] }

    pub list_refused : (query : t.QuerySpecification) (r : Refusal) → RefusesList db scopes shown start (list_of query) r → RefusesClauses db scopes shown (length old) query r
    list_refused query r (inl f) =
        let ls = list_blocks db scopes (list_of query) in
        let hs = condition_blocks db scopes (having_clause_of query) in
        let ws = condition_blocks db scopes (where_of query) in
        in_shown r (subst (λ ps. Refuses db scopes shown (length old + length ws) ps (ls ++ hs) r) (sym (parts_of_both (item_values (list_of query)) (condition_values (having_clause_of query))))
        (later_refuses shown (length old) (length ws) (list_parts (list_of query) ++ condition_parts (having_clause_of query)) (ls ++ hs) r
        (fault_left db scopes shown (length old) (list_parts (list_of query)) (condition_parts (having_clause_of query)) ls hs r f)))
    list_refused query r (inr (a, same)) = subst (RefusesClauses db scopes shown (length old) query) (sym same) (condition_for_item a)

    pub where_refused : (listed : Progress) (query : t.QuerySpecification) (r : Refusal) → IsTrue (takes_functions shown) → Adds db scopes shown start listed (list_parts (list_of query)) (list_blocks db scopes (list_of query))
        → RefusesOption db scopes InWhere listed (where_of query) r → RefusesClauses db scopes shown (length old) query r
    where_refused listed query r t h (inl f) =
        let ls = list_blocks db scopes (list_of query) in
        let count = blocks_after db scopes shown start listed (list_parts (list_of query)) ls h ∙ nothing_behind (length old) ls (no_blocks shown start listed (list_parts (list_of query)) ls t h) in
        in_where r (subst (λ n. Refuses db scopes InWhere n (where_parts query) (condition_blocks db scopes (where_of query)) r) count f)
    where_refused listed query r t h (inr (a, same)) = subst (RefusesClauses db scopes shown (length old) query) (sym same) (value_for_condition (any_left _ (condition_values (where_of query)) (condition_values (having_clause_of query)) a))

    pub having_refused : (listed kept : Progress) (query : t.QuerySpecification) (r : Refusal) → Adds db scopes shown start listed (list_parts (list_of query)) (list_blocks db scopes (list_of query))
        → Adds db scopes InWhere listed kept (condition_parts (where_of query)) (condition_blocks db scopes (where_of query))
        → RefusesOption db scopes shown kept (having_clause_of query) r → RefusesClauses db scopes shown (length old) query r
    having_refused listed kept query r h k (inl f) =
        let ls = list_blocks db scopes (list_of query) in
        let hs = condition_blocks db scopes (having_clause_of query) in
        let ws = condition_blocks db scopes (where_of query) in
        let first : length listed.blocks ≡ length old + length ls = blocks_after db scopes shown start listed (list_parts (list_of query)) ls h in
        let second : length kept.blocks ≡ length listed.blocks + length ws = blocks_after db scopes InWhere listed kept (condition_parts (where_of query)) ws k in
        let count : length kept.blocks ≡ length old + length ws + length ls = omega (arith, first, second) in
        in_shown r (subst (λ ps. Refuses db scopes shown (length old + length ws) ps (ls ++ hs) r) (sym (parts_of_both (item_values (list_of query)) (condition_values (having_clause_of query))))
        (fault_right db scopes shown (length old + length ws) (list_parts (list_of query)) (condition_parts (having_clause_of query)) ls hs r
        (subst (λ n. Refuses db scopes shown n (condition_parts (having_clause_of query)) hs r) count f)))
    having_refused listed kept query r h k (inr (a, same)) = subst (RefusesClauses db scopes shown (length old) query) (sym same) (value_for_condition (any_right _ (condition_values (where_of query)) (condition_values (having_clause_of query)) a))

    -- ---- of a tree

    pub list_refused_in : (query : Block) (r : Refusal) → RefusesList db scopes shown start (tree.list_of query.list) r → RefusesClauses db scopes shown (length old) (block_of query) r
    list_refused_in query r f = list_refused (block_of query) r (subst (λ b. RefusesList db scopes shown start (list_of b) r) (sym (of_block query)) f)

    pub where_refused_in : (listed : Progress) (query : Block) (r : Refusal) → IsTrue (takes_functions shown) → Adds db scopes shown start listed (list_parts (tree.list_of query.list)) (list_blocks db scopes (tree.list_of query.list))
        → RefusesOption db scopes InWhere listed (condition_of query.condition) r → RefusesClauses db scopes shown (length old) (block_of query) r
    where_refused_in listed query r t h f =
        where_refused listed (block_of query) r t (subst (λ b. Adds db scopes shown start listed (list_parts (list_of b)) (list_blocks db scopes (list_of b))) (sym (of_block query)) h)
        (subst (λ b. RefusesOption db scopes InWhere listed (where_of b) r) (sym (of_block query)) f)

    pub having_refused_in : (listed kept : Progress) (query : Block) (r : Refusal) → Adds db scopes shown start listed (list_parts (tree.list_of query.list)) (list_blocks db scopes (tree.list_of query.list))
        → Adds db scopes InWhere listed kept (condition_parts (condition_of query.condition)) (condition_blocks db scopes (condition_of query.condition))
        → RefusesOption db scopes shown kept (condition_of query.having) r → RefusesClauses db scopes shown (length old) (block_of query) r
    having_refused_in listed kept query r h k f =
        having_refused listed kept (block_of query) r (subst (λ b. Adds db scopes shown start listed (list_parts (list_of b)) (list_blocks db scopes (list_of b))) (sym (of_block query)) h)
        (subst (λ b. Adds db scopes InWhere listed kept (condition_parts (where_of b)) (condition_blocks db scopes (where_of b))) (sym (of_block query)) k)
        (subst (λ b. RefusesOption db scopes shown kept (having_clause_of b) r) (sym (of_block query)) f)

    pub clauses_bound : (listed kept : Progress) (new : Blocks) (query : Block) (bound : BoundClauses) → BindsList db scopes shown start listed (tree.list_of query.list) bound.items bound.only
        → BindsOption db scopes InWhere listed kept (condition_of query.condition) bound.condition → BindsOption db scopes shown kept (record { blocks = new; functions = bound.functions }) (condition_of query.having) bound.having
        → BindsClauses db scopes shown old new (block_of query) bound
    clauses_bound listed kept new query bound l c h = record {
      listed = listed;
      kept = kept;
      columns = subst (λ b. BindsList db scopes shown start listed (list_of b) bound.items bound.only) (sym (of_block query)) l;
      condition = subst (λ b. BindsOption db scopes InWhere listed kept (where_of b) bound.condition) (sym (of_block query)) c;
      having = subst (λ b. BindsOption db scopes shown kept (record { blocks = new; functions = bound.functions }) (having_clause_of b) bound.having) (sym (of_block query)) h;
    }
