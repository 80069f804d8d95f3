-- The limits of a block, and its asterisk.
use Rattle.std.proofs.Common.{◌≡◌, ◌∙◌, refl, sym, ap, subst, inl, inr, ℕ, ◌+◌, ◌<◌, ◌≤◌, Bool, true, false, List, [], ◌∷◌, Option, Some, None, length, map, arith}
use Rattle.std.specs.Prelude.{◌≢◌, is_some, IfSome}
use Rattle.definitions.specs.Grammar.{items}
use Rattle.definitions.specs.Lists.{AnyOf}
use Rattle.definitions.specs.Limits.{most_conjuncts, most_items, most_group_columns}
use Rattle.definitions.specs.Refusal.{UngroupedColumn, OverQueryLimit}
use Rattle.definitions.specs.Statement.{Asterisk, Listed, listed}
use Rattle.definitions.specs.Table.{Database}
use Rattle.definitions.specs.Binding.Scopes.{Scopes}
use Rattle.definitions.specs.Binding.Parts.{condition_values}
use Rattle.definitions.specs.Binding.Faults as fault
use Rattle.definitions.specs.Binding.Faults.{conjunct_count, item_count, BlockFaulty, IsGrouped}
use Rattle.parse_tree.specs.Trees.{block_of, column_of, condition_of, expr_of, item_of, list_of}
use Rattle.parse_tree.specs.declared.expr.Block.{Block}
use Rattle.parse_tree.specs.declared.expr.Expr.{Expr}
use Rattle.parse_tree.specs.declared.expr.Item.{Item}
use Rattle.parse_tree.proofs.Views.{of_block}
use Rattle.query_rules.specs.BlockLimits.{IsWithinLimits}

pub as_many_items : (xs : List Item) → length (listed (items (map item_of xs))) ≡ length xs
as_many_items [] = refl
as_many_items (x ∷ xs) = let h = as_many_items xs in omega (arith, h)

as_many : {X Y : Type 0} (f : X → Y) (xs : List X) → length (map f xs) ≡ length xs
as_many f [] = refl
as_many f (x ∷ xs) = let h = as_many f xs in omega (arith, h)

pub room_left : (left : Option ℕ) (n : ℕ) → is_some left ≡ true → IfSome left (λ k. n + k ≡ most_conjuncts) → n ≤ most_conjuncts
room_left (Some k) n h r = omega (arith, r)
room_left None n h r = absurd cc

module _ (query : Block) where
  pub star_refused : (grouped : Bool) → (grouped ≡ true → IsGrouped (block_of query)) → grouped ≡ true → list_of query.list ≡ Asterisk → (db : Database) (outer : Scopes) → BlockFaulty db (record { outer = outer; block = block_of query }) UngroupedColumn
  star_refused grouped g h l db outer = fault.star_of_groups (g h) (ap fault.list_of (of_block query) ∙ l)

  pub items_refused : (xs : List Item) → list_of query.list ≡ Listed (items (map item_of xs)) → most_items < length xs → (db : Database) (outer : Scopes) → BlockFaulty db (record { outer = outer; block = block_of query }) OverQueryLimit
  items_refused xs l h db outer = fault.many_items (let same = ap item_count (ap fault.list_of (of_block query) ∙ l) ∙ as_many_items xs in rw same h)

  pub groups_refused : most_group_columns < length query.groups.items → (db : Database) (outer : Scopes) → BlockFaulty db (record { outer = outer; block = block_of query }) OverQueryLimit
  groups_refused h db outer = fault.many_groups (let same = ap (λ b. length (fault.group_by_of b)) (of_block query) ∙ as_many column_of query.groups.items in rw same h)

  pub conjuncts_refused : (e : Expr) → query.condition ≡ Some e → most_conjuncts < conjunct_count (expr_of e) → (db : Database) (outer : Scopes) → BlockFaulty db (record { outer = outer; block = block_of query }) OverQueryLimit
  conjuncts_refused e c h db outer =
      let same = ap (λ b. condition_values (fault.where_of b)) (of_block query) ∙ ap (λ o. condition_values (condition_of o)) c in
      fault.many_conjuncts (rw same (inl h))

  -- few result columns, and an asterisk only where it may stand
  abbrev pub HasFitList : Bool → Type 0
  HasFitList grouped = (item_count (list_of query.list) ≤ most_items) × (grouped ≡ true → list_of query.list ≢ Asterisk)

  pub few_when_asterisk : (grouped : Bool) → grouped ≡ false → list_of query.list ≡ Asterisk → HasFitList grouped
  few_when_asterisk grouped g l = (rw l (omega (arith)), λ h. absurd (let same : true ≡ false = sym h ∙ g in cc))

  pub few_when_items : (grouped : Bool) (xs : List Item) → list_of query.list ≡ Listed (items (map item_of xs)) → length xs ≤ most_items → HasFitList grouped
  few_when_items grouped xs l h = (let same = ap item_count l ∙ as_many_items xs in rw same h, λ g s. absurd (let both : Listed (items (map item_of xs)) ≡ Asterisk = sym l ∙ s in cc))

  abbrev pub HasFewConjuncts : Type 0
  HasFewConjuncts = AnyOf (λ e. most_conjuncts < conjunct_count e) (condition_values (condition_of query.condition)) → ⊥

  pub few_conjuncts : (e : Expr) → query.condition ≡ Some e → conjunct_count (expr_of e) ≤ most_conjuncts → HasFewConjuncts
  few_conjuncts e c h = rw c (λ a. elim a [ inl x ↦ absurd (omega (arith, h, x)) | inr x ↦ x ])

  pub no_conjuncts : query.condition ≡ None → HasFewConjuncts
  no_conjuncts c = rw c (λ a. a)

  pub within_limits : (grouped : Bool) → HasFitList grouped → length query.groups.items ≤ most_group_columns → HasFewConjuncts → IsWithinLimits grouped (block_of query)
  within_limits grouped l g c = subst (IsWithinLimits grouped) (sym (of_block query)) (record {
    items = l.0;
    groups = let same = as_many column_of query.groups.items in rw same g;
    conjuncts = c;
    no_star = l.1;
  })
