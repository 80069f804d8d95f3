-- Expressions that look at the columns of GROUP BY alone mean the same on each combination of a group.
use Rattle.std.proofs.Common.{◌≡◌, inl, inr, refl, sym, ap, ap₂, subst, List, [], ◌∷◌, Bool, true, false, Some, None, map, true≢false}
use Rattle.std.specs.Prelude.{if◌then◌else◌, Option, ◌&&◌}
use Rattle.std.specs.List.{AllByRecursion}
use Rattle.std.specs.Ordering.{is_eq}
use Rattle.std.specs.declared.cmp.Ordering.{Ordering}
use Rattle.std.specs.declared.cmp.Ordering.TheVariants.{Less, Equal, Greater}
use Rattle.definitions.specs.Value.{Value, Null, SqlType, rank, is_null}
use Rattle.definitions.specs.Arithmetic.{Meaning, Is}
use Rattle.definitions.specs.Truth.{and, opposite, all_true, any_true, compared, compared_with_any, unless, known, is_true}
use Rattle.definitions.specs.Pattern.{like}
use Rattle.definitions.specs.Statement.{Equals, GreaterOrEquals, LessOrEquals}
use Rattle.definitions.specs.Plans.Order.{BlockColumn}
use Rattle.definitions.specs.Queries.BoundBlock as b
use Rattle.definitions.specs.Queries.BoundBlock.{ValueExpr, Operands, Condition, Conditions, Item, Block}
use Rattle.definitions.specs.Queries.Conjuncts.{member_values, tested_blocks, tested_blocks_of_parts, values_of, values_of_parts}
use Rattle.definitions.specs.Queries.Evaluation.{Combination, Environment, cell, value, chained, truth, truths, member, in_order, operation, signed, and_then, and_then_two, on_one, on_two}
use Rattle.definitions.specs.Queries.Combinations.{Context, at_group}
use Rattle.definitions.specs.Queries.Grouping.{all_results, same_value}
use Rattle.definitions.specs.Queries.Answer.{having_of}
use Rattle.definitions.specs.Binding.Formed.{HasColumn}
use Rattle.definitions.proofs.QueryTheory.EqualValues.{equal_rank_in_a_type_is_equality}
use Rattle.definitions_execution.specs.Lists.{In}
use Rattle.definitions_execution.specs.TypedCombinations.{IsTypedCombination}
use Rattle.definitions_answers.specs.Groups.{in_one_group}
use Rattle.definitions.specs.Binding.Answerable.{IfLooksAt, LooksAt, AllLookAt}
use Rattle.definitions_answers.specs.Grouped.{GroupsHaveOneRow}
use Rattle.definitions_answers.proofs.GroupRows.{none_first, none_second}
use Rattle.definitions_answers.proofs.Taken.{all_split}

-- ---- equal cells

equal_from : (o : Ordering) → is_eq o ≡ true → o ≡ Equal
equal_from Less e = absurd (true≢false (sym e))
equal_from Equal e = refl
equal_from Greater e = absurd (true≢false (sym e))

both_true : (p q : Bool) → (p && q) ≡ true → (p ≡ true) × (q ≡ true)
both_true true q e = (refl, e)
both_true false q e = absurd (true≢false (sym e))

module _ (context : Context) (block : Block) (c d : Combination) (typed_c : IsTypedCombination context.database block c) (typed_d : IsTypedCombination context.database block d) where
  cells_same : (columns : List BlockColumn) → AllByRecursion (λ column. (type : SqlType) × HasColumn context.database block column type) columns → in_one_group columns c d ≡ true
      → (column : BlockColumn) → In column columns → cell c column ≡ cell d column
  cells_same [] has e column i = absurd i
  cells_same (k ∷ ks) ((type, there), has) e column i =
      let (first, rest) = both_true (same_value (cell c k) (cell d k)) (in_one_group ks c d) e in
      step first (λ j. cells_same ks has rest column j) i
    where
      step : same_value (cell c k) (cell d k) ≡ true → (In column ks → cell c column ≡ cell d column) → In column (k ∷ ks) → cell c column ≡ cell d column
      step first r (inl same) = subst (λ x. cell c x ≡ cell d x) same (equal_rank_in_a_type_is_equality type (cell c k) (cell d k) (typed_c k type there) (typed_d k type there) (equal_from (rank (cell c k) (cell d k)) first))
      step first r (inr j) = r j

-- ---- expressions

module _ (context : Context) (functions : List (Meaning Value)) (columns : List BlockColumn) (c d : Combination) (same : (column : BlockColumn) → In column columns → cell c column ≡ cell d column) where
  abbrev here : Environment
  here = at_group context functions c

  abbrev there : Environment
  there = at_group context functions d

  mutual
    value_same : (e : ValueExpr) → LooksAt columns e → value here e ≡ value there e
    value_same (b.Column column type) l = ap Is (same column l)
    value_same (b.Parameter n column type) l = refl
    value_same (b.Numeral units digits scale) l = refl
    value_same (b.String codes) l = refl
    value_same (b.Signed minus e) l = ap (on_one (signed minus)) (value_same e l)
    value_same (b.Chain first others) l = chain_same (value here first) (value there first) others l.1 (value_same first l.0)
    value_same (b.AggregateValue n type) l = refl
    value_same (b.Subquery n type) l = absurd l

    chain_same : (left right : Meaning Value) (others : Operands) → AllLookAt columns others → left ≡ right → chained here left others ≡ chained there right others
    chain_same left right b.NoOperand l e = e
    chain_same left right (b.Operand operator operand others) l e =
        chain_same (and_then_two (operation operator) left (value here operand)) (and_then_two (operation operator) right (value there operand)) others l.1 (ap₂ (and_then_two (operation operator)) e (value_same operand l.0))

  members_same : (members : List (Option ValueExpr)) → AllByRecursion (LooksAt columns) (member_values members) → in_order (map (member here) members) ≡ in_order (map (member there) members)
  members_same [] l = refl
  members_same (None ∷ members) l = ap (λ m. on_two ◌∷◌ (Is Null) m) (members_same members l)
  members_same (Some e ∷ members) l = ap₂ (on_two ◌∷◌) (value_same e l.0) (members_same members l.1)

  mutual
    truth_same : (k : Condition) → AllByRecursion (LooksAt columns) (values_of k) → tested_blocks k ≡ [] → truth here k ≡ truth there k
    truth_same (b.Compare op left right) l n = ap₂ (on_two (compared op)) (value_same left l.0) (value_same right l.1.0)
    truth_same (b.Quantified op quantifier e block) l n = absurd cc
    truth_same (b.IsNull negated e) l n = ap (on_one (λ v. unless negated (known (is_null v)))) (value_same e l.0)
    truth_same (b.Between negated e low high) l n =
        ap (on_one (unless negated)) (ap₂ (on_two and) (ap₂ (on_two (compared GreaterOrEquals)) (value_same e l.0) (value_same low l.1.0)) (ap₂ (on_two (compared LessOrEquals)) (value_same e l.0) (value_same high l.1.1.0)))
    truth_same (b.Like negated e pattern) l n = ap (on_one (λ v. unless negated (like pattern v))) (value_same e l.0)
    truth_same (b.InList negated e members) l n = ap (on_one (unless negated)) (ap₂ (on_two (compared_with_any Equals)) (value_same e l.0) (members_same members l.1))
    truth_same (b.InQuery negated e block) l n = absurd cc
    truth_same (b.Exists block) l n = absurd cc
    truth_same (b.Not operand) l n = ap (on_one opposite) (truth_same operand l n)
    truth_same (b.And parts) l n = ap (on_one all_true) (truths_same parts l n)
    truth_same (b.Or parts) l n = ap (on_one any_true) (truths_same parts l n)

    truths_same : (parts : Conditions) → AllByRecursion (LooksAt columns) (values_of_parts parts) → tested_blocks_of_parts parts ≡ [] → truths here parts ≡ truths there parts
    truths_same b.NoPart l n = refl
    truths_same (b.Part part others) l n =
        let (own, rest) = all_split (LooksAt columns) (values_of part) (values_of_parts others) l in
        ap₂ (on_two ◌∷◌) (truth_same part own (none_first (tested_blocks part) (tested_blocks_of_parts others) n)) (truths_same others rest (none_second (tested_blocks part) (tested_blocks_of_parts others) n))

  items_same : (items : List Item) → AllByRecursion (λ (i : Item). LooksAt columns i.value) items → map (λ (i : Item). value here i.value) items ≡ map (λ (i : Item). value there i.value) items
  items_same [] l = refl
  items_same (i ∷ items) l = ap₂ (λ m ms. m ∷ ms) (value_same i.value l.0) (items_same items l.1)

  having_same : (having : Option Condition) → IfLooksAt columns having → having_of here having ≡ having_of there having
  having_same None l = refl
  having_same (Some k) l = truth_same k l.values l.alone

pub groups_have_one_row : GroupsHaveOneRow
groups_have_one_row context block c d values has looks typed_c typed_d one =
    let same = cells_same context block c d typed_c typed_d block.groups has one in
    ap₂ (λ row having. and_then (λ t. if is_true t then on_one (λ r. r ∷ []) row else Is []) having)
    (ap all_results (items_same context (map Is values) block.groups c d same block.items looks.items))
    (having_same context (map Is values) block.groups c d same block.having looks.having)
