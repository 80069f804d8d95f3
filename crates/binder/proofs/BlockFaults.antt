-- What is known of the parts of a block makes it one without a fault, and a fault of a part is one of the block.
use Rattle.std.proofs.Common.{◌≡◌, ◌∙◌, refl, sym, ap, ap₂, subst, ℕ, suc, ◌+◌, ◌<◌, ◌≤◌, ◌⊎◌, inl, inr, Bool, true, false, List, [], ◌∷◌, ◌++◌, Option, Some, None, length, map, arith}
use Rattle.std.specs.Prelude.{◌≢◌, ⊤, flat_map, ◌&&◌, is_some, IsTrue, IsFalse}
use Rattle.std.specs.List.{list_all}
use Rattle.std.proofs.lemmas.List.{append_assoc}
use Rattle.definitions.specs.Lists.{AnyOf}
use Rattle.definitions.specs.Limits.{most_blocks, most_from_tables, most_conjuncts, most_items, most_group_columns}
use Rattle.definitions.specs.Refusal.{Refusal, NotFound, ScaleTooGreat, UnknownColumn, MixedKinds, MisplacedCondition, MisplacedFunction, UngroupedColumn, OverQueryLimit}
use Rattle.definitions.specs.Statement.{Expr, Column, Function, ColumnReference, Source, SelectList, Asterisk, SearchClause, Absent, Present, QuerySpecification, Specification}
use Rattle.definitions.specs.Table.{Table, Database, AreDistinct, table_named}
use Rattle.definitions.specs.Plans.Order.{BlockColumn}
use Rattle.definitions.specs.Binding.Scopes.{NamedTable, Scopes, scope_of, is_whole, are_there, resolve}
use Rattle.definitions.specs.Binding.Parts.{PlacedBlock, is_function, item_values, condition_values, list_blocks, condition_blocks, block_blocks}
use Rattle.definitions.specs.Binding.BoundForm.{own_column}
use Rattle.definitions.specs.Binding.Faults as fault
use Rattle.definitions.specs.Binding.Faults.{IsTooFine, NamesNoColumn, MixesKinds, takes_right, is_condition, HasManyMembers, IsOuterColumn, IsNotOwn, IsUngrouped, IsGrouped, argument_parts, where_parts, shown_parts, all_argument_parts, all_parts, conjunct_count, item_count, BlockFaulty}
use Rattle.query_rules.specs.Judging as judged
use Rattle.query_rules.specs.Judging.{ClauseKind, InWhere, InShown, InArgument, takes_functions, IsUngroupedIn, PartFaulty, Refuses, IsClean}
use Rattle.binder.proofs.Bundles.{any_left, any_right, any_split, length_of_both}

-- ---- some element

pub any_map : {X : Type 0} (P Q : X → Type 0) → ((x : X) → P x → Q x) → (xs : List X) → AnyOf P xs → AnyOf Q xs
any_map P Q f [] h = absurd h
any_map P Q f (x ∷ xs) (inl h) = inl (f x h)
any_map P Q f (x ∷ xs) (inr h) = inr (any_map P Q f xs h)

abbrev IsIn : {X : Type 0} → X → List X → Type 0
IsIn {X} x xs = AnyOf (λ (y : X). y ≡ x) xs

any_at : {X : Type 0} (P : X → Type 0) (x : X) (xs : List X) → IsIn x xs → P x → AnyOf P xs
any_at P x [] h p = absurd h
any_at P x (y ∷ ys) (inl h) p = inl (subst P (sym h) p)
any_at P x (y ∷ ys) (inr h) p = inr (any_at P x ys h p)

-- an element with a property, and where it is
found : {X : Type 0} (P : X → Type 0) (xs : List X) → AnyOf P xs → (x : X) × IsIn x xs × P x
found P [] h = absurd h
found P (x ∷ xs) (inl h) = (x, inl refl, h)
found P (x ∷ xs) (inr h) = let f = found P xs h in (f.0, inr f.1, f.2)

from_first : {X : Type 0} (P : X → Type 0) (xs ys zs : List X) → AnyOf P xs → AnyOf P (xs ++ ys ++ zs)
from_first P xs ys zs h = any_left P (xs ++ ys) zs (any_left P xs ys h)

from_second : {X : Type 0} (P : X → Type 0) (xs ys zs : List X) → AnyOf P ys → AnyOf P (xs ++ ys ++ zs)
from_second P xs ys zs h = any_left P (xs ++ ys) zs (any_right P xs ys h)

-- ---- arguments

no_argument : (e : Expr) → (IsTrue (is_function e) → ⊥) → argument_parts e ≡ []
no_argument (Function function distinct argument) h = absurd (h refl)
no_argument _ h = refl

no_arguments : (es : List Expr) → (AnyOf (λ e. IsTrue (is_function e)) es → ⊥) → flat_map argument_parts es ≡ []
no_arguments [] h = refl
no_arguments (e ∷ es) h = ap₂ (λ xs ys. xs ++ ys) (no_argument e (λ x. h (inl x))) (no_arguments es (λ x. h (inr x)))

arguments_of_both : (ps qs : List Expr) → flat_map argument_parts (ps ++ qs) ≡ flat_map argument_parts ps ++ flat_map argument_parts qs
arguments_of_both [] qs = refl
arguments_of_both (p ∷ ps) qs = ap (λ xs. argument_parts p ++ xs) (arguments_of_both ps qs) ∙ sym (append_assoc (argument_parts p) (flat_map argument_parts ps) (flat_map argument_parts qs))

none_of_arguments : (P : Expr → Type 0) (ws ss : List Expr) → (AnyOf (λ e. IsTrue (is_function e)) ws → ⊥) → (AnyOf P (flat_map argument_parts ss) → ⊥) → AnyOf P (flat_map argument_parts (ws ++ ss)) → ⊥
none_of_arguments P ws ss h k a = k (subst (λ xs. AnyOf P (xs ++ flat_map argument_parts ss)) (no_arguments ws h) (subst (AnyOf P) (arguments_of_both ws ss) a))

none_of_all : (P : Expr → Type 0) (ws ss : List Expr) → (AnyOf (λ e. IsTrue (is_function e)) ws → ⊥) → (AnyOf P ws → ⊥) → (AnyOf P ss → ⊥) → (AnyOf P (flat_map argument_parts ss) → ⊥)
    → AnyOf P (ws ++ ss ++ flat_map argument_parts (ws ++ ss)) → ⊥
none_of_all P ws ss h k l m a = elim (any_split P (ws ++ ss) (flat_map argument_parts (ws ++ ss)) a) [
  | inl x ↦ elim (any_split P ws ss x) [ inl y ↦ k y | inr y ↦ l y ]
  | inr x ↦ none_of_arguments P ws ss h m x
]

-- ---- conditions, and tables that are there

abbrev pub IsConditionIn : SearchClause → Type 0
IsConditionIn Absent = ⊤
IsConditionIn (Present e) = is_condition e ≡ true

abbrev pub HasFewConjuncts : SearchClause → Type 0
HasFewConjuncts Absent = ⊤
HasFewConjuncts (Present e) = conjunct_count e ≤ most_conjuncts

both_cannot : (b : Bool) → b ≡ true → IsFalse b → ⊥
both_cannot true h k = absurd cc
both_cannot false h k = absurd cc

no_value : (c : SearchClause) → IsConditionIn c → AnyOf (λ e. IsFalse (is_condition e)) (condition_values c) → ⊥
no_value Absent h a = absurd a
no_value (Present e) h (inl a) = both_cannot (is_condition e) h a
no_value (Present e) h (inr a) = absurd a

not_many : (c : SearchClause) → HasFewConjuncts c → AnyOf (λ e. most_conjuncts < conjunct_count e) (condition_values c) → ⊥
not_many Absent h a = absurd a
not_many (Present e) h (inl a) = absurd (omega (arith, h, a))
not_many (Present e) h (inr a) = absurd a

first_true : (a b : Bool) → IsTrue (a && b) → a ≡ true
first_true true b h = refl
first_true false b h = absurd cc

second_true : (a b : Bool) → IsTrue (a && b) → b ≡ true
second_true true b h = h
second_true false b h = absurd cc

not_none : {X : Type 0} (o : Option X) → is_some o ≡ true → o ≡ None → ⊥
not_none None h k = absurd cc
not_none (Some x) h k = absurd cc

all_there : (db : Database) (sources : List Source) → IsTrue (list_all (λ (t : NamedTable). is_some t.table) (scope_of db sources)) → AnyOf (λ (s : Source). table_named db s.table ≡ None) sources → ⊥
all_there db [] h a = absurd a
all_there db (s ∷ ss) h (inl a) = not_none (table_named db s.table) (first_true _ _ h) a
all_there db (s ∷ ss) h (inr a) = all_there db ss (second_true (is_some (table_named db s.table)) _ h) a

-- in a place of result columns: whether the block is grouped, and by what
abbrev grouped_in : ClauseKind → Bool
grouped_in (InShown grouped columns) = grouped
grouped_in _ = false

abbrev columns_in : ClauseKind → List BlockColumn
columns_in (InShown grouped columns) = columns
columns_in _ = []

none_there : (db : Database) (sources : List Source) → list_all (λ (t : NamedTable). is_some t.table) (scope_of db sources) ≡ false → AnyOf (λ (s : Source). table_named db s.table ≡ None) sources
none_there db [] h = absurd cc
none_there db (s ∷ ss) h = step (table_named db s.table) _ _ h (none_there db ss)
  where
    step : (o : Option Table) (b : Bool) (P : Type 0) → is_some o && b ≡ false → (b ≡ false → P) → (o ≡ None) ⊎ P
    step None b P h f = inl refl
    step (Some t) b P h f = inr (f h)

-- a limit on all blocks is passed if it is by some of them
over_where : (m : ℕ) (ls ws hs : List PlacedBlock) → most_blocks < m + 1 + length ws → most_blocks < m + suc (length (ls ++ ws ++ hs))
over_where m ls ws hs h = let k = length_of_both (ls ++ ws) hs in let l = length_of_both ls ws in omega (arith, h, k, l)

over_shown : (m : ℕ) (ls ws hs : List PlacedBlock) → most_blocks < m + 1 + length ws + length (ls ++ hs) → most_blocks < m + suc (length (ls ++ ws ++ hs))
over_shown m ls ws hs h = let k = length_of_both (ls ++ ws) hs in let l = length_of_both ls ws in let j = length_of_both ls hs in omega (arith, h, k, l, j)

ungrouped_in : (db : Database) (scopes : Scopes) (groups : List ColumnReference) (e : Expr) → IsUngrouped scopes groups e → IsUngroupedIn db scopes (map (λ g. own_column (resolve scopes g)) groups) e
ungrouped_in db scopes groups (Column reference) h = h
ungrouped_in db scopes groups _ h = absurd h

in_ungrouped : (db : Database) (scopes : Scopes) (groups : List ColumnReference) (e : Expr) → IsUngroupedIn db scopes (map (λ g. own_column (resolve scopes g)) groups) e → IsUngrouped scopes groups e
in_ungrouped db scopes groups (Column reference) h = h
in_ungrouped db scopes groups _ h = absurd h

module _ (db : Database) (outer : Scopes) (distinct : Bool) (list : SelectList) (sources : List Source) (where' : SearchClause) (groups : List ColumnReference) (having : SearchClause) where
  abbrev pub whole : QuerySpecification
  whole = Specification distinct list sources where' groups having

  abbrev pub placed : PlacedBlock
  placed = record { outer = outer; block = Specification distinct list sources where' groups having }

  abbrev pub scopes : Scopes
  scopes = scope_of db sources ∷ outer

  -- what is known of a block whose parts have no fault
  pub record IsJudged (grouped : Bool) (columns : List BlockColumn) (m n : ℕ) : Type 0 where
    pub there : IsTrue (are_there scopes)
    pub names : AreDistinct (map (λ (t : NamedTable). t.name) (scope_of db sources))
    pub tables : length sources ≤ most_from_tables
    pub where_clean : IsClean db scopes InWhere m (where_parts whole) (condition_blocks db scopes where')
    pub where_condition : IsConditionIn where'
    pub conjuncts : HasFewConjuncts where'
    pub shown_clean : IsClean db scopes (InShown grouped columns) n (shown_parts whole) (list_blocks db scopes list ++ condition_blocks db scopes having)
    pub is_grouped : IsGrouped whole → grouped ≡ true
    pub group_columns : grouped ≡ true → columns ≡ map (λ g. own_column (resolve scopes g)) groups
    pub having_condition : IsConditionIn having
    pub values : AnyOf (λ e. IsTrue (is_condition e)) (item_values list) → ⊥
    pub no_star : grouped ≡ true → list ≢ Asterisk
    pub own_groups : AnyOf (λ reference. IsNotOwn db scopes (resolve scopes reference)) groups → ⊥
    pub few_groups : length groups ≤ most_group_columns
    pub few_items : item_count list ≤ most_items

  module _ (grouped : Bool) (columns : List BlockColumn) (m n : ℕ) (h : IsJudged grouped columns m n) where
    no_function : AnyOf (λ e. IsTrue (is_function e)) (where_parts whole) → ⊥
    no_function a = h.where_clean MisplacedFunction (judged.part MisplacedFunction (any_map _ _ (λ e x. judged.misplaced_function refl x) (where_parts whole) a))

    in_argument : (P : Expr → Type 0) (r : Refusal) → ((e : Expr) → P e → PartFaulty db scopes InArgument e r) → AnyOf P (flat_map argument_parts (shown_parts whole)) → ⊥
    in_argument P r f a = h.shown_clean r (judged.argument r refl (any_map P _ f (flat_map argument_parts (shown_parts whole)) a))

    in_part : (P : Expr → Type 0) (r : Refusal) → ((place : ClauseKind) (e : Expr) → P e → PartFaulty db scopes place e r) → AnyOf P (all_parts whole) → ⊥
    in_part P r f = none_of_all P (where_parts whole) (shown_parts whole) no_function
        (λ a. h.where_clean r (judged.part r (any_map P _ (f InWhere) (where_parts whole) a)))
        (λ a. h.shown_clean r (judged.part r (any_map P _ (f (InShown grouped columns)) (shown_parts whole) a)))
        (in_argument P r (f InArgument))

    not_ungrouped : grouped ≡ true → AnyOf (IsUngrouped scopes groups) (shown_parts whole) → ⊥
    not_ungrouped g a = h.shown_clean UngroupedColumn (judged.part UngroupedColumn (any_map _ _
        (λ e x. judged.ungrouped (map (λ g. own_column (resolve scopes g)) groups) (ap₂ InShown g (h.group_columns g)) (ungrouped_in db scopes groups e x))
        (shown_parts whole) a))

    pub not_faulty : (r : Refusal) → BlockFaulty db placed r → ⊥
    not_faulty _ (fault.name_twice x) = x h.names
    not_faulty _ (fault.no_table x) = all_there db sources (first_true _ _ (first_true (is_whole (scope_of db sources)) _ h.there)) x
    not_faulty _ (fault.too_fine t x) = in_part (IsTooFine db scopes) ScaleTooGreat (λ place e y. judged.too_fine y) x
    not_faulty _ (fault.no_column t x) = in_part (NamesNoColumn db scopes) UnknownColumn (λ place e y. judged.no_column y) x
    not_faulty _ (fault.group_not_own t x) = h.own_groups x
    not_faulty _ (fault.mixed_kinds t x) = in_part (MixesKinds db scopes) MixedKinds (λ place e y. judged.mixed_kinds y) x
    not_faulty _ (fault.wrong_operand x) = in_part (λ e. IsFalse (takes_right e)) MisplacedCondition (λ place e y. judged.wrong_operand y) x
    not_faulty _ (fault.wrong_condition x) = elim (any_split _ (condition_values where') (condition_values having) x) [ inl y ↦ no_value where' h.where_condition y | inr y ↦ no_value having h.having_condition y ]
    not_faulty _ (fault.wrong_value x) = h.values x
    not_faulty _ (fault.function_in_where x) = no_function x
    not_faulty _ (fault.function_in_function x) =
        none_of_arguments _ (where_parts whole) (shown_parts whole) no_function (in_argument _ MisplacedFunction (λ e y. judged.misplaced_function refl y)) x
    not_faulty _ (fault.outer_in_function t x) =
        none_of_arguments _ (where_parts whole) (shown_parts whole) no_function (in_argument _ MisplacedFunction (λ e y. judged.outer_column refl y)) x
    not_faulty _ (fault.ungrouped t few g x) = not_ungrouped (h.is_grouped g) x
    not_faulty _ (fault.star_of_groups g x) = h.no_star (h.is_grouped g) x
    not_faulty _ (fault.many_tables x) = absurd (let k = h.tables in omega (arith, k, x))
    not_faulty _ (fault.many_conjuncts x) = not_many where' h.conjuncts x
    not_faulty _ (fault.many_members x) = in_part HasManyMembers OverQueryLimit (λ place e y. judged.many_members y) x
    not_faulty _ (fault.many_items x) = absurd (let k = h.few_items in omega (arith, k, x))
    not_faulty _ (fault.many_groups x) = absurd (let k = h.few_groups in omega (arith, k, x))
    not_faulty _ (fault.misplaced_query x) = h.shown_clean OverQueryLimit (judged.misplaced refl x)

    -- nor is there one in the blocks inside it
    pub accepted : (r : Refusal) → AnyOf (λ q. BlockFaulty db q r) (block_blocks db outer whole) → ⊥
    accepted r (inl a) = not_faulty r a
    accepted r (inr a) = elim (any_split _ (list_blocks db scopes list ++ condition_blocks db scopes where') (condition_blocks db scopes having) a) [
      | inl x ↦ elim (any_split _ (list_blocks db scopes list) (condition_blocks db scopes where') x) [
        | inl y ↦ h.shown_clean r (judged.inner r (any_left _ (list_blocks db scopes list) (condition_blocks db scopes having) y))
        | inr y ↦ h.where_clean r (judged.inner r y)
      ]
      | inr x ↦ h.shown_clean r (judged.inner r (any_right _ (list_blocks db scopes list) (condition_blocks db scopes having) x))
    ]

  -- ---- and the other way: a fault of a part is one of the block, behind so many blocks

  abbrev pub IsRefused : ℕ → Refusal → Type 0
  IsRefused m r = AnyOf (λ q. BlockFaulty db q r) (block_blocks db outer whole) ⊎ ((most_blocks < m + length (block_blocks db outer whole)) × (r ≡ OverQueryLimit))

  -- of a fault that needs no more than its constructor: the limits, FROM, GROUP BY, a condition among the items, a star
  pub refused : (m : ℕ) (r : Refusal) → BlockFaulty db placed r → IsRefused m r
  refused m r h = inl (inl h)

  pub not_all_there : (m : ℕ) → list_all (λ (t : NamedTable). is_some t.table) (scope_of db sources) ≡ false → IsRefused m NotFound
  not_all_there m h = refused m NotFound (fault.no_table (none_there db sources h))

  pub value_in_where : (m : ℕ) → AnyOf (λ e. IsFalse (is_condition e)) (condition_values where') → IsRefused m MisplacedCondition
  value_in_where m h = refused m MisplacedCondition (fault.wrong_condition (any_left _ (condition_values where') (condition_values having) h))

  pub value_in_having : (m : ℕ) → AnyOf (λ e. IsFalse (is_condition e)) (condition_values having) → IsRefused m MisplacedCondition
  value_in_having m h = refused m MisplacedCondition (fault.wrong_condition (any_right _ (condition_values where') (condition_values having) h))

  module _ (m : ℕ) (there : IsTrue (are_there scopes)) where
    in_arguments : (e : Expr) → IsIn e (flat_map argument_parts (shown_parts whole)) → IsIn e (all_argument_parts whole)
    in_arguments e i = subst (IsIn e) (sym (arguments_of_both (where_parts whole) (shown_parts whole))) (any_right _ (flat_map argument_parts (where_parts whole)) (flat_map argument_parts (shown_parts whole)) i)

    -- a fault of a part, but for those that hang on the place
    of_part : (place : ClauseKind) (e : Expr) → IsIn e (all_parts whole)
        → (IsFalse (takes_functions place) → IsTrue (is_function e) → BlockFaulty db placed MisplacedFunction)
        → (place ≡ InArgument → IsOuterColumn scopes e → BlockFaulty db placed MisplacedFunction)
        → ((columns : List BlockColumn) → place ≡ InShown true columns → IsUngroupedIn db scopes columns e → BlockFaulty db placed UngroupedColumn)
        → (r : Refusal) → PartFaulty db scopes place e r → BlockFaulty db placed r
    of_part place e i f o u _ (judged.too_fine x) = fault.too_fine there (any_at (IsTooFine db scopes) e _ i x)
    of_part place e i f o u _ (judged.no_column x) = fault.no_column there (any_at (NamesNoColumn db scopes) e _ i x)
    of_part place e i f o u _ (judged.mixed_kinds x) = fault.mixed_kinds there (any_at (MixesKinds db scopes) e _ i x)
    of_part place e i f o u _ (judged.wrong_operand x) = fault.wrong_operand (any_at (λ e. IsFalse (takes_right e)) e _ i x)
    of_part place e i f o u _ (judged.many_members x) = fault.many_members (any_at HasManyMembers e _ i x)
    of_part place e i f o u _ (judged.misplaced_function p x) = f p x
    of_part place e i f o u _ (judged.outer_column p x) = o p x
    of_part place e i f o u _ (judged.ungrouped columns p x) = u columns p x

    where_part : (e : Expr) → IsIn e (where_parts whole) → (r : Refusal) → PartFaulty db scopes InWhere e r → BlockFaulty db placed r
    where_part e i = of_part InWhere e (from_first _ (where_parts whole) (shown_parts whole) (all_argument_parts whole) i)
        (λ p x. fault.function_in_where (any_at (λ e. IsTrue (is_function e)) e (where_parts whole) i x))
        (λ p x. absurd cc)
        (λ columns p x. absurd cc)

    pub where_refused : (r : Refusal) → Refuses db scopes InWhere (m + 1) (where_parts whole) (condition_blocks db scopes where') r → IsRefused m r
    where_refused _ (judged.part r a) = let f = found _ (where_parts whole) a in refused m r (where_part f.0 f.1 r f.2)
    where_refused _ (judged.argument r p a) = absurd cc
    where_refused _ (judged.inner r a) = inl (inr (from_second _ (list_blocks db scopes list) (condition_blocks db scopes where') (condition_blocks db scopes having) a))
    where_refused r (judged.misplaced p x) = absurd cc
    where_refused r (judged.many h) = inr (over_where m (list_blocks db scopes list) (condition_blocks db scopes where') (condition_blocks db scopes having) h, refl)

    argument_part : (e : Expr) → IsIn e (flat_map argument_parts (shown_parts whole)) → (r : Refusal) → PartFaulty db scopes InArgument e r → BlockFaulty db placed r
    argument_part e i = of_part InArgument e (any_right _ (where_parts whole ++ shown_parts whole) (all_argument_parts whole) (in_arguments e i))
        (λ p x. fault.function_in_function (any_at (λ e. IsTrue (is_function e)) e _ (in_arguments e i) x))
        (λ p x. fault.outer_in_function there (any_at (IsOuterColumn scopes) e _ (in_arguments e i) x))
        (λ columns p x. absurd cc)

    module _ (grouped : Bool) (columns : List BlockColumn) (is_grouped : grouped ≡ true → IsGrouped whole) (are : grouped ≡ true → columns ≡ map (λ g. own_column (resolve scopes g)) groups) (few : length groups ≤ most_group_columns) where
      shown_part : (e : Expr) → IsIn e (shown_parts whole) → (r : Refusal) → PartFaulty db scopes (InShown grouped columns) e r → BlockFaulty db placed r
      shown_part e i = of_part (InShown grouped columns) e (from_second _ (where_parts whole) (shown_parts whole) (all_argument_parts whole) i)
          (λ p x. absurd cc)
          (λ p x. absurd cc)
          (λ others p x. fault.ungrouped there few (is_grouped (ap grouped_in p)) (any_at (IsUngrouped scopes groups) e (shown_parts whole) i
          (in_ungrouped db scopes groups e (subst (λ xs. IsUngroupedIn db scopes xs e) (sym (ap columns_in p) ∙ are (ap grouped_in p)) x))))

      pub shown_refused : (r : Refusal) → Refuses db scopes (InShown grouped columns) (m + 1 + length (condition_blocks db scopes where')) (shown_parts whole)
          (list_blocks db scopes list ++ condition_blocks db scopes having) r → IsRefused m r
      shown_refused _ (judged.part r a) = let f = found _ (shown_parts whole) a in refused m r (shown_part f.0 f.1 r f.2)
      shown_refused _ (judged.argument r p a) = let f = found _ (flat_map argument_parts (shown_parts whole)) a in refused m r (argument_part f.0 f.1 r f.2)
      shown_refused _ (judged.inner r a) = elim (any_split _ (list_blocks db scopes list) (condition_blocks db scopes having) a) [
        | inl x ↦ inl (inr (from_first _ (list_blocks db scopes list) (condition_blocks db scopes where') (condition_blocks db scopes having) x))
        | inr x ↦ inl (inr (any_right _ (list_blocks db scopes list ++ condition_blocks db scopes where') (condition_blocks db scopes having) x))
      ]
      shown_refused r (judged.misplaced p x) = refused m OverQueryLimit (fault.misplaced_query x)
      shown_refused r (judged.many h) = inr (over_shown m (list_blocks db scopes list) (condition_blocks db scopes where') (condition_blocks db scopes having) h, refl)
