-- What is written through and through is written in each of its parts, and in those of the blocks inside it.
use Rattle.std.proofs.Common.{◌<◌, List, [], ◌∷◌, ◌++◌, map}
use Rattle.std.specs.Prelude.{⊤, flat_map, length}
use Rattle.std.specs.List.{AllByRecursion}
use Rattle.definitions.specs.Statement.{Expr, Column, Numeral, String, Signed, Line, Not, Compare, CompareAll, IsNull, Between, Like, InList, InQuery, Exists, Scalar, CountRows, Function, LineOperands, NoOperand, Operand, Members, NoMember, NullMember, Member, Items, NoItem, AddItem, DerivedColumn, listed, SelectList, Asterisk, Listed, SearchClause, Absent, Present, QuerySpecification, Specification, Select}
use Rattle.definitions.specs.Table.{Database}
use Rattle.definitions.specs.Binding.Scopes.{Scopes, scope_of}
use Rattle.definitions.specs.Binding.Parts.{PlacedBlock, inner_parts, operand_parts, member_parts, parts, item_values, condition_values, placed_blocks_in, placed_operand_blocks, member_blocks, item_blocks, list_blocks, condition_blocks, block_blocks}
use Rattle.definitions.specs.Binding.Faults.{argument_parts, all_parts, where_parts, shown_parts}
use Rattle.definitions.specs.Binding.Formed.{IsWrittenNumeral, IsWrittenString, IsWritten, NamesTables, AreWritten}

abbrev mutual
  pub WrittenExpr : Expr → Type 0
  WrittenExpr (Numeral units digits scale) = IsWrittenNumeral units digits
  WrittenExpr (String codes) = IsWrittenString codes
  WrittenExpr (Signed minus e) = WrittenExpr e
  WrittenExpr (Line first others) = WrittenExpr first × WrittenOperands others
  WrittenExpr (Not e) = WrittenExpr e
  WrittenExpr (Compare op left right) = WrittenExpr left × WrittenExpr right
  WrittenExpr (CompareAll op quantifier e query) = WrittenExpr e × WrittenBlock query
  WrittenExpr (IsNull negated e) = WrittenExpr e
  WrittenExpr (Between negated e low high) = WrittenExpr e × WrittenExpr low × WrittenExpr high
  WrittenExpr (Like negated e pattern) = WrittenExpr e
  WrittenExpr (InList negated e members) = WrittenExpr e × WrittenMembers members
  WrittenExpr (InQuery negated e query) = WrittenExpr e × WrittenBlock query
  WrittenExpr (Exists query) = WrittenBlock query
  WrittenExpr (Scalar query) = WrittenBlock query
  WrittenExpr (Function function distinct argument) = WrittenExpr argument
  WrittenExpr _ = ⊤

  pub WrittenOperands : LineOperands → Type 0
  WrittenOperands NoOperand = ⊤
  WrittenOperands (Operand operator e others) = WrittenExpr e × WrittenOperands others

  pub WrittenMembers : Members → Type 0
  WrittenMembers NoMember = ⊤
  WrittenMembers (NullMember others) = WrittenMembers others
  WrittenMembers (Member e others) = WrittenExpr e × WrittenMembers others

  pub WrittenItems : Items → Type 0
  WrittenItems NoItem = ⊤
  WrittenItems (AddItem value alias others) = WrittenExpr value × WrittenItems others

  pub WrittenList : SelectList → Type 0
  WrittenList Asterisk = ⊤
  WrittenList (Listed items) = WrittenItems items

  pub WrittenCondition : SearchClause → Type 0
  WrittenCondition Absent = ⊤
  WrittenCondition (Present e) = WrittenExpr e

  pub WrittenBlock : QuerySpecification → Type 0
  WrittenBlock (Specification distinct list sources where' groups having) = WrittenList list × WrittenCondition where' × WrittenCondition having × (0 < length sources)

all_both : {X : Type 0} (P : X → Type 0) (xs ys : List X) → AllByRecursion P xs → AllByRecursion P ys → AllByRecursion P (xs ++ ys)
all_both P [] ys h k = k
all_both P (x ∷ xs) ys h k = (h.0, all_both P xs ys h.1 k)

all_of : {X : Type 0} (P Q : X → Type 0) → ((x : X) → P x → Q x) → (xs : List X) → AllByRecursion P xs → AllByRecursion Q xs
all_of P Q f [] h = tt
all_of P Q f (x ∷ xs) h = (f x h.0, all_of P Q f xs h.1)

-- ---- parts

mutual
  inner : (e : Expr) → WrittenExpr e → AllByRecursion WrittenExpr (inner_parts e)
  inner (Signed minus e) w = (w, inner e w)
  inner (Line first others) w = (w.0, all_both WrittenExpr (inner_parts first) (operand_parts others) (inner first w.0) (of_operands others w.1))
  inner (Not e) w = (w, inner e w)
  inner (Compare op left right) w = (w.0, all_both WrittenExpr (inner_parts left) (right ∷ inner_parts right) (inner left w.0) (w.1, inner right w.1))
  inner (CompareAll op quantifier e query) w = (w.0, inner e w.0)
  inner (IsNull negated e) w = (w, inner e w)
  inner (Between negated e low high) w =
      (w.0, all_both WrittenExpr (inner_parts e ++ low ∷ inner_parts low) (high ∷ inner_parts high) (all_both WrittenExpr (inner_parts e) (low ∷ inner_parts low) (inner e w.0) (w.1, inner low w.1)) (w.2, inner high w.2))
  inner (Like negated e pattern) w = (w, inner e w)
  inner (InList negated e members) w = (w.0, all_both WrittenExpr (inner_parts e) (member_parts members) (inner e w.0) (of_members members w.1))
  inner (InQuery negated e query) w = (w.0, inner e w.0)
  inner (Exists query) w = tt
  inner (Scalar query) w = tt
  inner CountRows w = tt
  inner (Function function distinct argument) w = tt
  inner (Column reference) w = tt
  inner (Numeral units digits scale) w = tt
  inner (String codes) w = tt

  of_operands : (others : LineOperands) → WrittenOperands others → AllByRecursion WrittenExpr (operand_parts others)
  of_operands NoOperand w = tt
  of_operands (Operand operator e others) w = (w.0, all_both WrittenExpr (inner_parts e) (operand_parts others) (inner e w.0) (of_operands others w.1))

  of_members : (members : Members) → WrittenMembers members → AllByRecursion WrittenExpr (member_parts members)
  of_members NoMember w = tt
  of_members (NullMember others) w = of_members others w
  of_members (Member e others) w = (w.0, all_both WrittenExpr (inner_parts e) (member_parts others) (inner e w.0) (of_members others w.1))

parts_of_all : (es : List Expr) → AllByRecursion WrittenExpr es → AllByRecursion WrittenExpr (flat_map parts es)
parts_of_all [] w = tt
parts_of_all (e ∷ es) w = all_both WrittenExpr (parts e) (flat_map parts es) (w.0, inner e w.0) (parts_of_all es w.1)

arguments_of_all : (es : List Expr) → AllByRecursion WrittenExpr es → AllByRecursion WrittenExpr (flat_map argument_parts es)
arguments_of_all [] w = tt
arguments_of_all (e ∷ es) w = all_both WrittenExpr (argument_parts e) (flat_map argument_parts es) (argument_of e w.0) (arguments_of_all es w.1)
  where
    argument_of : (e : Expr) → WrittenExpr e → AllByRecursion WrittenExpr (argument_parts e)
    argument_of (Function function distinct argument) w = (w, inner argument w)
    argument_of _ w = tt

literal : (e : Expr) → WrittenExpr e → IsWritten e
literal (Numeral units digits scale) w = w
literal (String codes) w = w
literal _ w = tt

-- ---- blocks

values_of_items : (items : Items) → WrittenItems items → AllByRecursion WrittenExpr (map (λ (i : DerivedColumn). i.value) (listed items))
values_of_items NoItem w = tt
values_of_items (AddItem value alias others) w = (w.0, values_of_items others w.1)

values_of_list : (list : SelectList) → WrittenList list → AllByRecursion WrittenExpr (item_values list)
values_of_list Asterisk w = tt
values_of_list (Listed items) w = values_of_items items w

values_of_condition : (c : SearchClause) → WrittenCondition c → AllByRecursion WrittenExpr (condition_values c)
values_of_condition Absent w = tt
values_of_condition (Present e) w = (w, tt)

abbrev IsWrittenBlock : PlacedBlock → Type 0
IsWrittenBlock p = AllByRecursion IsWritten (all_parts p.block) × NamesTables p.block

block_itself : (block : QuerySpecification) → WrittenBlock block → AllByRecursion IsWritten (all_parts block) × NamesTables block
block_itself (Specification distinct list sources where' groups having) w =
    let block : QuerySpecification = Specification distinct list sources where' groups having in
    let in_where = parts_of_all (condition_values where') (values_of_condition where' w.1) in
    let in_shown = parts_of_all (item_values list ++ condition_values having) (all_both WrittenExpr (item_values list) (condition_values having) (values_of_list list w.0) (values_of_condition having w.2)) in
    let both = all_both WrittenExpr (where_parts block) (shown_parts block) in_where in_shown in
    (all_of WrittenExpr IsWritten literal (all_parts block) (all_both WrittenExpr (where_parts block ++ shown_parts block) (flat_map argument_parts (where_parts block ++ shown_parts block)) both (arguments_of_all (where_parts block ++ shown_parts block) both)), w.3)

module _ (db : Database) where
  mutual
    in_expr : (scopes : Scopes) (e : Expr) → WrittenExpr e → AllByRecursion IsWrittenBlock (placed_blocks_in db scopes e)
    in_expr scopes (Signed minus e) w = in_expr scopes e w
    in_expr scopes (Line first others) w = all_both IsWrittenBlock (placed_blocks_in db scopes first) (placed_operand_blocks db scopes others) (in_expr scopes first w.0) (in_operands scopes others w.1)
    in_expr scopes (Not e) w = in_expr scopes e w
    in_expr scopes (Compare op left right) w = all_both IsWrittenBlock (placed_blocks_in db scopes left) (placed_blocks_in db scopes right) (in_expr scopes left w.0) (in_expr scopes right w.1)
    in_expr scopes (CompareAll op quantifier e query) w = all_both IsWrittenBlock (placed_blocks_in db scopes e) (block_blocks db scopes query) (in_expr scopes e w.0) (in_block scopes query w.1)
    in_expr scopes (IsNull negated e) w = in_expr scopes e w
    in_expr scopes (Between negated e low high) w =
        all_both IsWrittenBlock (placed_blocks_in db scopes e ++ placed_blocks_in db scopes low) (placed_blocks_in db scopes high) (all_both IsWrittenBlock (placed_blocks_in db scopes e) (placed_blocks_in db scopes low) (in_expr scopes e w.0) (in_expr scopes low w.1)) (in_expr scopes high w.2)
    in_expr scopes (Like negated e pattern) w = in_expr scopes e w
    in_expr scopes (InList negated e members) w = all_both IsWrittenBlock (placed_blocks_in db scopes e) (member_blocks db scopes members) (in_expr scopes e w.0) (in_members scopes members w.1)
    in_expr scopes (InQuery negated e query) w = all_both IsWrittenBlock (placed_blocks_in db scopes e) (block_blocks db scopes query) (in_expr scopes e w.0) (in_block scopes query w.1)
    in_expr scopes (Exists query) w = in_block scopes query w
    in_expr scopes (Scalar query) w = in_block scopes query w
    in_expr scopes (Function function distinct argument) w = in_expr scopes argument w
    in_expr scopes CountRows w = tt
    in_expr scopes (Column reference) w = tt
    in_expr scopes (Numeral units digits scale) w = tt
    in_expr scopes (String codes) w = tt

    in_operands : (scopes : Scopes) (others : LineOperands) → WrittenOperands others → AllByRecursion IsWrittenBlock (placed_operand_blocks db scopes others)
    in_operands scopes NoOperand w = tt
    in_operands scopes (Operand operator e others) w = all_both IsWrittenBlock (placed_blocks_in db scopes e) (placed_operand_blocks db scopes others) (in_expr scopes e w.0) (in_operands scopes others w.1)

    in_members : (scopes : Scopes) (members : Members) → WrittenMembers members → AllByRecursion IsWrittenBlock (member_blocks db scopes members)
    in_members scopes NoMember w = tt
    in_members scopes (NullMember others) w = in_members scopes others w
    in_members scopes (Member e others) w = all_both IsWrittenBlock (placed_blocks_in db scopes e) (member_blocks db scopes others) (in_expr scopes e w.0) (in_members scopes others w.1)

    in_items : (scopes : Scopes) (items : Items) → WrittenItems items → AllByRecursion IsWrittenBlock (item_blocks db scopes items)
    in_items scopes NoItem w = tt
    in_items scopes (AddItem value alias others) w = all_both IsWrittenBlock (placed_blocks_in db scopes value) (item_blocks db scopes others) (in_expr scopes value w.0) (in_items scopes others w.1)

    in_list : (scopes : Scopes) (list : SelectList) → WrittenList list → AllByRecursion IsWrittenBlock (list_blocks db scopes list)
    in_list scopes Asterisk w = tt
    in_list scopes (Listed items) w = in_items scopes items w

    in_condition : (scopes : Scopes) (c : SearchClause) → WrittenCondition c → AllByRecursion IsWrittenBlock (condition_blocks db scopes c)
    in_condition scopes Absent w = tt
    in_condition scopes (Present e) w = in_expr scopes e w

    in_block : (outer : Scopes) (block : QuerySpecification) → WrittenBlock block → AllByRecursion IsWrittenBlock (block_blocks db outer block)
    in_block outer (Specification distinct list sources where' groups having) w =
        let scopes : Scopes = scope_of db sources ∷ outer in (
          block_itself (Specification distinct list sources where' groups having) w,
          all_both IsWrittenBlock (list_blocks db scopes list ++ condition_blocks db scopes where') (condition_blocks db scopes having)
              (all_both IsWrittenBlock (list_blocks db scopes list) (condition_blocks db scopes where') (in_list scopes list w.0) (in_condition scopes where' w.1)) (in_condition scopes having w.2),
        )

pub written_query : (db : Database) (q : Select) → WrittenBlock q.block → AreWritten db q
written_query db q w = in_block db [] q.block w
