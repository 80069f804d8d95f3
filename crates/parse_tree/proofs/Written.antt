-- The literals of these trees are as they can be written, through and through.
use Rattle.std.proofs.Common.{ℕ, ◌<◌, Bool, subst, List, [], ◌∷◌, map, length, Option, Some, None, arith}
use Rattle.std.proofs.lemmas.List.{length-map}
use Rattle.std.specs.Prelude.{⊤}
use Rattle.definitions.specs.Statement as spec
use Rattle.definitions.specs.Grammar.{operands, member_list, items}
use Rattle.definitions.proofs.WrittenParts.{WrittenExpr, WrittenOperands, WrittenMembers, WrittenItems, WrittenList, WrittenBlock}
use Rattle.parse_tree.specs.Trees.{OperandTree, source_of, expr_of, list_of, block_of, item_of, operand_of, expr_layer, list_layer, block_layer, item_layer, operand_layer}
use Rattle.parse_tree.specs.declared.expr.Expr.{Expr}
use Rattle.parse_tree.specs.declared.expr.Expr.TheOpen as o
use Rattle.parse_tree.specs.declared.expr.Expr.TheOpen.{Expr-F, SelectList-F, Block-F}
use Rattle.parse_tree.specs.declared.expr.Expr.TheFolds as folds
use Rattle.parse_tree.specs.declared.expr.SelectList.{SelectList}
use Rattle.parse_tree.specs.declared.expr.Block.{Block}
use Rattle.parse_tree.specs.declared.expr.Item.{Item}
use Rattle.parse_tree.specs.declared.expr.Operand.{Operand}
use Rattle.parse_tree.specs.declared.expr.Sources.{Sources}

abbrev PE : Expr → Type 0
PE e = WrittenExpr (expr_of e)

abbrev PL : SelectList → Type 0
PL l = WrittenList (list_of l)

abbrev PB : Block → Type 0
PB b = WrittenBlock (block_of b)

abbrev PI : Item → Type 0
PI i = WrittenExpr (item_of i).value

abbrev PO : Operand → Type 0
PO x = WrittenExpr (operand_of x).1

abbrev SE : Type 0
SE = (e : Expr) × PE e

abbrev SL : Type 0
SL = (l : SelectList) × PL l

abbrev SB : Type 0
SB = (b : Block) × PB b

abbrev SI : Type 0
SI = (i : Item) × PI i

abbrev SO : Type 0
SO = (x : Operand) × PO x

-- ---- lists of parts

of_operands : (xs : List SO) → WrittenOperands (operands (map operand_of (map (λ (s : SO). s.0) xs)))
of_operands [] = tt
of_operands (x ∷ xs) = (x.1, of_operands xs)

of_items : (xs : List SI) → WrittenItems (items (map item_of (map (λ (s : SI). s.0) xs)))
of_items [] = tt
of_items (x ∷ xs) = (x.1, of_items xs)

abbrev WrittenMember : Option spec.Expr → Type 0
WrittenMember None = ⊤
WrittenMember (Some e) = WrittenExpr e

with_member : (m : Option spec.Expr) (ms : List (Option spec.Expr)) → WrittenMember m → WrittenMembers (member_list ms) → WrittenMembers (member_list (m ∷ ms))
with_member None ms w ws = ws
with_member (Some e) ms w ws = (w, ws)

of_members : (g : Option SE → Option Expr) (f : Option Expr → Option spec.Expr) → ((x : Option SE) → WrittenMember (f (g x))) → (xs : List (Option SE)) → WrittenMembers (member_list (map f (map g xs)))
of_members g f h [] = tt
of_members g f h (x ∷ xs) = with_member (f (g x)) (map f (map g xs)) (h x) (of_members g f h xs)

-- ---- one layer of each, over parts with their proofs

abbrev expr_parts : Expr-F SE SL SB SI SO → Expr-F Expr SelectList Block Item Operand
expr_parts y = folds.map-Expr SE SL SB SI SO Expr SelectList Block Item Operand (λ s. s.0) (λ s. s.0) (λ s. s.0) (λ s. s.0) (λ s. s.0) y

abbrev expr_meaning : Expr-F Expr SelectList Block Item Operand → spec.Expr
expr_meaning x = expr_layer (folds.map-Expr Expr SelectList Block Item Operand spec.Expr spec.SelectList spec.QuerySpecification spec.DerivedColumn OperandTree expr_of list_of block_of item_of operand_of x)

expr_step : (y : Expr-F SE SL SB SI SO) → WrittenExpr (expr_meaning (expr_parts y))
expr_step (o.Column r) = tt
expr_step (o.Numeral n) = n.written
expr_step (o.String t) = t.written
expr_step (o.Signed p m a) = a.value.1
expr_step (o.Line first others) = (first.value.1, of_operands others.items)
expr_step (o.Not p a) = a.value.1
expr_step (o.Compare p op a b) = (a.value.1, b.value.1)
expr_step (o.CompareAll p op q a b) = (a.value.1, b.value.1)
expr_step (o.IsNull p n a) = a.value.1
expr_step (o.Between p n a b c) = (a.value.1, b.value.1, c.value.1)
expr_step (o.Like p n a t) = a.value.1
expr_step (o.InList p n a xs) = (a.value.1, of_members _ _ (elim [ None ↦ tt | Some x ↦ x.1 ]) xs.items)
expr_step (o.InQuery p n a b) = (a.value.1, b.value.1)
expr_step (o.Exists p b) = b.value.1
expr_step (o.Scalar p b) = b.value.1
expr_step (o.CountRows p) = tt
expr_step (o.Function p g d a) = a.value.1

abbrev list_parts : SelectList-F SE SL SB SI SO → SelectList-F Expr SelectList Block Item Operand
list_parts y = folds.map-SelectList SE SL SB SI SO Expr SelectList Block Item Operand (λ s. s.0) (λ s. s.0) (λ s. s.0) (λ s. s.0) (λ s. s.0) y

abbrev list_meaning : SelectList-F Expr SelectList Block Item Operand → spec.SelectList
list_meaning x = list_layer (folds.map-SelectList Expr SelectList Block Item Operand spec.Expr spec.SelectList spec.QuerySpecification spec.DerivedColumn OperandTree expr_of list_of block_of item_of operand_of x)

list_step : (y : SelectList-F SE SL SB SI SO) → WrittenList (list_meaning (list_parts y))
list_step (o.Asterisk p) = tt
list_step (o.Items xs) = of_items xs.items

abbrev block_parts : Block-F SE SL SB SI SO → Block-F Expr SelectList Block Item Operand
block_parts y = folds.map-Block SE SL SB SI SO Expr SelectList Block Item Operand (λ s. s.0) (λ s. s.0) (λ s. s.0) (λ s. s.0) (λ s. s.0) y

abbrev block_meaning : Block-F Expr SelectList Block Item Operand → spec.QuerySpecification
block_meaning x = block_layer (folds.map-Block Expr SelectList Block Item Operand spec.Expr spec.SelectList spec.QuerySpecification spec.DerivedColumn OperandTree expr_of list_of block_of item_of operand_of x)

-- as many tables as there are trees of them
some_tables : (sources : Sources) → 0 < length (map source_of sources.tables.items)
some_tables sources = let named = sources.some in omega (arith, named, length-map sources.tables.items source_of)

clauses : (start : ℕ) (distinct : Bool) (list : SL) (sources : Sources) (condition : Option SE) (groups : _) (having : Option SE)
    → WrittenBlock (block_meaning (block_parts (record { start = start; distinct = distinct; list = list; sources = sources; condition = condition; groups = groups; having = having })))
clauses start distinct list sources None groups None = (list.1, tt, tt, some_tables sources)
clauses start distinct list sources None groups (Some h) = (list.1, tt, h.1, some_tables sources)
clauses start distinct list sources (Some c) groups None = (list.1, c.1, tt, some_tables sources)
clauses start distinct list sources (Some c) groups (Some h) = (list.1, c.1, h.1, some_tables sources)

block_step : (y : Block-F SE SL SB SI SO) → WrittenBlock (block_meaning (block_parts y))
block_step y = clauses y.start y.distinct y.list y.sources y.condition y.groups y.having

-- ---- all trees

pub written_block : (b : Block) → WrittenBlock (block_of b)
written_block b = folds.ind-Block PE PL PB PI PO
    (λ x y is. rw (folds.fold-roll-Expr spec.Expr spec.SelectList spec.QuerySpecification spec.DerivedColumn OperandTree expr_layer list_layer block_layer item_layer operand_layer x) (subst (λ z. WrittenExpr (expr_meaning z)) is (expr_step y)))
    (λ x y is. rw (folds.fold-roll-SelectList spec.Expr spec.SelectList spec.QuerySpecification spec.DerivedColumn OperandTree expr_layer list_layer block_layer item_layer operand_layer x) (subst (λ z. WrittenList (list_meaning z)) is (list_step y)))
    (λ x y is. rw (folds.fold-roll-Block spec.Expr spec.SelectList spec.QuerySpecification spec.DerivedColumn OperandTree expr_layer list_layer block_layer item_layer operand_layer x) (subst (λ z. WrittenBlock (block_meaning z)) is (block_step y)))
    (λ x y is. rw (folds.fold-roll-Item spec.Expr spec.SelectList spec.QuerySpecification spec.DerivedColumn OperandTree expr_layer list_layer block_layer item_layer operand_layer x) (subst (λ z. WrittenExpr (item_layer (folds.map-Item Expr SelectList Block Item Operand spec.Expr spec.SelectList spec.QuerySpecification spec.DerivedColumn OperandTree expr_of list_of block_of item_of operand_of z)).value) is y.value.1))
    (λ x y is. rw (folds.fold-roll-Operand spec.Expr spec.SelectList spec.QuerySpecification spec.DerivedColumn OperandTree expr_layer list_layer block_layer item_layer operand_layer x) (subst (λ z. WrittenExpr (operand_layer (folds.map-Operand Expr SelectList Block Item Operand spec.Expr spec.SelectList spec.QuerySpecification spec.DerivedColumn OperandTree expr_of list_of block_of item_of operand_of z)).1) is y.value.1))
    b
