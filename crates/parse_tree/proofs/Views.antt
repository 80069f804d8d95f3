-- What the trees of this crate stand for, variant by variant.
use Rattle.std.proofs.Common.{◌≡◌, ◌∙◌, refl, sym, ap, ap₂, ℕ, List, [], ◌∷◌, map, Bool, Option, Some, None, option_map}
use Rattle.definitions.specs.Statement as spec
use Rattle.definitions.specs.Grammar.{operands, member_list, items}
use Rattle.sqlvalue.specs.Meaning.{op_of}
use Rattle.parse_tree.specs.Trees.{OperandTree, expr_of, list_of, block_of, item_of, operand_of, member_of, condition_of, column_of, source_of, name_of, numeral_of, operator_of, quantifier_of, function_of, text_of, expr_layer, list_layer, block_layer, item_layer, operand_layer}
use Rattle.parse_tree.specs.declared.expr.Expr.{Expr}
use Rattle.parse_tree.specs.declared.expr.Expr as e
use Rattle.parse_tree.specs.declared.expr.Expr.TheViews as v
use Rattle.parse_tree.specs.declared.expr.Expr.TheVariants as w
use Rattle.parse_tree.specs.declared.expr.Expr.TheOpen as o
use Rattle.parse_tree.specs.declared.expr.Expr.TheFolds as folds
use Rattle.parse_tree.specs.declared.expr.SelectList.TheVariants as o'
use Rattle.parse_tree.specs.declared.expr.Block.{Block}
use Rattle.parse_tree.specs.declared.expr.Item.{Item}
use Rattle.parse_tree.specs.declared.expr.Operand.{Operand}

-- ---- expressions

pub of_column : (r : _) → expr_of (e.Column r) ≡ spec.Column (column_of r)
of_column r = ap expr_of (sym (w.rolls-Column r)) ∙ folds.fold-roll-Expr spec.Expr spec.SelectList spec.QuerySpecification spec.DerivedColumn OperandTree expr_layer list_layer block_layer item_layer operand_layer (o.Column r)

pub of_numeral : (n : _) → expr_of (e.Numeral n) ≡ numeral_of n
of_numeral n = ap expr_of (sym (w.rolls-Numeral n)) ∙ folds.fold-roll-Expr spec.Expr spec.SelectList spec.QuerySpecification spec.DerivedColumn OperandTree expr_layer list_layer block_layer item_layer operand_layer (o.Numeral n)

pub of_string : (t : _) → expr_of (e.String t) ≡ spec.String (text_of t)
of_string t = ap expr_of (sym (w.rolls-String t)) ∙ folds.fold-roll-Expr spec.Expr spec.SelectList spec.QuerySpecification spec.DerivedColumn OperandTree expr_layer list_layer block_layer item_layer operand_layer (o.String t)

pub of_signed : (p m a : _) → expr_of (v.Signed p m a) ≡ spec.Signed m (expr_of a.value)
of_signed p m a = ap expr_of (sym (w.rolls-Signed p m a)) ∙ folds.fold-roll-Expr spec.Expr spec.SelectList spec.QuerySpecification spec.DerivedColumn OperandTree expr_layer list_layer block_layer item_layer operand_layer (o.Signed p m a)

pub of_not : (p a : _) → expr_of (v.Not p a) ≡ spec.Not (expr_of a.value)
of_not p a = ap expr_of (sym (w.rolls-Not p a)) ∙ folds.fold-roll-Expr spec.Expr spec.SelectList spec.QuerySpecification spec.DerivedColumn OperandTree expr_layer list_layer block_layer item_layer operand_layer (o.Not p a)

pub of_compare : (p c a b : _) → expr_of (v.Compare p c a b) ≡ spec.Compare (op_of c) (expr_of a.value) (expr_of b.value)
of_compare p c a b = ap expr_of (sym (w.rolls-Compare p c a b)) ∙ folds.fold-roll-Expr spec.Expr spec.SelectList spec.QuerySpecification spec.DerivedColumn OperandTree expr_layer list_layer block_layer item_layer operand_layer (o.Compare p c a b)

pub of_compare_all : (p c q a b : _) → expr_of (v.CompareAll p c q a b) ≡ spec.CompareAll (op_of c) (quantifier_of q) (expr_of a.value) (block_of b.value)
of_compare_all p c q a b = ap expr_of (sym (w.rolls-CompareAll p c q a b)) ∙ folds.fold-roll-Expr spec.Expr spec.SelectList spec.QuerySpecification spec.DerivedColumn OperandTree expr_layer list_layer block_layer item_layer operand_layer (o.CompareAll p c q a b)

pub of_is_null : (p n a : _) → expr_of (v.IsNull p n a) ≡ spec.IsNull n (expr_of a.value)
of_is_null p n a = ap expr_of (sym (w.rolls-IsNull p n a)) ∙ folds.fold-roll-Expr spec.Expr spec.SelectList spec.QuerySpecification spec.DerivedColumn OperandTree expr_layer list_layer block_layer item_layer operand_layer (o.IsNull p n a)

pub of_between : (p n a b c : _) → expr_of (v.Between p n a b c) ≡ spec.Between n (expr_of a.value) (expr_of b.value) (expr_of c.value)
of_between p n a b c = ap expr_of (sym (w.rolls-Between p n a b c)) ∙ folds.fold-roll-Expr spec.Expr spec.SelectList spec.QuerySpecification spec.DerivedColumn OperandTree expr_layer list_layer block_layer item_layer operand_layer (o.Between p n a b c)

pub of_like : (p n a t : _) → expr_of (v.Like p n a t) ≡ spec.Like n (expr_of a.value) (text_of t)
of_like p n a t = ap expr_of (sym (w.rolls-Like p n a t)) ∙ folds.fold-roll-Expr spec.Expr spec.SelectList spec.QuerySpecification spec.DerivedColumn OperandTree expr_layer list_layer block_layer item_layer operand_layer (o.Like p n a t)

pub of_in_query : (p n a b : _) → expr_of (v.InQuery p n a b) ≡ spec.InQuery n (expr_of a.value) (block_of b.value)
of_in_query p n a b = ap expr_of (sym (w.rolls-InQuery p n a b)) ∙ folds.fold-roll-Expr spec.Expr spec.SelectList spec.QuerySpecification spec.DerivedColumn OperandTree expr_layer list_layer block_layer item_layer operand_layer (o.InQuery p n a b)

pub of_exists : (p b : _) → expr_of (v.Exists p b) ≡ spec.Exists (block_of b.value)
of_exists p b = ap expr_of (sym (w.rolls-Exists p b)) ∙ folds.fold-roll-Expr spec.Expr spec.SelectList spec.QuerySpecification spec.DerivedColumn OperandTree expr_layer list_layer block_layer item_layer operand_layer (o.Exists p b)

pub of_scalar : (p b : _) → expr_of (v.Scalar p b) ≡ spec.Scalar (block_of b.value)
of_scalar p b = ap expr_of (sym (w.rolls-Scalar p b)) ∙ folds.fold-roll-Expr spec.Expr spec.SelectList spec.QuerySpecification spec.DerivedColumn OperandTree expr_layer list_layer block_layer item_layer operand_layer (o.Scalar p b)

pub of_count_rows : (p : _) → expr_of (e.CountRows p) ≡ spec.CountRows
of_count_rows p = ap expr_of (sym (w.rolls-CountRows p)) ∙ folds.fold-roll-Expr spec.Expr spec.SelectList spec.QuerySpecification spec.DerivedColumn OperandTree expr_layer list_layer block_layer item_layer operand_layer (o.CountRows p)

pub of_function : (p g d a : _) → expr_of (v.Function p g d a) ≡ spec.Function (function_of g) d (expr_of a.value)
of_function p g d a = ap expr_of (sym (w.rolls-Function p g d a)) ∙ folds.fold-roll-Expr spec.Expr spec.SelectList spec.QuerySpecification spec.DerivedColumn OperandTree expr_layer list_layer block_layer item_layer operand_layer (o.Function p g d a)

map_same : {A B : Type 0} (f h : A → B) → ((x : A) → f x ≡ h x) → (xs : List A) → map f xs ≡ map h xs
map_same f h e [] = refl
map_same f h e (x ∷ xs) = ap₂ ◌∷◌ (e x) (map_same f h e xs)

pub of_in_list : (p n a xs : _) → expr_of (v.InList p n a xs) ≡ spec.InList n (expr_of a.value) (member_list (map member_of xs.items))
of_in_list p n a xs = ap expr_of (sym (w.rolls-InList p n a xs)) ∙ folds.fold-roll-Expr spec.Expr spec.SelectList spec.QuerySpecification spec.DerivedColumn OperandTree expr_layer list_layer block_layer item_layer operand_layer (o.InList p n a xs) ∙ ap (λ ys. spec.InList n (expr_of a.value) (member_list ys)) (map_same _ member_of (elim [ None ↦ refl | Some e ↦ refl ]) xs.items)

pub of_line : (a xs : _) → expr_of (v.Line a xs) ≡ spec.Line (expr_of a.value) (operands (map operand_of xs.items))
of_line a xs = ap expr_of (sym (w.rolls-Line a xs)) ∙ folds.fold-roll-Expr spec.Expr spec.SelectList spec.QuerySpecification spec.DerivedColumn OperandTree expr_layer list_layer block_layer item_layer operand_layer (o.Line a xs)

-- ---- the parts of blocks

pub of_operand : (x : Operand) → operand_of x ≡ (operator_of x.operator, expr_of x.value)
of_operand x = folds.fold_out-Operand spec.Expr spec.SelectList spec.QuerySpecification spec.DerivedColumn OperandTree expr_layer list_layer block_layer item_layer operand_layer x ∙ ap (λ z. operand_layer (folds.map-Operand _ _ _ _ _ _ _ _ _ _ expr_of list_of block_of item_of operand_of z)) (v.outs-struct-Operand x)

pub of_item : (x : Item) → item_of x ≡ record { value = expr_of x.value; alias = option_map name_of x.alias }
of_item x = folds.fold_out-Item spec.Expr spec.SelectList spec.QuerySpecification spec.DerivedColumn OperandTree expr_layer list_layer block_layer item_layer operand_layer x ∙ ap (λ z. item_layer (folds.map-Item _ _ _ _ _ _ _ _ _ _ expr_of list_of block_of item_of operand_of z)) (v.outs-struct-Item x)

pub of_asterisk : (p : _) → list_of (o'.Asterisk p) ≡ spec.Asterisk
of_asterisk p = ap list_of (sym (v.rolls-Asterisk p)) ∙ folds.fold-roll-SelectList spec.Expr spec.SelectList spec.QuerySpecification spec.DerivedColumn OperandTree expr_layer list_layer block_layer item_layer operand_layer (o.Asterisk p)

pub of_items : (xs : _) → list_of (v.Items xs) ≡ spec.Listed (items (map item_of xs.items))
of_items xs = ap list_of (sym (v.rolls-Items xs)) ∙ folds.fold-roll-SelectList spec.Expr spec.SelectList spec.QuerySpecification spec.DerivedColumn OperandTree expr_layer list_layer block_layer item_layer operand_layer (o.Items xs)

of_parts : (start : ℕ) (distinct : Bool) (list sources : _) (condition : Option Expr) (groups : _) (having : Option Expr)
    → block_layer (folds.map-Block _ _ _ _ _ _ _ _ _ _ expr_of list_of block_of item_of operand_of (record { start = start; distinct = distinct; list = list; sources = sources; condition = condition; groups = groups; having = having }))
    ≡ spec.Specification distinct (list_of list) (map source_of sources.tables.items) (condition_of condition) (map column_of groups.items) (condition_of having)
of_parts start distinct list sources None groups None = refl
of_parts start distinct list sources None groups (Some h) = refl
of_parts start distinct list sources (Some c) groups None = refl
of_parts start distinct list sources (Some c) groups (Some h) = refl

pub of_block : (b : Block) → block_of b ≡ spec.Specification b.distinct (list_of b.list) (map source_of b.sources.tables.items) (condition_of b.condition) (map column_of b.groups.items) (condition_of b.having)
of_block b =
    folds.fold_out-Block spec.Expr spec.SelectList spec.QuerySpecification spec.DerivedColumn OperandTree expr_layer list_layer block_layer item_layer operand_layer b
    ∙ ap (λ z. block_layer (folds.map-Block _ _ _ _ _ _ _ _ _ _ expr_of list_of block_of item_of operand_of z)) (v.outs-struct-Block b)
    ∙ of_parts b.start b.distinct b.list b.sources b.condition b.groups b.having
