-- The leaves of trees, variant by variant; and the tokens that are leaves or are passed over.
use Rattle.std.proofs.Common.{◌≡◌, ◌∙◌, refl, sym, ap, ap₂, subst, ℕ, zero, suc, List, [], ◌∷◌, ◌++◌, map, length, Bool, true, false, Option, Some, None, option_map, arith, append_assoc, append-nil}
use Rattle.std.specs.Prelude.{drop}
use Rattle.definitions.specs.Statement as spec
use Rattle.definitions.specs.Token.{TokenKind}
use Rattle.definitions.specs.Token as t
use Rattle.definitions.specs.Word as words
use Rattle.definitions.specs.Grammar as g
use Rattle.definitions.specs.Grammar.{op_in, operator_in, sign_in, function_in, quantifier_in, type_word}
use Rattle.lexer.specs.declared.token.Token.{Token}
use Rattle.lexer.specs.Meaning.{kinds_of, token_of, tokens_of}
use Rattle.sqlvalue.specs.Meaning.{op_of}
use Rattle.parse_tree.specs.Trees.{operator_of, function_of}
use Rattle.parse_tree.specs.declared.expr.Expr.{Expr}
use Rattle.parse_tree.specs.declared.expr.Expr as e
use Rattle.parse_tree.specs.declared.expr.Expr.TheViews as v
use Rattle.parse_tree.specs.declared.expr.Expr.TheVariants as w
use Rattle.parse_tree.specs.declared.expr.Expr.TheOpen as o
use Rattle.parse_tree.specs.declared.expr.Expr.TheFolds as folds
use Rattle.parse_tree.specs.declared.expr.SelectList.TheVariants as o'
use Rattle.parse_tree.specs.declared.expr.Block.{Block}
use Rattle.parse_tree.specs.declared.expr.Item.{Item}
use Rattle.parse_tree.specs.declared.expr.Operand.{Operand}
use Rattle.syntax_cursor.specs.Places.{Leaf, Placed, Reserved, Mark, Stand, Stands, one, if_there, leaf_in, has_leaf, beside, left_at, placed_of, name_leaves, numeral_leaves, string_leaves}
use Rattle.syntax_cursor.specs.Places as s
use Rattle.syntax_cursor.specs.Reading.{Place, Eats, EatsAsterisk, Takes, starts_of}
use Rattle.syntax_cursor.proofs.Places.{stays, past, says_passed}
use Rattle.syntax.specs.Places.{StandsToEnd, sign_leaf, op_leaf, operator_leaf, function_leaf, all, same, reference_leaves, source_leaves, expr_layer, list_layer, block_layer, item_layer, operand_layer, expr_leaves, list_leaves, block_leaves, item_leaves, operand_leaves}

-- ---- lists of parts

all_of : {A B : Type 0} (f : A → List Placed) (h : B → A) (k : B → List Placed) → ((x : B) → f (h x) ≡ k x) → (xs : List B) → all f (map h xs) ≡ all k xs
all_of f h k e [] = refl
all_of f h k e (x ∷ xs) = ap₂ ◌++◌ (e x) (all_of f h k e xs)

pub all_push : {A : Type 0} (f : A → List Placed) (xs : List A) (x : A) → all f (xs ++ x ∷ []) ≡ all f xs ++ f x
all_push f [] x = append-nil (f x)
all_push f (y ∷ ys) x = ap (λ z. f y ++ z) (all_push f ys x) ∙ sym (append_assoc (f y) (all f ys) (f x))

-- those of a first part go before
pub all_behind : {A : Type 0} (before : List Placed) (f : A → List Placed) (xs : List A) (x : A) → before ++ all f (xs ++ x ∷ []) ≡ (before ++ all f xs) ++ f x
all_behind before f xs x = ap (λ z. before ++ z) (all_push f xs x) ∙ sym (append_assoc before (all f xs) (f x))

-- ---- expressions

pub of_column : (r : _) → expr_leaves (e.Column r) ≡ reference_leaves r
of_column r = ap expr_leaves (sym (w.rolls-Column r)) ∙ folds.fold-roll-Expr (List Placed) (List Placed) (List Placed) (List Placed) (List Placed) expr_layer list_layer block_layer item_layer operand_layer (o.Column r)

pub of_numeral : (n : _) → expr_leaves (e.Numeral n) ≡ numeral_leaves n
of_numeral n = ap expr_leaves (sym (w.rolls-Numeral n)) ∙ folds.fold-roll-Expr (List Placed) (List Placed) (List Placed) (List Placed) (List Placed) expr_layer list_layer block_layer item_layer operand_layer (o.Numeral n)

pub of_string : (x : _) → expr_leaves (e.String x) ≡ string_leaves x
of_string x = ap expr_leaves (sym (w.rolls-String x)) ∙ folds.fold-roll-Expr (List Placed) (List Placed) (List Placed) (List Placed) (List Placed) expr_layer list_layer block_layer item_layer operand_layer (o.String x)

pub of_signed : (p m a : _) → expr_leaves (v.Signed p m a) ≡ one (sign_leaf m) p ++ expr_leaves a.value
of_signed p m a = ap expr_leaves (sym (w.rolls-Signed p m a)) ∙ folds.fold-roll-Expr (List Placed) (List Placed) (List Placed) (List Placed) (List Placed) expr_layer list_layer block_layer item_layer operand_layer (o.Signed p m a)

pub of_not : (p a : _) → expr_leaves (v.Not p a) ≡ one (Reserved words.Not) p ++ expr_leaves a.value
of_not p a = ap expr_leaves (sym (w.rolls-Not p a)) ∙ folds.fold-roll-Expr (List Placed) (List Placed) (List Placed) (List Placed) (List Placed) expr_layer list_layer block_layer item_layer operand_layer (o.Not p a)

pub of_compare : (p c a b : _) → expr_leaves (v.Compare p c a b) ≡ (expr_leaves a.value ++ one (op_leaf (op_of c)) p) ++ expr_leaves b.value
of_compare p c a b = ap expr_leaves (sym (w.rolls-Compare p c a b)) ∙ folds.fold-roll-Expr (List Placed) (List Placed) (List Placed) (List Placed) (List Placed) expr_layer list_layer block_layer item_layer operand_layer (o.Compare p c a b)

pub of_compare_all : (p c q a b : _) → expr_leaves (v.CompareAll p c q a b) ≡ (expr_leaves a.value ++ one (op_leaf (op_of c)) p) ++ block_leaves b.value
of_compare_all p c q a b = ap expr_leaves (sym (w.rolls-CompareAll p c q a b)) ∙ folds.fold-roll-Expr (List Placed) (List Placed) (List Placed) (List Placed) (List Placed) expr_layer list_layer block_layer item_layer operand_layer (o.CompareAll p c q a b)

pub of_is_null : (p n a : _) → expr_leaves (v.IsNull p n a) ≡ expr_leaves a.value ++ one (Reserved words.Is) p
of_is_null p n a = ap expr_leaves (sym (w.rolls-IsNull p n a)) ∙ folds.fold-roll-Expr (List Placed) (List Placed) (List Placed) (List Placed) (List Placed) expr_layer list_layer block_layer item_layer operand_layer (o.IsNull p n a)

pub of_between : (p n a b c : _) → expr_leaves (v.Between p n a b c) ≡ ((expr_leaves a.value ++ one (Reserved words.Between) p) ++ expr_leaves b.value) ++ expr_leaves c.value
of_between p n a b c = ap expr_leaves (sym (w.rolls-Between p n a b c)) ∙ folds.fold-roll-Expr (List Placed) (List Placed) (List Placed) (List Placed) (List Placed) expr_layer list_layer block_layer item_layer operand_layer (o.Between p n a b c)

pub of_like : (p n a x : _) → expr_leaves (v.Like p n a x) ≡ (expr_leaves a.value ++ one (Reserved words.Like) p) ++ string_leaves x
of_like p n a x = ap expr_leaves (sym (w.rolls-Like p n a x)) ∙ folds.fold-roll-Expr (List Placed) (List Placed) (List Placed) (List Placed) (List Placed) expr_layer list_layer block_layer item_layer operand_layer (o.Like p n a x)

pub of_in_list : (p n a xs : _) → expr_leaves (v.InList p n a xs) ≡ (expr_leaves a.value ++ one (Reserved words.In) p) ++ all (if_there expr_leaves) xs.items
of_in_list p n a xs = ap expr_leaves (sym (w.rolls-InList p n a xs)) ∙ folds.fold-roll-Expr (List Placed) (List Placed) (List Placed) (List Placed) (List Placed) expr_layer list_layer block_layer item_layer operand_layer (o.InList p n a xs) ∙ ap (λ z. (expr_leaves a.value ++ one (Reserved words.In) p) ++ z) (all_of (if_there same) _ (if_there expr_leaves) (elim [ None ↦ refl | Some x ↦ refl ]) xs.items)

pub of_in_query : (p n a b : _) → expr_leaves (v.InQuery p n a b) ≡ (expr_leaves a.value ++ one (Reserved words.In) p) ++ block_leaves b.value
of_in_query p n a b = ap expr_leaves (sym (w.rolls-InQuery p n a b)) ∙ folds.fold-roll-Expr (List Placed) (List Placed) (List Placed) (List Placed) (List Placed) expr_layer list_layer block_layer item_layer operand_layer (o.InQuery p n a b)

pub of_exists : (p b : _) → expr_leaves (v.Exists p b) ≡ one (Reserved words.Exists) p ++ block_leaves b.value
of_exists p b = ap expr_leaves (sym (w.rolls-Exists p b)) ∙ folds.fold-roll-Expr (List Placed) (List Placed) (List Placed) (List Placed) (List Placed) expr_layer list_layer block_layer item_layer operand_layer (o.Exists p b)

pub of_scalar : (p b : _) → expr_leaves (v.Scalar p b) ≡ one (Mark t.OpenParen) p ++ block_leaves b.value
of_scalar p b = ap expr_leaves (sym (w.rolls-Scalar p b)) ∙ folds.fold-roll-Expr (List Placed) (List Placed) (List Placed) (List Placed) (List Placed) expr_layer list_layer block_layer item_layer operand_layer (o.Scalar p b)

pub of_count_rows : (p : _) → expr_leaves (e.CountRows p) ≡ one (Reserved words.Count) p
of_count_rows p = ap expr_leaves (sym (w.rolls-CountRows p)) ∙ folds.fold-roll-Expr (List Placed) (List Placed) (List Placed) (List Placed) (List Placed) expr_layer list_layer block_layer item_layer operand_layer (o.CountRows p)

pub of_function : (p f d a : _) → expr_leaves (v.Function p f d a) ≡ one (function_leaf (function_of f)) p ++ expr_leaves a.value
of_function p f d a = ap expr_leaves (sym (w.rolls-Function p f d a)) ∙ folds.fold-roll-Expr (List Placed) (List Placed) (List Placed) (List Placed) (List Placed) expr_layer list_layer block_layer item_layer operand_layer (o.Function p f d a)

pub of_line : (a xs : _) → expr_leaves (v.Line a xs) ≡ expr_leaves a.value ++ all operand_leaves xs.items
of_line a xs = ap expr_leaves (sym (w.rolls-Line a xs)) ∙ folds.fold-roll-Expr (List Placed) (List Placed) (List Placed) (List Placed) (List Placed) expr_layer list_layer block_layer item_layer operand_layer (o.Line a xs) ∙ ap (λ z. expr_leaves a.value ++ z) (all_of same operand_leaves operand_leaves (λ x. refl) xs.items)

-- ---- the parts of blocks

pub of_operand : (x : Operand) → operand_leaves x ≡ one (operator_leaf (operator_of x.operator)) x.start ++ expr_leaves x.value
of_operand x = folds.fold_out-Operand (List Placed) (List Placed) (List Placed) (List Placed) (List Placed) expr_layer list_layer block_layer item_layer operand_layer x ∙ ap (λ z. operand_layer (folds.map-Operand _ _ _ _ _ _ _ _ _ _ expr_leaves list_leaves block_leaves item_leaves operand_leaves z)) (v.outs-struct-Operand x)

pub of_item : (x : Item) → item_leaves x ≡ expr_leaves x.value ++ if_there name_leaves x.alias
of_item x = folds.fold_out-Item (List Placed) (List Placed) (List Placed) (List Placed) (List Placed) expr_layer list_layer block_layer item_layer operand_layer x ∙ ap (λ z. item_layer (folds.map-Item _ _ _ _ _ _ _ _ _ _ expr_leaves list_leaves block_leaves item_leaves operand_leaves z)) (v.outs-struct-Item x)

pub of_asterisk : (p : _) → list_leaves (o'.Asterisk p) ≡ one (Mark t.Asterisk) p
of_asterisk p = ap list_leaves (sym (v.rolls-Asterisk p)) ∙ folds.fold-roll-SelectList (List Placed) (List Placed) (List Placed) (List Placed) (List Placed) expr_layer list_layer block_layer item_layer operand_layer (o.Asterisk p)

pub of_items : (xs : _) → list_leaves (o'.Items xs) ≡ all item_leaves xs.items
of_items xs = ap list_leaves (sym (v.rolls-Items xs)) ∙ folds.fold-roll-SelectList (List Placed) (List Placed) (List Placed) (List Placed) (List Placed) expr_layer list_layer block_layer item_layer operand_layer (o.Items xs) ∙ all_of same item_leaves item_leaves (λ x. refl) xs.items

if_mapped : (condition : Option Expr) → if_there same (option_map expr_leaves condition) ≡ if_there expr_leaves condition
if_mapped None = refl
if_mapped (Some e) = refl

of_parts : (start : ℕ) (distinct : Bool) (list sources : _) (condition : Option Expr) (groups : _) (having : Option Expr)
    → block_layer (folds.map-Block _ _ _ _ _ _ _ _ _ _ expr_leaves list_leaves block_leaves item_leaves operand_leaves (record { start = start; distinct = distinct; list = list; sources = sources; condition = condition; groups = groups; having = having }))
    ≡ ((((one (Reserved words.Select) start ++ list_leaves list) ++ all source_leaves sources.tables.items) ++ if_there expr_leaves condition) ++ all reference_leaves groups.items) ++ if_there expr_leaves having
of_parts start distinct list sources None groups None = refl
of_parts start distinct list sources None groups (Some h) = refl
of_parts start distinct list sources (Some c) groups None = refl
of_parts start distinct list sources (Some c) groups (Some h) = refl

pub of_block : (b : Block) → block_leaves b ≡ ((((one (Reserved words.Select) b.start ++ list_leaves b.list) ++ all source_leaves b.sources.tables.items) ++ if_there expr_leaves b.condition) ++ all reference_leaves b.groups.items) ++ if_there expr_leaves b.having
of_block b =
    folds.fold_out-Block (List Placed) (List Placed) (List Placed) (List Placed) (List Placed) expr_layer list_layer block_layer item_layer operand_layer b
    ∙ ap (λ z. block_layer (folds.map-Block _ _ _ _ _ _ _ _ _ _ expr_leaves list_leaves block_leaves item_leaves operand_leaves z)) (v.outs-struct-Block b)
    ∙ of_parts b.start b.distinct b.list b.sources b.condition b.groups b.having

-- ---- operators

pub op_says : (o : Option TokenKind) (op : spec.ComparisonOperator) → op_in o ≡ Some op → option_map leaf_in o ≡ Some (op_leaf op)
op_says (Some (t.Mark t.Equals)) op e = ap (λ x. option_map op_leaf x) e
op_says (Some (t.Mark t.NotEquals)) op e = ap (λ x. option_map op_leaf x) e
op_says (Some (t.Mark t.LessThan)) op e = ap (λ x. option_map op_leaf x) e
op_says (Some (t.Mark t.GreaterThan)) op e = ap (λ x. option_map op_leaf x) e
op_says (Some (t.Mark t.LessOrEquals)) op e = ap (λ x. option_map op_leaf x) e
op_says (Some (t.Mark t.GreaterOrEquals)) op e = ap (λ x. option_map op_leaf x) e
op_says _ op e = absurd cc

pub operator_says : (kind : g.LineKind) (o : Option TokenKind) (operator : spec.LineOperator) → operator_in kind o ≡ Some operator → option_map leaf_in o ≡ Some (operator_leaf operator)
operator_says g.Disjunction (Some (t.Reserved words.Or)) operator e = ap (λ x. option_map operator_leaf x) e
operator_says g.Conjunction (Some (t.Reserved words.And)) operator e = ap (λ x. option_map operator_leaf x) e
operator_says g.Sum (Some (t.Mark t.Plus)) operator e = ap (λ x. option_map operator_leaf x) e
operator_says g.Sum (Some (t.Mark t.Minus)) operator e = ap (λ x. option_map operator_leaf x) e
operator_says g.Product (Some (t.Mark t.Asterisk)) operator e = ap (λ x. option_map operator_leaf x) e
operator_says g.Product (Some (t.Mark t.Solidus)) operator e = ap (λ x. option_map operator_leaf x) e
operator_says _ _ operator e = absurd cc

pub sign_says : (o : Option TokenKind) (minus : Bool) → sign_in o ≡ Some minus → option_map leaf_in o ≡ Some (sign_leaf minus)
sign_says (Some (t.Mark t.Plus)) minus e = ap (λ x. option_map sign_leaf x) e
sign_says (Some (t.Mark t.Minus)) minus e = ap (λ x. option_map sign_leaf x) e
sign_says _ minus e = absurd cc

pub function_says : (o : Option TokenKind) (f : spec.SetFunction) → function_in o ≡ Some f → option_map leaf_in o ≡ Some (function_leaf f)
function_says (Some (t.Reserved words.Count)) f e = ap (λ x. option_map function_leaf x) e
function_says (Some (t.Reserved words.Sum)) f e = ap (λ x. option_map function_leaf x) e
function_says (Some (t.Reserved words.Avg)) f e = ap (λ x. option_map function_leaf x) e
function_says (Some (t.Reserved words.Min)) f e = ap (λ x. option_map function_leaf x) e
function_says (Some (t.Reserved words.Max)) f e = ap (λ x. option_map function_leaf x) e
function_says _ f e = absurd cc

-- ---- tokens without a leaf

abbrev Passes : {A : Type 0} → (Option TokenKind → Option A) → Type 0
Passes {A} says = (o : Option TokenKind) (a : A) → says o ≡ Some a → (l : Leaf) × (option_map leaf_in o ≡ Some l) × (has_leaf l ≡ false)

pub quantifier_passed : Passes quantifier_in
quantifier_passed (Some (t.Reserved words.All)) a e = (_, refl, refl)
quantifier_passed (Some (t.Reserved words.Any)) a e = (_, refl, refl)
quantifier_passed (Some (t.Reserved words.Some)) a e = (_, refl, refl)
quantifier_passed _ a e = absurd cc

pub sign_passed : Passes sign_in
sign_passed (Some (t.Mark t.Plus)) a e = (_, refl, refl)
sign_passed (Some (t.Mark t.Minus)) a e = (_, refl, refl)
sign_passed _ a e = absurd cc

pub type_word_passed : Passes type_word
type_word_passed (Some (t.Reserved words.Smallint)) a e = (_, refl, refl)
type_word_passed (Some (t.Reserved words.Integer)) a e = (_, refl, refl)
type_word_passed (Some (t.Reserved words.Int)) a e = (_, refl, refl)
type_word_passed (Some (t.Reserved words.Numeric)) a e = (_, refl, refl)
type_word_passed (Some (t.Reserved words.Decimal)) a e = (_, refl, refl)
type_word_passed (Some (t.Reserved words.Dec)) a e = (_, refl, refl)
type_word_passed (Some (t.Reserved words.Char)) a e = (_, refl, refl)
type_word_passed (Some (t.Reserved words.Character)) a e = (_, refl, refl)
type_word_passed _ a e = absurd cc

-- whether or not it stands there
pub maybe_past : {p q x : Place} {xs : List Placed} (kind : TokenKind) (b : Bool) → has_leaf (leaf_in kind) ≡ false → Stands p q xs → Eats kind q x b → Stands p x xs
maybe_past kind true h d at = past h d at
maybe_past kind false h d at = stays d at.1

pub maybe_sign : {p q x : Place} {xs : List Placed} (o : Option Bool) → Stands p q xs → Takes sign_in (λ minus. minus) q x o → Stands p x xs
maybe_sign None d at = stays d at.1
maybe_sign (Some minus) d at = says_passed sign_passed d at

pub asterisk_past : {p q x : Place} {xs : List Placed} (f : spec.SetFunction) (b : Bool) → Stands p q xs → EatsAsterisk f q x b → Stands p x xs
asterisk_past spec.Count b d at = maybe_past _ b refl d at
asterisk_past spec.Sum b d at = stays d at.1
asterisk_past spec.Avg b d at = stays d at.1
asterisk_past spec.Min b d at = stays d at.1
asterisk_past spec.Max b d at = stays d at.1

different : true ≡ false → ⊥
different e = cc

-- only COUNT has an asterisk
pub is_count : (p q : Place) (f : spec.SetFunction) → EatsAsterisk f p q true → function_leaf f ≡ Reserved words.Count
is_count p q spec.Count at = refl
is_count p q spec.Sum at = absurd (different at.0)
is_count p q spec.Avg at = absurd (different at.0)
is_count p q spec.Min at = absurd (different at.0)
is_count p q spec.Max at = absurd (different at.0)

-- a leaf that the tree does not keep
unkept : (n : ℕ) (token : Placed) (a b : List Placed) → has_leaf token.leaf ≡ false → Stand n a (token ∷ []) b → Stand n a [] b
unkept n token a b h d = dropped n a (token ∷ []) b h refl d
  where
    dropped : (n : ℕ) (a xs b : List Placed) → has_leaf token.leaf ≡ false → xs ≡ token ∷ [] → Stand n a xs b → Stand n a [] b
    dropped n a xs b h e (s.none m a' b' f) = absurd cc
    dropped n a xs b h e (s.passed m other a' ys b' k d) = s.passed m other a' [] b' k (dropped m a' ys b' h e d)
    dropped n a xs b h e (s.leaf m other a' ys b' d) = let f : other ≡ token = cc in let k : ys ≡ [] = cc in s.passed m other a' [] b' (ap (λ (z : Placed). has_leaf z.leaf) f ∙ h) (subst (λ z. Stand m a' z b') k d)
    dropped n a xs b h e (s.left_out m others comma a' elements behind ys b' k l f d) = s.left_out m others comma a' elements behind [] b' k l f (dropped others behind ys b' h e d)

pub without_leaf : {p q : Place} {token : Placed} → has_leaf token.leaf ≡ false → Stands p q (token ∷ []) → Stands p q []
without_leaf {p = p} {q = q} {token = token} h d = record { lists = d.lists; noted = d.noted; stand = unkept d.lists token (left_at p) (left_at q) h d.stand }

-- ---- whole scripts

beside_all : (tokens : List Token) → beside (kinds_of tokens) (starts_of tokens) ≡ map placed_of (tokens_of tokens)
beside_all [] = refl
beside_all (x ∷ xs) = ap (λ z. placed_of (token_of x) ∷ z) (beside_all xs)

pub left_at_first : (tokens : List Token) → left_at (record { tokens = kinds_of tokens; starts = starts_of tokens; at = 0; long_lists = 0 }) ≡ map placed_of (tokens_of tokens)
left_at_first tokens = beside_all tokens

none_behind : (kinds : List TokenKind) (starts : List ℕ) (at : ℕ) → at ≡ length kinds → drop at (beside kinds starts) ≡ []
none_behind [] starts zero e = refl
none_behind [] starts (suc at) e = refl
none_behind (k ∷ ks) starts zero e = absurd (omega (arith, e))
none_behind (k ∷ ks) [] (suc at) e = none_behind ks [] at (omega (arith, e))
none_behind (k ∷ ks) (n ∷ ns) (suc at) e = none_behind ks ns at (omega (arith, e))

-- at the end no token is left
pub ended : (from p : Place) (xs : List Placed) → Stands from p xs → p.at ≡ length p.tokens → StandsToEnd from p xs
ended from p xs d e = record { lists = d.lists; noted = d.noted; stand = subst (λ z. Stand d.lists (left_at from) xs z) (none_behind p.tokens p.starts p.at e) d.stand }
