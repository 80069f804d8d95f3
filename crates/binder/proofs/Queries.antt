-- Whole queries: the blocks that are bound, and the order of the outermost.
use Rattle.std.proofs.Common.{◌≡◌, ◌∙◌, refl, sym, ap, ap₂, subst, inl, inr, ℕ, ◌<◌, ◌≤◌, List, [], ◌∷◌, ◌++◌, Option, Some, length, map, slice_set, slice_index_or, Vec, arith}
use Rattle.std.specs.Prelude.{IsTrue, IfSome, IfErr, Result, Err}
use Rattle.std.specs.Global.{Global}
use Rattle.definitions.specs.Limits.{most_keys, most_items}
use Rattle.definitions.specs.Lists.{AnyOf}
use Rattle.definitions.specs.Refusal.{Refusal, OverQueryLimit}
use Rattle.definitions.specs.Statement as t
use Rattle.definitions.specs.Statement.{Name, Asterisk, Listed, Specification, block_sources}
use Rattle.definitions.specs.Table.{Database}
use Rattle.definitions.specs.ValueType.{ValueType}
use Rattle.definitions.specs.Binding.Scopes.{Found, Scopes, scope_of, all_columns, own_scope}
use Rattle.definitions.specs.Binding.Parts.{block_blocks, list_blocks, condition_blocks}
use Rattle.definitions.specs.Binding.BoundForm.{bound_block, bound_blocks, names_of_list, select_items}
use Rattle.definitions.specs.Binding.Faults as fault
use Rattle.definitions.specs.Binding.Faults.{BlockFaulty, QueryFaulty, IsAcceptedQuery, block_is_there, item_count, list_of}
use Rattle.definitions.specs.Queries.BoundBlock as b
use Rattle.query_tree.specs.Bound.{block_of, key_of}
use Rattle.query_tree.specs.declared.block.Block.{Block}
use Rattle.query_tree.specs.declared.block.Key.{Key}
use Rattle.parse_tree.specs.Trees.{key_of as tree_key_of}
use Rattle.parse_tree.specs.declared.statement.Key.{Key as TreeKey}
use Rattle.query_rules.specs.declared.fault.BindFault.{BindFault}
use Rattle.query_rules.specs.Judging.{BindsBlock, RefusesBlock}
use Rattle.query_rules.specs.Keys.{header_of, names_by, bound_keys, SomeKeyIsUnknown, RefusesOrder}
use Rattle.query_rules.specs.Meaning.{bind_refusal}

pub answer_err : {X : Type 0} (result : Result X BindFault) (f : BindFault) (P : Refusal → Type 0) → result ≡ Err f → IfSome (bind_refusal f) P → IfErr result (λ f. IfSome (bind_refusal f) P)
answer_err result f P is h = subst (λ r. IfErr r (λ f. IfSome (bind_refusal f) P)) (sym is) h

-- ---- the names of the outermost block's result columns

abbrev pub names_in : Database → t.QuerySpecification → List (Option Name)
names_in db block = names_of_list db (scope_of db (block_sources block) ∷ []) (list_of block)

star_names : (xs : List Found) → map header_of (map (λ (f : Found). record { name = f.name; value = b.Column f.column f.type }) xs) ≡ map (λ (f : Found). Some f.name) xs
star_names [] = refl
star_names (x ∷ xs) = ap (λ ys. Some x.name ∷ ys) (star_names xs)

names_of_items : (db : Database) (scopes : Scopes) (list : t.SelectList) (next : _) → names_by list (select_items db scopes next list) ≡ names_of_list db scopes list
names_of_items db scopes Asterisk next = star_names (all_columns (own_scope scopes))
names_of_items db scopes (Listed items) next = refl

abbrev head_or : b.Block → b.Blocks → b.Block
head_or d [] = d
head_or d (x ∷ xs) = x

abbrev outermost : Database → t.QuerySpecification → b.Blocks
outermost db block = bound_blocks db 0 (block_blocks db [] block) []

pub names_are : (db : Database) (block : t.QuerySpecification) (first : b.Block) (rest : b.Blocks) → first ∷ rest ≡ outermost db block → names_by (list_of block) first.items ≡ names_in db block
names_are db (Specification distinct list sources where' groups having) first rest h =
    ap (λ (x : b.Block). names_by list x.items) (ap (head_or first) h) ∙ names_of_items db (scope_of db sources ∷ []) list _

-- ---- refusals

-- a block without a fault has not too many items
pub few_items : (db : Database) (block : t.QuerySpecification) → ((r : Refusal) → AnyOf (λ p. BlockFaulty db p r) (block_blocks db [] block) → ⊥) → item_count (list_of block) ≤ most_items
few_items db (Specification distinct list sources where' groups having) accepted = not_more (item_count list) (λ m. accepted OverQueryLimit (inl (fault.many_items m)))
  where
    not_more : (n : ℕ) → (most_items < n → ⊥) → n ≤ most_items
    not_more n h = omega (arith, h)

module _ (db : Database) (q : t.Select) where
  pub refused_block : (r : Refusal) → RefusesBlock db [] [] q.block r → QueryFaulty db q r
  refused_block r (inl a) = fault.block r a
  refused_block r (inr (m, e)) = subst (QueryFaulty db q) (sym e) (fault.many_blocks (omega (arith, m)))

  pub refused_keys : (names : List (Option Name)) (r : Refusal) → names ≡ names_in db q.block → IsTrue (block_is_there db q.block) → item_count (list_of q.block) ≤ most_items → RefusesOrder names q.order r → QueryFaulty db q r
  refused_keys names r same there few (inl (s, e)) = subst (QueryFaulty db q) (sym e) (fault.bad_key there few (subst (λ ns. SomeKeyIsUnknown ns q.order) same s))
  refused_keys names r same there few (inr (m, e)) = subst (QueryFaulty db q) (sym e) (fault.many_keys m)

  pub accepted : (new : b.Blocks) (only : Option ValueType) (names : List (Option Name)) → BindsBlock db [] [] new q.block only → names ≡ names_in db q.block → (SomeKeyIsUnknown names q.order → ⊥) → length q.order ≤ most_keys → IsAcceptedQuery db q
  accepted new only names h same known few _ (fault.block r a) = h.accepted r a
  accepted new only names h same known few _ (fault.bad_key t items a) = known (subst (λ ns. SomeKeyIsUnknown ns q.order) (sym same) a)
  accepted new only names h same known few _ (fault.many_blocks m) = absurd (let k = h.few in omega (arith, k, m))
  accepted new only names h same known few _ (fault.many_keys m) = absurd (omega (arith, few, m))

-- ---- the order is set on the outermost block

abbrev with_order : b.Block → List b.OrderKey → b.Block
with_order x keys = record { tables = x.tables; distinct = x.distinct; items = x.items; condition = x.condition; groups = x.groups; having = x.having; functions = x.functions; order = keys }

abbrev tail_or : b.Blocks → b.Blocks
tail_or [] = []
tail_or (x ∷ xs) = xs

ordered : (db : Database) (block : t.QuerySpecification) (order : List t.SortSpecification) (x : b.Block) (xs : b.Blocks) (keys : List b.OrderKey) → x ∷ xs ≡ outermost db block → keys ≡ bound_keys (names_in db block) order → with_order x keys ∷ xs ≡ bound_blocks db 0 (block_blocks db [] block) order
ordered db (Specification distinct list sources where' groups having) order x xs keys h k =
    ap₂ (λ y ys. with_order y keys ∷ ys) (ap (head_or x) h) (ap tail_or h)
    ∙ ap (λ ks. with_order (bound_block db 0 [] (Specification distinct list sources where' groups having) []) ks ∷ bound_blocks db 1 (list_blocks db (scope_of db sources ∷ []) list ++ condition_blocks db (scope_of db sources ∷ []) where' ++ condition_blocks db (scope_of db sources ∷ []) having) []) k

none_bound : (db : Database) (block : t.QuerySpecification) → [] ≡ outermost db block → ⊥
none_bound db (Specification distinct list sources where' groups having) h = absurd cc

pub first_of : (db : Database) (block : t.QuerySpecification) (items : List Block) (x : Block) → x ≡ slice_index_or items 0 x → map block_of items ≡ outermost db block → names_by (list_of block) (block_of x).items ≡ names_in db block
first_of db block [] x e h = absurd (none_bound db block h)
first_of db block (y ∷ ys) x e h = ap (λ z. names_by (list_of block) (block_of z).items) e ∙ names_are db block (block_of y) (map block_of ys) h

pub with_keys : (db : Database) (block : t.QuerySpecification) (order : List t.SortSpecification) (items : List Block) (x : Block) (keys : Vec Key Global) → x ≡ slice_index_or items 0 x → map block_of items ≡ outermost db block → map key_of keys.items ≡ bound_keys (names_in db block) order
    → map block_of (slice_set items 0 (record { tables = x.tables; distinct = x.distinct; items = x.items; condition = x.condition; groups = x.groups; having = x.having; functions = x.functions; order = keys })) ≡ bound_blocks db 0 (block_blocks db [] block) order
with_keys db block order [] x keys e h k = absurd (none_bound db block h)
with_keys db block order (y ∷ ys) x keys e h k =
    ap (λ z. with_order (block_of z) (map key_of keys.items) ∷ map block_of ys) e
    ∙ ordered db block order (block_of y) (map block_of ys) (map key_of keys.items) h k

pub as_many_keys : (order : List TreeKey) → length (map tree_key_of order) ≡ length order
as_many_keys [] = refl
as_many_keys (x ∷ xs) = let h = as_many_keys xs in omega (arith, h)
