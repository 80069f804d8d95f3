-- Result columns, one after another.
use Rattle.std.proofs.Common.{◌≡◌, ◌∙◌, refl, sym, ap, ap₂, subst, inl, inr, ℕ, zero, suc, ◌+◌, ◌==◌, ◌<◌, ◌≤◌, Bool, true, false, List, [], ◌∷◌, ◌++◌, Option, Some, None, length, map, drop, take, get_or, option_map, arith, append-nil}
use Rattle.std.specs.Prelude.{flat_map, is_some, IsTrue, IfSome, ◌↔◌}
use Rattle.std.proofs.lemmas.Bool.Decides.{nat_tests}
use Rattle.std.proofs.lemmas.List.{append_assoc, drop_more, drop_all, take_more}
use Rattle.definitions.specs.Grammar.{items}
use Rattle.definitions.specs.Lists.{AnyOf}
use Rattle.definitions.specs.Limits.{most_blocks}
use Rattle.definitions.specs.Refusal.{Refusal}
use Rattle.definitions.specs.Statement as t
use Rattle.definitions.specs.Statement.{Expr, Name, Items, NoItem, AddItem, Asterisk, Listed, listed}
use Rattle.definitions.specs.Table.{Database}
use Rattle.definitions.specs.ValueType.{ValueType}
use Rattle.std.specs.List.{AllByRecursion}
use Rattle.definitions.specs.Invariant.{IsDatabase}
use Rattle.definitions.specs.Binding.Scopes.{Scopes, Found, all_columns, own_scope, scope_of}
use Rattle.definitions.specs.Binding.Types.{expr_type, list_type, single_type}
use Rattle.definitions.specs.Binding.Parts.{parts, item_values, item_blocks, placed_blocks_in}
use Rattle.definitions.specs.Binding.BoundForm.{after_items, bound_items, header_name, result_name, star_items}
use Rattle.definitions.specs.Binding.Faults.{is_condition}
use Rattle.definitions.specs.Queries.BoundBlock as b
use Rattle.query_rules.specs.Judging.{ClauseKind, Refuses, Progress, next_of, Adds, BindsValue, RefusesValue, IsFine}
use Rattle.query_rules.proofs.ResolvedColumns.{all_in, numbers, HasColumnIn}
use Rattle.parse_tree.specs.Trees.{expr_of, item_of, name_of}
use Rattle.parse_tree.specs.declared.expr.Item.{Item}
use Rattle.parse_tree.proofs.Views.{of_item}
use Rattle.query_rules.specs.Leaves.{InSight}
use Rattle.binder.specs.Blocks.{BindsList, RefusesList, IsOnly}
use Rattle.query_rules.proofs.LeafParts.{has_fine}
use Rattle.binder.proofs.Bundles.{add_none, add_both, fault_left, fault_right, length_of_both}
use Rattle.binder.proofs.Nodes.{next_after, blocks_after}

both_cannot : (b : Bool) → b ≡ false → IsTrue b → ⊥
both_cannot true h k = absurd cc
both_cannot false h k = absurd cc

-- ---- the items of a tree

pub next_item_tree : (list : List Item) (i : ℕ) (x : Item) → i < length list → x ≡ get_or list i x → items (map item_of (drop i list)) ≡ AddItem (expr_of x.value) (option_map name_of x.alias) (items (map item_of (drop (i + 1) list)))
next_item_tree list i x h e =
    ap (λ xs. items (map item_of xs)) (drop_more list i x h ∙ ap (λ y. y ∷ drop (i + 1) list) (sym e))
    ∙ ap (λ (y : t.DerivedColumn). AddItem y.value y.alias (items (map item_of (drop (i + 1) list)))) (of_item x)

pub no_item_tree : (list : List Item) (i : ℕ) → length list ≤ i → items (map item_of (drop i list)) ≡ NoItem
no_item_tree list i h = ap (λ xs. items (map item_of xs)) (drop_all i list h)

pub all_listed : (xs : List t.DerivedColumn) → listed (items xs) ≡ xs
all_listed [] = refl
all_listed (x ∷ xs) = ap (λ ys. x ∷ ys) (all_listed xs)

map_of_one_more : (xs : List Item) (x : Item) → map item_of (xs ++ x ∷ []) ≡ map item_of xs ++ item_of x ∷ []
map_of_one_more [] x = refl
map_of_one_more (y ∷ xs) x = ap (λ ys. item_of y ∷ ys) (map_of_one_more xs x)

pub one_more : (list : List Item) (i : ℕ) (x : Item) → i < length list → x ≡ get_or list i x → map item_of (take (i + 1) list) ≡ map item_of (take i list) ++ item_of x ∷ []
one_more list i x h e = ap (map item_of) (take_more list i x h ∙ ap (λ y. take i list ++ y ∷ []) (sym e)) ∙ map_of_one_more (take i list) x

before_count : (list : List Item) (i : ℕ) → i < length list → length (map item_of (take i list)) ≡ i
before_count [] i h = absurd (omega (arith, h))
before_count (x ∷ xs) zero h = refl
before_count (x ∷ xs) (suc i) h = let k = before_count xs i (omega (arith, h)) in omega (arith, k)

pub header_same : (x : Item) (name : Name) (m k : ℕ) → name ≡ header_name m (result_name (item_of x).value (item_of x).alias) → m ≡ k → name ≡ header_name k (result_name (expr_of x.value) (option_map name_of x.alias))
header_same x name m k h e = h ∙ ap₂ header_name e (ap (λ (y : t.DerivedColumn). result_name y.value y.alias) (of_item x))

abbrev pub item_parts : Items → List Expr
item_parts is = flat_map parts (item_values (Listed is))

module _ (db : Database) (scopes : Scopes) (place : ClauseKind) where
  -- items are bound, of which the first has a number
  pub record BindsItems (old new : Progress) (k : ℕ) (is : Items) (bound : List b.Item) : Type 0 where
    pub adds : Adds db scopes place old new (item_parts is) (item_blocks db scopes is)
    pub are : bound ≡ bound_items db scopes (next_of old) k (listed is)
    pub next : next_of new ≡ after_items db scopes (listed is) (next_of old)
    pub values : AnyOf (λ e. IsTrue (is_condition e)) (item_values (Listed is)) → ⊥

  no_items : (s : Progress) (k : ℕ) → length s.blocks ≤ most_blocks → BindsItems s s k NoItem []
  no_items s k few = record { adds = add_none db scopes place s few; are = refl; next = refl; values = λ a. a }

  next_item : (old mid new : Progress) (k : ℕ) (e : Expr) (alias : Option Name) (v : b.ValueExpr) (type : ValueType) (is : Items) (out : List b.Item) → BindsValue db scopes place old mid e v type → BindsItems mid new (k + 1) is out
      → BindsItems old new k (AddItem e alias is) (record { name = header_name k (result_name e alias); value = v } ∷ out)
  next_item old mid new k e alias v type is out h m = record {
    adds = add_both db scopes place old mid new (parts e) (item_parts is) (placed_blocks_in db scopes e) (item_blocks db scopes is) h.adds m.adds;
    are = ap₂ (λ x xs. record { name = header_name k (result_name e alias); value = x } ∷ xs) h.bound (m.are ∙ ap (λ n. bound_items db scopes n (k + 1) (listed is)) (next_after db scopes place old mid e h.adds));
    next = m.next ∙ ap (after_items db scopes (listed is)) (next_after db scopes place old mid e h.adds);
    values = λ a. elim a [ inl x ↦ both_cannot (is_condition e) h.is_value x | inr x ↦ m.values x ];
  }

  item_operand : (s : Progress) (e : Expr) (alias : Option Name) (is : Items) (r : Refusal) → RefusesValue db scopes place s e r → RefusesList db scopes place s (Listed (AddItem e alias is)) r
  item_operand s e alias is r (inl f) = inl (fault_left db scopes place (length s.blocks) (parts e) (item_parts is) (placed_blocks_in db scopes e) (item_blocks db scopes is) r f)
  item_operand s e alias is r (inr (x, same)) = inr (inl x, same)

  later_item : (old mid : Progress) (e : Expr) (alias : Option Name) (v : b.ValueExpr) (type : ValueType) (is : Items) (r : Refusal) → BindsValue db scopes place old mid e v type → RefusesList db scopes place mid (Listed is) r
      → RefusesList db scopes place old (Listed (AddItem e alias is)) r
  later_item old mid e alias v type is r h (inl f) =
      inl (fault_right db scopes place (length old.blocks) (parts e) (item_parts is) (placed_blocks_in db scopes e) (item_blocks db scopes is) r
      (subst (λ n. Refuses db scopes place n (item_parts is) (item_blocks db scopes is) r) (blocks_after db scopes place old mid (parts e) (placed_blocks_in db scopes e) h.adds) f))
  later_item old mid e alias v type is r h (inr (x, same)) = inr (inr x, same)

  -- ---- items of which some are left

  pub record ItemsLeft (old : Progress) (all : Items) (now : Progress) (done : List b.Item) (rest : Items) : Type 0 where
    pub few : length now.blocks ≤ most_blocks
    pub binds : (new : Progress) (out : List b.Item) → BindsItems now new (length done + 1) rest out → BindsItems old new 1 all (done ++ out)
    pub refuses : (r : Refusal) → RefusesList db scopes place now (Listed rest) r → RefusesList db scopes place old (Listed all) r

  pub begin_items : (s : Progress) (all : Items) → length s.blocks ≤ most_blocks → ItemsLeft s all s [] all
  begin_items s all few = record { few = few; binds = λ new out h. h; refuses = λ r f. f }

  pub past_item : (old : Progress) (all : Items) (now next : Progress) (done : List b.Item) (e : Expr) (alias : Option Name) (v : b.ValueExpr) (type : ValueType) (rest : Items) (name : Name) → ItemsLeft old all now done (AddItem e alias rest)
      → BindsValue db scopes place now next e v type → length next.blocks ≤ most_blocks → name ≡ header_name (length done + 1) (result_name e alias) → ItemsLeft old all next (done ++ record { name = name; value = v } ∷ []) rest
  past_item old all now next done e alias v type rest name h b few same = record {
    few = few;
    binds = λ new out m.
        let counted : length (done ++ record { name = name; value = v } ∷ []) ≡ length done + 1 = length_of_both done (record { name = name; value = v } ∷ []) in
        let behind : BindsItems next new (length done + 1 + 1) rest out = subst (λ k. BindsItems next new (k + 1) rest out) counted m in
        let named : BindsItems now new (length done + 1) (AddItem e alias rest) (record { name = name; value = v } ∷ out) = subst (λ n. BindsItems now new (length done + 1) (AddItem e alias rest) (record { name = n; value = v } ∷ out)) (sym same) (next_item now next new (length done + 1) e alias v type rest out b behind) in
        subst (BindsItems old new 1 all) (sym (append_assoc done (record { name = name; value = v } ∷ []) out)) (h.binds new (record { name = name; value = v } ∷ out) named);
    refuses = λ r f. h.refuses r (later_item now next e alias v type rest r b f);
  }

  pub fault_at_item : (old : Progress) (all : Items) (now : Progress) (done : List b.Item) (e : Expr) (alias : Option Name) (rest : Items) (r : Refusal) → ItemsLeft old all now done (AddItem e alias rest) → RefusesValue db scopes place now e r → RefusesList db scopes place old (Listed all) r
  fault_at_item old all now done e alias rest r h f = h.refuses r (item_operand now e alias rest r f)

  end_items : (old : Progress) (all : Items) (now : Progress) (done : List b.Item) → ItemsLeft old all now done NoItem → BindsItems old now 1 all done
  end_items old all now done h = subst (BindsItems old now 1 all) (append-nil done) (h.binds now [] (no_items now (length done + 1) h.few))

  -- ---- the type of the only item

  pub only_first : (before : List t.DerivedColumn) (x : t.DerivedColumn) (type : ValueType) → length before ≡ 0 → expr_type db scopes x.value ≡ Some type → IsFine type → IsOnly db scopes (before ++ x ∷ []) (Some type)
  only_first [] x type z e f = (type, refl, e, f)
  only_first (y ∷ ys) x type z e f = absurd (omega (arith, z))

  pub only_later : (before : List t.DerivedColumn) (x : t.DerivedColumn) → 0 < length before → IsOnly db scopes (before ++ x ∷ []) None
  only_later [] x h = absurd (omega (arith, h))
  only_later (y ∷ []) x h = refl
  only_later (y ∷ z ∷ zs) x h = refl

  pub first_next : (list : List Item) (i n : ℕ) (x : Item) (type : ValueType) (only : Option ValueType) → i < length list → x ≡ get_or list i x → n == 0 ≡ true → n ≡ i → expr_type db scopes (expr_of x.value) ≡ Some type → IsFine type → only ≡ Some type
      → IsOnly db scopes (map item_of (take (i + 1) list)) only
  first_next list i n x type only h e z same typed f o =
      let nothing : length (map item_of (take i list)) ≡ 0 = let count = before_count list i h in let none : n ≡ 0 = grind (arith, nat_tests, z) in omega (arith, count, none, same) in
      rw (one_more list i x h e, o) (only_first (map item_of (take i list)) (item_of x) type nothing (ap (λ (y : t.DerivedColumn). expr_type db scopes y.value) (of_item x) ∙ typed) f)

  pub later_next : (list : List Item) (i n : ℕ) (x : Item) (only : Option ValueType) → i < length list → x ≡ get_or list i x → n == 0 ≡ false → n ≡ i → only ≡ None → IsOnly db scopes (map item_of (take (i + 1) list)) only
  later_next list i n x only h e z same o =
      let some : 0 < length (map item_of (take i list)) = let count = before_count list i h in let more : 0 < n = grind (arith, nat_tests, z) in omega (arith, count, more, same) in
      rw (one_more list i x h e, o) (only_later (map item_of (take i list)) (item_of x) some)

  abbrev IsOnlyType : Items → Option ValueType → Type 0
  IsOnlyType is only = (list_type db scopes (Listed is) ≡ only) × ((length (listed is) ≡ 1) ↔ IsTrue (is_some only)) × IfSome only IsFine

  not_there : (only : Option ValueType) → only ≡ None → IsTrue (is_some only) → ⊥
  not_there None h k = absurd cc
  not_there (Some type) h k = absurd cc

  only_type : (is : Items) (only : Option ValueType) → IsOnly db scopes (listed is) only → IsOnlyType is only
  only_type NoItem only h = (sym h, (λ e. absurd (omega (arith, e)), λ k. absurd (not_there only h k)), subst (λ o. IfSome o IsFine) (sym h) tt)
  only_type (AddItem e a NoItem) only (type, o, x, f) = (x ∙ sym o, (λ l. subst (λ o. IsTrue (is_some o)) (sym o) refl, λ k. refl), subst (λ o. IfSome o IsFine) (sym o) f)
  only_type (AddItem e a (AddItem g c is)) only h = (sym h, (λ l. absurd (omega (arith, l)), λ k. absurd (not_there only h k)), subst (λ o. IfSome o IsFine) (sym h) tt)

  pub binds_listed : (old now : Progress) (all : Items) (done : List b.Item) (only : Option ValueType) → ItemsLeft old all now done NoItem → IsOnly db scopes (listed all) only → BindsList db scopes place old now (Listed all) done only
  binds_listed old now all done only h o =
      let bound = end_items old all now done h in
      let type = only_type all only o in
      record { adds = bound.adds; are = bound.are; next = bound.next; values = bound.values; typed = type.0; one = type.1; fine = type.2 }

  -- ---- an asterisk

  single_one : (fs : List Found) → (length fs ≡ 1) ↔ IsTrue (is_some (single_type fs))
  single_one [] = (λ e. absurd (omega (arith, e)), λ k. absurd cc)
  single_one (f ∷ []) = (λ e. refl, λ k. refl)
  single_one (f ∷ g ∷ fs) = (λ e. absurd (omega (arith, e)), λ k. absurd cc)

  single_fine : (tables : List ℕ) (fs : List Found) → IsDatabase db → AllByRecursion (λ (f : Found). HasColumnIn db tables f.column f.type) fs → IfSome (single_type fs) IsFine
  single_fine tables [] valid h = tt
  single_fine tables (f ∷ []) valid h = has_fine db tables f valid h.0
  single_fine tables (f ∷ g ∷ fs) valid h = tt

  own_fine : (froms : List (List t.Source)) → IsDatabase db → IfSome (single_type (all_columns (own_scope (map (scope_of db) froms)))) IsFine
  own_fine [] valid = tt
  own_fine (sources ∷ froms) valid = single_fine (numbers (scope_of db sources)) (all_columns (scope_of db sources)) valid (all_in db sources)

  pub binds_asterisk : (s : Progress) (done : List b.Item) (only : Option ValueType) → length s.blocks ≤ most_blocks → InSight db scopes → done ≡ star_items db scopes → only ≡ single_type (all_columns (own_scope scopes)) → BindsList db scopes place s s Asterisk done only
  binds_asterisk s done only few sight i o = record {
    adds = add_none db scopes place s few;
    are = i;
    next = refl;
    values = λ a. a;
    typed = sym o;
    one = subst (λ x. (length (all_columns (own_scope scopes)) ≡ 1) ↔ IsTrue (is_some x)) (sym o) (single_one (all_columns (own_scope scopes)));
    fine = subst (λ x. IfSome x IsFine) (sym o) (subst (λ s. IfSome (single_type (all_columns (own_scope s))) IsFine) (sym sight.are) (own_fine sight.froms sight.valid));
  }
