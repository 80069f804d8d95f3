-- The keys of an order: which result columns their names and positions stand for.
use Rattle.std.proofs.Common.{◌≡◌, ◌∙◌, refl, sym, ap, ap₂, inl, inr, ℕ, zero, suc, ◌+◌, ◌<◌, ◌≤◌, Bool, true, false, List, [], ◌∷◌, ◌++◌, Option, Some, None, length, map, drop, get_or, arith}
use Rattle.std.specs.Prelude.{count_by, not, cond, is_some, IfSome, IfErr, IsNone, Result, Ok, Err, take}
use Rattle.std.specs.List.{position_or_len}
use Rattle.std.specs.Borrow.{Bor}
use Rattle.std.proofs.lemmas.List.{drop_more, drop_all, take_more, take_all, map-append, append_assoc}
use Rattle.std.proofs.lemmas.List.Sums.{sum_by-cons}
use Rattle.definitions.specs.Statement as t
use Rattle.definitions.specs.Statement.{Name}
use Rattle.definitions.specs.Binding.Faults.{IsUnknownKey}
use Rattle.definitions.specs.Queries.BoundBlock as b
use Rattle.query_tree.specs.Bound.{item_of, key_of}
use Rattle.query_tree.specs.declared.block.Item.{Item}
use Rattle.query_tree.specs.declared.block.Key.{Key}
use Rattle.parse_tree.specs.Trees.{key_of as tree_key_of, item_of as listed_item_of}
use Rattle.parse_tree.specs.declared.statement.Key.{Key as TreeKey}
use Rattle.parse_tree.specs.declared.expr.Item.{Item as TreeItem}
use Rattle.definitions.specs.Grammar.{items}
use Rattle.definitions.specs.Refusal.{UnknownKey}
use Rattle.definitions.specs.Binding.BoundForm.{key_item, result_name, result_names}
use Rattle.query_rules.specs.declared.fault.BindFault.{BindFault}
use Rattle.query_rules.specs.Keys.{header_of, known_name, known_names, bound_keys, SomeKeyIsUnknown, RefusesOrder}
use Rattle.query_rules.specs.Meaning.{bind_refusal}
use Rattle.query_rules.proofs.Refused.{if_some}

-- ---- the only name with a property, so far

module _ (p : Option Name → Bool) where
  -- what is left behind so many names, of which one had the property, or none
  abbrev pub OnlySoFar : (all rest : List (Option Name)) → ℕ → Option ℕ → Type 0
  OnlySoFar all rest i None = (position_or_len p all ≡ i + position_or_len p rest) × (count_by p all ≡ count_by p rest)
  OnlySoFar all rest i (Some k) = (position_or_len p all ≡ k) × (count_by p all ≡ count_by p rest + 1)

  position_no : (x : Option Name) (xs : List (Option Name)) → p x ≡ false → position_or_len p (x ∷ xs) ≡ 1 + position_or_len p xs
  position_no x xs h = ap (λ b. cond (not b) (1 + position_or_len p xs) 0) h

  position_yes : (x : Option Name) (xs : List (Option Name)) → p x ≡ true → position_or_len p (x ∷ xs) ≡ 0
  position_yes x xs h = ap (λ b. cond (not b) (1 + position_or_len p xs) 0) h

  count_no : (x : Option Name) (xs : List (Option Name)) → p x ≡ false → count_by p (x ∷ xs) ≡ count_by p xs
  count_no x xs h = let k = sum_by-cons (λ x. cond (p x) 1 0) x xs in let l = ap {B = ℕ} (λ b. cond b 1 0) h in omega (arith, k, l)

  count_yes : (x : Option Name) (xs : List (Option Name)) → p x ≡ true → count_by p (x ∷ xs) ≡ 1 + count_by p xs
  count_yes x xs h = let k = sum_by-cons (λ x. cond (p x) 1 0) x xs in let l = ap {B = ℕ} (λ b. cond b 1 0) h in omega (arith, k, l)

  pub skip_name : (all rest : List (Option Name)) (x : Option Name) (i : ℕ) (only : Option ℕ) → p x ≡ false → OnlySoFar all (x ∷ rest) i only → OnlySoFar all rest (i + 1) only
  skip_name all rest x i None h s = (let k = s.0 in let l = position_no x rest h in omega (arith, k, l), s.1 ∙ count_no x rest h)
  skip_name all rest x i (Some j) h s = (s.0, s.1 ∙ ap (λ n. n + 1) (count_no x rest h))

  pub first_name : (all rest : List (Option Name)) (x : Option Name) (i : ℕ) → p x ≡ true → OnlySoFar all (x ∷ rest) i None → OnlySoFar all rest (i + 1) (Some i)
  first_name all rest x i h s = (let k = s.0 in let l = position_yes x rest h in omega (arith, k, l), let k = s.1 in let l = count_yes x rest h in omega (arith, k, l))

  pub second_name : (all rest : List (Option Name)) (x : Option Name) (i : ℕ) (only : Option ℕ) → is_some only ≡ true → p x ≡ true → OnlySoFar all (x ∷ rest) i only → count_by p all ≡ 1 → ⊥
  second_name all rest x i None some h s one = absurd cc
  second_name all rest x i (Some j) some h s one = absurd (let k = s.1 in let l = count_yes x rest h in omega (arith, k, l, one))

  pub begin_names : (all : List (Option Name)) → OnlySoFar all all 0 None
  begin_names all = (omega (arith), refl)

  pub end_some : (all : List (Option Name)) (i : ℕ) (only : Option ℕ) → OnlySoFar all [] i only → IfSome only (λ item. item ≡ position_or_len p all)
  end_some all i None s = tt
  end_some all i (Some k) s = sym s.0

  pub end_one : (all : List (Option Name)) (i : ℕ) (only : Option ℕ) → OnlySoFar all [] i only → IfSome only (λ item. count_by p all ≡ 1)
  end_one all i None s = tt
  end_one all i (Some k) s = s.1

  pub end_none : (all : List (Option Name)) (i : ℕ) (only : Option ℕ) → OnlySoFar all [] i only → IsNone only → count_by p all ≡ 1 → ⊥
  end_none all i None s n one = absurd (let k = s.1 in omega (arith, k, one))
  end_none all i (Some k) s n one = absurd cc

  pub not_yet : (all rest : List (Option Name)) (x : Option Name) (i : ℕ) (only : Option ℕ) → is_some only ≡ false → p x ≡ true → OnlySoFar all (x ∷ rest) i only → OnlySoFar all rest (i + 1) (Some i)
  not_yet all rest x i None some h s = first_name all rest x i h s
  not_yet all rest x i (Some j) some h s = absurd cc

pub if_one : (only : Option ℕ) (n : ℕ) → IfSome only (λ item. n ≡ 1) → IfSome only (λ item. (n ≡ 1 → ⊥) → ⊥)
if_one None n h = tt
if_one (Some k) n h = λ f. f h

pub next_names : (names : List (Option (Bor (List ℕ)))) (i : ℕ) (x : Option (Bor (List ℕ))) → i < length names → x ≡ get_or names i x → map known_name (drop i names) ≡ known_name x ∷ map known_name (drop (i + 1) names)
next_names names i x h e = ap (map known_name) (drop_more names i x h ∙ ap (λ y. y ∷ drop (i + 1) names) (sym e))

pub same_place : (names : List (Option (Bor (List ℕ)))) (i : ℕ) → get_or names i None ≡ get_or names i (get_or names i None)
same_place [] i = refl
same_place (x ∷ xs) zero = refl
same_place (x ∷ xs) (suc i) = same_place xs i

pub no_names : (names : List (Option (Bor (List ℕ)))) (i : ℕ) → length names ≤ i → map known_name (drop i names) ≡ []
no_names names i h = ap (map known_name) (drop_all i names h)

pub as_many_names : (names : List (Option (Bor (List ℕ)))) → length (known_names names) ≡ length names
as_many_names [] = refl
as_many_names (x ∷ xs) = let h = as_many_names xs in omega (arith, h)

pub pushed_name : (xs : List (Option (Bor (List ℕ)))) (x : Option (Bor (List ℕ))) → map known_name (xs ++ x ∷ []) ≡ map known_name xs ++ known_name x ∷ []
pushed_name [] x = refl
pushed_name (y ∷ xs) x = ap (λ ys. known_name y ∷ ys) (pushed_name xs x)

-- ---- keys, one after another

pub pushed_key : (xs : List Key) (x : Key) → map key_of (xs ++ x ∷ []) ≡ map key_of xs ++ key_of x ∷ []
pushed_key [] x = refl
pushed_key (y ∷ xs) x = ap (λ ys. key_of y ∷ ys) (pushed_key xs x)

-- keys of which some are left
pub record KeysLeft (names : List (Option Name)) (all : List t.SortSpecification) (done : List b.OrderKey) (rest : List t.SortSpecification) : Type 0 where
  pub are : bound_keys names all ≡ done ++ bound_keys names rest
  pub left : SomeKeyIsUnknown names all → SomeKeyIsUnknown names rest
  pub of_rest : SomeKeyIsUnknown names rest → SomeKeyIsUnknown names all

pub begin_keys : (names : List (Option Name)) (all : List t.SortSpecification) → KeysLeft names all [] all
begin_keys names all = record { are = refl; left = λ s. s; of_rest = λ s. s }

pub next_key : (names : List (Option Name)) (all rest : List t.SortSpecification) (done : List b.OrderKey) (k : t.SortSpecification) (item : ℕ) → KeysLeft names all done (k ∷ rest) → item ≡ key_item names k.named → (IsUnknownKey names k.named → ⊥)
    → KeysLeft names all (done ++ (record { item = item; descending = k.descending }) ∷ []) rest
next_key names all rest done k item h is known = record {
  are = h.are ∙ ap (λ i. done ++ (record { item = i; descending = k.descending }) ∷ bound_keys names rest) (sym is) ∙ sym (append_assoc done ((record { item = item; descending = k.descending }) ∷ []) (bound_keys names rest));
  left = λ s. elim (h.left s) [ inl u ↦ absurd (known u) | inr v ↦ v ];
  of_rest = λ s. h.of_rest (inr s);
}

pub unknown_key : (names : List (Option Name)) (all rest : List t.SortSpecification) (done : List b.OrderKey) (k : t.SortSpecification) → KeysLeft names all done (k ∷ rest) → IsUnknownKey names k.named → SomeKeyIsUnknown names all
unknown_key names all rest done k h u = h.of_rest (inl u)

nothing_more : (xs : List b.OrderKey) → xs ++ [] ≡ xs
nothing_more [] = refl
nothing_more (x ∷ xs) = ap (λ ys. x ∷ ys) (nothing_more xs)

pub end_keys : (names : List (Option Name)) (all : List t.SortSpecification) (done : List b.OrderKey) → KeysLeft names all done [] → done ≡ bound_keys names all
end_keys names all done h = sym (nothing_more done) ∙ sym h.are

pub next_key_tree : (order : List TreeKey) (i : ℕ) (x : TreeKey) → i < length order → x ≡ get_or order i x → map tree_key_of (drop i order) ≡ tree_key_of x ∷ map tree_key_of (drop (i + 1) order)
next_key_tree order i x h e = ap (map tree_key_of) (drop_more order i x h ∙ ap (λ y. y ∷ drop (i + 1) order) (sym e))

pub no_key_tree : (order : List TreeKey) (i : ℕ) → length order ≤ i → map tree_key_of (drop i order) ≡ []
no_key_tree order i h = ap (map tree_key_of) (drop_all i order h)

-- ---- names, one after another

pub one_more_name : {X : Type 0} (g : X → Option Name) (all : List X) (i : ℕ) (x : X) (done : List (Option (Bor (List ℕ)))) (name : Option (Bor (List ℕ))) → i < length all → x ≡ get_or all i x → known_name name ≡ g x
    → map known_name done ≡ map g (take i all) → map known_name (done ++ name ∷ []) ≡ map g (take (i + 1) all)
one_more_name g all i x done name h e n s =
    pushed_name done name ∙ ap₂ (λ ys y. ys ++ y ∷ []) s n ∙ sym (map-append g (take i all) (x ∷ [])) ∙ ap (map g) (ap (λ y. take i all ++ y ∷ []) e ∙ sym (take_more all i x h))

pub all_names : {X : Type 0} (g : X → Option Name) (all : List X) (i : ℕ) (done : List (Option (Bor (List ℕ)))) → length all ≤ i → map known_name done ≡ map g (take i all) → map known_name done ≡ map g all
all_names g all i done h s = s ∙ ap (map g) (take_all i all h)

pub headers_of : (items : List Item) → map (λ (i : Item). header_of (item_of i)) items ≡ map header_of (map item_of items)
headers_of [] = refl
headers_of (x ∷ xs) = ap (λ ys. header_of (item_of x) ∷ ys) (headers_of xs)

pub result_names_of : (list : List TreeItem) → map (λ (i : TreeItem). result_name (listed_item_of i).value (listed_item_of i).alias) list ≡ result_names (map listed_item_of list)
result_names_of [] = refl
result_names_of (x ∷ xs) = ap (λ ys. result_name (listed_item_of x).value (listed_item_of x).alias ∷ ys) (result_names_of xs)

pub listed_items : (xs : List t.DerivedColumn) → t.listed (items xs) ≡ xs
listed_items [] = refl
listed_items (x ∷ xs) = ap (λ ys. x ∷ ys) (listed_items xs)

-- ---- a refused order

pub refused_order : {X : Type 0} (result : Result X BindFault) (names : List (Option Name)) (keys : List t.SortSpecification) → IfErr result (λ f. IfSome (bind_refusal f) (λ r. (r ≡ UnknownKey) × SomeKeyIsUnknown names keys)) → IfErr result (λ f. IfSome (bind_refusal f) (RefusesOrder names keys))
refused_order (Ok x) names keys h = tt
refused_order (Err f) names keys h = if_some (bind_refusal f) _ _ (λ r s. inl (s.1, s.0)) h
