-- Which blocks are grouped.
use Rattle.std.proofs.Common.{◌≡◌, ◌∙◌, refl, sym, ap, subst, inl, inr, ◌⊎◌, Bool, true, false, List, [], ◌∷◌, ◌++◌, Option, Some, None, map, ℕ, length, arith, ◌==◌}
use Rattle.std.proofs.lemmas.Bool.Decides.{nat_tests}
use Rattle.std.specs.Prelude.{◌||◌, flat_map, IsTrue, is_some}
use Rattle.std.specs.List.{list_any}
use Rattle.definitions.specs.Lists.{AnyOf}
use Rattle.definitions.specs.Statement as t
use Rattle.definitions.specs.Statement.{Absent, Specification}
use Rattle.definitions.specs.Binding.Parts.{is_function, item_values, parts}
use Rattle.definitions.specs.Binding.Faults.{IsGrouped}
use Rattle.parse_tree.specs.Trees.{block_of, column_of, condition_of, list_of, source_of}
use Rattle.parse_tree.specs.declared.expr.Block.{Block}
use Rattle.parse_tree.proofs.Views.{of_block}

any_found : {X : Type 0} (test : X → Bool) (xs : List X) → list_any test xs ≡ true → AnyOf (λ x. IsTrue (test x)) xs
any_found test [] h = absurd cc
any_found test (x ∷ xs) h = step (test x) (list_any test xs) _ h (any_found test xs)
  where
    step : (a b : Bool) (P : Type 0) → a || b ≡ true → (b ≡ true → P) → IsTrue a ⊎ P
    step true b P h f = inl refl
    step false b P h f = inr (f h)

found_any : {X : Type 0} (test : X → Bool) (xs : List X) → AnyOf (λ x. IsTrue (test x)) xs → list_any test xs ≡ true
found_any test [] h = absurd h
found_any test (x ∷ xs) (inl h) = ap (λ b. b || list_any test xs) h
found_any test (x ∷ xs) (inr h) = ap (λ b. test x || b) (found_any test xs h) ∙ ends (test x)
  where
    ends : (b : Bool) → b || true ≡ true
    ends true = refl
    ends false = refl

nothing_more : {X : Type 0} (xs : List X) → xs ++ [] ≡ xs
nothing_more [] = refl
nothing_more (x ∷ xs) = ap (λ ys. x ∷ ys) (nothing_more xs)

decides : (x distinct : Bool) (list : t.SelectList) (sources : List t.Source) (where' : t.SearchClause) → x ≡ list_any is_function (flat_map parts (item_values list))
    → (x ≡ true → IsGrouped (Specification distinct list sources where' [] Absent)) × (IsGrouped (Specification distinct list sources where' [] Absent) → x ≡ true)
decides x distinct list sources where' e = (
  λ h. inr (inr (subst (λ xs. AnyOf (λ e. IsTrue (is_function e)) (flat_map parts xs)) (sym (nothing_more (item_values list))) (any_found is_function (flat_map parts (item_values list)) (sym e ∙ h)))),
  λ g. elim g [
    | inl n ↦ absurd (n refl)
    | inr k ↦ elim k [ inl n ↦ absurd (n refl) | inr a ↦ e ∙ found_any is_function (flat_map parts (item_values list)) (subst (λ xs. AnyOf (λ e. IsTrue (is_function e)) (flat_map parts xs)) (nothing_more (item_values list)) a) ]
  ],
)

pub scan_decides : (query : Block) (x : Bool) → query.groups.items ≡ [] → query.having ≡ None → x ≡ list_any is_function (flat_map parts (item_values (list_of query.list)))
    → (x ≡ true → IsGrouped (block_of query)) × (IsGrouped (block_of query) → x ≡ true)
scan_decides query x g h e =
    let whole = of_block query ∙ ap (λ gs. Specification query.distinct (list_of query.list) (map source_of query.sources.tables.items) (condition_of query.condition) (map column_of gs) (condition_of query.having)) g
    ∙ ap (λ o. Specification query.distinct (list_of query.list) (map source_of query.sources.tables.items) (condition_of query.condition) [] (condition_of o)) h in
    rw whole (decides x query.distinct (list_of query.list) (map source_of query.sources.tables.items) (condition_of query.condition) e)

pub no_groups : {X : Type 0} (xs : List X) (n : ℕ) → n == 0 ≡ true → n ≡ length xs → xs ≡ []
no_groups [] n h e = refl
no_groups (x ∷ xs) n h e = absurd (let z : n ≡ 0 = grind (arith, nat_tests, h) in omega (arith, z, e))

pub no_having : {X : Type 0} (o : Option X) → is_some o ≡ false → o ≡ None
no_having None h = refl
no_having (Some x) h = absurd cc
