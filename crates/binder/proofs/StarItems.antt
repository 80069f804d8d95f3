-- The items that an asterisk stands for, one after another.
use Rattle.std.proofs.Common.{◌≡◌, ◌∙◌, refl, sym, ap, ℕ, ◌+◌, ◌<◌, ◌≤◌, List, [], ◌∷◌, ◌++◌, length, map, drop, get_or, arith}
use Rattle.std.proofs.lemmas.List.{append_assoc, drop_more, drop_all}
use Rattle.definitions.specs.Binding.Scopes.{Found}
use Rattle.definitions.specs.Queries.BoundBlock as b
use Rattle.query_tree.specs.Bound.{item_of}
use Rattle.query_tree.specs.declared.block.Item.{Item}
use Rattle.query_rules.specs.ScopeRules.{found_of}
use Rattle.query_rules.specs.declared.resolution.Found.{Found as FoundColumn}

abbrev pub star_of : Found → b.Item
star_of f = record { name = f.name; value = b.Column f.column f.type }

pub pushed_item : (xs : List Item) (x : Item) → map item_of (xs ++ x ∷ []) ≡ map item_of xs ++ item_of x ∷ []
pushed_item [] x = refl
pushed_item (y ∷ xs) x = ap (λ ys. item_of y ∷ ys) (pushed_item xs x)

pub past_column : (items : List Item) (x : Item) (columns : List FoundColumn) (i : ℕ) (f : FoundColumn) (all : List b.Item) → i < length columns → f ≡ get_or columns i f → item_of x ≡ star_of (found_of f)
    → map item_of items ++ map star_of (map found_of (drop i columns)) ≡ all → map item_of (items ++ x ∷ []) ++ map star_of (map found_of (drop (i + 1) columns)) ≡ all
past_column items x columns i f all h e s k =
    ap (λ xs. xs ++ map star_of (map found_of (drop (i + 1) columns))) (pushed_item items x)
    ∙ append_assoc (map item_of items) (item_of x ∷ []) (map star_of (map found_of (drop (i + 1) columns)))
    ∙ ap (λ y. map item_of items ++ y ∷ map star_of (map found_of (drop (i + 1) columns))) s
    ∙ ap (λ xs. map item_of items ++ map star_of (map found_of xs)) (sym (drop_more columns i f h ∙ ap (λ y. y ∷ drop (i + 1) columns) (sym e)))
    ∙ k

nothing_more : (xs : List b.Item) → xs ++ [] ≡ xs
nothing_more [] = refl
nothing_more (x ∷ xs) = ap (λ ys. x ∷ ys) (nothing_more xs)

pub end_columns : (items : List Item) (columns : List FoundColumn) (i : ℕ) (all : List b.Item) → length columns ≤ i → map item_of items ++ map star_of (map found_of (drop i columns)) ≡ all → map item_of items ≡ all
end_columns items columns i all h k = sym (nothing_more (map item_of items)) ∙ ap (λ xs. map item_of items ++ map star_of (map found_of xs)) (sym (drop_all i columns h)) ∙ k

pub as_many_items : (xs : List Item) → length (map item_of xs) ≡ length xs
as_many_items [] = refl
as_many_items (x ∷ xs) = let h = as_many_items xs in omega (arith, h)
