-- The order of rows is a total one, and a list that is sorted by it is sorted as rows are.
use Rattle.std.proofs.Common.{◌≡◌, ◌∙◌, refl, sym, ap, ap₂, ℕ, ◌+◌, ◌<◌, List, [], ◌∷◌, Bool, true, false, length, map, drop, get_or, arith}
use Rattle.std.specs.Prelude.{IsSorted}
use Rattle.std.specs.Cmp.{IsTotalOrder, IsStrictWeakOrder, on_total, then_total, back_total}
use Rattle.std.specs.Cmp.Derive.{point_total}
use Rattle.std.specs.List.Sorted.{IsSortedBy}
use Rattle.std.specs.Ordering.{is_lt, ordering_reverse, ordering_then}
use Rattle.std.specs.declared.cmp.Ordering.{Ordering}
use Rattle.std.specs.declared.cmp.Ordering.TheVariants.{Less, Equal, Greater}
use Rattle.std.proofs.lemmas.List.{drop_more, get_or-map, length-map}
use Rattle.std.proofs.lemmas.List.Sorted.{ranks_by}
use Rattle.definitions.specs.Value.{Null, rank}
use Rattle.definitions.specs.Table.{Row}
use Rattle.definitions.specs.Queries.BoundBlock.{OrderKey}
use Rattle.definitions.specs.Queries.Outcomes.{directed, row_order}
use Rattle.definitions.proofs.Ranking.{rank_total}
use Rattle.query_tree.specs.Bound.{key_of}
use Rattle.query_tree.specs.declared.block.Key as code

-- what compares as a total order does is one
same_total : {X : Type 0} → (R S : X → X → Ordering) → ((x y : X) → S x y ≡ R x y) → IsTotalOrder R → IsTotalOrder S
same_total R S e h = record {
  antisymm = λ x y. e x y ∙ h.antisymm x y ∙ ap ordering_reverse (sym (e y x));
  trans = λ x y z k l. e x z ∙ h.trans x y z (sym (e x y) ∙ k) (sym (e y z) ∙ l);
  congr = λ x y z k. e x z ∙ h.congr x y z (sym (e x y) ∙ k) ∙ sym (e y z);
}

directed_total : (descending : Bool) (item : ℕ) → IsTotalOrder (λ (a b : Row). directed descending (rank (get_or a item Null) (get_or b item Null)))
directed_total false item = on_total (λ (row : Row). get_or row item Null) rank_total
directed_total true item =
    same_total (λ (a b : Row). rank (get_or b item Null) (get_or a item Null)) (λ (a b : Row). ordering_reverse (rank (get_or a item Null) (get_or b item Null)))
    (λ a b. sym (rank_total.antisymm (get_or b item Null) (get_or a item Null))) (back_total (on_total (λ (row : Row). get_or row item Null) rank_total))

pub row_total : (keys : List OrderKey) → IsTotalOrder (row_order keys)
row_total [] = point_total
row_total (key ∷ keys) = then_total (directed_total key.descending key.item) (row_total keys)

-- by it what is seen of elements is in order
pub seen_sorted : {X : Type 0} (view : X → Row) (keys : List OrderKey) (xs : List X) → IsSortedBy (λ x y. is_lt (row_order keys (view x) (view y))) xs → IsSorted (row_order keys) (map view xs)
seen_sorted view keys [] s k d low high = absurd (omega (arith, high))
seen_sorted view keys (x ∷ xs) s k d low high =
    let n : length (map view (x ∷ xs)) ≡ length (x ∷ xs) = length-map (x ∷ xs) view in
    let next : k + 1 < length (x ∷ xs) = omega (arith, n, high) in
    let here : k < length (x ∷ xs) = omega (arith, next) in
    ap₂ (λ a b. is_lt (row_order keys a b)) (get_or-map view (x ∷ xs) (k + 1) x d next) (get_or-map view (x ∷ xs) k x d here) ∙ s k x low next

pub row_strict : {X : Type 0} (view : X → Row) (keys : List OrderKey) → IsStrictWeakOrder (λ (x y : X). is_lt (row_order keys (view x) (view y)))
row_strict view keys = ranks_by (row_total keys) view

-- ---- keys, one after another

module _ (keys : List code.Key) (i : ℕ) (d : code.Key) (a b : Row) (h : i < length keys) where
  abbrev here : Ordering
  here = directed (get_or keys i d).descending (rank (get_or a (get_or keys i d).item Null) (get_or b (get_or keys i d).item Null))

  abbrev from : ℕ → Ordering
  from k = row_order (map key_of (drop k keys)) a b

  of_next : from i ≡ ordering_then here (from (i + 1))
  of_next = ap (λ ks. row_order (map key_of ks) a b) (drop_more keys i d h)

  pub decided : (o all : Ordering) → o ≡ here → (o ≡ Equal → ⊥) → from i ≡ all → o ≡ all
  decided o all is apart whole = sym (of_next ∙ ap (λ p. ordering_then p (from (i + 1))) (sym is) ∙ stays o (from (i + 1)) apart) ∙ whole
    where
      stays : (p rest : Ordering) → (p ≡ Equal → ⊥) → ordering_then p rest ≡ p
      stays Less rest n = refl
      stays Equal rest n = absurd (n refl)
      stays Greater rest n = refl

  pub passed : (o all : Ordering) → o ≡ here → o ≡ Equal → from i ≡ all → from (i + 1) ≡ all
  passed o all is equal whole = sym (of_next ∙ ap (λ p. ordering_then p (from (i + 1))) (sym is ∙ equal)) ∙ whole
