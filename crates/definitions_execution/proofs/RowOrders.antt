-- How orders compare: each is a total order, what has the same values compares alike, and backward is the other way round.
use Rattle.std.proofs.Common.{sym, ap, ap₂, ◌∙◌, ◌≡◌, ℕ, inl, inr, List, [], ◌∷◌, map, Bool, true, false, refl, true≢false}
use Rattle.std.specs.Cmp.{IsTotalOrder, on_total, then_total, back_total, tied_itself, upto}
use Rattle.std.specs.Cmp.Derive.{point_total}
use Rattle.std.specs.Ordering.{ordering_then, ordering_reverse, is_le, is_gt}
use Rattle.std.specs.declared.cmp.Ordering.{Ordering}
use Rattle.std.specs.declared.cmp.Ordering.TheVariants.{Less, Equal, Greater}
use Rattle.definitions.specs.Value.{Value, rank}
use Rattle.definitions.specs.Plans.Order.{BlockColumn, SortKey, Order}
use Rattle.definitions_execution.specs.Lists.{In}
use Rattle.definitions_execution.specs.RowOrder.{ranked_by, may_stand_before, NotAfter}
use Rattle.definitions.specs.Queries.Outcomes.{directed}
use Rattle.definitions.proofs.Ranking.{rank_total}

-- `is_le` is `not greater`
pub up : (o : Ordering) → is_le o ≡ true → is_gt o ≡ false
up Less h = refl
up Equal h = refl
up Greater h = absurd (true≢false (sym h))

pub down : (o : Ordering) → is_gt o ≡ false → is_le o ≡ true
down Less h = refl
down Equal h = refl
down Greater h = absurd (true≢false h)

module _ {X Y : Type 0} (f : BlockColumn → X → Value) (g : BlockColumn → Y → Value) where
  pub cmp_same : (ks : Order) (a b : X) (a' b' : Y) → ((k : SortKey) → In k ks → f k.column a ≡ g k.column a') → ((k : SortKey) → In k ks → f k.column b ≡ g k.column b') → ranked_by f ks a b ≡ ranked_by g ks a' b'
  cmp_same [] a b a' b' p r = refl
  cmp_same (k ∷ ks) a b a' b' p r = ap₂ (λ u w. ordering_then u w) (ap₂ (λ u w. directed k.descending (rank u w)) (p k (inl refl)) (r k (inl refl))) (cmp_same ks a b a' b' (λ k' i. p k' (inr i)) (λ k' i. r k' (inr i)))

  -- what has the same values is ordered alike
  pub not_after_same : (ks : Order) (a b : X) (a' b' : Y) → ((k : SortKey) → In k ks → f k.column a ≡ g k.column a') → ((k : SortKey) → In k ks → f k.column b ≡ g k.column b') → NotAfter f ks a b → NotAfter g ks a' b'
  not_after_same ks a b a' b' p r h = sym (ap is_le (cmp_same ks a b a' b' p r)) ∙ h

-- what compares as a total order does is one
same_total : {X : Type 0} → (R S : X → X → Ordering) → ((x y : X) → S x y ≡ R x y) → IsTotalOrder R → IsTotalOrder S
same_total R S e h = record {
  antisymm = λ x y. e x y ∙ h.antisymm x y ∙ ap ordering_reverse (sym (e y x));
  trans = λ x y z k l. e x z ∙ h.trans x y z (sym (e x y) ∙ k) (sym (e y z) ∙ l);
  congr = λ x y z k. e x z ∙ h.congr x y z (sym (e x y) ∙ k) ∙ sym (e y z);
}

-- the order that an index gives: its columns in turn, all ascending, or, backward, all descending
abbrev pub index_keys : ℕ → List ℕ → Bool → Order
index_keys table columns backward = map (λ column. record { column = record { table = table; number = column }; descending = backward }) columns

module _ {X : Type 0} (f : BlockColumn → X → Value) where
  turned_back : (column : BlockColumn) (x y : X) → ordering_reverse (rank (f column x) (f column y)) ≡ rank (f column y) (f column x)
  turned_back column x y = sym (rank_total.antisymm (f column y) (f column x))

  directed_total : (b : Bool) (column : BlockColumn) → IsTotalOrder (λ x y. directed b (rank (f column x) (f column y)))
  directed_total false column = on_total (f column) rank_total
  directed_total true column = same_total (λ x y. rank (f column y) (f column x)) (λ x y. ordering_reverse (rank (f column x) (f column y))) (turned_back column) (back_total (on_total (f column) rank_total))

  pub order_total : (ks : Order) → IsTotalOrder (ranked_by f ks)
  order_total [] = point_total
  order_total (k ∷ ks) = then_total (directed_total k.descending k.column) (order_total ks)

  pub not_after_equal : (ks : Order) (a b : X) → ((k : SortKey) → In k ks → f k.column a ≡ f k.column b) → NotAfter f ks a b
  not_after_equal ks a b p = ap is_le (cmp_same f f ks a b a a (λ k i. refl) (λ k i. sym (p k i)) ∙ tied_itself (order_total ks) a)

  pub not_after_other : (ks : Order) (a b : X) → may_stand_before f ks a b ≡ false → NotAfter f ks b a
  not_after_other ks a b h = of_turn (ranked_by f ks a b) (ranked_by f ks b a) ((order_total ks).antisymm a b) h
    where
      of_turn : (o p : Ordering) → o ≡ ordering_reverse p → is_le o ≡ false → is_le p ≡ true
      of_turn o Less e h = refl
      of_turn o Equal e h = refl
      of_turn o Greater e h = absurd (true≢false (sym (ap is_le e) ∙ h))

  pub not_after_on : (ks : Order) (a b c : X) → NotAfter f ks a b → NotAfter f ks b c → NotAfter f ks a c
  not_after_on ks a b c h k = down _ (upto (order_total ks) a b c (up _ h) (up _ k))

  cmp_turned : (t : ℕ) (columns : List ℕ) (a b : X) → ranked_by f (index_keys t columns true) b a ≡ ranked_by f (index_keys t columns false) a b
  cmp_turned t [] a b = refl
  cmp_turned t (c ∷ cs) a b = ap₂ ordering_then (turned_back (record { table = t; number = c }) b a) (cmp_turned t cs a b)

  -- what ascends, descends from the other end
  pub not_after_turned : (t : ℕ) (columns : List ℕ) (a b : X) → NotAfter f (index_keys t columns false) a b → NotAfter f (index_keys t columns true) b a
  not_after_turned t columns a b h = ap is_le (cmp_turned t columns a b) ∙ h
