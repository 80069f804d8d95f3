-- Orders that serve for others, and the columns that they lead with.
use Rattle.std.proofs.Common.{◌≡◌, ◌∙◌, refl, sym, subst, ℕ, ◌+◌, ◌<◌, inl, inr, List, [], ◌∷◌, Bool, true, false, Option, Some, None, cond, drop, get_or, length, arith}
use Rattle.std.specs.Prelude.{◌↔◌}
use Rattle.std.proofs.lemmas.List.{get_or_default}
use Rattle.estimate.proofs.Places.{at_place}
use Rattle.definitions.specs.Plans.TableSet.{TableSet}
use Rattle.definitions.specs.Plans.Order.{BlockColumn, Order, ascending}
use Rattle.definitions.specs.Plans.Space.{Space}
use Rattle.definitions.specs.Plans.ColumnClass.{Equates, SameClass, itself, chain, Satisfies}
use Rattle.definitions.proofs.PlanTheory.Orders.{same_turned}
use Rattle.plan_tree.specs.Plans.{key_of, order_of}
use Rattle.plan_tree.specs.declared.order.SortKey.{SortKey}
use Rattle.interesting_orders.specs.Places.{HasColumn, HasSides, HaveSides, IsPlace}
use Rattle.interesting_orders.specs.Merges.{leading_of}
use Rattle.interesting_orders.proofs.Stated.{has_sides}

module _ (space : Space) (tables : TableSet) where
  -- ---- key by key

  pub too_long : (keys wanted : List SortKey) → length keys < length wanted → Satisfies space tables (order_of keys) (order_of wanted) → ⊥
  too_long [] [] lt h = absurd (omega (arith, lt))
  too_long [] (w ∷ ws) lt h = h
  too_long (k ∷ ks) [] lt h = absurd (omega (arith, lt))
  too_long (k ∷ ks) (w ∷ ws) lt h = too_long ks ws (omega (arith, lt)) h.2

  abbrev pub Serves : SortKey → SortKey → Type 0
  Serves k w = ((key_of k).descending ≡ (key_of w).descending) × SameClass space tables (key_of k).column (key_of w).column

  -- one key further: the next ones serve, and those behind them
  pub next_key : (keys wanted : List SortKey) (i : ℕ) (key want d d' : SortKey) → i < length keys → i < length wanted → key ≡ get_or keys i d → want ≡ get_or wanted i d'
      → Satisfies space tables (order_of (drop i keys)) (order_of (drop i wanted)) ↔ (Serves key want × Satisfies space tables (order_of (drop (i + 1) keys)) (order_of (drop (i + 1) wanted)))
  next_key keys wanted i key want d d' hk hw ek ew =
      let here = at_place keys i key hk (ek ∙ get_or_default keys i d key hk) in
      let there = at_place wanted i want hw (ew ∙ get_or_default wanted i d' want hw) in
      rw (here, there) ((λ s. ((s.0, s.1), s.2)), (λ p. (p.0.0, p.0.1, p.1)))

  -- ---- columns that are not equated are alone

  pub equates_both : (columns : List BlockColumn) → HaveSides columns space.conjuncts → (number : ℕ) (x y : BlockColumn) → Equates space number x y → HasColumn columns x × HasColumn columns y
  equates_both columns have number x y (c, is, early, inl e) = subst (HasSides columns) (has_sides c (x, y) early e) (have number c is)
  equates_both columns have number x y (c, is, early, inr e) = let both : HasSides columns (Some (y, x)) = subst (HasSides columns) (has_sides c (y, x) early e) (have number c is) in (both.1, both.0)

  pub alone : (columns : List BlockColumn) → HaveSides columns space.conjuncts → (x y : BlockColumn) → (HasColumn columns x → ⊥) → SameClass space tables x y → x ≡ y
  alone columns have x y not_there (itself x') = refl
  alone columns have x z not_there (chain number x' y z' e hx hy r) = absurd (not_there (equates_both columns have number x y e).0)

  pub apart_left : (columns : List BlockColumn) → HaveSides columns space.conjuncts → (x y : BlockColumn) → (x ≡ y → ⊥) → IsPlace columns x None → SameClass space tables x y → ⊥
  apart_left columns have x y differ not_there same = differ (alone columns have x y not_there same)

  pub apart_right : (columns : List BlockColumn) → HaveSides columns space.conjuncts → (x y : BlockColumn) → (x ≡ y → ⊥) → IsPlace columns y None → SameClass space tables x y → ⊥
  apart_right columns have x y differ not_there same = differ (sym (alone columns have y x not_there (same_turned space tables x y same)))

  -- ---- the column that an order leads with

  abbrev pub Leads : Option BlockColumn → BlockColumn → Type 0
  Leads None x = ⊥
  Leads (Some column) x = SameClass space tables column x

  pub satisfied : (order : Order) (x : BlockColumn) → Leads (leading_of order) x → Satisfies space tables order (ascending x)
  satisfied [] x h = h
  satisfied (key ∷ rest) x h = by_direction key.descending refl h
    where
      by_direction : (b : Bool) → key.descending ≡ b → Leads (cond b None (Some key.column)) x → Satisfies space tables (key ∷ rest) (ascending x)
      by_direction true e h = absurd h
      by_direction false e h = (e, h, tt)

  pub leads : (order : Order) (x : BlockColumn) → Satisfies space tables order (ascending x) → Leads (leading_of order) x
  leads [] x h = h
  leads (key ∷ rest) x h = subst (λ b. Leads (cond b None (Some key.column)) x) (sym h.0) h.1
