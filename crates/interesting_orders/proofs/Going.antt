-- Orders that go by the columns of merges.
use Rattle.std.proofs.Common.{◌≡◌, sym, subst, ℕ, Option, Some, None}
use Rattle.definitions.specs.Plans.TableSet.{TableSet}
use Rattle.definitions.specs.Plans.Order.{BlockColumn, Order, ascending}
use Rattle.definitions.specs.Plans.Space.{Space}
use Rattle.definitions.specs.Plans.ColumnClass.{SameClass, Satisfies}
use Rattle.definitions.specs.Plans.PlanSpace.{IsMergeConjunct}
use Rattle.interesting_orders.specs.Places.{HasColumn}
use Rattle.interesting_orders.specs.Merges.{leading_of}
use Rattle.interesting_orders.specs.Equated.{column_in, columns_of, AreEquated, IsPlaceOf}
use Rattle.interesting_orders.specs.Uses.{IsUse}
use Rattle.interesting_orders.specs.declared.equated.EquatedColumns.{EquatedColumns}
use Rattle.interesting_orders.specs.declared.order_use.OrderUse.{OrderUse}
use Rattle.interesting_orders.proofs.Serving.{alone, equates_both, satisfied, leads, Leads}

module _ (space : Space) (e : EquatedColumns) (order : Order) (u : OrderUse) where
  -- an order that leads with no equated column goes by none
  pub no_lead : AreEquated space e → IsUse space e order u → u.lead ≡ None → (tables : TableSet) (x y : BlockColumn) (number : ℕ) → IsMergeConjunct space number x y → Satisfies space tables order (ascending x) → ⊥
  no_lead equated is none tables x y number merge s = of_leading (leading_of order) (subst (IsPlaceOf (columns_of e) (leading_of order)) none is.lead) (leads space tables order x s)
    where
      of_leading : (leading : Option BlockColumn) → IsPlaceOf (columns_of e) leading None → Leads space tables leading x → ⊥
      of_leading None is h = h
      of_leading (Some column) not_there same =
          not_there (subst (HasColumn (columns_of e)) (sym (alone space tables (columns_of e) equated.has column x not_there same)) (equates_both space tables (columns_of e) equated.has number x y merge.0).0)

  module _ (is : IsUse space e order u) (lead : ℕ) (found : u.lead ≡ Some lead) (tables : TableSet) (x : BlockColumn) where
    leading_is : IsPlaceOf (columns_of e) (leading_of order) (Some lead)
    leading_is = subst (IsPlaceOf (columns_of e) (leading_of order)) found is.lead

    pub goes : SameClass space tables (column_in e lead) x → Satisfies space tables order (ascending x)
    goes same = satisfied space tables order x (of_leading (leading_of order) leading_is)
      where
        of_leading : (leading : Option BlockColumn) → IsPlaceOf (columns_of e) leading (Some lead) → Leads space tables leading x
        of_leading None is = absurd cc
        of_leading (Some column) is = subst (λ c. SameClass space tables c x) is.1 same

    pub went : Satisfies space tables order (ascending x) → SameClass space tables (column_in e lead) x
    went s = of_leading (leading_of order) leading_is (leads space tables order x s)
      where
        of_leading : (leading : Option BlockColumn) → IsPlaceOf (columns_of e) leading (Some lead) → Leads space tables leading x → SameClass space tables (column_in e lead) x
        of_leading None is h = absurd h
        of_leading (Some column) is same = subst (λ c. SameClass space tables c x) (sym is.1) same
