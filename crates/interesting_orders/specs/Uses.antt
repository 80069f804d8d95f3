-- What the uses of this crate say of a space.
use Rattle.std.specs.Prelude.{ℕ, ◌≡◌, ◌≢◌, List, [], Option, Some, None, option_map}
use Rattle.std.specs.Bool.{Decides}
use Rattle.definitions.specs.Plans.TableSet.{TableSet, no_tables}
use Rattle.definitions.specs.Plans.Order.{Order}
use Rattle.definitions.specs.Plans.Space.{Space, whole}
use Rattle.definitions.specs.Plans.ColumnClass.{Satisfies}
use Rattle.plan_tree.specs.Sets.{set_of}
use Rattle.interesting_orders.specs.Each.{AreEach}
use Rattle.interesting_orders.specs.Reach.{key_tables, AreThose}
use Rattle.interesting_orders.specs.Merges.{leading_of, IsOpened, IsPartner}
use Rattle.interesting_orders.specs.Equated.{column_in, AreClassesOf, AreEquated, IsLead}
use Rattle.interesting_orders.specs.declared.equivalence_classes.EquivalenceClasses.{EquivalenceClasses}
use Rattle.interesting_orders.specs.declared.equated.EquatedColumns.{EquatedColumns}
use Rattle.interesting_orders.specs.declared.order_use.OrderUse.{OrderUse}
use Rattle.interesting_orders.specs.declared.interesting_orders.InterestingOrders.{InterestingOrders}

-- what one order serves for
pub record IsUse (space : Space) (e : EquatedColumns) (order : Order) (u : OrderUse) : Type 0 where
  pub lead : IsLead e order u.lead
  pub tables : option_map set_of u.tables ≡ key_tables (Some no_tables) order
  pub partners : AreThose (IsPartner space (leading_of order)) (option_map set_of u.partners)
  pub gives : Decides u.gives_required (Satisfies space (whole space) order space.required)

-- the same by the classes under all tables and the order that is asked for
abbrev pub IsUseOf : EquatedColumns → EquivalenceClasses → Order → Order → OrderUse → Type 0
IsUseOf e classes required order u = (space : Space) → AreEquated space e → AreClassesOf space (whole space) e classes
    → space.required ≡ required → IsUse space e order u

abbrev pub AreUsesOf : EquatedColumns → EquivalenceClasses → Order → List Order → List OrderUse → Type 0
AreUsesOf e classes required = AreEach (λ (order : Order) (u : OrderUse). IsUseOf e classes required order u)

-- the tables that merges bring which go by the column at a place
abbrev pub IsReached : Space → EquatedColumns → TableSet → Option ℕ → ℕ → Type 0
IsReached space e tables None table = ⊥
IsReached space e tables (Some place) table = IsOpened space tables (column_in e place) table

pub record AreUses (space : Space) (u : InterestingOrders) : Type 0 where
  pub equated : AreEquated space u.equated
  pub orders : AreEach (λ (order : Order) (d : OrderUse). IsUse space u.equated order d) space.orders u.orders.items
  pub asked : Decides u.asked (space.required ≢ [])

-- the classes of the columns that its conjuncts equate, under a set of tables
abbrev pub AreClassesIn : Space → TableSet → InterestingOrders → EquivalenceClasses → Type 0
AreClassesIn space tables u classes = AreClassesOf space tables u.equated classes
