-- Rows of places, one for each order, of sets of tables.
use Rattle.std.specs.Prelude.{ℕ, ◌+◌, ◌<◌, ◌≤◌, ◌≡◌, ◌≢◌, Bool, Option, Some, None, List, length, get_or, nat_lt, false, if◌then◌else◌}
use Rattle.definitions.specs.Plans.Order.{OrderNumber}
use Rattle.join_dp.specs.Costs.{Costs, unknown}

-- what stands at the place of an order in a row; where there is none it is the same for all
abbrev pub item_in : {X : Type 0} → (none : X) → (orders : ℕ) → List X → Option ℕ → OrderNumber → X
item_in none orders items None order = none
item_in none orders items (Some start) order = if nat_lt order orders then get_or items (start + order) none else none

abbrev pub costs_in : ℕ → List (Option ℕ) → List ℕ → List Bool → Costs
costs_in orders rows costs settled = record {
  sets = length rows;
  orders = orders;
  cost = λ tables order. item_in unknown orders costs (get_or rows tables None) order;
  settled = λ tables order. item_in false orders settled (get_or rows tables None) order;
}

-- rows are within so many places, and no two have a place in common
pub record AreRows (orders : ℕ) (rows : List (Option ℕ)) (size : ℕ) : Type 0 where
  pub within : (tables start : ℕ) → get_or rows tables None ≡ Some start → start + orders ≤ size
  pub apart : (a b start other : ℕ) → a ≢ b → get_or rows a None ≡ Some start → get_or rows b None ≡ Some other
      → start ≤ other → start + orders ≤ other

-- there are so many flags, and all behind them are false
pub record AreClearBehind (size : ℕ) (settled : List Bool) : Type 0 where
  pub enough : size ≤ length settled
  pub clear : (place : ℕ) → size ≤ place → get_or settled place false ≡ false

-- each state has what it had
abbrev pub AreSame : {X : Type 0} → (none : X) → (orders : ℕ) → List (Option ℕ) → List X → List (Option ℕ) → List X → Type 0
AreSame none orders rows items rows' items' = (tables : ℕ) (order : OrderNumber)
    → item_in none orders items' (get_or rows' tables None) order ≡ item_in none orders items (get_or rows tables None) order

-- items stand as they did, and behind them one so many times
pub record AreBehind {X : Type 0} (item : X) (old new : List X) (count : ℕ) : Type 0 where
  pub size : length new ≡ length old + count
  pub kept : (place : ℕ) → place < length old → get_or new place item ≡ get_or old place item
  pub all : (place : ℕ) → length old ≤ place → get_or new place item ≡ item
