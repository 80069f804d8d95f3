-- The state of all tables at which a search ends, and how many states there are.
use Rattle.std.specs.Prelude.{ℕ, ◌≡◌, List, length, All}
use Rattle.definitions.specs.Plans.TableSet.{TableSet}
use Rattle.definitions.specs.Plans.Order.{OrderNumber}
use Rattle.definitions.specs.Plans.Space.{Space, whole, order_at}
use Rattle.definitions.specs.Plans.ColumnClass.{Satisfies}
use Rattle.definitions.specs.Plans.Folding.{Folds}
use Rattle.definitions.specs.Plans.Certificate.{StateCost, AreStates}

-- a state of all tables that gives the required order
abbrev pub IsFinal : Space → TableSet → OrderNumber → Type 0
IsFinal space tables order = (tables ≡ whole space) × Satisfies space (whole space) (order_at space order) space.required

-- so many states of the space there are, at least, each with a folded order and none twice
abbrev pub AreSolutions : Space → ℕ → Type 0
AreSolutions space count = (states : List StateCost) × AreStates space states
    × All (λ (state : StateCost). Folds space state.tables state.order state.order) states × (length states ≡ count)
