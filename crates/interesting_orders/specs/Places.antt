-- The columns that conjuncts equate, and their places in a list.
use Rattle.std.specs.Prelude.{ℕ, ◌<◌, ◌≤◌, ◌≡◌, ⊤, List, Option, Some, None, if◌then◌else◌, length, slice_get}
use Rattle.std.specs.Prelude.{filter_map}
use Rattle.std.specs.Option.{ForSome}
use Rattle.definitions.specs.Plans.Order.{BlockColumn}
use Rattle.definitions.specs.Plans.Conjunct.{Conjunct}
use Rattle.interesting_orders.specs.Labels.{column_at, IsBetween}
use Rattle.interesting_orders.specs.Classes.{AreDistinct}
use Rattle.interesting_orders.specs.declared.equivalence_classes.Equality.{Equality}
use Rattle.interesting_orders.specs.Each.{AreEach}

-- what an early conjunct equates
abbrev pub sides_of : Conjunct → Option (BlockColumn × BlockColumn)
sides_of c = if c.early then c.equated else None

-- ---- columns in a list

abbrev pub HasColumn : List BlockColumn → BlockColumn → Type 0
HasColumn columns column = (place : ℕ) × (place < length columns) × (column_at columns place ≡ column)

abbrev pub IsPlace : List BlockColumn → BlockColumn → Option ℕ → Type 0
IsPlace columns column None = HasColumn columns column → ⊥
IsPlace columns column (Some place) = (place < length columns) × (column_at columns place ≡ column)

abbrev pub HasSides : List BlockColumn → Option (BlockColumn × BlockColumn) → Type 0
HasSides columns None = ⊤
HasSides columns (Some (x, y)) = HasColumn columns x × HasColumn columns y

-- those of all conjuncts are there
abbrev pub HaveSides : List BlockColumn → List Conjunct → Type 0
HaveSides columns conjuncts = (number : ℕ) (c : Conjunct) → slice_get conjuncts number ≡ Some c
    → HasSides columns (sides_of c)

-- columns are added at the end, none twice
pub record IsGrown (old new : List BlockColumn) : Type 0 where
  pub longer : length old ≤ length new
  pub kept : (place : ℕ) → place < length old → column_at new place ≡ column_at old place
  pub distinct : AreDistinct old → AreDistinct new

-- ---- equations by places

abbrev pub IsEquation : List BlockColumn → Option (BlockColumn × BlockColumn) → Option Equality → Type 0
IsEquation columns None None = ⊤
IsEquation columns None (Some e) = ⊥
IsEquation columns (Some (x, y)) None = HasSides columns (Some (x, y)) → ⊥
IsEquation columns (Some (x, y)) (Some e) = IsBetween (length columns) e × (column_at columns e.left ≡ x)
    × (column_at columns e.right ≡ y)

abbrev pub AreBetween : ℕ → Option Equality → Type 0
AreBetween count e = ForSome e (IsBetween count)

-- by number those that the conjuncts say
abbrev pub AreStated : List BlockColumn → List Conjunct → List (Option Equality) → Type 0
AreStated columns = AreEach (λ (c : Conjunct) (e : Option Equality). IsEquation columns (sides_of c) e)

abbrev pub given : List (Option Equality) → List Equality
given = filter_map (λ e. e)
