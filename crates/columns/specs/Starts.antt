-- Look-ups in an ordered column.
use Rattle.std.specs.Prelude.{ℕ, ◌≡◌, ◌≤◌, ◌<◌, Bool, true, false, not, int_le, List, Option, Some, None}
use Rattle.std.specs.Prelude.{slice_index_or, FitsSigned, is_none}
use Rattle.std.specs.Int.{w64}
use Rattle.std.specs.Ordering.{is_ge, is_gt}
use Rattle.std.specs.declared.ops.Bound.{Bound}
use Rattle.std.specs.declared.ops.Bound.TheVariants.{Included, Excluded, Unbounded}
use Rattle.definitions.specs.Value.{Value, Null, Number, Text, SqlType, Numbers, Texts, kind_of, scale_of, compare}
use Rattle.definitions.specs.Value.{text_cmp, is_null}
use Rattle.definitions.specs.IndexRun.{Limit, Unlimited, Inclusive, Exclusive}
use Rattle.sqlvalue.specs.Meaning.{value_of}
use Rattle.sqlvalue.specs.declared.value.Value as code
use Rattle.columns.specs.Cells.{CellList}
use Rattle.columns.specs.declared.lower_bound.LowerBound.{LowerBound}
use Rattle.columns.specs.declared.lower_bound.LowerBound.TheVariants as s

-- the value in a row; null past the end
abbrev pub value_in : CellList → ℕ → Value
value_in column row = slice_index_or column.values row Null

-- a text or null
abbrev pub option_text : Option (List ℕ) → Value
option_text None = Null
option_text (Some codes) = Text codes

-- where a range begins or ends
abbrev pub limit_of : Bound code.Value → Limit
limit_of Unbounded = Unlimited
limit_of (Included value) = Inclusive (value_of value)
limit_of (Excluded value) = Exclusive (value_of value)

-- whether a value is one of those that begin there
abbrev pub starts : LowerBound → Value → Bool
starts s.Filled Null = false
starts s.Filled (Number units scale) = true
starts s.Filled (Text codes) = true
starts (s.Above limit) (Number units scale) = not (int_le units limit)
starts (s.Above limit) _ = false
starts (s.From text) (Text codes) = is_ge (text_cmp codes text.now)
starts (s.From text) _ = false
starts (s.Behind text) (Text codes) = is_gt (text_cmp codes text.now)
starts (s.Behind text) _ = false

-- what a column of a type may hold: null, numbers of 64 bits at its scale, texts
abbrev pub IsHeld : SqlType → Value → Type 0
IsHeld type Null = Unit {0}
IsHeld type (Number units scale) = (kind_of type ≡ Numbers) × (scale ≡ scale_of type) × FitsSigned w64 units
IsHeld type (Text codes) = kind_of type ≡ Texts

-- no value of a type compares with a limit's
abbrev pub AreApart : SqlType → Limit → Type 0
AreApart type Unlimited = ⊥
AreApart type (Inclusive value) = (cell : Value) → IsHeld type cell → compare cell value ≡ None
AreApart type (Exclusive value) = (cell : Value) → IsHeld type cell → compare cell value ≡ None

-- each value of a type compares with a limit's, unless it is null
abbrev pub AreMet : SqlType → Limit → Type 0
AreMet type Unlimited = Unit {0}
AreMet type (Inclusive value) = (cell : Value) → IsHeld type cell → is_none (compare cell value) ≡ is_null cell
AreMet type (Exclusive value) = (cell : Value) → IsHeld type cell → is_none (compare cell value) ≡ is_null cell

-- of places from one on up to another, those that pass a test stand last
abbrev pub AreOrdered : (ℕ → Bool) → (first end : ℕ) → Type 0
AreOrdered test first end = (i j : ℕ) → first ≤ i → i ≤ j → j < end → test i ≡ true → test j ≡ true

-- a place parts those that fail a test from those that pass it
pub record Splits (test : ℕ → Bool) (first end at : ℕ) : Type 0 where
  pub from : first ≤ at
  pub to : at ≤ end
  pub fail : (i : ℕ) → first ≤ i → i < at → test i ≡ false
  pub pass : (i : ℕ) → at ≤ i → i < end → test i ≡ true
