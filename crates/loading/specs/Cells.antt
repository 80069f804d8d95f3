-- What a push of a field does to a column.
use Rattle.std.specs.Prelude.{ℕ, ◌≡◌, List, [], ◌∷◌, ◌++◌, Ok, Err, ⊤}
use Rattle.definitions.specs.Value.{Value}
use Rattle.definitions.specs.Loading.{FieldLoads}
use Rattle.sqlvalue.specs.RefusalMeaning.{field_error_of}
use Rattle.sqlvalue.specs.declared.field.FieldFault.{FieldFault}
use Rattle.columns.specs.Cells.{CellList}
use Rattle.loading.specs.declared.fault.PushFault.{PushFault}
use Rattle.loading.specs.declared.fault.PushFault.TheVariants as p

-- one more cell has the value that a field loads as
abbrev pub PushesField : List ℕ → CellList → CellList → Type 0
PushesField field old new = (v : Value) × FieldLoads old.type field (Ok v)
    × (new ≡ record old { values = old.values ++ v ∷ [] })

-- the fault of a push has a property, if it is not want of memory
abbrev pub IfRefused : {F : Type 0} → (F → Type 0) → PushFault F → Type 0
IfRefused P (p.Refused fault) = P fault
IfRefused P p.Memory = ⊤

-- the field is refused
abbrev pub RefusesField : List ℕ → CellList → PushFault FieldFault → Type 0
RefusesField field old = IfRefused (λ f. FieldLoads old.type field (Err (field_error_of f)))
