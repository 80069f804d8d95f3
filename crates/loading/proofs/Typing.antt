-- Rows that records read as have values of their columns' types, and no null where none may be.
use Rattle.std.proofs.Common.{◌≡◌, refl, List, [], ◌∷◌, Result, Ok, ℕ}
use Rattle.std.specs.Prelude.{IsTrue, not, ◌||◌}
use Rattle.std.specs.List.{AllByRecursion}
use Rattle.definitions.specs.Value.{Value, Null, SqlType, HasType, is_null}
use Rattle.definitions.specs.Refusal.{Refusal, FieldError}
use Rattle.definitions.specs.Loading as load
use Rattle.definitions.specs.Loading.{Record, FieldLoads, ColumnLoads, FieldsLoad, RecordReads, AllRead}
use Rattle.definitions.specs.Table.{Column, Row, IsRow, may_be_null}
use Rattle.definitions.specs.Invariant.{KeepsNullsOut}

null_typed : (type : SqlType) → HasType type Null
null_typed type = tt

typed_field : (type : SqlType) (field : List ℕ) (o : Result Value FieldError) (v : Value) → FieldLoads type field o → o ≡ Ok v → HasType type v
typed_field type field o v (load.null e) h = let k : Null ≡ v = cc in rw (← k) (null_typed type)
typed_field type field o v (load.stored w x digits n g s) h = let k : x ≡ v = cc in rw (← k) s.0
typed_field type field o v (load.unfit w digits n g s) h = absurd cc
typed_field type field o v (load.unwritten n g) h = absurd cc

typed_column : (c : Column) (field : List ℕ) (o : Result Value Refusal) (v : Value) → ColumnLoads c field o → o ≡ Ok v → HasType c.type v
typed_column c field o v (load.ColumnLoads.loaded w l n e) h = let k : w ≡ v = cc in rw (← k) (typed_field c.type field (Ok w) w l refl)
typed_column c field o v (load.ColumnLoads.null l n e) h = absurd cc
typed_column c field o v (load.ColumnLoads.faulty x l e) h = absurd cc

kept_column : (c : Column) (field : List ℕ) (o : Result Value Refusal) (v : Value) → ColumnLoads c field o → o ≡ Ok v → IsTrue (may_be_null c.constraint || not (is_null v))
kept_column c field o v (load.ColumnLoads.loaded w l n e) h = let k : w ≡ v = cc in rw (← k) n
kept_column c field o v (load.ColumnLoads.null l n e) h = absurd cc
kept_column c field o v (load.ColumnLoads.faulty x l e) h = absurd cc

typed_fields : (columns : List Column) (fields : Record) (o : Result Row Refusal) (row : Row) → FieldsLoad columns fields o → o ≡ Ok row → IsRow columns row × KeepsNullsOut columns row
typed_fields columns fields o row load.FieldsLoad.none h = let k : [] ≡ row = cc in rw (← k) (tt, tt)
typed_fields columns fields o row (load.FieldsLoad.next c cs f fs v more l s) h =
    let k : v ∷ more ≡ row = cc in
    let rest = typed_fields cs fs (Ok more) more s refl in
    rw (← k) ((typed_column c f (Ok v) v l refl, rest.0), (kept_column c f (Ok v) v l refl, rest.1))
typed_fields columns fields o row (load.first c cs f fs e l) h = absurd cc
typed_fields columns fields o row (load.later c cs f fs v r l s) h = absurd cc

-- the row of a record
pub typed_record : (columns : List Column) (fields : Record) (row : Row) → RecordReads columns fields (Ok row) → IsRow columns row × KeepsNullsOut columns row
typed_record columns fields row (load.count h e) = absurd cc
typed_record columns fields row (load.each h s) = typed_fields columns fields (Ok row) row s refl

-- and those of records
pub typed_all : (columns : List Column) (records : List Record) (rows : List Row) → AllRead columns records rows → AllByRecursion (IsRow columns) rows
typed_all columns records rows load.AllRead.none = tt
typed_all columns records rows (load.AllRead.next one more row rest r a) = ((typed_record columns one row r).0, typed_all columns more rest a)

pub kept_all : (columns : List Column) (records : List Record) (rows : List Row) → AllRead columns records rows → AllByRecursion (KeepsNullsOut columns) rows
kept_all columns records rows load.AllRead.none = tt
kept_all columns records rows (load.AllRead.next one more row rest r a) = ((typed_record columns one row r).1, kept_all columns more rest a)
