-- What a number is stored as, or why it is not.
use Rattle.std.proofs.Common.{◌≡◌, ◌≢◌, refl, ℕ, List, Ok, Err, true, false}
use Rattle.std.specs.Prelude.{bytes_eq, IsTrue, not, ◌||◌, ◌&&◌, Bool, Result}
use Rattle.std.proofs.lemmas.Slice.Eq.{bytes_eq-Decides}
use Rattle.definitions.specs.Value.{Value, Null, Number, Text, SqlType, Numbers, kind_of, is_null}
use Rattle.definitions.specs.Table.{Column, may_be_null}
use Rattle.definitions.specs.Loading as load
use Rattle.definitions.specs.Loading.{FieldLoads, ColumnLoads, not_stored, null_field}
use Rattle.definitions.specs.Refusal.{FieldError, BadText, OutOfRange, TooLong, NullOrRepeated, Field}
use Rattle.loading.specs.Fields.{number_of, IsEqualOf, WritesShort, Stores, StoresNone, Unfit}
use Rattle.loading.specs.declared.written_number.WrittenNumber.{WrittenNumber}

pub stored_number : (type : SqlType) (field : List ℕ) (w : WrittenNumber) (v : Value) → kind_of type ≡ Numbers → WritesShort field w → IsEqualOf type (number_of w) v → Stores type field v
stored_number type field w v k s e = (number_of w, s.0, rw k s.1, (e.0, e.1, s.2))

pub unfit_number : (type : SqlType) (field : List ℕ) (w : WrittenNumber) → kind_of type ≡ Numbers → WritesShort field w → ((v : Value) → IsEqualOf type (number_of w) v → ⊥) → StoresNone type field OutOfRange
unfit_number type field w k s none = ((number_of w, s.0, rw k s.1, λ v h. none v (h.0, h.1)), rw k refl)

-- what a field loads as
pub null_loads : (type : SqlType) (field : List ℕ) → bytes_eq field null_field ≡ true → FieldLoads type field (Ok Null)
null_loads type field h = load.null ((bytes_eq-Decides field null_field).0 h)

not_null : (field : List ℕ) → bytes_eq field null_field ≡ false → field ≢ null_field
not_null field h e = let k : bytes_eq field null_field ≡ true = (bytes_eq-Decides field null_field).1 e in cc

pub stored_loads : (type : SqlType) (field : List ℕ) (v : Value) → bytes_eq field null_field ≡ false → Stores type field v → FieldLoads type field (Ok v)
stored_loads type field v h s = load.stored s.0 v s.1 (not_null field h) s.2 s.3

unfit_loads : (type : SqlType) (field : List ℕ) (e : FieldError) → bytes_eq field null_field ≡ false → Unfit type field → e ≡ not_stored (kind_of type) → FieldLoads type field (Err e)
unfit_loads type field e h u k = rw k (load.unfit u.0 u.1 (not_null field h) u.2 u.3)

pub refused_loads : (type : SqlType) (field : List ℕ) (error : FieldError) → bytes_eq field null_field ≡ false → StoresNone type field error → FieldLoads type field (Err error)
refused_loads type field BadText h none = load.unwritten (not_null field h) none
refused_loads type field OutOfRange h u = unfit_loads type field _ h u.0 u.1
refused_loads type field TooLong h u = unfit_loads type field _ h u.0 u.1

-- ---- what a field loads as in a column, which may ask that it is not null

loaded_is_not_null : (type : SqlType) (field : List ℕ) (o : Result Value FieldError) (v : Value) → FieldLoads type field o → o ≡ Ok v → field ≢ null_field → is_null v ≡ false
loaded_is_not_null type field o v (load.null e) h n = absurd (n e)
loaded_is_not_null type field o Null (load.stored w x digits n' g s) h n = let k : x ≡ Null = cc in let clash = rw k at s.1 in absurd cc
loaded_is_not_null type field o (Number u m) (load.stored w x digits n' g s) h n = refl
loaded_is_not_null type field o (Text t) (load.stored w x digits n' g s) h n = refl
loaded_is_not_null type field o v (load.unfit w digits n' g s) h n = absurd cc
loaded_is_not_null type field o v (load.unwritten n' g) h n = absurd cc

kept : (may null : Bool) → ((may ≡ false) → null ≡ false) → IsTrue (may || not null)
kept true null h = refl
kept false true h = absurd (let k : true ≡ false = h refl in cc)
kept false false h = refl

-- where null may stand, or the field is not null
pub column_loads : (c : Column) (field : List ℕ) (v : Value) → FieldLoads c.type field (Ok v) → ((may_be_null c.constraint ≡ false) → bytes_eq field null_field ≡ false) → ColumnLoads c field (Ok v)
column_loads c field v l h = load.loaded v l (kept (may_be_null c.constraint) (is_null v) (λ n. loaded_is_not_null c.type field (Ok v) v l refl (not_null field (h n)))) refl

both_hold : (m b : Bool) → (not m && b) ≡ true → (m ≡ false) × (b ≡ true)
both_hold false true h = (refl, refl)
both_hold false false h = absurd cc
both_hold true b h = absurd cc

pub not_null_where : (m b : Bool) → (not m && b) ≡ false → m ≡ false → b ≡ false
not_null_where false false h n = refl
not_null_where false true h n = absurd cc
not_null_where true b h n = absurd cc

pub null_refused : (c : Column) (field : List ℕ) → (not (may_be_null c.constraint) && bytes_eq field null_field) ≡ true → ColumnLoads c field (Err NullOrRepeated)
null_refused c field h =
    let (n, is) = both_hold (may_be_null c.constraint) (bytes_eq field null_field) h in
    load.ColumnLoads.null (null_loads c.type field is) n refl

pub column_faulty : (c : Column) (field : List ℕ) (e : FieldError) → FieldLoads c.type field (Err e) → ColumnLoads c field (Err (Field e))
column_faulty c field e l = load.faulty e l refl
