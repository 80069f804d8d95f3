-- The bytes of a file have a list of records. That each loads as a row or is refused is not decided, so that one has no outcome is refuted.
use Prim.Native.Nat.{zero}
use Rattle.std.proofs.Common.{suc, ◌≡◌, ◌≢◌, refl, sym, ap, ℕ, ◌<◌, ◌⊎◌, inl, inr, List, [], ◌∷◌, ◌++◌, Option, Some, None, Result, Ok, Err, Bool, true, false, length, arith}
use Rattle.std.specs.Prelude.{IsTrue, ◌||◌, if◌then◌else◌}
use Rattle.std.proofs.lemmas.Bool.{cases_eq}
use Rattle.csv.specs.Reading.{AreRecords, Reached, default_config, strip_bom}
use Rattle.csv.specs.Machine.{Read, next_record, step, is_end, ends_at_end, fields_after, field_after}
use Rattle.csv.specs.declared.parser.Config.{Config}
use Rattle.csv.specs.declared.parser.State.{State}
use Rattle.csv.specs.declared.parser.State.TheVariants as st
use Rattle.definitions.specs.Value.{Value, Null, Number, Text, SqlType, kind_of}
use Rattle.definitions.specs.Refusal.{FieldError, BadText, Refusal, FieldCount, Field, NullOrRepeated}
use Rattle.definitions.specs.Table.{Column, Row, Table, may_be_null}
use Rattle.definitions.specs.Loading as f
use Rattle.definitions.specs.Loading.{Record, AreFileRecords, null_field, Writes, StoresAs, not_stored, FieldLoads, ColumnLoads, FieldsLoad, RecordReads, RecordLoads, repeats_key}
use Rattle.definitions.proofs.PlanTheory.LeastPlans.{undecided}

-- ---- records

-- what is left behind a record is shorter, or nothing
left_behind : (cfg : Config) (s : State) (fields : List (List ℕ)) (field xs : List ℕ) (p : Read) → next_record cfg s fields field xs ≡ Some p → (length p.2 < length xs) ⊎ ((p.1 ≡ st.StartRecord) × (p.2 ≡ []))
unfolding next_record
left_behind cfg s fields field [] p e = of_end (ends_at_end s) e
  where
    of_end : (b : Bool) → (if b then Some (fields ++ (field ∷ []), st.StartRecord, []) else None) ≡ Some p → (length p.2 < 0) ⊎ ((p.1 ≡ st.StartRecord) × (p.2 ≡ []))
    of_end true is = let same : (fields ++ (field ∷ []), st.StartRecord, []) ≡ p = cc in inr (ap (λ (q : Read). q.1) (sym same), ap (λ (q : Read). q.2) (sym same))
    of_end false is = absurd cc
left_behind cfg s fields field (c ∷ rest) p e = of_action (is_end (step cfg s c).1) (left_behind cfg (step cfg s c).0 (fields_after (step cfg s c).1 fields field) (field_after (step cfg s c).1 c field) rest p) e
  where
    later : (length p.2 < length rest) ⊎ ((p.1 ≡ st.StartRecord) × (p.2 ≡ [])) → (length p.2 < suc (length rest)) ⊎ ((p.1 ≡ st.StartRecord) × (p.2 ≡ []))
    later (inl less) = inl (omega (arith, less))
    later (inr none) = inr none

    of_action : (b : Bool) → (next_record cfg (step cfg s c).0 (fields_after (step cfg s c).1 fields field) (field_after (step cfg s c).1 c field) rest ≡ Some p → (length p.2 < length rest) ⊎ ((p.1 ≡ st.StartRecord) × (p.2 ≡ [])))
        → (if b then Some (fields_after (step cfg s c).1 fields field, (step cfg s c).0, rest) else next_record cfg (step cfg s c).0 (fields_after (step cfg s c).1 fields field) (field_after (step cfg s c).1 c field) rest) ≡ Some p
        → (length p.2 < suc (length rest)) ⊎ ((p.1 ≡ st.StartRecord) × (p.2 ≡ []))
    of_action true below is =
        let same : (fields_after (step cfg s c).1 fields field, (step cfg s c).0, rest) ≡ p = cc in
        let rest_is : p.2 ≡ rest = ap (λ (q : Read). q.2) (sym same) in
        inl (rw rest_is (omega arith))
    of_action false below is = later (below is)

nothing_left : (cfg : Config) → next_record cfg st.StartRecord [] [] [] ≡ None
unfolding next_record
nothing_left cfg = refl

records_exist : (cfg : Config) (n : ℕ) (s : State) (xs : List ℕ) → length xs < n → (rows : List Record) × AreRecords cfg s xs rows
unfolding Reached
records_exist cfg zero s xs lt = absurd (omega (arith, lt))
records_exist cfg (suc n) s xs lt = of_next (next_record cfg s [] [] xs) refl (λ p less. records_exist cfg n p.1 p.2 (omega (arith, lt, less)))
  where
    of_rest : (p : Read) → next_record cfg s [] [] xs ≡ Some p → (length p.2 < length xs) ⊎ ((p.1 ≡ st.StartRecord) × (p.2 ≡ []))
        → (length p.2 < length xs → (rows : List Record) × AreRecords cfg p.1 p.2 rows) → (rows : List Record) × AreRecords cfg s xs rows
    of_rest p e (inl less) more = let (rows, are) = more less in (p.0 ∷ rows, (are.0, are.1, (p, e, refl, are.2), are.3))
    of_rest p e (inr (starts, empty)) more = (p.0 ∷ [], (p.1, p.2, (p, e, refl, (refl, refl)), rw (starts, empty) (nothing_left cfg)))

    of_next : (o : Option Read) → next_record cfg s [] [] xs ≡ o → ((p : Read) → length p.2 < length xs → (rows : List Record) × AreRecords cfg p.1 p.2 rows) → (rows : List Record) × AreRecords cfg s xs rows
    of_next None e more = ([], (s, xs, (refl, refl), e))
    of_next (Some p) e more = of_rest p e (left_behind cfg s [] [] xs p e) (more p)

-- bytes have a list of records
pub file_records : (bytes : List ℕ) → (records : List Record) × AreFileRecords bytes records
file_records bytes = records_exist default_config (suc (length (strip_bom bytes))) st.StartRecord (strip_bom bytes) (omega arith)

-- ---- what a record loads as

some_field : (type : SqlType) (field : List ℕ) → ((o : Result Value FieldError) → FieldLoads type field o → ⊥) → ⊥
some_field type field none = undecided (field ≡ null_field) of_null
  where
    of_stored : (v : Value) (digits : ℕ) → field ≢ null_field → Writes (kind_of type) field v digits → ((w : Value) × StoresAs type v digits w) ⊎ ((w : Value) × StoresAs type v digits w → ⊥) → ⊥
    of_stored v digits other writes (inl (w, stores)) = none (Ok w) (f.stored v w digits other writes stores)
    of_stored v digits other writes (inr unfit) = none (Err (not_stored (kind_of type))) (f.unfit v digits other writes (λ w stores. unfit (w, stores)))

    of_written : field ≢ null_field → ((v : Value) × (digits : ℕ) × Writes (kind_of type) field v digits) ⊎ ((v : Value) × (digits : ℕ) × Writes (kind_of type) field v digits → ⊥) → ⊥
    of_written other (inl (v, digits, writes)) = undecided ((w : Value) × StoresAs type v digits w) (of_stored v digits other writes)
    of_written other (inr unwritten) = none (Err BadText) (f.unwritten other (λ v digits writes. unwritten (v, digits, writes)))

    of_null : (field ≡ null_field) ⊎ (field ≡ null_field → ⊥) → ⊥
    of_null (inl is) = none (Ok Null) (f.null is)
    of_null (inr other) = undecided ((v : Value) × (digits : ℕ) × Writes (kind_of type) field v digits) (of_written other)

or_true : (b : Bool) → IsTrue (b || true)
or_true true = refl
or_true false = refl

some_column : (c : Column) (field : List ℕ) → ((o : Result Value Refusal) → ColumnLoads c field o → ⊥) → ⊥
some_column c field none = some_field c.type field of_field
  where
    of_null : FieldLoads c.type field (Ok Null) → (b : Bool) → may_be_null c.constraint ≡ b → ⊥
    of_null loads true is = none (Ok Null) (f.loaded Null loads (rw is refl) refl)
    of_null loads false is = none (Err NullOrRepeated) (f.null loads is refl)

    of_field : (o : Result Value FieldError) → FieldLoads c.type field o → ⊥
    of_field (Err e) loads = none (Err (Field e)) (f.faulty e loads refl)
    of_field (Ok Null) loads = of_null loads (may_be_null c.constraint) refl
    of_field (Ok (Number units scale)) loads = none (Ok (Number units scale)) (f.loaded (Number units scale) loads (or_true (may_be_null c.constraint)) refl)
    of_field (Ok (Text codes)) loads = none (Ok (Text codes)) (f.loaded (Text codes) loads (or_true (may_be_null c.constraint)) refl)

some_fields : (cs : List Column) (fields : Record) → length fields ≡ length cs → ((o : Result Row Refusal) → FieldsLoad cs fields o → ⊥) → ⊥
some_fields [] [] e none = none (Ok []) f.none
some_fields [] (x ∷ xs) e none = absurd (omega (arith, e))
some_fields (c ∷ cs) [] e none = absurd (omega (arith, e))
some_fields (c ∷ cs) (x ∷ xs) e none = some_column c x (of_column (some_fields cs xs (omega (arith, e))))
  where
    of_rest : (v : Value) → ColumnLoads c x (Ok v) → (o : Result Row Refusal) → FieldsLoad cs xs o → ⊥
    of_rest v first (Ok row) rest = none (Ok (v ∷ row)) (f.next c cs x xs v row first rest)
    of_rest v first (Err r) rest = none (Err r) (f.later c cs x xs v r first rest)

    of_column : (((o : Result Row Refusal) → FieldsLoad cs xs o → ⊥) → ⊥) → (o : Result Value Refusal) → ColumnLoads c x o → ⊥
    of_column more (Ok v) first = more (of_rest v first)
    of_column more (Err r) first = none (Err r) (f.first c cs x xs r first)

some_reading : (columns : List Column) (fields : Record) → ((o : Result Row Refusal) → RecordReads columns fields o → ⊥) → ⊥
some_reading columns fields none = of_count (cases_eq (length fields) (length columns))
  where
    of_count : (length fields ≡ length columns) ⊎ (length fields ≢ length columns) → ⊥
    of_count (inl same) = some_fields columns fields same (λ o loads. none o (f.each same loads))
    of_count (inr other) = none (Err FieldCount) (f.count other refl)

pub some_record : (t : Table) (before : List Row) (fields : Record) → ((o : Result Row Refusal) → RecordLoads t before fields o → ⊥) → ⊥
some_record t before fields none = some_reading t.columns fields of_reading
  where
    of_keys : (row : Row) → RecordReads t.columns fields (Ok row) → (b : Bool) → repeats_key t.indexes before row ≡ b → ⊥
    of_keys row reads true is = none (Err NullOrRepeated) (f.repeated row reads is refl)
    of_keys row reads false is = none (Ok row) (f.row row reads is refl)

    of_reading : (o : Result Row Refusal) → RecordReads t.columns fields o → ⊥
    of_reading (Err r) reads = none (Err r) (f.unread r reads refl)
    of_reading (Ok row) reads = of_keys row reads (repeats_key t.indexes before row) refl
