use Rattle.std.proofs.Common.{◌≡◌, ◌∙◌, ◌+◌, refl, sym, ap, arith}
use Rattle.std.specs.Vec.{with_items}
use Rattle.std.specs.String.{string_bytes}
use Rattle.std.proofs.lemmas.List.{with_items_is}
use Rattle.definitions.specs.Table.{column_names}
use Rattle.definitions.specs.Invariant.{IsTable}
use Rattle.indexes.specs.Meaning.{table_statistics_of}
use Rattle.catalog.specs.Tables.{table_of}
use Rattle.catalog.proofs.Rows.{of_view}
use Rattle.catalog.proofs.TableGrowth.{LoadedTable, loading_own, loaded_own, types_now, own_refusal, columns_back, columns_long}
use Rattle.catalog.proofs.table.Table.load.Given.{Over}
use Rattle.catalog.proofs.table.Table.load.Goals as goal

-- ---- the rows came

pub overflow_add-self : goal.overflow_add-self
overflow_add-self g c =
    let now = (loading_own (string_bytes c.self.inside.name) c.args.bytes.now c.self.inside.columns.items c.deref_mut.result.now c.grow.new.columns c.grow.new.columns c.self.inside.indexes.items c.deref.result.now c.self.inside.len (table_statistics_of c.self.inside.statistics) c.args.self.now c.in-Ok.field-0 c.self.view_is c.self.invariant.filled c.self.invariant.ordered
    c.deref_mut.ensures.value c.deref.ensures.value (c.in-Ok.ensures).ok refl).1 in
    omega (arith, now.few)

pub table_statistics-self-inside-requires-clause-few : goal.table_statistics-self-inside-requires-clause-few
table_statistics-self-inside-requires-clause-few g c =
    let now = (loading_own (string_bytes c.self.inside.name) c.args.bytes.now c.self.inside.columns.items c.deref_mut.result.now c.grow.new.columns c.grow.new.columns c.self.inside.indexes.items c.deref.result.now c.self.inside.len (table_statistics_of c.self.inside.statistics) c.args.self.now c.in-Ok.field-0 c.self.view_is c.self.invariant.filled c.self.invariant.ordered
    c.deref_mut.ensures.value c.deref.ensures.value (c.in-Ok.ensures).ok refl).1 in
    now.few

pub table_statistics-self-inside-requires-clause-types : goal.table_statistics-self-inside-requires-clause-types
table_statistics-self-inside-requires-clause-types g c =
    let now = (loading_own (string_bytes c.self.inside.name) c.args.bytes.now c.self.inside.columns.items c.deref_mut.result.now c.grow.new.columns c.deref-in-Ok.result.now c.self.inside.indexes.items c.deref.result.now c.self.inside.len (table_statistics_of c.self.inside.statistics) c.args.self.now c.in-Ok.field-0 c.self.view_is c.self.invariant.filled c.self.invariant.ordered
    c.deref_mut.ensures.value c.deref.ensures.value (c.in-Ok.ensures).ok (c.deref-in-Ok.ensures.value ∙ with_items_is c.self.inside.columns c.grow.new.columns (c.grow.auto.columns ∙ c.deref_mut.ensures.len))).1 in
    let valid : IsTable c.args.self.now = rw c.self.view_is at c.self.invariant.valid in
    (types_now _ _ _ _ _ valid now).0

pub table_statistics-self-inside-requires-clause-narrow : goal.table_statistics-self-inside-requires-clause-narrow
table_statistics-self-inside-requires-clause-narrow g c =
    let now = (loading_own (string_bytes c.self.inside.name) c.args.bytes.now c.self.inside.columns.items c.deref_mut.result.now c.grow.new.columns c.deref-in-Ok.result.now c.self.inside.indexes.items c.deref.result.now c.self.inside.len (table_statistics_of c.self.inside.statistics) c.args.self.now c.in-Ok.field-0 c.self.view_is c.self.invariant.filled c.self.invariant.ordered
    c.deref_mut.ensures.value c.deref.ensures.value (c.in-Ok.ensures).ok (c.deref-in-Ok.ensures.value ∙ with_items_is c.self.inside.columns c.grow.new.columns (c.grow.auto.columns ∙ c.deref_mut.ensures.len))).1 in
    let valid : IsTable c.args.self.now = rw c.self.view_is at c.self.invariant.valid in
    (types_now _ _ _ _ _ valid now).1

loaded : (g : Over) (c : goal.After-self-in-Ok-2-1 g) → LoadedTable (string_bytes c.self.inside.name) c.args.bytes.now (with_items c.self.inside.columns c.grow.new.columns).items c.in-Ok.field-0.indexes.items (c.self.inside.len + c.in-Ok.field-0.rows) c.in-Ok.field-0.rows
    (table_statistics_of c.table_statistics-self-inside.result) c.args.self.now
loaded g c =
    let valid : IsTable c.args.self.now = rw c.self.view_is at c.self.invariant.valid in
    loaded_own (string_bytes c.self.inside.name) c.args.bytes.now c.self.inside.columns.items c.deref_mut.result.now c.grow.new.columns (with_items c.self.inside.columns c.grow.new.columns).items c.self.inside.indexes.items c.deref.result.now c.self.inside.len
    (table_statistics_of c.self.inside.statistics) (table_statistics_of c.table_statistics-self-inside.result) c.args.self.now c.in-Ok.field-0 c.self.view_is c.self.invariant.filled c.self.invariant.ordered valid
    c.deref_mut.ensures.value c.deref.ensures.value (c.in-Ok.ensures).ok (with_items_is c.self.inside.columns c.grow.new.columns (c.grow.auto.columns ∙ c.deref_mut.ensures.len))
    (rw c.deref-in-Ok.ensures.value at c.table_statistics-self-inside.ensures)

pub invariant_of-self : goal.invariant_of-self
invariant_of-self g c =
    let t = loaded g c in
    record {
      filled = t.filled;
      named = c.self.invariant.named ∙ ap column_names (sym (of_view _ _ _ c.self.inside.len _ _ c.self.view_is).columns ∙ sym t.columns);
      few = t.few;
      ordered = t.ordered;
      valid = t.valid;
    }

pub returns-in-Ok-clause-ok : goal.returns-in-Ok-clause-ok
returns-in-Ok-clause-ok g c = (loaded g c).loads

-- ---- they did not

pub returns-in-Err-clause-refused : goal.returns-in-Err-clause-refused
returns-in-Err-clause-refused g c =
    own_refusal c.args.bytes.now c.self.inside.columns.items c.deref_mut.result.now c.self.inside.indexes.items c.deref.result.now c.self.inside.len c.args.self.now c.in-Err.fault c.deref_mut.ensures.value c.deref.ensures.value
    (c.in-Err.ensures).refused (of_view _ _ _ c.self.inside.len _ _ c.self.view_is)

pub cut_columns-requires : goal.cut_columns-requires
cut_columns-requires g c = columns_long c.self.inside.columns.items c.deref_mut.result.now c.grow.new.columns _ c.self.inside.len c.self.invariant.filled c.deref_mut.ensures.value (c.in-Err.ensures).err
    (c.deref_mut-in-Err.ensures.value ∙ with_items_is c.self.inside.columns c.grow.new.columns (c.grow.auto.columns ∙ c.deref_mut.ensures.len))

-- the columns are as they were
back : (g : Over) (c : goal.After-self-in-Err-1 g) → (with_items (with_items c.self.inside.columns c.grow.new.columns) c.cut_columns.new.columns).items ≡ c.self.inside.columns.items
back g c =
    columns_back c.self.inside.columns.items c.deref_mut.result.now c.grow.new.columns _ _ c.cut_columns.new.columns c.self.inside.len c.self.invariant.filled c.deref_mut.ensures.value (c.in-Err.ensures).err
    (c.deref_mut-in-Err.ensures.value ∙ with_items_is c.self.inside.columns c.grow.new.columns (c.grow.auto.columns ∙ c.deref_mut.ensures.len))
    c.cut_columns.ensures
    (with_items_is (with_items c.self.inside.columns c.grow.new.columns) c.cut_columns.new.columns (c.cut_columns.auto.columns ∙ c.deref_mut-in-Err.ensures.len))

pub invariant_of-self-in-Err : goal.invariant_of-self-in-Err
invariant_of-self-in-Err g c = record { filled = rw (back g c) c.self.invariant.filled; named = rw (back g c) c.self.invariant.named; few = c.self.invariant.few; ordered = rw (back g c) c.self.invariant.ordered; valid = rw (back g c) c.self.invariant.valid }

pub returns-in-Err-clause-err : goal.returns-in-Err-clause-err
returns-in-Err-clause-err g c =
    ap (λ cs. table_of (string_bytes c.self.inside.name) cs c.self.inside.indexes.items c.self.inside.len (table_statistics_of c.self.inside.statistics)) (back g c) ∙ c.self.view_is
