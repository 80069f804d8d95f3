use Rattle.std.proofs.Common.{◌≡◌, sym, ◌∙◌, ap, get_or, rules}
use Rattle.std.proofs.Math.Seq.{map-set_same}
use Rattle.std.proofs.lemmas.List.{length-set}
use Rattle.query_tree.specs.Bound.{column_of}
use Rattle.tuple_sort.specs.Keys.{packed_in, HasKey}
use Rattle.tuple_sort.specs.Packing.{row_in}
use Rattle.tuple_sort.specs.Values.{value_in_packed, value_in_row}
use Rattle.tuple_sort.proofs.KeyedRows.{next_keyed}
use Rattle.tuple_sort.proofs.sort_tuple.give_keys.Goals as goal

pub places-preserved : goal.places-preserved
places-preserved g c =
    let xs = c.places.keyed.items in
    let x = c.with_key.result in
    let d = c.index.result.now in
    let same : packed_in x ≡ packed_in (get_or xs c.places.place d) = c.with_key.ensures.rows ∙ ap packed_in c.index.ensures in
    let key : x.key ≡ c.in-Some.key = search rules in
    let row : c.row_in-row.result ≡ row_in c.args.members.now (packed_in x) c.args.column.table = c.row_in-row.ensures ∙ ap (λ rows. row_in c.args.members.now rows c.args.column.table) (c.as_slice.ensures ∙ sym c.with_key.ensures.rows) in
    let told : HasKey c.form_in-form.result (value_in_row c.args.source.now (column_of c.args.column) c.row_in-row.result) c.in-Some.key = rw c.cell.ensures at c.in-Some.ensures in
    let keyed : HasKey c.form_in-form.result (value_in_packed c.args.source.now c.args.members.now (column_of c.args.column) (packed_in x)) x.key =
    rw (key, ← row) told in (
      map-set_same packed_in xs c.places.place x d same ∙ c.places.invariant.0,
      length-set xs c.places.place x ∙ c.places.invariant.1,
      next_keyed c.args.source.now c.args.members.now (column_of c.args.column) c.form_in-form.result xs c.places.place x (search rules) keyed c.places.invariant.2,
    )
