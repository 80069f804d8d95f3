use Rattle.std.proofs.Common.{◌∙◌, refl, sym, ap, arith}
use Rattle.std.proofs.lemmas.List.{length-map}
use Rattle.definitions.specs.Table.{index_on}
use Rattle.parse_tree.specs.Trees.{name_of}
use Rattle.catalog.proofs.Rows.{of_view, indexes_many}
use Rattle.catalog.proofs.TableIndexes.{index_found, index_free}
use Rattle.catalog.proofs.table.Table.new_list.Goals as goal

pub returns-in-Some-index_place-clause-refused : goal.returns-in-Some-index_place-clause-refused
returns-in-Some-index_place-clause-refused c unique =
    let (taken, on) = index_found c.args.self.now.indexes c.as_slice.result.now c.in-Some-index_place.index (c.in-Some-index_place.ensures).place in (
      c.in-Ok.list.items,
      taken,
      (c.in-Ok.ensures).found,
      ap (index_on c.args.self.now.indexes) (sym c.as_slice.ensures.value) ∙ on,
    )

pub returns-clause-ok : goal.returns-clause-ok
returns-clause-ok c = record {
  some = omega (arith, (c.in-Ok.ensures).some, length-map c.args.names.now name_of);
  short = omega (arith, (c.in-Ok.ensures).short, length-map c.args.names.now name_of);
  found = (c.in-Ok.ensures).found;
  distinct = (c.in_default.ensures).none refl;
  free = ap (index_on c.args.self.now.indexes) (sym c.as_slice.ensures.value) ∙ index_free c.args.self.now.indexes c.as_slice.result.now (c.in_default-index_place.ensures).place;
  few = omega (arith, c.if-len-ge-MAX_INDEXES.false, c.len.ensures, c.self.inside.indexes.ok.0, indexes_many _ _ c.self.inside.len _ (of_view _ _ _ c.self.inside.len _ _ c.self.view_is));
}

pub returns-clause-there : goal.returns-clause-there
returns-clause-there c = record {
  some = omega (arith, (c.in-Ok.ensures).some, (c.in-Ok.ensures).many);
  short = omega (arith, (c.in-Ok.ensures).short, (c.in-Ok.ensures).many);
  there = (c.in-Ok.ensures).there;
}
