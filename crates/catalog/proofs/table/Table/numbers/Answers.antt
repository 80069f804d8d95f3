use Rattle.std.proofs.Common.{◌∙◌, ◌+◌, sym, ap, length, map, [], arith}
use Rattle.std.proofs.lemmas.List.{get_or-map, length-map, length_push}
use Rattle.definitions.specs.Table.{column_number}
use Rattle.parse_tree.specs.Trees.{name_of}
use Rattle.catalog.proofs.Lists.{numbers_further, numbers_none, number_is_position, there_push}
use Rattle.catalog.proofs.table.Table.numbers.Goals as goal

pub returns-in-None-clause-refused : goal.returns-in-None-clause-refused
returns-in-None-clause-refused c =
    numbers_none c.args.self.now.columns (map name_of c.args.names.now) c.loop-place.place [] (omega (arith, c.loop-place-test.true, length-map c.args.names.now name_of))
    (ap (column_number c.args.self.now.columns) (get_or-map name_of c.args.names.now c.loop-place.place c.index-names-place.result [] c.loop-place-test.true ∙ ap name_of (sym c.index-names-place.is) ∙ sym c.name.ensures)
    ∙ number_is_position c.name.result.now c.args.self.now.columns ∙ sym (c.in-None.ensures).first)

pub loop-place-preserved : goal.loop-place-preserved
loop-place-preserved c = record {
  found = numbers_further name_of c.args.self.now.columns c.args.names.now c.loop-place.place c.index-names-place.result c.name.result.now c.loop-place.numbers.items c.push.new.self.items c.in-Some.number c.loop-place-test.true c.index-names-place.is c.name.ensures
      c.loop-place.invariant.found (c.in-Some.ensures).first (c.in_ok-push-in-Some.ensures).items;
  there = rw (c.in_ok-push-in-Some.ensures).items (there_push (length c.args.self.now.columns) c.loop-place.numbers.items c.in-Some.number c.loop-place.invariant.there (c.in-Some.ensures).within);
  many = ap length (c.in_ok-push-in-Some.ensures).items ∙ length_push c.loop-place.numbers.items c.in-Some.number ∙ ap (λ n. n + 1) c.loop-place.invariant.many;
}
