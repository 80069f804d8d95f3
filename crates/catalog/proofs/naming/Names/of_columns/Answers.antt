use Rattle.std.proofs.Common.{◌∙◌, sym, ap, map}
use Rattle.std.proofs.lemmas.List.{take_all}
use Rattle.definitions.specs.Table.{AreDistinct}
use Rattle.parse_tree.specs.Trees.{name_of}
use Rattle.parse_tree.specs.declared.statement.ColumnDefinition.{ColumnDefinition}
use Rattle.catalog.proofs.Creating.{names_alike}
use Rattle.catalog.proofs.NamesInOrder.{next_is_new}
use Rattle.catalog.proofs.naming.Names.of_columns.Goals as goal

pub push-requires : goal.push-requires
push-requires c =
    let distinct : AreDistinct (map (λ (d : ColumnDefinition). name_of d.name) c.args.definitions.now) = rw (← names_alike c.args.definitions.now) c.requires in
    next_is_new (λ (d : ColumnDefinition). name_of d.name) c.args.definitions.now c.loop-definition.definition-index c.definition-item.result c.loop-definition.names c.as_str.result.now distinct c.loop-definition-test.true c.definition-item.is c.loop-definition.invariant
    c.as_str.ensures.value

pub returns : goal.returns
returns c =
    c.loop-definition.invariant ∙ ap (map (λ (d : ColumnDefinition). name_of d.name)) (take_all c.loop-definition.definition-index c.args.definitions.now c.loop-definition-test.false) ∙ sym (names_alike c.args.definitions.now)
