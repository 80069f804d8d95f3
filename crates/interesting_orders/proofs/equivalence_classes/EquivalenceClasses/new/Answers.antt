use Rattle.std.proofs.Common.{◌≡◌, ◌∙◌, sym, map, length, rules}
use Rattle.std.proofs.lemmas.List.{length-map}
use Rattle.query_tree.specs.Bound.{column_of}
use Rattle.plan_tree.specs.Sets.{set_of}
use Rattle.interesting_orders.proofs.Classes.{IsRow, front_says}
use Rattle.interesting_orders.proofs.equivalence_classes.EquivalenceClasses.new.Goals as goal

pub returns : goal.returns
returns c = λ space e.
    let columns = map column_of c.args.columns.now in
    let equations = c.args.equations.now in
    let count = length-map c.args.columns.now column_of in
    let paired : length c.label.new.labels ≡ length c.args.columns.now = search rules in
    let row : IsRow (set_of c.args.tables) columns equations c.label.new.labels = record { sound = c.label.ensures.sound; joined = c.label.ensures.joined } in
    front_says space (set_of c.args.tables) columns equations c.label.new.labels e c.requires.distinct (rw count c.requires.between) row _ (paired ∙ sym count)
