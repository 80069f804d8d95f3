use Rattle.std.proofs.Common.{◌∙◌, ap}
use Rattle.told_tests.specs.ToldTests.{comparison_of}
use Rattle.told_tests.proofs.ToldPlaces.{all_met, none_raised, units_passing, units_quiet}
use Rattle.told_tests.proofs.told_test.ToldTest.passing_places.Goals as goal

pub returns-clause-passing : goal.returns-clause-passing
returns-clause-passing c outer results late own =
    let asked = ap comparison_of c.in-Compared.is in
    c.in-Some.ensures.passing ∙ all_met c.args.source.now outer results c.args.self.now c.in-Compared.op c.in-Compared.number asked late own c.args.batch.now.items

pub returns-clause-quiet : goal.returns-clause-quiet
returns-clause-quiet c outer results late own =
    let asked = ap comparison_of c.in-Compared.is in
    none_raised c.args.source.now outer results c.args.self.now c.in-Compared.op c.in-Compared.number asked late own c.args.batch.now.items

pub returns-2-clause-passing : goal.returns-2-clause-passing
returns-2-clause-passing c = units_passing c.args.source.now c.args.self.now c.args.batch.now.items c.places_by_units.result c.places_by_units.new.places c.places_by_units.ensures.passing c.places_by_units.ensures.tested

pub returns-2-clause-quiet : goal.returns-2-clause-quiet
returns-2-clause-quiet c = units_quiet c.args.source.now c.args.self.now c.args.batch.now.items c.places_by_units.result c.places_by_units.ensures.tested
