use Rattle.filters.proofs.TestViews.{part_compares}
use Rattle.filters.proofs.compiled_filter.CompiledFilter.comparisons.Goals as goal

pub returns-in-Compared : goal.returns-in-Compared
returns-in-Compared c = λ table is.
    part_compares table c.args.self.now c.in-Part.part c.in-Compared.comparisons c.in-Part.is c.in-Compared.is is
