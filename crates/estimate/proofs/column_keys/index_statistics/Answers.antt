use Rattle.std.proofs.Common.{◌∙◌, sym, ap, [], ◌∷◌, Some}
use Rattle.std.specs.Prelude.{option_map}
use Rattle.definitions.specs.Table as spec
use Rattle.estimate.proofs.OwnIndex.{found, passed, statistics_bounded}
use Rattle.estimate.proofs.column_keys.index_statistics.Goals as goal

pub returns-then-is_on-clause-exact : goal.returns-then-is_on-clause-exact
returns-then-is_on-clause-exact c =
    let index = c.index-index.result.now.index in
    let own = found (c.args.column ∷ []) c.args.table.now.indexes c.indexes.number index c.index-index.ensures.exact c.indexes.invariant (sym c.is_on.ensures ∙ c.if-is_on.true) in
    ap (λ (f : spec.IndexStatistics). Some f) c.statistics.ensures ∙ sym (ap (option_map (λ (i : spec.Index). i.statistics)) own)

pub returns-then-is_on-clause-bounded : goal.returns-then-is_on-clause-bounded
returns-then-is_on-clause-bounded c =
    statistics_bounded c.args.table.now c.indexes.number c.index-index.result.now.index c.statistics.result c.len-len.ensures.valid c.index-index.ensures.exact c.statistics.ensures

pub indexes-preserved : goal.indexes-preserved
indexes-preserved c =
    passed (c.args.column ∷ []) c.args.table.now.indexes c.indexes.number c.index-index.result.now.index c.index-index.ensures.exact c.indexes.invariant (sym c.is_on.ensures ∙ c.if-is_on.false)
