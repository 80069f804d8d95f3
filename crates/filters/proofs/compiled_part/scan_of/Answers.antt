use Rattle.std.proofs.Common.{◌∙◌, ap, sym, subst}
use Rattle.query_tree.specs.Bound.{condition_of}
use Rattle.query_tree.proofs.Views.{of_is_null}
use Rattle.filters.specs.Compiled.{IsScanOf}
use Rattle.filters.proofs.compiled_part.scan_of.Goals as goal

pub returns-in-IsNull-clause-same : goal.returns-in-IsNull-clause-same
returns-in-IsNull-clause-same c =
    let e = c.in-IsNull in
    subst (λ condition. IsScanOf c.args.table condition c.nulls_of.result) (sym (ap condition_of e.is ∙ of_is_null e.negated e.value)) c.nulls_of.ensures.same
