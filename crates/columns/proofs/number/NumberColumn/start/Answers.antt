use Rattle.std.proofs.Common.{◌≡◌, ◌∙◌, ap, rules, FitsSigned}
use Rattle.std.specs.Int.{w128}
use Rattle.std.specs.Prelude.{not, ◌&&◌}
use Rattle.definitions.specs.IndexRun.{is_from, Inclusive, Exclusive}
use Rattle.definitions.specs.Value.{Number, scale_of, is_null}
use Rattle.std.proofs.lemmas.Int.{to_z-of_z}
use Rattle.columns.specs.Starts.{starts, limit_of}
use Rattle.columns.specs.declared.lower_bound.LowerBound.TheVariants as at
use Rattle.columns.proofs.Lookups.{from_number, above_number}
use Rattle.columns.proofs.number.NumberColumn.start.Goals as goal

pub returns-in-Included-Num-clause-some : goal.returns-in-Included-Num-clause-some
returns-in-Included-Num-clause-some c =
    let b : FitsSigned w128 c.nearest.result.below = search rules in
    let e : Inclusive (Number c.in-Included-Num.number.units c.in-Included-Num.number.scale) ≡ limit_of c.args.limit = search rules in
    let s : c.scale.result ≡ scale_of c.args.self.now.type = search rules in
    λ cell held. ap (λ x. starts (at.Above x) cell) (to_z-of_z w128 c.nearest.result.below b) ∙ (from_number c.args.self.now.type _ c.nearest.result.below _ c.scale.result s c.nearest.ensures.below cell held ∙ ap (λ l. not (is_null cell) && is_from l cell) e)

pub returns-in-Excluded-Num-clause-some : goal.returns-in-Excluded-Num-clause-some
returns-in-Excluded-Num-clause-some c =
    let b : FitsSigned w128 c.nearest-in-Excluded-Num.result.at_most = search rules in
    let e : Exclusive (Number c.in-Excluded-Num.number.units c.in-Excluded-Num.number.scale) ≡ limit_of c.args.limit = search rules in
    let s : c.scale-in-Excluded-Num.result ≡ scale_of c.args.self.now.type = search rules in
    λ cell held. ap (λ x. starts (at.Above x) cell) (to_z-of_z w128 c.nearest-in-Excluded-Num.result.at_most b) ∙ (above_number c.args.self.now.type _ c.nearest-in-Excluded-Num.result.at_most _ c.scale-in-Excluded-Num.result s c.nearest-in-Excluded-Num.ensures.at_most cell held ∙ ap (λ l. not (is_null cell) && is_from l cell) e)
