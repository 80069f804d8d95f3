use Rattle.std.proofs.Common.{◌∙◌, ap₂, arith, rules}
use Rattle.std.specs.Int.{w64, w128}
use Rattle.std.specs.Prelude.{FitsSigned}
use Rattle.std.proofs.lemmas.Int.{to_z-of_z}
use Rattle.definitions.specs.Value.{Number}
use Rattle.columns.proofs.NumberLists.{in_numbers, null_in_numbers, number_in_numbers}
use Rattle.columns.proofs.number.NumberColumn.cell.Goals as goal

pub is_null-requires : goal.is_null-requires
is_null-requires c =
    let n = c.self.inside in
    (in_numbers _ n.units.items n.nulls _ _ c.self.invariant.paired c.self.view_is c.requires).1

pub returns-then-is_null : goal.returns-then-is_null
returns-then-is_null c = null_in_numbers _ _ _ _ _ _ c.self.invariant.paired c.self.view_is c.requires c.is_null.ensures c.if-is_null.true

pub index-requires : goal.index-requires
index-requires c =
    let n = c.self.inside in
    omega (arith, n.units.ok.0, (in_numbers _ n.units.items n.nulls _ _ c.self.invariant.paired c.self.view_is c.requires).0)

pub returns : goal.returns
returns c =
    let fits : FitsSigned w64 c.index.result.now = search rules in
    let wide : FitsSigned w128 c.from.result = search rules in
    ap₂ Number (to_z-of_z w128 _ wide ∙ c.from.ensures ∙ to_z-of_z w64 _ fits) c.scale.ensures.value
    ∙ number_in_numbers _ _ _ _ _ _ _ c.self.invariant.paired c.self.view_is c.requires c.index.ensures c.is_null.ensures c.if-is_null.false
