use Rattle.std.proofs.Common.{◌≡◌, ◌∙◌, sym, ap₂, true, rules, FitsSigned}
use Rattle.std.specs.Int.{w64}
use Rattle.definitions.specs.Value.{rank, scale_of}
use Rattle.columns.proofs.Lookups.{present_number, number_absence, units_rank, nulls_rank}
use Rattle.columns.proofs.number.NumberColumn.rank.Goals as goal
use Rattle.columns.proofs.number.NumberColumn.rank.Goals.{in_default-via-then-is_filled+else-is_filled-2, in_default-via-else-is_filled}

pub returns-in-true-true : goal.returns-in-true-true
returns-in-true-true c =
    let x : FitsSigned w64 c.index.result.now = search rules in
    let y : FitsSigned w64 c.index-in-true-true.result.now = search rules in
    let a = present_number _ _ _ _ c.args.a _ c.self.invariant.paired c.self.view_is c.is_filled.ensures.value c.index.result.now (search rules) (search rules) c.index.ensures in
    let b = present_number _ _ _ _ c.args.b _ c.self.invariant.paired c.self.view_is c.is_filled-2.ensures.value c.index-in-true-true.result.now (search rules) (search rules) c.index-in-true-true.ensures in
    c.cmp.ensures ∙ units_rank c.index.result.now c.index-in-true-true.result.now (scale_of c.args.self.now.type) ∙ sym (ap₂ rank a b)

pub returns-in_default : goal.returns-in_default
returns-in_default c =
    let a = number_absence _ _ _ _ c.args.a _ c.self.invariant.paired c.self.view_is c.is_filled.ensures.value in
    let b = number_absence _ _ _ _ c.args.b _ c.self.invariant.paired c.self.view_is c.is_filled-2.ensures.value in
    let n : c.is_filled.result ≡ true → c.is_filled-2.result ≡ true → ⊥ = elim c.in_default-1.branch [ in_default-via-then-is_filled+else-is_filled-2 w ↦ λ h l. search rules | in_default-via-else-is_filled w ↦ λ h l. search rules ] in
    c.cmp-in_default.ensures ∙ nulls_rank _ _ _ _ a b n
