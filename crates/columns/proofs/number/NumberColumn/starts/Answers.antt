use Rattle.std.proofs.Common.{◌∙◌, sym, ap, false, rules, to_z-of_z, FitsSigned, int_lt}
use Rattle.std.specs.Int.{w64, w128}
use Rattle.columns.specs.Starts.{starts}
use Rattle.columns.proofs.Lookups.{present_number, absent_number, never_null, number_there, filled_starts, above_starts, texts_start}
use Rattle.columns.proofs.number.NumberColumn.starts.Goals as goal

pub returns-then-not-is_filled : goal.returns-then-not-is_filled
returns-then-not-is_filled c =
    let a = absent_number _ _ _ _ c.args.row _ c.self.invariant.paired c.self.view_is c.is_filled.ensures.value (search rules) in
    sym (never_null c.args.start.now) ∙ ap (starts c.args.start.now) (sym a)

pub returns-in-Filled : goal.returns-in-Filled
returns-in-Filled c = filled_starts _ _ _ _ _ c.in-Filled.is (number_there _ _ _ _ c.args.row _ c.self.invariant.paired c.self.view_is c.is_filled.ensures.value) c.if-not-is_filled.false

pub returns-in-Above : goal.returns-in-Above
returns-in-Above c =
    let u : FitsSigned w64 c.index.result.now = search rules in
    let w : FitsSigned w128 c.from.result = search rules in
    let l : FitsSigned w128 c.in-Above.units = search rules in
    let e = simp to_z-of_z at c.from.ensures in
    let a = present_number _ _ _ _ c.args.row _ c.self.invariant.paired c.self.view_is c.is_filled.ensures.value c.index.result.now (search rules) (search rules) c.index.ensures in
    simp to_z-of_z (ap (int_lt c.in-Above.units) e ∙ above_starts _ _ _ _ _ c.in-Above.is a)

pub returns-in-From : goal.returns-in-From
returns-in-From c = texts_start _ _ _ _ _ c.in-From.is (number_there _ _ _ _ c.args.row _ c.self.invariant.paired c.self.view_is c.is_filled.ensures.value)

pub returns-in-From-2 : goal.returns-in-From-2
returns-in-From-2 c = texts_start _ _ _ _ _ c.in-From.is (number_there _ _ _ _ c.args.row _ c.self.invariant.paired c.self.view_is c.is_filled.ensures.value)
