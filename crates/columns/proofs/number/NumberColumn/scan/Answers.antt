use Rattle.std.proofs.Common.{◌∙◌, sym, ap, arith}
use Rattle.definitions.specs.Value.{number_cmp}
use Rattle.definitions.specs.Truth.{agrees}
use Rattle.sqlvalue.specs.Meaning.{op_of}
use Rattle.columns.specs.Ranges.{is_in}
use Rattle.columns.proofs.Scans.{number_rows, others_of_part, scanned_numbers, unlike_numbers, unlike_number, part_by_ends}
use Rattle.columns.proofs.number.NumberColumn.scan.Goals as goal

pub word-nulls-requires-clause-within : goal.word-nulls-requires-clause-within
word-nulls-requires-clause-within c = (number_rows _ c.self.inside.units.items c.self.inside.nulls _ c.args.first c.args.rows c.self.invariant.paired c.self.view_is c.requires.within).1

pub returns-in_default : goal.returns-in_default
returns-in_default c =
    let (met, unknown) = unlike_numbers _ c.self.inside.units.items c.self.inside.nulls _ c.args.first c.args.rows (op_of c.args.op) _ _ c.self.invariant.paired c.self.view_is c.requires.within (unlike_number _ _ c.in_default.not-Num) c.all_rows.ensures in
    record { met = met; unknown = unknown }

pub overflow_add-first : goal.overflow_add-first
overflow_add-first c = let rows = (number_rows _ c.self.inside.units.items c.self.inside.nulls _ c.args.first c.args.rows c.self.invariant.paired c.self.view_is c.requires.within).0 in omega (arith, rows, c.self.inside.units.ok.0)

pub offset_bounds-deref-first : goal.offset_bounds-deref-first
offset_bounds-deref-first c = let rows = (number_rows _ c.self.inside.units.items c.self.inside.nulls _ c.args.first c.args.rows c.self.invariant.paired c.self.view_is c.requires.within).0 in omega (arith, rows, c.self.inside.units.ok.0)

pub slice_bounds-range_word-end : goal.slice_bounds-range_word-end
slice_bounds-range_word-end c = let rows = (number_rows _ c.self.inside.units.items c.self.inside.nulls _ c.args.first c.args.rows c.self.invariant.paired c.self.view_is c.requires.within).0 in omega (arith, rows, c.deref.ensures.len, c.self.inside.units.ok.0)

pub overflow_sub-result : goal.overflow_sub-result
overflow_sub-result c = (others_of_part c.args.first c.args.rows c.self.inside.nulls _ _ (number_rows _ c.self.inside.units.items c.self.inside.nulls _ c.args.first c.args.rows c.self.invariant.paired c.self.view_is c.requires.within).1 c.word-nulls.ensures c.all_rows-2.ensures).0

pub returns-clause-met : goal.returns-clause-met
returns-clause-met c = rw c.in-Num.is (scanned_numbers _ c.self.inside.units.items c.self.inside.nulls _ c.args.first c.args.rows (op_of c.args.op) _ _ (is_in c.range_of-range.result) _ _ _ _ c.self.invariant.paired c.self.view_is c.self.invariant.ranged c.requires.within
    (λ u fits. ap (λ s. agrees (op_of c.args.op) (number_cmp u s c.in-Num.number.units c.in-Num.number.scale)) (sym c.scale.ensures.value) ∙ c.range_of-range.ensures u fits)
    (part_by_ends _ _ c.args.first c.args.rows c.deref.ensures.value) c.range_word-met.ensures c.word-nulls.ensures c.all_rows-2.ensures).0

pub returns-clause-unknown : goal.returns-clause-unknown
returns-clause-unknown c = rw c.in-Num.is (scanned_numbers _ c.self.inside.units.items c.self.inside.nulls _ c.args.first c.args.rows (op_of c.args.op) _ _ (is_in c.range_of-range.result) _ _ _ _ c.self.invariant.paired c.self.view_is c.self.invariant.ranged c.requires.within
    (λ u fits. ap (λ s. agrees (op_of c.args.op) (number_cmp u s c.in-Num.number.units c.in-Num.number.scale)) (sym c.scale.ensures.value) ∙ c.range_of-range.ensures u fits)
    (part_by_ends _ _ c.args.first c.args.rows c.deref.ensures.value) c.range_word-met.ensures c.word-nulls.ensures c.all_rows-2.ensures).1
