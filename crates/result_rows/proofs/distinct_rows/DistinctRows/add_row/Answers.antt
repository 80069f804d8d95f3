use Rattle.std.proofs.Common.{◌≡◌, ◌∷◌, true, subst, ℤ}
use Rattle.std.specs.Int.{w64}
use Rattle.std.proofs.lemmas.Int.{to_z-of_z}
use Rattle.result_lines.specs.RowAt.{items_of, row_in}
use Rattle.result_lines.specs.SeenUnits.{has_unit}
use Rattle.result_rows.proofs.DistinctOnce.{number_added, number_repeats, row_added}
use Rattle.result_lines.proofs.Repeats.{always, both}
use Rattle.result_rows.proofs.distinct_rows.DistinctRows.add_row.Goals as goal

pub returns-in_default : goal.returns-in_default
returns-in_default g c =
    both c.add_line.result c.add_line.ensures.lines c.add_line.ensures.bounded
    (λ lines bounded names rows env at' h. row_added names rows (row_in env (items_of c.args.items.now)) c.args.self.now c.add_line.new.self h (bounded env at') c.add_line.ensures.header c.add_line.ensures.seen c.add_line.ensures.scale (lines env at'))

pub returns-then-has : goal.returns-then-has
returns-then-has g c names rows env at' h =
    number_repeats names rows (row_in env (items_of c.args.items.now)) c.args.self.now c.in-Some.unit (c.in-Some.ensures.row env at') c.in-Some.ensures.ranged (subst (λ u. has_unit c.args.self.now.seen u ≡ true) (to_z-of_z w64 c.in-Some.unit c.in-Some.ensures.ranged) (c.has.ensures c.if-has.true)) h

pub returns : goal.returns
returns g c =
    let seen = c.args.self.now.seen in
    let unit = c.in-Some.unit in
    let noted : (other : ℤ) → has_unit c.note.new.self other ≡ true → has_unit (unit ∷ seen) other ≡ true = λ other k.
    subst (λ us. has_unit (unit ∷ us) other ≡ true) c.add_line-2.ensures.seen (subst (λ u. has_unit (u ∷ c.add_line-2.new.self.seen) other ≡ true) (to_z-of_z w64 unit c.in-Some.ensures.ranged) (c.note.ensures other k)) in
    always c.note.result
    (λ names rows env at' h. number_added names rows (row_in env (items_of c.args.items.now)) c.args.self.now (record c.add_line-2.new.self { seen = c.note.new.self }) h unit (c.in-Some.ensures.row env at')
    (c.in_ok-add_line.ensures.bounded env at') c.add_line-2.ensures.header c.add_line-2.ensures.scale (c.in_ok-add_line.ensures.lines env at') noted)
