use Rattle.std.proofs.Common.{◌≤◌, ◌∙◌, sym, ap, take, arith}
use Rattle.std.proofs.lemmas.List.FromFn.{take-map-range_with_len}
use Rattle.columns.specs.NullBits.{null_flag}
use Rattle.columns.proofs.NullFlags.{rows_counted}
use Rattle.columns.proofs.null_bits.NullBits.truncate.Goals as goal

pub invariant_of-self : goal.invariant_of-self
invariant_of-self c =
    let counted = rows_counted c.self.inside.words.items c.self.inside.len _ c.self.view_is in
    record { enough = omega (arith, counted, c.requires, c.self.invariant.enough) }

pub returns : goal.returns
returns c =
    let words = c.self.inside.words.items in
    let fewer : c.args.rows ≤ c.self.inside.len = omega (arith, rows_counted words c.self.inside.len _ c.self.view_is) in
    sym (take-map-range_with_len (null_flag words) 0 c.self.inside.len c.args.rows fewer) ∙ ap (take c.args.rows) c.self.view_is
