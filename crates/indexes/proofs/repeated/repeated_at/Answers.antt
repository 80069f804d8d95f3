use Rattle.std.proofs.Common.{◌<◌, ◌+◌, get_or, sym, rules}
use Rattle.indexes.specs.Keys.{columns_of, height}
use Rattle.indexes.proofs.FirstRepeated.{old_apart}
use Rattle.indexes.proofs.repeated.repeated_at.Goals as goal

pub returns-then-row-old : goal.returns-then-row-old
returns-then-row-old c =
    let h : get_or c.args.rows.now (c.args.place + 1) 0 < c.args.old = search rules in
    sym (old_apart (columns_of c.args.keys.now) c.args.rows.now (height (columns_of c.args.keys.now)) c.requires.same c.requires.rising c.args.old c.args.place c.requires.once c.requires.within h)
