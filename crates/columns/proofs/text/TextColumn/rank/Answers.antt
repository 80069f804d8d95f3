use Rattle.std.proofs.Common.{◌≡◌, ◌∙◌, sym, ap₂, rules, length}
use Rattle.definitions.specs.Value.{rank, Text}
use Rattle.std.specs.Ordering.{nat_cmp}
use Rattle.std.specs.Cmp.Lexicographic.{slice_cmp}
use Rattle.columns.specs.Starts.{value_in}
use Rattle.columns.proofs.Lookups.{codes_rank}
use Rattle.columns.proofs.text.TextColumn.rank.Goals as goal

pub returns-in-Some-Some : goal.returns-in-Some-Some
returns-in-Some-Some c =
    let x : value_in c.args.self.now c.args.a ≡ Text c.in-Some-Some.x.now = search rules in
    let y : value_in c.args.self.now c.args.b ≡ Text c.in-Some-Some.y.now = search rules in
    let n : length c.in-Some-Some.x.now ≡ length c.in-Some-Some.y.now = search rules in
    let o : c.cmp.result ≡ slice_cmp nat_cmp c.in-Some-Some.x.now c.in-Some-Some.y.now = search rules in
    o ∙ codes_rank c.in-Some-Some.x.now c.in-Some-Some.y.now n ∙ sym (ap₂ rank x y)
