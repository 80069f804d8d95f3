use Rattle.std.proofs.Common.{◌∙◌, ap, ◌+◌, ◌-◌, length, map, take, drop}
use Rattle.std.specs.Prelude.{bytes_eq}
use Rattle.std.specs.List.{list_any}
use Rattle.catalog.proofs.Lists.{twins_here, distinct_further, distinct_here}
use Rattle.catalog.proofs.naming.second_twin.Goals as goal

pub returns-then-has_name-clause-twins : goal.returns-then-has_name-clause-twins
returns-then-has_name-clause-twins g c a =
    twins_here g.T.Named.named c.args.items.now c.loop-i.i c.index-items-i.result c.has_name.result c.loop-i-test.true
    (c.has_name.ensures ∙ ap (λ n. list_any (bytes_eq n) (map g.T.Named.named (take (length c.args.items.now - (c.loop-i.i + 1)) (drop (c.loop-i.i + 1) c.args.items.now)))) (c.name.ensures ∙ ap g.T.Named.named c.index-items-i.is))
    c.if-has_name.true (c.loop-i.invariant.down a)

pub loop-i-preserved : goal.loop-i-preserved
loop-i-preserved g c = record {
  down = λ a. distinct_further g.T.Named.named c.args.items.now c.loop-i.i c.index-items-i.result c.loop-i-test.true (c.loop-i.invariant.down a);
  up = λ a. c.loop-i.invariant.up (distinct_here g.T.Named.named c.args.items.now c.loop-i.i c.index-items-i.result c.has_name.result c.loop-i-test.true
      (c.has_name.ensures ∙ ap (λ n. list_any (bytes_eq n) (map g.T.Named.named (take (length c.args.items.now - (c.loop-i.i + 1)) (drop (c.loop-i.i + 1) c.args.items.now)))) (c.name.ensures ∙ ap g.T.Named.named c.index-items-i.is))
      c.if-has_name.false a);
}
