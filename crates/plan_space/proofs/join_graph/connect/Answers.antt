use Rattle.std.proofs.Common.{◌≡◌, ◌∙◌, sym, subst, true, false}
use Rattle.definitions.specs.Plans.TableSet.{TableSet}
use Rattle.definitions.specs.Estimates.BlockTables.{is_within}
use Rattle.plan_tree.specs.Sets.{set_of}
use Rattle.plan_space.proofs.Sets.{connect_if_within}
use Rattle.plan_tree.proofs.Tests.{has_it}
use Rattle.plan_space.proofs.join_graph.connect.Goals as goal
use Rattle.plan_space.proofs.join_graph.connect.Goals.{then-has, else-has}

pub returns-then-meets : goal.returns-then-meets
returns-then-meets c =
    let tables = set_of c.args.tables in
    elim c.if-has.branch [
      | then-has w ↦ (
          connect_if_within tables (set_of c.args.set) c.args.table c.is_within.result
          (has_it tables c.args.table (sym c.has.ensures ∙ w.if-has.true))
          (w.meets.ensures.0 (sym w.value-is ∙ c.if-meets.true))
          (subst (λ (s : TableSet). c.is_within.result ≡ is_within tables s) c.with.ensures c.is_within.ensures))
      | else-has w ↦ let no : false ≡ true = sym w.if-has.false ∙ sym w.value-is ∙ c.if-meets.true in absurd cc
    ]
