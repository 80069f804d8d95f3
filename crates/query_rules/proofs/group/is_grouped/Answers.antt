use Rattle.std.proofs.Common.{◌∙◌, sym, arith}
use Rattle.query_rules.proofs.Grouping.{scan_decides, no_groups, no_having}
use Rattle.query_rules.proofs.group.is_grouped.Goals as goal

pub returns : goal.returns
returns c = scan_decides c.args.query.now c.list_holds_function.result (no_groups c.args.query.now.groups.items _ (sym c.is_empty.ensures ∙ c.if-not-is_empty.false) (omega (arith, c.args.query.now.groups.ok.0))) (no_having c.args.query.now.having (sym c.is_some.ensures ∙ c.if-is_some.false)) c.list_holds_function.ensures
