use Rattle.std.proofs.Common.{arith}
use Rattle.query_rules.specs.ScopeRules.{found_of}
use Rattle.query_rules.proofs.Columns.{added, added_all}
use Rattle.query_rules.proofs.table_columns.push_columns.Goals as goal

pub columns-preserved : goal.columns-preserved
columns-preserved c = added found_of c.columns.columns.items c.push.new.self.items c.column_at.result _ _ c.columns.number c.column_at.ensures c.in_ok-push.ensures.items c.columns.invariant

pub returns : goal.returns
returns c = added_all found_of c.columns.columns.items _ c.args.place c.columns.number c.args.table.now.columns (omega (arith, c.columns-test.false, c.width-number-end.ensures)) c.columns.invariant
