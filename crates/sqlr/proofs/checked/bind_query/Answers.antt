use Rattle.sqlvalue.specs.RefusalMeaning.{refusal_of}
use Rattle.parse_tree.specs.Trees.{select_of}
use Rattle.sqlr.proofs.CheckingRuns.{query_refused}
use Rattle.sqlr.proofs.checked.bind_query.Goals as goal

pub returns-in_ok-printed-in-Err-Refused : goal.returns-in_ok-printed-in-Err-Refused
returns-in_ok-printed-in-Err-Refused c = record {
  bound = query_refused c.args.database.now (select_of c.args.query.now) c.in_ok-printed-in-Err-Refused.printed (refusal_of c.refusal.result) (rw c.refusal.ensures (rw c.in-Err-Refused.field-0-is at c.in-Err-Refused.ensures.refused)) c.in_ok-printed-in-Err-Refused.ensures.text c.in_ok-printed-in-Err-Refused.ensures.ended;
}
