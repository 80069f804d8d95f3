use Rattle.std.proofs.Common.{◌∙◌, ap, ◌+◌, length}
use Rattle.std.proofs.lemmas.List.{length_push}
use Rattle.subqueries.proofs.AllParameters.{still_none}
use Rattle.subqueries.proofs.parameters.empty_lists.Goals as goal

pub lists-preserved : goal.lists-preserved
lists-preserved c = record {
  count = ap length c.in_ok-push.ensures.items ∙ length_push c.lists.all.items c.new.result ∙ ap (λ n. n + 1) c.lists.invariant.count;
  empty = rw c.in_ok-push.ensures.items (still_none c.lists.all.items c.new.result c.new.ensures.items c.lists.invariant.empty);
}
