use Rattle.std.proofs.Common.{◌∙◌, sym, ap, subst, List, [], map}
use Rattle.std.proofs.lemmas.Result.{IfOk-weaker}
use Rattle.definitions.specs.Queries.BoundBlock as b
use Rattle.query_tree.specs.Bound.{block_of}
use Rattle.result_lines.specs.RowAt.{items_of}
use Rattle.result_rows.specs.Stores.{Holds}
use Rattle.block_answers.proofs.block_rows.BlockRows.to_print.Goals as goal

pub returns-clause-told : goal.returns-clause-told
returns-clause-told c =
    IfOk-weaker c.new.result _ _ (λ rows told source outer same. told source outer same
    (subst (λ ns. Holds c.in_ok-store.store ns []) (ap (λ (is : List b.Item). map (λ (i : b.Item). i.name) is) (ap items_of c.deref.ensures.value ∙ ap (λ x. (block_of x).items) (sym same))) c.in_ok-store.ensures.nothing)) c.new.ensures.told
