use Rattle.std.proofs.lemmas.Result.{IfOk-weaker}
use Rattle.block_answers.specs.Telling.{names_of}
use Rattle.block_answers.proofs.block_rows.BlockRows.to_keep.Goals as goal

pub returns-clause-told : goal.returns-clause-told
returns-clause-told c = IfOk-weaker c.new.result _ _ (λ rows told source outer same. told source outer same (c.to_keep-store.ensures.nothing (names_of source))) c.new.ensures.told
