use Rattle.std.proofs.Common.{◌∙◌, sym, subst, [], ◌∷◌}
use Rattle.std.proofs.lemmas.Result.{on_ok_weaker}
use Rattle.definitions_answers.specs.Taking.{Says}
use Rattle.filters.specs.Sources.{block_in}
use Rattle.subqueries.specs.Found.{said_in}
use Rattle.block_answers.specs.Groups.{seen}
use Rattle.block_answers.specs.Telling.{context_with}
use Rattle.block_answers.proofs.KeptTaking.{none_raised, now_raised, stays_raised, still_none}
use Rattle.block_answers.proofs.Taking.{one_taken}
use Rattle.block_answers.proofs.kept_rows.KeptRows.take.Goals as goal

pub returns-then-is_some-clause-told : goal.returns-then-is_some-clause-told
returns-then-is_some-clause-told g c inner cs typed says told =
    let s = c.args.source.now in
    let outer = g.A.OuterRows.combinations c.args.around.now in
    stays_raised s outer inner cs c.args.self.now.late c.args.self.now.rows (seen s outer c.args.composite.now ∷ []) (sym c.is_some.ensures ∙ c.if-is_some.true) told

pub returns-in-Err-clause-told : goal.returns-in-Err-clause-told
returns-in-Err-clause-told g c inner cs typed says told =
    let s = c.args.source.now in
    let outer = g.A.OuterRows.combinations c.args.around.now in
    now_raised s outer inner cs c.args.self.now.rows c.in-Err.raise (seen s outer c.args.composite.now) (subst (λ late. Says (context_with s outer inner) (block_in s) (seen s outer c.args.composite.now) (said_in late)) c.in-Err.is says)

pub returns-in-Ok-true-clause-told : goal.returns-in-Ok-true-clause-told
returns-in-Ok-true-clause-told g c =
    let s = c.args.source.now in
    let outer = g.A.OuterRows.combinations c.args.around.now in
    let quiet = sym c.is_some.ensures ∙ c.if-is_some.false in
    on_ok_weaker c.add.result (λ grows inner cs typed says told.
    still_none s outer inner _ c.args.self.now.late c.add.new.self quiet
    (one_taken s outer inner c.args.self.now.rows cs (seen s outer c.args.composite.now) (none_raised s outer inner cs c.args.self.now.late c.args.self.now.rows quiet told) c.add.new.self
    (rw c.in-Ok-true.field-0-test at (subst (λ late. Says (context_with s outer inner) (block_in s) (seen s outer c.args.composite.now) (said_in late)) c.in-Ok-true.is says)) typed grows)) c.add.ensures.told
