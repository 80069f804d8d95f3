use Rattle.std.proofs.Common.{◌≡◌, sym, subst, map, Some, None}
use Rattle.clap.specs.Kinds.{FailsBy}
use Rattle.clap.specs.Simple.{subcommand_rows_of}
use Rattle.programs.specs.CommandLine.{asked_in}
use Rattle.programs.specs.Request.{asked}
use Rattle.programs.proofs.CommandLines.{asks_no_form, fails_alike, faultless_request}
use Rattle.programs.proofs.words.request_by.Goals as goal

pub returns-in-Err-clause-kinds : goal.returns-in-Err-clause-kinds
returns-in-Err-clause-kinds c =
    fails_alike _ (map (λ w. w.now) c.args.words.now) c.in-Err.fault c.with_hint.result c.requires c.in-Err.ensures.kinds c.with_hint.ensures

pub returns-in-Ok-Some-clause-kinds : goal.returns-in-Ok-Some-clause-kinds
returns-in-Ok-Some-clause-kinds c =
    let some : Some (asked c.in-Ok-Some.request) ≡ asked_in (subcommand_rows_of c.in-Ok.matches) = rw c.in-Ok-Some.field-0-is at c.in-Ok-Some.ensures in
    faultless_request _ _ (map (λ w. w.now) c.args.words.now) _ c.requires c.in-Ok.ensures.ok.2 c.in-Ok.ensures.kinds some

pub returns-in-Ok-None-clause-kinds : goal.returns-in-Ok-None-clause-kinds
returns-in-Ok-None-clause-kinds c =
    let none : None ≡ asked_in (subcommand_rows_of c.in-Ok.matches) = rw c.in-Ok-None.field-0-is at c.in-Ok-None.ensures in
    let form = asks_no_form _ _ (map (λ w. w.now) c.args.words.now) c.requires c.in-Ok.ensures.ok.2 c.in-Ok.ensures.kinds none in
    subst (λ kinds. FailsBy kinds c.no_such_form.result) (sym form) c.no_such_form.ensures
