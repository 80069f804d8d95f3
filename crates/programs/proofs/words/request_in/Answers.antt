use Rattle.std.proofs.Common.{◌≡◌, refl, sym, ap₂, subst, Some, IfOk, option_map, codes}
use Rattle.clap.specs.Simple.{subcommand_rows_of}
use Rattle.clap.specs.Walk.{rows_of}
use Rattle.clap.specs.Matches.{first_value, found_of}
use Rattle.clap.proofs.WalkLemmas.{first_value-rows}
use Rattle.programs.specs.CommandLine.{asked_in, run_of, check_of}
use Rattle.programs.specs.Request.{asked}
use Rattle.programs.proofs.CommandLines.{met}
use Rattle.programs.proofs.words.request_in.Goals as goal

pub returns-then-eq : goal.returns-then-eq
returns-then-eq c =
    let found = found_of c.in-Some.given.now in
    let sub : subcommand_rows_of c.args.matches.now ≡ Some (c.in-Some.name.now, rows_of found) = met _ _ _ c.in-Some.ensures.name c.in-Some.ensures.rows in
    let same : run_of (first_value found (codes "SCRIPT")) (first_value found (codes "text")) (first_value found (codes "stop")) (first_value found (codes "timing")) (first_value found (codes "as")) ≡ asked_in (subcommand_rows_of c.args.matches.now) =
    rw (sub, sym c.if-eq.ensures, first_value-rows found (codes "SCRIPT"), first_value-rows found (codes "text"), first_value-rows found (codes "stop"), first_value-rows found (codes "timing"), first_value-rows found (codes "as")) refl in
    subst (λ x. IfOk c.run_request.result (λ r. option_map asked r ≡ x)) same c.run_request.ensures

pub returns-then-eq-2 : goal.returns-then-eq-2
returns-then-eq-2 c =
    let found = found_of c.in-Some.given.now in
    let sub : subcommand_rows_of c.args.matches.now ≡ Some (c.in-Some.name.now, rows_of found) = met _ _ _ c.in-Some.ensures.name c.in-Some.ensures.rows in
    let same : check_of (first_value found (codes "SCRIPT")) (first_value found (codes "CERTIFICATES")) ≡ asked_in (subcommand_rows_of c.args.matches.now) =
    rw (sub, sym c.if-eq.ensures, sym c.if-eq-2.ensures) (ap₂ check_of (first_value-rows found (codes "SCRIPT")) (first_value-rows found (codes "CERTIFICATES"))) in
    subst (λ x. IfOk c.check_request.result (λ r. option_map asked r ≡ x)) same c.check_request.ensures
