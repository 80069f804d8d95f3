use Rattle.std.proofs.Common.{ℕ, Vec, Global, sym, ap, length}
use Rattle.plan_tree.specs.Versions.{version_of}
use Rattle.certificate_syntax.specs.Reading.{MatchIn}
use Rattle.certificate_syntax.proofs.Sequences.{stopped, at_exit}
use Rattle.certificate_syntax.proofs.Paths.{slashed_numbers, match_only, no_match, match_refused}
use Rattle.certificate_syntax.proofs.path.conjuncts.Goals as goal

pub returns-in_err-numbers : goal.returns-in_err-numbers
returns-in_err-numbers c =
    at_exit (λ (numbers : Vec ℕ Global). numbers.items) (MatchIn (version_of c.args.version) c.args.text.now) c.from_residual.result c.in_err-numbers.field-0.0 c.from_residual.ensures.1
    (match_refused (version_of c.args.version) c.args.text.now c.requires _ c.in_err-numbers.ensures)

pub returns-in-Some : goal.returns-in-Some
returns-in-Some c =
    let all = slashed_numbers (version_of c.args.version) c.args.text.now c.requires c.in_ok-numbers.numbers.items c.in_ok-numbers.rest.now c.in_ok-numbers.ensures.0 in
    stopped (MatchIn (version_of c.args.version) c.args.text.now) c.stop_before.result _ _ c.stop_before.ensures
    (no_match (version_of c.args.version) c.args.text.now c.requires c.in_ok-numbers.numbers.items c.in_ok-numbers.rest.now
    (c.in-Some.ensures c.in_ok-numbers.numbers.items (sym (ap length c.as_slice.ensures.value)) all) c.in_ok-numbers.ensures)

pub returns : goal.returns
returns c =
    let all = slashed_numbers (version_of c.args.version) c.args.text.now c.requires c.in_ok-numbers.numbers.items c.in_ok-numbers.rest.now c.in_ok-numbers.ensures.0 in
    match_only (version_of c.args.version) c.args.text.now c.requires c.in_ok-numbers.numbers.items c.in_ok-numbers.rest.now
    (c.in-None.ensures c.in_ok-numbers.numbers.items (sym (ap length c.as_slice.ensures.value)) all) c.in_ok-numbers.ensures
