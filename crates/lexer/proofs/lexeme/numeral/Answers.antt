use Rattle.std.proofs.Common.{◌∙◌, sym, ap}
use Rattle.std.proofs.lemmas.List.{take_rest}
use Rattle.lexer.specs.Lexeme.{runs_on}
use Rattle.lexer.proofs.First.{number_first, run_on_first}
use Rattle.lexer.proofs.lexeme.numeral.Goals as goal

pub returns-then-runs_on : goal.returns-then-runs_on
returns-then-runs_on c = run_on_first c.args.text.now _ c.numeral_length-length.ensures (sym (c.runs_on.ensures ∙ ap runs_on (take_rest c.args.text.now _)) ∙ c.if-runs_on.true)

pub returns-else-runs_on : goal.returns-else-runs_on
returns-else-runs_on c = number_first c.args.text.now _ c.numeral_length-length.ensures (sym (c.runs_on.ensures ∙ ap runs_on (take_rest c.args.text.now _)) ∙ c.if-runs_on.false)
