use Rattle.std.proofs.Common.{◌∙◌, ap, subst, drop, arith}
use Rattle.lexer.specs.Meaning.{kinds_of}
use Rattle.parse_tree.specs.Trees.{statement_of}
use Rattle.syntax_cursor.specs.Places.{Stand, left_at}
use Rattle.syntax.specs.Places.{statement_leaves}
use Rattle.syntax_cursor.proofs.Places.{more}
use Rattle.syntax.proofs.Places.{left_at_first}
use Rattle.syntax.proofs.Scripts.{first_statement, ends_behind, only_memory, kind_count}
use Rattle.syntax.proofs.parser.statement_at.Goals as goal

pub ended_statement-requires : goal.ended_statement-requires
ended_statement-requires c = rw c.at_place-cursor.ensures (omega (arith, c.requires.before, kind_count c.args.tokens.now))

pub returns-in-Ok-clause-first : goal.returns-in-Ok-clause-first
returns-in-Ok-clause-first c = λ statements there.
    let it = first_statement c.at_place-cursor.result c.ended_statement.new.cursor (kinds_of c.args.tokens.now) c.args.at (statement_of c.in-Ok.statement) (ap (λ p. p.tokens) c.at_place-cursor.ensures) (ap (λ p. p.at) c.at_place-cursor.ensures)
    (omega (arith, c.requires.before, kind_count c.args.tokens.now)) c.in-Ok.ensures.reads statements there in
    (it.0, it.1, rw c.place-next.ensures it.2)

pub returns-in-Ok-clause-further : goal.returns-in-Ok-clause-further
returns-in-Ok-clause-further c =
    omega (arith, ends_behind c.at_place-cursor.result c.ended_statement.new.cursor (statement_of c.in-Ok.statement) c.in-Ok.ensures.reads, ap (λ p. p.at) c.at_place-cursor.ensures, c.place-next.ensures)

pub returns-in-Ok-clause-placed : goal.returns-in-Ok-clause-placed
returns-in-Ok-clause-placed c =
    let d = c.in-Ok.ensures.placed in
    let n = d.noted in
    let first = ap (λ p. p.long_lists) c.at_place-cursor.ensures in
    let count = c.into_long_lists.ensures in
    (left_at c.ended_statement.new.cursor, more _ (omega (arith, n, first, count)) (subst (λ z. Stand d.lists z (statement_leaves c.in-Ok.statement) (left_at c.ended_statement.new.cursor)) (ap left_at c.at_place-cursor.ensures ∙ ap (drop c.args.at) (left_at_first c.args.tokens.now)) d.stand))

pub unreachable-requires : goal.unreachable-requires
unreachable-requires c =
    let only = only_memory (kinds_of c.args.tokens.now) c.args.at c.in-Err-Token.field-0 c.requires.script.0 c.requires.script.1 (rw c.at_place-cursor.ensures at c.in-Err-Token.ensures.reads) in
    let is = c.in-Err-Token.field-0-is in
    cc

pub unreachable-requires-in-Err-Deep : goal.unreachable-requires-in-Err-Deep
unreachable-requires-in-Err-Deep c =
    let only = only_memory (kinds_of c.args.tokens.now) c.args.at c.in-Err-Deep.field-0 c.requires.script.0 c.requires.script.1 (rw c.at_place-cursor.ensures at c.in-Err-Deep.ensures.reads) in
    let is = c.in-Err-Deep.field-0-is in
    cc
