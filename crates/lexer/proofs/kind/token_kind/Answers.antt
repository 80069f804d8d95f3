use Rattle.std.proofs.Common.{◌∙◌, ap, Some}
use Rattle.definitions.specs.Lexing.{Number}
use Rattle.lexer.specs.Lexeme.{lexeme_of, quotation_of}
use Rattle.lexer.proofs.Inverse.{text_of, at_most_one_other, opening_quote}
use Rattle.lexer.proofs.kind.token_kind.Goals as goal

pub number_kind-requires : goal.number_kind-requires
number_kind-requires c =
    let own = c.args.text.now in
    at_most_one_other own (text_of own Number (c.requires.same ∙ ap (λ l. Some (lexeme_of own l)) c.in-Number.is))

pub string_kind-requires-clause-opens : goal.string_kind-requires-clause-opens
string_kind-requires-clause-opens c =
    let own = c.args.text.now in
    opening_quote own _ (text_of own (quotation_of own c.in-Quotation.closed) (c.requires.same ∙ ap (λ l. Some (lexeme_of own l)) c.in-Quotation.is))
