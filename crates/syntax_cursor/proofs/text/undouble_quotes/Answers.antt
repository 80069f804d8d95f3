use Rattle.std.proofs.Common.{◌∙◌, ap, inl, inr}
use Rattle.std.specs.Prelude.{string_bytes}
use Rattle.syntax_cursor.proofs.Quotes.{at_start, at_quote, at_character, at_end}
use Rattle.syntax_cursor.proofs.text.undouble_quotes.Goals as goal
use Rattle.syntax_cursor.proofs.text.undouble_quotes.Goals.{else-character-eq39-via-then-character-eq39+else-not-after_quote, else-character-eq39-via-else-character-eq39}

pub characters-init : goal.characters-init
characters-init c = at_start (string_bytes c.new-inner.result) c.args.quoted.now c.into_iter-character-iterator.result.rest.now c.new-inner.ensures.bytes (ap (λ x. x.rest.now) c.into_iter-character-iterator.ensures.into_iter_gives ∙ c.chars-character-items.ensures.rest)

pub characters-preserved-then-not-after_quote : goal.characters-preserved-then-not-after_quote
characters-preserved-then-not-after_quote c = at_quote (string_bytes c.characters.inner) c.args.quoted.now c.characters.character-iterator.rest.now c.next.new.self.rest.now c.characters.after_quote c.in-Some.character c.characters.invariant c.in-Some.ensures.steps.0 c.if-not-after_quote.true c.if-character-eq39.true

pub characters-preserved : goal.characters-preserved
characters-preserved c = at_character (string_bytes c.characters.inner) c.args.quoted.now c.characters.character-iterator.rest.now c.next.new.self.rest.now (string_bytes c.push.new.self) c.characters.after_quote c.in-Some.character c.characters.invariant c.in-Some.ensures.steps.0 c.in_ok-push.ensures.bytes
    (elim c.else-character-eq39.branch [
      | else-character-eq39-via-then-character-eq39+else-not-after_quote w ↦ inl (w.if-character-eq39.true, w.if-not-after_quote.false)
      | else-character-eq39-via-else-character-eq39 w ↦ inr w.if-character-eq39.false
    ])

pub returns : goal.returns
returns c = at_end (string_bytes c.characters.inner) c.args.quoted.now c.characters.character-iterator.rest.now c.characters.after_quote c.characters.invariant c.in-None.ensures.steps.0.0
