use Rattle.std.proofs.Common.{◌≡◌, ◌∙◌, ap, sym, List, ℕ, ◌++◌, Some, None, refl}
use Rattle.std.proofs.lemmas.Bool.Decides.{Decides-eqb}
use Rattle.certificate_syntax.specs.Reading.{WordIn}
use Rattle.certificate_syntax.proofs.Sequences.{stopped}
use Rattle.std.proofs.lemmas.List.{append_cancel_left}
use Rattle.std.proofs.lemmas.Slice.Eq.{strip_prefix_is}
use Rattle.certificate_syntax.specs.Words.{word_text}
use Rattle.certificate_syntax.proofs.words.pass.Goals as goal

pub returns-in-Some : goal.returns-in-Some
returns-in-Some c =
    let e : c.args.text.now ≡ c.bytes.result.now ++ c.in-Some.rest.now = strip_prefix_is Decides-eqb c.args.text.now c.bytes.result.now (Some c.in-Some.rest) c.in-Some.ensures.cases in
    let own : c.args.text.now ≡ word_text c.args.word ++ c.in-Some.rest.now = e ∙ ap (λ (l : List ℕ). l ++ c.in-Some.rest.now) c.bytes.ensures in
    (own, λ u other h. (refl, append_cancel_left (word_text c.args.word) other c.in-Some.rest.now (sym h ∙ own)))

pub returns-in-None : goal.returns-in-None
returns-in-None c =
    stopped (WordIn (word_text c.args.word) c.args.text.now) c.stop_before.result _ _ c.stop_before.ensures
    (λ u rest h. strip_prefix_is Decides-eqb c.args.text.now c.bytes.result.now None c.in-None.ensures.cases rest (h ∙ ap (λ (l : List ℕ). l ++ rest) (sym c.bytes.ensures)))
