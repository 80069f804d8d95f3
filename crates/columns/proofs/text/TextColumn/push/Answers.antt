use Rattle.std.proofs.Common.{◌≡◌, ◌++◌, ◌≤◌, ◌∷◌, [], ◌∙◌, sym, ap, length, refl}
use Rattle.std.specs.String.{string_bytes}
use Rattle.std.specs.Option.{option_copied}
use Rattle.std.specs.Str.{IsAscii}
use Rattle.std.proofs.lemmas.Str.{IsAscii-append}
use Rattle.columns.specs.Cells.{CellList, padded, text_or_null}
use Rattle.columns.proofs.TextLists.{pushed_texts, pushed_filled, pushed_value, pushed_fits, padded_ascii, length-padded}
use Rattle.columns.proofs.text.TextColumn.push.Goals as goal

-- the text fits the column
fits : (c : goal.In-Ok) → (length c.unwrap_or.result.now ≤ c.self.inside.length) × IsAscii c.unwrap_or.result.now
fits c = pushed_fits _ _ _ _ _ (sym (ap (λ (v : CellList). v.type) c.self.view_is)) c.unwrap_or.ensures refl c.requires

-- the characters with those of the text behind them
characters : (c : goal.In-Ok) → string_bytes c.push_padded.new.characters ≡ string_bytes c.self.inside.characters ++ padded c.self.inside.length c.unwrap_or.result.now
characters c = c.in_ok-push_padded.ensures.ok ∙ ap (λ n. string_bytes c.self.inside.characters ++ padded n c.unwrap_or.result.now) c.from.ensures

pub invariant_of-self-in-Ok : goal.invariant_of-self-in-Ok
invariant_of-self-in-Ok c = record {
  filled = pushed_filled _ _ _ _ _ _ _ c.self.invariant.filled (length-padded _ _ (fits c).0) (characters c) c.in-Ok.ensures.ok;
  ascii = rw (characters c) (IsAscii-append _ _ c.self.invariant.ascii (padded_ascii _ _ (fits c).1));
}

pub returns-in-Ok-clause-ok : goal.returns-in-Ok-clause-ok
returns-in-Ok-clause-ok c =
    pushed_texts _ _ _ _ _ _ _ _ c.self.invariant.filled c.self.view_is (length-padded _ _ (fits c).0) (characters c) c.in-Ok.ensures.ok
    ∙ ap (λ x. record c.args.self.now { values = c.args.self.now.values ++ x ∷ [] })
    (pushed_value _ c.args.text _ _ _ c.unwrap_or.ensures c.is_none.ensures ∙ ap (λ t. text_or_null t (option_copied c.args.text)) (ap (λ (v : CellList). v.type) c.self.view_is))
