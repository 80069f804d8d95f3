use Rattle.std.proofs.Common.{◌∙◌, ◌++◌, ◌∷◌, [], ap}
use Rattle.sqlvalue.proofs.Quotes.{next_run, last_run}
use Rattle.sqlvalue.proofs.values.write_text.Goals as goal

pub runs-preserved : goal.runs-preserved
runs-preserved c =
    rw (c.in_ok-push-2.ensures.items, c.in_ok-extend_from_slice.ensures.items, c.split_at.ensures.front, c.split_at.ensures.back)
    (next_run c.runs.out.items _ c.runs.rest.now c.quote_place.result c.in-Some.at c.quote_place.ensures.place c.in-Some.is c.runs.invariant)

pub returns : goal.returns
returns c =
    c.in_ok-push-3.ensures.items ∙ ap (λ xs. xs ++ 39 ∷ []) c.in_ok-extend_from_slice-2.ensures.items
    ∙ last_run c.runs.out.items c.args.out.now.items c.runs.rest.now c.args.text.now c.quote_place.result c.quote_place.ensures.place c.in_default.is c.runs.invariant
