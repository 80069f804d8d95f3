-- Combinations are taken into the rows of a block, one after another.
use Rattle.std.proofs.Common.{◌≡◌, ◌∙◌, sym, ap, ap₂, subst, List, [], ◌∷◌, ◌++◌, map}
use Rattle.std.specs.Prelude.{flat_map}
use Rattle.std.proofs.lemmas.Grind.{flat_map-append}
use Rattle.std.proofs.lemmas.List.{append-nil, map-append}
use Rattle.definitions.specs.Arithmetic.{Raise}
use Rattle.definitions.specs.Queries.BoundBlock.{Block, Item}
use Rattle.definitions.specs.Queries.Combinations.{Context, at, raises_of}
use Rattle.definitions.specs.Queries.Evaluation.{Combination, Environment}
use Rattle.definitions_answers.specs.PlainRows.{plain_raises, plain_row, values_at}
use Rattle.filters.specs.Sources.{BlockSource, block_in, context_in}
use Rattle.result_lines.specs.RowAt.{row_in, row_raises_in}
use Rattle.result_rows.specs.Stores.{Tells, TellsOneMore}
use Rattle.block_answers.specs.Telling.{names_of}
use Rattle.result_rows.specs.declared.result_rows.ResultRows.{ResultRows}

module _ (source : BlockSource) (outer : List Combination) (env : Environment) (items : List Item) (c : Combination) (is : env ≡ at (context_in source outer) c) (own : items ≡ (block_in source).items) where
  abbrev context : Context
  context = context_in source outer

  abbrev b : Block
  b = block_in source

  abbrev one : Combination → List Raise
  one d = flat_map raises_of (values_at context b d)

  rows_more : (cs : List Combination) → map (plain_row context b) (cs ++ c ∷ []) ≡ map (plain_row context b) cs ++ row_in env items ∷ []
  rows_more cs =
      let here : row_in env items ≡ plain_row context b c = ap₂ row_in is own in
      map-append (plain_row context b) cs (c ∷ []) ∙ ap (λ r. map (plain_row context b) cs ++ r ∷ []) (sym here)

  raises_more : (cs : List Combination) → plain_raises context b (cs ++ c ∷ []) ≡ plain_raises context b cs ++ row_raises_in env items
  raises_more cs =
      let here : row_raises_in env items ≡ one c = ap₂ row_raises_in is own in
      flat_map-append one cs (c ∷ []) ∙ ap (λ q. plain_raises context b cs ++ q) (append-nil (one c) ∙ sym here)

  pub plain_more : (told told' : ResultRows) → TellsOneMore env items told told' → (cs : List Combination) → Tells (names_of source) (map (plain_row context b) cs) (plain_raises context b cs) told
      → Tells (names_of source) (map (plain_row context b) (cs ++ c ∷ [])) (plain_raises context b (cs ++ c ∷ [])) told'
  plain_more told told' h cs before =
      subst (λ rs. Tells (names_of source) rs (plain_raises context b (cs ++ c ∷ [])) told') (sym (rows_more cs))
      (subst (λ qs. Tells (names_of source) (map (plain_row context b) cs ++ row_in env items ∷ []) qs told') (sym (raises_more cs)) (h (names_of source) (map (plain_row context b) cs) (plain_raises context b cs) before))
