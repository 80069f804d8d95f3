-- Combinations are taken into plain rows many at a time, where result columns are columns of tables.
use Rattle.std.proofs.Common.{◌≡◌, ◌∙◌, refl, sym, ap, ap₂, subst, ℕ, ◌-◌, List, [], ◌∷◌, ◌++◌, length, map, take, arith}
use Rattle.std.specs.Prelude.{flat_map}
use Rattle.std.specs.List.{AllByRecursion}
use Rattle.std.proofs.lemmas.Grind.{flat_map-append}
use Rattle.std.proofs.lemmas.List.{append-nil, map-append, take_all}
use Rattle.definitions.specs.Arithmetic.{Raise}
use Rattle.definitions.specs.Queries.BoundBlock.{ValueExpr, Column, Parameter, Numeral, String, Signed, Chain, AggregateValue, Subquery, Block, Item}
use Rattle.definitions.specs.Queries.Combinations.{Context, at, raises_of}
use Rattle.definitions.specs.Queries.Evaluation.{Combination, Environment, value}
use Rattle.definitions_answers.specs.PlainRows.{plain_raises, plain_row, values_at}
use Rattle.filters.specs.Sources.{BlockSource, block_in, context_in}
use Rattle.result_lines.specs.Batches.{rows_in, GivesColumnOf, IsColumnOf}
use Rattle.result_lines.specs.RowAt.{row_in, row_raises_in}
use Rattle.result_rows.specs.Stores.{Tells, TellsMore}
use Rattle.result_rows.specs.declared.result_rows.ResultRows.{ResultRows}
use Rattle.block_answers.specs.Groups.{environments}
use Rattle.block_answers.specs.Runs.{between}
use Rattle.block_answers.specs.Telling.{names_of}

-- all of a list lie between its ends
pub whole : {X : Type 0} (n : ℕ) (xs : List X) → n ≡ length xs → between 0 n xs ≡ xs
whole n xs e = ap (λ k. take k xs) (let same : n - 0 ≡ n = omega arith in same) ∙ take_all n xs (omega (arith, e))

-- ---- columns raise nothing

quiet_value : (width : ℕ) (env : Environment) (e : ValueExpr) → IsColumnOf width e → raises_of (value env e) ≡ []
quiet_value width env (Column column type) h = refl
quiet_value width env (Parameter between column type) h = absurd h
quiet_value width env (Numeral units digits scale) h = absurd h
quiet_value width env (String codes) h = absurd h
quiet_value width env (Signed minus operand) h = absurd h
quiet_value width env (Chain first others) h = absurd h
quiet_value width env (AggregateValue number type) h = absurd h
quiet_value width env (Subquery number type) h = absurd h

quiet_row : (width : ℕ) (env : Environment) (items : List Item) → AllByRecursion (GivesColumnOf width) items → row_raises_in env items ≡ []
quiet_row width env [] h = refl
quiet_row width env (item ∷ items) h = ap₂ (λ rs qs. rs ++ qs) (quiet_value width env item.value h.0) (quiet_row width env items h.1)

module _ (source : BlockSource) (outer : List Combination) (width : ℕ) (items : List Item) (own : items ≡ (block_in source).items) (columns : AllByRecursion (GivesColumnOf width) items) where
  abbrev context : Context
  context = context_in source outer

  abbrev b : Block
  b = block_in source

  abbrev one : Combination → List Raise
  one d = flat_map raises_of (values_at context b d)

  rows_of_all : (more : List Combination) → map (plain_row context b) more ≡ rows_in items (environments source outer more)
  rows_of_all [] = refl
  rows_of_all (c ∷ more) =
      let here : row_in (at context c) items ≡ plain_row context b c = ap (row_in (at context c)) own in
      ap₂ (λ r rs. r ∷ rs) (sym here) (rows_of_all more)

  quiet_all : (more : List Combination) → plain_raises context b more ≡ []
  quiet_all [] = refl
  quiet_all (c ∷ more) =
      let here : row_raises_in (at context c) items ≡ one c = ap (row_raises_in (at context c)) own in
      ap₂ (λ rs qs. rs ++ qs) (sym here ∙ quiet_row width (at context c) items columns) (quiet_all more)

  rows_more : (cs more : List Combination) → map (plain_row context b) (cs ++ more) ≡ map (plain_row context b) cs ++ rows_in items (environments source outer more)
  rows_more cs more = map-append (plain_row context b) cs more ∙ ap (λ rs. map (plain_row context b) cs ++ rs) (rows_of_all more)

  raises_more : (cs more : List Combination) → plain_raises context b (cs ++ more) ≡ plain_raises context b cs
  raises_more cs more = flat_map-append one cs more ∙ ap (λ qs. plain_raises context b cs ++ qs) (quiet_all more) ∙ append-nil (plain_raises context b cs)

  pub plain_batch : (more : List Combination) (told told' : ResultRows) → TellsMore (environments source outer more) items told told' → (cs : List Combination)
      → Tells (names_of source) (map (plain_row context b) cs) (plain_raises context b cs) told
      → Tells (names_of source) (map (plain_row context b) (cs ++ more)) (plain_raises context b (cs ++ more)) told'
  plain_batch more told told' h cs before =
      subst (λ rs. Tells (names_of source) rs (plain_raises context b (cs ++ more)) told') (sym (rows_more cs more))
      (subst (λ qs. Tells (names_of source) (map (plain_row context b) cs ++ rows_in items (environments source outer more)) qs told') (sym (raises_more cs more))
      (h (names_of source) (map (plain_row context b) cs) (plain_raises context b cs) before))
