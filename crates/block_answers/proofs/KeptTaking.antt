-- Composites are taken into the rows of an inner block, one after another.
use Rattle.std.proofs.Common.{◌≡◌, refl, sym, subst, ℕ, List, [], ◌∷◌, ◌++◌, true, false, Option, Some, None, is_some, true≢false}
use Rattle.std.specs.Prelude.{Contains}
use Rattle.std.proofs.lemmas.Grind.{flat_map-append}
use Rattle.std.proofs.lemmas.List.Elements.{Contains-append_left, Contains-append_right}
use Rattle.definitions.specs.Table.{Row}
use Rattle.definitions.specs.Arithmetic.{Meaning}
use Rattle.definitions.specs.Arithmetic as arithmetic
use Rattle.definitions.specs.Queries.BoundBlock.{Block}
use Rattle.definitions.specs.Queries.Conjuncts.{late_conjuncts}
use Rattle.definitions.specs.Queries.Combinations.{Context, raises_of_late}
use Rattle.definitions.specs.Queries.Evaluation.{Combination}
use Rattle.definitions_answers.specs.Plain.{late_raises}
use Rattle.sqlvalue.specs.Raises.{raise_of}
use Rattle.sqlvalue.specs.declared.raise.Raise.{Raise}
use Rattle.filters.specs.Sources.{BlockSource, block_in}
use Rattle.block_answers.specs.BlockRows.{HaveTaken}
use Rattle.block_answers.specs.KeptRows.{TellsByLate}
use Rattle.block_answers.specs.Telling.{context_with}
use Rattle.block_answers.specs.declared.block_rows.BlockRows.{BlockRows}

module _ (source : BlockSource) (outer : List Combination) (inner : ℕ → List Combination → Meaning (List Row)) (cs : List Combination) where
  abbrev context : Context
  context = context_with source outer inner

  abbrev b : Block
  b = block_in source

  abbrev raises_at : Combination → List arithmetic.Raise
  raises_at = raises_of_late context (late_conjuncts b)

  -- once something has raised, it stays
  pub stays_raised : (late : Option Raise) (rows : BlockRows) (more : List Combination) → is_some late ≡ true → TellsByLate source outer inner late cs rows → TellsByLate source outer inner late (cs ++ more) rows
  stays_raised None rows more e h = absurd (true≢false (sym e))
  stays_raised (Some raise) rows more e h = subst (λ rs. Contains rs (raise_of raise)) (sym (flat_map-append raises_at cs more)) (Contains-append_left (late_raises context b cs) (late_raises context b more) (raise_of raise) h)

  pub now_raised : (rows : BlockRows) (raise : Raise) (c : Combination) → Contains (raises_at c) (raise_of raise) → TellsByLate source outer inner (Some raise) (cs ++ c ∷ []) rows
  now_raised rows raise c h =
      subst (λ rs. Contains rs (raise_of raise)) (sym (flat_map-append raises_at cs (c ∷ [])))
      (Contains-append_right (late_raises context b cs) (late_raises context b (c ∷ [])) (raise_of raise) (Contains-append_left (raises_at c) [] (raise_of raise) h))

  pub none_raised : (late : Option Raise) (rows : BlockRows) → is_some late ≡ false → TellsByLate source outer inner late cs rows → HaveTaken source outer inner cs rows
  none_raised None rows e h = h
  none_raised (Some raise) rows e h = absurd (true≢false e)

  pub still_none : (late : Option Raise) (rows : BlockRows) → is_some late ≡ false → HaveTaken source outer inner cs rows → TellsByLate source outer inner late cs rows
  still_none None rows e h = h
  still_none (Some raise) rows e h = absurd (true≢false e)

  pub not_late : (late : Option Raise) (rows : BlockRows) → ((raise : Raise) → late ≡ Some raise → ⊥) → TellsByLate source outer inner late cs rows → HaveTaken source outer inner cs rows
  not_late None rows n h = h
  not_late (Some raise) rows n h = absurd (n raise refl)
