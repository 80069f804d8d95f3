-- A block without late conjuncts: none of them raises, and all combinations are kept.
use Rattle.std.proofs.Common.{◌≡◌, refl, sym, subst, ap₂, ℕ, List, [], ◌∷◌, ◌++◌, cond, true, false, Option, Some, None, is_some, true≢false}
use Rattle.definitions.specs.Arithmetic.{Meaning}
use Rattle.definitions.specs.Table.{Row}
use Rattle.definitions.specs.Queries.BoundBlock.{Block}
use Rattle.definitions.specs.Queries.Combinations.{all_hold, raises_of_late, Context}
use Rattle.definitions.specs.Queries.Conjuncts.{late_conjuncts}
use Rattle.definitions.specs.Queries.Evaluation.{Combination}
use Rattle.definitions_answers.specs.Plain.{kept_of, late_raises}
use Rattle.sqlvalue.specs.declared.raise.Raise.{Raise}
use Rattle.filters.specs.Sources.{BlockSource, block_in}
use Rattle.block_answers.specs.BlockRows.{HaveTaken, TellsOf}
use Rattle.block_answers.specs.KeptRows.{TellsByLate}
use Rattle.block_answers.specs.Telling.{context_with}
use Rattle.block_answers.specs.declared.block_rows.BlockRows.{BlockRows}

module _ (context : Context) (b : Block) (none : late_conjuncts b ≡ []) where
  pub none_raise : (cs : List Combination) → late_raises context b cs ≡ []
  none_raise [] = refl
  none_raise (c ∷ cs) = ap₂ (λ rs qs. rs ++ qs) (subst (λ ds. raises_of_late context ds c ≡ []) (sym none) refl) (none_raise cs)

  pub all_kept : (cs : List Combination) → kept_of context b cs ≡ cs
  all_kept [] = refl
  all_kept (c ∷ cs) = ap₂ (λ t rest. cond t (c ∷ rest) rest) (subst (λ ds. all_hold context ds c ≡ true) (sym none) refl) (all_kept cs)

module _ (source : BlockSource) (outer : List Combination) (inner : ℕ → List Combination → Meaning (List Row)) (none : late_conjuncts (block_in source) ≡ []) where
  abbrev kept : List Combination → List Combination
  kept = kept_of (context_with source outer inner) (block_in source)

  pub all_taken : (cs : List Combination) (rows : BlockRows) → TellsOf source outer cs rows → HaveTaken source outer inner cs rows
  all_taken cs rows told = record {
    quiet = none_raise (context_with source outer inner) (block_in source) none cs;
    told = subst (λ ds. TellsOf source outer ds rows) (sym (all_kept (context_with source outer inner) (block_in source) none cs)) told;
  }

  pub more_taken : (late : Option Raise) (rows rows' : BlockRows) (cs more : List Combination) → is_some late ≡ false → (TellsOf source outer cs rows → TellsOf source outer (cs ++ more) rows') → TellsByLate source outer inner late cs rows → TellsByLate source outer inner late (cs ++ more) rows'
  more_taken None rows rows' cs more quiet grows h = all_taken (cs ++ more) rows' (grows (subst (λ ds. TellsOf source outer ds rows) (all_kept (context_with source outer inner) (block_in source) none cs) h.told))
  more_taken (Some raise) rows rows' cs more quiet grows h = absurd (true≢false quiet)
