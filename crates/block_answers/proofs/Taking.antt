-- Combinations are taken one after another, as late conjuncts say.
use Rattle.std.proofs.Common.{◌≡◌, ◌∙◌, sym, ap, ap₂, subst, ℕ, List, [], ◌∷◌, ◌++◌, Bool, true, false, cond, map}
use Rattle.std.specs.Prelude.{Ok}
use Rattle.std.proofs.lemmas.Grind.{flat_map-append}
use Rattle.std.proofs.lemmas.List.{append-nil}
use Rattle.std.proofs.lemmas.List.Elements.{filter-append}
use Rattle.definitions.specs.Invariant.{IsDatabase}
use Rattle.definitions.specs.Table.{Row}
use Rattle.definitions.specs.Arithmetic.{Meaning}
use Rattle.definitions.specs.Queries.BoundBlock.{Block, Condition}
use Rattle.definitions.specs.Queries.Conjuncts.{late_conjuncts}
use Rattle.definitions.specs.Queries.Combinations.{Context, all_hold, raises_of_late}
use Rattle.definitions.specs.Queries.Evaluation.{Combination}
use Rattle.definitions_execution.specs.OfBlock.{combination_of}
use Rattle.definitions_execution.specs.Stored.{Composite}
use Rattle.definitions_execution.proofs.TypedRows.{composites_typed}
use Rattle.definitions_answers.specs.Plain.{kept_of, late_raises}
use Rattle.definitions_answers.specs.Taking.{Says}
use Rattle.filters.specs.Sources.{BlockSource, block_in}
use Rattle.block_answers.specs.BlockRows.{HaveTaken, TellsOf}
use Rattle.block_answers.specs.Groups.{AreTyped}
use Rattle.block_answers.specs.Telling.{context_with}
use Rattle.block_answers.specs.declared.block_rows.BlockRows.{BlockRows}

module _ (source : BlockSource) (outer : List Combination) where
  -- combinations of composites have the types of the tables
  pub all_typed : IsDatabase source.database → (composites : List Composite) → AreTyped source outer (map (combination_of source.database (block_in source)) composites)
  all_typed valid [] = tt
  all_typed valid (composite ∷ composites) = (composites_typed source.database (block_in source) composite valid, all_typed valid composites)

  -- and so have those that are chosen of them
  one_chosen : (b : Bool) (c : Combination) (cs : List Combination) → AreTyped source outer (c ∷ []) → AreTyped source outer cs → AreTyped source outer (cond b (c ∷ cs) cs)
  one_chosen true c cs h hs = (h.0, hs)
  one_chosen false c cs h hs = hs

  module _ (inner : ℕ → List Combination → Meaning (List Row)) where
    abbrev context : Context
    context = context_with source outer inner

    abbrev b : Block
    b = block_in source

    abbrev late : List Condition
    late = late_conjuncts b

    pub kept_typed : (cs : List Combination) → AreTyped source outer cs → AreTyped source outer (kept_of context b cs)
    kept_typed [] h = tt
    kept_typed (c ∷ cs) h = one_chosen (all_hold context late c) c (kept_of context b cs) (h.0, tt) (kept_typed cs h.1)

    module _ (told : BlockRows) (done : List Combination) (c : Combination) (have : HaveTaken source outer inner done told) where
      quiet_more : raises_of_late context late c ≡ [] → late_raises context b (done ++ c ∷ []) ≡ []
      quiet_more q = flat_map-append (raises_of_late context late) done (c ∷ []) ∙ ap₂ (λ rs qs. rs ++ (qs ++ [])) have.quiet q

      kept_is : (all : Bool) → all ≡ all_hold context late c → kept_of context b (done ++ c ∷ []) ≡ kept_of context b done ++ cond all (c ∷ []) []
      kept_is all e = filter-append (all_hold context late) done (c ∷ []) ∙ ap (λ t. kept_of context b done ++ cond t (c ∷ []) []) (sym e)

      pub one_passed_over : Says context b c (Ok false) → HaveTaken source outer inner (done ++ c ∷ []) told
      one_passed_over says = record {
        quiet = quiet_more says.0;
        told = subst (λ cs. TellsOf source outer cs told) (sym (kept_is false says.1 ∙ append-nil (kept_of context b done))) have.told;
      }

      pub one_taken : (told' : BlockRows) → Says context b c (Ok true) → AreTyped source outer done → ((cs : List Combination) → AreTyped source outer cs → TellsOf source outer cs told → TellsOf source outer (cs ++ c ∷ []) told') → HaveTaken source outer inner (done ++ c ∷ []) told'
      one_taken told' says typed grows = record {
        quiet = quiet_more says.0;
        told = subst (λ cs. TellsOf source outer cs told') (sym (kept_is true says.1)) (grows (kept_of context b done) (kept_typed done typed) have.told);
      }
