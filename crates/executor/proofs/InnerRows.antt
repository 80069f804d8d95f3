-- What the composites of an inner block tell, and what they cost, taken one after another.
use Rattle.std.proofs.Common.{◌≡◌, ◌∙◌, sym, ap, ap₂, subst, ℕ, ◌+◌, List, [], ◌∷◌, ◌++◌, Some, length, map, min, arith}
use Rattle.std.specs.Prelude.{slice_get, sum_by, Bool, IsPermutation, Result}
use Rattle.std.proofs.lemmas.List.{map-append}
use Rattle.std.proofs.lemmas.List.Sums.{sum_by-append, sum_by-cons}
use Rattle.std.proofs.lemmas.List.Sorted.{IsPermutation-refl}
use Rattle.definitions.specs.Arithmetic as a
use Rattle.definitions.specs.Arithmetic.{Meaning}
use Rattle.definitions.specs.Table.{Database, Row}
use Rattle.definitions.specs.Value.{Value}
use Rattle.definitions.specs.Binding.Formed.{IsFormedBlock}
use Rattle.definitions.specs.Estimates.BlockSpace.{space_of}
use Rattle.definitions.specs.Estimates.Version.{current_version}
use Rattle.definitions.specs.Plans.Cost.{limit, saturated}
use Rattle.definitions.specs.Plans.PlanSpace.{InSpace}
use Rattle.definitions.specs.Queries.BoundBlock.{Block, Blocks}
use Rattle.definitions.specs.Queries.Answer.{block_answer, meanings}
use Rattle.definitions.specs.Queries.Combinations.{passing}
use Rattle.definitions.specs.Queries.Conjuncts.{late_conjuncts}
use Rattle.definitions.specs.Queries.Evaluation.{Combination}
use Rattle.definitions_execution.specs.OfBlock.{combination_of, stored_of}
use Rattle.definitions_execution.specs.Running.{work}
use Rattle.definitions_execution.specs.Stored.{Composite}
use Rattle.definitions_execution.specs.Total.{subqueries}
use Rattle.definitions_execution.specs.TypedCombinations.{AreTypedAround}
use Rattle.definitions_answers.specs.Standing.{Stands}
use Rattle.definitions_answers.specs.Steps.{context_alone, context_among, AsksBehind}
use Rattle.definitions_answers.specs.Taking.{Says}
use Rattle.definitions_answers.specs.Told.{Tells}
use Rattle.definitions_answers.proofs.Standing.{standing_are_formed}
use Rattle.definitions_answers.proofs.Steps.{formed_ask_behind, meaning_by_one_step, total_by_one_step}
use Rattle.plan_tree.specs.Plans.{plan_of}
use Rattle.filters.specs.Composites.{numbers_in}
use Rattle.filters.specs.declared.composite.Composite as code
use Rattle.filters.specs.Sources.{block_in, stored_in, BlockSource, IsSurrounded}
use Rattle.sqlvalue.specs.declared.raise.Raise.{Raise}
use Rattle.subqueries.specs.Found.{said_in}
use Rattle.subqueries.specs.Framed.{combination_in}
use Rattle.block_answers.specs.Groups.{seen, AreTyped}
use Rattle.block_answers.specs.KeptRows.{TellsKept}
use Rattle.block_answers.specs.Ready.{CanAnswer}
use Rattle.executor.specs.ReadyBlocks.{blocks_in, database_in, meanings_in, plans_in, total_at, totals_in, AreReady, IsReady}
use Rattle.block_answers.specs.Telling.{context_with, ArrangePassing}
use Rattle.block_answers.specs.declared.kept_rows.KeptRows.{KeptRows}
use Rattle.executor.specs.declared.ready_block.ReadyBlock.{ReadyBlock}
use Rattle.executor.proofs.InnerTelling.{block_at, get_mapped}
use Rattle.block_answers.proofs.Taking.{all_typed}
use Rattle.executor.proofs.Batched.{nothing_asked}

-- a composite is taken into rows, whatever the inner blocks mean
abbrev pub TakesOne : BlockSource → List Combination → code.Composite → Result Bool Raise → KeptRows → KeptRows → Type 0
TakesOne source outer composite late kept kept' =
    (inner : ℕ → List Combination → Meaning (List Row)) (cs : List Combination) → AreTyped source outer cs → Says (context_with source outer inner) (block_in source) (seen source outer composite) (said_in late)
    → TellsKept source outer inner cs kept → TellsKept source outer inner (cs ++ seen source outer composite ∷ []) kept'

stops_both : (x y most : ℕ) → min (min x most + min y most) most ≡ min (x + y) most
stops_both x y most = omega arith

stops_after : (x y most : ℕ) → min (x + min y most) most ≡ min (x + y) most
stops_after x y most = omega arith

sum_of_one : (f : Combination → ℕ) (c : Combination) → sum_by f (c ∷ []) ≡ f c
sum_of_one f c = omega (arith, sum_by-cons f c [])

pub one_more_total : (f : Combination → ℕ) (cs : List Combination) (c : Combination) (inner own : ℕ) → inner ≡ saturated (sum_by f cs) → own ≡ saturated (f c) → saturated (inner + own) ≡ saturated (sum_by f (cs ++ c ∷ []))
one_more_total f cs c inner own before here =
    ap₂ (λ x y. saturated (x + y)) before here ∙ stops_both (sum_by f cs) (f c) limit
    ∙ ap (λ n. saturated (sum_by f cs + n)) (sym (sum_of_one f c)) ∙ ap saturated (sym (sum_by-append f cs (c ∷ [])))

module _ (query : List ReadyBlock) (every : AreReady query) (number : ℕ) (r : ReadyBlock) (here : slice_get query number ≡ Some r) (outer : List Combination) (stands : Stands (database_in query) (blocks_in query) number outer) where
  abbrev db : Database
  db = database_in query

  abbrev blocks : Blocks
  blocks = blocks_in query

  abbrev b : Block
  b = block_in r.source

  ready : IsReady query number r
  ready = every number r here

  pub surrounded : IsSurrounded r.source outer
  surrounded =
      let (around, formed, typed) = standing_are_formed db blocks number b outer (block_at query every number r here) stands in
      (blocks, around, number, subst (λ d. IsFormedBlock d blocks around number b) (sym ready.database) formed, subst (λ d. AreTypedAround d around outer) (sym ready.database) typed)

  pub can : CanAnswer r.source outer
  can = record { answerable = ready.answerable; valid = ready.valid; surrounded = surrounded }

  behind : AsksBehind number b
  behind =
      let (around, formed, typed) = standing_are_formed db blocks number b outer (block_at query every number r here) stands in
      formed_ask_behind db blocks around number b formed

  pub means : (existence : Bool) (told : Result (List Value) a.Raise) → Tells existence (block_answer (context_with r.source outer (meanings_in query)) b) told → Tells existence (meanings db 0 blocks number outer) told
  means existence told h =
      subst (λ m. Tells existence m told)
      (ap (λ (d : Database). block_answer (record { database = d; outer = outer; inner = meanings_in query }) b) ready.database ∙ sym (meaning_by_one_step db blocks number b outer (block_at query every number r here) behind)) h

  -- rows that one more composite grows
  pub grows : (late : Result Bool Raise) (kept kept' : KeptRows) (composite : code.Composite) (done : List Composite) → TakesOne r.source outer composite late kept kept'
      → Says (context_among db blocks outer) b (combination_in r.source composite) (said_in late) → TellsKept r.source outer (meanings_in query) (map (combination_of r.source.database b) done) kept
      → TellsKept r.source outer (meanings_in query) (map (combination_of r.source.database b) (done ++ numbers_in (length b.tables) composite ∷ [])) kept'
  grows late kept kept' composite done takes said h =
      subst (λ cs. TellsKept r.source outer (meanings_in query) cs kept') (sym (map-append (combination_of r.source.database b) done (numbers_in (length b.tables) composite ∷ [])))
      (takes (meanings_in query) (map (combination_of r.source.database b) done) (all_typed r.source outer ready.valid done)
      (subst (λ (d : Database). Says (record { database = d; outer = outer; inner = meanings_in query }) b (combination_in r.source composite) (said_in late)) (sym ready.database) said) h)

  -- and what its subqueries cost there
  pub costs : (inner own : ℕ) (composite : code.Composite) (done : List Composite) → inner ≡ saturated (sum_by (totals_in query outer r) (map (combination_of r.source.database b) done))
      → own ≡ saturated (sum_by (total_at query (combination_in r.source composite ∷ outer)) (subqueries b))
      → saturated (inner + own) ≡ saturated (sum_by (totals_in query outer r) (map (combination_of r.source.database b) (done ++ numbers_in (length b.tables) composite ∷ [])))
  costs inner own composite done before now =
      one_more_total (totals_in query outer r) (map (combination_of r.source.database b) done) (combination_in r.source composite) inner own before now
      ∙ ap (λ cs. saturated (sum_by (totals_in query outer r) cs)) (sym (map-append (combination_of r.source.database b) done (numbers_in (length b.tables) composite ∷ [])))

  -- all of them, with the rows that were opened, are the block's total
  pub whole : (opened inner : ℕ) (all : List Composite) → ArrangePassing r.source outer all → opened ≡ work (space_of current_version r.source.database b) (stored_in r.source outer) (plan_of r.plan)
      → inner ≡ saturated (sum_by (totals_in query outer r) (map (combination_of r.source.database b) all)) → saturated (opened + inner) ≡ total_at query outer number
  whole opened inner all arranged is asked =
      let combinations = map (combination_of r.source.database b) all in
      let own = work (space_of current_version db b) (stored_of (context_alone db outer) b) (plan_of r.plan) in
      let opened_is : opened ≡ own = is ∙ ap (λ (d : Database). work (space_of current_version d b) (stored_of (context_alone d outer) b) (plan_of r.plan)) ready.database in
      let there : IsPermutation (passing (context_alone db outer) b) combinations = subst (λ (d : Database). IsPermutation (passing (context_alone d outer) b) combinations) ready.database arranged in
      let within : InSpace (space_of current_version db b) (plan_of r.plan) = subst (λ (d : Database). InSpace (space_of current_version d b) (plan_of r.plan)) ready.database ready.within in
      ap₂ (λ x y. saturated (x + y)) opened_is asked ∙ stops_after own (sum_by (totals_in query outer r) combinations) limit
      ∙ sym (total_by_one_step current_version db blocks (plans_in query) number b (plan_of r.plan) outer combinations (block_at query every number r here) (get_mapped (λ (x : ReadyBlock). plan_of x.plan) query number r here) behind within there)

  -- where it has no late conjuncts they are the total alone
  pub whole_alone : (opened : ℕ) → late_conjuncts b ≡ [] → opened ≡ saturated (work (space_of current_version r.source.database b) (stored_in r.source outer) (plan_of r.plan)) → opened ≡ total_at query outer number
  whole_alone opened none is =
      let all = passing (context_alone db outer) b in
      let own = work (space_of current_version db b) (stored_of (context_alone db outer) b) (plan_of r.plan) in
      let within : InSpace (space_of current_version db b) (plan_of r.plan) = subst (λ (d : Database). InSpace (space_of current_version d b) (plan_of r.plan)) ready.database ready.within in
      is ∙ ap (λ (d : Database). saturated (work (space_of current_version d b) (stored_of (context_alone d outer) b) (plan_of r.plan))) ready.database
      ∙ nothing_more own (sum_by (totals_in query outer r) all) limit (nothing_asked (λ c. total_at query (c ∷ outer)) b none all)
      ∙ sym (total_by_one_step current_version db blocks (plans_in query) number b (plan_of r.plan) outer all (block_at query every number r here) (get_mapped (λ (x : ReadyBlock). plan_of x.plan) query number r here) behind within (IsPermutation-refl all))
    where
      nothing_more : (own sum most : ℕ) → sum ≡ 0 → min own most ≡ min (own + sum) most
      nothing_more own sum most none = omega (arith, none)
