-- What the outermost block of a query tells, when its composites are taken one after another.
use Rattle.std.proofs.Common.{◌≡◌, ◌∙◌, sym, ap, subst, ℕ, List, [], ◌∷◌, ◌++◌, Bool, true, false, Some, length, map}
use Rattle.std.specs.Prelude.{not, slice_get, Contains, Ok, Err, Result}
use Rattle.std.specs.List.{AllByRecursion}
use Rattle.std.proofs.lemmas.List.{map-append}
use Rattle.definitions.specs.Table.{Database, Row}
use Rattle.definitions.specs.Printing.{table_text}
use Rattle.definitions.specs.Queries.BoundBlock.{Block, Blocks, Item, OrderKey}
use Rattle.definitions.specs.Queries.Evaluation.{Combination}
use Rattle.definitions.specs.Queries.Answer.{answer, block_answer}
use Rattle.definitions.specs.Queries.Outcomes.{names_of, order_keys, shown, Allowed, AllowedOf, Exception, Rows, Told}
use Rattle.definitions_answers.specs.Ordered.{AreRequired}
use Rattle.definitions_answers.specs.Plain.{late_raises}
use Rattle.definitions_answers.specs.Shapes.{HasShapes, Shape}
use Rattle.definitions_answers.specs.Standing.{Stands}
use Rattle.definitions_answers.specs.Steps.{context_among, AsksBehind}
use Rattle.definitions_answers.specs.Taking.{Says}
use Rattle.definitions_answers.proofs.Standing.{standing_are_formed}
use Rattle.definitions_answers.proofs.Steps.{formed_ask_behind, meaning_by_one_step}
use Rattle.definitions_execution.specs.OfBlock.{combination_of}
use Rattle.definitions_execution.specs.Stored.{Composite}
use Rattle.filters.specs.Composites.{numbers_in}
use Rattle.filters.specs.declared.composite.Composite as code
use Rattle.filters.specs.Sources.{block_in}
use Rattle.sqlvalue.specs.Raises.{raise_of}
use Rattle.sqlvalue.specs.declared.raise.Raise.{Raise}
use Rattle.result_lines.specs.Faults.{IfRaised}
use Rattle.result_lines.specs.declared.fault.AnswerFault.{AnswerFault}
use Rattle.result_lines.proofs.Faults.{raised_weaker}
use Rattle.subqueries.specs.Found.{said_in}
use Rattle.subqueries.specs.Framed.{combination_in}
use Rattle.block_answers.specs.BlockRows.{comes_in_order, HasRowsOf, HaveTaken, MayRaiseOn, TellsOf}
use Rattle.block_answers.specs.Groups.{AreTyped}
use Rattle.block_answers.specs.Ready as before
use Rattle.executor.specs.ReadyBlocks.{blocks_in, database_in, meanings_in, AreReady, IsReady}
use Rattle.result_rows.specs.Stores.{kind_of, printing, AreToldAs, Holds}
use Rattle.block_answers.specs.Telling.{context_with, ArrangePassing, MayTell}
use Rattle.block_answers.specs.declared.block_rows.BlockRows.{BlockRows}
use Rattle.executor.specs.declared.ready_block.ReadyBlock.{ReadyBlock}
use Rattle.result_rows.specs.declared.row_store.RowStore.{RowStore}
use Rattle.block_answers.proofs.Ending.{late_told, raise_told, raised_among, text_told}
use Rattle.executor.proofs.InnerBlocks.{some_is}
use Rattle.executor.proofs.InnerRows.{surrounded}
use Rattle.executor.proofs.InnerTelling.{block_at}
use Rattle.block_answers.proofs.Taking.{all_typed, one_passed_over, one_taken}

first_order : (blocks : Blocks) (b : Block) → slice_get blocks 0 ≡ Some b → order_keys blocks ≡ b.order
first_order [] b e = absurd cc
first_order (c ∷ bs) b e = ap (λ (x : Block). x.order) (some_is c b e)

first_names : (blocks : Blocks) (b : Block) → slice_get blocks 0 ≡ Some b → names_of blocks ≡ map (λ (i : Item). i.name) b.items
first_names [] b e = absurd cc
first_names (c ∷ bs) b e = ap (λ (x : Block). map (λ (i : Item). i.name) x.items) (some_is c b e)

module _ (query : List ReadyBlock) (every : AreReady query) (r : ReadyBlock) (here : slice_get query 0 ≡ Some r) (stands : Stands (database_in query) (blocks_in query) 0 []) where
  abbrev db : Database
  db = database_in query

  abbrev blocks : Blocks
  blocks = blocks_in query

  abbrev b : Block
  b = block_in r.source

  abbrev combos : List Composite → List Combination
  combos = map (combination_of r.source.database b)

  ready : IsReady query 0 r
  ready = every 0 r here

  at_first : slice_get blocks 0 ≡ Some b
  at_first = block_at query every 0 r here

  behind : AsksBehind 0 b
  behind =
      let (around, formed, typed) = standing_are_formed db blocks 0 b [] at_first stands in
      formed_ask_behind db blocks around 0 b formed

  allowed : (told : Told) → MayTell r.source [] (meanings_in query) told → AllowedOf db blocks told
  allowed told h =
      subst (λ keys. Allowed (answer db blocks) keys told) (sym (first_order blocks b at_first))
      (subst (λ m. Allowed m b.order told)
      (ap (λ (d : Database). block_answer (record { database = d; outer = []; inner = meanings_in query }) b) ready.database
      ∙ sym (meaning_by_one_step db blocks 0 b [] at_first behind)) h)

  -- ---- one composite after another

  module _ (composite : code.Composite) (late : Result Bool Raise) (said : Says (context_among db blocks []) b (combination_in r.source composite) (said_in late)) where
    says_own : Says (context_with r.source [] (meanings_in query)) b (combination_in r.source composite) (said_in late)
    says_own = subst (λ (d : Database). Says (record { database = d; outer = []; inner = meanings_in query }) b (combination_in r.source composite) (said_in late)) (sym ready.database) said

    abbrev numbers : Composite
    numbers = numbers_in (length b.tables) composite

    module _ (done : List Composite) (rows : BlockRows) (have : HaveTaken r.source [] (meanings_in query) (combos done) rows) where
      pub passed_over : late ≡ Ok false → HaveTaken r.source [] (meanings_in query) (combos (done ++ numbers ∷ [])) rows
      passed_over is =
          subst (λ cs. HaveTaken r.source [] (meanings_in query) cs rows) (sym (map-append (combination_of r.source.database b) done (numbers ∷ [])))
          (one_passed_over r.source [] (meanings_in query) rows (combos done) (combination_in r.source composite) have
          (subst (λ (l : Result Bool Raise). Says (context_with r.source [] (meanings_in query)) b (combination_in r.source composite) (said_in l)) is says_own))

      pub taken : (rows' : BlockRows) → late ≡ Ok true
          → ((cs : List Combination) → AreTyped r.source [] cs → TellsOf r.source [] cs rows → TellsOf r.source [] (cs ++ combination_in r.source composite ∷ []) rows')
          → HaveTaken r.source [] (meanings_in query) (combos (done ++ numbers ∷ [])) rows'
      taken rows' is grows =
          subst (λ cs. HaveTaken r.source [] (meanings_in query) cs rows') (sym (map-append (combination_of r.source.database b) done (numbers ∷ [])))
          (one_taken r.source [] (meanings_in query) rows (combos done) (combination_in r.source composite) have rows'
          (subst (λ (l : Result Bool Raise). Says (context_with r.source [] (meanings_in query)) b (combination_in r.source composite) (said_in l)) is says_own)
          (all_typed r.source [] ready.valid done) grows)

    pub raises : (raise : Raise) (all done left rest : List Composite) → late ≡ Err raise → all ≡ done ++ left → left ≡ numbers ∷ rest
        → Contains (late_raises (context_with r.source [] (meanings_in query)) b (combos all)) (raise_of raise)
    raises raise all done left rest is split first =
        raised_among (context_with r.source [] (meanings_in query)) b (combos all) (combos done) (combos left) (combos rest) (combination_in r.source composite) (raise_of raise)
        (ap combos split ∙ map-append (combination_of r.source.database b) done left) (ap combos first)
        (subst (λ (l : Result Bool Raise). Says (context_with r.source [] (meanings_in query)) b (combination_in r.source composite) (said_in l)) is says_own)

  -- ---- all of them

  module _ (all : List Composite) (arranged : ArrangePassing r.source [] all) (ordered : AreRequired b (combos all)) where
    given : before.AreReady r.source [] all
    given = record { answerable = ready.answerable; valid = ready.valid; surrounded = surrounded query every 0 r here [] stands; arranged = arranged; ordered = ordered }

    pub late_allowed : (fault : AnswerFault) → IfRaised fault (Contains (late_raises (context_with r.source [] (meanings_in query)) b (combos all)))
        → IfRaised fault (λ raise. AllowedOf db blocks (Exception raise))
    late_allowed fault h = raised_weaker fault _ _ (λ raise k. allowed (Exception raise) k) (late_told r.source [] (meanings_in query) all given fault h)

    module _ (rows : BlockRows) (have : HaveTaken r.source [] (meanings_in query) (combos all) rows) (outer : List Combination) (outermost : outer ≡ []) where
      pub raise_allowed : (fault : AnswerFault) → IfRaised fault (λ raise. (ks : List Combination) → AreTyped r.source outer ks → TellsOf r.source outer ks rows → MayRaiseOn r.source outer ks raise)
          → IfRaised fault (λ raise. AllowedOf db blocks (Exception raise))
      raise_allowed fault h =
          raised_weaker fault _ _ (λ raise k. allowed (Exception raise) k)
          (raise_told r.source [] (meanings_in query) all given rows have fault
          (subst (λ o. IfRaised fault (λ raise. (ks : List Combination) → AreTyped r.source o ks → TellsOf r.source o ks rows → MayRaiseOn r.source o ks raise)) outermost h))

      pub text_allowed : (store : RowStore) (keys : List OrderKey) (text : List ℕ) → ((ks : List Combination) → AreTyped r.source outer ks → TellsOf r.source outer ks rows → HasRowsOf r.source outer ks store)
          → kind_of store ≡ printing (not (comes_in_order b)) b.distinct → keys ≡ b.order
          → ((names : List (List ℕ)) (rs : List Row) (shapes : List Shape) → Holds store names rs → AllByRecursion (HasShapes shapes) rs → (printed : List Row) × AreToldAs (kind_of store).in_order (kind_of store).distinct keys rs printed × (text ≡ table_text names printed))
          → (printed : List Row) × AllowedOf db blocks (Rows printed) × (text ≡ shown (names_of blocks) (Rows printed))
      text_allowed store keys text has kind by prints =
          let (printed, may, is) = text_told r.source [] (meanings_in query) all given rows have store keys text
          (subst (λ o. (ks : List Combination) → AreTyped r.source o ks → TellsOf r.source o ks rows → HasRowsOf r.source o ks store) outermost has) kind by prints in
          (printed, allowed (Rows printed) may, is ∙ ap (λ names. table_text names printed) (sym (first_names blocks b at_first)))
