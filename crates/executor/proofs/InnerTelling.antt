-- What is told of the subqueries of a block serves its late conjuncts.
use Rattle.std.proofs.Common.{◌≡◌, ◌∙◌, sym, ap, subst, ℕ, zero, suc, ◌<◌, List, [], ◌∷◌, Option, Some, None, length, map, get_or, arith}
use Rattle.std.specs.Prelude.{slice_get, Bool, Contains, Err, IfErr, IfOk, Ok, OnOk, Result}
use Rattle.std.specs.List.{AllByRecursion}
use Rattle.std.proofs.lemmas.List.{length-map}
use Rattle.std.proofs.lemmas.List.Sorted.{IsPermutation-sym}
use Rattle.std.proofs.lemmas.Option.{slice_get-get_or}
use Rattle.definitions.specs.ValueType.{ValueType}
use Rattle.definitions.specs.Arithmetic as a
use Rattle.definitions.specs.Arithmetic.{Meaning}
use Rattle.definitions.specs.Value.{Value}
use Rattle.definitions.specs.Table.{Database, Row}
use Rattle.definitions.specs.Invariant.{IsDatabase}
use Rattle.definitions.specs.Binding.Formed.{column_type, only_type, IsTypedValue}
use Rattle.definitions.specs.Queries.BoundBlock.{Block, Blocks}
use Rattle.definitions.specs.Queries.Conjuncts.{conjuncts, is_late, late_conjuncts}
use Rattle.definitions.specs.Queries.Evaluation.{Combination}
use Rattle.definitions.specs.Queries.Laws.{MeansRows}
use Rattle.definitions.specs.Queries.Answer.{meanings}
use Rattle.definitions_execution.specs.OfBlock.{combination_of}
use Rattle.definitions_execution.specs.Stored.{Composite}
use Rattle.definitions_execution.specs.Total.{subqueries}
use Rattle.definitions_execution.specs.TypedCombinations.{IsTypedCombination}
use Rattle.definitions_execution.proofs.FormedNames.{OfValues, typed_conjuncts}
use Rattle.definitions_execution.proofs.TypedRows.{composites_typed}
use Rattle.definitions_answers.specs.Standing.{Stands, StandsInside}
use Rattle.definitions_answers.specs.Steps.{context_among}
use Rattle.definitions_answers.specs.Seen.{seen_subqueries}
use Rattle.definitions_answers.specs.Told.{meaning_told}
use Rattle.definitions_answers.specs.Taking.{Says}
use Rattle.definitions_answers.specs.Trying.{tried_in, SaysWhatIsTold}
use Rattle.definitions_answers.proofs.Reordered.{reordered}
use Rattle.definitions_answers.proofs.Standing.{standing_are_formed, subqueries_stand_inside}
use Rattle.definitions_answers.proofs.Steps.{formed_ask_behind, meaning_by_one_step}
use Rattle.definitions_answers.proofs.Taken.{all_arranged, all_filtered, both_of}
use Rattle.definitions_answers.proofs.Trying.{late_conjuncts_say}
use Rattle.filters.specs.Evaluable.{CanEvaluate}
use Rattle.filters.specs.Sources.{block_in}
use Rattle.sqlvalue.specs.Raises.{raise_of}
use Rattle.sqlvalue.specs.declared.raise.Raise.{Raise}
use Rattle.subqueries.specs.Found.{said_in}
use Rattle.subqueries.specs.Keeping.{told_by}
use Rattle.subqueries.specs.declared.kept_results.KeptResults.{KeptResults}
use Rattle.block_answers.specs.OneComposite.{are_true_in, raised_in}
use Rattle.executor.specs.ReadyBlocks.{blocks_in, database_in, AreReady, IsReady, IsToldLast}
use Rattle.executor.specs.declared.ready_block.ReadyBlock.{ReadyBlock}
use Rattle.executor.proofs.InnerBlocks.{what_is_asked_typed}
use Rattle.executor.proofs.ToldValues.{told_can}
use Rattle.executor.proofs.TypedMeanings.{answer_typed}

pub get_mapped : {X Y : Type 0} (f : X → Y) (xs : List X) (i : ℕ) (x : X) → slice_get xs i ≡ Some x → slice_get (map f xs) i ≡ Some (f x)
get_mapped f [] i x e = absurd cc
get_mapped {X} {Y} f (y ∷ xs) zero x e = ap (λ (o : Option X). mapped o) e
  where
    mapped : Option X → Option Y
    mapped None = None
    mapped (Some z) = Some (f z)
get_mapped f (y ∷ xs) (suc i) x e = get_mapped f xs i x e

column_at : (blocks : Blocks) (k : ℕ) (b : Block) → slice_get blocks k ≡ Some b → column_type blocks k ≡ only_type b.items
column_at [] k b e = absurd cc
column_at (c ∷ blocks) zero b e = ap (λ (o : Option Block). of_option o) e
  where
    of_option : Option Block → Option ValueType
    of_option None = only_type c.items
    of_option (Some d) = only_type d.items
column_at (c ∷ blocks) (suc k) b e = column_at blocks k b e

pub same_block : (r r' : ReadyBlock) → Some r ≡ Some r' → r ≡ r'
same_block r r' e = ap (λ (o : Option ReadyBlock). given o) e
  where
    given : Option ReadyBlock → ReadyBlock
    given None = r
    given (Some x) = x

-- what code makes of late conjuncts is what they say
pub code_says : (db : Database) (blocks : Blocks) (b : Block) (outer : List Combination) (c : Combination) (told : ℕ → Result (List Value) a.Raise) → SaysWhatIsTold db blocks b outer c told → (result : Result Bool Raise)
    → IfOk result (λ all. all ≡ are_true_in (tried_in db blocks b outer c told) (late_conjuncts b)) → OnOk result (raised_in (tried_in db blocks b outer c told) (late_conjuncts b) ≡ [])
    → IfErr result (λ raise. Contains (raised_in (tried_in db blocks b outer c told) (late_conjuncts b)) (raise_of raise)) → Says (context_among db blocks outer) b c (said_in result)
code_says db blocks b outer c told says (Ok all) truth quiet raised = says.quiet all quiet truth
code_says db blocks b outer c told says (Err raise) truth quiet raised = says.raises (raise_of raise) raised

module _ (query : List ReadyBlock) (all : AreReady query) where
  abbrev db : Database
  db = database_in query

  abbrev blocks : Blocks
  blocks = blocks_in query

  pub block_at : (k : ℕ) (r : ReadyBlock) → slice_get query k ≡ Some r → slice_get blocks k ≡ Some (block_in r.source)
  block_at k r e = get_mapped (λ (x : ReadyBlock). block_in x.source) query k r e

  -- a block that stands means rows of the type of its column
  stands_typed : (k : ℕ) (outer : List Combination) (type : ValueType) → k < length blocks → Stands db blocks k outer → column_type blocks k ≡ Some type → MeansRows type (meanings db 0 blocks k outer)
  stands_typed k outer type there stands column =
      let within : k < length query = subst (λ n. k < n) (length-map query (λ (x : ReadyBlock). block_in x.source)) there in
      by_element within
    where
      by_element : k < length query → MeansRows type (meanings db 0 blocks k outer)
      by_element within = with_block (get_or query k (nothing query within)) (slice_get-get_or query k (nothing query within) within)
        where
          nothing : (rs : List ReadyBlock) → k < length rs → ReadyBlock
          nothing [] l = absurd (omega (arith, l))
          nothing (r ∷ rs) l = r

          with_block : (r : ReadyBlock) → slice_get query k ≡ Some r → MeansRows type (meanings db 0 blocks k outer)
          with_block r e =
              let ready = all k r e in
              let here = block_at k r e in
              let (around, formed, typed) = standing_are_formed db blocks k (block_in r.source) outer here stands in
              let behind = formed_ask_behind db blocks around k (block_in r.source) formed in
              let valid : IsDatabase db = subst IsDatabase ready.database ready.valid in
              subst (MeansRows type) (sym (meaning_by_one_step db blocks k (block_in r.source) outer here behind))
              (answer_typed (context_among db blocks outer) blocks around k (block_in r.source) valid typed formed ready.answerable type (sym (column_at blocks k (block_in r.source) here) ∙ column))

  module _ (number : ℕ) (r : ReadyBlock) (here : slice_get query number ≡ Some r) (outer : List Combination) (stands : Stands db blocks number outer) (composite : Composite) where
    abbrev b : Block
    b = block_in r.source

    abbrev c : Combination
    c = combination_of r.source.database b composite

    ready : IsReady query number r
    ready = all number r here

    valid : IsDatabase db
    valid = subst IsDatabase ready.database ready.valid

    own : IsTypedCombination db b c
    own = subst (λ d. IsTypedCombination d b c) ready.database (composites_typed r.source.database b composite ready.valid)

    inside : AllByRecursion (StandsInside db blocks number (c ∷ outer)) (subqueries b)
    inside = subqueries_stand_inside db blocks number b outer c (block_at number r here) stands own

    pub inside_listed : AllByRecursion (StandsInside db blocks number (c ∷ outer)) r.subqueries.items
    inside_listed = all_arranged (StandsInside db blocks number (c ∷ outer)) (subqueries b) r.subqueries.items (reordered (subqueries b) r.subqueries.items ready.asked) inside

    module _ (results : List KeptResults) (listed : AllByRecursion (IsToldLast query r.seen.items (c ∷ outer) results) r.subqueries.items) where
      abbrev Told : ℕ → Type 0
      Told = IsToldLast query (seen_subqueries b) (c ∷ outer) results

      told : AllByRecursion Told (subqueries b)
      told = all_arranged Told r.subqueries.items (subqueries b) (reordered r.subqueries.items (subqueries b) (IsPermutation-sym (subqueries b) r.subqueries.items ready.asked)) (subst (λ seen. AllByRecursion (IsToldLast query seen (c ∷ outer) results) r.subqueries.items) ready.seen listed)

      pub says : SaysWhatIsTold db blocks b outer c (told_by results)
      says = late_conjuncts_say db blocks b outer c (told_by results) told

      abbrev inner : ℕ → Meaning (List Row)
      inner = λ n. meaning_told (told_by results n)

      typed_blocks : (ns : List ℕ) → AllByRecursion (λ n. Told n × StandsInside db blocks number (c ∷ outer) n) ns
          → AllByRecursion (λ n. (type : ValueType) → column_type blocks n ≡ Some type → MeansRows type (inner n)) ns
      typed_blocks [] h = tt
      typed_blocks (n ∷ ns) h =
          ((λ type column. what_is_asked_typed (seen_subqueries b) type (meanings db 0 blocks n (c ∷ outer)) (told_by results n) n (stands_typed n (c ∷ outer) type h.0.1.there h.0.1.stands column) h.0.0), typed_blocks ns h.1)

      pub late_can_evaluate : AllByRecursion (CanEvaluate (record { combination = c; outer = outer; functions = []; inner = inner })) (late_conjuncts b)
      late_can_evaluate =
          let (around, formed, typed) = standing_are_formed db blocks number b outer (block_at number r here) stands in
          told_can db b outer valid blocks around number typed c own inner (late_conjuncts b)
          (all_filtered (OfValues (IsTypedValue db blocks around number b)) is_late (conjuncts b) (typed_conjuncts db blocks around number b formed))
          (typed_blocks (subqueries b) (both_of Told (StandsInside db blocks number (c ∷ outer)) (subqueries b) told inside))
