use Rattle.std.proofs.Common.{rules, map, ◌++◌, ◌≡◌, ◌∙◌, refl, sym, ap, ap₂, subst, ℕ, ◌+◌, ◌-◌, ◌*◌, ◌<◌, Some, length, take, get_or, arith, slice_set}
use Rattle.std.proofs.Common.{nat_eq}
use Rattle.std.specs.Prelude.{not, Bool, IfSome, None, Option, Result, flat_map, slice_get, sum_by, true, Contains, IfErr, IfOk, OnOk, Ok, List, [], ◌∷◌}
use Rattle.std.specs.Global.{Vec}
use Rattle.std.specs.List.{list_any, AllByRecursion}
use Rattle.std.proofs.lemmas.Bool.Decides.{nat_tests}
use Rattle.std.proofs.lemmas.List.{length-map, take_all}
use Rattle.std.proofs.lemmas.Option.{slice_get-get_or}
use Rattle.std.proofs.lemmas.Result.{IfOk-weaker}
use Rattle.definitions.specs.Arithmetic.{Raise}
use Rattle.definitions.specs.Estimates.Version.{current_version, Version}
use Rattle.definitions.specs.Plans.Plan.{Plan}
use Rattle.definitions.specs.Table.{Database}
use Rattle.definitions.specs.Value.{Value}
use Rattle.definitions_execution.specs.Total.{totals}
use Rattle.sqlvalue.specs.declared.owned_value.OwnedValue.{OwnedValue}
use Rattle.definitions.specs.Queries.Answer.{meanings}
use Rattle.definitions_answers.specs.Kept.{IsRight}
use Rattle.definitions.specs.Plans.Cost.{saturated}
use Rattle.definitions_answers.specs.Standing.{Stands, StandsInside}
use Rattle.std.proofs.lemmas.List.Sorted.{sum_by-IsPermutation}
use Rattle.definitions.specs.Queries.BoundBlock.{Block, Blocks}
use Rattle.definitions.specs.Queries.Combinations.{all_hold, at, raises_of_late, Context}
use Rattle.definitions.specs.Queries.Conjuncts.{blocks_of, late_conjuncts}
use Rattle.definitions.specs.Queries.Evaluation.{Combination, Environment}
use Rattle.definitions_execution.specs.Total.{subqueries}
use Rattle.definitions_answers.specs.Steps.{context_among}
use Rattle.definitions_answers.specs.Taking.{Says}
use Rattle.filters.specs.Evaluable.{CanEvaluate}
use Rattle.sqlvalue.specs.Raises.{raise_of}
use Rattle.subqueries.specs.Found.{said_in}
use Rattle.block_answers.specs.OneComposite.{are_true_in, raised_in}
use Rattle.block_answers.specs.Views.{conditions_of}
use Rattle.definitions_answers.specs.Told.{told_environment, Tells}
use Rattle.definitions_answers.specs.Parameters.{outer_values, parameters}
use Rattle.definitions_answers.proofs.Kept.{kept_is_right}
use Rattle.subqueries.specs.BlockText.{Rising}
use Rattle.subqueries.specs.Framed.{combination_in, combinations_in}
use Rattle.subqueries.specs.Keeping.{kept_with, latest_key, places_in, told_by, told_of_option, Replaces}
use Rattle.subqueries.specs.Keys.{key_of_option}
use Rattle.subqueries.specs.OuterColumns.{outer_columns_of}
use Rattle.subqueries.specs.Telling.{told_in}
use Rattle.subqueries.specs.declared.kept_results.KeptResults.{KeptResults}
use Rattle.sqlvalue.specs.Owned.{owned_value}
use Rattle.subqueries.proofs.KeptPlaces.{latest_is_told, latest_is_total, left_out_told}
use Rattle.filters.specs.Sources.{block_in, context_in, stored_in}
use Rattle.executor.proofs.SortedBlocks.{sorted_for}
use Rattle.executor.specs.ReadyBlocks.{blocks_in, database_in, meanings_in, plans_in, totals_in, seen_at, seen_of, subqueries_at, subqueries_of, total_at, IsReady, IsReadyIn, IsToldLast}
use Rattle.executor.specs.declared.ready_block.ReadyBlock.{ReadyBlock}
use Rattle.executor.proofs.InnerBlocks.{as_much_as_asked, at_index, index_is, kept_same, left_below, left_less, left_out_left, left_out_right, left_twice, one_later, right_same, right_with, rising_before, stays_all, sum_later, sum_stops, told_here}
use Rattle.definitions.specs.Estimates.BlockSpace.{space_of}
use Rattle.definitions.specs.Plans.Space.{Space}
use Rattle.definitions.specs.Queries.Answer.{block_answer}
use Rattle.definitions_execution.specs.OfBlock.{combination_of}
use Rattle.definitions_execution.specs.Running.{work}
use Rattle.definitions_execution.specs.Stored.{Composite}
use Rattle.operators.specs.Running.{left_of, opened_of, width_of, IsPipeline}
use Rattle.plan_tree.specs.Plans.{plan_of}
use Rattle.query_tree.specs.Bound.{block_of}
use Rattle.filters.specs.Composites.{numbers_in}
use Rattle.block_answers.specs.BlockRows.{store_in, IsWellFor}
use Rattle.block_answers.specs.KeptRows.{asks_existence, rows_in, TellsKept}
use Rattle.block_answers.specs.Ready as before
use Rattle.block_answers.specs.Ready.{CanAnswer}
use Rattle.result_rows.specs.Stores.{keeping, kind_of, StoreKind}
use Rattle.block_answers.specs.Telling.{context_with}
use Rattle.block_answers.proofs.Ending.{all_done, first_at, split_later}
use Rattle.executor.proofs.InnerRows.{can, costs, grows, means, surrounded, whole, whole_alone, TakesOne}
use Rattle.executor.proofs.InnerTelling.{code_says, inside_listed, late_can_evaluate, same_block, says}
use Rattle.executor.proofs.nested.+nested.Goals as goal

-- what is told once is right with the key that it has, or with none
once_is_right : (version : Version) (db : Database) (blocks : Blocks) (plans : List Plan) (k : ℕ) (outer : List Combination) (existence : Bool) (told : Result (List Value) Raise) (total : ℕ) (key : Option (Vec OwnedValue))
    → IfSome key (λ own. map owned_value own.items ≡ outer_values outer (parameters blocks k)) → Tells existence (meanings db 0 blocks k outer) told → total ≡ totals version db 0 blocks plans k outer
    → IsRight version db blocks plans k (record { key = key_of_option key; existence = existence; told = told; total = total })
once_is_right version db blocks plans k outer existence told total None values tells is = λ outer' e. absurd cc
once_is_right version db blocks plans k outer existence told total (Some own) values tells is =
    subst (λ vs. IsRight version db blocks plans k (record { key = Some vs; existence = existence; told = told; total = total })) (sym values) (kept_is_right version db blocks plans k outer existence told total tells is)

-- ---- a result that is kept

pub ask_block-returns-in-Some-clause-told : goal.ask_block-returns-in-Some-clause-told
ask_block-returns-in-Some-clause-told g t c =
    let query = c.args.query.now in
    let outer = combinations_in c.args.frames.now in
    let number = c.args.number in
    let r : ReadyBlock = c.index-query-number.result in
    let at_block : slice_get query number ≡ Some r = slice_get-get_or query number r c.requires.number ∙ ap Some (sym c.index-query-number.is) in
    let ready : IsReady query number r = c.requires.query number r at_block in
    let own : KeptResults = c.index-results-number.result in
    let within : number < length c.args.results.now = subst (λ n. number < n) (sym c.requires.right.count) c.requires.number in
    let at_place : slice_get c.args.results.now number ≡ Some own = slice_get-get_or c.args.results.now number own within ∙ ap Some (sym c.index-results-number.is) in
    let params : outer_columns_of c.deref.result.now ≡ parameters (blocks_in query) number = ap outer_columns_of (c.deref.ensures.value ∙ ap (λ (x : ReadyBlock). x.parameters.items) (sym c.index-query-number.is)) ∙ ready.parameters in
    let key : latest_key c.find.new.self ≡ Some (outer_values outer (parameters (blocks_in query) number)) = c.in-Some.ensures.key ∙ ap (λ ps. Some (outer_values outer ps)) params in
    subst (Tells c.args.existence (meanings (database_in query) 0 (blocks_in query) number outer)) (sym (told_here query c.args.results.now number own c.find.new.self at_place c.requires.right))
    (latest_is_told current_version (database_in query) (blocks_in query) (plans_in query) number outer c.args.existence c.find.new.self (kept_same query c.args.results.now number own c.find.new.self at_place c.requires.right (c.find.ensures.kept ∙ ap places_in (sym c.index-results-number.is))) key c.in-Some.ensures.asked)

pub ask_block-returns-in-Some-clause-total : goal.ask_block-returns-in-Some-clause-total
ask_block-returns-in-Some-clause-total g t c =
    let query = c.args.query.now in
    let outer = combinations_in c.args.frames.now in
    let number = c.args.number in
    let r : ReadyBlock = c.index-query-number.result in
    let at_block : slice_get query number ≡ Some r = slice_get-get_or query number r c.requires.number ∙ ap Some (sym c.index-query-number.is) in
    let ready : IsReady query number r = c.requires.query number r at_block in
    let own : KeptResults = c.index-results-number.result in
    let within : number < length c.args.results.now = subst (λ n. number < n) (sym c.requires.right.count) c.requires.number in
    let at_place : slice_get c.args.results.now number ≡ Some own = slice_get-get_or c.args.results.now number own within ∙ ap Some (sym c.index-results-number.is) in
    let params : outer_columns_of c.deref.result.now ≡ parameters (blocks_in query) number = ap outer_columns_of (c.deref.ensures.value ∙ ap (λ (x : ReadyBlock). x.parameters.items) (sym c.index-query-number.is)) ∙ ready.parameters in
    let key : latest_key c.find.new.self ≡ Some (outer_values outer (parameters (blocks_in query) number)) = c.in-Some.ensures.key ∙ ap (λ ps. Some (outer_values outer ps)) params in
    latest_is_total current_version (database_in query) (blocks_in query) (plans_in query) number outer c.find.new.self c.in-Some.total (kept_same query c.args.results.now number own c.find.new.self at_place c.requires.right (c.find.ensures.kept ∙ ap places_in (sym c.index-results-number.is))) key c.in-Some.ensures.total

pub ask_block-returns-in-Some-clause-right : goal.ask_block-returns-in-Some-clause-right
ask_block-returns-in-Some-clause-right g t c =
    let number = c.args.number in
    let own : KeptResults = c.index-results-number.result in
    let within : number < length c.args.results.now = subst (λ n. number < n) (sym c.requires.right.count) c.requires.number in
    let at_place : slice_get c.args.results.now number ≡ Some own = slice_get-get_or c.args.results.now number own within ∙ ap Some (sym c.index-results-number.is) in
    right_same c.args.query.now c.args.results.now number own c.find.new.self at_place c.requires.right (c.find.ensures.kept ∙ ap places_in (sym c.index-results-number.is))

pub ask_block-returns-in-Some-clause-left : goal.ask_block-returns-in-Some-clause-left
ask_block-returns-in-Some-clause-left g t c =
    let number = c.args.number in
    let own : KeptResults = c.index-results-number.result in
    let within : number < length c.args.results.now = subst (λ n. number < n) (sym c.requires.right.count) c.requires.number in
    let at_place : slice_get c.args.results.now number ≡ Some own = slice_get-get_or c.args.results.now number own within ∙ ap Some (sym c.index-results-number.is) in
    left_below c.args.query.now c.args.results.now number own c.find.new.self at_place c.requires.right

-- ---- or one that is made

pub ask_block-returns-clause-told : goal.ask_block-returns-clause-told
ask_block-returns-clause-told g t c =
    let query = c.args.query.now in
    let outer = combinations_in c.args.frames.now in
    let number = c.args.number in
    let results = c.key_of-key.new.results in
    let right = left_out_right query c.evaluate_block.new.results results c.key_of-key.ensures.results c.in_ok-told.ensures.right in
    let own : KeptResults = c.index-results-number-2.result in
    let within : number < length results = subst (λ n. number < n) (sym right.count) c.requires.number in
    let at_place : slice_get results number ≡ Some own = slice_get-get_or results number own within ∙ ap Some (sym c.index-results-number-2.is) in
    subst (Tells c.args.existence (meanings (database_in query) 0 (blocks_in query) number outer))
    (sym (left_out_told (slice_set results number c.keep.new.self) c.bound_memory.new.results number c.bound_memory.ensures ∙ told_here query results number own c.keep.new.self at_place right ∙ ap told_of_option c.keep.ensures.latest))
    c.in_ok-told.ensures.told

pub ask_block-returns-clause-right : goal.ask_block-returns-clause-right
ask_block-returns-clause-right g t c =
    let query = c.args.query.now in
    let outer = combinations_in c.args.frames.now in
    let number = c.args.number in
    let r : ReadyBlock = c.index-query-number.result in
    let at_block : slice_get query number ≡ Some r = slice_get-get_or query number r c.requires.number ∙ ap Some (sym c.index-query-number.is) in
    let ready : IsReady query number r = c.requires.query number r at_block in
    let results = c.key_of-key.new.results in
    let right = left_out_right query c.evaluate_block.new.results results c.key_of-key.ensures.results c.in_ok-told.ensures.right in
    let own : KeptResults = c.index-results-number-2.result in
    let within : number < length results = subst (λ n. number < n) (sym right.count) c.requires.number in
    let at_place : slice_get results number ≡ Some own = slice_get-get_or results number own within ∙ ap Some (sym c.index-results-number-2.is) in
    let params : outer_columns_of c.deref-2.result.now ≡ parameters (blocks_in query) number = ap outer_columns_of (c.deref-2.ensures.value ∙ ap (λ (x : ReadyBlock). x.parameters.items) (sym c.index-query-number.is)) ∙ ready.parameters in
    let told = c.in_ok-told.told in
    let total = c.in_ok-told.total in
    let key = c.key_of-key.result in
    let values : IfSome key (λ own. map owned_value own.items ≡ outer_values outer (parameters (blocks_in query) number)) =
    subst (λ o. IfSome key (λ own. map owned_value own.items ≡ outer_values o (parameters (blocks_in query) number))) c.in_ok-told.ensures.frames
    (subst (λ ps. IfSome key (λ own. map owned_value own.items ≡ outer_values (combinations_in c.evaluate_block.new.frames) ps)) params c.key_of-key.ensures.key) in
    let kept = kept_with key c.args.existence told total in
    let is_right : IsRight current_version (database_in query) (blocks_in query) (plans_in query) number kept =
    once_is_right current_version (database_in query) (blocks_in query) (plans_in query) number outer c.args.existence (told_in told) total key values c.in_ok-told.ensures.told c.in_ok-told.ensures.total in
    left_out_right query (slice_set results number c.keep.new.self) c.bound_memory.new.results c.bound_memory.ensures
    (right_with query results number own c.keep.new.self at_place right kept (subst (λ (p : KeptResults). Replaces (places_in p) (places_in c.keep.new.self) kept) (sym c.index-results-number-2.is) c.keep.ensures.kept) is_right)

pub ask_block-returns-clause-left : goal.ask_block-returns-clause-left
ask_block-returns-clause-left g t c =
    let query = c.args.query.now in
    let number = c.args.number in
    let first : KeptResults = c.index-results-number.result in
    let within' : number < length c.args.results.now = subst (λ n. number < n) (sym c.requires.right.count) c.requires.number in
    let at_first : slice_get c.args.results.now number ≡ Some first = slice_get-get_or c.args.results.now number first within' ∙ ap Some (sym c.index-results-number.is) in
    let found = slice_set c.args.results.now number c.find.new.self in
    let evaluated = c.evaluate_block.new.results in
    let results = c.key_of-key.new.results in
    let right = left_out_right query evaluated results c.key_of-key.ensures.results c.in_ok-told.ensures.right in
    let own : KeptResults = c.index-results-number-2.result in
    let within : number < length results = subst (λ n. number < n) (sym right.count) c.requires.number in
    let at_place : slice_get results number ≡ Some own = slice_get-get_or results number own within ∙ ap Some (sym c.index-results-number-2.is) in
    let kept = slice_set results number c.keep.new.self in
    let bounded = c.bound_memory.new.results in
    left_twice query number c.args.results.now found bounded (left_below query c.args.results.now number first c.find.new.self at_first c.requires.right)
    (left_twice query number found evaluated bounded (left_less query (number + 1) number found evaluated (omega arith) c.in_ok-told.ensures.left)
    (left_twice query number evaluated results bounded (left_out_left query number evaluated results c.key_of-key.ensures.results)
    (left_twice query number results kept bounded (left_below query results number own c.keep.new.self at_place right) (left_out_left query number kept bounded c.bound_memory.ensures))))

-- ---- all subqueries of a block

pub ask_subqueries-ask_block-requires : goal.ask_subqueries-ask_block-requires
ask_subqueries-ask_block-requires g t c =
    let query = c.args.query.now in
    let number = c.args.number in
    let r : ReadyBlock = c.index-query-number.result in
    let at_block : slice_get query number ≡ Some r = slice_get-get_or query number r c.requires.number ∙ ap Some (sym c.index-query-number.is) in
    let items : c.deref-block-items.result.now ≡ subqueries_at query number = c.deref-block-items.ensures.value ∙ sym (ap subqueries_of at_block) in
    let inside : StandsInside (database_in query) (blocks_in query) number (combinations_in c.args.frames.now) (get_or c.deref-block-items.result.now c.blocks-2.block-index 0) =
    at_index (StandsInside (database_in query) (blocks_in query) number (combinations_in c.args.frames.now)) c.deref-block-items.result.now c.blocks-2.block-index (subst (AllByRecursion (StandsInside (database_in query) (blocks_in query) number (combinations_in c.args.frames.now))) (sym items) c.requires.inside) c.blocks-2-test.true in
    let there : get_or c.deref-block-items.result.now c.blocks-2.block-index 0 < length query = subst (λ n. get_or c.deref-block-items.result.now c.blocks-2.block-index 0 < n) (length-map query (λ (x : ReadyBlock). block_in x.source)) inside.there in
    let stands : Stands (database_in query) (blocks_in query) (get_or c.deref-block-items.result.now c.blocks-2.block-index 0) (combinations_in c.blocks-2.frames) = subst (Stands (database_in query) (blocks_in query) (get_or c.deref-block-items.result.now c.blocks-2.block-index 0)) (sym c.blocks-2.invariant.frames_are) inside.stands in
    let behind : number < get_or c.deref-block-items.result.now c.blocks-2.block-index 0 = inside.behind in
    let less : 5 * (length query - get_or c.deref-block-items.result.now c.blocks-2.block-index 0) + 4 < 5 * (length query - number) = omega (arith, behind, there) in
    search (rules, there, stands, less)

pub ask_subqueries-blocks-2-preserved : goal.ask_subqueries-blocks-2-preserved
ask_subqueries-blocks-2-preserved g t c =
    let query = c.args.query.now in
    let number = c.args.number in
    let outer = combinations_in c.args.frames.now in
    let r : ReadyBlock = c.index-query-number.result in
    let at_block : slice_get query number ≡ Some r = slice_get-get_or query number r c.requires.number ∙ ap Some (sym c.index-query-number.is) in
    let ready : IsReady query number r = c.requires.query number r at_block in
    let list = c.deref-block-items.result.now in
    let i = c.blocks-2.block-index in
    let j = get_or list i 0 in
    let is : list ≡ r.subqueries.items = c.deref-block-items.ensures.value in
    let items : list ≡ subqueries_at query number = is ∙ sym (ap subqueries_of at_block) in
    let inside : StandsInside (database_in query) (blocks_in query) number outer j = at_index (StandsInside (database_in query) (blocks_in query) number outer) list i (subst (AllByRecursion (StandsInside (database_in query) (blocks_in query) number outer)) (sym items) c.requires.inside) c.blocks-2-test.true in
    let behind : number < j = inside.behind in
    let rising : Rising list = subst Rising (sym is) ready.rising in
    let seen = seen_at query number in
    let among = list_any (λ y. nat_eq y j) seen in
    let asked : c.sees-existence.result ≡ among = c.sees-existence.ensures ∙ ap (λ ns. list_any (λ y. nat_eq y j) ns) (sym (ap seen_of at_block)) in
    let own : IsToldLast query seen outer c.ask_block.new.results j =
    as_much_as_asked seen (meanings (database_in query) 0 (blocks_in query) j outer) (told_by c.ask_block.new.results j) j c.sees-existence.result asked
    (subst (λ o. Tells (not c.sees-existence.result) (meanings (database_in query) 0 (blocks_in query) j o) (told_by c.ask_block.new.results j)) c.blocks-2.invariant.frames_are c.in_ok-own.ensures.told) in
    let worth : c.in_ok-own.own ≡ total_at query outer j = c.in_ok-own.ensures.total ∙ ap (λ o. total_at query o j) c.blocks-2.invariant.frames_are in
    record {
      told =
          one_later (IsToldLast query seen outer c.ask_block.new.results) list i
          (stays_all query seen outer j (take i list) c.blocks-2.results c.ask_block.new.results c.in_ok-own.ensures.left (rising_before list i j rising c.blocks-2-test.true (index_is list i c.blocks-2-test.true)) c.blocks-2.invariant.told own) c.blocks-2-test.true own;
      total =
          c.saturating_sum-work.ensures.exact
          ∙ ap₂ (λ a b. saturated (a + b)) c.blocks-2.invariant.total worth
          ∙ sum_stops (sum_by (total_at query outer) (take i list)) (total_at query outer j) (sum_by (total_at query outer) (take (i + 1) list)) (sum_later (total_at query outer) list i c.blocks-2-test.true);
      right = c.in_ok-own.ensures.right;
      left =
          left_twice query (number + 1) c.args.results.now c.blocks-2.results c.ask_block.new.results c.blocks-2.invariant.left (left_less query j (number + 1) c.blocks-2.results c.ask_block.new.results (omega (arith, behind)) c.in_ok-own.ensures.left);
      frames_are = c.in_ok-own.ensures.frames ∙ c.blocks-2.invariant.frames_are;
    }

pub ask_subqueries-returns-clause-told : goal.ask_subqueries-returns-clause-told
ask_subqueries-returns-clause-told g t c =
    let query = c.args.query.now in
    let number = c.args.number in
    let outer = combinations_in c.args.frames.now in
    let r : ReadyBlock = c.index-query-number.result in
    let at_block : slice_get query number ≡ Some r = slice_get-get_or query number r c.requires.number ∙ ap Some (sym c.index-query-number.is) in
    let list = c.deref-block-items.result.now in
    let items : list ≡ subqueries_at query number = c.deref-block-items.ensures.value ∙ sym (ap subqueries_of at_block) in
    let all : take c.blocks-2.block-index list ≡ list = take_all c.blocks-2.block-index list (grind (arith, nat_tests, c.blocks-2-test.false)) in
    subst (AllByRecursion (IsToldLast query (seen_at query number) outer c.blocks-2.results)) (all ∙ items) c.blocks-2.invariant.told

pub ask_subqueries-returns-clause-total : goal.ask_subqueries-returns-clause-total
ask_subqueries-returns-clause-total g t c =
    let query = c.args.query.now in
    let number = c.args.number in
    let outer = combinations_in c.args.frames.now in
    let r : ReadyBlock = c.index-query-number.result in
    let at_block : slice_get query number ≡ Some r = slice_get-get_or query number r c.requires.number ∙ ap Some (sym c.index-query-number.is) in
    let list = c.deref-block-items.result.now in
    let items : list ≡ subqueries_at query number = c.deref-block-items.ensures.value ∙ sym (ap subqueries_of at_block) in
    let all : take c.blocks-2.block-index list ≡ list = take_all c.blocks-2.block-index list (grind (arith, nat_tests, c.blocks-2-test.false)) in
    c.blocks-2.invariant.total ∙ ap (λ ns. saturated (sum_by (total_at query outer) ns)) (all ∙ items)

-- ---- late conjuncts on a composite

nothing_there : {X : Type 0} (xs : List X) → length xs ≡ 0 → xs ≡ []
nothing_there [] e = refl
nothing_there (x ∷ xs) e = absurd (omega (arith, e))

-- where there are none, all are true, and nothing is asked
none_are_late : (context : Context) (b : Block) (c : Combination) → late_conjuncts b ≡ [] → Says context b c (Ok true)
none_are_late context b c none = subst (λ ds. (raises_of_late context ds c ≡ []) × (true ≡ all_hold context ds c)) (sym none) (refl, refl)

none_are_asked : (f : ℕ → ℕ) (b : Block) → late_conjuncts b ≡ [] → 0 ≡ saturated (sum_by f (subqueries b))
none_are_asked f b none = subst (λ ds. 0 ≡ saturated (sum_by f (flat_map blocks_of ds))) (sym none) refl

pub try_late-returns-then-is_empty-clause-says : goal.try_late-returns-then-is_empty-clause-says
try_late-returns-then-is_empty-clause-says g t c r' at' =
    let query = c.args.query.now in
    let number = c.args.number in
    let outer = combinations_in c.args.frames.now in
    let r : ReadyBlock = c.index-query-number.result in
    let at_block : slice_get query number ≡ Some r = slice_get-get_or query number r c.requires.number ∙ ap Some (sym c.index-query-number.is) in
    let ready : IsReady query number r = c.requires.query number r at_block in
    let empty : length r.late.items ≡ 0 = grind (arith, nat_tests, c.if-is_empty.true, c.is_empty.ensures, r.late.ok.0) in
    let none : late_conjuncts (block_in r.source) ≡ [] = sym ready.late ∙ ap conditions_of (nothing_there r.late.items empty) in
    subst (λ (x : ReadyBlock). Says (context_among (database_in query) (blocks_in query) outer) (block_in x.source) (combination_in x.source c.args.composite.now) (Ok true)) (same_block r r' (sym at_block ∙ at'))
    (none_are_late (context_among (database_in query) (blocks_in query) outer) (block_in r.source) (combination_in r.source c.args.composite.now) none)

pub try_late-returns-then-is_empty-clause-total : goal.try_late-returns-then-is_empty-clause-total
try_late-returns-then-is_empty-clause-total g t c r' at' =
    let query = c.args.query.now in
    let number = c.args.number in
    let outer = combinations_in c.args.frames.now in
    let r : ReadyBlock = c.index-query-number.result in
    let at_block : slice_get query number ≡ Some r = slice_get-get_or query number r c.requires.number ∙ ap Some (sym c.index-query-number.is) in
    let ready : IsReady query number r = c.requires.query number r at_block in
    let empty : length r.late.items ≡ 0 = grind (arith, nat_tests, c.if-is_empty.true, c.is_empty.ensures, r.late.ok.0) in
    let none : late_conjuncts (block_in r.source) ≡ [] = sym ready.late ∙ ap conditions_of (nothing_there r.late.items empty) in
    subst (λ (x : ReadyBlock). 0 ≡ saturated (sum_by (total_at query (combination_in x.source c.args.composite.now ∷ outer)) (subqueries (block_in x.source)))) (same_block r r' (sym at_block ∙ at'))
    (none_are_asked (total_at query (combination_in r.source c.args.composite.now ∷ outer)) (block_in r.source) none)

pub try_late-try_conjuncts-late-requires : goal.try_late-try_conjuncts-late-requires
try_late-try_conjuncts-late-requires g t c =
    let query = c.args.query.now in
    let number = c.args.number in
    let outer = combinations_in c.args.frames.now in
    let r : ReadyBlock = c.index-query-number.result in
    let at_block : slice_get query number ≡ Some r = slice_get-get_or query number r c.requires.number ∙ ap Some (sym c.index-query-number.is) in
    let back : combinations_in c.ask_at.new.frames ≡ outer = c.in_ok-work.ensures.frames in
    let results = c.ask_at.new.results in
    let ready : IsReady query number r = c.requires.query number r at_block in
    let late : conditions_of c.deref.result.now ≡ late_conjuncts (block_in r.source) = ap conditions_of c.deref.ensures.value ∙ ready.late in
    let can = late_can_evaluate query c.requires.query number r at_block outer c.requires.stands (numbers_in (length (block_in r.source).tables) c.args.composite.now) results (c.in_ok-work.ensures.told r at_block) in
    subst (λ o. AllByRecursion (CanEvaluate (told_environment (at (context_in r.source o) (combination_in r.source c.args.composite.now)) (told_by results))) (conditions_of c.deref.result.now)) (sym back)
    (subst (AllByRecursion (CanEvaluate (told_environment (at (context_in r.source outer) (combination_in r.source c.args.composite.now)) (told_by results)))) (sym late) can)

pub try_late-returns-clause-says : goal.try_late-returns-clause-says
try_late-returns-clause-says g t c r' at' =
    let query = c.args.query.now in
    let number = c.args.number in
    let outer = combinations_in c.args.frames.now in
    let r : ReadyBlock = c.index-query-number.result in
    let at_block : slice_get query number ≡ Some r = slice_get-get_or query number r c.requires.number ∙ ap Some (sym c.index-query-number.is) in
    let back : combinations_in c.ask_at.new.frames ≡ outer = c.in_ok-work.ensures.frames in
    let results = c.ask_at.new.results in
    let ready : IsReady query number r = c.requires.query number r at_block in
    let late : conditions_of c.deref.result.now ≡ late_conjuncts (block_in r.source) = ap conditions_of c.deref.ensures.value ∙ ready.late in
    let env : List Combination → Environment = λ o. told_environment (at (context_in r.source o) (combination_in r.source c.args.composite.now)) (told_by results) in
    let said = c.try_conjuncts-late in
    let truth : IfOk said.result (λ all. all ≡ are_true_in (env outer) (late_conjuncts (block_in r.source))) =
    subst (λ o. IfOk said.result (λ all. all ≡ are_true_in (env o) (late_conjuncts (block_in r.source)))) back (subst (λ ds. IfOk said.result (λ all. all ≡ are_true_in (env (combinations_in c.ask_at.new.frames)) ds)) late said.ensures.truth) in
    let quiet : OnOk said.result (raised_in (env outer) (late_conjuncts (block_in r.source)) ≡ []) =
    subst (λ o. OnOk said.result (raised_in (env o) (late_conjuncts (block_in r.source)) ≡ [])) back (subst (λ ds. OnOk said.result (raised_in (env (combinations_in c.ask_at.new.frames)) ds ≡ [])) late said.ensures.quiet) in
    let raised : IfErr said.result (λ raise. Contains (raised_in (env outer) (late_conjuncts (block_in r.source))) (raise_of raise)) =
    subst (λ o. IfErr said.result (λ raise. Contains (raised_in (env o) (late_conjuncts (block_in r.source))) (raise_of raise))) back (subst (λ ds. IfErr said.result (λ raise. Contains (raised_in (env (combinations_in c.ask_at.new.frames)) ds) (raise_of raise))) late said.ensures.raised) in
    subst (λ (x : ReadyBlock). Says (context_among (database_in query) (blocks_in query) outer) (block_in x.source) (combination_in x.source c.args.composite.now) (said_in said.result)) (same_block r r' (sym at_block ∙ at'))
    (code_says (database_in query) (blocks_in query) (block_in r.source) outer (combination_in r.source c.args.composite.now) (told_by results) (says query c.requires.query number r at_block outer c.requires.stands (numbers_in (length (block_in r.source).tables) c.args.composite.now) results (c.in_ok-work.ensures.told r at_block)) said.result truth quiet raised)

pub try_late-returns-clause-total : goal.try_late-returns-clause-total
try_late-returns-clause-total g t c = c.in_ok-work.ensures.total

-- ---- what late conjuncts ask for at a composite

pub ask_at-ask_subqueries-requires : goal.ask_at-ask_subqueries-requires
ask_at-ask_subqueries-requires g t c =
    let query = c.args.query.now in
    let number = c.args.number in
    let outer = combinations_in c.args.frames.now in
    let r : ReadyBlock = c.index-query-number.result in
    let at_block : slice_get query number ≡ Some r = slice_get-get_or query number r c.requires.number ∙ ap Some (sym c.index-query-number.is) in
    let entered : combinations_in c.enter.new.self ≡ combination_in r.source c.args.composite.now ∷ outer = c.in_ok-enter.ensures.entered in
    let inside : AllByRecursion (StandsInside (database_in query) (blocks_in query) number (combinations_in c.enter.new.self)) (subqueries_at query number) =
    subst (λ o. AllByRecursion (StandsInside (database_in query) (blocks_in query) number o) (subqueries_at query number)) (sym entered)
    (subst (AllByRecursion (StandsInside (database_in query) (blocks_in query) number (combination_in r.source c.args.composite.now ∷ outer))) (sym (ap subqueries_of at_block)) (inside_listed query c.requires.query number r at_block outer c.requires.stands (numbers_in (length (block_in r.source).tables) c.args.composite.now))) in
    let less : 5 * (length query - number) < 5 * (length query - number) + 1 = omega arith in
    search (rules, inside, less)

pub ask_at-returns-clause-told : goal.ask_at-returns-clause-told
ask_at-returns-clause-told g t c r' at' =
    let query = c.args.query.now in
    let number = c.args.number in
    let outer = combinations_in c.args.frames.now in
    let r : ReadyBlock = c.index-query-number.result in
    let at_block : slice_get query number ≡ Some r = slice_get-get_or query number r c.requires.number ∙ ap Some (sym c.index-query-number.is) in
    let entered : combinations_in c.enter.new.self ≡ combination_in r.source c.args.composite.now ∷ outer = c.in_ok-enter.ensures.entered in
    let results = c.ask_subqueries.new.results in
    let listed : AllByRecursion (IsToldLast query r.seen.items (combination_in r.source c.args.composite.now ∷ outer) results) r.subqueries.items =
    subst (λ (x : Option ReadyBlock). AllByRecursion (IsToldLast query (seen_of x) (combination_in r.source c.args.composite.now ∷ outer) results) (subqueries_of x)) at_block
    (subst (λ o. AllByRecursion (IsToldLast query (seen_at query number) o results) (subqueries_at query number)) entered c.in_ok-work.ensures.told) in
    subst (λ (x : ReadyBlock). AllByRecursion (IsToldLast query x.seen.items (combination_in x.source c.args.composite.now ∷ outer) results) x.subqueries.items) (same_block r r' (sym at_block ∙ at')) listed

pub ask_at-returns-clause-total : goal.ask_at-returns-clause-total
ask_at-returns-clause-total g t c r' at' =
    let query = c.args.query.now in
    let number = c.args.number in
    let outer = combinations_in c.args.frames.now in
    let r : ReadyBlock = c.index-query-number.result in
    let at_block : slice_get query number ≡ Some r = slice_get-get_or query number r c.requires.number ∙ ap Some (sym c.index-query-number.is) in
    let entered : combinations_in c.enter.new.self ≡ combination_in r.source c.args.composite.now ∷ outer = c.in_ok-enter.ensures.entered in
    let ready : IsReady query number r = c.requires.query number r at_block in
    subst (λ (x : ReadyBlock). c.in_ok-work.work ≡ saturated (sum_by (total_at query (combination_in x.source c.args.composite.now ∷ outer)) (subqueries (block_in x.source)))) (same_block r r' (sym at_block ∙ at'))
    (c.in_ok-work.ensures.total ∙ ap (λ o. saturated (sum_by (total_at query o) (subqueries_at query number))) entered ∙ ap (λ ns. saturated (sum_by (total_at query (combination_in r.source c.args.composite.now ∷ outer)) ns)) (ap subqueries_of at_block)
    ∙ ap saturated (sum_by-IsPermutation (total_at query (combination_in r.source c.args.composite.now ∷ outer)) (subqueries (block_in r.source)) r.subqueries.items ready.asked))

pub ask_at-returns-clause-frames : goal.ask_at-returns-clause-frames
ask_at-returns-clause-frames g t c =
    let query = c.args.query.now in
    let number = c.args.number in
    let outer = combinations_in c.args.frames.now in
    let r : ReadyBlock = c.index-query-number.result in
    let at_block : slice_get query number ≡ Some r = slice_get-get_or query number r c.requires.number ∙ ap Some (sym c.index-query-number.is) in
    c.leave.ensures (combination_in r.source c.args.composite.now) outer (c.in_ok-work.ensures.frames ∙ c.in_ok-enter.ensures.entered)

-- ---- a block that asks for no other

pub evaluate_block-evaluate_alone-requires-clause-ready : goal.evaluate_block-evaluate_alone-requires-clause-ready
evaluate_block-evaluate_alone-requires-clause-ready g t c =
    let query = c.args.query.now in
    let number = c.args.number in
    let outer = combinations_in c.args.frames.now in
    let r : ReadyBlock = c.index-query-number.result in
    let at_block : slice_get query number ≡ Some r = slice_get-get_or query number r c.requires.number ∙ ap Some (sym c.index-query-number.is) in
    let ready : IsReady query number r = c.requires.query number r at_block in
    (blocks_in query, number, subst (λ d. IsReadyIn d (blocks_in query) number r) (sym ready.database) ready)

pub evaluate_block-evaluate_alone-requires-clause-surrounded : goal.evaluate_block-evaluate_alone-requires-clause-surrounded
evaluate_block-evaluate_alone-requires-clause-surrounded g t c =
    let query = c.args.query.now in
    let number = c.args.number in
    let outer = combinations_in c.args.frames.now in
    let r : ReadyBlock = c.index-query-number.result in
    let at_block : slice_get query number ≡ Some r = slice_get-get_or query number r c.requires.number ∙ ap Some (sym c.index-query-number.is) in
    surrounded query c.requires.query number r at_block outer c.requires.stands

pub evaluate_block-evaluate_alone-requires-clause-none : goal.evaluate_block-evaluate_alone-requires-clause-none
evaluate_block-evaluate_alone-requires-clause-none g t c =
    let query = c.args.query.now in
    let number = c.args.number in
    let outer = combinations_in c.args.frames.now in
    let r : ReadyBlock = c.index-query-number.result in
    let at_block : slice_get query number ≡ Some r = slice_get-get_or query number r c.requires.number ∙ ap Some (sym c.index-query-number.is) in
    let ready : IsReady query number r = c.requires.query number r at_block in
    let empty : length r.late.items ≡ 0 = grind (arith, nat_tests, c.if-is_empty.true, c.is_empty.ensures, r.late.ok.0) in
    let none : late_conjuncts (block_in r.source) ≡ [] = sym ready.late ∙ ap conditions_of (nothing_there r.late.items empty) in
    none

pub evaluate_block-returns-then-is_empty-2-clause-told : goal.evaluate_block-returns-then-is_empty-2-clause-told
evaluate_block-returns-then-is_empty-2-clause-told g t c =
    let query = c.args.query.now in
    let number = c.args.number in
    let outer = combinations_in c.args.frames.now in
    let r : ReadyBlock = c.index-query-number.result in
    let at_block : slice_get query number ≡ Some r = slice_get-get_or query number r c.requires.number ∙ ap Some (sym c.index-query-number.is) in
    IfOk-weaker c.evaluate_alone.result _ _ (λ found told. means query c.requires.query number r at_block outer c.requires.stands c.args.existence (told_in found.0) (told (meanings_in query))) c.evaluate_alone.ensures.told

pub evaluate_block-returns-then-is_empty-2-clause-total : goal.evaluate_block-returns-then-is_empty-2-clause-total
evaluate_block-returns-then-is_empty-2-clause-total g t c =
    let query = c.args.query.now in
    let number = c.args.number in
    let outer = combinations_in c.args.frames.now in
    let r : ReadyBlock = c.index-query-number.result in
    let at_block : slice_get query number ≡ Some r = slice_get-get_or query number r c.requires.number ∙ ap Some (sym c.index-query-number.is) in
    let ready : IsReady query number r = c.requires.query number r at_block in
    let empty : length r.late.items ≡ 0 = grind (arith, nat_tests, c.if-is_empty.true, c.is_empty.ensures, r.late.ok.0) in
    let none : late_conjuncts (block_in r.source) ≡ [] = sym ready.late ∙ ap conditions_of (nothing_there r.late.items empty) in
    IfOk-weaker c.evaluate_alone.result _ _ (λ found opened. whole_alone query c.requires.query number r at_block outer c.requires.stands found.1 none opened) c.evaluate_alone.ensures.opened

-- ---- the rows of a block

pub evaluate_block-run_block-requires-clause-surrounded : goal.evaluate_block-run_block-requires-clause-surrounded
evaluate_block-run_block-requires-clause-surrounded g t c =
    let query = c.args.query.now in
    let number = c.args.number in
    let outer = combinations_in c.args.frames.now in
    let r : ReadyBlock = c.index-query-number.result in
    let at_block : slice_get query number ≡ Some r = slice_get-get_or query number r c.requires.number ∙ ap Some (sym c.index-query-number.is) in
    surrounded query c.requires.query number r at_block outer c.requires.stands

pub evaluate_block-run_block-requires-clause-block : goal.evaluate_block-run_block-requires-clause-block
evaluate_block-run_block-requires-clause-block g t c =
    let query = c.args.query.now in
    let number = c.args.number in
    let r : ReadyBlock = c.index-query-number.result in
    let at_block : slice_get query number ≡ Some r = slice_get-get_or query number r c.requires.number ∙ ap Some (sym c.index-query-number.is) in
    let ready : IsReady query number r = c.requires.query number r at_block in
    ready.block

pub evaluate_block-run_block-requires-clause-orders : goal.evaluate_block-run_block-requires-clause-orders
evaluate_block-run_block-requires-clause-orders g t c =
    let query = c.args.query.now in
    let number = c.args.number in
    let outer = combinations_in c.args.frames.now in
    let r : ReadyBlock = c.index-query-number.result in
    let at_block : slice_get query number ≡ Some r = slice_get-get_or query number r c.requires.number ∙ ap Some (sym c.index-query-number.is) in
    let ready : IsReady query number r = c.requires.query number r at_block in
    c.orders.ensures.exact ∙ ap (λ (s : Space). s.orders) ready.space

pub evaluate_block-run_block-requires-clause-within : goal.evaluate_block-run_block-requires-clause-within
evaluate_block-run_block-requires-clause-within g t c =
    let query = c.args.query.now in
    let number = c.args.number in
    let outer = combinations_in c.args.frames.now in
    let r : ReadyBlock = c.index-query-number.result in
    let at_block : slice_get query number ≡ Some r = slice_get-get_or query number r c.requires.number ∙ ap Some (sym c.index-query-number.is) in
    let ready : IsReady query number r = c.requires.query number r at_block in
    ready.within

pub evaluate_block-run_block-requires-clause-sorted : goal.evaluate_block-run_block-requires-clause-sorted
evaluate_block-run_block-requires-clause-sorted g t c =
    let query = c.args.query.now in
    let number = c.args.number in
    let r : ReadyBlock = c.index-query-number.result in
    let at_block : slice_get query number ≡ Some r = slice_get-get_or query number r c.requires.number ∙ ap Some (sym c.index-query-number.is) in
    sorted_for query c.args.sorted.now number r at_block c.requires.sorted c.sorted_column.result c.sorted_column.ensures

pub evaluate_block-composites-init : goal.evaluate_block-composites-init
evaluate_block-composites-init g t c =
    let query = c.args.query.now in
    let number = c.args.number in
    let outer = combinations_in c.args.frames.now in
    let r : ReadyBlock = c.index-query-number.result in
    let at_block : slice_get query number ≡ Some r = slice_get-get_or query number r c.requires.number ∙ ap Some (sym c.index-query-number.is) in
    let ready : IsReady query number r = c.requires.query number r at_block in
    record {
      taken = ([], refl, c.in_ok-rows.ensures.told r.source outer (meanings_in query) (sym ready.block), refl);
      good = c.in_ok-rows.ensures.well r.source outer (sym ready.block);
      kind = refl;
      right = c.requires.right;
      left = λ n l. refl;
      frames_are = refl;
      pipeline = c.in_ok-pipeline.ensures.well;
      width = c.in_ok-pipeline.ensures.width;
      opened = refl;
    }

pub evaluate_block-next-requires : goal.evaluate_block-next-requires
evaluate_block-next-requires g t c = subst (IsPipeline c.composites.pipeline) (sym c.composites.invariant.frames_are) c.composites.invariant.pipeline

pub evaluate_block-try_late-requires : goal.evaluate_block-try_late-requires
evaluate_block-try_late-requires g t c =
    let query = c.args.query.now in
    let number = c.args.number in
    let outer = combinations_in c.args.frames.now in
    let r : ReadyBlock = c.index-query-number.result in
    let at_block : slice_get query number ≡ Some r = slice_get-get_or query number r c.requires.number ∙ ap Some (sym c.index-query-number.is) in
    let now : Stands (database_in query) (blocks_in query) number (combinations_in c.composites.frames) = subst (Stands (database_in query) (blocks_in query) number) (sym c.composites.invariant.frames_are) c.requires.stands in
    let less : 4 * (length query - number) + 1 < 4 * (length query - number) + 2 = omega arith in
    search (rules, now, less)

pub evaluate_block-take-requires-clause-block : goal.evaluate_block-take-requires-clause-block
evaluate_block-take-requires-clause-block g t c =
    let query = c.args.query.now in
    let number = c.args.number in
    let outer = combinations_in c.args.frames.now in
    let r : ReadyBlock = c.index-query-number.result in
    let at_block : slice_get query number ≡ Some r = slice_get-get_or query number r c.requires.number ∙ ap Some (sym c.index-query-number.is) in
    let ready : IsReady query number r = c.requires.query number r at_block in
    ready.block

pub evaluate_block-take-requires-clause-can : goal.evaluate_block-take-requires-clause-can
evaluate_block-take-requires-clause-can g t c =
    let query = c.args.query.now in
    let number = c.args.number in
    let outer = combinations_in c.args.frames.now in
    let r : ReadyBlock = c.index-query-number.result in
    let at_block : slice_get query number ≡ Some r = slice_get-get_or query number r c.requires.number ∙ ap Some (sym c.index-query-number.is) in
    let frames : combinations_in c.try_late.new.frames ≡ outer = c.in_ok-late.ensures.frames ∙ c.composites.invariant.frames_are in
    subst (CanAnswer r.source) (sym frames) (can query c.requires.query number r at_block outer c.requires.stands)

pub evaluate_block-composites-preserved : goal.evaluate_block-composites-preserved
evaluate_block-composites-preserved g t c =
    let query = c.args.query.now in
    let number = c.args.number in
    let outer = combinations_in c.args.frames.now in
    let r : ReadyBlock = c.index-query-number.result in
    let at_block : slice_get query number ≡ Some r = slice_get-get_or query number r c.requires.number ∙ ap Some (sym c.index-query-number.is) in
    let frames : combinations_in c.try_late.new.frames ≡ outer = c.in_ok-late.ensures.frames ∙ c.composites.invariant.frames_are in
    let same = c.composites.invariant.frames_are in
    let (done, split, have, counted) = c.composites.invariant.taken in
    let pipeline = c.composites.pipeline in
    let composite = c.in-Some.composite in
    let width = length (block_in r.source).tables in
    let first : left_of pipeline outer ≡ numbers_in (width_of pipeline) composite ∷ left_of c.next.new.self outer =
    subst (λ o. left_of pipeline o ≡ numbers_in (width_of pipeline) composite ∷ left_of c.next.new.self o) same c.in-Some.ensures.taken in
    let is : left_of pipeline outer ≡ numbers_in width composite ∷ left_of c.next.new.self outer = first_at (width_of pipeline) width composite (left_of pipeline outer) (left_of c.next.new.self outer) c.composites.invariant.width first in
    let said : Says (context_among (database_in query) (blocks_in query) outer) (block_in r.source) (combination_in r.source composite) (said_in c.in_ok-late.late) =
    subst (λ o. Says (context_among (database_in query) (blocks_in query) o) (block_in r.source) (combination_in r.source composite) (said_in c.in_ok-late.late)) same (c.in_ok-late.ensures.says r at_block) in
    let worth : c.in_ok-late.work ≡ saturated (sum_by (total_at query (combination_in r.source composite ∷ outer)) (subqueries (block_in r.source))) =
    c.in_ok-late.ensures.total r at_block ∙ ap (λ o. saturated (sum_by (total_at query (combination_in r.source composite ∷ o)) (subqueries (block_in r.source)))) same in
    let takes : TakesOne r.source outer composite c.in_ok-late.late c.composites.rows c.take.new.self = subst (λ o. TakesOne r.source o composite c.in_ok-late.late c.composites.rows c.take.new.self) frames c.in_ok-take.ensures.told in
    record {
      taken = (
        done ++ numbers_in width composite ∷ [],
        split_later (left_of c.in_ok-pipeline.pipeline outer) done (left_of c.next.new.self outer) (left_of pipeline outer) (numbers_in width composite) split is,
        grows query c.requires.query number r at_block outer c.requires.stands c.in_ok-late.late c.composites.rows c.take.new.self composite done takes said have,
        c.saturating_sum-inner.ensures.exact ∙ costs query c.requires.query number r at_block outer c.requires.stands c.composites.inner c.in_ok-late.work composite done counted worth,
      );
      good = subst (λ o. IsWellFor r.source o (rows_in c.take.new.self)) frames c.in_ok-take.ensures.well;
      kind = c.take.ensures.kind ∙ c.composites.invariant.kind;
      right = c.in_ok-late.ensures.right;
      left = left_twice query (number + 1) c.args.results.now c.composites.results c.try_late.new.results c.composites.invariant.left c.in_ok-late.ensures.left;
      frames_are = frames;
      pipeline = subst (IsPipeline c.next.new.self) same c.in-Some.ensures.well;
      width = c.in-Some.ensures.width ∙ c.composites.invariant.width;
      opened = subst (λ o. opened_of c.next.new.self o ≡ opened_of pipeline o) same c.in-Some.ensures.work ∙ c.composites.invariant.opened;
    }

pub evaluate_block-end-requires-clause-block : goal.evaluate_block-end-requires-clause-block
evaluate_block-end-requires-clause-block g t c =
    let query = c.args.query.now in
    let number = c.args.number in
    let outer = combinations_in c.args.frames.now in
    let r : ReadyBlock = c.index-query-number.result in
    let at_block : slice_get query number ≡ Some r = slice_get-get_or query number r c.requires.number ∙ ap Some (sym c.index-query-number.is) in
    let ready : IsReady query number r = c.requires.query number r at_block in
    ready.block

pub evaluate_block-end-requires-clause-can : goal.evaluate_block-end-requires-clause-can
evaluate_block-end-requires-clause-can g t c =
    let query = c.args.query.now in
    let number = c.args.number in
    let outer = combinations_in c.args.frames.now in
    let r : ReadyBlock = c.index-query-number.result in
    let at_block : slice_get query number ≡ Some r = slice_get-get_or query number r c.requires.number ∙ ap Some (sym c.index-query-number.is) in
    subst (CanAnswer r.source) (sym c.composites.invariant.frames_are) (can query c.requires.query number r at_block outer c.requires.stands)

pub evaluate_block-end-requires-clause-kind : goal.evaluate_block-end-requires-clause-kind
evaluate_block-end-requires-clause-kind g t c =
    let query = c.args.query.now in
    let number = c.args.number in
    let outer = combinations_in c.args.frames.now in
    let r : ReadyBlock = c.index-query-number.result in
    let at_block : slice_get query number ≡ Some r = slice_get-get_or query number r c.requires.number ∙ ap Some (sym c.index-query-number.is) in
    let ready : IsReady query number r = c.requires.query number r at_block in
    let kind : kind_of (store_in (rows_in c.composites.rows)) ≡ keeping c.args.existence (block_in r.source).distinct = c.composites.invariant.kind ∙ c.in_ok-rows.ensures.kind ∙ ap (λ x. keeping c.args.existence (block_of x).distinct) ready.block in
    kind ∙ ap (λ e. keeping e (block_in r.source).distinct) (sym (ap (λ (k : StoreKind). k.existence) kind))

pub evaluate_block-returns-clause-told : goal.evaluate_block-returns-clause-told
evaluate_block-returns-clause-told g t c =
    let query = c.args.query.now in
    let number = c.args.number in
    let outer = combinations_in c.args.frames.now in
    let r : ReadyBlock = c.index-query-number.result in
    let at_block : slice_get query number ≡ Some r = slice_get-get_or query number r c.requires.number ∙ ap Some (sym c.index-query-number.is) in
    let ready : IsReady query number r = c.requires.query number r at_block in
    let same = c.composites.invariant.frames_are in
    let (done, split, have, counted) = c.composites.invariant.taken in
    let whole_list : List Composite = left_of c.in_ok-pipeline.pipeline outer in
    let none : left_of c.composites.pipeline outer ≡ [] = ap (left_of c.composites.pipeline) (sym same) ∙ c.in_default.ensures.taken.0 in
    let all : done ≡ whole_list = all_done whole_list done (left_of c.composites.pipeline outer) split none in
    let given : before.AreReady r.source outer whole_list =
    record { answerable = ready.answerable; valid = ready.valid; surrounded = surrounded query c.requires.query number r at_block outer c.requires.stands; arranged = c.in_ok-pipeline.ensures.arranged; ordered = c.in_ok-pipeline.ensures.required ready.required } in
    let kept : TellsKept r.source outer (meanings_in query) (map (combination_of r.source.database (block_in r.source)) whole_list) c.composites.rows =
    subst (λ cs. TellsKept r.source outer (meanings_in query) (map (combination_of r.source.database (block_in r.source)) cs) c.composites.rows) all have in
    let asks : asks_existence c.composites.rows ≡ c.args.existence = ap (λ (k : StoreKind). k.existence) (c.composites.invariant.kind ∙ c.in_ok-rows.ensures.kind) in
    let told : Tells (asks_existence c.composites.rows) (block_answer (context_with r.source outer (meanings_in query)) (block_in r.source)) (told_in c.in_ok-told.told) =
    subst (λ o. before.AreReady r.source o whole_list → TellsKept r.source o (meanings_in query) (map (combination_of r.source.database (block_in r.source)) whole_list) c.composites.rows → Tells (asks_existence c.composites.rows) (block_answer (context_with r.source o (meanings_in query)) (block_in r.source)) (told_in c.in_ok-told.told))
    same (c.in_ok-told.ensures (meanings_in query) whole_list) given kept in
    means query c.requires.query number r at_block outer c.requires.stands c.args.existence (told_in c.in_ok-told.told) (subst (λ e. Tells e (block_answer (context_with r.source outer (meanings_in query)) (block_in r.source)) (told_in c.in_ok-told.told)) asks told)

pub evaluate_block-returns-clause-total : goal.evaluate_block-returns-clause-total
evaluate_block-returns-clause-total g t c =
    let query = c.args.query.now in
    let number = c.args.number in
    let outer = combinations_in c.args.frames.now in
    let r : ReadyBlock = c.index-query-number.result in
    let at_block : slice_get query number ≡ Some r = slice_get-get_or query number r c.requires.number ∙ ap Some (sym c.index-query-number.is) in
    let same = c.composites.invariant.frames_are in
    let (done, split, have, counted) = c.composites.invariant.taken in
    let whole_list : List Composite = left_of c.in_ok-pipeline.pipeline outer in
    let none : left_of c.composites.pipeline outer ≡ [] = ap (left_of c.composites.pipeline) (sym same) ∙ c.in_default.ensures.taken.0 in
    let all : done ≡ whole_list = all_done whole_list done (left_of c.composites.pipeline outer) split none in
    let opened : c.opened_rows.result ≡ work (space_of current_version r.source.database (block_in r.source)) (stored_in r.source outer) (plan_of r.plan) =
    c.opened_rows.ensures ∙ c.in_default.ensures.spent refl ∙ c.in_default.ensures.work ∙ ap (opened_of c.composites.pipeline) same ∙ c.composites.invariant.opened ∙ c.in_ok-pipeline.ensures.work in
    let asked : c.composites.inner ≡ saturated (sum_by (totals_in query outer r) (map (combination_of r.source.database (block_in r.source)) whole_list)) =
    counted ∙ ap (λ cs. saturated (sum_by (totals_in query outer r) (map (combination_of r.source.database (block_in r.source)) cs))) all in
    c.saturating_sum.ensures.exact ∙ whole query c.requires.query number r at_block outer c.requires.stands c.opened_rows.result c.composites.inner whole_list c.in_ok-pipeline.ensures.arranged opened asked
