use Rattle.std.proofs.Common.{◌≡◌, ◌∙◌, sym, ap, subst, List, [], Some, map}
use Rattle.std.specs.Prelude.{not, slice_get}
use Rattle.std.proofs.lemmas.Option.{slice_get-get_or}
use Rattle.std.proofs.lemmas.Result.{err_from_is_err_and}
use Rattle.definitions.specs.Estimates.BlockSpace.{space_of}
use Rattle.definitions.specs.Estimates.Version.{current_version}
use Rattle.definitions.specs.Plans.Space.{Space}
use Rattle.definitions_answers.specs.Ordered.{AreRequired}
use Rattle.definitions_execution.specs.OfBlock.{combination_of}
use Rattle.definitions_execution.specs.Running.{work}
use Rattle.definitions_execution.specs.Stored.{Composite}
use Rattle.operators.specs.Running.{left_of, opened_of, IsPipeline}
use Rattle.plan_tree.specs.Plans.{plan_of}
use Rattle.query_tree.specs.Bound.{block_of, key_of}
use Rattle.filters.specs.Sources.{block_in, stored_in, IsSurrounded}
use Rattle.subqueries.specs.Framed.{combinations_in}
use Rattle.result_rows.specs.Stores.{printing, StoreKind}
use Rattle.block_answers.specs.BlockRows.{comes_in_order}
use Rattle.block_answers.specs.Ready.{CanAnswer}
use Rattle.executor.specs.ReadyBlocks.{IsReady}
use Rattle.block_answers.specs.Telling.{ArrangePassing}
use Rattle.executor.specs.declared.ready_block.ReadyBlock.{ReadyBlock}
use Rattle.executor.proofs.InnerRows.{can, surrounded, whole}
use Rattle.executor.proofs.Outermost.{late_allowed, raise_allowed, text_allowed}
use Rattle.executor.proofs.answer.run_select.Goals as goal

pub run_block-requires-clause-surrounded : goal.run_block-requires-clause-surrounded
run_block-requires-clause-surrounded g c =
    let query = c.args.query.now in
    let r : ReadyBlock = c.index-query-0.result in
    let at_block : slice_get query 0 ≡ Some r = slice_get-get_or query 0 r c.requires.outermost ∙ ap Some (sym c.index-query-0.is) in
    subst (IsSurrounded r.source) (sym c.new-frames.ensures) (surrounded query c.requires.query 0 r at_block [] c.requires.stands)

pub run_block-requires-clause-orders : goal.run_block-requires-clause-orders
run_block-requires-clause-orders g c =
    let query = c.args.query.now in
    let r : ReadyBlock = c.index-query-0.result in
    let at_block : slice_get query 0 ≡ Some r = slice_get-get_or query 0 r c.requires.outermost ∙ ap Some (sym c.index-query-0.is) in
    let ready : IsReady query 0 r = c.requires.query 0 r at_block in
    c.orders.ensures.exact ∙ ap (λ (s : Space). s.orders) ready.space

pub run_block-requires-clause-within : goal.run_block-requires-clause-within
run_block-requires-clause-within g c =
    let query = c.args.query.now in
    let r : ReadyBlock = c.index-query-0.result in
    let at_block : slice_get query 0 ≡ Some r = slice_get-get_or query 0 r c.requires.outermost ∙ ap Some (sym c.index-query-0.is) in
    let ready : IsReady query 0 r = c.requires.query 0 r at_block in
    ready.within

pub run_block-requires-clause-block : goal.run_block-requires-clause-block
run_block-requires-clause-block g c =
    let query = c.args.query.now in
    let r : ReadyBlock = c.index-query-0.result in
    let at_block : slice_get query 0 ≡ Some r = slice_get-get_or query 0 r c.requires.outermost ∙ ap Some (sym c.index-query-0.is) in
    let ready : IsReady query 0 r = c.requires.query 0 r at_block in
    ready.block

pub take_rows-requires : goal.take_rows-requires
take_rows-requires g c =
    let query = c.args.query.now in
    let r : ReadyBlock = c.index-query-0.result in
    let at_block : slice_get query 0 ≡ Some r = slice_get-get_or query 0 r c.requires.outermost ∙ ap Some (sym c.index-query-0.is) in
    let ready : IsReady query 0 r = c.requires.query 0 r at_block in
    record {
      can = record {
        ready = c.requires.query;
        first = at_block;
        stands = c.requires.stands;
        right = rw c.as_mut_slice-results.ensures.value c.in_ok-kept.ensures;
        frames = c.new-frames.ensures;
        pipeline = subst (IsPipeline c.in_ok-pipeline.pipeline) c.new-frames.ensures c.in_ok-pipeline.ensures.well;
        width = c.in_ok-pipeline.ensures.width;
        well = c.in_ok-rows.ensures.well r.source [] (sym ready.block);
        told = c.in_ok-rows.ensures.told r.source [] (sym ready.block);
      };
    }

pub returns-in_err-inner-clause-raised : goal.returns-in_err-inner-clause-raised
returns-in_err-inner-clause-raised g c =
    let query = c.args.query.now in
    let r : ReadyBlock = c.index-query-0.result in
    let at_block : slice_get query 0 ≡ Some r = slice_get-get_or query 0 r c.requires.outermost ∙ ap Some (sym c.index-query-0.is) in
    let ready : IsReady query 0 r = c.requires.query 0 r at_block in
    let whole_list : List Composite = left_of c.in_ok-pipeline.pipeline [] in
    let arranged = subst (λ o. ArrangePassing r.source o (left_of c.in_ok-pipeline.pipeline o)) c.new-frames.ensures c.in_ok-pipeline.ensures.arranged in
    let ordered = subst (λ o. AreRequired (block_in r.source) (map (combination_of r.source.database (block_in r.source)) (left_of c.in_ok-pipeline.pipeline o))) c.new-frames.ensures (c.in_ok-pipeline.ensures.required ready.required) in
    let e = err_from_is_err_and c.from_residual-in_err-inner.result c.from_residual-in_err-inner.ensures.1 in
    rw (e.1, e.2) (late_allowed query c.requires.query r at_block c.requires.stands whole_list arranged ordered c.in_err-inner.field-0.0 c.in_err-inner.ensures.raised)

pub finish-requires-clause-block : goal.finish-requires-clause-block
finish-requires-clause-block g c =
    let query = c.args.query.now in
    let r : ReadyBlock = c.index-query-0.result in
    let at_block : slice_get query 0 ≡ Some r = slice_get-get_or query 0 r c.requires.outermost ∙ ap Some (sym c.index-query-0.is) in
    let ready : IsReady query 0 r = c.requires.query 0 r at_block in
    ready.block

pub finish-requires-clause-can : goal.finish-requires-clause-can
finish-requires-clause-can g c =
    let query = c.args.query.now in
    let r : ReadyBlock = c.index-query-0.result in
    let at_block : slice_get query 0 ≡ Some r = slice_get-get_or query 0 r c.requires.outermost ∙ ap Some (sym c.index-query-0.is) in
    subst (CanAnswer r.source) (sym c.in_ok-inner.ensures.taken.frames) (can query c.requires.query 0 r at_block [] c.requires.stands)

pub returns-in_err-store-clause-raised : goal.returns-in_err-store-clause-raised
returns-in_err-store-clause-raised g c =
    let query = c.args.query.now in
    let r : ReadyBlock = c.index-query-0.result in
    let at_block : slice_get query 0 ≡ Some r = slice_get-get_or query 0 r c.requires.outermost ∙ ap Some (sym c.index-query-0.is) in
    let ready : IsReady query 0 r = c.requires.query 0 r at_block in
    let same = c.in_ok-inner.ensures.taken.frames in
    let whole_list : List Composite = left_of c.in_ok-pipeline.pipeline [] in
    let arranged = subst (λ o. ArrangePassing r.source o (left_of c.in_ok-pipeline.pipeline o)) c.new-frames.ensures c.in_ok-pipeline.ensures.arranged in
    let ordered = subst (λ o. AreRequired (block_in r.source) (map (combination_of r.source.database (block_in r.source)) (left_of c.in_ok-pipeline.pipeline o))) c.new-frames.ensures (c.in_ok-pipeline.ensures.required ready.required) in
    let e = err_from_is_err_and c.from_residual-in_err-store.result c.from_residual-in_err-store.ensures.1 in
    rw (e.1, e.2) (raise_allowed query c.requires.query r at_block c.requires.stands whole_list arranged ordered c.take_rows.new.rows c.in_ok-inner.ensures.taken.taken (combinations_in c.take_rows.new.frames) same c.in_err-store.field-0.0 c.in_err-store.ensures.raised)

pub returns-clause-rows : goal.returns-clause-rows
returns-clause-rows g c =
    let query = c.args.query.now in
    let r : ReadyBlock = c.index-query-0.result in
    let at_block : slice_get query 0 ≡ Some r = slice_get-get_or query 0 r c.requires.outermost ∙ ap Some (sym c.index-query-0.is) in
    let ready : IsReady query 0 r = c.requires.query 0 r at_block in
    let same = c.in_ok-inner.ensures.taken.frames in
    let whole_list : List Composite = left_of c.in_ok-pipeline.pipeline [] in
    let arranged = subst (λ o. ArrangePassing r.source o (left_of c.in_ok-pipeline.pipeline o)) c.new-frames.ensures c.in_ok-pipeline.ensures.arranged in
    let ordered = subst (λ o. AreRequired (block_in r.source) (map (combination_of r.source.database (block_in r.source)) (left_of c.in_ok-pipeline.pipeline o))) c.new-frames.ensures (c.in_ok-pipeline.ensures.required ready.required) in
    let kind = c.in_ok-store.ensures.kind ∙ c.in_ok-inner.ensures.taken.kind ∙ c.in_ok-rows.ensures.kind ∙ ap (λ b. printing (not (comes_in_order (block_of b))) (block_of b).distinct) ready.block in
    let keys = ap (map key_of) (c.deref.ensures.value ∙ ap (λ b. b.order.items) ready.block) in
    text_allowed query c.requires.query r at_block c.requires.stands whole_list arranged ordered c.take_rows.new.rows c.in_ok-inner.ensures.taken.taken (combinations_in c.take_rows.new.frames) same c.in_ok-store.store _ c.in_ok-text.text.items c.in_ok-store.ensures.rows kind keys c.in_ok-text.ensures

pub end-requires : goal.end-requires
end-requires g c = record { prints = ap (λ (k : StoreKind). k.prints) (c.in_ok-store.ensures.kind ∙ c.in_ok-inner.ensures.taken.kind ∙ c.in_ok-rows.ensures.kind) }

pub returns-clause-total : goal.returns-clause-total
returns-clause-total g c =
    let query = c.args.query.now in
    let r : ReadyBlock = c.index-query-0.result in
    let at_block : slice_get query 0 ≡ Some r = slice_get-get_or query 0 r c.requires.outermost ∙ ap Some (sym c.index-query-0.is) in
    let whole_list : List Composite = left_of c.in_ok-pipeline.pipeline [] in
    let work_is : opened_of c.in_ok-pipeline.pipeline [] ≡ work (space_of current_version r.source.database (block_in r.source)) (stored_in r.source []) (plan_of r.plan) =
    subst (λ o. opened_of c.in_ok-pipeline.pipeline o ≡ work (space_of current_version r.source.database (block_in r.source)) (stored_in r.source o) (plan_of r.plan)) c.new-frames.ensures c.in_ok-pipeline.ensures.work in
    let opened : c.opened_rows.result ≡ work (space_of current_version r.source.database (block_in r.source)) (stored_in r.source []) (plan_of r.plan) =
    c.opened_rows.ensures ∙ c.in_ok-inner.ensures.taken.opened ∙ work_is in
    let arranged = subst (λ o. ArrangePassing r.source o (left_of c.in_ok-pipeline.pipeline o)) c.new-frames.ensures c.in_ok-pipeline.ensures.arranged in
    c.saturating_sum.ensures.exact ∙ whole query c.requires.query 0 r at_block [] c.requires.stands c.opened_rows.result c.in_ok-inner.inner whole_list arranged opened c.in_ok-inner.ensures.taken.total
