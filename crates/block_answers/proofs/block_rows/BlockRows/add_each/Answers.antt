use Rattle.std.proofs.Common.{◌∙◌, refl, sym, subst, arith, List, ◌++◌, map, take}
use Rattle.std.proofs.lemmas.List.{append-nil, take_all}
use Rattle.definitions_execution.specs.OfBlock.{combination_of}
use Rattle.definitions_execution.specs.Stored.{Composite}
use Rattle.filters.specs.Sources.{block_in}
use Rattle.block_answers.specs.BlockRows.{TellsOf}
use Rattle.block_answers.proofs.BatchTaking.{next_taken, typed_before}
use Rattle.block_answers.proofs.block_rows.BlockRows.add_each.Goals as goal

pub places-init : goal.places-init
places-init g c = record {
  well = c.requires.well;
  told = λ cs typed before. subst (λ ds. TellsOf c.args.source.now (g.A.OuterRows.combinations c.args.around.now) ds c.args.self.now) (sym (append-nil cs)) before;
  kind = refl;
}

pub places-preserved : goal.places-preserved
places-preserved g c =
    let source = c.args.source.now in
    let outer = g.A.OuterRows.combinations c.args.around.now in
    let items = c.args.batch.now.items in
    let place = c.places.place in
    record {
      well = c.in_ok-add.ensures.well;
      told = λ cs typed before.
          subst (λ ds. TellsOf source outer ds c.add.new.self)
          (next_taken source outer cs items place c.args.batch.now.width c.get.result (omega (arith, c.places-test.true, c.len-place-end.ensures.exact)) c.requires.wide c.get.ensures)
          (c.in_ok-add.ensures.told (cs ++ map (combination_of source.database (block_in source)) (take place items)) (typed_before source outer c.requires.can.valid cs items place typed) (c.places.invariant.told cs typed before));
      kind = c.add.ensures.kind ∙ c.places.invariant.kind;
    }

pub returns-clause-told : goal.returns-clause-told
returns-clause-told g c = λ cs typed before.
    let source = c.args.source.now in
    subst (λ (items : List Composite). TellsOf source (g.A.OuterRows.combinations c.args.around.now) (cs ++ map (combination_of source.database (block_in source)) items) c.places.self)
    (take_all c.places.place c.args.batch.now.items (omega (arith, c.places-test.false, c.len-place-end.ensures.exact)))
    (c.places.invariant.told cs typed before)
