use Rattle.std.proofs.Common.{◌≡◌, ◌∙◌, sym, ap, subst, ◌+◌, ◌∷◌, ◌++◌, [], None, length, arith}
use Rattle.std.specs.List.{AllByRecursion}
use Rattle.std.proofs.lemmas.List.{length-append}
use Rattle.definitions.specs.Estimates.Version.{current_version}
use Rattle.definitions_answers.specs.Kept.{IsRight}
use Rattle.definitions_answers.proofs.Taken.{all_joined}
use Rattle.subqueries.specs.Keeping.{places_in}
use Rattle.subqueries.specs.declared.kept_results.KeptResults.{KeptResults}
use Rattle.subqueries.proofs.KeptPlaces.{none_is_kept}
use Rattle.executor.specs.ReadyBlocks.{blocks_in, database_in, plans_in}
use Rattle.executor.proofs.InnerBlocks.{at_place}
use Rattle.executor.proofs.answer.no_results.Goals as goal

abbrev IsEmpty : KeptResults → Type 0
IsEmpty own = AllByRecursion (λ place. place ≡ None) (places_in own)

pub blocks-2-preserved : goal.blocks-2-preserved
blocks-2-preserved c =
    let old = c.blocks-2.results.items in
    let own : KeptResults = c.in_ok-new.field-0 in
    let items : c.push.new.self.items ≡ old ++ own ∷ [] = c.in_ok-push.ensures.items in
    record {
      count = ap length items ∙ length-append old (own ∷ []) ∙ ap (λ n. n + 1) c.blocks-2.invariant.count;
      none = subst (AllByRecursion IsEmpty) (sym items) (all_joined IsEmpty old (own ∷ []) c.blocks-2.invariant.none (c.in_ok-new.ensures.empty, tt));
    }

pub returns : goal.returns
returns c =
    let query = c.args.query.now in
    let all : c.blocks-2.block-index ≡ length query = omega (arith, c.blocks-2-test.false, c.blocks-2.auto.block-index-end) in
    record {
      count = c.blocks-2.invariant.count ∙ all;
      each = λ number own is. none_is_kept (IsRight current_version (database_in query) (blocks_in query) (plans_in query) number) own (at_place IsEmpty c.blocks-2.results.items number own c.blocks-2.invariant.none is);
    }
