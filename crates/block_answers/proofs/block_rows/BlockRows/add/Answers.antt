use Rattle.std.proofs.Common.{◌≡◌, ◌∙◌, sym, ap, subst, length}
use Rattle.std.specs.List.{AllByRecursion}
use Rattle.std.proofs.lemmas.Result.{on_ok_weaker}
use Rattle.query_tree.specs.Bound.{block_of}
use Rattle.filters.specs.Composites.{numbers_in}
use Rattle.filters.specs.Sources.{block_in, environment_at}
use Rattle.result_lines.specs.RowAt.{items_of, CanGive}
use Rattle.block_answers.specs.Groups.{seen}
use Rattle.block_answers.proofs.BlockTaking.{plain_more}
use Rattle.block_answers.proofs.Formed.{items_can}
use Rattle.block_answers.proofs.block_rows.BlockRows.add.Goals as goal

pub add-requires : goal.add-requires
add-requires g c =
    let s = c.args.source.now in
    let outer = g.A.OuterRows.combinations c.args.around.now in
    let numbers = numbers_in (length (block_in s).tables) c.args.composite.now in
    let own : items_of c.deref.result.now ≡ (block_in s).items = ap items_of c.deref.ensures.value ∙ ap (λ b. (block_of b).items) c.requires.block in
    subst (λ env. AllByRecursion (CanGive env) (items_of c.deref.result.now)) (sym c.row_at.ensures)
    (subst (AllByRecursion (CanGive (environment_at s outer numbers))) (sym own) (items_can s outer numbers c.requires.can.valid c.requires.can.surrounded))

pub returns-in-Plain-clause-told : goal.returns-in-Plain-clause-told
returns-in-Plain-clause-told g c =
    let s = c.args.source.now in
    let outer = g.A.OuterRows.combinations c.args.around.now in
    let own : items_of c.deref.result.now ≡ (block_in s).items = ap items_of c.deref.ensures.value ∙ ap (λ b. (block_of b).items) c.requires.block in
    on_ok_weaker c.add.result (λ more cs typed before. plain_more s outer _ _ (seen s outer c.args.composite.now) c.row_at.ensures own c.in-Plain.rows c.add.new.self more cs (rw c.in-Plain.is at before)) c.add.ensures.told
