use Rattle.std.proofs.Common.{◌≡◌, true, false}
use Rattle.catalog.proofs.Creating.{untyped_at}
use Rattle.catalog.proofs.creation.new_columns.Goals as goal

pub returns-in-Err-clause-err : goal.returns-in-Err-clause-err
returns-in-Err-clause-err c =
    untyped_at c.args.definitions.now c.loop-place.place c.index-definitions-place.result c.loop-place-test.true c.index-definitions-place.is (λ t. let clash : false ≡ true = (c.in-Err.ensures).in_range.1 t in cc)
