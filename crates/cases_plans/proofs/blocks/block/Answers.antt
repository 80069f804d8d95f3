use Rattle.std.proofs.Common.{◌≡◌, ◌∙◌, sym, ℕ, ◌<◌, Bool, false, arith}
use Rattle.std.specs.Prelude.{◌==◌}
use Rattle.std.proofs.lemmas.Bool.Decides.{nat_tests}
use Rattle.definitions.specs.Binding.Formed.{IsFormedSomewhere}
use Rattle.query_tree.specs.Bound.{block_of}
use Rattle.cases_plans.proofs.WholeQuery.{each_at}
use Rattle.cases_plans.proofs.blocks.block.Goals as goal

some_there : (len n : ℕ) (empty : Bool) → empty ≡ (len == 0) → empty ≡ false → len ≡ n → 0 < n
some_there len n empty e f same = let test : (len == 0) ≡ false = sym e ∙ f in grind (arith, nat_tests, test, same)

pub returns : goal.returns
returns c =
    let blocks = c.in-Some.blocks in
    let some = some_there _ _ c.is_empty.result c.is_empty.ensures c.if-is_empty.false blocks.ok.0 in
    each_at (IsFormedSomewhere c.args.database.now) block_of blocks.items 0 c.swap_remove.result c.in-Some.ensures.each some c.swap_remove.ensures.value
