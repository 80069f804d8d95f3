-- What the tree of a list has of it.
use Rattle.std.proofs.Common.{◌≡◌, ◌∙◌, refl, ap, sym, ℕ, ◌+◌, ◌<◌, ◌≤◌, List, length, take, arith}
use Rattle.std.proofs.lemmas.List.{take_all, length-take-le}
use Rattle.definitions.specs.Rule.{Rule, Gives}
use Rattle.definitions.specs.Rule as g
use Rattle.definitions.specs.Grammar.{WholeListOf, ListOf}
use Rattle.definitions.specs.Laws.{IsReadToItsLimit}
use Rattle.definitions.proofs.Alike.{Alike}
use Rattle.definitions.proofs.Grammar.{whole_list_alike}

pub read_to_its_limit : {X : Type 0} {rule : Rule X} (most : ℕ) → Alike rule rule → IsReadToItsLimit most rule
read_to_its_limit most alike tokens at end to whole kept all (g.then i m j ys zs h (g.gives k l ws e f)) =
    let same : ys ≡ whole = ((whole_list_alike alike).same tokens tokens m (λ k le. refl) at m end ys whole (omega arith) h all).1 in
    let cut : kept ≡ take (most + 1) whole = e ∙ ap (take (most + 1)) same in (
      (λ few. cut ∙ take_all (most + 1) whole (omega (arith, few))),
      (λ many. let n : length kept ≡ most + 1 = ap length cut ∙ length-take-le (most + 1) whole (omega (arith, many)) in omega (arith, n)),
    )
