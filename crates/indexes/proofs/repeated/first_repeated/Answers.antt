use Rattle.std.proofs.Common.{◌≡◌, ◌∙◌, ◌-◌, sym, ap, length, rules}
use Rattle.indexes.specs.Keys.{columns_of, height}
use Rattle.indexes.proofs.FirstRepeated.{lowest, all_unique, first_is, if_found, if_none}
use Rattle.indexes.proofs.repeated.first_repeated.Goals as goal

pub returns-clause-first : goal.returns-clause-first
returns-clause-first c =
    let e : c.loop-place.place ≡ length c.args.rows.now - 1 = search rules in
    if_found c.loop-place.found (λ f i. first_is (columns_of c.args.keys.now) c.args.rows.now (height (columns_of c.args.keys.now)) c.requires.same c.requires.rising f (ap (lowest (columns_of c.args.keys.now) c.args.rows.now) (sym e) ∙ sym c.loop-place.invariant ∙ i))

pub returns-clause-unique : goal.returns-clause-unique
returns-clause-unique c =
    let e : c.loop-place.place ≡ length c.args.rows.now - 1 = search rules in
    λ h. all_unique (columns_of c.args.keys.now) c.args.rows.now (height (columns_of c.args.keys.now)) c.requires.same c.requires.rising (ap (lowest (columns_of c.args.keys.now) c.args.rows.now) (sym e) ∙ sym c.loop-place.invariant ∙ if_none c.loop-place.found h)
