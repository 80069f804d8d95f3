use Rattle.std.proofs.Common.{◌∙◌, ap, refl, subst}
use Rattle.std.specs.Prelude.{Some}
use Rattle.definitions.specs.Plans.TableSet.{TableSet, only}
use Rattle.plan_tree.specs.Plans.{path_of}
use Rattle.plan_space.specs.Items.{item_of}
use Rattle.plan_space.specs.Measures.{IsPathFound}
use Rattle.plan_space.specs.Planned.{space_in}
use Rattle.plan_space.proofs.Plans.{an_access}
use Rattle.plan_space.proofs.summarising.access_summary.Goals as goal

pub returns : goal.returns
returns c =
    let space = space_in c.args.space.now in
    let path = path_of c.args.path.now in
    let item = item_of c.in_ok-item.item in
    let found = subst (λ (known : TableSet). IsPathFound space known path (Some item)) c.none.ensures c.in_ok-item.ensures.exact in
    an_access space path item _ found c.in_ok-item.ensures.within (c.only.ensures ∙ ap only c.table.ensures) refl refl
