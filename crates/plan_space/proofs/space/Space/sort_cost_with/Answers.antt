use Rattle.std.proofs.Common.{◌∙◌, sym, ap}
use Rattle.plan_tree.specs.Sets.{set_of}
use Rattle.plan_space.specs.Inside.{planned}
use Rattle.plan_space.specs.Planned.{Planned, space_in}
use Rattle.plan_space.proofs.Facts.{cardinality_is, sort_cost_is}
use Rattle.plan_space.proofs.space.Space.sort_cost_with.Goals as goal

pub sort_cost_of-requires : goal.sort_cost_of-requires
sort_cost_of-requires c =
    c.requires ∙ sym (ap (λ (p : Planned). (space_in p).cardinality (set_of c.args.tables)) c.self.view_is) ∙ cardinality_is (planned c.self.inside) (set_of c.args.tables)

pub returns : goal.returns
returns c = rw (← c.self.view_is) (c.sort_cost_of.ensures ∙ sym (sort_cost_is (planned c.self.inside) (set_of c.args.tables)))
