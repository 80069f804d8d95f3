use Rattle.plan_tree.specs.Sets.{set_of}
use Rattle.plan_space.specs.Planned.{space_in}
use Rattle.plan_space.proofs.Looping.{are_loops}
use Rattle.plan_space.proofs.space.Space.loops.Goals as goal

pub returns : goal.returns
returns c =
    let outer = c.args.outer.now in
    rw c.new.ensures (are_loops (space_in c.args.self.now) (set_of outer.tables) c.args.table outer.rows c.requires.outer.rows c.paths.result c.paths.ensures)
