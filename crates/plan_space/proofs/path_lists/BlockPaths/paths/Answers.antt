use Rattle.std.proofs.Common.{◌≡◌, ◌∙◌, sym, ap, subst, ℕ, map, [], List}
use Rattle.std.specs.Global.{Vec}
use Rattle.std.proofs.lemmas.List.{get_or-map}
use Rattle.query_tree.specs.Bound.{block_of}
use Rattle.plan_tree.specs.Sets.{set_of}
use Rattle.access_paths.specs.Found.{FoundPath}
use Rattle.plan_space.specs.PathListed.{AreListed, listed_path_of}
use Rattle.plan_space.specs.PathLists.{paths_at}
use Rattle.plan_space.specs.declared.path_lists.NumberedPath.{NumberedPath}
use Rattle.plan_space.proofs.Items.{are_items}
use Rattle.plan_space.proofs.path_lists.BlockPaths.paths.Goals as goal

pub returns : goal.returns
returns c = λ version are.
    let a = c.args in
    let db = a.estimate.now.database in
    let block = block_of a.estimate.now.block in
    let xs = map listed_path_of c.deref.result.now in
    let here : paths_at a.self.now a.table ≡ xs =
    get_or-map (λ (v : Vec NumberedPath). map listed_path_of v.items) a.self.now.tables.items a.table c.index.result.now [] c.requires.table
    ∙ ap (λ (v : Vec NumberedPath). map listed_path_of v.items) (sym c.index.ensures) ∙ ap (map listed_path_of) (sym c.deref.ensures.value) in
    let listed : AreListed version db block a.table xs = subst (λ (ys : List (FoundPath × ℕ)). AreListed version db block a.table ys) here (are a.table c.requires.table) in
    rw c.new.ensures (are_items version db block a.table (set_of a.known) c.path_rows.result xs listed c.path_rows.ensures.exact c.requires.block)
