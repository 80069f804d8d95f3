use Rattle.std.proofs.Common.{ℕ, ◌≤◌, sym, subst, length, map, arith}
use Rattle.std.proofs.lemmas.List.{length-map}
use Rattle.std.specs.Global.{Vec}
use Rattle.definitions.specs.Limits.{most_blocks}
use Rattle.definitions.specs.Table.{Database}
use Rattle.definitions.specs.Certificates.Explaining.{certified_from, AreExplained}
use Rattle.definitions.specs.Estimates.Version.{current_version}
use Rattle.query_tree.specs.Bound.{block_of}
use Rattle.parse_tree.specs.Trees.{select_of}
use Rattle.sqlr.specs.Explaining.{told}
use Rattle.sqlr.proofs.Explained.{fault_told, accepted, blocks_formed, blocks_few}
use Rattle.sqlr.proofs.Written.{written}
use Rattle.sqlr.proofs.explaining.explain.Goals as goal

pub returns-in-Err-Refused-clause-explains : goal.returns-in-Err-Refused-clause-explains
returns-in-Err-Refused-clause-explains g c =
    fault_told _ _ _ _ (rw c.refusal.ensures (rw c.in-Err-Refused.field-0-is at c.in-Err-Refused.ensures.refused)) c.refusal_line.ensures.text c.refusal_line.ensures.ended

pub plan_query-requires : goal.plan_query-requires
plan_query-requires g c = record { formed = rw c.deref.ensures.value (blocks_formed c.args.database.now (select_of c.args.query.now) (map block_of c.in-Ok.blocks.items) c.tables-tables.ensures.valid (written c.args.database.now c.args.query.now) c.in-Ok.ensures.bound) }

pub returns-clause-explains : goal.returns-clause-explains
returns-clause-explains g c =
    let db : Database = c.args.database.now in
    let blocks = map block_of c.in-Ok.blocks.items in
    let valid = c.tables-tables.ensures.valid in
    let formed = blocks_formed db (select_of c.args.query.now) blocks valid (written db c.args.query.now) c.in-Ok.ensures.bound in
    let few : length blocks ≤ most_blocks = omega (arith, length-map c.in-Ok.blocks.items block_of, blocks_few db (select_of c.args.query.now) c.in-Ok.blocks.items c.in-Ok.ensures.bound) in
    let planned = rw (c.deref.ensures.value) at c.in_ok-planned.ensures in
    let text = c.in_ok-text.ensures db blocks valid formed few (rw c.deref-5.ensures.value planned) in
    told blocks (accepted db (select_of c.args.query.now) blocks c.in-Ok.ensures.bound) c.in-Ok.ensures.bound
    (subst (λ (text : Vec ℕ). AreExplained current_version (certified_from db 0 blocks) text.items) (sym c.done.ensures.text) text) c.done.ensures.ended
