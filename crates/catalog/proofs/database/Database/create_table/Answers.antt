use Rattle.std.proofs.Common.{◌<◌, ◌∙◌, ◌++◌, ◌∷◌, [], sym, ap, refl, length, arith}
use Rattle.std.proofs.lemmas.Result.{err_from_is_err_and}
use Rattle.definitions.specs.Limits.{most_tables}
use Rattle.definitions.specs.Faults as faults
use Rattle.parse_tree.specs.Trees.{definitions_of}
use Rattle.catalog.proofs.NamedTables.{taken, not_taken, new_name}
use Rattle.catalog.proofs.Creating.{accepted, untyped, misjudged, created, stored_too, as_stored}
use Rattle.catalog.proofs.database.Database.create_table.Goals as goal

pub returns-then-len-ge-MAX_TABLES-clause-refused : goal.returns-then-len-ge-MAX_TABLES-clause-refused
returns-then-len-ge-MAX_TABLES-clause-refused c = faults.many_tables _ _ (omega (arith, c.if-len-ge-MAX_TABLES.true, c.len.ensures, c.self.inside.tables.ok.0, ap length c.self.view_is))

pub returns-then-is_some-clause-refused : goal.returns-then-is_some-clause-refused
returns-then-is_some-clause-refused c =
    let (t, named) = taken c.args.self.now c.args.name.now c.table.result c.table.ensures.named (sym c.is_some.ensures ∙ c.if-is_some.true) in
    faults.table_taken _ _ t named

pub returns-in-Err-clause-refused : goal.returns-in-Err-clause-refused
returns-in-Err-clause-refused c = misjudged _ _ _ c.in-Err.fault (c.in-Err.ensures).refused

pub returns-in_err-table-clause-refused : goal.returns-in_err-table-clause-refused
returns-in_err-table-clause-refused c =
    let p = err_from_is_err_and c.from_residual.result c.from_residual.ensures.1 in
    rw (p.1, p.2) (untyped _ _ _ c.in_err-table.field-0.0 (c.in_err-table.ensures).err)

-- ---- the room

pub invariant_of-self : goal.invariant_of-self
invariant_of-self c = as_stored c.self.inside.tables.items c.reserve.new.self.items c.self.inside.names c.self.inside.names c.self.invariant c.reserve.ensures.items refl

-- ---- the name

pub push-requires : goal.push-requires
push-requires c =
    new_name c.self.inside.names c.self.inside.tables.items c.args.self.now c.args.name.now c.self.invariant.named c.self.view_is
    (not_taken c.args.self.now c.args.name.now c.table.result c.table.ensures.named (sym c.is_some.ensures ∙ c.if-is_some.false))

pub invariant_of-self-in_err-push : goal.invariant_of-self-in_err-push
invariant_of-self-in_err-push c = as_stored c.self.inside.tables.items c.reserve.new.self.items c.self.inside.names c.push.new.self c.self.invariant c.reserve.ensures.items c.in_err-push.ensures.err

-- ---- the table

pub returns-clause-accepted : goal.returns-clause-accepted
returns-clause-accepted c =
    let few : length c.args.self.now < most_tables = omega (arith, c.if-len-ge-MAX_TABLES.false, c.len.ensures, c.self.inside.tables.ok.0, ap length c.self.view_is) in
    accepted _ _ _ (not_taken c.args.self.now c.args.name.now c.table.result c.table.ensures.named (sym c.is_some.ensures ∙ c.if-is_some.false)) few (c.in_default.ensures).ok (c.in_ok-table.ensures).types

pub invariant_of-self-2 : goal.invariant_of-self-2
invariant_of-self-2 c =
    let few : length c.args.self.now < most_tables = omega (arith, c.if-len-ge-MAX_TABLES.false, c.len.ensures, c.self.inside.tables.ok.0, ap length c.self.view_is) in
    let fine = accepted c.args.self.now c.args.name.now (definitions_of c.args.definitions.now) (not_taken c.args.self.now c.args.name.now c.table.result c.table.ensures.named (sym c.is_some.ensures ∙ c.if-is_some.false)) few (c.in_default.ensures).ok (c.in_ok-table.ensures).types in
    stored_too c.self.inside.tables.items c.push_reserved.new.self.items c.self.inside.names c.push.new.self c.in_ok-table.table c.args.name.now (definitions_of c.args.definitions.now) c.self.invariant (rw c.self.view_is fine)
    c.in_ok-push.ensures.ok (c.push_reserved.ensures.items ∙ ap (λ ts. ts ++ c.in_ok-table.table ∷ []) c.reserve.ensures.items) (c.in_ok-table.ensures).ok

pub returns-clause-made : goal.returns-clause-made
returns-clause-made c =
    created c.args.self.now c.push_reserved.new.self.items c.in_ok-table.table c.args.name.now (definitions_of c.args.definitions.now)
    (c.push_reserved.ensures.items ∙ ap (λ ts. ts ++ c.in_ok-table.table ∷ []) (c.reserve.ensures.items ∙ c.self.view_is)) (c.in_ok-table.ensures).ok
