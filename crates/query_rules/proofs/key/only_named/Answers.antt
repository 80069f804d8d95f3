use Rattle.std.proofs.Common.{◌∙◌, sym, ◌+◌, ◌∷◌, None, map, drop, get_or}
use Rattle.definitions.specs.Binding.BoundForm.{has_name}
use Rattle.query_rules.specs.Keys.{known_name, known_names}
use Rattle.query_rules.proofs.Keys.{OnlySoFar, begin_names, skip_name, second_name, not_yet, next_names, same_place, no_names, end_some, end_one, end_none}
use Rattle.query_rules.proofs.key.only_named.Goals.{then-is_named+else-is_some, else-is_named}
use Rattle.query_rules.proofs.key.only_named.Goals as goal

pub names-init : goal.names-init
names-init c = begin_names (has_name c.args.name.now) (known_names c.args.names.now)

pub returns-then-is_some-clause-none : goal.returns-then-is_some-clause-none
returns-then-is_some-clause-none c none one =
    let left : OnlySoFar (has_name c.args.name.now) (known_names c.args.names.now) (known_name (get_or c.args.names.now c.names.i None) ∷ (map known_name (drop (c.names.i + 1) c.args.names.now))) c.names.i c.names.only = rw (next_names c.args.names.now c.names.i (get_or c.args.names.now c.names.i None) c.names-test.true (same_place c.args.names.now c.names.i)) at c.names.invariant in
    second_name (has_name c.args.name.now) (known_names c.args.names.now) (map known_name (drop (c.names.i + 1) c.args.names.now)) (known_name (get_or c.args.names.now c.names.i None)) c.names.i c.names.only (sym c.is_some.ensures ∙ c.if-is_some.true) (sym c.is_named.ensures ∙ c.if-is_named.true) left one

pub names-preserved : goal.names-preserved
names-preserved c =
    let left : OnlySoFar (has_name c.args.name.now) (known_names c.args.names.now) (known_name (get_or c.args.names.now c.names.i None) ∷ (map known_name (drop (c.names.i + 1) c.args.names.now))) c.names.i c.names.only = rw (next_names c.args.names.now c.names.i (get_or c.args.names.now c.names.i None) c.names-test.true (same_place c.args.names.now c.names.i)) at c.names.invariant in
    elim c.if-is_named.branch [
      | then-is_named+else-is_some w ↦ rw w.only-is (not_yet (has_name c.args.name.now) (known_names c.args.names.now) (map known_name (drop (c.names.i + 1) c.args.names.now)) (known_name (get_or c.args.names.now c.names.i None)) c.names.i c.names.only (sym w.is_some.ensures ∙ w.if-is_some.false) (sym c.is_named.ensures ∙ w.if-is_named.true) left)
      | else-is_named w ↦ rw w.only-is (skip_name (has_name c.args.name.now) (known_names c.args.names.now) (map known_name (drop (c.names.i + 1) c.args.names.now)) (known_name (get_or c.args.names.now c.names.i None)) c.names.i c.names.only (sym c.is_named.ensures ∙ w.if-is_named.false) left)
    ]

pub returns-clause-some : goal.returns-clause-some
returns-clause-some c = end_some (has_name c.args.name.now) (known_names c.args.names.now) c.names.i c.names.only (rw (no_names c.args.names.now c.names.i c.names-test.false) at c.names.invariant)

pub returns-clause-one : goal.returns-clause-one
returns-clause-one c = end_one (has_name c.args.name.now) (known_names c.args.names.now) c.names.i c.names.only (rw (no_names c.args.names.now c.names.i c.names-test.false) at c.names.invariant)

pub returns-clause-none : goal.returns-clause-none
returns-clause-none c = end_none (has_name c.args.name.now) (known_names c.args.names.now) c.names.i c.names.only (rw (no_names c.args.names.now c.names.i c.names-test.false) at c.names.invariant)
