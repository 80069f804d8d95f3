use Rattle.std.proofs.Common.{◌≡◌, ◌∙◌, refl, ◌<◌, sym, ap, length, map, take, rules, arith}
use Rattle.sqlvalue.specs.Meaning.{value_of}
use Rattle.indexes.specs.Runs.{Index}
use Rattle.indexes.proofs.Entries.{length-entries_at}
use Rattle.indexes.proofs.Gathered.{widths}
use Rattle.indexes.proofs.KeyStretches.{whole, ordered_at, more_at, inside_at, values_more, length_taken}
use Rattle.indexes.proofs.run.KeyRun.stretch.Goals as goal

pub loop-place-init : goal.loop-place-init
loop-place-init c =
    let n : c.len.result ≡ length c.self.inside.rows.items = search rules in
    whole c.args.self.now.entries _ refl (n ∙ sym (length-entries_at c.self.inside.columns.items 0 c.self.inside.rows.items) ∙ ap (λ (i : Index). length i.entries) c.self.view_is)

pub range-stretch-requires-clause-inside : goal.range-stretch-requires-clause-inside
range-stretch-requires-clause-inside c =
    let within : c.loop-place.place < length c.args.values.now = search rules in
    let there : c.loop-place.place < length c.self.inside.columns.items = omega (arith, within, c.requires, widths c.self.inside.columns.items c.args.self.now.types (ap (λ (i : Index). i.types) c.self.view_is)) in
    let at : length (map value_of (take c.loop-place.place c.args.values.now)) ≡ c.loop-place.place = length_taken c.args.values.now c.loop-place.place (omega (arith, within)) in
    inside_at c.self.inside.columns.items c.self.inside.rows.items c.args.self.now.entries (ap (λ (i : Index). i.entries) c.self.view_is) (rw (ap (λ (i : Index). i.entries) c.self.view_is) at c.self.invariant.rising) (map value_of (take c.loop-place.place c.args.values.now)) c.loop-place.stretch c.loop-place.place c.index.result.now there at c.index.ensures c.loop-place.invariant c.self.invariant.paired

pub range-stretch-requires-clause-ordered : goal.range-stretch-requires-clause-ordered
range-stretch-requires-clause-ordered c =
    let within : c.loop-place.place < length c.args.values.now = search rules in
    let there : c.loop-place.place < length c.self.inside.columns.items = omega (arith, within, c.requires, widths c.self.inside.columns.items c.args.self.now.types (ap (λ (i : Index). i.types) c.self.view_is)) in
    let at : length (map value_of (take c.loop-place.place c.args.values.now)) ≡ c.loop-place.place = length_taken c.args.values.now c.loop-place.place (omega (arith, within)) in
    ordered_at c.self.inside.columns.items c.self.inside.rows.items c.args.self.now.entries (ap (λ (i : Index). i.entries) c.self.view_is) (rw (ap (λ (i : Index). i.entries) c.self.view_is) at c.self.invariant.rising) (map value_of (take c.loop-place.place c.args.values.now)) c.loop-place.stretch c.loop-place.place c.index.result.now there at c.index.ensures c.loop-place.invariant

pub loop-place-preserved : goal.loop-place-preserved
loop-place-preserved c =
    let within : c.loop-place.place < length c.args.values.now = search rules in
    let there : c.loop-place.place < length c.self.inside.columns.items = omega (arith, within, c.requires, widths c.self.inside.columns.items c.args.self.now.types (ap (λ (i : Index). i.types) c.self.view_is)) in
    let at : length (map value_of (take c.loop-place.place c.args.values.now)) ≡ c.loop-place.place = length_taken c.args.values.now c.loop-place.place (omega (arith, within)) in
    more_at c.self.inside.columns.items c.self.inside.rows.items c.args.self.now.entries (ap (λ (i : Index). i.entries) c.self.view_is) (rw (ap (λ (i : Index). i.entries) c.self.view_is) at c.self.invariant.rising) (map value_of (take c.loop-place.place c.args.values.now)) c.loop-place.stretch c.loop-place.place c.index.result.now there at c.index.ensures c.loop-place.invariant
    (value_of c.index-values-place.result) _ c.range-stretch.result (values_more c.args.values.now c.loop-place.place c.index-values-place.result within (search rules)) c.range-stretch.ensures.inside c.range-stretch.ensures.exact
