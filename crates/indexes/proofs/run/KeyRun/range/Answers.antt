use Rattle.std.proofs.Common.{◌∙◌, ◌<◌, sym, ap, length, map, arith}
use Rattle.std.proofs.lemmas.List.{length-map}
use Rattle.definitions.specs.IndexRun.{lies_in}
use Rattle.sqlvalue.specs.Meaning.{value_of}
use Rattle.columns.specs.Starts.{limit_of}
use Rattle.indexes.specs.Runs.{Index}
use Rattle.indexes.proofs.Gathered.{widths}
use Rattle.indexes.proofs.KeyStretches.{ordered_at, range_at, inside_at}
use Rattle.indexes.proofs.Parts.{part_is}
use Rattle.indexes.proofs.run.KeyRun.range.Goals as goal

pub range-requires-clause-inside : goal.range-requires-clause-inside
range-requires-clause-inside c =
    let there : length c.args.values.now < length c.self.inside.columns.items = omega (arith, c.requires, widths c.self.inside.columns.items c.args.self.now.types (ap (λ (i : Index). i.types) c.self.view_is)) in
    inside_at c.self.inside.columns.items c.self.inside.rows.items c.args.self.now.entries (ap (λ (i : Index). i.entries) c.self.view_is) (rw (ap (λ (i : Index). i.entries) c.self.view_is) at c.self.invariant.rising) (map value_of c.args.values.now) c.stretch-beginning.result (length c.args.values.now) c.index.result.now there (length-map c.args.values.now value_of) c.index.ensures c.stretch-beginning.ensures c.self.invariant.paired

pub range-requires-clause-ordered : goal.range-requires-clause-ordered
range-requires-clause-ordered c =
    let there : length c.args.values.now < length c.self.inside.columns.items = omega (arith, c.requires, widths c.self.inside.columns.items c.args.self.now.types (ap (λ (i : Index). i.types) c.self.view_is)) in
    ordered_at c.self.inside.columns.items c.self.inside.rows.items c.args.self.now.entries (ap (λ (i : Index). i.entries) c.self.view_is) (rw (ap (λ (i : Index). i.entries) c.self.view_is) at c.self.invariant.rising) (map value_of c.args.values.now) c.stretch-beginning.result (length c.args.values.now) c.index.result.now there (length-map c.args.values.now value_of) c.index.ensures c.stretch-beginning.ensures

pub returns : goal.returns
returns c =
    let there : length c.args.values.now < length c.self.inside.columns.items = omega (arith, c.requires, widths c.self.inside.columns.items c.args.self.now.types (ap (λ (i : Index). i.types) c.self.view_is)) in
    let s = c.stretch-beginning.ensures in
    let w = c.range.ensures.inside in
    let e = range_at c.self.inside.columns.items c.self.inside.rows.items c.args.self.now.entries (ap (λ (i : Index). i.entries) c.self.view_is) (rw (ap (λ (i : Index). i.entries) c.self.view_is) at c.self.invariant.rising) (map value_of c.args.values.now) c.stretch-beginning.result (length c.args.values.now) c.index.result.now there (length-map c.args.values.now value_of) c.index.ensures c.stretch-beginning.ensures
    (limit_of c.args.low) (limit_of c.args.high) c.range.result w c.range.ensures.exact in
    c.part.ensures ∙ sym (part_is (lies_in (map value_of c.args.values.now) (limit_of c.args.low) (limit_of c.args.high)) c.args.self.now.entries c.range.result.from c.range.result.to w.forward (omega (arith, w.to, s.inside)) e)
