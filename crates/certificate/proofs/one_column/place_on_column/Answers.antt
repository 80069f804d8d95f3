use Rattle.std.proofs.Common.{ℕ, ◌<◌, ◌≤◌, ◌∙◌, sym, ap, length, arith}
use Rattle.std.specs.Global.{Vec}
use Rattle.definitions.specs.Certificates.CertifiedBlock.{is_on_column}
use Rattle.certificate.proofs.Elements.{place_found, place_missing}
use Rattle.certificate.proofs.one_column.place_on_column.Goals as goal

pub returns-then-is_on_column : goal.returns-then-is_on_column
returns-then-is_on_column c =
    let within : c.indexes.place < length c.args.indexes.now = omega arith in
    let passes = ap (is_on_column c.args.column) (sym c.as_slice.ensures.value) ∙ sym c.is_on_column.ensures ∙ c.if-is_on_column.true in
    place_found (λ (columns : Vec ℕ). columns.items) (is_on_column c.args.column) c.args.indexes.now c.indexes.place c.index-indexes-place.result within c.index-indexes-place.is passes c.indexes.invariant

pub returns : goal.returns
returns c =
    let behind : length c.args.indexes.now ≤ c.indexes.place = omega arith in
    place_missing (λ (columns : Vec ℕ). columns.items) (is_on_column c.args.column) c.args.indexes.now c.indexes.place behind c.indexes.invariant
