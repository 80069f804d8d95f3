use Rattle.std.proofs.Common.{◌≡◌, ◌≤◌, ◌*◌, ◌∙◌, ◌++◌, [], ap, length, arith}
use Rattle.std.specs.Prelude.{slice_range}
use Rattle.std.specs.String.{string_bytes}
use Rattle.columns.proofs.TextLists.{boundary}
use Rattle.columns.proofs.Extended.{rows_within, texts_within, texts_filled, texts_ascii, texts_extended}
use Rattle.columns.proofs.text.TextColumn.extend_from.Goals as goal
use Rattle.columns.proofs.text.TextColumn.extend_from.Goals.{In-Ok}

-- the part lies within the other's characters
within : (c : goal.After-push_str-arg-1) → (c.args.from * c.from-width.result ≤ c.args.to * c.from-width.result) × (c.args.to * c.from-width.result ≤ length c.as_str-characters.result.now)
within c =
    let w = texts_within _ _ c.from-width.result _ (string_bytes c.other.inside.characters) [] [] _ c.other.inside.nulls [] _ _ c.args.from c.args.to c.self.invariant.filled c.other.invariant.filled c.self.view_is c.other.view_is c.requires.alike c.requires.forward c.requires.within c.from-width.ensures in
    (w.0, rw c.as_str-characters.ensures.value w.1)

pub overflow_mul-from : goal.overflow_mul-from
overflow_mul-from c = let w = within c in omega (arith, w.0, w.1)

pub overflow_mul-to : goal.overflow_mul-to
overflow_mul-to c = let w = within c in omega (arith, w.1)

pub range-requires-clause-start_boundary : goal.range-requires-clause-start_boundary
range-requires-clause-start_boundary c = let w = within c in λ _. boundary _ _ (c.args.from * c.from-width.result) c.as_str-characters.ensures.value c.other.invariant.ascii (omega (arith, w.0, w.1))

pub range-requires-clause-end_boundary : goal.range-requires-clause-end_boundary
range-requires-clause-end_boundary c = let w = within c in boundary _ _ _ c.as_str-characters.ensures.value c.other.invariant.ascii w.1

pub extend_from-requires-clause-within : goal.extend_from-requires-clause-within
extend_from-requires-clause-within c = rows_within _ _ c.from-width.result _ _ [] [] _ c.other.inside.nulls [] _ _ c.args.from c.args.to c.self.invariant.filled c.other.invariant.filled c.self.view_is c.other.view_is c.requires.alike c.requires.forward c.requires.within c.from-width.ensures

-- the part, and the characters with it
own : (c : In-Ok) → c.range.result.now ≡ slice_range (string_bytes c.other.inside.characters) (c.args.from * c.from-width.result) (c.args.to * c.from-width.result)
own c = c.range.ensures.value ∙ ap (λ bs. slice_range bs (c.args.from * c.from-width.result) (c.args.to * c.from-width.result)) c.as_str-characters.ensures.value

characters : (c : In-Ok) → string_bytes c.push_str.new.self ≡ string_bytes c.self.inside.characters ++ c.range.result.now
characters c = c.in_ok-push_str.ensures.bytes

pub invariant_of-self-in-Ok : goal.invariant_of-self-in-Ok
invariant_of-self-in-Ok c = record {
  filled = texts_filled _ _ c.from-width.result _ _ _ _ _ _ _ _ _ c.args.from c.args.to c.self.invariant.filled c.other.invariant.filled c.self.view_is c.other.view_is c.requires.alike c.requires.forward c.requires.within c.from-width.ensures (own c) (characters c) c.in-Ok.ensures.ok;
  ascii = texts_ascii _ _ c.from-width.result _ _ _ _ _ _ _ _ _ c.args.from c.args.to c.self.invariant.filled c.other.invariant.filled c.self.view_is c.other.view_is c.requires.alike c.requires.forward c.requires.within c.from-width.ensures (own c) (characters c) c.in-Ok.ensures.ok c.self.invariant.ascii c.other.invariant.ascii;
}

pub returns-in-Ok-clause-ok : goal.returns-in-Ok-clause-ok
returns-in-Ok-clause-ok c = texts_extended _ _ c.from-width.result _ _ _ _ _ _ _ _ _ c.args.from c.args.to c.self.invariant.filled c.other.invariant.filled c.self.view_is c.other.view_is c.requires.alike c.requires.forward c.requires.within c.from-width.ensures (own c) (characters c) c.in-Ok.ensures.ok
