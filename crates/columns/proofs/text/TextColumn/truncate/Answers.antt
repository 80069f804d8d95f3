use Rattle.std.proofs.Common.{◌≡◌, ◌*◌, take, arith}
use Rattle.std.specs.String.{string_bytes}
use Rattle.std.proofs.lemmas.Str.{IsAscii-take}
use Rattle.columns.proofs.TextLists.{cut_at, cut_texts, cut_filled, rows_fit}
use Rattle.columns.proofs.text.TextColumn.truncate.Goals as goal

pub overflow_mul-rows : goal.overflow_mul-rows
overflow_mul-rows c = omega (arith, c.self.inside.characters.bytes.ok.0, (rows_fit _ c.from.result _ _ _ _ c.self.invariant.filled c.self.view_is c.requires c.from.ensures).1)

pub truncate-requires-2 : goal.truncate-requires-2
truncate-requires-2 c = (rows_fit _ c.from.result _ _ _ _ c.self.invariant.filled c.self.view_is c.requires c.from.ensures).0

-- the characters that are kept
kept : (c : goal.After-truncate-2) → string_bytes c.truncate.new.self ≡ take (c.self.inside.length * c.args.rows) (string_bytes c.self.inside.characters)
kept c = cut_at _ _ _ _ _ c.from.ensures c.truncate.ensures.bytes

pub invariant_of-self : goal.invariant_of-self
invariant_of-self c = record {
  filled = cut_filled _ _ _ _ _ _ c.self.invariant.filled (rows_fit _ c.from.result _ _ _ _ c.self.invariant.filled c.self.view_is c.requires c.from.ensures).0 (kept c) c.truncate-2.ensures;
  ascii = rw (kept c) (IsAscii-take _ _ c.self.invariant.ascii);
}

pub returns : goal.returns
returns c = cut_texts _ _ _ _ _ _ c.args.rows c.self.invariant.filled c.self.view_is (kept c) c.truncate-2.ensures
