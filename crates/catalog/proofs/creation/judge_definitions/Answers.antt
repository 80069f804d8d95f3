use Rattle.std.proofs.Common.{refl, arith}
use Rattle.std.proofs.lemmas.List.{length-map}
use Rattle.parse_tree.specs.Trees.{definition_of}
use Rattle.catalog.proofs.Creating.{names_alike}
use Rattle.catalog.proofs.creation.judge_definitions.Goals as goal

pub returns-in-Some-clause-refused : goal.returns-in-Some-clause-refused
returns-in-Some-clause-refused c = rw (names_alike c.args.definitions.now) (c.in-Some.ensures).twins

pub returns-clause-ok : goal.returns-clause-ok
returns-clause-ok c = record {
  narrow = omega (arith, c.if-definitions-gt-MAX_COLUMNS.false, length-map c.args.definitions.now definition_of);
  distinct = rw (names_alike c.args.definitions.now) ((c.in_default.ensures).none refl);
  keys = omega (arith, c.key_count.ensures, c.if-key_count-gt-MAX_INDEXES.false);
  primary = omega (arith, c.primary_count.ensures, c.if-primary_count-gt1.false);
}
