use Rattle.std.proofs.Common.{◌-◌, ◌≤◌, length}
use Rattle.lexer.specs.Meaning.{tokens_of, AreSlices}
use Rattle.lexer.proofs.Onward.{ReadsOn, end_of}
use Rattle.lexer.proofs.scan.lex.Given as goal

abbrev pub invariant-loop-start : goal.invariant-loop-start
invariant-loop-start l = record {
  within : l.start ≤ length l.bytes;
  reads : ReadsOn l.bytes l.start (tokens_of l.tokens.items);
  slices : AreSlices l.bytes 0 l.tokens.items;
  behind : end_of 0 l.tokens.items ≤ l.start;
}

abbrev pub decreases-loop-start : goal.decreases-loop-start
decreases-loop-start l = length l.bytes - l.start
