use Rattle.std.proofs.Common.{◌≡◌, ◌%◌, ◌/◌, ◌∷◌, [], ◌++◌, ◌∙◌, ap, take}
use Rattle.columns.proofs.NullFlags.{rows_counted}
use Rattle.columns.proofs.Extended.{words_enough, word_written}
use Rattle.columns.proofs.null_bits.NullBits.push_word.Goals as goal

-- the rows end where a word does
ended : (c : goal.After-self-1) → c.self.inside.len % 64 ≡ 0
ended c = ap (λ n. n % 64) (rows_counted c.self.inside.words.items _ _ c.self.view_is) ∙ c.requires.ended

-- the words with the new one behind those that are full
words : (c : goal.After-self-1) → c.push.new.self.items ≡ take (c.self.inside.len / 64) c.self.inside.words.items ++ c.args.word ∷ []
words c = rw c.truncate.ensures.items at c.in_ok-push.ensures.items

pub invariant_of-self-2 : goal.invariant_of-self-2
invariant_of-self-2 c = record { enough = words_enough c.self.inside.words.items _ c.self.inside.len c.in-Some.len c.args.word _ [] c.self.view_is (ended c) c.self.invariant.enough c.in-Some.ensures.1 (words c) }

pub returns-clause-ok : goal.returns-clause-ok
returns-clause-ok c = λ flags long is. word_written c.self.inside.words.items _ c.self.inside.len c.in-Some.len c.args.word _ flags c.self.view_is (ended c) c.self.invariant.enough c.in-Some.ensures.1 (words c) long is
