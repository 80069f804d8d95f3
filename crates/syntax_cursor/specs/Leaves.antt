-- What the kinds of lines and the words of types stand for.
use Rattle.definitions.specs.Grammar as grammar
use Rattle.syntax_cursor.specs.declared.leaf.LineKind.{LineKind}
use Rattle.syntax_cursor.specs.declared.leaf.LineKind.TheVariants as l
use Rattle.syntax_cursor.specs.declared.leaf.TypeWord.{TypeWord}
use Rattle.syntax_cursor.specs.declared.leaf.TypeWord.TheVariants as y

abbrev pub line_kind : LineKind → grammar.LineKind
line_kind l.Disjunction = grammar.Disjunction
line_kind l.Conjunction = grammar.Conjunction
line_kind l.Sum = grammar.Sum
line_kind l.Product = grammar.Product

abbrev pub type_word_of : TypeWord → grammar.TypeWord
type_word_of y.Smallint = grammar.SmallintWord
type_word_of y.Integer = grammar.IntegerWord
type_word_of y.Numeric = grammar.NumericWord
type_word_of y.Char = grammar.CharWord
