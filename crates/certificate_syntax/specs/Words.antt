-- How the words of this crate are written.
use Rattle.std.specs.Prelude.{ℕ, List, codes}
use Rattle.definitions.specs.Certificates.Text.{first_line, end_line}
use Rattle.plan_tree.specs.Versions.{version_of}
use Rattle.certificate_syntax.specs.declared.words.Word.{Word}
use Rattle.certificate_syntax.specs.declared.words.Word.TheVariants as w

abbrev pub word_text : Word → List ℕ
word_text (w.Certificate version) = first_line (version_of version)
word_text w.Block = codes "BLOCK "
word_text w.Plan = codes "PLAN "
word_text w.Target = codes "TARGET "
word_text w.State = codes "STATE "
word_text w.End = end_line
word_text w.LineEnd = codes "\n"
word_text w.Space = codes " "
word_text w.Access = codes "ACCESS("
word_text w.Loop = codes "LOOP("
word_text w.Merge = codes "MERGE("
word_text w.Sort = codes "SORT("
word_text w.Sorted = codes "SORTED "
word_text w.Comma = codes ","
word_text w.Bracket = codes ")"
word_text w.Segment = codes "SEG "
word_text w.Index = codes "IDX "
word_text w.Match = codes "MATCH "
word_text w.Point = codes "."
word_text w.Slash = codes "/"
word_text w.Back = codes " BACK"
