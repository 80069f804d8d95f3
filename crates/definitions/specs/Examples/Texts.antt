-- Worked examples: values, texts and their tokens, statements, fields, and cells that are compared.
use Rattle.std.specs.Prelude.{◌≡◌, List, [], ◌∷◌, Err, Some, None}
use Rattle.std.specs.Prelude.{codes, pos, neg_ℤ}
use Rattle.std.specs.declared.cmp.Ordering.TheVariants.{Less, Equal, Greater}
use Rattle.definitions.specs.Value.{Value, Null, Number, Text, Integer, compare, rank}
use Rattle.definitions.specs.Word as w
use Rattle.definitions.specs.Token.{Reserved, Name, Numeral, String, Mark, Semicolon, NotEquals, Equals}
use Rattle.definitions.specs.Lexing.{LexFails, Lexes}
use Rattle.definitions.specs.Statement.{Load, LessThan, GreaterThan, Equals as IsEqual, NotEquals as IsOther}
use Rattle.definitions.specs.Scanning.{true_word, unknown_word}
use Rattle.definitions.specs.Grammar.{Derives, SyntaxFails}
use Rattle.definitions.specs.Loading.{FieldLoads}
use Rattle.definitions.specs.Refusal.{StrayCharacter, OpenString, LongLiteral, LongName, Unexpected, OutOfRange}
use Rattle.definitions.specs.Printing.{row_line}

-- values as they compare and rank
pub record ValuesCompare : Type 0 where
  pub padded_texts_are_equal : compare (Text (codes "ab")) (Text (codes "ab   ")) ≡ Some Equal
  pub null_is_unknown : compare Null Null ≡ None
  pub nulls_rank_alike : rank Null Null ≡ Equal
  pub null_ranks_first : rank Null (Number (neg_ℤ (pos 5)) 0) ≡ Less
  -- 5.1 and 5.10
  pub scales_rank_alike : rank (Number (pos 51) 1) (Number (pos 510) 2) ≡ Equal
  -- -0.5 and -0.50
  pub negative_scales_rank_alike : rank (Number (neg_ℤ (pos 5)) 1) (Number (neg_ℤ (pos 50)) 2) ≡ Equal
  pub negative_ranks_first : rank (Number (neg_ℤ (pos 7)) 0) (Number (pos 7) 0) ≡ Less
  pub blanks_rank_alike : rank (Text (codes "a")) (Text (codes "a  ")) ≡ Equal
  pub capitals_rank_first : rank (Text (codes "a")) (Text (codes "B")) ≡ Greater

-- texts and their tokens, or their fault
pub record TextsRead : Type 0 where
  pub open_string_at_7 : LexFails (codes "SELECT 'ab") (record { refusal = OpenString; at = 7 })
  -- a keyword in lower case, a name, a comment and a semicolon
  pub short_script : Lexes (codes "load T;--x") (record {
    at = 0;
    text = codes "load";
    kind = Reserved w.Load;
  } ∷ record { at = 5; text = codes "T"; kind = Name (codes "T") } ∷ record {
    at = 6;
    text =
        codes ";";
    kind = Mark Semicolon;
  } ∷ [])
  pub empty_script : Lexes [] []
  pub comment_alone : Lexes (codes "--'A") []
  -- the longest match
  pub symbols_touch : Lexes (codes "<>=") (record {
    at = 0;
    text = codes "<>";
    kind = Mark NotEquals;
  } ∷ record { at = 2; text = codes "="; kind = Mark Equals } ∷ [])
  pub doubled_quote : Lexes (codes "'it''s'") (record {
    at = 0;
    text = codes "'it''s'";
    kind = String (codes "it's");
  } ∷ [])
  pub number_at_scale_2 : Lexes (codes "1.50") (record {
    at = 0;
    text = codes "1.50";
    kind = Numeral 150 3 (Some 2);
  } ∷ [])
  pub stray_at_2 : LexFails (codes "A ?") (record { refusal = StrayCharacter; at = 2 })
  pub letter_behind_number : LexFails (codes "1x") (record { refusal = StrayCharacter; at = 1 })
  pub name_of_19 : LexFails (codes "ABCDEFGHIJKLMNOPQRS") (record { refusal = LongName; at = 0 })
  pub number_of_39 : LexFails (codes "100000000000000000000000000000000000000") (record {
    refusal = LongLiteral;
    at = 0;
  })

-- statements that tokens derive, and a fault
pub record TokensDerive : Type 0 where
  -- LOAD T FROM 'f';
  pub load_derives : Derives (Reserved w.Load ∷ Name (codes "T") ∷ Reserved w.From ∷ String (codes "f") ∷
      Mark Semicolon ∷ []) (Load (codes "T") (codes "f") ∷ [])
  -- so the fault of LOAD FROM T; stands at byte 5
  pub load_from_fails_at_5 : SyntaxFails (record {
    at = 0;
    text = codes "LOAD";
    kind = Reserved w.Load;
  } ∷ record { at = 5; text = codes "FROM"; kind = Reserved w.From } ∷ record {
    at =
        10;
    text = codes "T";
    kind = Name (codes "T");
  } ∷ record {
    at = 11;
    text = codes ";";
    kind =
        Mark Semicolon;
  } ∷ []) 12 Unexpected 5

-- a field that is no INTEGER, and the line of a row
pub record FieldsAndRows : Type 0 where
  -- the row of a text and a number
  pub printed_row : row_line (Text (codes "x  ") ∷ Number (pos 7) 0 ∷ []) ≡ codes "'x  '|7\n"
  pub fraction_is_out_of_range : FieldLoads Integer (codes "5.1") (Err OutOfRange)

-- 1.00, a null, 1.01, 0.99 and -1.00, which are compared with 1.005
abbrev pub cells : List Value
cells = Number (pos 100) 2 ∷ Null ∷ Number (pos 101) 2 ∷ Number (pos 99) 2 ∷ Number (neg_ℤ (pos 100)) 2 ∷ []

abbrev pub literal : Value
literal = Number (pos 1005) 3

-- the words of cells that are less, greater, equal and other, and of those that are unknown
pub record CellsCompare : Type 0 where
  -- in rows 0, 3 and 4
  pub lesser_cells : true_word LessThan literal cells ≡ 25
  pub greater_cells : true_word GreaterThan literal cells ≡ 4
  pub equal_cells : true_word IsEqual literal cells ≡ 0
  pub other_cells : true_word IsOther literal cells ≡ 29
  -- in row 1
  pub unknown_cells : unknown_word LessThan literal cells ≡ 2
  pub unknown_with_null : unknown_word IsOther Null cells ≡ 31
