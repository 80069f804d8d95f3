-- How far a reader of a file has come.
use Rattle.std.specs.Prelude.{ℕ, ◌≡◌, List, Some}
use Rattle.std.specs.Borrow.{Bor}
use Rattle.csv.specs.Reading.{Ready, Reached, default_config, source_of, strip_bom}
use Rattle.csv.specs.declared.reader.Reader.{Reader}
use Rattle.csv.specs.declared.reader.Trim.TheVariants as trim
use Rattle.csv.specs.declared.parser.State.TheVariants as st
use Rattle.definitions.specs.Loading.{Record}

-- a reader has read these records of some bytes
pub record HasRead (bytes : List ℕ) (reader : Reader (Bor (List ℕ))) (records : List Record) : Type 0 where
  pub plain : reader.trim ≡ trim.None
  pub ready : Ready reader
  pub config : reader.config ≡ default_config
  pub rest : List ℕ
  pub left : source_of (λ s. Some s.now) reader ≡ Some rest
  pub reached : Reached default_config st.StartRecord (strip_bom bytes) records reader.state rest
