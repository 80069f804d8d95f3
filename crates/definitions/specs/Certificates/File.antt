-- A file of certificates, one for each block (own).
use Rattle.std.specs.Prelude.{ℕ, List, [], ◌∷◌, ◌++◌, ◌==◌, if◌then◌else◌, bytes_eq, get_or}
use Rattle.definitions.specs.Estimates.Version.{Version, One, Two, Three}
use Rattle.definitions.specs.Certificates.Text.{first_line, end_line}

abbrev pub before_first : ℕ → List (List ℕ) → List (List ℕ)
before_first byte [] = (byte ∷ []) ∷ []
before_first byte (line ∷ lines) = (byte ∷ line) ∷ lines

-- its lines, each with the LF that ends it; the last may lack one
abbrev pub lines_of : List ℕ → List (List ℕ)
lines_of [] = []
lines_of (byte ∷ bytes) = if byte == 10 then (10 ∷ []) ∷ lines_of bytes else before_first byte (lines_of bytes)

-- the text of the next block: up to and with the next line END, or to the end of the file
abbrev pub own_text : List (List ℕ) → List ℕ
own_text [] = []
own_text (line ∷ lines) = if bytes_eq line end_line then line else line ++ own_text lines

-- the lines behind it
abbrev pub lines_behind : List (List ℕ) → List (List ℕ)
lines_behind [] = []
lines_behind (line ∷ lines) = if bytes_eq line end_line then lines else lines_behind lines

-- ---- the version that a text is read by

abbrev pub earlier : Version → List Version
earlier One = []
earlier Two = One ∷ []
earlier Three = One ∷ Two ∷ []

abbrev pub version_among : List Version → (current : Version) → (line : List ℕ) → Version
version_among [] current line = current
version_among (version ∷ versions) current line =
    if bytes_eq line (first_line version) then version else version_among versions current line

-- an earlier one if its first line is the text's, else the current one
abbrev pub version_of : (current : Version) → (lines : List (List ℕ)) → Version
version_of current lines = version_among (earlier current) current (get_or lines 0 [])
