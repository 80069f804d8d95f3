-- What a fixed list of files answers.
use Rattle.std.specs.Prelude.{ℕ, List, [], ◌∷◌, Option, Some, None, if◌then◌else◌, bytes_eq}
use Rattle.tests_engine.specs.declared.shelf.File.{File}

-- the bytes of the first file of a name
abbrev pub bytes_of_file : List File → List ℕ → Option (List ℕ)
bytes_of_file [] name = None
bytes_of_file (f ∷ fs) name = if bytes_eq f.name.now name then Some f.bytes.now else bytes_of_file fs name
