-- The first line of bytes.
use Rattle.std.specs.Prelude.{ℕ, ◌≡◌, List, ◌∷◌, take, drop}
use Rattle.definitions.specs.Certificates.File.{lines_of}

-- so many bytes are the first line
abbrev pub IsFirstLine : List ℕ → ℕ → Type 0
IsFirstLine bytes n = lines_of bytes ≡ take n bytes ∷ lines_of (drop n bytes)
