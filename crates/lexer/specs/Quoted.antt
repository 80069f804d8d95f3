-- What a quoted text holds.
use Rattle.std.specs.Prelude.{ℕ, List, [], ◌∷◌, Bool, true, false, ◌==◌, if◌then◌else◌}
use Rattle.definitions.specs.Characters.{quote}

-- the characters of a string from its text behind the opening quote: of two quotes side by side one stands for both
abbrev pub unquoted : (after_quote : Bool) → List ℕ → List ℕ
unquoted after [] = []
unquoted true (c ∷ rest) = if c == quote then quote ∷ unquoted false rest else c ∷ unquoted false rest
unquoted false (c ∷ rest) = if c == quote then unquoted true rest else c ∷ unquoted false rest

abbrev pub behind_first : List ℕ → List ℕ
behind_first [] = []
behind_first (c ∷ rest) = rest

-- the characters of a string from its text
abbrev pub quoted_text : List ℕ → List ℕ
quoted_text [] = []
quoted_text (c ∷ rest) = if c == quote then unquoted false rest else []
