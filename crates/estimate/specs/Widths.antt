-- How wide rows are.
use Rattle.std.specs.Prelude.{ℕ}

-- no row takes more
abbrev pub widest : ℕ
widest = 20000
