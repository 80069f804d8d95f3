-- How great the units of a type may be.
use Rattle.std.specs.Prelude.{ℕ, ◌+◌, ◌^◌, Bool, if◌then◌else◌}
use Rattle.definitions.specs.Value.{SqlType, Smallint, Integer, Numeric, Char}

-- the least size that they do not have on a side of zero
abbrev pub size_limit_of : SqlType → Bool → ℕ
size_limit_of Smallint negative = 2 ^ 15 + (if negative then 1 else 0)
size_limit_of Integer negative = 2 ^ 31 + (if negative then 1 else 0)
size_limit_of (Numeric p s) negative = 10 ^ p
size_limit_of (Char n) negative = 0
