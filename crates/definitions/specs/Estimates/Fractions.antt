-- Fractions of rows and pages, in millionths (own).
use Rattle.std.specs.Prelude.{ℕ, ◌+◌, ◌-◌, ◌*◌, ◌/◌, min, max, Bool, true, false}
use Rattle.std.specs.Int.{div_ceil}

abbrev pub million : ℕ
million = 1000000

-- a part of a whole: at least one millionth, at most all, and rounded up
abbrev pub fraction : ℕ → ℕ → ℕ
fraction part whole = min million (max 1 (div_ceil (part * million) whole))

-- what is left out of all, at least one millionth
abbrev pub rest_of : ℕ → ℕ
rest_of part = max 1 (million - part)

abbrev pub negated_if : Bool → ℕ → ℕ
negated_if true part = rest_of part
negated_if false part = part

-- one or the other of two conditions that are taken to be independent
abbrev pub either_of : ℕ → ℕ → ℕ
either_of a b = a + b - a * b / million

-- where nothing better is known
abbrev pub one_tenth : ℕ
one_tenth = 100000

abbrev pub one_quarter : ℕ
one_quarter = 250000

abbrev pub one_third : ℕ
one_third = 333334

abbrev pub one_half : ℕ
one_half = 500000
