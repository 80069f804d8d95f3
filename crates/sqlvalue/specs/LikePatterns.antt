-- What patterns of LIKE ask for.
use Rattle.std.specs.Prelude.{ℕ, ◌==◌, Bool, true, false, ◌&&◌, ◌||◌, List, [], ◌∷◌, ◌+◌, ◌-◌, drop, get_or, length, nat_lt, if◌then◌else◌}
use Rattle.std.specs.List.{list_any}
use Rattle.definitions.specs.Pattern.{endings, fits}
use Rattle.sqlvalue.specs.declared.like_pattern.Form.{Form}
use Rattle.sqlvalue.specs.declared.like_pattern.Form.TheVariants as f
use Rattle.sqlvalue.specs.declared.like_pattern.LikePattern.{LikePattern}

-- a character of a pattern stands for others
abbrev pub wild : ℕ → Bool
wild c = (c == 37) || (c == 95)

-- none of them does
abbrev pub is_plain : List ℕ → Bool
is_plain [] = true
is_plain (c ∷ pattern) = if wild c then false else is_plain pattern

abbrev pub begins_with : (needle text : List ℕ) → Bool
begins_with [] text = true
begins_with (c ∷ needle) [] = false
begins_with (c ∷ needle) (d ∷ text) = (c == d) && begins_with needle text

abbrev pub contains : (needle text : List ℕ) → Bool
contains needle text = list_any (begins_with needle) (endings text)

abbrev pub ends_with : (needle text : List ℕ) → Bool
ends_with needle text =
    if nat_lt (length text) (length needle) then false else begins_with needle (drop (length text - length needle) text)

-- two characters stand beside each other at a place of a text
abbrev pub stand_at : (first second : ℕ) → (text : List ℕ) → (place : ℕ) → Bool
stand_at first second text place = (first == get_or text place 0) && (second == get_or text (place + 1) 0)

abbrev pub form_fits : Form → List ℕ → Bool
form_fits (f.Anywhere needle) text = contains needle.now text
form_fits (f.AtFront needle) text = begins_with needle.now text
form_fits (f.AtEnd needle) text = ends_with needle.now text
form_fits (f.Other pattern) text = fits pattern.now text

abbrev pub pattern_fits : LikePattern → List ℕ → Bool
pattern_fits pattern = form_fits pattern.form
