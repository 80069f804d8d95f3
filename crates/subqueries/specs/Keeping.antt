-- The results of blocks that are kept.
use Rattle.std.specs.Prelude.{ℕ, ◌≡◌, ◌⊎◌, ⊤, Bool, List, [], ◌∷◌, Option, Some, None, Result, Ok, IfSome, get_or, map}
use Rattle.std.specs.Prelude.{option_and_then, option_map, set, slice_get}
use Rattle.std.specs.Global.{Vec}
use Rattle.std.specs.List.{AllByRecursion}
use Rattle.definitions.specs.Value.{Value}
use Rattle.definitions.specs.Arithmetic.{Raise}
use Rattle.definitions_answers.specs.Kept.{Kept}
use Rattle.sqlvalue.specs.declared.owned_value.OwnedValue.{OwnedValue}
use Rattle.subqueries.specs.Keys.{key_of_option}
use Rattle.subqueries.specs.Telling.{told_in}
use Rattle.subqueries.specs.declared.telling.Told.{Told}
use Rattle.subqueries.specs.declared.kept_results.KeptResult.{KeptResult}
use Rattle.subqueries.specs.declared.kept_results.KeptResults.{KeptResults}

abbrev pub kept_in : KeptResult → Kept
kept_in r = record {
  key = key_of_option r.key;
  existence = r.existence;
  told = told_in r.told;
  total = r.total;
}

-- what is told of a block where its parameters have the values of a key, and its total there, to be kept
abbrev pub kept_with : Option (Vec OwnedValue) → (existence : Bool) → Told → ℕ → Kept
kept_with key existence told total = record {
  key = key_of_option key;
  existence = existence;
  told = told_in told;
  total = total;
}

-- there is none, or it is for other values, or not as much was asked
abbrev pub IsOther : (existence : Bool) → List Value → Option Kept → Type 0
IsOther existence key None = ⊤
IsOther existence key (Some kept) = kept.key ≡ Some key → kept.existence ≡ existence → ⊥

-- all places, and what is in each
abbrev pub places_in : KeptResults → List (Option Kept)
places_in r = map (option_map kept_in) r.places.items

-- it is so of all that is kept
abbrev pub AllKept : (Kept → Type 0) → KeptResults → Type 0
AllKept P r = AllByRecursion (λ place. IfSome place P) (places_in r)

-- one place is another's, and all others are as before
abbrev pub Replaces : List (Option Kept) → List (Option Kept) → Kept → Type 0
Replaces old new kept = (place : ℕ) × (new ≡ set old place (Some kept))

-- in a place
abbrev pub kept_at : KeptResults → ℕ → Option Kept
kept_at r place = get_or (places_in r) place None

abbrev pub key_at : KeptResults → ℕ → Option (List Value)
key_at r place = option_and_then (λ (k : Kept). k.key) (kept_at r place)

abbrev pub total_in : KeptResults → ℕ → Option ℕ
total_in r place = option_map (λ (k : Kept). k.total) (kept_at r place)

-- ---- the latest

abbrev pub latest_in : KeptResults → Option Kept
latest_in r = kept_at r r.latest

abbrev pub latest_key : KeptResults → Option (List Value)
latest_key r = key_at r r.latest

abbrev pub latest_total : KeptResults → Option ℕ
latest_total r = total_in r r.latest

-- ---- fewer results

-- each place is empty, or as before, and that of the latest is as before
abbrev pub LeavesOut : KeptResults → KeptResults → Type 0
LeavesOut old new =
    ((place : ℕ) → (kept_at new place ≡ None) ⊎ (kept_at new place ≡ kept_at old place)) × (latest_in new ≡ latest_in old)

-- it is so of each block's
abbrev pub AreLeftOut : List KeptResults → List KeptResults → Type 0
AreLeftOut [] [] = ⊤
AreLeftOut (old ∷ olds) (new ∷ news) = LeavesOut old new × AreLeftOut olds news
AreLeftOut _ _ = ⊥

-- ---- what was told last

abbrev pub told_of_option : Option Kept → Result (List Value) Raise
told_of_option None = Ok []
told_of_option (Some k) = k.told

-- no rows, where nothing was
abbrev pub told_last : KeptResults → Result (List Value) Raise
told_last r = told_of_option (latest_in r)

abbrev pub last_of_option : Option KeptResults → Result (List Value) Raise
last_of_option None = Ok []
last_of_option (Some r) = told_last r

-- what was told last of the block of a number
abbrev pub told_by : List KeptResults → ℕ → Result (List Value) Raise
told_by results block = last_of_option (slice_get results block)
