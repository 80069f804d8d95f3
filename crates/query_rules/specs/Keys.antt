-- The keys of an order, by the names of result columns.
use Rattle.std.specs.Prelude.{ℕ, ◌<◌, ◌≡◌, ◌⊎◌, List, Option, Some, length, map, option_map}
use Rattle.std.specs.Borrow.{Bor}
use Rattle.definitions.specs.Lists.{AnyOf}
use Rattle.definitions.specs.Limits.{most_keys}
use Rattle.definitions.specs.Refusal.{Refusal, UnknownKey, OverQueryLimit}
use Rattle.definitions.specs.Statement as t
use Rattle.definitions.specs.Statement.{Name, Asterisk, Listed, listed}
use Rattle.definitions.specs.Binding.BoundForm.{key_item, result_names}
use Rattle.definitions.specs.Binding.Faults.{IsUnknownKey}
use Rattle.definitions.specs.Queries.BoundBlock as b

-- the names themselves
abbrev pub known_name : Option (Bor (List ℕ)) → Option Name
known_name = option_map (λ (name : Bor (List ℕ)). name.now)

abbrev pub known_names : List (Option (Bor (List ℕ))) → List (Option Name)
known_names = map known_name

abbrev pub header_of : b.Item → Option Name
header_of i = Some i.name

-- the names of result columns by a select list, or by the columns that an asterisk gives
abbrev pub names_by : t.SelectList → List b.Item → List (Option Name)
names_by Asterisk items = map header_of items
names_by (Listed items) bound = result_names (listed items)

abbrev pub bound_keys : List (Option Name) → List t.SortSpecification → List b.OrderKey
bound_keys names =
    map (λ (k : t.SortSpecification). record { item = key_item names k.named; descending = k.descending })

abbrev pub IsKnownKey : List (Option Name) → t.KeyName → Type 0
IsKnownKey names key = IsUnknownKey names key → ⊥

abbrev pub SomeKeyIsUnknown : List (Option Name) → List t.SortSpecification → Type 0
SomeKeyIsUnknown names = AnyOf (λ (k : t.SortSpecification). IsUnknownKey names k.named)

abbrev pub RefusesOrder : List (Option Name) → List t.SortSpecification → Refusal → Type 0
RefusesOrder names keys r = (SomeKeyIsUnknown names keys × (r ≡ UnknownKey))
    ⊎ ((most_keys < length keys) × (r ≡ OverQueryLimit))
