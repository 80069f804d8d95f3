-- How columns of a name are sought.
use Rattle.std.specs.Prelude.{ℕ, Bool, true, false, List, [], ◌∷◌, Option, Some, None}
use Rattle.definitions.specs.Statement.{Name}
use Rattle.definitions.specs.Binding.Scopes.{NamedTable, Found, Resolution, NotThere, Ambiguous, Named, is_called}

-- what a name stands for where there is one more column of it, and where there are some more
abbrev pub with_one : ℕ → Resolution → Found → Resolution
with_one level NotThere f = Named level f
with_one level _ f = Ambiguous

abbrev pub with_all : ℕ → Resolution → List Found → Resolution
with_all level r [] = r
with_all level r (f ∷ fs) = with_all level (with_one level r f) fs

abbrev pub is_there : Resolution → Bool
is_there NotThere = false
is_there _ = true

-- a table is sought in where it is called by the qualifier, if there is one
abbrev pub is_meant : Option Name → NamedTable → Bool
is_meant None = λ t. true
is_meant (Some qualifier) = is_called qualifier
