-- What libraries answer and sinks take.
use Rattle.std.specs.Prelude.{ℕ, ◌≡◌, ◌<◌, ◌≤◌, ⊤, List, ◌++◌, Option, Some, None, Result, Ok, Err, length, take}
use Rattle.sqlr.specs.declared.library.Fetched.{Fetched}
use Rattle.sqlr.specs.declared.library.Fetched.TheVariants as f
use Rattle.sqlr.specs.declared.library.FetchFault.{FetchFault}
use Rattle.sqlr.specs.declared.library.FetchFault.TheVariants as e

abbrev pub answer_of : Fetched → Option (List ℕ)
answer_of f.Absent = None
answer_of (f.Bytes bytes) = Some bytes.items

-- the device has failed in the call where that is told, and nowhere else
abbrev pub IsFetchBlamed : ℕ → ℕ → Result Fetched FetchFault → Type 0
IsFetchBlamed before after (Ok fetched) = after ≡ before
IsFetchBlamed before after (Err e.Device) = before < after
IsFetchBlamed before after (Err e.Memory) = after ≡ before

-- a sink has taken bytes; one that tells none says nothing
abbrev pub Took : Option (List ℕ) → List ℕ → Option (List ℕ) → Type 0
Took None bytes after = ⊤
Took (Some before) bytes after = after ≡ Some (before ++ bytes)

abbrev pub TookBeginning : Option (List ℕ) → List ℕ → Option (List ℕ) → Type 0
TookBeginning None bytes after = ⊤
TookBeginning (Some before) bytes after = (n : ℕ) × (n ≤ length bytes) × (after ≡ Some (before ++ take n bytes))

-- a sink has taken all of one text, and a beginning of another behind it
abbrev pub TookUpTo : Option (List ℕ) → List ℕ → List ℕ → Option (List ℕ) → Type 0
TookUpTo None printed begun after = ⊤
TookUpTo (Some before) printed begun after = (n : ℕ) × (n ≤ length begun)
    × (after ≡ Some ((before ++ printed) ++ take n begun))
