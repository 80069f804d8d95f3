-- What an answer says of a meaning.
use Rattle.std.proofs.Common.{◌≡◌, sym, ap, ℕ, zero, suc, List, [], ◌∷◌, get_or, map, Ok, Err}
use Rattle.std.specs.Prelude.{Contains}
use Rattle.definitions.specs.Value.{Value, Null}
use Rattle.definitions.specs.Arithmetic.{Raise, Meaning, Is, Raises}
use Rattle.definitions.specs.Queries.Combinations.{raises_of}
use Rattle.definitions.specs.Queries.Telling.{MayAnswer}

pub told_result : {X : Type 0} (m : Meaning X) (x : X) → MayAnswer m (Ok x) → m ≡ Is x
told_result (Is y) x h = ap Is (sym h)
told_result (Raises r rs) x h = absurd h

pub told_raise : {X : Type 0} (m : Meaning X) (r : Raise) → MayAnswer m (Err r) → Contains (raises_of m) r
told_raise (Is y) r h = absurd h
told_raise (Raises q qs) r h = h

-- of a list of values
pub told_at : (vs : List Value) (n : ℕ) (v : Value) → v ≡ get_or vs n Null → MayAnswer (get_or (map Is vs) n (Is Null)) (Ok v)
told_at [] n v e = e
told_at (x ∷ xs) zero v e = e
told_at (x ∷ xs) (suc n) v e = told_at xs n v e
