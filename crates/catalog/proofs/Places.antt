-- The column of a name stands at the first place of that name.
use Rattle.std.proofs.Common.{◌≡◌, refl, sym, ℕ, suc, ◌+◌, ◌-◌, ◌≤◌, List, [], ◌∷◌, Option, Some, None, Bool, true, false, cond, length, get_or, arith}
use Rattle.std.specs.Prelude.{◌↔◌, IfSome, IsNone, bytes_eq}
use Rattle.std.specs.List.{position_from}
use Rattle.definitions.specs.Value.{Null}
use Rattle.definitions.specs.Statement.{Name}
use Rattle.definitions.specs.Table.{Column, Row, type_named}
use Rattle.catalog.specs.Places.{value_named, IsColumnPlace}

abbrev place_from : Name → ℕ → List Column → Option ℕ
place_from name i cs = position_from (λ (c : Column). bytes_eq c.name name) i cs

first_value : (c : Column) (cs : List Column) (name : Name) (row : Row) → bytes_eq c.name name ≡ true → length row ≡ suc (length cs) → value_named (c ∷ cs) row name ≡ Some (get_or row 0 Null)
first_value c cs name [] e h = absurd (omega (arith, h))
first_value c cs name (v ∷ row) e h = rw e refl

later_value : (c : Column) (cs : List Column) (name : Name) (k : ℕ) (row : Row) → bytes_eq c.name name ≡ false → ((rest : Row) → length rest ≡ length cs → value_named cs rest name ≡ Some (get_or rest k Null))
    → length row ≡ suc (length cs) → value_named (c ∷ cs) row name ≡ Some (get_or row (suc k) Null)
later_value c cs name k [] e more h = absurd (omega (arith, h))
later_value c cs name k (v ∷ row) e more h = rw e (more row (omega (arith, h)))

placed_here : (c : Column) (cs : List Column) (name : Name) → bytes_eq c.name name ≡ true → IsColumnPlace (c ∷ cs) name 0
placed_here c cs name e = record { typed = rw e refl; valued = λ row h. first_value c cs name row e h }

placed_later : (c : Column) (cs : List Column) (name : Name) (k : ℕ) → bytes_eq c.name name ≡ false → IsColumnPlace cs name k → IsColumnPlace (c ∷ cs) name (suc k)
placed_later c cs name k e p = record { typed = rw e p.typed; valued = λ row h. later_value c cs name k row e p.valued h }

found_by : (c : Column) (cs : List Column) (name : Name) (i k : ℕ) (b : Bool) → bytes_eq c.name name ≡ b → cond b (Some i) (place_from name (i + 1) cs) ≡ Some k
    → (place_from name (i + 1) cs ≡ Some k → (i + 1 ≤ k) × IsColumnPlace cs name (k - (i + 1))) → (i ≤ k) × IsColumnPlace (c ∷ cs) name (k - i)
found_by c cs name i k true e h later =
    let same : i ≡ k = cc in
    let first : k - i ≡ 0 = omega arith in
    (omega arith, rw first (placed_here c cs name e))
found_by c cs name i k false e h later =
    let (least, place) = later h in
    let next : k - i ≡ suc (k - (i + 1)) = omega (arith, least) in
    (omega (arith, least), rw next (placed_later c cs name (k - (i + 1)) e place))

placed : (cs : List Column) (name : Name) (i k : ℕ) → place_from name i cs ≡ Some k → (i ≤ k) × IsColumnPlace cs name (k - i)
placed [] name i k h = absurd cc
placed (c ∷ cs) name i k h = found_by c cs name i k (bytes_eq c.name name) refl h (placed cs name (i + 1) k)

-- a search finds a place just where a type has the name
known_by : (c : Column) (cs : List Column) (name : Name) (i : ℕ) (b : Bool) → (IsNone (place_from name (i + 1) cs) ↔ (type_named cs name ≡ None))
    → IsNone (cond b (Some i) (place_from name (i + 1) cs)) ↔ (cond b (Some c.type) (type_named cs name) ≡ None)
known_by c cs name i true h = (λ e. absurd cc, λ e. absurd cc)
known_by c cs name i false h = h

known : (cs : List Column) (name : Name) (i : ℕ) → IsNone (place_from name i cs) ↔ (type_named cs name ≡ None)
known [] name i = (λ e. refl, λ e. refl)
known (c ∷ cs) name i = known_by c cs name i (bytes_eq c.name name) (known cs name (i + 1))

pub place_known : (cs : List Column) (name : Name) (o : Option ℕ) → o ≡ place_from name 0 cs → IsNone o ↔ (type_named cs name ≡ None)
place_known cs name o e = rw e (known cs name 0)

pub place_found : (cs : List Column) (name : Name) (k : ℕ) → Some k ≡ place_from name 0 cs → IsColumnPlace cs name k
place_found cs name k e = let same : k - 0 ≡ k = omega arith in rw same at (placed cs name 0 k (sym e)).1

pub place_of : (cs : List Column) (name : Name) (o : Option ℕ) → o ≡ place_from name 0 cs → IfSome o (IsColumnPlace cs name)
place_of cs name None e = tt
place_of cs name (Some k) e = place_found cs name k e
