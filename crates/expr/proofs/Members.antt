-- A value sought among the members of a list.
use Rattle.std.proofs.Common.{◌≡◌, ◌∙◌, refl, sym, ap, subst, ℕ, zero, suc, ◌+◌, ◌<◌, List, [], ◌∷◌, Option, Some, None, map, length, drop, get_or, Result, arith}
use Rattle.std.specs.List.{AllByRecursion}
use Rattle.std.proofs.lemmas.List.{drop_more}
use Rattle.definitions.specs.Queries.Conjuncts.{member_values}
use Rattle.definitions.specs.Statement.{Equals}
use Rattle.definitions.specs.Value.{Value}
use Rattle.definitions.specs.Truth.{Truth, False, or, compared, compared_with_any}
use Rattle.definitions.specs.Arithmetic.{Meaning, Is, Raises, Raise}
use Rattle.definitions.specs.Queries.BoundBlock.{ValueExpr}
use Rattle.definitions.specs.Queries.Evaluation.{Environment, member, in_order, on_one, on_two}
use Rattle.definitions.specs.Queries.Telling.{MayAnswer}
use Rattle.expr.proofs.Connectives.{or_assoc, or_false}

-- whether it is among some members
abbrev pub among : Environment → Meaning Value → List (Option ValueExpr) → Meaning Truth
among env m members = on_two (compared_with_any Equals) m (in_order (map (member env) members))

abbrev pub nowhere : Meaning Value → Meaning Truth
nowhere = on_one (λ v. False)

pub record Sought (env : Environment) (m : Meaning Value) (all rest : List (Option ValueExpr)) (answer : Result Truth Raise) : Type 0 where
  pub found : Meaning Truth
  pub tells : MayAnswer found answer
  pub same : on_two or found (among env m rest) ≡ among env m all
  pub over : on_two (λ (t : Truth) (v : Value). t) found m ≡ found

start_same : (m : Meaning Value) (ms : Meaning (List Value)) → on_two or (nowhere m) (on_two (compared_with_any Equals) m ms) ≡ on_two (compared_with_any Equals) m ms
start_same (Is v) (Is vs) = refl
start_same (Is v) (Raises r rs) = refl
start_same (Raises r rs) ms = refl

start_over : (m : Meaning Value) → on_two (λ (t : Truth) (v : Value). t) (nowhere m) m ≡ nowhere m
start_over (Is v) = refl
start_over (Raises r rs) = refl

pub seek : (env : Environment) (m : Meaning Value) (all : List (Option ValueExpr)) (answer : Result Truth Raise) → MayAnswer (nowhere m) answer → Sought env m all all answer
seek env m all answer h = record { found = nowhere m; tells = h; same = start_same m (in_order (map (member env) all)); over = start_over m }

step_same : (f : Meaning Truth) (m x : Meaning Value) (ms : Meaning (List Value)) → on_two or (on_two or f (on_two (compared Equals) m x)) (on_two (compared_with_any Equals) m ms) ≡ on_two or f (on_two (compared_with_any Equals) m (on_two ◌∷◌ x ms))
step_same (Raises r rs) m x ms = refl
step_same (Is a) (Raises r rs) x ms = refl
step_same (Is a) (Is v) (Raises r rs) ms = refl
step_same (Is a) (Is v) (Is x) (Raises r rs) = refl
step_same (Is a) (Is v) (Is x) (Is vs) = ap Is (or_assoc a (compared Equals v x) (compared_with_any Equals v vs))

step_over : (f : Meaning Truth) (m x : Meaning Value) → on_two (λ (t : Truth) (v : Value). t) (on_two or f (on_two (compared Equals) m x)) m ≡ on_two or f (on_two (compared Equals) m x)
step_over (Raises r rs) m x = refl
step_over (Is a) (Raises r rs) x = refl
step_over (Is a) (Is v) (Raises r rs) = refl
step_over (Is a) (Is v) (Is x) = refl

pub sought_next : (env : Environment) (m : Meaning Value) (all rest : List (Option ValueExpr)) (x : Option ValueExpr) (answer new : Result Truth Raise) (s : Sought env m all (x ∷ rest) answer)
    → MayAnswer (on_two or s.found (on_two (compared Equals) m (member env x))) new → Sought env m all rest new
sought_next env m all rest x answer new s h = record {
  found = on_two or s.found (on_two (compared Equals) m (member env x));
  tells = h;
  same = step_same s.found m (member env x) (in_order (map (member env) rest)) ∙ s.same;
  over = step_over s.found m (member env x);
}

end_same : (f : Meaning Truth) (m : Meaning Value) → on_two (λ (t : Truth) (v : Value). t) f m ≡ f → on_two or f (nowhere m) ≡ f
end_same (Raises r rs) m h = refl
end_same (Is a) (Is v) h = ap Is (or_false a)
end_same (Is a) (Raises r rs) h = absurd cc

nowhere_is : (m : Meaning Value) → on_two (compared_with_any Equals) m (Is []) ≡ nowhere m
nowhere_is (Is v) = refl
nowhere_is (Raises r rs) = refl

pub sought_all : (env : Environment) (m : Meaning Value) (all : List (Option ValueExpr)) (answer : Result Truth Raise) → Sought env m all [] answer → MayAnswer (among env m all) answer
sought_all env m all answer s =
    let same : s.found ≡ among env m all = sym (end_same s.found m s.over) ∙ ap (on_two or s.found) (sym (nowhere_is m)) ∙ s.same in
    subst (λ n. MayAnswer n answer) same s.tells

-- ---- what holds of the values of all members holds of each, and of the next one

next_members : (P : ValueExpr → Type 0) (x : Option ValueExpr) (xs : List (Option ValueExpr)) → AllByRecursion P (member_values (x ∷ xs)) → AllByRecursion P (member_values (x ∷ [])) × AllByRecursion P (member_values xs)
next_members P None xs h = (tt, h)
next_members P (Some e) xs h = ((h.0, tt), h.1)

pub member_at : {M : Type 0} (view : M → Option ValueExpr) (P : ValueExpr → Type 0) (ms : List M) (i : ℕ) (x : M) → i < length ms → x ≡ get_or ms i x → AllByRecursion P (member_values (map view ms)) → AllByRecursion P (member_values (view x ∷ []))
member_at view P [] i x h e all = absurd (omega (arith, h))
member_at view P (m ∷ ms) zero x h e all = rw e (next_members P (view m) (map view ms) all).0
member_at view P (m ∷ ms) (suc i) x h e all = member_at view P ms i x (omega (arith, h)) e (next_members P (view m) (map view ms) all).1

pub member_next : {M : Type 0} (view : M → Option ValueExpr) (ms : List M) (i : ℕ) (x : M) → i < length ms → x ≡ get_or ms i x → map view (drop i ms) ≡ view x ∷ map view (drop (i + 1) ms)
member_next view ms i x h e = ap (map view) (drop_more ms i x h ∙ ap (λ y. y ∷ drop (i + 1) ms) (sym e))
