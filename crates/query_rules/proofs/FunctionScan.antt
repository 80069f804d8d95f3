-- Whether a set function stands among parts.
use Rattle.std.proofs.Common.{◌≡◌, ◌∙◌, refl, sym, ap, Bool, true, false, List, [], ◌∷◌, ◌++◌}
use Rattle.std.specs.Prelude.{◌||◌}
use Rattle.std.specs.List.{list_any}
use Rattle.definitions.specs.Statement.{Expr, Members, InList}
use Rattle.definitions.specs.Binding.Parts.{is_function, member_parts, parts}

pub any_of_both : {X : Type 0} (test : X → Bool) (xs ys : List X) → list_any test (xs ++ ys) ≡ list_any test xs || list_any test ys
any_of_both test [] ys = refl
any_of_both test (x ∷ xs) ys = step (test x) _ _ _ (any_of_both test xs ys)
  where
    step : (a b c d : Bool) → b ≡ c || d → a || b ≡ (a || c) || d
    step true b c d h = refl
    step false b c d h = h

pub members_left : (negated : Bool) (e : Expr) (ms : Members) (x : Bool) → false ≡ list_any is_function (parts e) → x ≡ list_any is_function (member_parts ms) → x ≡ list_any is_function (parts (InList negated e ms))
members_left negated e ms x h k = k ∙ ap (λ b. b || list_any is_function (member_parts ms)) h ∙ sym (any_of_both is_function (parts e) (member_parts ms))

-- among parts behind others
pub in_first : (xs ys : List Expr) (x : Bool) → x ≡ true → x ≡ list_any is_function xs → x ≡ list_any is_function (xs ++ ys)
in_first xs ys x e h = e ∙ sym (any_of_both is_function xs ys ∙ ap (λ b. b || list_any is_function ys) (sym h ∙ e))

pub in_rest : (xs ys : List Expr) (x y : Bool) → x ≡ false → x ≡ list_any is_function xs → y ≡ list_any is_function ys → y ≡ list_any is_function (xs ++ ys)
in_rest xs ys x y e h k = k ∙ sym (any_of_both is_function xs ys ∙ ap (λ b. b || list_any is_function ys) (sym h ∙ e))
