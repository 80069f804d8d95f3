-- What two operands give.
use Rattle.std.proofs.Common.{◌≡◌, ◌∙◌, refl, ap, ap₂, Ok}
use Rattle.definitions.specs.Arithmetic.{Meaning, Is, Raises}
use Rattle.definitions.specs.Queries.Evaluation.{on_one, on_two}
use Rattle.definitions.specs.Queries.Telling.{MayAnswer}

pub on_two_ok : {X Y Z : Type 0} (f : X → Y → Z) (m : Meaning X) (n : Meaning Y) (x : X) (y : Y) (z : Z) → MayAnswer m (Ok x) → MayAnswer n (Ok y) → z ≡ f x y → MayAnswer (on_two f m n) (Ok z)
on_two_ok f (Is a) (Is b) x y z p q e = e ∙ ap₂ f p q
on_two_ok f (Raises r rs) n x y z p q e = absurd p
on_two_ok f (Is a) (Raises r rs) x y z p q e = absurd q

-- what is found with the first operand's result stands for both
pub on_two_found : {X Y Z : Type 0} (f : X → Y → Z) (m : Meaning X) (n : Meaning Y) (x : X) (z : Z) → MayAnswer m (Ok x) → MayAnswer (on_one (f x) n) (Ok z) → MayAnswer (on_two f m n) (Ok z)
on_two_found f (Is a) (Is b) x z p e = e ∙ ap (λ y. f y b) p
on_two_found f (Raises r rs) n x z p e = absurd p
on_two_found f (Is a) (Raises r rs) x z p e = absurd e

pub fused : {X Y Z : Type 0} (f : Y → Z) (g : X → Y) (m : Meaning X) → on_one f (on_one g m) ≡ on_one (λ x. f (g x)) m
fused f g (Is a) = refl
fused f g (Raises r rs) = refl
