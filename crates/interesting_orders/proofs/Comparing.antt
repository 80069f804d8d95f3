-- Orders that are compared, and the place of one among those that are stored.
use Rattle.std.proofs.Common.{◌≡◌, ◌∙◌, refl, sym, ap, ℕ, zero, suc, ◌+◌, ◌<◌, List, [], ◌∷◌, Bool, true, false, ◌&&◌, length, map, get_or, drop, arith}
use Rattle.std.specs.Global.{Vec}
use Rattle.std.specs.List.{position_or_len}
use Rattle.definitions.specs.Plans.Order.{SortKey, Order}
use Rattle.definitions.specs.Plans.Numbering.{same_key, same_order}
use Rattle.plan_tree.specs.Plans.{order_of, orders_in}
use Rattle.plan_tree.specs.declared.order.SortKey as code

-- ---- orders of other lengths are not one

neither : (a b : Bool) → false ≡ b → false ≡ (a && b)
neither true b e = e
neither false b e = refl

pub not_one : {A B : Type 0} (f : A → SortKey) (g : B → SortKey) (xs : List A) (ys : List B) → (length xs ≡ length ys → ⊥) → false ≡ same_order (map f xs) (map g ys)
not_one f g [] [] h = absurd (h refl)
not_one f g [] (y ∷ ys) h = refl
not_one f g (x ∷ xs) [] h = refl
not_one f g (x ∷ xs) (y ∷ ys) h = neither (same_key (f x) (g y)) (same_order (map f xs) (map g ys)) (not_one f g xs ys (λ e. h (ap suc e)))

-- ---- the first stored order that passes a test

from_stored : {X Y : Type 0} (f : X → Y) (xs : List X) (i : ℕ) (x : X) → i < length xs → x ≡ get_or xs i x → drop i (map f xs) ≡ f x ∷ drop (i + 1) (map f xs)
from_stored f [] i x h e = absurd (omega (arith, h))
from_stored f (y ∷ ys) zero x h e = let same : x ≡ y = e in ap (λ z. f z ∷ map f ys) (sym same)
from_stored f (y ∷ ys) (suc i) x h e = let next : suc (i + 1) ≡ suc i + 1 = omega arith in from_stored f ys i x (omega (arith, h)) e ∙ ap (λ n. f x ∷ drop n (map f (y ∷ ys))) next

module _ (p : Order → Bool) (orders : List Order) (stored : List (Vec code.SortKey)) (is : orders_in stored ≡ orders) (i : ℕ) (x : Vec code.SortKey) (h : i < length stored) (e : x ≡ get_or stored i x) where
  here : drop i orders ≡ order_of x.items ∷ drop (i + 1) orders
  here = rw (← is) (from_stored (λ (keys : Vec code.SortKey). order_of keys.items) stored i x h e)

  pub number_found : p (order_of x.items) ≡ true → i + position_or_len p (drop i orders) ≡ position_or_len p orders → i ≡ position_or_len p orders
  number_found t w =
      let first : position_or_len p (order_of x.items ∷ drop (i + 1) orders) ≡ 0 = rw t refl in
      let none : i ≡ i + 0 = omega arith in
      none ∙ ap (λ n. i + n) (sym (ap (position_or_len p) here ∙ first)) ∙ w

  pub number_further : p (order_of x.items) ≡ false → i + position_or_len p (drop i orders) ≡ position_or_len p orders → (i + 1) + position_or_len p (drop (i + 1) orders) ≡ position_or_len p orders
  number_further t w =
      let later : position_or_len p (order_of x.items ∷ drop (i + 1) orders) ≡ 1 + position_or_len p (drop (i + 1) orders) = rw t refl in
      let sum : (i + 1) + position_or_len p (drop (i + 1) orders) ≡ i + (1 + position_or_len p (drop (i + 1) orders)) = omega arith in
      sum ∙ ap (λ n. i + n) (sym (ap (position_or_len p) here ∙ later)) ∙ w
