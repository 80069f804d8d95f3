-- Lists of one length, whose elements go together.
use Rattle.std.specs.Prelude.{ℕ, ◌<◌, ◌≡◌, List, Some, length, get_or, slice_get}

-- as far as a place
pub record AreSoFar {A B : Type 0} (Fits : A → B → Type 0) (xs : List A) (ys : List B) (count : ℕ) : Type 0 where
  pub len : length ys ≡ count
  pub each : (place : ℕ) (x : A) (d : B) → place < count → slice_get xs place ≡ Some x → Fits x (get_or ys place d)

-- all of them
pub record AreEach {A B : Type 0} (Fits : A → B → Type 0) (xs : List A) (ys : List B) : Type 0 where
  pub len : length ys ≡ length xs
  pub each : (place : ℕ) (x : A) (d : B) → slice_get xs place ≡ Some x → Fits x (get_or ys place d)
