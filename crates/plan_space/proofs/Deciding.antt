-- Tests that decide a fact.
use Rattle.std.proofs.Common.{Bool, true, false, refl}
use Rattle.std.specs.Bool.{Decides}

pub yes : (A : Type 0) → A → Decides true A
yes A a = (λ _. a, λ _. refl)

pub no_never : (A : Type 0) → (A → ⊥) → Decides false A
no_never A never = (λ h. absurd cc, λ a. absurd (never a))

pub holds : (A : Type 0) → Decides true A → A
holds A d = d.0 refl

pub fails : (A : Type 0) → Decides false A → A → ⊥
fails A d a = let e = d.1 a in absurd cc

pub decided : (b : Bool) (A B : Type 0) → Decides b A → (A → B) → ((A → ⊥) → B → ⊥) → Decides b B
decided true A B d f f' = yes B (f (holds A d))
decided false A B d f f' = no_never B (f' (fails A d))
