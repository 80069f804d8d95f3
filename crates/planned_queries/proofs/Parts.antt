-- A certificate keeps its form without some of its states.
use Rattle.std.proofs.Common.{ℕ, ◌≡◌, ◌<◌, ◌≤◌, ◌++◌, List, [], ◌∷◌}
use Rattle.std.specs.Prelude.{All}
use Rattle.std.specs.List.{AllByRecursion}
use Rattle.std.proofs.lemmas.List.Elements.{All-from_recursion, recursion_from_All}
use Rattle.definitions.specs.Plans.Space.{Space, whole, IsOver}
use Rattle.definitions.specs.Plans.Certificate.{StateCost, IsCertificate, AreRising, Precedes}

dropped : {X : Type 0} (P : X → Type 0) (a : List X) (x : X) (b : List X) → AllByRecursion P (a ++ x ∷ b) → AllByRecursion P (a ++ b)
dropped P [] x b h = h.1
dropped P (y ∷ a) x b h = (h.0, dropped P a x b h.1)

all_without : {X : Type 0} (P : X → Type 0) (a : List X) (x : X) (b : List X) → All P (a ++ x ∷ b) → All P (a ++ b)
all_without P a x b h = All-from_recursion P (a ++ b) (dropped P a x b (recursion_from_All P (a ++ x ∷ b) h))

risen : (a : List StateCost) (s : StateCost) (b : List StateCost) → AreRising (a ++ s ∷ b) → AreRising (a ++ b)
risen [] s b h = h.1
risen (t ∷ a) s b h = (all_without (Precedes t) a s b h.0, risen a s b h.1)

pub left_out : (space : Space) (target : ℕ) (a : List StateCost) (s : StateCost) (b : List StateCost) → IsCertificate space (record { target = target; states = a ++ s ∷ b }) → IsCertificate space (record { target = target; states = a ++ b })
left_out space target a s b h = record {
  target = h.target;
  costs = all_without (λ state. state.cost < target) a s b h.costs;
  states = record {
    tables = all_without (λ state. (0 < state.tables) × (state.tables ≤ whole space)) a s b h.states.tables;
    orders = all_without (λ state. IsOver space state.tables state.order) a s b h.states.orders;
    rising = risen a s b h.states.rising;
  };
}
