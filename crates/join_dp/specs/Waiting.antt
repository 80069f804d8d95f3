-- What is put into a frontier and taken out of it.
use Rattle.std.specs.Prelude.{ℕ, ◌≤◌, ◌≡◌, ◌⊎◌, List, Contains, All}
use Rattle.std.specs.declared.cmp.Reverse.{Reverse}

-- a cost, and the place of the plan that has it
abbrev pub Waiting : Type 0
Waiting = ℕ × ℕ

abbrev pub waiting_of : Reverse ℕ × ℕ → Waiting
waiting_of x = (x.0.0, x.1)

-- one more
pub record IsPut (old : List Waiting) (one : Waiting) (new : List Waiting) : Type 0 where
  pub here : Contains new one
  pub kept : (other : Waiting) → Contains old other → Contains new other
  pub no_other : (other : Waiting) → Contains new other → (other ≡ one) ⊎ Contains old other

-- a least one is taken out
pub record IsTaken (old : List Waiting) (one : Waiting) (new : List Waiting) : Type 0 where
  pub was : Contains old one
  pub least : All (λ (other : Waiting). one.0 ≤ other.0) old
  pub others : (other : Waiting) → Contains old other → (other ≡ one) ⊎ Contains new other
  pub were : (other : Waiting) → Contains new other → Contains old other
