-- A condition that may be absent.
use Rattle.std.proofs.Common.{◌≡◌, refl, sym, ap, subst, inl, inr, ◌≤◌, Bool, true, false, List, [], ◌∷◌, ◌++◌, Some, None, length}
use Rattle.std.specs.Prelude.{IsFalse}
use Rattle.definitions.specs.Limits.{most_blocks}
use Rattle.definitions.specs.Refusal.{Refusal}
use Rattle.definitions.specs.Statement.{Expr, Absent, Present}
use Rattle.definitions.specs.Table.{Database}
use Rattle.definitions.specs.Binding.Scopes.{Scopes}
use Rattle.definitions.specs.Binding.Parts.{parts, placed_blocks_in}
use Rattle.definitions.specs.Binding.Faults.{is_condition}
use Rattle.definitions.specs.Queries.BoundBlock as b
use Rattle.query_rules.specs.Judging.{ClauseKind, Progress, Adds, Refuses, BindsCondition, RefusesCondition}
use Rattle.binder.specs.Blocks.{BindsOption, RefusesOption}
use Rattle.binder.proofs.Bundles.{add_none}
use Rattle.binder.proofs.Nodes.{next_after}

pub nothing_more : {X : Type 0} (xs : List X) → xs ++ [] ≡ xs
nothing_more [] = refl
nothing_more (x ∷ xs) = ap (λ ys. x ∷ ys) (nothing_more xs)

both_cannot : (b : Bool) → b ≡ true → IsFalse b → ⊥
both_cannot true h k = absurd cc
both_cannot false h k = absurd cc

is_wrong : (b : Bool) → b ≡ false → IsFalse b
is_wrong false h = search
is_wrong true h = absurd cc

module _ (db : Database) (scopes : Scopes) (place : ClauseKind) where
  pub binds_absent : (s : Progress) → length s.blocks ≤ most_blocks → BindsOption db scopes place s s Absent None
  binds_absent s few = record { adds = add_none db scopes place s few; are = refl; next = refl; conditions = λ a. a }

  pub binds_present : (old new : Progress) (e : Expr) (c : b.Condition) → BindsCondition db scopes place old new e c → BindsOption db scopes place old new (Present e) (Some c)
  binds_present old new e c h = record {
    adds = subst (λ ps. Adds db scopes place old new ps (placed_blocks_in db scopes e)) (sym (nothing_more (parts e))) h.adds;
    are = ap Some h.bound;
    next = next_after db scopes place old new e h.adds;
    conditions = λ a. elim a [ inl x ↦ both_cannot (is_condition e) h.is_condition x | inr x ↦ x ];
  }

  pub present_refused : (s : Progress) (e : Expr) (r : Refusal) → RefusesCondition db scopes place s e r → RefusesOption db scopes place s (Present e) r
  present_refused s e r (inl f) = inl (subst (λ ps. Refuses db scopes place (length s.blocks) ps (placed_blocks_in db scopes e) r) (sym (nothing_more (parts e))) f)
  present_refused s e r (inr (x, same)) = inr (inl (is_wrong (is_condition e) x), same)
