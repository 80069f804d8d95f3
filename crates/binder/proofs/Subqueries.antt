-- Subqueries: what is bound of the inner block is bound of the clause.
use Rattle.std.proofs.Common.{◌≡◌, refl, sym, ap, subst, inl, inr, ℕ, Bool, true, false, List, [], ◌∷◌, ◌++◌, Option, Some, None, length, arith}
use Rattle.std.specs.Prelude.{IsFalse}
use Rattle.definitions.specs.Refusal.{Refusal, MixedKinds, OverQueryLimit}
use Rattle.definitions.specs.Statement as t
use Rattle.definitions.specs.Table.{Database}
use Rattle.definitions.specs.ValueType.{ValueType}
use Rattle.definitions.specs.Binding.Scopes.{Scopes}
use Rattle.definitions.specs.Binding.Parts.{block_blocks}
use Rattle.definitions.specs.Queries.BoundBlock.{Aggregate, Blocks}
use Rattle.query_rules.specs.declared.clause.ClauseKind.{ClauseKind as ClausePlace}
use Rattle.query_rules.specs.declared.clause.ClauseKind.TheVariants as p
use Rattle.query_rules.specs.Judging.{ClauseKind, InWhere, is_where, Refuses, part, argument, inner, misplaced, many, Progress, BindsColumn, BindsQuery, BindsBlock, RefusesQuery, RefusesColumn, RefusesBlock, IsClean}
use Rattle.query_rules.specs.Meaning.{place_of}

pub not_where : (place : ClausePlace) → (place ≡ p.Where → ⊥) → IsFalse (is_where (place_of place))
not_where p.Where h = absurd (h refl)
not_where p.Shown h = search
not_where (p.Grouped columns) h = search
not_where p.Argument h = search

module _ (db : Database) (scopes : Scopes) (place : ClauseKind) where
  pub one_column : (old new : Progress) (query : t.QuerySpecification) (number : ℕ) (type : ValueType) → BindsQuery db scopes place old new query number (Some type) → BindsColumn db scopes place old new query number type
  one_column old new query number type h = record { is = h.is; adds = h.adds; typed = h.typed; one = λ n. n.1 (h.one.1 refl); fine = h.fine }

  pub not_one_column : (old new : Progress) (query : t.QuerySpecification) (number : ℕ) → BindsQuery db scopes place old new query number None → RefusesColumn db scopes place old query MixedKinds
  not_one_column old new query number h = inr ((h.there, λ e. none (h.one.0 e)), refl)
    where
      none : false ≡ true → ⊥
      none e = absurd cc

  no_more : {X : Type 0} (xs : List X) → xs ++ [] ≡ xs
  no_more [] = refl
  no_more (x ∷ xs) = ap (λ ys. x ∷ ys) (no_more xs)

  in_where : place ≡ InWhere → IsFalse (is_where place) → ⊥
  in_where e h = differ (is_where place) (ap is_where e) h
    where
      differ : (b : Bool) → b ≡ true → IsFalse b → ⊥
      differ true e h = absurd cc
      differ false e h = absurd cc

  pub query_in_where : (old new : Blocks) (functions : List Aggregate) (query : t.QuerySpecification) (number : ℕ) (only : Option ValueType) → place ≡ InWhere → number ≡ length old → BindsBlock db scopes old new query only
      → BindsQuery db scopes place (record { blocks = old; functions = functions }) (record { blocks = new; functions = functions }) query number only
  query_in_where old new functions query number only here is h = record {
    is = is;
    adds = record { blocks = h.are; functions = sym (no_more functions); clean = clean };
    there = h.there;
    typed = h.typed;
    one = h.one;
    fine = h.fine;
  }
    where
      clean : IsClean db scopes place (length old) [] (block_blocks db scopes query)
      clean _ (part r a) = absurd a
      clean _ (argument r x a) = absurd a
      clean _ (inner r a) = h.accepted r a
      clean r (misplaced x n) = in_where here x
      clean r (many m) = absurd (let k = h.few in omega (arith, m, k))

  pub query_refused : (s : Progress) (query : t.QuerySpecification) (r : Refusal) → RefusesBlock db scopes s.blocks query r → RefusesQuery db scopes place s query r
  query_refused s query r (inl a) = inner r a
  query_refused s query r (inr (m, e)) = subst (Refuses db scopes place (length s.blocks) [] (block_blocks db scopes query)) (sym e) (many m)

  pub query_misplaced : (s : Progress) (query : t.QuerySpecification) → IsFalse (is_where place) → RefusesQuery db scopes place s query OverQueryLimit
  query_misplaced s (t.Specification distinct list sources where' groups having) x = misplaced x (λ e. absurd cc)
