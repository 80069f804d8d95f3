-- Columns as parts of a query.
use Rattle.std.proofs.Common.{◌≡◌, ◌∙◌, refl, sym, ap, subst, ℕ, zero, suc, ◌<◌, List, [], ◌∷◌, Option, Some, arith}
use Rattle.std.specs.Prelude.{slice_get, unwrap_or}
use Rattle.std.specs.List.{AllByRecursion}
use Rattle.definitions.specs.Refusal.{Refusal, UnknownColumn}
use Rattle.definitions.specs.Lists.{AnyOf}
use Rattle.definitions.specs.Invariant.{IsDatabase, IsTable}
use Rattle.definitions.specs.Statement.{Column, ColumnReference}
use Rattle.definitions.specs.Table as table
use Rattle.definitions.specs.Table.{Database}
use Rattle.definitions.specs.Value.{SqlType, Smallint, Integer, Numeric, Char, IsType}
use Rattle.definitions.specs.ValueType.{ValueType, type_of}
use Rattle.definitions.specs.Binding.Scopes.{Scopes, Found, NotThere, Ambiguous, Named, resolve}
use Rattle.definitions.specs.Binding.Types.{found_type}
use Rattle.definitions.specs.Binding.BoundForm.{bound_column}
use Rattle.definitions.specs.Binding.Faults.{IsNoColumn, IsOuter, IsUngroupedColumn}
use Rattle.definitions.specs.Queries.BoundBlock.{ValueExpr}
use Rattle.query_rules.proofs.ResolvedColumns.{resolved_in, HasColumnIn}
use Rattle.query_rules.specs.Judging.{ClauseKind, PartFaulty, too_fine, no_column, mixed_kinds, wrong_operand, many_members, misplaced_function, outer_column, ungrouped}
use Rattle.query_rules.specs.Judging.{IsFine}
use Rattle.query_rules.specs.Leaves.{InSight, BindsLeaf, MayStand, MayNotStand}
use Rattle.query_rules.specs.Leaves as l

module _ (db : Database) (scopes : Scopes) (place : ClauseKind) (reference : ColumnReference) where
  pub not_there : NotThere ≡ resolve scopes reference → PartFaulty db scopes place (Column reference) UnknownColumn
  not_there e = no_column (subst (IsNoColumn db scopes) e tt)

  pub not_one : Ambiguous ≡ resolve scopes reference → PartFaulty db scopes place (Column reference) UnknownColumn
  not_one e = no_column (subst (IsNoColumn db scopes) e tt)

  outside : (level : ℕ) (f : Found) → 0 < level → IsOuter (Named level f)
  outside zero f h = absurd (omega (arith, h))
  outside (suc level) f h = tt

  apart : (level : ℕ) (f : Found) (columns : List _) → level ≡ 0 → (AnyOf (λ c. c ≡ f.column) columns → ⊥) → IsUngroupedColumn columns (Named level f)
  apart zero f columns z n = n
  apart (suc level) f columns z n = absurd cc

  pub may_not : (level : ℕ) (f : Found) (r : Refusal) → Named level f ≡ resolve scopes reference → MayNotStand place level f.column r → PartFaulty db scopes place (Column reference) r
  may_not level f _ e (l.outer p h) = outer_column p (subst IsOuter e (outside level f h))
  may_not level f _ e (l.ungrouped columns p z n) = ungrouped columns p (subst (IsUngroupedColumn columns) e (apart level f columns z n))

  -- ---- a column that may stand there

  not_outer : (level : ℕ) (f : Found) → level ≡ 0 → IsOuter (Named level f) → ⊥
  not_outer zero f z h = h
  not_outer (suc level) f z h = absurd cc

  among : (level : ℕ) (f : Found) (columns : List _) → (level ≡ 0 → AnyOf (λ c. c ≡ f.column) columns) → IsUngroupedColumn columns (Named level f) → ⊥
  among zero f columns h n = n (h refl)
  among (suc level) f columns h n = n

  pub sound_column : (level : ℕ) (f : Found) → Named level f ≡ resolve scopes reference → MayStand place level f.column → (r : Refusal) → PartFaulty db scopes place (Column reference) r → ⊥
  sound_column level f e m _ (too_fine x) = x
  sound_column level f e m _ (no_column x) = subst (IsNoColumn db scopes) (sym e) x
  sound_column level f e m _ (mixed_kinds x) = x
  sound_column level f e m _ (wrong_operand x) = absurd cc
  sound_column level f e m _ (many_members x) = x
  sound_column level f e m _ (misplaced_function p x) = absurd cc
  sound_column level f e m _ (outer_column p x) = not_outer level f (m.inside p) (subst IsOuter (sym e) x)
  sound_column level f e m _ (ungrouped columns p x) = among level f columns (m.grouped columns p) (subst (IsUngroupedColumn columns) (sym e) x)

-- ---- its type

at : {X : Type 0} (P : X → Type 0) (xs : List X) (i : ℕ) (x : X) → AllByRecursion P xs → slice_get xs i ≡ Some x → P x
at P [] i x h e = absurd cc
at {X} P (y ∷ ys) zero x h e = subst P (ap (λ (o : Option X). unwrap_or o y) e) h.0
at P (y ∷ ys) (suc i) x h e = at P ys i x h.1 e

pub fine_type : (type : SqlType) → IsType type → IsFine (type_of type)
fine_type Smallint h = omega (arith)
fine_type Integer h = omega (arith)
fine_type (Numeric p s) (low, most, scale) = omega (arith, most, scale)
fine_type (Char n) h = omega (arith)

pub has_fine : (db : Database) (tables : List ℕ) (f : Found) → IsDatabase db → HasColumnIn db tables f.column f.type → IsFine (type_of f.type)
has_fine db tables f valid (n, t, column, h, k, c, same) =
    let whole = at IsTable db n t valid.each k in
    let type = at (λ (x : table.Column). IsType x.type) t.columns f.column.number column whole.types c in
    fine_type f.type (subst IsType same type)

pub binds_column : (db : Database) (scopes : Scopes) (place : ClauseKind) (reference : ColumnReference) (level : ℕ) (f : Found) (value : ValueExpr) (type : ValueType) → InSight db scopes
    → Named level f ≡ resolve scopes reference → MayStand place level f.column → value ≡ bound_column (Named level f) → type ≡ type_of f.type → BindsLeaf db scopes place (Column reference) value type
binds_column db scopes place reference level f value type sight e m v t =
    let found = resolved_in db sight.froms reference level f (ap (λ s. resolve s reference) (sym sight.are) ∙ sym e) in
    record {
      bound = λ next. v ∙ ap bound_column e;
      typed = ap found_type (sym e) ∙ ap Some (sym t);
      fine = subst IsFine (sym t) (has_fine db _ f sight.valid found.has);
      sound = sound_column db scopes place reference level f e m;
    }
