-- The columns of GROUP BY, one after another.
use Rattle.std.proofs.Common.{◌≡◌, ◌∙◌, refl, sym, ap, inl, inr, ℕ, ◌+◌, ◌<◌, ◌≤◌, List, [], ◌∷◌, ◌++◌, length, map, drop, get_or, append-nil}
use Rattle.std.proofs.lemmas.List.{append_assoc, drop_more, drop_all}
use Rattle.definitions.specs.Statement.{ColumnReference}
use Rattle.definitions.specs.Table.{Database}
use Rattle.definitions.specs.Plans.Order.{BlockColumn}
use Rattle.definitions.specs.Binding.Scopes.{Scopes, resolve}
use Rattle.definitions.specs.Binding.BoundForm.{own_column}
use Rattle.definitions.specs.Binding.Faults.{IsNotOwn}
use Rattle.query_tree.specs.Bound.{column_of}
use Rattle.query_tree.specs.declared.leaf.BlockColumn.{BlockColumn as Column}
use Rattle.parse_tree.specs.Trees.{column_of as reference_of}
use Rattle.parse_tree.specs.declared.leaf.ColumnReference.{ColumnReference as Reference}
use Rattle.query_rules.specs.Groups.{own_columns, SomeNotOwn}

pub record GroupsLeft (scopes : Scopes) (all : List ColumnReference) (done : List BlockColumn) (rest : List ColumnReference) : Type 0 where
  pub are : done ++ own_columns scopes rest ≡ own_columns scopes all
  pub back : (db : Database) → SomeNotOwn db scopes all → SomeNotOwn db scopes rest
  pub forth : (db : Database) → SomeNotOwn db scopes rest → SomeNotOwn db scopes all

pub begin_groups : (scopes : Scopes) (all : List ColumnReference) → GroupsLeft scopes all [] all
begin_groups scopes all = record { are = refl; back = λ db h. h; forth = λ db h. h }

pub past_group : (scopes : Scopes) (all : List ColumnReference) (done : List BlockColumn) (x : ColumnReference) (rest : List ColumnReference) (c : BlockColumn) → GroupsLeft scopes all done (x ∷ rest)
    → own_column (resolve scopes x) ≡ c → ((db : Database) → IsNotOwn db scopes (resolve scopes x) → ⊥) → GroupsLeft scopes all (done ++ c ∷ []) rest
past_group scopes all done x rest c h e own = record {
  are = append_assoc done (c ∷ []) (own_columns scopes rest) ∙ ap (λ c. done ++ c ∷ own_columns scopes rest) (sym e) ∙ h.are;
  back = λ db n. elim (h.back db n) [ inl k ↦ absurd (own db k) | inr k ↦ k ];
  forth = λ db n. h.forth db (inr n);
}

pub fault_at_group : (scopes : Scopes) (all : List ColumnReference) (done : List BlockColumn) (x : ColumnReference) (rest : List ColumnReference) → GroupsLeft scopes all done (x ∷ rest)
    → ((db : Database) → IsNotOwn db scopes (resolve scopes x)) → (db : Database) → SomeNotOwn db scopes all
fault_at_group scopes all done x rest h n db = h.forth db (inl (n db))

pub groups_are : (scopes : Scopes) (all : List ColumnReference) (done : List BlockColumn) → GroupsLeft scopes all done [] → done ≡ own_columns scopes all
groups_are scopes all done h = sym (append-nil done) ∙ h.are

pub groups_are_own : (scopes : Scopes) (all : List ColumnReference) (done : List BlockColumn) → GroupsLeft scopes all done [] → (db : Database) → SomeNotOwn db scopes all → ⊥
groups_are_own scopes all done h db n = h.back db n

-- the references of which some are left
pub next_reference : (references : List Reference) (i : ℕ) (x : Reference) → i < length references → x ≡ get_or references i x → map reference_of (drop i references) ≡ reference_of x ∷ map reference_of (drop (i + 1) references)
next_reference references i x h e = ap (map reference_of) (drop_more references i x h ∙ ap (λ y. y ∷ drop (i + 1) references) (sym e))

pub no_reference : (references : List Reference) (i : ℕ) → length references ≤ i → map reference_of (drop i references) ≡ []
no_reference references i h = ap (map reference_of) (drop_all i references h)

pub pushed_column : (xs : List Column) (x : Column) → map column_of (xs ++ x ∷ []) ≡ map column_of xs ++ column_of x ∷ []
pushed_column [] x = refl
pushed_column (y ∷ xs) x = ap (λ ys. column_of y ∷ ys) (pushed_column xs x)
