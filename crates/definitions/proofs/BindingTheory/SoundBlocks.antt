-- What is known of a block without a fault: of each part of its expressions, and of the block.
use Rattle.std.proofs.Common.{◌≡◌, ◌≢◌, refl, ℕ, ◌<◌, ◌≤◌, inl, inr, true, false, List, [], ◌∷◌, ◌++◌, Option, Some, None, length, arith}
use Rattle.std.specs.Prelude.{IsTrue, IsFalse, is_some, nat_le, flat_map}
use Rattle.std.specs.List.{AllByRecursion, list_all}
use Rattle.std.proofs.lemmas.List.{length-map}
use Rattle.std.proofs.lemmas.Bool.Decides.{nat_tests}
use Rattle.definitions.specs.Lists.{AnyOf}
use Rattle.definitions.specs.Limits.{most_from_tables, most_conjuncts}
use Rattle.definitions.specs.Refusal.{Refusal}
use Rattle.definitions.specs.Statement.{Expr, Source, Column, Numeral, String, Signed, Line, Not, Compare, CompareAll, IsNull, Between, Like, InList, InQuery, Exists, Scalar, CountRows, Function, block_sources}
use Rattle.definitions.specs.Table.{Table, Database, table_named}
use Rattle.definitions.specs.Binding.Scopes.{NamedTable, Scopes, scope_of, is_whole, are_there, resolve}
use Rattle.definitions.specs.Binding.Parts.{PlacedBlock, is_function, item_values, condition_values, scopes_at, list_blocks, condition_blocks}
use Rattle.definitions.specs.Binding.Faults.{BlockFaulty, no_table, too_fine, no_column, group_not_own, mixed_kinds, wrong_operand, wrong_condition, wrong_value, function_in_where, function_in_function, many_tables, misplaced_query, IsTooFine, NamesNoColumn, IsNotOwn, MixesKinds, takes_right, is_condition, argument_parts, list_of, where_of, group_by_of, having_clause_of, where_parts, shown_parts, all_argument_parts, all_parts, conjunct_count, many_conjuncts}
use Rattle.definitions.specs.Binding.Formed.{IsWritten, NamesTables}
use Rattle.definitions.proofs.BindingTheory.ListFacts.{is_true, is_false, together, each, of_two, none_of, split}

module _ (db : Database) (scopes : Scopes) where
  -- a part without a fault
  pub record IsSound (e : Expr) : Type 0 where
    pub written : IsWritten e
    pub fine : IsTooFine db scopes e → ⊥
    pub named : NamesNoColumn db scopes e → ⊥
    pub kinds : MixesKinds db scopes e → ⊥
    pub right : takes_right e ≡ true

  abbrev pub IsSoundArgument : Expr → Type 0
  IsSoundArgument e = IsSound e × (is_function e ≡ false)

  -- with the parts of its argument, if it is a set function
  pub record IsSoundPart (e : Expr) : Type 0 where
    pub itself : IsSound e
    pub argument : AllByRecursion IsSoundArgument (argument_parts e)

  all_sound : (es : List Expr) → AllByRecursion IsWritten es → AllByRecursion (λ e. IsTooFine db scopes e → ⊥) es → AllByRecursion (λ e. NamesNoColumn db scopes e → ⊥) es → AllByRecursion (λ e. MixesKinds db scopes e → ⊥) es
      → AllByRecursion (λ e. IsFalse (takes_right e) → ⊥) es → AllByRecursion IsSound es
  all_sound [] w f n k r = tt
  all_sound (e ∷ es) w f n k r = (record { written = w.0; fine = f.0; named = n.0; kinds = k.0; right = is_true (takes_right e) r.0 }, all_sound es w.1 f.1 n.1 k.1 r.1)

  sound_parts : (es : List Expr) → AllByRecursion IsSound es → AllByRecursion IsSoundArgument (flat_map argument_parts es) → AllByRecursion IsSoundPart es
  sound_parts [] h a = tt
  sound_parts (e ∷ es) h a = let s = split IsSoundArgument (argument_parts e) (flat_map argument_parts es) a in (record { itself = h.0; argument = s.0 }, sound_parts es h.1 s.1)

  -- the parts of an argument have none
  no_argument : (e : Expr) → is_function e ≡ false → argument_parts e ≡ []
  no_argument (Function f d a) h = absurd cc
  no_argument (Column r) h = refl
  no_argument (Numeral u d s) h = refl
  no_argument (String c) h = refl
  no_argument (Signed m e) h = refl
  no_argument (Line f o) h = refl
  no_argument (Not e) h = refl
  no_argument (Compare o l r) h = refl
  no_argument (CompareAll o q l r) h = refl
  no_argument (IsNull n e) h = refl
  no_argument (Between n e l r) h = refl
  no_argument (Like n e p) h = refl
  no_argument (InList n e m) h = refl
  no_argument (InQuery n e q) h = refl
  no_argument (Exists q) h = refl
  no_argument (Scalar q) h = refl
  no_argument CountRows h = refl

  pub argument_is_sound : (e : Expr) → IsSoundArgument e → IsSoundPart e
  argument_is_sound e h = record { itself = h.0; argument = rw (no_argument e h.1) tt }

-- ---- blocks

-- a block whose literals are as they can be written, and that has no fault
pub record IsGood (db : Database) (p : PlacedBlock) : Type 0 where
  pub faultless : (r : Refusal) → BlockFaulty db p r → ⊥
  pub written : AllByRecursion IsWritten (all_parts p.block)
  pub some : NamesTables p.block

pub record IsSoundBlock (db : Database) (p : PlacedBlock) : Type 0 where
  pub there : IsTrue (are_there (scopes_at db p))
  pub own : IsTrue (are_there (scope_of db (block_sources p.block) ∷ []))
  pub parts : AllByRecursion (IsSoundPart db (scopes_at db p)) (where_parts p.block)
  pub shown : AllByRecursion (IsSoundPart db (scopes_at db p)) (shown_parts p.block)
  pub no_functions : AllByRecursion (λ e. is_function e ≡ false) (where_parts p.block)
  pub conditions : AllByRecursion (λ e. is_condition e ≡ true) (condition_values (where_of p.block) ++ condition_values (having_clause_of p.block))
  pub values : AllByRecursion (λ e. is_condition e ≡ false) (item_values (list_of p.block))
  pub groups : AllByRecursion (λ reference. IsNotOwn db (scopes_at db p) (resolve (scopes_at db p) reference) → ⊥) (group_by_of p.block)
  pub few : length (block_sources p.block) ≤ most_from_tables
  pub few_conjuncts : AllByRecursion (λ e. most_conjuncts < conjunct_count e → ⊥) (condition_values (where_of p.block))
  pub no_blocks : list_blocks db (scopes_at db p) (list_of p.block) ++ condition_blocks db (scopes_at db p) (having_clause_of p.block) ≡ []

is_there : (o : Option Table) → (o ≡ None → ⊥) → is_some o ≡ true
is_there None h = absurd (h refl)
is_there (Some t) h = refl

are_all_there : (db : Database) (sources : List Source) → (AnyOf (λ (s : Source). table_named db s.table ≡ None) sources → ⊥) → list_all (λ (t : NamedTable). is_some t.table) (scope_of db sources) ≡ true
are_all_there db [] h = refl
are_all_there db (s ∷ sources) h = together (is_some (table_named db s.table)) _ (is_there (table_named db s.table) (λ e. h (inl e))) (are_all_there db sources (λ a. h (inr a)))

is_few : (db : Database) (sources : List Source) → length sources ≤ most_from_tables → nat_le (length (scope_of db sources)) most_from_tables ≡ true
is_few db sources h = let e : length (scope_of db sources) ≡ length sources = length-map sources _ in grind (arith, nat_tests, h, e)

is_empty : {X : Type 0} (xs : List X) → ((xs ≢ []) → ⊥) → xs ≡ []
is_empty [] h = refl
is_empty (x ∷ xs) h = absurd (h (λ e. absurd cc))

pub sound_block : (db : Database) (p : PlacedBlock) → IsGood db p → IsTrue (are_there p.outer) → IsSoundBlock db p
sound_block db p good outer =
    let scopes : Scopes = scopes_at db p in
    let few : length (block_sources p.block) ≤ most_from_tables = not_more (length (block_sources p.block)) (λ m. good.faultless _ (many_tables m)) in
    let own : is_whole (scope_of db (block_sources p.block)) ≡ true =
    together _ _ (are_all_there db (block_sources p.block) (λ a. good.faultless _ (no_table a))) (is_few db (block_sources p.block) few) in
    let there : IsTrue (are_there (scopes_at db p)) = together _ _ own outer in
    let sound : AllByRecursion (IsSound db scopes) (all_parts p.block) = all_sound db scopes (all_parts p.block) good.written
    (none_of _ (all_parts p.block) (λ a. good.faultless _ (too_fine there a)))
    (none_of _ (all_parts p.block) (λ a. good.faultless _ (no_column there a)))
    (none_of _ (all_parts p.block) (λ a. good.faultless _ (mixed_kinds there a)))
    (none_of _ (all_parts p.block) (λ a. good.faultless _ (wrong_operand a))) in
    let arguments = split (IsSound db scopes) (where_parts p.block ++ shown_parts p.block) (all_argument_parts p.block) sound in
    let no_function : AllByRecursion (λ e. is_function e ≡ false) (all_argument_parts p.block) =
    each _ _ (λ e h. is_false (is_function e) h) (all_argument_parts p.block) (none_of _ (all_argument_parts p.block) (λ a. good.faultless _ (function_in_function a))) in
    let whole = sound_parts db scopes (where_parts p.block ++ shown_parts p.block) arguments.0 (of_two (IsSound db scopes) (λ e. is_function e ≡ false) (all_argument_parts p.block) arguments.1 no_function) in
    let places = split (IsSoundPart db scopes) (where_parts p.block) (shown_parts p.block) whole in
    record {
      there = there;
      own = together _ _ own refl;
      parts = places.0;
      shown = places.1;
      no_functions = each _ _ (λ e h. is_false (is_function e) h) (where_parts p.block) (none_of _ (where_parts p.block) (λ a. good.faultless _ (function_in_where a)));
      conditions = each _ _ (λ e h. is_true (is_condition e) h) (condition_values (where_of p.block) ++ condition_values (having_clause_of p.block)) (none_of _ _ (λ a. good.faultless _ (wrong_condition a)));
      values = each _ _ (λ e h. is_false (is_condition e) h) (item_values (list_of p.block)) (none_of _ _ (λ a. good.faultless _ (wrong_value a)));
      groups = none_of _ (group_by_of p.block) (λ a. good.faultless _ (group_not_own there a));
      few = few;
      few_conjuncts = none_of _ _ (λ a. good.faultless _ (many_conjuncts a));
      no_blocks = is_empty _ (λ n. good.faultless _ (misplaced_query n));
    }
  where
    not_more : (n : ℕ) → (most_from_tables < n → ⊥) → n ≤ most_from_tables
    not_more n h = omega (arith, h)
