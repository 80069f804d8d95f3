-- The type of a value without a fault is known, and its bound form has it.
use Rattle.std.proofs.Common.{◌≡◌, ◌≢◌, ◌∙◌, refl, sym, ap, subst, ℕ, zero, suc, ◌+◌, ◌<◌, ◌≤◌, inl, inr, Bool, true, false, List, [], ◌∷◌, ◌++◌, Option, Some, None, length, map, max, arith}
use Rattle.std.specs.Prelude.{◌&&◌, nat_le, IsTrue, IsFalse, if◌then◌else◌, flat_map}
use Rattle.std.specs.List.{AllByRecursion}
use Rattle.std.proofs.lemmas.Bool.Decides.{nat_tests}
use Rattle.definitions.specs.Limits.{greatest_scale}
use Rattle.definitions.specs.Value.{Texts}
use Rattle.definitions.specs.ValueType.{ValueType, NumberType, TextType, type_of, type_kind}
use Rattle.definitions.specs.Arithmetic.{quotient_scale}
use Rattle.definitions.specs.Table.{Database}
use Rattle.definitions.specs.Statement as t
use Rattle.definitions.specs.Statement.{Expr, LineOperands, QuerySpecification, SetFunction, LineOperator}
use Rattle.definitions.specs.Binding.Scopes.{Scopes, Found, Resolution, NotThere, Ambiguous, Named, scope_of, are_there, all_columns, resolve}
use Rattle.definitions.specs.Binding.Types.{found_type, joined_type, function_type, single_type, expr_type, chain_type, query_type}
use Rattle.definitions.specs.Binding.Parts.{parts, operand_parts, placed_blocks_in, placed_operand_blocks, condition_values, condition_blocks, block_blocks}
use Rattle.definitions.specs.Binding.BoundForm.{Next, known_type, operator_of, bound_column, after, bound_value, bound_operands, select_items}
use Rattle.definitions.specs.Binding.Faults.{is_logical, is_condition, same, operands_are, NotOneColumn, IsGreat, HasGreatProduct, IsNoColumn, SomeOperandIsText, WantsNumbers, list_of}
use Rattle.definitions.specs.Binding.Formed.{kind_type, only_type}
use Rattle.definitions.specs.Queries.BoundBlock as b
use Rattle.definitions.specs.Queries.BoundTypes.{arithmetic_type, type_of_two, signed_type, value_type, operands_type}
use Rattle.definitions.proofs.BindingTheory.ListFacts.{both, negated, each, split}
use Rattle.definitions.proofs.BindingTheory.SoundBlocks.{IsSoundPart, IsSoundArgument, argument_is_sound, IsGood, sound_block}

-- ---- what is known of an expression: it is in sight of tables that are there, its parts have no fault, and the blocks inside it have none
pub record IsClean (db : Database) (scopes : Scopes) (e : Expr) : Type 0 where
  pub there : IsTrue (are_there scopes)
  pub parts : AllByRecursion (IsSoundPart db scopes) (parts e)
  pub inner : AllByRecursion (IsGood db) (placed_blocks_in db scopes e)

pub record IsTyped (db : Database) (scopes : Scopes) (e : Expr) : Type 0 where
  pub type : ValueType
  pub typed : expr_type db scopes e ≡ Some type
  pub bound : (next : Next) → value_type (bound_value db scopes next e) ≡ Some type

pub record AreTyped (db : Database) (scopes : Scopes) (left : ℕ) (others : LineOperands) : Type 0 where
  pub type : ValueType
  pub typed : chain_type db scopes (Some (NumberType left)) others ≡ Some type
  pub bound : (next : Next) → operands_type (Some (NumberType left)) (bound_operands db scopes next others) ≡ Some type

-- a query has one column, of the type
pub record IsTypedQuery (db : Database) (scopes : Scopes) (query : QuerySpecification) : Type 0 where
  pub type : ValueType
  pub typed : query_type db scopes query ≡ Some type
  pub bound : (next : Next) → only_type (select_items db (scope_of db (t.block_sources query) ∷ scopes) next (list_of query)) ≡ Some type

-- ---- types

abbrev IsColumnType : Resolution → ValueType → Type 0
IsColumnType r type = (found_type r ≡ Some type) × (value_type (bound_column r) ≡ Some type)

column_type : (db : Database) (scopes : Scopes) (r : Resolution) → (IsNoColumn db scopes r → ⊥) → (type : ValueType) × IsColumnType r type
column_type db scopes NotThere h = absurd (h tt)
column_type db scopes Ambiguous h = absurd (h tt)
column_type db scopes (Named zero f) h = (type_of f.type, (refl, refl))
column_type db scopes (Named (suc k) f) h = (type_of f.type, (refl, refl))

pub number_of : (type : ValueType) → (type_kind type ≡ Texts → ⊥) → (n : ℕ) × (type ≡ NumberType n)
number_of (NumberType n) h = (n, refl)
number_of TextType h = absurd (h refl)

abbrev Joins : LineOperator → ℕ → ℕ → ℕ → Type 0
Joins o m n k = (joined_type o (Some (NumberType m)) (Some (NumberType n)) ≡ Some (NumberType k)) × (arithmetic_type (operator_of o) (NumberType m) (NumberType n) ≡ Some (NumberType k))

fine_product : (k : ℕ) → (greatest_scale < k → ⊥) → nat_le k 18 ≡ true
fine_product k h = let few : k ≤ 18 = omega (arith, h) in grind (arith, nat_tests, few)

joins : (db : Database) (scopes : Scopes) (o : LineOperator) (m n : ℕ) → (IsGreat db scopes (joined_type o (Some (NumberType m)) (Some (NumberType n))) → ⊥) → (k : ℕ) × Joins o m n k
joins db scopes t.Plus m n h = (max m n, (refl, refl))
joins db scopes t.Minus m n h = (max m n, (refl, refl))
joins db scopes t.Times m n h = (m + n, (refl, ap (λ c. if c then Some (NumberType (m + n)) else None) (fine_product (m + n) h)))
joins db scopes t.Divided m n h = (quotient_scale m, (refl, refl))
joins db scopes t.And m n h = (quotient_scale m, (refl, refl))
joins db scopes t.Or m n h = (quotient_scale m, (refl, refl))

abbrev pub IsFunctionType : SetFunction → ValueType → ValueType → Type 0
IsFunctionType f type k = (function_type f (Some type) ≡ Some k) × (kind_type f (Some type) ≡ Some k)

pub function_types : (db : Database) (scopes : Scopes) (f : SetFunction) (type : ValueType) → (WantsNumbers db scopes f → type_kind type ≡ Texts → ⊥) → (k : ValueType) × IsFunctionType f type k
function_types db scopes t.Count type h = (NumberType 0, (refl, refl))
function_types db scopes t.Sum (NumberType n) h = (NumberType n, (refl, refl))
function_types db scopes t.Sum TextType h = absurd (h tt refl)
function_types db scopes t.Avg (NumberType n) h = (NumberType (quotient_scale n), (refl, refl))
function_types db scopes t.Avg TextType h = absurd (h tt refl)
function_types db scopes t.Min type h = (type, (refl, refl))
function_types db scopes t.Max type h = (type, (refl, refl))

is_wrong : (b : Bool) → b ≡ false → IsFalse b
is_wrong false h = refl
is_wrong true h = absurd cc

pub one : (n : ℕ) → (n ≢ 1 → ⊥) → n ≡ 1
one zero h = absurd (h (λ e. absurd (omega (arith, e))))
one (suc zero) h = refl
one (suc (suc n)) h = absurd (h (λ e. absurd (omega (arith, e))))

abbrev IsSingleType : List Found → ValueType → Type 0
IsSingleType fs type = (single_type fs ≡ Some type) × (only_type (map (λ (f : Found). record { name = f.name; value = b.Column f.column f.type }) fs) ≡ Some type)

single : (fs : List Found) → length fs ≡ 1 → (type : ValueType) × IsSingleType fs type
single [] h = absurd (omega (arith, h))
single (f ∷ []) h = (type_of f.type, (refl, refl))
single (f ∷ g ∷ fs) h = absurd (omega (arith, h))

chosen : (c : Bool) (o : Option ValueType) (type : ValueType) → c ≡ true → o ≡ Some type → (if c then o else None) ≡ Some type
chosen true o type h k = k
chosen false o type h k = absurd cc

-- ---- values

pub argument_is_clean : (db : Database) (scopes : Scopes) (f : SetFunction) (d : Bool) (argument : Expr) → IsClean db scopes (t.Function f d argument) → IsClean db scopes argument
argument_is_clean db scopes f d argument h = record { there = h.there; parts = each (IsSoundArgument db scopes) (IsSoundPart db scopes) (argument_is_sound db scopes) (parts argument) h.parts.0.argument; inner = h.inner }

mutual
  pub typed : (db : Database) (scopes : Scopes) (e : Expr) → IsClean db scopes e → is_condition e ≡ false → IsTyped db scopes e
  typed db scopes (t.Column reference) h c = let s = column_type db scopes (resolve scopes reference) h.parts.0.itself.named in record { type = s.0; typed = s.1.0; bound = λ next. s.1.1 }
  typed db scopes (t.Numeral units digits scale) h c = record { type = NumberType scale; typed = refl; bound = λ next. refl }
  typed db scopes (t.String codes) h c = record { type = TextType; typed = refl; bound = λ next. refl }
  typed db scopes (t.Signed minus e) h c =
      let s = typed db scopes e (record { there = h.there; parts = h.parts.1; inner = h.inner }) (negated (is_condition e) h.parts.0.itself.right) in
      let n = number_of s.type (λ k. h.parts.0.itself.kinds (s.type, s.typed, k)) in
      record { type = NumberType n.0; typed = s.typed ∙ ap Some n.1; bound = λ next. ap signed_type (s.bound next ∙ ap Some n.1) }
  typed db scopes (t.Line first others) h c =
      let right = both (same false (is_condition first)) (operands_are false others) (subst (λ l. same l (is_condition first) && operands_are l others ≡ true) c h.parts.0.itself.right) in
      let ps = split (IsSoundPart db scopes) (parts first) (operand_parts others) h.parts.1 in
      let bs = split (IsGood db) (placed_blocks_in db scopes first) (placed_operand_blocks db scopes others) h.inner in
      let s = typed db scopes first (record { there = h.there; parts = ps.0; inner = bs.0 }) (negated (is_condition first) right.0) in
      let n = number_of s.type (λ k. h.parts.0.itself.kinds (is_wrong (is_logical others) c, inl (s.type, s.typed, k))) in
      let left : expr_type db scopes first ≡ Some (NumberType n.0) = s.typed ∙ ap Some n.1 in
      let o = typed_operands db scopes n.0 others h.there ps.1 bs.1 right.1 (λ k. h.parts.0.itself.kinds (is_wrong (is_logical others) c, inr k))
      (λ g. h.parts.0.itself.fine (subst (λ l. HasGreatProduct db scopes l others) (sym left) g)) in
      record {
        type = o.type;
        typed = ap (λ l. chain_type db scopes l others) left ∙ o.typed;
        bound = λ next. ap (λ l. operands_type l (bound_operands db scopes (after db scopes first next) others)) (s.bound next ∙ ap Some n.1) ∙ o.bound (after db scopes first next);
      }
  typed db scopes (t.Scalar query) h c =
      let q = typed_query db scopes query h.there h.inner h.parts.0.itself.kinds in
      record { type = q.type; typed = q.typed; bound = λ next. ap (λ o. Some (known_type o)) q.typed }
  typed db scopes t.CountRows h c = record { type = NumberType 0; typed = refl; bound = λ next. refl }
  typed db scopes (t.Function f d argument) h c =
      let a = typed db scopes argument (argument_is_clean db scopes f d argument h) (negated (is_condition argument) h.parts.0.itself.right) in
      let k = function_types db scopes f a.type (λ w is. h.parts.0.itself.kinds (w, (a.type, a.typed, is))) in
      let known : function_type f (expr_type db scopes argument) ≡ Some k.0 = ap (function_type f) a.typed ∙ k.1.0 in
      record { type = k.0; typed = known; bound = λ next. ap (λ o. Some (known_type o)) known }
  typed db scopes (t.Not e) h c = absurd cc
  typed db scopes (t.Compare op left right) h c = absurd cc
  typed db scopes (t.CompareAll op quantifier left query) h c = absurd cc
  typed db scopes (t.IsNull n e) h c = absurd cc
  typed db scopes (t.Between n e low high) h c = absurd cc
  typed db scopes (t.Like n e pattern) h c = absurd cc
  typed db scopes (t.InList n e members) h c = absurd cc
  typed db scopes (t.InQuery n e query) h c = absurd cc
  typed db scopes (t.Exists query) h c = absurd cc

  pub typed_operands : (db : Database) (scopes : Scopes) (left : ℕ) (others : LineOperands) → IsTrue (are_there scopes) → AllByRecursion (IsSoundPart db scopes) (operand_parts others) → AllByRecursion (IsGood db) (placed_operand_blocks db scopes others)
      → operands_are false others ≡ true → (SomeOperandIsText db scopes others → ⊥) → (HasGreatProduct db scopes (Some (NumberType left)) others → ⊥) → AreTyped db scopes left others
  typed_operands db scopes left t.NoOperand there p i v numbers fine = record { type = NumberType left; typed = refl; bound = λ next. refl }
  typed_operands db scopes left (t.Operand o e others) there p i v numbers fine =
      let right = both (same false (is_condition e)) (operands_are false others) v in
      let ps = split (IsSoundPart db scopes) (parts e) (operand_parts others) p in
      let bs = split (IsGood db) (placed_blocks_in db scopes e) (placed_operand_blocks db scopes others) i in
      let s = typed db scopes e (record { there = there; parts = ps.0; inner = bs.0 }) (negated (is_condition e) right.0) in
      let n = number_of s.type (λ k. numbers (inl (s.type, s.typed, k))) in
      let known : expr_type db scopes e ≡ Some (NumberType n.0) = s.typed ∙ ap Some n.1 in
      let j = joins db scopes o left n.0 (λ g. fine (inl (subst (λ x. IsGreat db scopes (joined_type o (Some (NumberType left)) x)) (sym known) g))) in
      let together : joined_type o (Some (NumberType left)) (expr_type db scopes e) ≡ Some (NumberType j.0) = ap (joined_type o (Some (NumberType left))) known ∙ j.1.0 in
      let rest = typed_operands db scopes j.0 others there ps.1 bs.1 right.1 (λ k. numbers (inr k)) (λ g. fine (inr (subst (λ l. HasGreatProduct db scopes l others) (sym together) g))) in
      record {
        type = rest.type;
        typed = ap (λ l. chain_type db scopes l others) together ∙ rest.typed;
        bound = λ next.
            ap (λ l. operands_type l (bound_operands db scopes (after db scopes e next) others)) (ap (type_of_two (operator_of o) (Some (NumberType left))) (s.bound next ∙ ap Some n.1) ∙ j.1.1)
            ∙ rest.bound (after db scopes e next);
      }

  pub typed_query : (db : Database) (scopes : Scopes) (query : QuerySpecification) → IsTrue (are_there scopes) → AllByRecursion (IsGood db) (block_blocks db scopes query) → (NotOneColumn db query → ⊥) → IsTypedQuery db scopes query
  typed_query db scopes (t.Specification d t.Asterisk sources w g h) there good count =
      let s = sound_block db (record { outer = scopes; block = t.Specification d t.Asterisk sources w g h }) good.0 there in
      let columns = single (all_columns (scope_of db sources)) (one _ (λ n. count (s.own, n))) in
      record { type = columns.0; typed = chosen (are_there (scope_of db sources ∷ [])) (single_type (all_columns (scope_of db sources))) columns.0 s.own columns.1.0; bound = λ next. columns.1.1 }
  typed_query db scopes (t.Specification d (t.Listed t.NoItem) sources w g h) there good count =
      let s = sound_block db (record { outer = scopes; block = t.Specification d (t.Listed t.NoItem) sources w g h }) good.0 there in absurd (count (s.own, λ n. absurd (omega (arith, n))))
  typed_query db scopes (t.Specification d (t.Listed (t.AddItem e alias t.NoItem)) sources w g h) there good count =
      let s = sound_block db (record { outer = scopes; block = t.Specification d (t.Listed (t.AddItem e alias t.NoItem)) sources w g h }) good.0 there in
      let inner = scope_of db sources ∷ scopes in
      let ps = split (IsSoundPart db inner) (parts e) (flat_map parts (condition_values h)) s.shown in
      let first = split (IsGood db) (((placed_blocks_in db inner e) ++ []) ++ condition_blocks db inner w) (condition_blocks db inner h) good.1 in
      let second = split (IsGood db) ((placed_blocks_in db inner e) ++ []) (condition_blocks db inner w) first.0 in
      let third = split (IsGood db) (placed_blocks_in db inner e) [] second.0 in
      let v = typed db inner e (record { there = s.there; parts = ps.0; inner = third.0 }) s.values.0 in
      record { type = v.type; typed = chosen (are_there (scope_of db sources ∷ [])) (expr_type db inner e) v.type s.own v.typed; bound = λ next. v.bound next }
  typed_query db scopes (t.Specification d (t.Listed (t.AddItem e alias (t.AddItem f other more))) sources w g h) there good count =
      let s = sound_block db (record { outer = scopes; block = t.Specification d (t.Listed (t.AddItem e alias (t.AddItem f other more))) sources w g h }) good.0 there in
      absurd (count (s.own, λ n. absurd (omega (arith, n))))
