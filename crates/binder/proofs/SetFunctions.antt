-- Set functions.
use Rattle.std.proofs.Common.{◌≡◌, ◌∙◌, refl, sym, ap, subst, inl, inr, ℕ, ◌≤◌, Bool, true, false, List, [], ◌∷◌, ◌++◌, Some, length, arith, append-nil}
use Rattle.std.specs.Prelude.{not, ◌≢◌, IsTrue, IsFalse}
use Rattle.definitions.specs.Lists.{AnyOf}
use Rattle.definitions.specs.Limits.{most_blocks}
use Rattle.definitions.specs.Refusal.{Refusal, MisplacedCondition, MisplacedFunction, MixedKinds}
use Rattle.definitions.specs.Statement as t
use Rattle.definitions.specs.Statement.{Expr}
use Rattle.definitions.specs.Table.{Database}
use Rattle.definitions.specs.Value.{Numbers, Texts}
use Rattle.definitions.specs.ValueType.{ValueType, NumberType, TextType, type_kind}
use Rattle.definitions.specs.Binding.Scopes.{Scopes}
use Rattle.definitions.specs.Binding.Types.{expr_type, function_type}
use Rattle.definitions.specs.Binding.Parts.{PlacedBlock, parts, placed_blocks_in}
use Rattle.definitions.specs.Binding.BoundForm.{bound_blocks, known_type}
use Rattle.definitions.specs.Binding.Faults.{is_condition, argument_parts}
use Rattle.definitions.specs.Binding.Faults as faults
use Rattle.definitions.specs.Queries.BoundBlock as b
use Rattle.definitions.specs.Queries.BoundBlock.{Aggregate}
use Rattle.query_rules.specs.Judging.{ClauseKind, InWhere, InShown, InArgument, is_where, takes_functions, PartFaulty, too_fine, no_column, mixed_kinds, wrong_operand, many_members, misplaced_function, outer_column, ungrouped, part, argument, inner, misplaced, many, IsClean, Progress, BindsValue, RefusesValue, IsFine}
use Rattle.query_rules.specs.Leaves.{WantsNumbers}
use Rattle.binder.proofs.Bundles.{any_left, fault_here}

abbrev pub nothing_bound : Progress
nothing_bound = record { blocks = []; functions = [] }

abbrev pub with_function : Progress → Aggregate → Progress
with_function s f = record { blocks = s.blocks; functions = s.functions ++ f ∷ [] }

module _ (db : Database) (scopes : Scopes) (place : ClauseKind) where
  -- ---- a function is bound: of rows, and of an argument

  is_refused : (x : Bool) → IsTrue x → IsFalse x → ⊥
  is_refused true h k = absurd cc
  is_refused false h k = absurd cc

  rows_sound : IsTrue (takes_functions place) → (r : Refusal) → PartFaulty db scopes place t.CountRows r → ⊥
  rows_sound p _ (too_fine x) = x
  rows_sound p _ (no_column x) = x
  rows_sound p _ (mixed_kinds x) = x
  rows_sound p _ (wrong_operand x) = absurd cc
  rows_sound p _ (many_members x) = x
  rows_sound p _ (misplaced_function q x) = is_refused (takes_functions place) p q
  rows_sound p _ (outer_column q x) = x
  rows_sound p _ (ungrouped columns q x) = x

  no_fault : (count : ℕ) (e : Expr) → count ≤ most_blocks → ((r : Refusal) → PartFaulty db scopes place e r → ⊥) → ((r : Refusal) → AnyOf (λ p. PartFaulty db scopes InArgument p r) (argument_parts e ++ []) → ⊥) → IsClean db scopes place count (e ∷ []) []
  no_fault count e few h k _ (part r (inl x)) = h r x
  no_fault count e few h k _ (part r (inr x)) = absurd x
  no_fault count e few h k _ (argument r p x) = k r x
  no_fault count e few h k _ (inner r x) = absurd x
  no_fault count e few h k r (misplaced p n) = n refl
  no_fault count e few h k r (many m) = absurd (omega (arith, m, few))

  pub binds_count_rows : (s : Progress) → length s.blocks ≤ most_blocks → IsTrue (takes_functions place) → BindsValue db scopes place s (with_function s b.CountRows) t.CountRows (b.AggregateValue (length s.functions) (NumberType 0)) (NumberType 0)
  binds_count_rows s few p = record {
    adds = record { blocks = sym (append-nil s.blocks); functions = refl; clean = no_fault (length s.blocks) t.CountRows few (rows_sound p) (λ r x. x) };
    bound = refl;
    typed = refl;
    fine = omega (arith);
    is_value = refl;
  }

  pub count_rows_misplaced : (s : Progress) → IsFalse (takes_functions place) → RefusesValue db scopes place s t.CountRows MisplacedFunction
  count_rows_misplaced s p = inl (fault_here db scopes place (length s.blocks) t.CountRows [] [] MisplacedFunction (misplaced_function p search))

  -- ---- of an argument

  function_sound : (function : t.SetFunction) (distinct : Bool) (e : Expr) (k : ValueType) → IsTrue (takes_functions place) → is_condition e ≡ false → expr_type db scopes e ≡ Some k → (WantsNumbers function → type_kind k ≡ Numbers)
      → (r : Refusal) → PartFaulty db scopes place (t.Function function distinct e) r → ⊥
  function_sound function distinct e k p c typed numbers _ (too_fine x) = x
  function_sound function distinct e k p c typed numbers _ (no_column x) = x
  function_sound function distinct e k p c typed numbers _ (mixed_kinds (w, (type, same, kind))) = apart function k type (numbers (wanted function w)) (sym typed ∙ same) kind
    where
      wanted : (function : t.SetFunction) → faults.WantsNumbers db scopes function → WantsNumbers function
      wanted t.Sum w = tt
      wanted t.Avg w = tt
      wanted t.Count w = w
      wanted t.Min w = w
      wanted t.Max w = w

      apart : (function : t.SetFunction) (k type : ValueType) → type_kind k ≡ Numbers → Some k ≡ Some type → type_kind type ≡ Texts → ⊥
      apart function k (NumberType n) h e x = absurd cc
      apart function (NumberType n) TextType h e x = absurd cc
      apart function TextType TextType h e x = absurd cc
  function_sound function distinct e k p c typed numbers _ (wrong_operand x) = wrong (is_condition e) c x
    where
      wrong : (x : Bool) → x ≡ false → IsFalse (not x) → ⊥
      wrong false h k = absurd cc
      wrong true h k = absurd cc
  function_sound function distinct e k p c typed numbers _ (many_members x) = x
  function_sound function distinct e k p c typed numbers _ (misplaced_function q x) = is_refused (takes_functions place) p q
  function_sound function distinct e k p c typed numbers _ (outer_column q x) = x
  function_sound function distinct e k p c typed numbers _ (ungrouped columns q x) = x

  -- no block stands in an argument
  none_inside : (count : ℕ) (ps : List Expr) (bs : List PlacedBlock) → IsClean db scopes InArgument count ps bs → bs ≡ []
  none_inside count ps [] h = refl
  none_inside count ps (p ∷ bs) h = absurd (h _ (misplaced refl (some p bs)))
    where
      some : (p : PlacedBlock) (bs : List PlacedBlock) → p ∷ bs ≢ []
      some p bs e = absurd cc

  pub binds_function : (s inside : Progress) (function : t.SetFunction) (distinct : Bool) (e : Expr) (v : b.ValueExpr) (k type : ValueType) → length s.blocks ≤ most_blocks → IsTrue (takes_functions place)
      → BindsValue db scopes InArgument nothing_bound inside e v k → (WantsNumbers function → type_kind k ≡ Numbers) → function_type function (Some k) ≡ Some type → IsFine type
      → BindsValue db scopes place s (with_function s (b.OfValues function distinct v)) (t.Function function distinct e) (b.AggregateValue (length s.functions) type) type
  binds_function s inside function distinct e v k type few p h numbers typed fine =
      let none = none_inside 0 (parts e) (placed_blocks_in db scopes e) h.adds.clean in
      let known : function_type function (expr_type db scopes e) ≡ Some type = ap (function_type function) h.typed ∙ typed in
      record {
        adds = record {
          blocks = sym (append-nil s.blocks) ∙ ap (λ bs. s.blocks ++ bound_blocks db (length s.blocks) bs []) (sym none);
          functions = ap (λ x. s.functions ++ b.OfValues function distinct x ∷ []) h.bound;
          clean = subst (IsClean db scopes place (length s.blocks) (t.Function function distinct e ∷ [])) (sym none)
              (no_fault (length s.blocks) (t.Function function distinct e) few (function_sound function distinct e k p h.is_value h.typed numbers) (λ r x. h.adds.clean r (part r (subst (AnyOf (λ q. PartFaulty db scopes InArgument q r)) (append-nil (parts e)) x))));
        };
        bound = ap (b.AggregateValue (length s.functions)) (sym (ap known_type known));
        typed = known;
        fine = fine;
        is_value = refl;
      }

  pub function_misplaced : (s : Progress) (function : t.SetFunction) (distinct : Bool) (e : Expr) → IsFalse (takes_functions place) → RefusesValue db scopes place s (t.Function function distinct e) MisplacedFunction
  function_misplaced s function distinct e p = inl (fault_here db scopes place (length s.blocks) (t.Function function distinct e) [] (placed_blocks_in db scopes e) MisplacedFunction (misplaced_function p search))

  shown_is_not_where : (p : ClauseKind) → IsTrue (takes_functions p) → IsFalse (is_where p)
  shown_is_not_where p h = not_where p h
    where
      not_where : (p : ClauseKind) → IsTrue (takes_functions p) → IsFalse (is_where p)
      not_where InWhere h = absurd cc
      not_where (InShown grouped columns) h = search
      not_where InArgument h = search

  wrong_argument : (x : Bool) → x ≡ true → IsFalse (not x)
  wrong_argument true h = search
  wrong_argument false h = absurd cc

  pub function_argument : (s : Progress) (function : t.SetFunction) (distinct : Bool) (e : Expr) (r : Refusal) → IsTrue (takes_functions place) → RefusesValue db scopes InArgument nothing_bound e r → RefusesValue db scopes place s (t.Function function distinct e) r
  function_argument s function distinct e _ p (inl (part r x)) = inl (argument r p (any_left (λ q. PartFaulty db scopes InArgument q r) (parts e) [] x))
  function_argument s function distinct e _ p (inl (argument r q x)) = absurd (is_refused false q refl)
  function_argument s function distinct e _ p (inl (inner r x)) = inl (inner r x)
  function_argument s function distinct e r p (inl (misplaced q n)) = inl (misplaced (shown_is_not_where place p) n)
  function_argument s function distinct e r p (inl (many h)) = inl (many (omega (arith, h)))
  function_argument s function distinct e r p (inr (c, same)) =
      subst (RefusesValue db scopes place s (t.Function function distinct e)) (sym same)
      (inl (fault_here db scopes place (length s.blocks) (t.Function function distinct e) [] (placed_blocks_in db scopes e) MisplacedCondition (wrong_operand (wrong_argument (is_condition e) c))))

  pub function_of_text : (s inside : Progress) (function : t.SetFunction) (distinct : Bool) (e : Expr) (v : b.ValueExpr) → WantsNumbers function → BindsValue db scopes InArgument nothing_bound inside e v TextType → RefusesValue db scopes place s (t.Function function distinct e) MixedKinds
  function_of_text s inside function distinct e v w h =
      inl (fault_here db scopes place (length s.blocks) (t.Function function distinct e) [] (placed_blocks_in db scopes e) MixedKinds (mixed_kinds (wanted function w, (TextType, h.typed, refl))))
    where
      wanted : (function : t.SetFunction) → WantsNumbers function → faults.WantsNumbers db scopes function
      wanted t.Sum w = tt
      wanted t.Avg w = tt
      wanted t.Count w = w
      wanted t.Min w = w
      wanted t.Max w = w
