-- Expressions made of other expressions: what is bound of the parts is bound of the whole, and a fault of a part is one of the whole.
use Rattle.std.proofs.Common.{◌≡◌, ◌∙◌, refl, sym, ap, ap₂, subst, inl, inr, ℕ, ◌+◌, ◌<◌, ◌≤◌, Bool, true, false, List, [], ◌∷◌, ◌++◌, Option, Some, length, map, filter, arith}
use Rattle.std.specs.Prelude.{not, ◌&&◌, IsTrue, IsFalse}
use Rattle.definitions.specs.Limits.{most_blocks}
use Rattle.definitions.specs.Refusal.{Refusal, MisplacedCondition, MixedKinds}
use Rattle.definitions.specs.Statement as t
use Rattle.definitions.specs.Statement.{Expr}
use Rattle.definitions.specs.Table.{Database}
use Rattle.definitions.specs.Value.{Texts}
use Rattle.definitions.specs.ValueType.{ValueType, NumberType, TextType, type_kind}
use Rattle.definitions.specs.Plans.Order.{BlockColumn}
use Rattle.definitions.specs.Binding.Scopes.{Scopes}
use Rattle.definitions.specs.Binding.Types.{expr_type}
use Rattle.definitions.specs.Binding.Parts.{PlacedBlock, is_function, parts, placed_blocks_in}
use Rattle.definitions.specs.Binding.BoundForm.{Next, after, bound_value, bound_function}
use Rattle.definitions.specs.Binding.Faults.{Differ, IsTooFine, NamesNoColumn, MixesKinds, takes_right, is_condition, HasManyMembers, IsOuterColumn, argument_parts}
use Rattle.definitions.specs.Queries.BoundBlock as b
use Rattle.query_rules.specs.Judging.{ClauseKind, IsUngroupedIn, PartFaulty, too_fine, no_column, mixed_kinds, wrong_operand, many_members, misplaced_function, outer_column, ungrouped, Refuses, many, Progress, next_of, Adds, BindsValue, BindsCondition, RefusesValue, RefusesCondition}
use Rattle.query_rules.specs.Leaves.{BindsLeaf}
use Rattle.binder.proofs.Bundles.{IsSoundPart, add_node, add_none, add_both, fault_here, fault_behind, fault_left, fault_right, as_many_blocks, length_of_both}

module _ (db : Database) (scopes : Scopes) (place : ClauseKind) where
  -- a part that is neither a column, nor a numeral, nor a set function: what can still be wrong with it
  pub record IsFaultless (e : Expr) : Type 0 where
    pub fine : IsTooFine db scopes e → ⊥
    pub named : NamesNoColumn db scopes e → ⊥
    pub kinds : MixesKinds db scopes e → ⊥
    pub right : takes_right e ≡ true
    pub members : HasManyMembers e → ⊥
    pub function : is_function e ≡ false
    pub outer : IsOuterColumn scopes e → ⊥
    pub grouped : (columns : List BlockColumn) → IsUngroupedIn db scopes columns e → ⊥
    pub argument : argument_parts e ≡ []

  faultless : (e : Expr) → IsFaultless e → (r : Refusal) → PartFaulty db scopes place e r → ⊥
  faultless e h _ (too_fine x) = h.fine x
  faultless e h _ (no_column x) = h.named x
  faultless e h _ (mixed_kinds x) = h.kinds x
  faultless e h _ (wrong_operand x) = differ (takes_right e) h.right x
    where
      differ : (b : Bool) → b ≡ true → IsFalse b → ⊥
      differ true k l = absurd cc
      differ false k l = absurd cc
  faultless e h _ (many_members x) = h.members x
  faultless e h _ (misplaced_function p x) = differ (is_function e) h.function x
    where
      differ : (b : Bool) → b ≡ false → IsTrue b → ⊥
      differ true k l = absurd cc
      differ false k l = absurd cc
  faultless e h _ (outer_column p x) = h.outer x
  faultless e h _ (ungrouped columns p x) = h.grouped columns x

  pub sound : (e : Expr) → IsFaultless e → IsSoundPart db scopes place e
  sound e h = record { itself = faultless e h; argument = h.argument }

  -- ---- as many blocks as there may be

  pub few_after : (old new : Progress) (ps : List Expr) (bs : List PlacedBlock) → Adds db scopes place old new ps bs → length new.blocks ≤ most_blocks
  few_after old new ps bs h =
      let same : length new.blocks ≡ length old.blocks + length bs = ap length h.blocks ∙ length_of_both old.blocks _ ∙ ap (λ n. length old.blocks + n) (as_many_blocks db scopes place (length old.blocks) bs) in
      rw same (fewer (length old.blocks + length bs) (λ m. h.clean _ (many m)))
    where
      fewer : (n : ℕ) → (most_blocks < n → ⊥) → n ≤ most_blocks
      fewer n h = omega (arith, h)

  -- ---- leaves

  leaf_adds : (s : Progress) (e : Expr) → length s.blocks ≤ most_blocks → is_function e ≡ false → argument_parts e ≡ [] → ((r : Refusal) → PartFaulty db scopes place e r → ⊥) → Adds db scopes place s s (e ∷ []) []
  leaf_adds s e few f a h = add_node db scopes place s s e [] [] f (record { itself = h; argument = a }) (add_none db scopes place s few)

  pub binds_column : (s : Progress) (reference : t.ColumnReference) (v : b.ValueExpr) (type : ValueType) → length s.blocks ≤ most_blocks → BindsLeaf db scopes place (t.Column reference) v type → BindsValue db scopes place s s (t.Column reference) v type
  binds_column s reference v type few l = record { adds = leaf_adds s (t.Column reference) few refl refl l.sound; bound = l.bound (next_of s); typed = l.typed; fine = l.fine; is_value = refl }

  pub binds_numeral : (s : Progress) (units digits scale : ℕ) (v : b.ValueExpr) (type : ValueType) → length s.blocks ≤ most_blocks → BindsLeaf db scopes place (t.Numeral units digits scale) v type → BindsValue db scopes place s s (t.Numeral units digits scale) v type
  binds_numeral s units digits scale v type few l = record { adds = leaf_adds s (t.Numeral units digits scale) few refl refl l.sound; bound = l.bound (next_of s); typed = l.typed; fine = l.fine; is_value = refl }

  pub binds_string : (s : Progress) (codes : List ℕ) (v : b.ValueExpr) (type : ValueType) → length s.blocks ≤ most_blocks → BindsLeaf db scopes place (t.String codes) v type → BindsValue db scopes place s s (t.String codes) v type
  binds_string s codes v type few l = record { adds = leaf_adds s (t.String codes) few refl refl l.sound; bound = l.bound (next_of s); typed = l.typed; fine = l.fine; is_value = refl }

  -- ---- faults of operands

  -- a fault of the first operand, and of a later one
  pub of_first : (s : Progress) (e a : Expr) (qs : List Expr) (cs : List PlacedBlock) (r : Refusal) → RefusesValue db scopes place s a r → (is_condition a ≡ true → IsFalse (takes_right e))
      → Refuses db scopes place (length s.blocks) (e ∷ (parts a ++ qs)) (placed_blocks_in db scopes a ++ cs) r
  of_first s e a qs cs r (inl f) n = fault_behind db scopes place (length s.blocks) e (parts a ++ qs) (placed_blocks_in db scopes a ++ cs) r (fault_left db scopes place (length s.blocks) (parts a) qs (placed_blocks_in db scopes a) cs r f)
  of_first s e a qs cs r (inr (c, same)) n = subst (Refuses db scopes place (length s.blocks) (e ∷ (parts a ++ qs)) (placed_blocks_in db scopes a ++ cs)) (sym same) (fault_here db scopes place (length s.blocks) e (parts a ++ qs) (placed_blocks_in db scopes a ++ cs) MisplacedCondition (wrong_operand (n c)))

  pub of_only : (s : Progress) (e a : Expr) (r : Refusal) → RefusesValue db scopes place s a r → (is_condition a ≡ true → IsFalse (takes_right e)) → Refuses db scopes place (length s.blocks) (e ∷ parts a) (placed_blocks_in db scopes a) r
  of_only s e a r (inl f) n = fault_behind db scopes place (length s.blocks) e (parts a) (placed_blocks_in db scopes a) r f
  of_only s e a r (inr (c, same)) n = subst (Refuses db scopes place (length s.blocks) (e ∷ parts a) (placed_blocks_in db scopes a)) (sym same) (fault_here db scopes place (length s.blocks) e (parts a) (placed_blocks_in db scopes a) MisplacedCondition (wrong_operand (n c)))

  -- ---- a sign

  pub taken : (b : Bool) → b ≡ false → not b ≡ true
  taken true h = absurd cc
  taken false h = refl

  pub not_taken : (b : Bool) → b ≡ true → IsFalse (not b)
  not_taken true h = search
  not_taken false h = absurd cc

  pub no_text : (e : Expr) (scale : ℕ) → expr_type db scopes e ≡ Some (NumberType scale) → (type : ValueType) × (expr_type db scopes e ≡ Some type) × (type_kind type ≡ Texts) → ⊥
  no_text e scale h (NumberType n, k, l) = absurd cc
  no_text e scale h (TextType, k, l) = absurd (let same : Some (NumberType scale) ≡ Some TextType = sym h ∙ k in cc)

  pub binds_signed : (old new : Progress) (minus : Bool) (e : Expr) (v : b.ValueExpr) (scale : ℕ) → BindsValue db scopes place old new e v (NumberType scale) → BindsValue db scopes place old new (t.Signed minus e) (b.Signed minus v) (NumberType scale)
  binds_signed old new minus e v scale h = record {
    adds = add_node db scopes place old new (t.Signed minus e) (parts e) (placed_blocks_in db scopes e) refl (sound (t.Signed minus e) (record {
      fine = λ x. x;
      named = λ x. x;
      kinds = no_text e scale h.typed;
      right = taken (is_condition e) h.is_value;
      members = λ x. x;
      function = refl;
      outer = λ x. x;
      grouped = λ columns x. x;
      argument = refl;
    })) h.adds;
    bound = ap (b.Signed minus) h.bound;
    typed = h.typed;
    fine = h.fine;
    is_value = refl;
  }

  pub signed_operand : (s : Progress) (minus : Bool) (e : Expr) (r : Refusal) → RefusesValue db scopes place s e r → RefusesValue db scopes place s (t.Signed minus e) r
  signed_operand s minus e r f = inl (of_only s (t.Signed minus e) e r f (not_taken (is_condition e)))

  pub signed_text : (old new : Progress) (minus : Bool) (e : Expr) (v : b.ValueExpr) → BindsValue db scopes place old new e v TextType → RefusesValue db scopes place old (t.Signed minus e) MixedKinds
  signed_text old new minus e v h = inl (fault_here db scopes place (length old.blocks) (t.Signed minus e) (parts e) (placed_blocks_in db scopes e) MixedKinds (mixed_kinds (TextType, h.typed, refl)))

  -- ---- two operands

  -- what is bound next behind an expression
  pub next_after : (old mid : Progress) (a : Expr) → Adds db scopes place old mid (parts a) (placed_blocks_in db scopes a) → next_of mid ≡ after db scopes a (next_of old)
  next_after old mid a h =
      ap₂ next (ap length h.blocks ∙ length_of_both old.blocks _ ∙ ap (λ n. length old.blocks + n) (as_many_blocks db scopes place (length old.blocks) (placed_blocks_in db scopes a)))
      (ap length h.functions ∙ length_of_both old.functions _ ∙ ap (λ n. length old.functions + n) (as_many (filter is_function (parts a))))
    where
      next : ℕ → ℕ → Next
      next block function = record { block = block; function = function }

      as_many : (xs : List Expr) → length (map (bound_function db scopes) xs) ≡ length xs
      as_many [] = refl
      as_many (x ∷ xs) = let h = as_many xs in omega (arith, h)

  -- as many blocks as before, and those of an expression
  pub blocks_after : (old mid : Progress) (ps : List Expr) (bs : List PlacedBlock) → Adds db scopes place old mid ps bs → length mid.blocks ≡ length old.blocks + length bs
  blocks_after old mid ps bs h = ap length h.blocks ∙ length_of_both old.blocks _ ∙ ap (λ n. length old.blocks + n) (as_many_blocks db scopes place (length old.blocks) bs)

  pub of_second : (old mid : Progress) (e a c : Expr) (r : Refusal) → Adds db scopes place old mid (parts a) (placed_blocks_in db scopes a) → RefusesValue db scopes place mid c r → (is_condition c ≡ true → IsFalse (takes_right e))
      → Refuses db scopes place (length old.blocks) (e ∷ (parts a ++ parts c)) (placed_blocks_in db scopes a ++ placed_blocks_in db scopes c) r
  of_second old mid e a c r h (inl f) n =
      fault_behind db scopes place (length old.blocks) e (parts a ++ parts c) (placed_blocks_in db scopes a ++ placed_blocks_in db scopes c) r
      (fault_right db scopes place (length old.blocks) (parts a) (parts c) (placed_blocks_in db scopes a) (placed_blocks_in db scopes c) r
      (subst (λ k. Refuses db scopes place k (parts c) (placed_blocks_in db scopes c) r) (blocks_after old mid (parts a) (placed_blocks_in db scopes a) h) f))
  of_second old mid e a c r h (inr (x, same)) n =
      subst (Refuses db scopes place (length old.blocks) (e ∷ (parts a ++ parts c)) (placed_blocks_in db scopes a ++ placed_blocks_in db scopes c)) (sym same)
      (fault_here db scopes place (length old.blocks) e (parts a ++ parts c) (placed_blocks_in db scopes a ++ placed_blocks_in db scopes c) MisplacedCondition (wrong_operand (n x)))

  pub both_taken : (x y : Bool) → x ≡ false → y ≡ false → not x && not y ≡ true
  both_taken false false h k = refl
  both_taken true y h k = absurd cc
  both_taken false true h k = absurd cc

  pub first_not_taken : (x y : Bool) → x ≡ true → IsFalse (not x && not y)
  first_not_taken true y h = search
  first_not_taken false y h = absurd cc

  pub second_not_taken : (x y : Bool) → y ≡ true → IsFalse (not x && not y)
  second_not_taken true true h = search
  second_not_taken false true h = search
  second_not_taken x false h = absurd cc

  pub alike : (o p : Option ValueType) (t u : ValueType) → o ≡ Some t → p ≡ Some u → type_kind t ≡ type_kind u → Differ o p → ⊥
  alike o p t u h k same d = (rw (h, k) at d) same

  pub unlike : (o p : Option ValueType) (t u : ValueType) → o ≡ Some t → p ≡ Some u → (type_kind t ≡ type_kind u → ⊥) → Differ o p
  unlike o p t u h k apart = rw (h, k) apart

  pub binds_compare : (old mid new : Progress) (op : t.ComparisonOperator) (x y : Expr) (v w : b.ValueExpr) (k l : ValueType) → BindsValue db scopes place old mid x v k → BindsValue db scopes place mid new y w l → type_kind k ≡ type_kind l
      → BindsCondition db scopes place old new (t.Compare op x y) (b.Compare op v w)
  binds_compare old mid new op x y v w k l h m same = record {
    adds = add_node db scopes place old new (t.Compare op x y) (parts x ++ parts y) (placed_blocks_in db scopes x ++ placed_blocks_in db scopes y) refl (sound (t.Compare op x y) (record {
      fine = λ z. z;
      named = λ z. z;
      kinds = alike _ _ k l h.typed m.typed same;
      right = both_taken (is_condition x) (is_condition y) h.is_value m.is_value;
      members = λ z. z;
      function = refl;
      outer = λ z. z;
      grouped = λ columns z. z;
      argument = refl;
    })) (add_both db scopes place old mid new (parts x) (parts y) (placed_blocks_in db scopes x) (placed_blocks_in db scopes y) h.adds m.adds);
    bound = ap₂ (b.Compare op) h.bound (m.bound ∙ ap (λ n. bound_value db scopes n y) (next_after old mid x h.adds));
    untyped = refl;
    is_condition = refl;
  }

  pub compare_left : (s : Progress) (op : t.ComparisonOperator) (x y : Expr) (r : Refusal) → RefusesValue db scopes place s x r → RefusesCondition db scopes place s (t.Compare op x y) r
  compare_left s op x y r f = inl (of_first s (t.Compare op x y) x (parts y) (placed_blocks_in db scopes y) r f (first_not_taken (is_condition x) (is_condition y)))

  pub compare_right : (old mid : Progress) (op : t.ComparisonOperator) (x y : Expr) (v : b.ValueExpr) (k : ValueType) (r : Refusal) → BindsValue db scopes place old mid x v k → RefusesValue db scopes place mid y r → RefusesCondition db scopes place old (t.Compare op x y) r
  compare_right old mid op x y v k r h f = inl (of_second old mid (t.Compare op x y) x y r h.adds f (second_not_taken (is_condition x) (is_condition y)))

  pub compare_mixed : (old mid new : Progress) (op : t.ComparisonOperator) (x y : Expr) (v w : b.ValueExpr) (k l : ValueType) → BindsValue db scopes place old mid x v k → BindsValue db scopes place mid new y w l → (type_kind k ≡ type_kind l → ⊥)
      → RefusesCondition db scopes place old (t.Compare op x y) MixedKinds
  compare_mixed old mid new op x y v w k l h m apart =
      inl (fault_here db scopes place (length old.blocks) (t.Compare op x y) (parts x ++ parts y) (placed_blocks_in db scopes x ++ placed_blocks_in db scopes y) MixedKinds (mixed_kinds (unlike _ _ k l h.typed m.typed apart)))
