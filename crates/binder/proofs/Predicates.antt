-- Predicates and subqueries: what is bound of the parts is bound of the whole, and a fault of a part is one of the whole.
use Rattle.std.proofs.Common.{◌≡◌, ◌∙◌, refl, sym, ap, ap₂, subst, inl, inr, ℕ, Bool, true, false, List, [], ◌∷◌, ◌++◌, Option, Some, length, append-nil}
use Rattle.std.specs.Prelude.{not, ◌&&◌, IsFalse}
use Rattle.definitions.specs.Refusal.{Refusal, MisplacedCondition, MixedKinds}
use Rattle.definitions.specs.Statement as t
use Rattle.definitions.specs.Statement.{Expr}
use Rattle.definitions.specs.Table.{Database}
use Rattle.definitions.specs.Value.{Numbers}
use Rattle.definitions.specs.ValueType.{ValueType, NumberType, TextType, type_kind}
use Rattle.definitions.specs.Binding.Scopes.{Scopes}
use Rattle.definitions.specs.Binding.Types.{expr_type}
use Rattle.definitions.specs.Binding.Parts.{parts, placed_blocks_in, block_blocks}
use Rattle.definitions.specs.Binding.BoundForm.{Next, after, bound_value, known_type}
use Rattle.definitions.specs.Binding.Faults.{is_condition, takes_right}
use Rattle.definitions.specs.Queries.BoundBlock as b
use Rattle.query_rules.specs.Judging.{ClauseKind, PartFaulty, mixed_kinds, wrong_operand, Refuses, Progress, next_of, Adds, BindsValue, BindsCondition, BindsColumn, BindsQuery, RefusesValue, RefusesCondition, RefusesQuery, RefusesColumn}
use Rattle.binder.proofs.Bundles.{add_node, add_both, fault_here, fault_behind, fault_left, fault_right}
use Rattle.binder.proofs.Nodes.{sound, of_only, taken, not_taken, alike, unlike, next_after, blocks_after}

module _ (db : Database) (scopes : Scopes) (place : ClauseKind) where
  -- ---- IS NULL, LIKE and NOT

  pub binds_is_null : (old new : Progress) (negated : Bool) (e : Expr) (v : b.ValueExpr) (k : ValueType) → BindsValue db scopes place old new e v k → BindsCondition db scopes place old new (t.IsNull negated e) (b.IsNull negated v)
  binds_is_null old new negated e v k h = record {
    adds = add_node db scopes place old new (t.IsNull negated e) (parts e) (placed_blocks_in db scopes e) refl (sound db scopes place (t.IsNull negated e) (record {
      fine = λ z. z;
      named = λ z. z;
      kinds = λ z. z;
      right = taken db scopes place (is_condition e) h.is_value;
      members = λ z. z;
      function = refl;
      outer = λ z. z;
      grouped = λ columns z. z;
      argument = refl;
    })) h.adds;
    bound = ap (b.IsNull negated) h.bound;
    untyped = refl;
    is_condition = refl;
  }

  pub is_null_operand : (s : Progress) (negated : Bool) (e : Expr) (r : Refusal) → RefusesValue db scopes place s e r → RefusesCondition db scopes place s (t.IsNull negated e) r
  is_null_operand s negated e r f = inl (of_only db scopes place s (t.IsNull negated e) e r f (not_taken db scopes place (is_condition e)))

  no_number : (e : Expr) → expr_type db scopes e ≡ Some TextType → (type : ValueType) × (expr_type db scopes e ≡ Some type) × (type_kind type ≡ Numbers) → ⊥
  no_number e h (TextType, k, l) = absurd cc
  no_number e h (NumberType n, k, l) = absurd (let same : Some TextType ≡ Some (NumberType n) = sym h ∙ k in cc)

  pub binds_like : (old new : Progress) (negated : Bool) (e : Expr) (pattern : List ℕ) (v : b.ValueExpr) → BindsValue db scopes place old new e v TextType → BindsCondition db scopes place old new (t.Like negated e pattern) (b.Like negated v pattern)
  binds_like old new negated e pattern v h = record {
    adds = add_node db scopes place old new (t.Like negated e pattern) (parts e) (placed_blocks_in db scopes e) refl (sound db scopes place (t.Like negated e pattern) (record {
      fine = λ z. z;
      named = λ z. z;
      kinds = no_number e h.typed;
      right = taken db scopes place (is_condition e) h.is_value;
      members = λ z. z;
      function = refl;
      outer = λ z. z;
      grouped = λ columns z. z;
      argument = refl;
    })) h.adds;
    bound = ap (λ x. b.Like negated x pattern) h.bound;
    untyped = refl;
    is_condition = refl;
  }

  pub like_operand : (s : Progress) (negated : Bool) (e : Expr) (pattern : List ℕ) (r : Refusal) → RefusesValue db scopes place s e r → RefusesCondition db scopes place s (t.Like negated e pattern) r
  like_operand s negated e pattern r f = inl (of_only db scopes place s (t.Like negated e pattern) e r f (not_taken db scopes place (is_condition e)))

  pub like_number : (old new : Progress) (negated : Bool) (e : Expr) (pattern : List ℕ) (v : b.ValueExpr) (scale : ℕ) → BindsValue db scopes place old new e v (NumberType scale) → RefusesCondition db scopes place old (t.Like negated e pattern) MixedKinds
  like_number old new negated e pattern v scale h = inl (fault_here db scopes place (length old.blocks) (t.Like negated e pattern) (parts e) (placed_blocks_in db scopes e) MixedKinds (mixed_kinds (NumberType scale, h.typed, refl)))

  pub binds_not : (old new : Progress) (e : Expr) (c : b.Condition) → BindsCondition db scopes place old new e c → BindsCondition db scopes place old new (t.Not e) (b.Not c)
  binds_not old new e c h = record {
    adds = add_node db scopes place old new (t.Not e) (parts e) (placed_blocks_in db scopes e) refl (sound db scopes place (t.Not e) (record {
      fine = λ z. z;
      named = λ z. z;
      kinds = λ z. z;
      right = h.is_condition;
      members = λ z. z;
      function = refl;
      outer = λ z. z;
      grouped = λ columns z. z;
      argument = refl;
    })) h.adds;
    bound = ap b.Not h.bound;
    untyped = refl;
    is_condition = refl;
  }

  is_wrong : (x : Bool) → x ≡ false → IsFalse x
  is_wrong false h = search
  is_wrong true h = absurd cc

  pub not_operand : (s : Progress) (e : Expr) (r : Refusal) → RefusesCondition db scopes place s e r → RefusesCondition db scopes place s (t.Not e) r
  not_operand s e r (inl f) = inl (fault_behind db scopes place (length s.blocks) (t.Not e) (parts e) (placed_blocks_in db scopes e) r f)
  not_operand s e r (inr (x, same)) =
      inl (subst (Refuses db scopes place (length s.blocks) (t.Not e ∷ parts e) (placed_blocks_in db scopes e)) (sym same)
      (fault_here db scopes place (length s.blocks) (t.Not e) (parts e) (placed_blocks_in db scopes e) MisplacedCondition (wrong_operand (is_wrong (is_condition e) x))))

  -- ---- BETWEEN

  three_taken : (x y z : Bool) → x ≡ false → y ≡ false → z ≡ false → not x && not y && not z ≡ true
  three_taken false false false h k l = refl
  three_taken true y z h k l = absurd cc
  three_taken false true z h k l = absurd cc
  three_taken false false true h k l = absurd cc

  first_of_three : (x y z : Bool) → x ≡ true → IsFalse (not x && not y && not z)
  first_of_three true y z h = search
  first_of_three false y z h = absurd cc

  second_of_three : (x y z : Bool) → y ≡ true → IsFalse (not x && not y && not z)
  second_of_three true true z h = search
  second_of_three false true z h = search
  second_of_three x false z h = absurd cc

  third_of_three : (x y z : Bool) → z ≡ true → IsFalse (not x && not y && not z)
  third_of_three true y true h = search
  third_of_three false true true h = search
  third_of_three false false true h = search
  third_of_three x y false h = absurd cc

  pub binds_between : (s0 s1 s2 s3 : Progress) (negated : Bool) (e low high : Expr) (v w x : b.ValueExpr) (k l m : ValueType) → BindsValue db scopes place s0 s1 e v k → BindsValue db scopes place s1 s2 low w l → BindsValue db scopes place s2 s3 high x m
      → type_kind k ≡ type_kind l → type_kind k ≡ type_kind m → BindsCondition db scopes place s0 s3 (t.Between negated e low high) (b.Between negated v w x)
  binds_between s0 s1 s2 s3 negated e low high v w x k l m h i j same also = record {
    adds = add_node db scopes place s0 s3 (t.Between negated e low high) (parts e ++ parts low ++ parts high) (placed_blocks_in db scopes e ++ placed_blocks_in db scopes low ++ placed_blocks_in db scopes high) refl (sound db scopes place (t.Between negated e low high) (record {
      fine = λ z. z;
      named = λ z. z;
      kinds = λ z. elim z [ inl d ↦ alike db scopes place _ _ k l h.typed i.typed same d | inr d ↦ alike db scopes place _ _ k m h.typed j.typed also d ];
      right = three_taken (is_condition e) (is_condition low) (is_condition high) h.is_value i.is_value j.is_value;
      members = λ z. z;
      function = refl;
      outer = λ z. z;
      grouped = λ columns z. z;
      argument = refl;
    })) (add_both db scopes place s0 s2 s3 (parts e ++ parts low) (parts high) (placed_blocks_in db scopes e ++ placed_blocks_in db scopes low) (placed_blocks_in db scopes high)
        (add_both db scopes place s0 s1 s2 (parts e) (parts low) (placed_blocks_in db scopes e) (placed_blocks_in db scopes low) h.adds i.adds) j.adds);
    bound =
        ap (λ a. b.Between negated a w x) h.bound
        ∙ ap₂ (b.Between negated (bound_value db scopes (next_of s0) e)) (i.bound ∙ ap (λ n. bound_value db scopes n low) (next_after db scopes place s0 s1 e h.adds))
        (j.bound ∙ ap (λ n. bound_value db scopes n high) (next_after db scopes place s1 s2 low i.adds ∙ ap (after db scopes low) (next_after db scopes place s0 s1 e h.adds)));
    untyped = refl;
    is_condition = refl;
  }

  pub between_operand : (s : Progress) (negated : Bool) (e low high : Expr) (r : Refusal) → RefusesValue db scopes place s e r → RefusesCondition db scopes place s (t.Between negated e low high) r
  between_operand s negated e low high r (inl f) =
      inl (fault_behind db scopes place (length s.blocks) (t.Between negated e low high) (parts e ++ parts low ++ parts high) (placed_blocks_in db scopes e ++ placed_blocks_in db scopes low ++ placed_blocks_in db scopes high) r
      (fault_left db scopes place (length s.blocks) (parts e ++ parts low) (parts high) (placed_blocks_in db scopes e ++ placed_blocks_in db scopes low) (placed_blocks_in db scopes high) r
      (fault_left db scopes place (length s.blocks) (parts e) (parts low) (placed_blocks_in db scopes e) (placed_blocks_in db scopes low) r f)))
  between_operand s negated e low high r (inr (x, same)) = between_wrong s negated e low high r same (first_of_three (is_condition e) (is_condition low) (is_condition high) x)
    where
      between_wrong : (s : Progress) (negated : Bool) (e low high : Expr) (r : Refusal) → r ≡ MisplacedCondition → IsFalse (takes_right (t.Between negated e low high)) → RefusesCondition db scopes place s (t.Between negated e low high) r
      between_wrong s negated e low high r same w =
          inl (subst (Refuses db scopes place (length s.blocks) (t.Between negated e low high ∷ (parts e ++ parts low ++ parts high)) (placed_blocks_in db scopes e ++ placed_blocks_in db scopes low ++ placed_blocks_in db scopes high)) (sym same)
          (fault_here db scopes place (length s.blocks) (t.Between negated e low high) (parts e ++ parts low ++ parts high) (placed_blocks_in db scopes e ++ placed_blocks_in db scopes low ++ placed_blocks_in db scopes high) MisplacedCondition (wrong_operand w)))

  between_here : (s : Progress) (negated : Bool) (e low high : Expr) (r : Refusal) → PartFaulty db scopes place (t.Between negated e low high) r → RefusesCondition db scopes place s (t.Between negated e low high) r
  between_here s negated e low high r h = inl (fault_here db scopes place (length s.blocks) (t.Between negated e low high) (parts e ++ parts low ++ parts high) (placed_blocks_in db scopes e ++ placed_blocks_in db scopes low ++ placed_blocks_in db scopes high) r h)

  pub between_low : (old mid : Progress) (negated : Bool) (e low high : Expr) (v : b.ValueExpr) (k : ValueType) (r : Refusal) → BindsValue db scopes place old mid e v k → RefusesValue db scopes place mid low r → RefusesCondition db scopes place old (t.Between negated e low high) r
  between_low old mid negated e low high v k r h (inl f) =
      inl (fault_behind db scopes place (length old.blocks) (t.Between negated e low high) (parts e ++ parts low ++ parts high) (placed_blocks_in db scopes e ++ placed_blocks_in db scopes low ++ placed_blocks_in db scopes high) r
      (fault_left db scopes place (length old.blocks) (parts e ++ parts low) (parts high) (placed_blocks_in db scopes e ++ placed_blocks_in db scopes low) (placed_blocks_in db scopes high) r
      (fault_right db scopes place (length old.blocks) (parts e) (parts low) (placed_blocks_in db scopes e) (placed_blocks_in db scopes low) r
      (subst (λ n. Refuses db scopes place n (parts low) (placed_blocks_in db scopes low) r) (blocks_after db scopes place old mid (parts e) (placed_blocks_in db scopes e) h.adds) f))))
  between_low old mid negated e low high v k r h (inr (x, same)) =
      subst (RefusesCondition db scopes place old (t.Between negated e low high)) (sym same)
      (between_here old negated e low high MisplacedCondition (wrong_operand (second_of_three (is_condition e) (is_condition low) (is_condition high) x)))

  pub between_high : (s0 s1 s2 : Progress) (negated : Bool) (e low high : Expr) (v w : b.ValueExpr) (k l : ValueType) (r : Refusal) → BindsValue db scopes place s0 s1 e v k → BindsValue db scopes place s1 s2 low w l → RefusesValue db scopes place s2 high r
      → RefusesCondition db scopes place s0 (t.Between negated e low high) r
  between_high s0 s1 s2 negated e low high v w k l r h i (inl f) =
      let both = add_both db scopes place s0 s1 s2 (parts e) (parts low) (placed_blocks_in db scopes e) (placed_blocks_in db scopes low) h.adds i.adds in
      inl (fault_behind db scopes place (length s0.blocks) (t.Between negated e low high) (parts e ++ parts low ++ parts high) (placed_blocks_in db scopes e ++ placed_blocks_in db scopes low ++ placed_blocks_in db scopes high) r
      (fault_right db scopes place (length s0.blocks) (parts e ++ parts low) (parts high) (placed_blocks_in db scopes e ++ placed_blocks_in db scopes low) (placed_blocks_in db scopes high) r
      (subst (λ n. Refuses db scopes place n (parts high) (placed_blocks_in db scopes high) r) (blocks_after db scopes place s0 s2 (parts e ++ parts low) (placed_blocks_in db scopes e ++ placed_blocks_in db scopes low) both) f)))
  between_high s0 s1 s2 negated e low high v w k l r h i (inr (x, same)) =
      subst (RefusesCondition db scopes place s0 (t.Between negated e low high)) (sym same)
      (between_here s0 negated e low high MisplacedCondition (wrong_operand (third_of_three (is_condition e) (is_condition low) (is_condition high) x)))

  pub between_low_mixed : (s0 s1 s2 : Progress) (negated : Bool) (e low high : Expr) (v w : b.ValueExpr) (k l : ValueType) → BindsValue db scopes place s0 s1 e v k → BindsValue db scopes place s1 s2 low w l → (type_kind k ≡ type_kind l → ⊥)
      → RefusesCondition db scopes place s0 (t.Between negated e low high) MixedKinds
  between_low_mixed s0 s1 s2 negated e low high v w k l h i apart = between_here s0 negated e low high MixedKinds (mixed_kinds (inl (unlike db scopes place _ _ k l h.typed i.typed apart)))

  pub between_high_mixed : (s0 s1 s2 s3 : Progress) (negated : Bool) (e low high : Expr) (v x : b.ValueExpr) (k m : ValueType) → BindsValue db scopes place s0 s1 e v k → BindsValue db scopes place s2 s3 high x m → (type_kind k ≡ type_kind m → ⊥)
      → RefusesCondition db scopes place s0 (t.Between negated e low high) MixedKinds
  between_high_mixed s0 s1 s2 s3 negated e low high v x k m h j apart = between_here s0 negated e low high MixedKinds (mixed_kinds (inr (unlike db scopes place _ _ k m h.typed j.typed apart)))

  -- ---- subqueries

  pub binds_exists : (old new : Progress) (query : t.QuerySpecification) (number : ℕ) (only : Option ValueType) → BindsQuery db scopes place old new query number only → BindsCondition db scopes place old new (t.Exists query) (b.Exists number)
  binds_exists old new query number only h = record {
    adds = add_node db scopes place old new (t.Exists query) [] (block_blocks db scopes query) refl (sound db scopes place (t.Exists query) (record {
      fine = λ z. z;
      named = λ z. z;
      kinds = λ z. z;
      right = refl;
      members = λ z. z;
      function = refl;
      outer = λ z. z;
      grouped = λ columns z. z;
      argument = refl;
    })) h.adds;
    bound = ap b.Exists h.is;
    untyped = refl;
    is_condition = refl;
  }

  pub exists_query : (s : Progress) (query : t.QuerySpecification) (r : Refusal) → RefusesQuery db scopes place s query r → RefusesCondition db scopes place s (t.Exists query) r
  exists_query s query r f = inl (fault_behind db scopes place (length s.blocks) (t.Exists query) [] (block_blocks db scopes query) r f)

  pub binds_scalar : (old new : Progress) (query : t.QuerySpecification) (number : ℕ) (type : ValueType) → BindsColumn db scopes place old new query number type → BindsValue db scopes place old new (t.Scalar query) (b.Subquery number type) type
  binds_scalar old new query number type h = record {
    adds = add_node db scopes place old new (t.Scalar query) [] (block_blocks db scopes query) refl (sound db scopes place (t.Scalar query) (record {
      fine = λ z. z;
      named = λ z. z;
      kinds = h.one;
      right = refl;
      members = λ z. z;
      function = refl;
      outer = λ z. z;
      grouped = λ columns z. z;
      argument = refl;
    })) h.adds;
    bound = ap₂ b.Subquery h.is (sym (ap known_type h.typed));
    typed = h.typed;
    fine = h.fine;
    is_value = refl;
  }

  pub scalar_query : (s : Progress) (query : t.QuerySpecification) (r : Refusal) → RefusesColumn db scopes place s query r → RefusesValue db scopes place s (t.Scalar query) r
  scalar_query s query r (inl f) = inl (fault_behind db scopes place (length s.blocks) (t.Scalar query) [] (block_blocks db scopes query) r f)
  scalar_query s query r (inr (n, same)) =
      inl (subst (Refuses db scopes place (length s.blocks) (t.Scalar query ∷ []) (block_blocks db scopes query)) (sym same)
      (fault_here db scopes place (length s.blocks) (t.Scalar query) [] (block_blocks db scopes query) MixedKinds (mixed_kinds n)))

  -- ---- a value and a subquery

  with_query : (old mid new : Progress) (e : Expr) (query : t.QuerySpecification) (v : b.ValueExpr) (k l : ValueType) (number : ℕ) → BindsValue db scopes place old mid e v k → BindsColumn db scopes place mid new query number l
      → Adds db scopes place old new (parts e) (placed_blocks_in db scopes e ++ block_blocks db scopes query)
  with_query old mid new e query v k l number h i =
      subst (λ ps. Adds db scopes place old new ps (placed_blocks_in db scopes e ++ block_blocks db scopes query)) (append-nil (parts e)) (add_both db scopes place old mid new (parts e) [] (placed_blocks_in db scopes e) (block_blocks db scopes query) h.adds i.adds)

  query_behind : (old mid : Progress) (e : Expr) (query : t.QuerySpecification) (v : b.ValueExpr) (k : ValueType) (r : Refusal) → BindsValue db scopes place old mid e v k → RefusesQuery db scopes place mid query r
      → Refuses db scopes place (length old.blocks) (parts e) (placed_blocks_in db scopes e ++ block_blocks db scopes query) r
  query_behind old mid e query v k r h f =
      subst (λ ps. Refuses db scopes place (length old.blocks) ps (placed_blocks_in db scopes e ++ block_blocks db scopes query) r) (append-nil (parts e))
      (fault_right db scopes place (length old.blocks) (parts e) [] (placed_blocks_in db scopes e) (block_blocks db scopes query) r
      (subst (λ n. Refuses db scopes place n [] (block_blocks db scopes query) r) (blocks_after db scopes place old mid (parts e) (placed_blocks_in db scopes e) h.adds) f))

  operand_before : (s : Progress) (e : Expr) (query : t.QuerySpecification) (r : Refusal) → Refuses db scopes place (length s.blocks) (parts e) (placed_blocks_in db scopes e) r → Refuses db scopes place (length s.blocks) (parts e) (placed_blocks_in db scopes e ++ block_blocks db scopes query) r
  operand_before s e query r f =
      subst (λ ps. Refuses db scopes place (length s.blocks) ps (placed_blocks_in db scopes e ++ block_blocks db scopes query) r) (append-nil (parts e))
      (fault_left db scopes place (length s.blocks) (parts e) [] (placed_blocks_in db scopes e) (block_blocks db scopes query) r f)

  -- x IN (query) and x op ALL (query), in one
  pub data IsTest (query : t.QuerySpecification) (e : Expr) : Expr → (b.ValueExpr → ℕ → b.Condition) → Type 0 where
    in_query : (negated : Bool) → IsTest query e (t.InQuery negated e query) (b.InQuery negated)
    compare_all : (op : t.ComparisonOperator) (quantifier : t.Quantifier) → IsTest query e (t.CompareAll op quantifier e query) (b.Quantified op quantifier)

  pub binds_test : (old mid new : Progress) (whole e : Expr) (query : t.QuerySpecification) (make : b.ValueExpr → ℕ → b.Condition) (v : b.ValueExpr) (k l : ValueType) (number : ℕ) → IsTest query e whole make
      → BindsValue db scopes place old mid e v k → BindsColumn db scopes place mid new query number l → type_kind k ≡ type_kind l → BindsCondition db scopes place old new whole (make v number)
  binds_test old mid new _ e query _ v k l number (in_query negated) h i same = record {
    adds = add_node db scopes place old new (t.InQuery negated e query) (parts e) (placed_blocks_in db scopes e ++ block_blocks db scopes query) refl (sound db scopes place (t.InQuery negated e query) (record {
      fine = λ z. z;
      named = λ z. z;
      kinds = λ z. elim z [ inl n ↦ i.one n | inr d ↦ alike db scopes place _ _ k l h.typed i.typed same d ];
      right = taken db scopes place (is_condition e) h.is_value;
      members = λ z. z;
      function = refl;
      outer = λ z. z;
      grouped = λ columns z. z;
      argument = refl;
    })) (with_query old mid new e query v k l number h i);
    bound = ap₂ (b.InQuery negated) h.bound (i.is ∙ ap (λ (n : Next). n.block) (next_after db scopes place old mid e h.adds));
    untyped = refl;
    is_condition = refl;
  }
  binds_test old mid new _ e query _ v k l number (compare_all op quantifier) h i same = record {
    adds = add_node db scopes place old new (t.CompareAll op quantifier e query) (parts e) (placed_blocks_in db scopes e ++ block_blocks db scopes query) refl (sound db scopes place (t.CompareAll op quantifier e query) (record {
      fine = λ z. z;
      named = λ z. z;
      kinds = λ z. elim z [ inl n ↦ i.one n | inr d ↦ alike db scopes place _ _ k l h.typed i.typed same d ];
      right = taken db scopes place (is_condition e) h.is_value;
      members = λ z. z;
      function = refl;
      outer = λ z. z;
      grouped = λ columns z. z;
      argument = refl;
    })) (with_query old mid new e query v k l number h i);
    bound = ap₂ (b.Quantified op quantifier) h.bound (i.is ∙ ap (λ (n : Next). n.block) (next_after db scopes place old mid e h.adds));
    untyped = refl;
    is_condition = refl;
  }

  pub test_operand : (s : Progress) (whole e : Expr) (query : t.QuerySpecification) (make : b.ValueExpr → ℕ → b.Condition) (r : Refusal) → IsTest query e whole make → RefusesValue db scopes place s e r → RefusesCondition db scopes place s whole r
  test_operand s _ e query _ r (in_query negated) (inl f) = inl (fault_behind db scopes place (length s.blocks) (t.InQuery negated e query) (parts e) (placed_blocks_in db scopes e ++ block_blocks db scopes query) r (operand_before s e query r f))
  test_operand s _ e query _ r (compare_all op quantifier) (inl f) = inl (fault_behind db scopes place (length s.blocks) (t.CompareAll op quantifier e query) (parts e) (placed_blocks_in db scopes e ++ block_blocks db scopes query) r (operand_before s e query r f))
  test_operand s _ e query _ r (in_query negated) (inr (x, same)) =
      subst (RefusesCondition db scopes place s (t.InQuery negated e query)) (sym same)
      (inl (fault_here db scopes place (length s.blocks) (t.InQuery negated e query) (parts e) (placed_blocks_in db scopes e ++ block_blocks db scopes query) MisplacedCondition (wrong_operand (not_taken db scopes place (is_condition e) x))))
  test_operand s _ e query _ r (compare_all op quantifier) (inr (x, same)) =
      subst (RefusesCondition db scopes place s (t.CompareAll op quantifier e query)) (sym same)
      (inl (fault_here db scopes place (length s.blocks) (t.CompareAll op quantifier e query) (parts e) (placed_blocks_in db scopes e ++ block_blocks db scopes query) MisplacedCondition (wrong_operand (not_taken db scopes place (is_condition e) x))))

  pub test_query : (old mid : Progress) (whole e : Expr) (query : t.QuerySpecification) (make : b.ValueExpr → ℕ → b.Condition) (v : b.ValueExpr) (k : ValueType) (r : Refusal) → IsTest query e whole make
      → BindsValue db scopes place old mid e v k → RefusesColumn db scopes place mid query r → RefusesCondition db scopes place old whole r
  test_query old mid _ e query _ v k r (in_query negated) h (inl f) = inl (fault_behind db scopes place (length old.blocks) (t.InQuery negated e query) (parts e) (placed_blocks_in db scopes e ++ block_blocks db scopes query) r (query_behind old mid e query v k r h f))
  test_query old mid _ e query _ v k r (compare_all op quantifier) h (inl f) = inl (fault_behind db scopes place (length old.blocks) (t.CompareAll op quantifier e query) (parts e) (placed_blocks_in db scopes e ++ block_blocks db scopes query) r (query_behind old mid e query v k r h f))
  test_query old mid _ e query _ v k r (in_query negated) h (inr (n, same)) =
      subst (RefusesCondition db scopes place old (t.InQuery negated e query)) (sym same)
      (inl (fault_here db scopes place (length old.blocks) (t.InQuery negated e query) (parts e) (placed_blocks_in db scopes e ++ block_blocks db scopes query) MixedKinds (mixed_kinds (inl n))))
  test_query old mid _ e query _ v k r (compare_all op quantifier) h (inr (n, same)) =
      subst (RefusesCondition db scopes place old (t.CompareAll op quantifier e query)) (sym same)
      (inl (fault_here db scopes place (length old.blocks) (t.CompareAll op quantifier e query) (parts e) (placed_blocks_in db scopes e ++ block_blocks db scopes query) MixedKinds (mixed_kinds (inl n))))

  pub test_mixed : (old mid new : Progress) (whole e : Expr) (query : t.QuerySpecification) (make : b.ValueExpr → ℕ → b.Condition) (v : b.ValueExpr) (k l : ValueType) (number : ℕ) → IsTest query e whole make
      → BindsValue db scopes place old mid e v k → BindsColumn db scopes place mid new query number l → (type_kind k ≡ type_kind l → ⊥) → RefusesCondition db scopes place old whole MixedKinds
  test_mixed old mid new _ e query _ v k l number (in_query negated) h i apart =
      inl (fault_here db scopes place (length old.blocks) (t.InQuery negated e query) (parts e) (placed_blocks_in db scopes e ++ block_blocks db scopes query) MixedKinds (mixed_kinds (inr (unlike db scopes place _ _ k l h.typed i.typed apart))))
  test_mixed old mid new _ e query _ v k l number (compare_all op quantifier) h i apart =
      inl (fault_here db scopes place (length old.blocks) (t.CompareAll op quantifier e query) (parts e) (placed_blocks_in db scopes e ++ block_blocks db scopes query) MixedKinds (mixed_kinds (inr (unlike db scopes place _ _ k l h.typed i.typed apart))))
