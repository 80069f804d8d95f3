-- What a condition says of columns tells the share that it leaves.
use Rattle.std.proofs.Common.{◌≡◌, ◌∙◌, refl, sym, ap, ap₂, subst, ◌⊎◌, inl, inr, ℕ, Bool, List, [], ◌∷◌, ◌++◌, Option, Some, None}
use Rattle.std.specs.Prelude.{ℤ, option_map}
use Rattle.definitions.specs.Table.{Database}
use Rattle.definitions.specs.Value.{Number, scale_of}
use Rattle.definitions.specs.Statement.{ComparisonOperator, Equals, NotEquals, LessThan, GreaterThan, LessOrEquals, GreaterOrEquals}
use Rattle.definitions.specs.Plans.Order.{BlockColumn}
use Rattle.definitions.specs.Queries.BoundBlock.{Block, ValueExpr, Column, Parameter, Numeral, String, Signed, Chain, AggregateValue, Subquery, Compare}
use Rattle.definitions.specs.Estimates.Fractions.{one_quarter, one_third}
use Rattle.definitions.specs.Estimates.Paths.{ColumnTerm, ByComparison, ByBounds, turned}
use Rattle.definitions.specs.Estimates.Sides.{Side, PlainColumn, KnownNumber, OtherValue, column_of, side_of, signed_side}
use Rattle.definitions.specs.Estimates.Selectivity.{between_share, comparison_share, equal_share, greater_of, greater_share, keys_of, one_key}
use Rattle.sqlvalue.specs.Meaning.{op_of}
use Rattle.sqlvalue.specs.declared.op.ComparisonOperator.{ComparisonOperator as Code}
use Rattle.sqlvalue.specs.declared.op.ComparisonOperator.TheVariants as code
use Rattle.predicates.specs.Known.{number_in}
use Rattle.predicates.specs.Terms.{SidedTerm, column_scale, first_of, listed, side_term, terms_of}
use Rattle.estimate.specs.Inequalities.{IsInequality}
use Rattle.estimate.proofs.Known.{by_columns, column_in, equal_by_columns}

-- ---- a side and the column that it is

signed_none : (minus : Bool) (s : Side) → column_in (signed_side minus s) ≡ None
signed_none minus (PlainColumn column scale) = refl
signed_none minus (KnownNumber units scale) = refl
signed_none minus OtherValue = refl

pub column_is : (e : ValueExpr) → column_in (side_of e) ≡ column_of e
column_is (Column column type) = refl
column_is (Parameter between column type) = refl
column_is (Numeral units digits scale) = refl
column_is (String codes) = refl
column_is (Signed minus e) = signed_none minus (side_of e)
column_is (Chain first others) = refl
column_is (AggregateValue number type) = refl
column_is (Subquery block type) = refl

some_same : {X : Type 0} {x y : X} → Some x ≡ Some y → x ≡ y
some_same e = cc

-- where it is a column, it is one with a scale
pub plain : (e : ValueExpr) (column : BlockColumn) → column_of e ≡ Some column → side_of e ≡ PlainColumn column (column_scale e)
plain (Column column type) c is = ap (λ x. PlainColumn x (scale_of type)) (some_same is)
plain (Parameter between column type) c is = absurd cc
plain (Numeral units digits scale) c is = absurd cc
plain (String codes) c is = absurd cc
plain (Signed minus e) c is = absurd cc
plain (Chain first others) c is = absurd cc
plain (AggregateValue number type) c is = absurd cc
plain (Subquery block type) c is = absurd cc

-- a term is of a column, and says what is said
pub record IsSaid (e : ValueExpr) (t : ColumnTerm) (s : SidedTerm) : Type 0 where
  pub side : side_of e ≡ PlainColumn s.column s.scale
  pub term : s.term ≡ t

pub is_said : (e : ValueExpr) (t : ColumnTerm) (s : SidedTerm) → Some s ≡ side_term e t → IsSaid e t s
is_said e t s is = of_column (column_of e) refl is
  where
    of_column : (o : Option BlockColumn) → column_of e ≡ o → Some s ≡ option_map (λ column. record { column = column; scale = column_scale e; term = t }) o → IsSaid e t s
    of_column None at is' = absurd cc
    of_column (Some column) at is' =
        let same : s ≡ record { column = column; scale = column_scale e; term = t } = some_same is' in
        record { side = plain e column at ∙ sym (ap (λ (x : SidedTerm). PlainColumn x.column x.scale) same); term = ap (λ (x : SidedTerm). x.term) same }

pub not_said : (e : ValueExpr) (t : ColumnTerm) → side_term e t ≡ None → column_in (side_of e) ≡ None
not_said e t is = column_is e ∙ of_column (column_of e) is
  where
    sided : Option BlockColumn → Option SidedTerm
    sided o = option_map (λ column. record { column = column; scale = column_scale e; term = t }) o

    of_column : (o : Option BlockColumn) → sided o ≡ None → o ≡ None
    of_column None is' = refl
    of_column (Some column) is' = absurd cc

-- ---- known numbers

pub known_side : (s : Side) (units : ℤ) (scale : ℕ) → Some (Number units scale) ≡ number_in s → s ≡ KnownNumber units scale
known_side (PlainColumn column n) units scale is = absurd cc
known_side (KnownNumber v n) units scale is = let same : Number units scale ≡ Number v n = some_same is in cc
known_side OtherValue units scale is = absurd cc

-- ---- comparisons

same_operator : {op op' : ComparisonOperator} {e e' : ValueExpr} → ByComparison op e ≡ ByComparison op' e' → (op ≡ op') × (e ≡ e')
same_operator is = (cc, cc)

same_bounds : {a b a' b' : ValueExpr} → ByBounds a b ≡ ByBounds a' b' → (a ≡ a') × (b ≡ b')
same_bounds is = (cc, cc)

module _ (db : Database) (block : Block) where
  abbrev pub equal_by : List SidedTerm → ℕ
  equal_by [] = one_third
  equal_by (x ∷ []) = one_key (keys_of db block x.column)
  equal_by (x ∷ (y ∷ others)) = one_key (greater_of (keys_of db block x.column) (keys_of db block y.column))

  pub equal_is : (op : ComparisonOperator) (a b : ValueExpr) → equal_by (terms_of (Compare op a b)) ≡ equal_share db block (side_of a) (side_of b)
  equal_is op a b = of_columns (column_of a) (column_of b) ∙ sym (ap₂ (by_columns db block) (column_is a) (column_is b)) ∙ sym (equal_by_columns db block (side_of a) (side_of b))
    where
      of_columns : (x y : Option BlockColumn)
          → equal_by (listed (option_map (λ column. record { column = column; scale = column_scale a; term = ByComparison op b }) x) ++ listed (option_map (λ column. record { column = column; scale = column_scale b; term = ByComparison (turned op) a }) y))
          ≡ by_columns db block x y
      of_columns None None = refl
      of_columns None (Some y) = refl
      of_columns (Some x) None = refl
      of_columns (Some x) (Some y) = refl

  no_column : (s t : Side) → column_in s ≡ None → column_in t ≡ None → greater_share db block s t ≡ one_third
  no_column (PlainColumn column n) t a b = absurd cc
  no_column (KnownNumber v n) (PlainColumn column m) a b = absurd cc
  no_column (KnownNumber v n) (KnownNumber w m) a b = refl
  no_column (KnownNumber v n) OtherValue a b = refl
  no_column OtherValue (PlainColumn column m) a b = absurd cc
  no_column OtherValue (KnownNumber w m) a b = refl
  no_column OtherValue OtherValue a b = refl

  unsaid : (op : ComparisonOperator) (s t : Side) → IsInequality op → column_in s ≡ None → column_in t ≡ None → comparison_share db block op s t ≡ one_third
  unsaid Equals s t is a b = absurd is
  unsaid NotEquals s t is a b = absurd is
  unsaid LessThan s t is a b = no_column t s b a
  unsaid GreaterThan s t is a b = no_column s t a b
  unsaid LessOrEquals s t is a b = no_column t s b a
  unsaid GreaterOrEquals s t is a b = no_column s t a b

  turned_round : (op : ComparisonOperator) (s t : Side) → IsInequality op → IsInequality (turned op) × (comparison_share db block (turned op) t s ≡ comparison_share db block op s t)
  turned_round Equals s t is = absurd is
  turned_round NotEquals s t is = absurd is
  turned_round LessThan s t is = (tt, refl)
  turned_round GreaterThan s t is = (tt, refl)
  turned_round LessOrEquals s t is = (tt, refl)
  turned_round GreaterOrEquals s t is = (tt, refl)

  -- by the first column that is spoken of, or by none
  pub by_first : (op : ComparisonOperator) (a b : ValueExpr) (s : SidedTerm) (result : ℕ) → IsInequality op → Some s ≡ first_of (terms_of (Compare op a b))
      → ((op' : ComparisonOperator) (own other : ValueExpr) → IsInequality op' → Some s ≡ side_term own (ByComparison op' other) → result ≡ comparison_share db block op' (side_of own) (side_of other))
      → result ≡ comparison_share db block op (side_of a) (side_of b)
  by_first op a b s result ineq first is = of_sides (side_term a (ByComparison op b)) (side_term b (ByComparison (turned op) a)) refl refl first
    where
      of_sides : (x y : Option SidedTerm) → x ≡ side_term a (ByComparison op b) → y ≡ side_term b (ByComparison (turned op) a) → Some s ≡ first_of (listed x ++ listed y)
          → result ≡ comparison_share db block op (side_of a) (side_of b)
      of_sides (Some x) y h k e = is op a b ineq (e ∙ h)
      of_sides None (Some y) h k e = let round = turned_round op (side_of a) (side_of b) ineq in is (turned op) b a round.0 (e ∙ k) ∙ round.1
      of_sides None None h k e = absurd cc

  pub by_none : (op : ComparisonOperator) (a b : ValueExpr) → IsInequality op → first_of (terms_of (Compare op a b)) ≡ None → one_third ≡ comparison_share db block op (side_of a) (side_of b)
  by_none op a b ineq first = of_sides (side_term a (ByComparison op b)) (side_term b (ByComparison (turned op) a)) refl refl first
    where
      of_sides : (x y : Option SidedTerm) → x ≡ side_term a (ByComparison op b) → y ≡ side_term b (ByComparison (turned op) a) → first_of (listed x ++ listed y) ≡ None
          → one_third ≡ comparison_share db block op (side_of a) (side_of b)
      of_sides None None h k e = sym (unsaid op (side_of a) (side_of b) ineq (not_said a (ByComparison op b) (sym h)) (not_said b (ByComparison (turned op) a) (sym k)))
      of_sides (Some x) y h k e = absurd cc
      of_sides None (Some y) h k e = absurd cc

  -- ---- by a number that isn't known

  above_unknown : (column : BlockColumn) (n : ℕ) (t : Side) → number_in t ≡ None → greater_share db block (PlainColumn column n) t ≡ one_third
  above_unknown column n (PlainColumn y m) is = refl
  above_unknown column n (KnownNumber v m) is = absurd cc
  above_unknown column n OtherValue is = refl

  below_unknown : (column : BlockColumn) (n : ℕ) (t : Side) → number_in t ≡ None → greater_share db block t (PlainColumn column n) ≡ one_third
  below_unknown column n (PlainColumn y m) is = refl
  below_unknown column n (KnownNumber v m) is = absurd cc
  below_unknown column n OtherValue is = refl

  pub by_unknown : (op : ComparisonOperator) (column : BlockColumn) (n : ℕ) (t : Side) → IsInequality op → number_in t ≡ None → one_third ≡ comparison_share db block op (PlainColumn column n) t
  by_unknown Equals column n t ineq is = absurd ineq
  by_unknown NotEquals column n t ineq is = absurd ineq
  by_unknown LessThan column n t ineq is = sym (below_unknown column n t is)
  by_unknown GreaterThan column n t ineq is = sym (above_unknown column n t is)
  by_unknown LessOrEquals column n t ineq is = sym (below_unknown column n t is)
  by_unknown GreaterOrEquals column n t ineq is = sym (above_unknown column n t is)

  -- ---- ranges

  pub no_range : (s t u : Side) → column_in s ≡ None → between_share db block s t u ≡ one_third
  no_range (PlainColumn column n) t u a = absurd cc
  no_range (KnownNumber v n) t u a = refl
  no_range OtherValue t u a = refl

  pub low_unknown : (column : BlockColumn) (n : ℕ) (t u : Side) → number_in t ≡ None → between_share db block (PlainColumn column n) t u ≡ one_quarter
  low_unknown column n (PlainColumn y m) u is = refl
  low_unknown column n (KnownNumber v m) u is = absurd cc
  low_unknown column n OtherValue u is = refl

  pub high_unknown : (column : BlockColumn) (n : ℕ) (t u : Side) → number_in u ≡ None → between_share db block (PlainColumn column n) t u ≡ one_quarter
  high_unknown column n (PlainColumn y m) u is = refl
  high_unknown column n OtherValue u is = refl
  high_unknown column n (KnownNumber v m) (PlainColumn y k) is = refl
  high_unknown column n (KnownNumber v m) (KnownNumber w k) is = absurd cc
  high_unknown column n (KnownNumber v m) OtherValue is = refl

  -- ---- by a number that is known

  pub told_by : (op : ComparisonOperator) (own other : ValueExpr) (s : SidedTerm) (op' : ComparisonOperator) (value : ValueExpr) (units : ℤ) (scale : ℕ) → Some s ≡ side_term own (ByComparison op other)
      → s.term ≡ ByComparison op' value → Some (Number units scale) ≡ number_in (side_of value)
      → comparison_share db block op' (PlainColumn s.column s.scale) (KnownNumber units scale) ≡ comparison_share db block op (side_of own) (side_of other)
  told_by op own other s op' value units scale is term known =
      let said = is_said own (ByComparison op other) s is in
      let same = same_operator (sym term ∙ said.term) in
      let known' = known_side (side_of value) units scale known in
      rw (← same.0, ← same.1, said.side, known') refl

  pub told_between : (own low high : ValueExpr) (s : SidedTerm) (a b : ValueExpr) (u v : ℤ) (m n : ℕ) → Some s ≡ side_term own (ByBounds low high) → s.term ≡ ByBounds a b
      → Some (Number u m) ≡ number_in (side_of a) → Some (Number v n) ≡ number_in (side_of b)
      → between_share db block (PlainColumn s.column s.scale) (KnownNumber u m) (KnownNumber v n) ≡ between_share db block (side_of own) (side_of low) (side_of high)
  told_between own low high s a b u v m n is term known known' =
      let said = is_said own (ByBounds low high) s is in
      let same = same_bounds (sym term ∙ said.term) in
      let low' = known_side (side_of a) u m known in
      let high' = known_side (side_of b) v n known' in
      rw (← same.0, ← same.1, said.side, low', high') refl

  -- by the operator that code has
  pub told_above : (op : ComparisonOperator) (own other : ValueExpr) (s : SidedTerm) (o : Code) (value : ValueExpr) (units : ℤ) (scale : ℕ) → Some s ≡ side_term own (ByComparison op other)
      → s.term ≡ ByComparison (op_of o) value → Some (Number units scale) ≡ number_in (side_of value) → (o ≡ code.GreaterThan) ⊎ (o ≡ code.GreaterOrEquals)
      → greater_share db block (PlainColumn s.column s.scale) (KnownNumber units scale) ≡ comparison_share db block op (side_of own) (side_of other)
  told_above op own other s o value units scale is term known kind = of_kind kind ∙ told_by op own other s (op_of o) value units scale is term known
    where
      of_kind : (o ≡ code.GreaterThan) ⊎ (o ≡ code.GreaterOrEquals) → greater_share db block (PlainColumn s.column s.scale) (KnownNumber units scale) ≡ comparison_share db block (op_of o) (PlainColumn s.column s.scale) (KnownNumber units scale)
      of_kind (inl e) = rw e refl
      of_kind (inr e) = rw e refl

  below_by : (o : Code) (s t : Side) → (o ≡ code.GreaterThan → ⊥) → (o ≡ code.GreaterOrEquals → ⊥) → IsInequality (op_of o) → greater_share db block t s ≡ comparison_share db block (op_of o) s t
  below_by code.Equals s t n m is = absurd is
  below_by code.NotEquals s t n m is = absurd is
  below_by code.LessThan s t n m is = refl
  below_by code.GreaterThan s t n m is = absurd (n refl)
  below_by code.LessOrEquals s t n m is = refl
  below_by code.GreaterOrEquals s t n m is = absurd (m refl)

  pub told_below : (op : ComparisonOperator) (own other : ValueExpr) (s : SidedTerm) (o : Code) (value : ValueExpr) (units : ℤ) (scale : ℕ) → IsInequality op → Some s ≡ side_term own (ByComparison op other)
      → s.term ≡ ByComparison (op_of o) value → Some (Number units scale) ≡ number_in (side_of value) → (o ≡ code.GreaterThan → ⊥) → (o ≡ code.GreaterOrEquals → ⊥)
      → greater_share db block (KnownNumber units scale) (PlainColumn s.column s.scale) ≡ comparison_share db block op (side_of own) (side_of other)
  told_below op own other s o value units scale ineq is term known n m =
      let same = same_operator (sym term ∙ (is_said own (ByComparison op other) s is).term) in
      below_by o (PlainColumn s.column s.scale) (KnownNumber units scale) n m (subst IsInequality (sym same.0) ineq) ∙ told_by op own other s (op_of o) value units scale is term known
