-- The tables that parts name, one part after another.
use Rattle.std.proofs.Common.{◌≡◌, ◌∙◌, refl, sym, ap, ap₂, subst, ℕ, ◌+◌, ◌<◌, ◌≤◌, ◌^◌, ◌⊎◌, inl, inr, List, [], ◌∷◌, ◌++◌, length, map, get_or, drop, arith}
use Rattle.std.specs.Prelude.{bit_or, ◌==◌, ◌||◌}
use Rattle.std.specs.Int.{bit_at}
use Rattle.std.specs.Borrow.{Bor}
use Rattle.std.specs.Int.Bits.{or_zero_r}
use Rattle.std.proofs.lemmas.Bool.{cases_lt}
use Rattle.std.proofs.lemmas.List.{drop_more}
use Rattle.std.proofs.lemmas.Nat.{le_or_l, le_or_r}
use Rattle.std.proofs.lemmas.Nat.Bits.{bit_at_or, same_from_bits}
use Rattle.std.proofs.Math.Nat.{pow-le-pow_right}
use Rattle.definitions.specs.Plans.TableSet.{TableSet, Has, Lacks, only}
use Rattle.definitions.specs.Estimates.BlockTables.{has}
use Rattle.definitions.specs.Queries.BoundBlock.{ValueExpr, Operand}
use Rattle.definitions.specs.Queries.Conjuncts.{tables_named, operands_tables, tables_in}
use Rattle.definitions.proofs.PlanTheory.TableSets.{has_or_lacks}
use Rattle.query_tree.specs.Bound.{value_of, operand_of, operands, OperandTree}
use Rattle.query_tree.specs.Walks.{trees_of}
use Rattle.query_tree.specs.declared.value.ValueExpr.{ValueExpr as Value}
use Rattle.query_tree.specs.declared.value.Operand.{Operand as Operand'}
use Rattle.query_tree.proofs.Views.{of_operand}
use Rattle.predicates.specs.Naming.{AreFew}

-- ---- unions

pub or_assoc : (a b c : ℕ) → bit_or (bit_or a b) c ≡ bit_or a (bit_or b c)
or_assoc a b c = same_from_bits (bit_or (bit_or a b) c) (bit_or a (bit_or b c)) (λ i. simp bit_at_or (omega arith))

-- the next of some parts is done, too, and all are done where none is left
pub next_done : (new old step next rest here all : TableSet) → new ≡ bit_or old step → step ≡ next → here ≡ bit_or next rest → bit_or old here ≡ all → bit_or new rest ≡ all
next_done new old step next rest here all n s h o =
    ap (λ set. bit_or set rest) (n ∙ ap (bit_or old) s) ∙ or_assoc old next rest ∙ ap (bit_or old) (sym h) ∙ o

pub all_done : (done rest all : TableSet) → rest ≡ 0 → bit_or done rest ≡ all → done ≡ all
all_done done rest all r h = sym (or_zero_r done) ∙ ap (bit_or done) (sym r) ∙ h

-- a union has the tables of both
pub has_either : (s t u : ℕ) → has (bit_or s t) u ≡ (has s u || has t u)
has_either s t u = of_cases (has_or_lacks s u) (has_or_lacks t u)
  where
    of_cases : Has s u ⊎ Lacks s u → Has t u ⊎ Lacks t u → has (bit_or s t) u ≡ (has s u || has t u)
    of_cases (inl a) (inl b) = let m = bit_at_or s t u in let e : bit_at (bit_or s t) u ≡ 1 = omega (arith, m, a, b) in ap (λ n. n == 1) e ∙ sym (ap (λ n. (n == 1) || has t u) a)
    of_cases (inl a) (inr b) = let m = bit_at_or s t u in let e : bit_at (bit_or s t) u ≡ 1 = omega (arith, m, a, b) in ap (λ n. n == 1) e ∙ sym (ap (λ n. (n == 1) || has t u) a)
    of_cases (inr a) (inl b) = let m = bit_at_or s t u in let e : bit_at (bit_or s t) u ≡ 1 = omega (arith, m, a, b) in ap (λ n. n == 1) e ∙ sym (ap₂ (λ n k. (n == 1) || (k == 1)) a b)
    of_cases (inr a) (inr b) = let m = bit_at_or s t u in let e : bit_at (bit_or s t) u ≡ 0 = omega (arith, m, a, b) in ap (λ n. n == 1) e ∙ sym (ap₂ (λ n k. (n == 1) || (k == 1)) a b)

-- ---- few tables

pub still_few : (a b : TableSet) → a ≡ b → AreFew a → AreFew b
still_few a b e h = subst AreFew e h

pub left_few : (a b : TableSet) → AreFew (bit_or a b) → AreFew a
left_few a b h = let le = le_or_l a b in omega (arith, h, le)

pub right_few : (a b : TableSet) → AreFew (bit_or a b) → AreFew b
right_few a b h = let le = le_or_r a b in omega (arith, h, le)

pub next_few : (done next rest here all : TableSet) → here ≡ bit_or next rest → bit_or done here ≡ all → AreFew all → AreFew next
next_few done next rest here all h e f =
    left_few next rest (still_few here (bit_or next rest) h (right_few done here (still_few all (bit_or done here) (sym e) f)))

pub table_few : (t : ℕ) → AreFew (only t) → t < 14
table_few t h = of_cases (cases_lt t 14)
  where
    of_cases : (t < 14) ⊎ (14 ≤ t) → t < 14
    of_cases (inl lt) = lt
    of_cases (inr le) = let most : 2 ^ 14 ≤ 2 ^ t = pow-le-pow_right (omega arith) le in absurd (omega (arith, most, h))

-- ---- one value and more

pub tables_of_one : (e : ValueExpr) → tables_in (e ∷ []) ≡ tables_named e
tables_of_one e = or_zero_r (tables_named e)

pub tables_of_both : (xs ys : List ValueExpr) → tables_in (xs ++ ys) ≡ bit_or (tables_in xs) (tables_in ys)
tables_of_both [] ys = refl
tables_of_both (x ∷ xs) ys = ap (bit_or (tables_named x)) (tables_of_both xs ys) ∙ sym (or_assoc (tables_named x) (tables_in xs) (tables_in ys))

-- ---- the values that code lends

abbrev pub tables_from : List (Bor Value) → TableSet
tables_from values = tables_in (trees_of values)

pub next_value : (values : List (Bor Value)) (i : ℕ) (x : Bor Value) → i < length values → x ≡ get_or values i x → tables_from (drop i values) ≡ bit_or (tables_named (value_of x.now)) (tables_from (drop (i + 1) values))
next_value values i x h e = ap tables_from (drop_more values i x h ∙ ap (λ y. y ∷ drop (i + 1) values) (sym e))

-- ---- the operands of a line

abbrev pub line_tables : List Operand' → TableSet
line_tables xs = operands_tables (operands (map operand_of xs))

pub next_operand : (xs : List Operand') (i : ℕ) (x : Operand') → i < length xs → x ≡ get_or xs i x → line_tables (drop i xs) ≡ bit_or (tables_named (value_of x.value)) (line_tables (drop (i + 1) xs))
next_operand xs i x h e =
    ap line_tables (drop_more xs i x h ∙ ap (λ y. y ∷ drop (i + 1) xs) (sym e))
    ∙ ap (λ (y : OperandTree). operands_tables (Operand y.0 y.1 (operands (map operand_of (drop (i + 1) xs))))) (of_operand x)
