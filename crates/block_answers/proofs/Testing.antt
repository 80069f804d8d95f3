-- Late conjuncts, one after another.
use Rattle.std.proofs.Common.{◌≡◌, ◌∙◌, refl, sym, ap, subst, ℕ, ◌+◌, ◌<◌, List, ◌∷◌, [], ◌++◌, Bool, true, false, cond, length, map, drop, get_or, append_assoc, Ok, Err}
use Rattle.std.specs.Prelude.{◌&&◌, filter, Contains}
use Rattle.std.specs.Borrow.{Bor}
use Rattle.std.specs.List.{AllByRecursion}
use Rattle.std.proofs.lemmas.List.{map-append}
use Rattle.std.proofs.lemmas.List.Elements.{Contains-append_left}
use Rattle.definitions.specs.Arithmetic.{Raise, Meaning}
use Rattle.definitions.specs.Truth.{Truth, is_true}
use Rattle.definitions.specs.Queries.BoundBlock as b
use Rattle.definitions.specs.Queries.Conjuncts.{is_late}
use Rattle.definitions.specs.Queries.Evaluation.{Environment, truth}
use Rattle.definitions.specs.Queries.Combinations.{is_surely_true, raises_of}
use Rattle.definitions.specs.Queries.Telling.{MayAnswer}
use Rattle.query_tree.specs.Bound.{condition_of}
use Rattle.query_tree.specs.declared.condition.Condition.{Condition}
use Rattle.predicates.specs.Parts.{condition_in}
use Rattle.predicates.specs.declared.conjunct.Conjunct.{Conjunct}
use Rattle.filters.specs.Evaluable.{CanEvaluate}
use Rattle.block_answers.specs.OneComposite.{are_true_in, raised_in}
use Rattle.block_answers.specs.Views.{conditions_of}
use Rattle.result_lines.proofs.Answering.{told_raise, told_result}
use Rattle.result_lines.proofs.Lists.{at_place, next}

-- ---- which they are

module _ (xs : List Conjunct) (i : ℕ) (x : Conjunct) (h : i < length xs) (e : x ≡ get_or xs i x) where
  abbrev left : ℕ → List b.Condition
  left k = filter is_late (map condition_in (drop k xs))

  here : left i ≡ cond x.late (condition_in x ∷ left (i + 1)) (left (i + 1))
  here = ap (filter is_late) (next condition_in xs i x h e) ∙ ap (λ late. cond late (condition_in x ∷ left (i + 1)) (left (i + 1))) (sym x.judged)

  pub late_left_out : x.late ≡ false → left (i + 1) ≡ left i
  late_left_out early = sym (here ∙ ap (λ late. cond late (condition_in x ∷ left (i + 1)) (left (i + 1))) early)

  pub late_taken_in : (before after : List (Bor Condition)) → x.late ≡ true → after ≡ before ++ x.condition ∷ [] → conditions_of after ++ left (i + 1) ≡ conditions_of before ++ left i
  late_taken_in before after late more =
      ap (λ cs. conditions_of cs ++ left (i + 1)) more
      ∙ ap (λ cs. cs ++ left (i + 1)) (map-append (λ (c : Bor Condition). condition_of c.now) before (x.condition ∷ []))
      ∙ append_assoc (conditions_of before) (condition_in x ∷ []) (left (i + 1))
      ∙ ap (λ cs. conditions_of before ++ cs) (sym (here ∙ ap (λ late. cond late (condition_in x ∷ left (i + 1)) (left (i + 1))) late))

-- ---- each of them evaluated

module _ (env : Environment) (conditions : List (Bor Condition)) (i : ℕ) (x : Bor Condition) (h : i < length conditions) (e : x ≡ get_or conditions i x) where
  pub one_can : AllByRecursion (CanEvaluate env) (conditions_of conditions) → CanEvaluate env (condition_of x.now)
  one_can all = at_place (CanEvaluate env) (λ (c : Bor Condition). condition_of c.now) conditions i x all h e

  abbrev meant : Meaning Truth
  meant = truth env (condition_of x.now)

  abbrev from : ℕ → List b.Condition
  from k = conditions_of (drop k conditions)

  of_next : from i ≡ condition_of x.now ∷ from (i + 1)
  of_next = next (λ (c : Bor Condition). condition_of c.now) conditions i x h e

  -- what it raises, where those before it don't
  pub one_raises : (raise : Raise) → raised_in env (from i) ≡ raised_in env (conditions_of conditions) → MayAnswer meant (Err raise) → Contains (raised_in env (conditions_of conditions)) raise
  one_raises raise left told =
      subst (λ rs. Contains rs raise) (sym (ap (raised_in env) of_next) ∙ left) (Contains-append_left (raises_of meant) (raised_in env (from (i + 1))) raise (told_raise meant raise told))

  -- or its truth value
  pub one_quiet : (t : Truth) (all : List Raise) → MayAnswer meant (Ok t) → raised_in env (from i) ≡ all → raised_in env (from (i + 1)) ≡ all
  one_quiet t all told left = sym here ∙ left
    where
      here : raised_in env (from i) ≡ raised_in env (from (i + 1))
      here = ap (raised_in env) of_next ∙ ap (λ (m : Meaning Truth). raises_of m ++ raised_in env (from (i + 1))) (told_result meant t told)

  and_swapped : (own all rest : Bool) → ((own && all) && rest) ≡ (all && (own && rest))
  and_swapped true true rest = refl
  and_swapped true false rest = refl
  and_swapped false true rest = refl
  and_swapped false false rest = refl

  pub one_tested : (t : Truth) (all after whole : Bool) → MayAnswer meant (Ok t) → after ≡ (is_true t && all) → (all && are_true_in env (from i)) ≡ whole → (after && are_true_in env (from (i + 1))) ≡ whole
  one_tested t all after whole told is left =
      ap (λ b. b && are_true_in env (from (i + 1))) is
      ∙ and_swapped (is_true t) all (are_true_in env (from (i + 1)))
      ∙ sym (ap (λ cs. all && are_true_in env cs) of_next ∙ ap (λ (m : Meaning Truth). all && (is_surely_true m && are_true_in env (from (i + 1)))) (told_result meant t told))
      ∙ left
