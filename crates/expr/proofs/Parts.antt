-- The operands of one AND or OR.
use Rattle.std.proofs.Common.{◌≡◌, ◌∙◌, refl, sym, ap, subst, ℕ, ◌+◌, ◌<◌, List, [], ◌∷◌, ◌++◌, Result, length, map, drop, get_or}
use Rattle.std.proofs.lemmas.List.{drop_more}
use Rattle.query_tree.specs.Bound.{condition_of, conditions}
use Rattle.query_tree.specs.declared.condition.Condition.{Condition as Code}
use Rattle.std.specs.List.{AllByRecursion}
use Rattle.definitions.specs.Truth.{Truth, True, False, and, or, all_true, any_true}
use Rattle.definitions.specs.Arithmetic.{Meaning, Is, Raises, Raise}
use Rattle.definitions.specs.Queries.BoundBlock.{ValueExpr, Condition, Conditions, NoPart, Part}
use Rattle.definitions.specs.Queries.Conjuncts.{values_of, values_of_parts}
use Rattle.definitions.specs.Queries.Evaluation.{Environment, truth, truths, on_one, on_two}
use Rattle.definitions.specs.Queries.Laws.{FitsTypes}
use Rattle.definitions.specs.Queries.Telling.{MayAnswer}
use Rattle.expr.specs.Answers.{IsTyped}
use Rattle.expr.proofs.Connectives.{and_assoc, and_true, or_assoc, or_false}

pub all_split : (P : ValueExpr → Type 0) (xs ys : List ValueExpr) → AllByRecursion P (xs ++ ys) → AllByRecursion P xs × AllByRecursion P ys
all_split P [] ys h = (tt, h)
all_split P (x ∷ xs) ys h = let (l, r) = all_split P xs ys h.1 in ((h.0, l), r)

-- what is known of operands that are left: their values fit and have types
pub record AreFit (env : Environment) (rest : Conditions) : Type 0 where
  pub fits : AllByRecursion (FitsTypes env) (values_of_parts rest)
  pub typed : AllByRecursion IsTyped (values_of_parts rest)

pub record IsFit (env : Environment) (part : Condition) : Type 0 where
  pub fits : AllByRecursion (FitsTypes env) (values_of part)
  pub typed : AllByRecursion IsTyped (values_of part)

pub fit_part : (env : Environment) (part : Condition) (rest : Conditions) → AreFit env (Part part rest) → IsFit env part
fit_part env part rest f = record { fits = (all_split (FitsTypes env) (values_of part) (values_of_parts rest) f.fits).0; typed = (all_split IsTyped (values_of part) (values_of_parts rest) f.typed).0 }

fit_rest : (env : Environment) (part : Condition) (rest : Conditions) → AreFit env (Part part rest) → AreFit env rest
fit_rest env part rest f = record { fits = (all_split (FitsTypes env) (values_of part) (values_of_parts rest) f.fits).1; typed = (all_split IsTyped (values_of part) (values_of_parts rest) f.typed).1 }

-- AND and OR in one: a connective, that of a list, and what it starts from
pub record IsConnective (joins : Truth → Truth → Truth) (of_list : List Truth → Truth) (start : Truth) : Type 0 where
  pub none : of_list [] ≡ start
  pub more : (t : Truth) (ts : List Truth) → of_list (t ∷ ts) ≡ joins t (of_list ts)
  pub begins : (t : Truth) → joins start t ≡ t
  pub ends : (t : Truth) → joins t start ≡ t
  pub assoc : (a b c : Truth) → joins (joins a b) c ≡ joins a (joins b c)

and_begins : (t : Truth) → and True t ≡ t
and_begins t = refl

or_begins : (t : Truth) → or False t ≡ t
or_begins t = refl

pub and_is : IsConnective and all_true True
and_is = record { none = refl; more = λ t ts. refl; begins = and_begins; ends = and_true; assoc = and_assoc }

pub or_is : IsConnective or any_true False
or_is = record { none = refl; more = λ t ts. refl; begins = or_begins; ends = or_false; assoc = or_assoc }

module _ (joins : Truth → Truth → Truth) (of_list : List Truth → Truth) (start : Truth) (is : IsConnective joins of_list start) where
  pub record Joined (env : Environment) (all rest : Conditions) (answer : Result Truth Raise) : Type 0 where
    pub meaning : Meaning Truth
    pub tells : MayAnswer meaning answer
    pub same : on_two joins meaning (on_one of_list (truths env rest)) ≡ on_one of_list (truths env all)
    pub fit : AreFit env rest

  begin_same : (m : Meaning (List Truth)) → on_two joins (Is start) (on_one of_list m) ≡ on_one of_list m
  begin_same (Is ts) = ap Is (is.begins (of_list ts))
  begin_same (Raises r rs) = refl

  pub join : (env : Environment) (all : Conditions) (answer : Result Truth Raise) → MayAnswer (Is start) answer → AreFit env all → Joined env all all answer
  join env all answer h f = record { meaning = Is start; tells = h; same = begin_same (truths env all); fit = f }

  step_same : (m t : Meaning Truth) (ts : Meaning (List Truth)) → on_two joins (on_two joins m t) (on_one of_list ts) ≡ on_two joins m (on_one of_list (on_two ◌∷◌ t ts))
  step_same (Raises r rs) t ts = refl
  step_same (Is a) (Raises r rs) ts = refl
  step_same (Is a) (Is b) (Raises r rs) = refl
  step_same (Is a) (Is b) (Is ts) = ap Is (is.assoc a b (of_list ts) ∙ ap (joins a) (sym (is.more b ts)))

  pub joined_next : (env : Environment) (all rest : Conditions) (part : Condition) (answer new : Result Truth Raise) (s : Joined env all (Part part rest) answer) → MayAnswer (on_two joins s.meaning (truth env part)) new → Joined env all rest new
  joined_next env all rest part answer new s h = record {
    meaning = on_two joins s.meaning (truth env part);
    tells = h;
    same = step_same s.meaning (truth env part) (truths env rest) ∙ s.same;
    fit = fit_rest env part rest s.fit;
  }

  end_same : (m : Meaning Truth) → on_two joins m (Is (of_list [])) ≡ m
  end_same (Is a) = ap (λ x. Is (joins a x)) is.none ∙ ap Is (is.ends a)
  end_same (Raises r rs) = refl

  pub joined_all : (env : Environment) (all : Conditions) (answer : Result Truth Raise) → Joined env all NoPart answer → MayAnswer (on_one of_list (truths env all)) answer
  joined_all env all answer s = subst (λ n. MayAnswer n answer) (sym (end_same s.meaning) ∙ s.same) s.tells

-- the operands of a list, one after another
pub part_next : (cs : List Code) (i : ℕ) (x : Code) → i < length cs → x ≡ get_or cs i x → conditions (map condition_of (drop i cs)) ≡ Part (condition_of x) (conditions (map condition_of (drop (i + 1) cs)))
part_next cs i x h e = ap (λ xs. conditions (map condition_of xs)) (drop_more cs i x h ∙ ap (λ y. y ∷ drop (i + 1) cs) (sym e))
