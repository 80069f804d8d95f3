-- The groups of combinations, found in any way.
use Rattle.std.proofs.Common.{List, [], ◌∷◌, Bool, true, false, cond}
use Rattle.std.specs.List.{list_any}
use Rattle.std.proofs.lemmas.List.Sorted.{IsPermutation-sym, IsPermutation-trans}
use Rattle.definitions.specs.Queries.Grouping.{classes_of, with_element, groups_of}
use Rattle.definitions.proofs.QueryTheory.Lemmas.{groups_are_all}
use Rattle.definitions.proofs.QueryTheory.GroupClasses.{groups_are_classes, grouping_laws}
use Rattle.definitions_answers.specs.Groups.{in_one_group, joined, GroupsAreOne, NoneIsEmpty}
use Rattle.definitions_answers.proofs.Classes.{classes_are_one}

with_some : {X : Type 0} (same : X → X → Bool) (x : X) (cs : List (List X)) → NoneIsEmpty cs → NoneIsEmpty (with_element same x cs)
with_some same x [] h = tt
with_some same x ([] ∷ cs) h = absurd h
with_some {X} same x ((y ∷ ys) ∷ cs) h = step (list_any (same x) (y ∷ ys)) (with_some same x cs h)
  where
    step : (b : Bool) → NoneIsEmpty (with_element same x cs) → NoneIsEmpty (cond b ((x ∷ y ∷ ys) ∷ cs) ((y ∷ ys) ∷ with_element same x cs))
    step true r = h
    step false r = r

some : {X : Type 0} (same : X → X → Bool) (xs : List X) → NoneIsEmpty (classes_of same xs)
some same [] = tt
some same (x ∷ xs) = with_some same x (classes_of same xs) (some same xs)

pub groups_are_one : GroupsAreOne
groups_are_one column columns cs groups are =
    let same = in_one_group (column ∷ columns) in
    classes_are_one same (grouping_laws (column ∷ columns)) groups (groups_of (column ∷ columns) cs) are.some (some same cs) are.classes (groups_are_classes (column ∷ columns) cs)
    (IsPermutation-trans (joined (groups_of (column ∷ columns) cs)) cs (joined groups) (IsPermutation-sym cs (joined (groups_of (column ∷ columns) cs)) (groups_are_all (column ∷ columns) cs)) are.all)
