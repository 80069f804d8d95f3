-- Blocks inside a block that stands somewhere.
use Prim.Native.Nat.{zero}
use Rattle.std.proofs.Common.{suc, ◌≡◌, ◌∙◌, sym, ap, subst, ℕ, ◌<◌, List, ◌∷◌, length, slice_get, Some}
use Rattle.std.specs.Prelude.{Contains, unwrap_or}
use Rattle.std.specs.List.{AllByRecursion}
use Rattle.std.proofs.lemmas.Option.{slice_get_within}
use Rattle.definitions.specs.Table.{Database}
use Rattle.definitions.specs.Queries.BoundBlock.{Block, Blocks}
use Rattle.definitions.specs.Queries.Evaluation.{Combination}
use Rattle.definitions.specs.Binding.Formed.{IsFormedBlock, AreFormed, formed, blocks_of_option}
use Rattle.definitions_execution.specs.Total.{subqueries}
use Rattle.definitions_execution.specs.TypedCombinations.{IsTypedCombination, AreTypedAround}
use Rattle.definitions_answers.specs.Standing.{StandsInside, StandingBlocksAreFormed, SubqueriesStandInside}
use Rattle.definitions_answers.proofs.Elements.{all_both}
use Rattle.definitions_answers.proofs.BlockSight.{asked_by_condition, subqueries_are}
use Rattle.definitions_answers.proofs.Steps.{formed_ask_behind}

at_number : (blocks : Blocks) (k : ℕ) (b d : Block) → slice_get blocks k ≡ Some b → slice_get blocks k ≡ Some d → d ≡ b
at_number blocks k b d e g = ap (λ o. unwrap_or o b) (sym g ∙ e)

formed_there : (db : Database) (blocks around : Blocks) (k : ℕ) (b : Block) → slice_get blocks k ≡ Some b → AreFormed db blocks around k → IsFormedBlock db blocks around k b
formed_there db blocks around k b e (formed _ _ d g own inside) = subst (IsFormedBlock db blocks around k) (at_number blocks k b d e g) own

inside_there : (db : Database) (blocks around : Blocks) (k : ℕ) (b : Block) → slice_get blocks k ≡ Some b → AreFormed db blocks around k → (j : ℕ) → Contains (blocks_of_option b.condition) j → AreFormed db blocks (b ∷ around) j
inside_there db blocks around k b e (formed _ _ d g own inside) = subst (λ x. (j : ℕ) → Contains (blocks_of_option x.condition) j → AreFormed db blocks (x ∷ around) j) (at_number blocks k b d e g) inside

number_there : (db : Database) (blocks around : Blocks) (k : ℕ) → AreFormed db blocks around k → k < length blocks
number_there db blocks around k (formed _ _ d g own inside) = slice_get_within blocks k d g

typed_inside : (db : Database) (around : Blocks) (b : Block) (outer : List Combination) (c : Combination) → AreTypedAround db around outer → IsTypedCombination db b c → AreTypedAround db (b ∷ around) (c ∷ outer)
typed_inside db around b outer c typed own zero d e = subst (λ x. IsTypedCombination db x c) (ap (λ o. unwrap_or o b) e) own
typed_inside db around b outer c typed own (suc n) d e = typed n d e

pub standing_are_formed : StandingBlocksAreFormed
standing_are_formed db blocks k b outer e (around, own, typed) = (around, formed_there db blocks around k b e own, typed)

pub subqueries_stand_inside : SubqueriesStandInside
subqueries_stand_inside db blocks k b outer c e (around, all, typed) own =
    let asked : AllByRecursion (Contains (blocks_of_option b.condition)) (subqueries b) = asked_by_condition b in
    let behind : AllByRecursion (λ j. k < j) (subqueries b) = subqueries_are (λ j. k < j) b (formed_ask_behind db blocks around k b (formed_there db blocks around k b e all)) in
    all_both (Contains (blocks_of_option b.condition)) (λ j. k < j) (StandsInside db blocks k (c ∷ outer))
    (λ j asks l.
    let there = inside_there db blocks around k b e all j asks in
    record { behind = l; there = number_there db blocks (b ∷ around) j there; stands = (b ∷ around, there, typed_inside db around b outer c typed own) })
    (subqueries b) asked behind
