-- Conjuncts that link tables, one after another.
use Rattle.std.proofs.Common.{◌≡◌, ◌∙◌, ◌⊎◌, inl, inr, sym, ap, subst, ℕ, ◌+◌, ◌<◌, ◌≤◌, List, length, map, get_or, Some, arith}
use Rattle.std.specs.Prelude.{slice_get, option_map}
use Rattle.std.proofs.lemmas.Bool.{cases_lt}
use Rattle.std.proofs.lemmas.List.{length-map}
use Rattle.std.proofs.lemmas.Option.{slice_get-map, slice_get-get_or, slice_get_within}
use Rattle.definitions.specs.Plans.TableSet.{TableSet}
use Rattle.definitions.specs.Plans.Conjunct.{Conjunct}
use Rattle.definitions.specs.Plans.Space.{Space}
use Rattle.definitions.specs.Plans.PlanSpace.{Links}
use Rattle.estimate.specs.PlanConjuncts.{conjunct_of}
use Rattle.estimate.specs.declared.plan_conjunct.PlanConjunct.{PlanConjunct}
use Rattle.plan_space.specs.Linked.{LinksBy}

-- no conjunct below a place links the table
pub record NoneLinks (conjuncts : List Conjunct) (set : TableSet) (table place : ℕ) : Type 0 where
  pub none : (number : ℕ) (c : Conjunct) → number < place → slice_get conjuncts number ≡ Some c → LinksBy c set table → ⊥

pub none_at_first : (conjuncts : List Conjunct) (set : TableSet) (table : ℕ) → NoneLinks conjuncts set table 0
none_at_first conjuncts set table = record { none = λ number c lt e links. absurd (omega (arith, lt)) }

module _ (items : List PlanConjunct) (set : TableSet) (table i : ℕ) (x : PlanConjunct) (h : i < length items) (r : x ≡ get_or items i x) where
  at_place : slice_get (map conjunct_of items) i ≡ Some (conjunct_of x)
  at_place = slice_get-map conjunct_of items i ∙ ap (option_map conjunct_of) (slice_get-get_or items i x h ∙ ap Some (sym r))

  pub none_more : NoneLinks (map conjunct_of items) set table i → (LinksBy (conjunct_of x) set table → ⊥) → NoneLinks (map conjunct_of items) set table (i + 1)
  none_more before not_here = record { none = λ number c lt e links. by_place number c (cases_lt number i) lt e links }
    where
      by_place : (number : ℕ) (c : Conjunct) → (number < i) ⊎ (i ≤ number) → number < i + 1 → slice_get (map conjunct_of items) number ≡ Some c → LinksBy c set table → ⊥
      by_place number c (inl below) lt e links = before.none number c below e links
      by_place number c (inr le) lt e links =
          let here : number ≡ i = omega (arith, le, lt) in
          let there : slice_get (map conjunct_of items) i ≡ Some c = subst (λ n. slice_get (map conjunct_of items) n ≡ Some c) here e in
          let same : c ≡ conjunct_of x = some_same (sym there ∙ at_place) in
          not_here (subst (λ d. LinksBy d set table) same links)
        where
          some_same : {X : Type 0} {a b : X} → Some a ≡ Some b → a ≡ b
          some_same e = cc

  pub links_here : (space : Space) → space.conjuncts ≡ map conjunct_of items → LinksBy (conjunct_of x) set table → Links space set table
  links_here space e links = (i, conjunct_of x, ap (λ cs. slice_get cs i) e ∙ at_place, links.0, links.1.0, links.1.1, links.1.2)

pub none_at_last : (items : List PlanConjunct) (set : TableSet) (table place : ℕ) (space : Space) → space.conjuncts ≡ map conjunct_of items → length items ≤ place
    → NoneLinks (map conjunct_of items) set table place → Links space set table → ⊥
none_at_last items set table place space e all before links =
    let at : slice_get (map conjunct_of items) links.0 ≡ Some links.1 = ap (λ cs. slice_get cs links.0) (sym e) ∙ links.2 in
    let inside : links.0 < length (map conjunct_of items) = slice_get_within (map conjunct_of items) links.0 links.1 at in
    before.none links.0 links.1 (omega (arith, inside, length-map items conjunct_of, all)) at (links.3, (links.4, links.5, links.6))
