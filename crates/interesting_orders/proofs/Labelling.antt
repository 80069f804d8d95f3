-- Labels by the first of some equations.
use Rattle.std.proofs.Common.{◌≡◌, ◌∙◌, sym, subst, ℕ, ◌+◌, ◌<◌, ◌≤◌, List, length, get_or, inl, inr, arith}
use Rattle.std.specs.Prelude.{◌⊎◌, All}
use Rattle.std.proofs.lemmas.Bool.{cases_lt}
use Rattle.std.proofs.lemmas.List.{get_or_default}
use Rattle.definitions.specs.Plans.TableSet.{TableSet, Has}
use Rattle.definitions.specs.Plans.Order as o
use Rattle.definitions.specs.Plans.Space.{Space}
use Rattle.definitions.specs.Plans.ColumnClass.{SameClass, itself, chain}
use Rattle.interesting_orders.specs.Labels.{label_at, column_at, AreSound, Holds, IsBetween, Joins}
use Rattle.interesting_orders.specs.declared.equivalence_classes.Equality.{Equality}
use Rattle.interesting_orders.proofs.ClassMerging.{IsMerged, sound_kept, joins_kept, joined_now}

pub record Labelled (tables : TableSet) (columns : List o.BlockColumn) (equations : List Equality) (labels : List ℕ) (count : ℕ) : Type 0 where
  pub len : length labels ≡ length columns
  pub sound : (space : Space) → All (Holds space columns) equations → AreSound space tables columns labels
  pub joined : (k : ℕ) (d : Equality) → k < count → Joins tables columns labels (get_or equations k d)

-- each column has a label of its own
pub begin : (tables : TableSet) (columns : List o.BlockColumn) (equations : List Equality) (labels : List ℕ) → length labels ≡ length columns
    → ((i : ℕ) → i < length columns → get_or labels i 0 ≡ i) → Labelled tables columns equations labels 0
begin tables columns equations labels len own = record {
  len = len;
  sound = λ space holds i j hi hj e. subst (λ n. SameClass space tables (column_at columns i) (column_at columns n)) (sym (own i hi) ∙ e ∙ own j hj) (itself (column_at columns i));
  joined = λ k d h. absurd (omega (arith, h));
}

-- what joins the columns of the next equation
abbrev pub JoinsNext : TableSet → List o.BlockColumn → List Equality → List ℕ → ℕ → Type 0
JoinsNext tables columns equations labels i = (d : Equality) → Joins tables columns labels (get_or equations i d)

more : (tables : TableSet) (columns : List o.BlockColumn) (equations : List Equality) (labels : List ℕ) (i : ℕ)
    → ((k : ℕ) (d : Equality) → k < i → Joins tables columns labels (get_or equations k d)) → JoinsNext tables columns equations labels i
    → (k : ℕ) (d : Equality) → k < i + 1 → Joins tables columns labels (get_or equations k d)
more tables columns equations labels i before now k d h = by_place (cases_lt k i)
  where
    by_place : (k < i) ⊎ (i ≤ k) → Joins tables columns labels (get_or equations k d)
    by_place (inl b) = before k d b
    by_place (inr b) = let here : k ≡ i = omega (arith, b, h) in subst (λ n. Joins tables columns labels (get_or equations n d)) (sym here) (now d)

-- an equation of which a table is not in the set
pub pass : (tables : TableSet) (columns : List o.BlockColumn) (equations : List Equality) (labels : List ℕ) (i : ℕ) → Labelled tables columns equations labels i
    → JoinsNext tables columns equations labels i → Labelled tables columns equations labels (i + 1)
pass tables columns equations labels i l now = record { len = l.len; sound = l.sound; joined = more tables columns equations labels i l.joined now }

-- one whose tables are
pub join : (tables : TableSet) (columns : List o.BlockColumn) (equations : List Equality) (old new : List ℕ) (i : ℕ) (x : Equality) → Labelled tables columns equations old i
    → i < length equations → x ≡ get_or equations i x → All (IsBetween (length columns)) equations
    → Has tables (column_at columns x.left).table → Has tables (column_at columns x.right).table
    → length new ≡ length old → IsMerged (length columns) old new (label_at old x.right) (label_at old x.left)
    → Labelled tables columns equations new (i + 1)
join tables columns equations old new i x l hi ex between hx hy len m =
    let b : IsBetween (length columns) x = subst (IsBetween (length columns)) (sym ex) (between i x hi) in
    record {
      len = len ∙ l.len;
      sound = λ space holds.
          let h : Holds space columns x = subst (Holds space columns) (sym ex) (holds i x hi) in
          sound_kept tables columns old new x.left x.right b.0 b.1 m space (chain h.0 _ _ _ h.1 hx hy (itself _)) (l.sound space holds);
      joined = more tables columns equations new i (λ k d h. joins_kept_at k d h) (λ d. now d);
    }
  where
    at_x : IsBetween (length columns) x
    at_x = subst (IsBetween (length columns)) (sym ex) (between i x hi)

    joins_kept_at : (k : ℕ) (d : Equality) → k < i → Joins tables columns new (get_or equations k d)
    joins_kept_at k d h = joins_kept tables columns old new x.left x.right at_x.0 at_x.1 m (get_or equations k d) (between k d (omega (arith, h, hi))) (l.joined k d h)

    now : (d : Equality) → Joins tables columns new (get_or equations i d)
    now d = subst (Joins tables columns new) (ex ∙ get_or_default equations i x d hi) (λ gx gy. joined_now tables columns old new x.left x.right at_x.0 at_x.1 m)
