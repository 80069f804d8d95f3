-- Columns of one class have values of one rank where the conjuncts of the tables are true, so an order that serves for another gives it.
use Rattle.std.proofs.Common.{sym, ap₂, ◌∙◌, subst, ◌≡◌, ℕ, ◌⊎◌, inl, inr, [], ◌∷◌, Bool, true, Some, Equal, refl}
use Rattle.std.specs.Cmp.{alike_right, tied_back, tied_itself}
use Rattle.std.specs.Ordering.{ordering_then, is_le}
use Rattle.std.specs.declared.cmp.Ordering.{Ordering}
use Rattle.std.specs.declared.cmp.Ordering.TheVariants.{Less, Greater}
use Rattle.definitions.specs.Value.{Value, rank}
use Rattle.definitions.specs.Plans.TableSet.{Has}
use Rattle.definitions.specs.Plans.Order.{BlockColumn, Order}
use Rattle.definitions.specs.Plans.Plan.{Plan}
use Rattle.definitions.specs.Plans.Space.{Space, order_at}
use Rattle.definitions.specs.Plans.ColumnClass.{Equates, SameClass, itself, chain, Satisfies}
use Rattle.definitions.specs.Plans.PlanSpace.{IsPlan, InSpace, GivesRequired, tables_of, order_of}
use Rattle.definitions_execution.specs.Lists.{Rises}
use Rattle.definitions_execution.specs.RowOrder.{ranked_by, NotAfter}
use Rattle.definitions.specs.Queries.Outcomes.{directed}
use Rattle.definitions_execution.specs.Stored.{Composite, Stored, value_at}
use Rattle.definitions_execution.specs.Fits.{Fits}
use Rattle.definitions_execution.specs.Passing.{applies, passes}
use Rattle.definitions_execution.specs.Running.{delivered}
use Rattle.definitions.proofs.Ranking.{rank_total, rank_as_compared}
use Rattle.definitions_execution.proofs.Members.{rises_weaker}
use Rattle.definitions_execution.proofs.Steps.{applies_from, holds_where}
use Rattle.definitions_execution.proofs.Plans.{delivers}

-- values of one rank are directed alike
pub directed_same : (b b' : Bool) (x y x' y' : Value) → b ≡ b' → rank x x' ≡ Equal → rank y y' ≡ Equal → directed b (rank x y) ≡ directed b' (rank x' y')
directed_same b b' x y x' y' e h k = ap₂ directed e (rank_total.congr x x' y h ∙ alike_right rank_total y y' x' k)

pub then_weaker : (o p p' : Ordering) → (is_le p ≡ true → is_le p' ≡ true) → is_le (ordering_then o p) ≡ true → is_le (ordering_then o p') ≡ true
then_weaker Less p p' f h = refl
then_weaker Equal p p' f h = f h
then_weaker Greater p p' f h = h

module _ (q : Space) (d : Stored) (v : Fits q d) where
  equated : (s g : ℕ) (x y : BlockColumn) (c : Composite) → passes q d s c ≡ true → Equates q g x y → Has s x.table → Has s y.table → rank (value_at d x c) (value_at d y c) ≡ Equal
  equated s g x y c p (k, e, early, sides) hx hy = of_side sides
    where
      true_in : (a b : BlockColumn) → k.equated ≡ Some (a, b) → Has s a.table → Has s b.table → rank (value_at d a c) (value_at d b c) ≡ Equal
      true_in a b f ha hb =
          let on : applies q s g ≡ true = applies_from q s g k e early (λ u i. of_table u (v.sides g k a b e f u i)) in
          rank_as_compared (value_at d a c) (value_at d b c) Equal ((v.equal g k a b c e f).0 (holds_where q d v s c g p on))
        where
          of_table : (u : ℕ) → (u ≡ a.table) ⊎ (u ≡ b.table) → Has s u
          of_table u (inl h) = rw h ha
          of_table u (inr h) = rw h hb

      of_side : (k.equated ≡ Some (x, y)) ⊎ (k.equated ≡ Some (y, x)) → rank (value_at d x c) (value_at d y c) ≡ Equal
      of_side (inl f) = true_in x y f hx hy
      of_side (inr f) = tied_back rank_total (value_at d y c) (value_at d x c) (true_in y x f hy hx)

  -- the columns of a class have values of one rank on each passing combination
  pub same_rank : (s : ℕ) (x y : BlockColumn) (c : Composite) → passes q d s c ≡ true → SameClass q s x y → rank (value_at d x c) (value_at d y c) ≡ Equal
  same_rank s x y c p (itself x') = tied_itself rank_total (value_at d x c)
  same_rank s x z c p (chain g x' y z' e hx hy r) = rank_total.congr (value_at d x' c) (value_at d y c) (value_at d z' c) (equated s g x' y c p e hx hy) ∙ same_rank s y z' c p r

  -- what is in an order is in each order that it satisfies
  pub order_satisfied : (s : ℕ) (ks rs : Order) (a b : Composite) → passes q d s a ≡ true → passes q d s b ≡ true → Satisfies q s ks rs → NotAfter (value_at d) ks a b → NotAfter (value_at d) rs a b
  order_satisfied s ks [] a b pa pb h l = refl
  order_satisfied s [] (r ∷ rs) a b pa pb h l = absurd h
  order_satisfied s (k ∷ ks) (r ∷ rs) a b pa pb (dir, same, h) l =
      let one = directed_same k.descending r.descending (value_at d k.column a) (value_at d k.column b) (value_at d r.column a) (value_at d r.column b) dir (same_rank s k.column r.column a pa same) (same_rank s k.column r.column b pb same) in
      then_weaker _ _ _ (order_satisfied s ks rs a b pa pb h) (subst (λ o. is_le (ordering_then o (ranked_by (value_at d) ks a b)) ≡ true) one l)

  pub gives_satisfied : (p : Plan) → IsPlan q p → (rs : Order) → Satisfies q (tables_of q p) (order_at q (order_of q p)) rs → Rises (NotAfter (value_at d) rs) (delivered q d p)
  gives_satisfied p r rs h =
      let w = delivers q d v p r in
      rises_weaker (NotAfter (value_at d) (order_at q (order_of q p))) (NotAfter (value_at d) rs) (delivered q d p) (λ a b i j l. order_satisfied (tables_of q p) (order_at q (order_of q p)) rs a b (w.pass a i) (w.pass b j) h l) w.in_order

  pub gives_required : (p : Plan) → InSpace q p → GivesRequired q p → Rises (NotAfter (value_at d) q.required) (delivered q d p)
  gives_required p (r, e) o = gives_satisfied p r q.required (subst (λ s. Satisfies q s (order_at q (order_of q p)) q.required) (sym e) o)
