-- What orders serve for, by their numbers.
use Rattle.std.proofs.Common.{◌≡◌, ◌≢◌, ◌∙◌, refl, sym, subst, ℕ, ◌<◌, List, [], ◌∷◌, Bool, true, false, Some, None, length, get_or, arith}
use Rattle.std.specs.Prelude.{not, option_map}
use Rattle.std.specs.Bool.{Decides, ◌==◌}
use Rattle.std.proofs.lemmas.Bool.Decides.{Decides-eqb, Decides-like, Decides-not}
use Rattle.std.proofs.lemmas.Option.{slice_get-get_or}
use Rattle.definitions.specs.Plans.TableSet.{no_tables}
use Rattle.definitions.specs.Plans.Order.{Order}
use Rattle.definitions.specs.Plans.Space.{Space, whole, order_at}
use Rattle.definitions.specs.Plans.ColumnClass.{Satisfies}
use Rattle.plan_tree.specs.Plans.{order_of}
use Rattle.plan_tree.specs.declared.order.SortKey.{SortKey}
use Rattle.plan_tree.specs.Sets.{set_of}
use Rattle.interesting_orders.specs.Reach.{AreThose}
use Rattle.interesting_orders.specs.Merges.{IsPartner}
use Rattle.interesting_orders.specs.Uses.{AreUses, IsUse}
use Rattle.interesting_orders.specs.declared.equated.EquatedColumns.{EquatedColumns}
use Rattle.interesting_orders.specs.declared.order_use.OrderUse.{OrderUse}
use Rattle.interesting_orders.specs.declared.interesting_orders.InterestingOrders.{InterestingOrders}
use Rattle.interesting_orders.proofs.Opening.{none_yet}

pub numbered : (space : Space) (u : InterestingOrders) (number : ℕ) (d : OrderUse) → AreUses space u → number < length u.orders.items → IsUse space u.equated (order_at space number) (get_or u.orders.items number d)
numbered space u number d are lt =
    let within : number < length space.orders = omega (arith, lt, are.orders.len) in
    are.orders.each number (order_at space number) d (slice_get-get_or space.orders number [] within)

module _ (space : Space) (e : EquatedColumns) where
  gives_none : (asked : Bool) (required : Order) → Decides asked (required ≢ []) → Decides (not asked) (Satisfies space (whole space) [] required)
  gives_none true [] asked = absurd (asked.0 refl refl)
  gives_none false [] asked = ((λ h. tt), λ h. refl)
  gives_none true (key ∷ keys) asked = ((λ h. absurd cc), λ h. absurd h)
  gives_none false (key ∷ keys) asked = let yes : false ≡ true = asked.1 (λ is. absurd cc) in absurd cc

  -- an order that has no number is empty
  pub unnumbered : (asked : Bool) (order : Order) (u : OrderUse) → order ≡ [] → u.lead ≡ None → option_map set_of u.tables ≡ Some no_tables → option_map set_of u.partners ≡ Some no_tables
      → u.gives_required ≡ not asked → Decides asked (space.required ≢ []) → IsUse space e order u
  unnumbered asked order u empty lead tables partners gives are =
      subst (λ (o : Order). IsUse space e o u) (sym empty) (record {
        lead = lead;
        tables = tables;
        partners = subst (AreThose (IsPartner space None)) (sym partners) (none_yet (IsPartner space None) (λ table h. h));
        gives = subst (λ b. Decides b (Satisfies space (whole space) [] space.required)) (sym gives) (gives_none asked space.required are);
      })

pub is_asked : (keys : List SortKey) (required : Order) (empty : Bool) → required ≡ order_of keys → empty ≡ length keys == 0 → Decides (not empty) (required ≢ [])
is_asked keys required empty is e =
    subst (λ b. Decides (not b) (required ≢ [])) (sym e) (Decides-like _ (λ some none. some (nothing keys (sym is ∙ none))) (λ some none. some (is ∙ no_keys keys none)) (Decides-not _ (Decides-eqb (length keys) 0)))
  where
    nothing : (keys : List SortKey) → order_of keys ≡ [] → length keys ≡ 0
    nothing [] none = refl
    nothing (key ∷ keys) none = absurd cc

    no_keys : (keys : List SortKey) → length keys ≡ 0 → order_of keys ≡ []
    no_keys [] none = refl
    no_keys (key ∷ keys) none = absurd (omega (arith, none))
