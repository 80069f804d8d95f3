-- What a join relation says of a space.
use Rattle.std.specs.Prelude.{◌≡◌, Option, Some, None, true, false}
use Rattle.definitions.specs.Plans.TableSet.{TableSet}
use Rattle.definitions.specs.Plans.Space.{Space}
use Rattle.plan_tree.specs.Sets.{set_of}
use Rattle.plan_tree.specs.declared.table_set.TableSet as code
use Rattle.interesting_orders.specs.Uses.{AreClassesIn, AreUses}
use Rattle.plan_space.specs.Linked.{AreLinked}
use Rattle.plan_space.specs.declared.join_relation.JoinRelation.{JoinRelation}

-- the tables that are linked to a set; there are none where products are free
abbrev pub LinksSay : Space → TableSet → Option code.TableSet → Type 0
LinksSay space tables None = space.free_products ≡ true
LinksSay space tables (Some linked) = (space.free_products ≡ false) × AreLinked space space.table_count tables (set_of linked)

-- its figures are those of its tables
pub record IsRelation (space : Space) (r : JoinRelation) : Type 0 where
  pub rows : r.rows ≡ space.cardinality (set_of r.tables)
  pub uses : AreUses space r.uses.now
  pub classes : AreClassesIn space (set_of r.tables) r.uses.now r.classes
  pub linked : LinksSay space (set_of r.tables) r.linked
