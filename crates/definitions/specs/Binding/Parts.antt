-- The parts of a query's tree: its blocks in text order, and the parts of their expressions.
use Rattle.std.specs.Prelude.{Bool, true, false, List, [], ◌∷◌, ◌++◌, filter, map}
use Rattle.definitions.specs.Table.{Database}
use Rattle.definitions.specs.Binding.Scopes.{Scopes, scope_of}
use Rattle.definitions.specs.Statement.{Expr, Signed, Line, Not, Compare, CompareAll, IsNull, Between, Like, InList}
use Rattle.definitions.specs.Statement.{InQuery, Exists, Scalar, CountRows, Function, LineOperands, NoOperand, Operand}
use Rattle.definitions.specs.Statement.{Members, NoMember, NullMember, Member, Items, NoItem, AddItem, DerivedColumn}
use Rattle.definitions.specs.Statement.{listed, SelectList, Asterisk, Listed, SearchClause, Absent, Present}
use Rattle.definitions.specs.Statement.{QuerySpecification, Specification, block_sources}

-- ---- expressions

-- the parts of an expression, without itself, in text order; subqueries and arguments of set functions are not looked
-- into
abbrev mutual
  pub inner_parts : Expr → List Expr
  inner_parts (Signed minus e) = e ∷ inner_parts e
  inner_parts (Line first others) = first ∷ inner_parts first ++ operand_parts others
  inner_parts (Not e) = e ∷ inner_parts e
  inner_parts (Compare op left right) = left ∷ inner_parts left ++ right ∷ inner_parts right
  inner_parts (CompareAll op quantifier e query) = e ∷ inner_parts e
  inner_parts (IsNull negated e) = e ∷ inner_parts e
  inner_parts (Between negated e low high) = e ∷ inner_parts e ++ low ∷ inner_parts low ++ high ∷ inner_parts high
  inner_parts (Like negated e pattern) = e ∷ inner_parts e
  inner_parts (InList negated e members) = e ∷ inner_parts e ++ member_parts members
  inner_parts (InQuery negated e query) = e ∷ inner_parts e
  inner_parts _ = []

  pub operand_parts : LineOperands → List Expr
  operand_parts NoOperand = []
  operand_parts (Operand operator e others) = e ∷ inner_parts e ++ operand_parts others

  pub member_parts : Members → List Expr
  member_parts NoMember = []
  member_parts (NullMember others) = member_parts others
  member_parts (Member e others) = e ∷ inner_parts e ++ member_parts others

abbrev pub parts : Expr → List Expr
parts e = e ∷ inner_parts e

abbrev pub is_function : Expr → Bool
is_function CountRows = true
is_function (Function function distinct argument) = true
is_function _ = false

-- the set functions of an expression, in text order (ISO/IEC 9075:1992, 6.5)
abbrev pub functions_in : Expr → List Expr
functions_in e = filter is_function (parts e)

-- the values of a select list; an asterisk has none written
abbrev pub item_values : SelectList → List Expr
item_values Asterisk = []
item_values (Listed items) = map (λ (i : DerivedColumn). i.value) (listed items)

abbrev pub condition_values : SearchClause → List Expr
condition_values Absent = []
condition_values (Present e) = e ∷ []

-- ---- blocks

-- a block, and the tables of the blocks around it, the nearest first
pub record PlacedBlock : Type 0 where
  pub outer : Scopes
  pub block : QuerySpecification

-- the tables in which its names are sought
abbrev pub scopes_at : Database → PlacedBlock → Scopes
scopes_at db p = scope_of db (block_sources p.block) ∷ p.outer

-- the blocks inside an expression that stands in given scopes, by the words SELECT in text order
abbrev mutual
  pub placed_blocks_in : Database → Scopes → Expr → List PlacedBlock
  placed_blocks_in db scopes (Signed minus e) = placed_blocks_in db scopes e
  placed_blocks_in db scopes (Line first others) =
      placed_blocks_in db scopes first ++ placed_operand_blocks db scopes others
  placed_blocks_in db scopes (Not e) = placed_blocks_in db scopes e
  placed_blocks_in db scopes (Compare op left right) =
      placed_blocks_in db scopes left ++ placed_blocks_in db scopes right
  placed_blocks_in db scopes (CompareAll op quantifier e query) =
      placed_blocks_in db scopes e ++ block_blocks db scopes query
  placed_blocks_in db scopes (IsNull negated e) = placed_blocks_in db scopes e
  placed_blocks_in db scopes (Between negated e low high) =
      placed_blocks_in db scopes e ++ placed_blocks_in db scopes low ++ placed_blocks_in db scopes high
  placed_blocks_in db scopes (Like negated e pattern) = placed_blocks_in db scopes e
  placed_blocks_in db scopes (InList negated e members) =
      placed_blocks_in db scopes e ++ member_blocks db scopes members
  placed_blocks_in db scopes (InQuery negated e query) = placed_blocks_in db scopes e ++ block_blocks db scopes query
  placed_blocks_in db scopes (Exists query) = block_blocks db scopes query
  placed_blocks_in db scopes (Scalar query) = block_blocks db scopes query
  placed_blocks_in db scopes (Function function distinct argument) = placed_blocks_in db scopes argument
  placed_blocks_in db scopes _ = []

  pub placed_operand_blocks : Database → Scopes → LineOperands → List PlacedBlock
  placed_operand_blocks db scopes NoOperand = []
  placed_operand_blocks db scopes (Operand operator e others) =
      placed_blocks_in db scopes e ++ placed_operand_blocks db scopes others

  pub member_blocks : Database → Scopes → Members → List PlacedBlock
  member_blocks db scopes NoMember = []
  member_blocks db scopes (NullMember others) = member_blocks db scopes others
  member_blocks db scopes (Member e others) = placed_blocks_in db scopes e ++ member_blocks db scopes others

  pub item_blocks : Database → Scopes → Items → List PlacedBlock
  item_blocks db scopes NoItem = []
  item_blocks db scopes (AddItem value alias others) = placed_blocks_in db scopes value ++ item_blocks db scopes others

  pub list_blocks : Database → Scopes → SelectList → List PlacedBlock
  list_blocks db scopes Asterisk = []
  list_blocks db scopes (Listed items) = item_blocks db scopes items

  pub condition_blocks : Database → Scopes → SearchClause → List PlacedBlock
  condition_blocks db scopes Absent = []
  condition_blocks db scopes (Present e) = placed_blocks_in db scopes e

  -- a block, and the blocks inside it
  pub block_blocks : Database → Scopes → QuerySpecification → List PlacedBlock
  block_blocks db outer (Specification distinct list sources where' groups having) =
      let scopes : Scopes = scope_of db sources ∷ outer in
      record { outer = outer; block = Specification distinct list sources where' groups having }
      ∷ list_blocks db scopes list ++ condition_blocks db scopes where' ++ condition_blocks db scopes having

-- the blocks of a query, the outermost first
abbrev pub placed_blocks_of : Database → QuerySpecification → List PlacedBlock
placed_blocks_of db block = block_blocks db [] block
