-- What is known of the values of a query's expressions before any row is read.
use Rattle.std.specs.Prelude.{◌+◌, max, List, [], ◌∷◌, Option, Some, None, if◌then◌else◌}
use Rattle.definitions.specs.ValueType.{ValueType, NumberType, TextType, type_of}
use Rattle.definitions.specs.Table.{Database}
use Rattle.definitions.specs.Arithmetic.{quotient_scale}
use Rattle.definitions.specs.Binding.Scopes.{Scopes, Found, Resolution, Named, scope_of, are_there, all_columns}
use Rattle.definitions.specs.Binding.Scopes.{own_scope, resolve}
use Rattle.definitions.specs.Statement.{LineOperator, Plus, Minus, Times, SetFunction, Count, Avg, Expr, Column}
use Rattle.definitions.specs.Statement.{Numeral, String, Signed, Line, Scalar, CountRows, Function, LineOperands}
use Rattle.definitions.specs.Statement.{NoOperand, Operand, AddItem, NoItem, SelectList, Asterisk, Listed}
use Rattle.definitions.specs.Statement.{QuerySpecification, Specification}

abbrev pub found_type : Resolution → Option ValueType
found_type (Named level f) = Some (type_of f.type)
found_type _ = None

-- two operands of arithmetic together; what is not added, subtracted or multiplied is divided
abbrev pub joined_type : LineOperator → Option ValueType → Option ValueType → Option ValueType
joined_type Plus (Some (NumberType m)) (Some (NumberType n)) = Some (NumberType (max m n))
joined_type Minus (Some (NumberType m)) (Some (NumberType n)) = Some (NumberType (max m n))
joined_type Times (Some (NumberType m)) (Some (NumberType n)) = Some (NumberType (m + n))
joined_type _ (Some (NumberType m)) (Some (NumberType n)) = Some (NumberType (quotient_scale m))
joined_type _ _ _ = None

abbrev pub function_type : SetFunction → Option ValueType → Option ValueType
function_type Count type = Some (NumberType 0)
function_type Avg (Some (NumberType scale)) = Some (NumberType (quotient_scale scale))
function_type _ type = type

-- a list of one element has its type
abbrev pub single_type : List Found → Option ValueType
single_type (f ∷ []) = Some (type_of f.type)
single_type _ = None

-- the type of an expression's values; none where it is a condition, or where a name or a mixture of kinds leaves it
-- open
abbrev mutual
  pub expr_type : Database → Scopes → Expr → Option ValueType
  expr_type db scopes (Column ref) = found_type (resolve scopes ref)
  expr_type db scopes (Numeral units digits scale) = Some (NumberType scale)
  expr_type db scopes (String codes) = Some TextType
  expr_type db scopes (Signed minus e) = expr_type db scopes e
  expr_type db scopes (Line first others) = chain_type db scopes (expr_type db scopes first) others
  expr_type db scopes (Scalar query) = query_type db scopes query
  expr_type db scopes CountRows = Some (NumberType 0)
  expr_type db scopes (Function function distinct argument) = function_type function (expr_type db scopes argument)
  expr_type db scopes _ = None

  pub chain_type : Database → Scopes → Option ValueType → LineOperands → Option ValueType
  chain_type db scopes left NoOperand = left
  chain_type db scopes left (Operand operator e others) =
      chain_type db scopes (joined_type operator left (expr_type db scopes e)) others

  -- of a query's only result column; none where its tables are not there
  pub query_type : Database → Scopes → QuerySpecification → Option ValueType
  query_type db outer (Specification distinct list sources where' groups having) =
      if are_there (scope_of db sources ∷ []) then list_type db (scope_of db sources ∷ outer) list else None

  pub list_type : Database → Scopes → SelectList → Option ValueType
  list_type db scopes Asterisk = single_type (all_columns (own_scope scopes))
  list_type db scopes (Listed (AddItem e alias NoItem)) = expr_type db scopes e
  list_type db scopes _ = None
