-- The reserved words and their letters, as the look-up of this crate goes over them.
use Rattle.std.specs.Prelude.{ℕ, List, [], ◌∷◌, codes}
use Rattle.definitions.specs.Word as w

abbrev pub all_words : List w.Word
all_words =
    w.All ∷ w.And ∷ w.Any ∷ w.As ∷ w.Asc ∷ w.Avg ∷ w.Between ∷ w.By ∷ w.Char ∷ w.Character ∷ w.Clustered ∷ w.Count ∷
    w.Create ∷ w.Dec ∷ w.Decimal ∷ w.Desc ∷ w.Distinct ∷ w.Exists ∷ w.Explain ∷ w.From ∷ w.Group ∷ w.Having ∷ w.High ∷
    w.In ∷ w.Index ∷ w.Int ∷ w.Integer ∷ w.Is ∷ w.Key ∷ w.Keys ∷ w.Like ∷ w.Load ∷ w.Low ∷ w.Max ∷ w.Min ∷ w.Not ∷
    w.Null ∷ w.Numeric ∷ w.On ∷ w.Or ∷ w.Order ∷ w.Pages ∷ w.Primary ∷ w.Rows ∷ w.Select ∷ w.Set ∷ w.Smallint ∷
    w.Some ∷ w.Statistics ∷ w.Sum ∷ w.Table ∷ w.Unique ∷ w.Where ∷ []

-- a word in its letters
abbrev pub spelling : w.Word → List ℕ
spelling w.All = codes "ALL"
spelling w.And = codes "AND"
spelling w.Any = codes "ANY"
spelling w.As = codes "AS"
spelling w.Asc = codes "ASC"
spelling w.Avg = codes "AVG"
spelling w.Between = codes "BETWEEN"
spelling w.By = codes "BY"
spelling w.Char = codes "CHAR"
spelling w.Character = codes "CHARACTER"
spelling w.Clustered = codes "CLUSTERED"
spelling w.Count = codes "COUNT"
spelling w.Create = codes "CREATE"
spelling w.Dec = codes "DEC"
spelling w.Decimal = codes "DECIMAL"
spelling w.Desc = codes "DESC"
spelling w.Distinct = codes "DISTINCT"
spelling w.Exists = codes "EXISTS"
spelling w.Explain = codes "EXPLAIN"
spelling w.From = codes "FROM"
spelling w.Group = codes "GROUP"
spelling w.Having = codes "HAVING"
spelling w.High = codes "HIGH"
spelling w.In = codes "IN"
spelling w.Index = codes "INDEX"
spelling w.Int = codes "INT"
spelling w.Integer = codes "INTEGER"
spelling w.Is = codes "IS"
spelling w.Key = codes "KEY"
spelling w.Keys = codes "KEYS"
spelling w.Like = codes "LIKE"
spelling w.Load = codes "LOAD"
spelling w.Low = codes "LOW"
spelling w.Max = codes "MAX"
spelling w.Min = codes "MIN"
spelling w.Not = codes "NOT"
spelling w.Null = codes "NULL"
spelling w.Numeric = codes "NUMERIC"
spelling w.On = codes "ON"
spelling w.Or = codes "OR"
spelling w.Order = codes "ORDER"
spelling w.Pages = codes "PAGES"
spelling w.Primary = codes "PRIMARY"
spelling w.Rows = codes "ROWS"
spelling w.Select = codes "SELECT"
spelling w.Set = codes "SET"
spelling w.Smallint = codes "SMALLINT"
spelling w.Some = codes "SOME"
spelling w.Statistics = codes "STATISTICS"
spelling w.Sum = codes "SUM"
spelling w.Table = codes "TABLE"
spelling w.Unique = codes "UNIQUE"
spelling w.Where = codes "WHERE"
