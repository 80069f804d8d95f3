-- What a certificate's text refers to (own): a block of a query.
use Rattle.std.specs.Prelude.{ℕ, List, [], ◌∷◌, get_or, nat_eq, Bool, false}
use Rattle.definitions.specs.Plans.Space.{Space}
use Rattle.definitions.specs.Estimates.Version.{Version}

pub record CertifiedBlock : Type 0 where
  pub version : Version
  -- the block's number in the query
  pub number : ℕ
  pub space : Space
  -- for each table its indexes by number: the numbers of their columns
  pub indexes : List (List (List ℕ))

abbrev pub indexes_of : CertifiedBlock → ℕ → List (List ℕ)
indexes_of block table = get_or block.indexes table []

-- an index is on one column alone
abbrev pub is_on_column : ℕ → List ℕ → Bool
is_on_column column (own ∷ []) = nat_eq own column
is_on_column column _ = false
