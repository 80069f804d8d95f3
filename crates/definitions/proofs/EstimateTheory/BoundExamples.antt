-- The blocks of the worked examples are what binding makes of their queries. No claim rests on them.
use Rattle.std.proofs.Common.{refl}
use Rattle.definitions.specs.Examples.BoundJoins.{BlocksAreBound}

pub blocks_are_bound : BlocksAreBound
blocks_are_bound = record {
  match_binds = refl;
  between_binds = refl;
  either_binds = refl;
  quotient_binds = refl;
  both_bind = refl;
  descending_binds = refl;
  join_binds = refl;
  ordered_binds = refl;
  product_binds = refl;
  chain_binds = refl;
}
