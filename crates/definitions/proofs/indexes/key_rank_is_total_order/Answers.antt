use Rattle.definitions.proofs.KeyRanks.{key_itself, key_turned, key_chain, key_alike}
use Rattle.definitions.proofs.indexes.key_rank_is_total_order.Goals as goal

pub returns : goal.returns
returns c = record { itself = key_itself; turned = key_turned; chain = key_chain; alike = key_alike }
