use Rattle.definitions.proofs.Grammar.{within_alike, column_alike, name_alike, member_alike, item_alike, source_alike, reference_alike, key_alike}
use Rattle.definitions.proofs.ReadLists.{read_to_its_limit}
use Rattle.definitions.proofs.lists_are_read_to_their_limits.Goals as goal

pub returns : goal.returns
returns c = record {
  columns = read_to_its_limit _ column_alike;
  names = read_to_its_limit _ name_alike;
  members = λ n. read_to_its_limit _ (member_alike (within_alike n n));
  items = λ n. read_to_its_limit _ (item_alike (within_alike n n));
  sources = read_to_its_limit _ source_alike;
  groups = read_to_its_limit _ reference_alike;
  keys = read_to_its_limit _ key_alike;
}
