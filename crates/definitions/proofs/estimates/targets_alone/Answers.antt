use Rattle.definitions.proofs.EstimateTheory.OneTable.{one_index_targets, two_columns_targets, descending_target, other_targets}
use Rattle.definitions.proofs.EstimateTheory.FullProducts.{products}
use Rattle.definitions.proofs.estimates.targets_alone.Goals as goal

pub returns-clause-one_index : goal.returns-clause-one_index
returns-clause-one_index c version = one_index_targets version

pub returns-clause-two_columns : goal.returns-clause-two_columns
returns-clause-two_columns c = two_columns_targets

pub returns-clause-backward : goal.returns-clause-backward
returns-clause-backward c = descending_target

pub returns-clause-products : goal.returns-clause-products
returns-clause-products c = products

pub returns-clause-refused : goal.returns-clause-refused
returns-clause-refused c version = other_targets version
