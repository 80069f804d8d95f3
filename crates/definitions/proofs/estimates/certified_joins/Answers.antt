use Rattle.definitions.proofs.EstimateTheory.Joins.{joined, ordered, keyed, refused, paying, late}
use Rattle.definitions.proofs.estimates.certified_joins.Goals as goal

pub returns-clause-unordered : goal.returns-clause-unordered
returns-clause-unordered c version = joined version

pub returns-clause-ordered : goal.returns-clause-ordered
returns-clause-ordered c version = ordered version

pub returns-clause-key : goal.returns-clause-key
returns-clause-key c version = keyed version

pub returns-clause-product : goal.returns-clause-product
returns-clause-product c = paying

pub returns-clause-refused : goal.returns-clause-refused
returns-clause-refused c version = refused version

pub returns-clause-late : goal.returns-clause-late
returns-clause-late c plan inside = late plan inside
