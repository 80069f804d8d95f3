use Rattle.definitions.proofs.EstimateTheory.Classes.{classes}
use Rattle.definitions.proofs.estimates.classes_need_their_tables.Goals as goal

pub returns : goal.returns
returns c = classes
