use Rattle.definitions.proofs.QueryTheory.Lemmas as q
use Rattle.definitions.proofs.QueryTheory.GroupClasses as g
use Rattle.definitions.proofs.queries.groups_are_all.Goals as goal

pub returns-clause-all : goal.returns-clause-all
returns-clause-all c columns cs = q.groups_are_all columns cs

pub returns-clause-classes : goal.returns-clause-classes
returns-clause-classes c columns cs = g.groups_are_classes columns cs
