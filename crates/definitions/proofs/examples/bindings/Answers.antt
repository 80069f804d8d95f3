use Rattle.definitions.proofs.BindingTheory.WorkedBindings.{subqueries_bind, forms_of_queries, refused_queries}
use Rattle.definitions.proofs.BindingTheory.WorkedForms.{formed_blocks}
use Rattle.definitions.proofs.examples.bindings.Goals as goal

pub returns-clause-subqueries : goal.returns-clause-subqueries
returns-clause-subqueries c = subqueries_bind

pub returns-clause-forms : goal.returns-clause-forms
returns-clause-forms c = forms_of_queries

pub returns-clause-refused : goal.returns-clause-refused
returns-clause-refused c = refused_queries

pub returns-clause-formed : goal.returns-clause-formed
returns-clause-formed c = formed_blocks
