use Rattle.definitions.proofs.CertificateTheory.Examples.{faults_of_states, faults_of_numbers, faults_of_form, beginnings, words_counted, version_in_form}
use Rattle.definitions.proofs.certificates.worked_faults.Goals as goal

pub returns-clause-states : goal.returns-clause-states
returns-clause-states c = faults_of_states

pub returns-clause-numbers : goal.returns-clause-numbers
returns-clause-numbers c = faults_of_numbers

pub returns-clause-form : goal.returns-clause-form
returns-clause-form c = faults_of_form

pub returns-clause-beginnings : goal.returns-clause-beginnings
returns-clause-beginnings c = beginnings

pub returns-clause-words : goal.returns-clause-words
returns-clause-words c = words_counted

pub returns-clause-version : goal.returns-clause-version
returns-clause-version c = version_in_form
