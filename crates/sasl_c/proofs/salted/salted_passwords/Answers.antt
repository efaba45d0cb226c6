use Rattle.sasl_c.proofs.SaltedLemmas.{keys_are_of_password, record_is_of_password, salted_verifies_as_password}
use Rattle.sasl_c.proofs.salted.salted_passwords.Goals as goal

pub returns-clause-keys : goal.returns-clause-keys
returns-clause-keys c = keys_are_of_password

pub returns-clause-records : goal.returns-clause-records
returns-clause-records c = record_is_of_password

pub returns-clause-verified : goal.returns-clause-verified
returns-clause-verified c = salted_verifies_as_password
