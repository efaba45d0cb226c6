use Rattle.std.proofs.Common.{◌≡◌, drop}
use Rattle.fe2o3_scram.specs.Credentials.{record_at}
use Rattle.example_quick_start.proofs.own_store.accounts.Accounts.account.Given as goal

-- among the accounts that are left the name has the record that it has among all
abbrev pub invariant-loop-account : goal.invariant-loop-account
invariant-loop-account l =
    record_at (drop l.account-index l.self.records) l.username ≡ record_at l.self.records l.username
