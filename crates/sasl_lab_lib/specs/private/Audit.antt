-- When `scram explain --audit` ends with status 0, over the findings of `fe2o3_sasl`. No public clause cites this file.
use Rattle.std.specs.Prelude.{◌≡◌, Bool, true, false, ◌&&◌, List, map}
use Rattle.std.specs.List.{list_all, list_any}
use Rattle.fe2o3_scram.specs.ClientFirst.{default_rules}
use Rattle.fe2o3_scram.specs.Credentials.{serving}
use Rattle.fe2o3_sasl.specs.Verdicts.{AuditsEvents}
use Rattle.fe2o3_sasl.specs.Audit.{finding_of}
use Rattle.fe2o3_sasl.specs.Runs.{given, login_of}
use Rattle.fe2o3_sasl.specs.declared.audit.Finding.{Finding}
use Rattle.fe2o3_sasl.specs.declared.audit.FindingKind.{FindingKind}
use Rattle.fe2o3_sasl.specs.declared.audit.FindingKind.TheVariants as kinds
use Rattle.fe2o3_sasl.specs.declared.audit.Verdict.{Verdict}
use Rattle.fe2o3_sasl.specs.declared.audit.Verdict.TheVariants as verdicts
use Rattle.sasl_lab_lib.specs.declared.sides.Login.{Login}
use Rattle.sasl_lab_lib.specs.declared.sides.Sides.{Sides}

-- both sides mean one login
abbrev pub has_agreed : Verdict → Bool
has_agreed (verdicts.Agreed user nonce parameters) = true
has_agreed verdict = false

-- of this finding
abbrev pub means_one : Finding → Bool
means_one finding = has_agreed finding.verdict

-- the finding is of a verifier that the client took, by which it authenticates the server
abbrev pub verifying : FindingKind → Bool
verifying kinds.Verifier = true
verifying kinds.Proof = false

-- this finding
abbrev pub verifies : Finding → Bool
verifies finding = verifying finding.kind

-- each finding is agreed, and by one the client authenticates the server
abbrev pub is_whole : List Finding → Bool
is_whole findings = list_all means_one findings && list_any verifies findings

-- what is found of the bodies that both sides were given
abbrev pub FindsAll : Sides → Login → List Finding → Type 0
FindsAll sides login findings =
    AuditsEvents (login_of login.version login.user.now login.password.now login.limit)
    (map given sides.client.events.items) (serving default_rules login.credentials.now)
    (map given sides.server.events.items) (map finding_of findings)

-- what is found is whole
abbrev pub FindsWhole : Sides → Login → Type 0
FindsWhole sides login = (findings : List Finding) × FindsAll sides login findings × (is_whole findings ≡ true)
