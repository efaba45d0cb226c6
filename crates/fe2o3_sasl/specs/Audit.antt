-- Which finding (`Verdicts` of `fe2o3_sasl_core`, the project's own words) a value of the code is.
use Rattle.std.specs.Prelude.{option_map, string_bytes}
use Rattle.fe2o3_sasl.specs.declared.audit.Finding as code_finding
use Rattle.fe2o3_sasl.specs.declared.audit.FindingKind as code_kind
use Rattle.fe2o3_sasl.specs.declared.audit.FindingKind.TheVariants as kinds
use Rattle.fe2o3_sasl.specs.declared.audit.Parameters as code_parameters
use Rattle.fe2o3_sasl.specs.declared.audit.Verdict as code_verdict
use Rattle.fe2o3_sasl.specs.declared.audit.Verdict.TheVariants as verdicts
use Rattle.fe2o3_sasl_core.specs.Verdicts.{Parameters, Verdict, Agreed, SameMac, SameHash, OtherKey, FindingKind, OfVerifier, OfProof, Finding}

-- the parameters that the code's value holds
abbrev pub parameters_of : code_parameters.Parameters → Parameters
parameters_of values = record {
  full_nonce = string_bytes values.full_nonce;
  salt = values.salt.items;
  iterations = values.iterations;
}

-- the verdict that the code's value is
abbrev pub verdict_of : code_verdict.Verdict → Verdict
verdict_of (verdicts.Agreed user nonce parameters) =
    Agreed (string_bytes user) (string_bytes nonce) (option_map parameters_of parameters)
verdict_of (verdicts.SameMac client_key client_text server_key server_text) =
    SameMac client_key.items client_text.items server_key.items server_text.items
verdict_of (verdicts.SameHash client_key recovered) = SameHash client_key.items recovered.items
verdict_of verdicts.OtherKey = OtherKey

-- the kind that the code's value is
abbrev pub finding_kind : code_kind.FindingKind → FindingKind
finding_kind kinds.Verifier = OfVerifier
finding_kind kinds.Proof = OfProof

-- the finding that the code's value is
abbrev pub finding_of : code_finding.Finding → Finding
finding_of finding = record {
  kind = finding_kind finding.kind;
  client = finding.client;
  server = finding.server;
  verdict = verdict_of finding.verdict;
}
