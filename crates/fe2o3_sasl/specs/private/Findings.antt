-- The findings of two receipts. Only contracts of private functions cite this.
use Rattle.std.specs.Prelude.{ℕ, Bool, List, [], ◌∷◌, map, option_map, if◌then◌else◌, nat_eq, string_bytes, Vec}
use Rattle.std.specs.List.{flat_map}
use Rattle.std.specs.BTreeMap.{BTreeMap, get_by}
use Rattle.std.specs.Borrow.{Bor}
use Rattle.std.specs.Cmp.Lexicographic.{pointwise, slice_cmp}
use Rattle.std.specs.Option.{option_map_or}
use Rattle.std.specs.Ordering.{nat_cmp}
use Rattle.std.specs.declared.alloc.Global.{Global}
use Rattle.fe2o3_scram.specs.Hmac.{digest_bytes}
use Rattle.fe2o3_sasl_core.specs.Verdicts.{Verdict, Agreed, SameMac, SameHash, OtherKey, FindingKind, OfVerifier, OfProof, Finding}
use Rattle.fe2o3_sasl.specs.Audit.{parameters_of}
use Rattle.fe2o3_sasl.specs.declared.audit.receipts.ClientReceipt as code_client
use Rattle.fe2o3_sasl.specs.declared.audit.receipts.ServerReceipt as code_server
use Rattle.fe2o3_sasl.specs.private.Receipts.{ClientReceipt, ServerReceipt}

-- ---- what the private types hold

-- the receipt that a value of a client is
abbrev pub client_receipt : code_client.ClientReceipt → ClientReceipt
client_receipt receipt = record {
  place = receipt.place;
  shown = receipt.shown.items;
  message = receipt.message.items;
  client_key = receipt.keys.client_key;
  stored_key = digest_bytes receipt.stored_key;
  server_key = receipt.keys.server_key;
}

-- the receipt that a value of a server is
abbrev pub server_receipt : code_server.ServerReceipt → ServerReceipt
server_receipt receipt = record {
  place = receipt.place;
  verifier = receipt.verifier.items;
  proof = receipt.proof.items;
  message = receipt.message.items;
  user = string_bytes receipt.username;
  nonce = string_bytes receipt.client_nonce;
  parameters = option_map parameters_of receipt.parameters;
  stored_key = receipt.stored_key.items;
  server_key = receipt.server_key.items;
  recovered = receipt.recovered_key.items;
}

-- ---- what is found

-- the texts are equal
abbrev pub same : List ℕ → List ℕ → Bool
same left right = pointwise nat_eq left right

-- the verdict with the values that both sides agree on
abbrev pub agreed_on : ServerReceipt → Verdict
agreed_on server = Agreed server.user server.nonce server.parameters

-- the verdict on a verifier
abbrev pub verifier_verdict : ClientReceipt → ServerReceipt → Verdict
verifier_verdict client server =
    if same client.message server.message then agreed_on server
    else SameMac client.server_key client.message server.server_key server.message

-- the verdict on a proof
abbrev pub proof_verdict : ClientReceipt → ServerReceipt → Verdict
proof_verdict client server =
    if same client.stored_key server.stored_key
    then (if same client.message server.message then agreed_on server
    else (if same client.client_key server.recovered
    then SameMac server.stored_key client.message server.stored_key server.message
    else SameHash client.client_key server.recovered))
    else OtherKey

-- the client took the verifier that the server gave
abbrev pub is_taken : ClientReceipt → ServerReceipt → Bool
is_taken client server = same client.shown server.verifier

-- the server accepted the proof that the client showed
abbrev pub is_shown : ClientReceipt → ServerReceipt → Bool
is_shown client server = same client.shown server.proof

-- the finding of a verifier
abbrev pub verifier_finding : ClientReceipt → ServerReceipt → Finding
verifier_finding client server = record {
  kind = OfVerifier;
  client = client.place;
  server = server.place;
  verdict = verifier_verdict client server;
}

-- the finding of a proof
abbrev pub proof_finding : ClientReceipt → ServerReceipt → Finding
proof_finding client server = record {
  kind = OfProof;
  client = client.place;
  server = server.place;
  verdict = proof_verdict client server;
}

-- the findings of two receipts
abbrev pub found : {A B F : Type 0} → (A → B → Bool) → (A → B → F) → A → B → List F
found meets finding left right = if meets left right then (finding left right ∷ []) else []

-- the findings of two lists of receipts
abbrev pub findings_of : {A B F : Type 0} → (A → B → Bool) → (A → B → F) → List A → List B → List F
findings_of meets finding lefts rights = flat_map (λ left. flat_map (found meets finding left) rights) lefts

-- ---- the same for both kinds, with the server's receipts in an index

-- the bytes of the server that a finding of this kind compares with the client's
abbrev pub compared_by : FindingKind → ServerReceipt → List ℕ
compared_by OfVerifier server = server.verifier
compared_by OfProof server = server.proof

-- the receipts meet in the compared bytes
abbrev pub meets_on : FindingKind → ClientReceipt → ServerReceipt → Bool
meets_on kind client server = same client.shown (compared_by kind server)

-- the verdict of a finding of this kind
abbrev pub verdict_on : FindingKind → ClientReceipt → ServerReceipt → Verdict
verdict_on OfVerifier client server = verifier_verdict client server
verdict_on OfProof client server = proof_verdict client server

-- the finding of this kind
abbrev pub finding_on : FindingKind → ClientReceipt → ServerReceipt → Finding
finding_on kind client server = record {
  kind = kind;
  client = client.place;
  server = server.place;
  verdict = verdict_on kind client server;
}

-- the receipts that an index has at these bytes
abbrev pub row_at : BTreeMap (Bor (List ℕ)) (Vec (Bor code_server.ServerReceipt) Global) → List ℕ → List ServerReceipt
row_at index bytes = map (λ server. server_receipt server.now)
    (option_map_or (λ row. row.items) (get_by (λ key. slice_cmp nat_cmp bytes key.now) index) [])
