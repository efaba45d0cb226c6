-- What the four messages name, where they are read.
use Rattle.std.proofs.Common.{◌≡◌, Bool, ℕ, List, Result, Ok, codes}
use Rattle.fe2o3_scram.specs.declared.scram_messages.server_rules.ServerRules.{ServerRules}
use Rattle.fe2o3_scram.specs.ClientFirst.{ClientFirst, ReadsClientFirst, NamesClientFirst}
use Rattle.fe2o3_scram.specs.ClientFinal.{Server, ClientFinal, ReadsClientFinal}
use Rattle.fe2o3_scram.specs.ServerFinal.{ReadsServerFinal}
use Rattle.fe2o3_scram.specs.ServerFirst.{Client, ServerFirst, ReadsServerFirst, NamesServerFirst}
use Rattle.fe2o3_scram.proofs.lemmas.messages.ClientFinalLemmas.{one_client_final}
use Rattle.fe2o3_scram.proofs.lemmas.messages.ClientFirstLemmas.{one_client_first}
use Rattle.fe2o3_scram.proofs.lemmas.messages.ServerFirstLemmas.{one_server_first}
use Rattle.fe2o3_scram.proofs.lemmas.messages.ServerFinalLemmas.{names_signature}
use Rattle.fe2o3_scram.specs.Texts.{HasBase64}

pub names_client_first : (rules : ServerRules) (text : List ℕ) (first : ClientFirst)
    → ReadsClientFirst rules text (Ok first) → NamesClientFirst rules text first
unfolding ReadsClientFirst
names_client_first rules text first reads = reads.1

pub names_server_first : (client : Client) (text : List ℕ) (first : ServerFirst)
    → ReadsServerFirst client text (Ok first) → NamesServerFirst text first
unfolding ReadsServerFirst
names_server_first client text first reads = reads.1

pub names_server_final : (strict : Bool) (signature text : List ℕ) (verified : Unit {0})
    → ReadsServerFinal strict signature text (Ok verified)
    → HasBase64 text 0 (codes "v=") signature
unfolding ReadsServerFinal
names_server_final strict signature text verified reads = names_signature strict text signature reads

-- one value each

same_value : {X F : Type 0} (x y : X) → ◌≡◌ {A = Result X F} (Ok x) (Ok y) → x ≡ y
same_value x y same = cc

pub one_client_first_value : (rules : ServerRules) (text : List ℕ) (first other : ClientFirst)
    → ReadsClientFirst rules text (Ok first) → ReadsClientFirst rules text (Ok other) → first ≡ other
one_client_first_value rules text first other reads too =
    same_value first other (one_client_first rules text (Ok first) (Ok other) reads too)

pub one_client_final_value : (server : Server) (text : List ℕ) (final other : ClientFinal)
    → ReadsClientFinal server text (Ok final) → ReadsClientFinal server text (Ok other) → final ≡ other
one_client_final_value server text final other reads too =
    same_value final other (one_client_final server text (Ok final) (Ok other) reads too)

pub one_server_first_value : (client : Client) (text : List ℕ) (first other : ServerFirst)
    → ReadsServerFirst client text (Ok first)
    → ReadsServerFirst client text (Ok other) → first ≡ other
one_server_first_value client text first other reads too =
    same_value first other (one_server_first client text (Ok first) (Ok other) reads too)
