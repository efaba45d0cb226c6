-- What a strict side has read has no attribute of RFC 5802 in the place of an extension.
use Rattle.std.proofs.Common.{◌≢◌, Bool, true, false, ℕ, List, Ok, inl, inr, refl}
use Rattle.std.specs.Prelude.{T, ◌||◌, is_some}
use Rattle.fe2o3_scram.specs.Agreement.{OneStrictSideOfTextsIsEnough, ServerKnows}
use Rattle.fe2o3_scram.specs.BoundChannels.{SetServersReject}
use Rattle.fe2o3_scram.specs.ClientFinal.{ClientFinal, ReadsClientFinal, ReadsFinalText, Server}
use Rattle.fe2o3_scram.specs.ClientFirst.{ClientFirst, ReadsClientFirst}
use Rattle.fe2o3_scram.specs.ChannelBinding.{ClientHeader, expected_header, is_strict, needs_strict}
use Rattle.fe2o3_scram.specs.Credentials.{Provider}
use Rattle.fe2o3_scram.specs.declared.scram_messages.client_channel.ClientChannel.{ClientChannel}
use Rattle.fe2o3_scram.specs.declared.scram_messages.client_channel.ClientChannel.TheVariants.{Absent, NotOffered, Bound}
use Rattle.fe2o3_scram.specs.declared.scram_messages.server_rules.ServerRules.{ServerRules}
use Rattle.fe2o3_scram.specs.Extensions.{HasAttributeFrom}
use Rattle.fe2o3_scram.specs.ScramClient.{holding}
use Rattle.fe2o3_scram.specs.ScramServer.{server_against}
use Rattle.fe2o3_scram.specs.ServerFirst.{Client, ReadsServerFirst, ServerFirst, challenge_of}
use Rattle.fe2o3_scram.specs.Texts.{base64_text}
use Rattle.fe2o3_scram.proofs.lemmas.texts.GrammarLemmas.{attribute_is_misplaced}

pub none_after_count : (client : Client) (text : List ℕ) (first : ServerFirst) → T client.strict
    → ReadsServerFirst client text (Ok first) → ¬ HasAttributeFrom 3 text
unfolding ReadsServerFirst
none_after_count client text first strict reads has =
    reads.0.1.1.1.1.1.1.1.1.1.1.1.1.0 (strict, attribute_is_misplaced 3 text has)

pub none_after_nonce : (rules : ServerRules) (text : List ℕ) (first : ClientFirst) → T (is_strict rules)
    → ReadsClientFirst rules text (Ok first) → ¬ HasAttributeFrom 2 first.bare
unfolding ReadsClientFirst
none_after_nonce rules text first strict reads has =
    reads.0.1.1.1.1.1.1.0
    (strict, (first.header, first.bare, reads.1.header, reads.1.bare, attribute_is_misplaced 2 first.bare has))

none_in_text : (header : ClientHeader) (strict : Bool) (nonce text : List ℕ) (final : ClientFinal) → T strict
    → ReadsFinalText header strict nonce text (Ok final) → ¬ HasAttributeFrom 2 final.without
unfolding ReadsFinalText
none_in_text header strict nonce text final is reads has = reads.0.1.1.1.1.1.1.1.1.0
    (is, (final.without, base64_text final.proof, reads.1.proof.1, attribute_is_misplaced 2 final.without has))

pub none_before_proof : (server : Server) (text : List ℕ) (final : ClientFinal) → T server.strict
    → ReadsClientFinal server text (Ok final) → ¬ HasAttributeFrom 2 final.without
unfolding ReadsClientFinal
none_before_proof server text final strict reads =
    none_in_text server.header server.strict server.nonce text final strict reads.0

-- a side that is strict is strict, whether it has to be or not
pub strict_or : (bound strict : Bool) → T strict → T (bound || strict)
strict_or true strict is = tt
strict_or false strict is = is

-- a side is strict that has a header with a channel, whether it is set to or not
pub strict_of_channel : (header : ClientHeader) (strict : Bool) → header.channel ≢ Absent
    → T (needs_strict header || strict)
strict_of_channel header strict has = go header.channel has
  where
    go : (channel : ClientChannel) → channel ≢ Absent
        → T (needs_strict (record { channel = channel; acts_for = header.acts_for }) || strict)
    go Absent other = absurd (other refl)
    go NotOffered other = tt
    go (Bound binding) other = tt

-- what a strict server has read
pub one_strict_server : (provider : Provider) (its init response : List ℕ) (server : ServerKnows provider its init response)
    → T (is_strict provider.rules)
    → (¬ HasAttributeFrom 2 server.client.bare) × (¬ HasAttributeFrom 2 server.final.without)
one_strict_server provider its init response server strict =
    let challenge = challenge_of server.client (base64_text its) server.stored in (
      none_after_nonce provider.rules init server.client strict server.reads_init,
      none_before_proof (server_against provider.version provider.rules provider.rights challenge server.stored) response
          server.final
          (strict_or (needs_strict (expected_header provider.rules.channels server.client.header))
          (is_strict provider.rules) strict) server.reads,
    )

pub one_strict_side_of_texts_is_enough : OneStrictSideOfTextsIsEnough
one_strict_side_of_texts_is_enough side provider own text its init response client server (inl strict) =
    inl (none_after_count (holding side (base64_text own)) text client.first strict client.reads)
one_strict_side_of_texts_is_enough side provider own text its init response client server (inr strict) =
    inr (one_strict_server provider its init response server strict)

pub set_servers_reject : SetServersReject
set_servers_reject rules is = go (is_some rules.channels) rules.accept_authzid rules.reject_misplaced rules.strict is
  where
    go : (binds accepts rejects strict : Bool) → T (rejects || binds) → T (binds || (accepts || (rejects || strict)))
    go true accepts rejects strict set = tt
    go false true rejects strict set = tt
    go false false true strict set = tt
    go false false false strict set = absurd set
