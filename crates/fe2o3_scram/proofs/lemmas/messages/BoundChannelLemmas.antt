-- That an attacker cannot make a client that has a channel skip channel binding, and what a proof means that a server
-- accepted.
use Rattle.std.proofs.Common.{◌≡◌, ◌≢◌, ◌<◌, ◌^◌, Bool, ℕ, List, [], ◌∷◌, ◌++◌, Option, Some, None, length, refl, sym, ap, ◌∙◌, subst, Ok, inl, append_assoc, codes}
use Rattle.std.specs.Fmt.{decimal}
use Rattle.std.specs.Prelude.{slice_get}
use Rattle.std.proofs.lemmas.Option.{none-some, same_Some}
use Rattle.fe2o3_scram.specs.Agreement.{ClientKnows, NoneMisplacedInTexts, ServerKnows, challenge_known, client_auth_message, keys_known, server_auth_message}
use Rattle.fe2o3_scram.specs.BoundChannels.{BindOne, BindOneChannel, EqualTextsBindOneChannel, ForeignClientsBindOneChannel, ForeignServersExpectThis, ShownTextsAgree, ShownTextsBindOneChannel, UnofferedTextsDiffer, VerifiedTextsBindOneChannel}
use Rattle.fe2o3_scram.specs.ChannelBinding.{Gs2Header, HoldsHeaderBytes, TakesFlag, cbind_data, cbind_input, data_bytes, data_of_kind, expected_channel, flag_of, known_data}
use Rattle.fe2o3_scram.specs.ClientFinal.{ClientFinal, Meets, ReadsClientFinal, Server}
use Rattle.fe2o3_scram.specs.ClientFirst.{ClientFirst, ReadsClientFirst}
use Rattle.fe2o3_scram.specs.Credentials.{Provider}
use Rattle.fe2o3_scram.specs.Escape.{escaped}
use Rattle.fe2o3_scram.specs.Keys.{auth_message}
use Rattle.fe2o3_scram.specs.declared.channel_binding.ChannelBinding.{ChannelBinding}
use Rattle.fe2o3_scram.specs.declared.channel_binding.ChannelBindings.{ChannelBindings}
use Rattle.fe2o3_scram.specs.declared.channel_binding.ChannelData.{ChannelData}
use Rattle.fe2o3_scram.specs.declared.scram_messages.client_channel.ClientChannel.{ClientChannel}
use Rattle.fe2o3_scram.specs.declared.scram_messages.client_channel.ClientChannel.TheVariants.{Absent, NotOffered, Bound}
use Rattle.fe2o3_scram.specs.declared.hmac.ScramVersion.{ScramVersion}
use Rattle.fe2o3_scram.specs.declared.scram_messages.channel_binding_flag.ChannelBindingFlag.{ChannelBindingFlag}
use Rattle.fe2o3_scram.specs.declared.scram_messages.channel_binding_flag.ChannelBindingFlag.TheVariants.{ClientSupports}
use Rattle.fe2o3_scram.specs.Hmac.{digest, digest_len, exclusive_or, hmac_of}
use Rattle.fe2o3_scram.specs.Laws.{HoldsBytes}
use Rattle.fe2o3_scram.specs.ScramClient.{ClientSide, header_in, holding}
use Rattle.fe2o3_scram.specs.ScramServer.{server_against}
use Rattle.fe2o3_scram.specs.Texts.{Part, Parts, base64_text}
use Rattle.fe2o3_scram.proofs.lemmas.hashes.DigestLemmas.{length-hmac_of}
use Rattle.fe2o3_scram.proofs.lemmas.hashes.OnePadLemmas.{one_pad}
use Rattle.fe2o3_scram.proofs.lemmas.messages.AgreementLemmas.{agree, client_has, client_parts, expected, same_binding, same_login, server_has, server_parts, server_knows, sized_version, verified_texts_agree}
use Rattle.fe2o3_scram.proofs.lemmas.messages.ExchangeLemmas.{length-exclusive_or}
use Rattle.fe2o3_scram.proofs.lemmas.messages.OneValueLemmas.{names_client_first}
use Rattle.fe2o3_scram.proofs.lemmas.messages.StrictSideLemmas.{none_after_count, one_strict_server, one_strict_side_of_texts_is_enough, strict_of_channel}
use Rattle.fe2o3_scram.proofs.lemmas.messages.HeaderLemmas.{IsBytes-cbind_input, one_binding}
use Rattle.fe2o3_scram.proofs.lemmas.texts.Base64Lemmas.{one_spelled}
use Rattle.fe2o3_scram.proofs.lemmas.texts.ExtensionLemmas.{binding_of_client, binding_of_server, none_after_three, none_after_two}
use Rattle.fe2o3_scram.proofs.lemmas.texts.JoinedTextLemmas.{same_parts, three_joined}
use Rattle.fe2o3_scram.proofs.lemmas.texts.PartsLemmas.{pieces, Parts-pieces}

-- ---- the proof

accepted_proof : (server : Server) (text : List ℕ) (final : ClientFinal) → ReadsClientFinal server text (Ok final)
    → (length final.proof ≡ digest_len server.version) × Meets server final
unfolding ReadsClientFinal
accepted_proof server text final reads = (reads.1, reads.2.0)

-- a key, masked by one value, which another unmasks to the same key
one_mac : (version : ScramVersion) (stored key proof auth its : List ℕ) → length key ≡ digest_len version
    → exclusive_or key (hmac_of version stored auth) ≡ proof
    → key ≡ exclusive_or proof (hmac_of version stored its)
    → hmac_of version stored auth ≡ hmac_of version stored its
one_mac version stored key proof auth its sized shows back =
    one_pad key (hmac_of version stored auth) (hmac_of version stored its)
    (sized ∙ sym (length-hmac_of version stored auth)) (sized ∙ sym (length-hmac_of version stored its))
    (ap (λ (z : List ℕ). exclusive_or z (hmac_of version stored its)) shows ∙ sym back)

pub shown_texts_agree : ShownTextsAgree
shown_texts_agree side provider own text its init response verifier client accepted =
    let server = (server_knows provider its init response verifier accepted).0 in
    let keys = keys_known client in
    let stored = server.stored.stored_key in
    let met = accepted_proof (server_against provider.version provider.rules provider.rights (challenge_known server)
    server.stored) response server.final server.reads in (
      server,
      λ holds sized is shows.
          let mac = hmac_of keys.version (digest keys.version keys.client_key) (client_auth_message client) in
          let long : length keys.client_key ≡ length mac =
          sized.0 ∙ sym (length-hmac_of keys.version (digest keys.version keys.client_key) (client_auth_message client)) in
          let version : keys.version ≡ provider.version = sized_version keys.version provider.version
          (sym (length-exclusive_or keys.client_key mac long ∙ sized.0) ∙ (ap length shows ∙ met.0)) in
          let key_here : length keys.client_key ≡ digest_len provider.version = sized.0 ∙ ap digest_len version in
          let here : exclusive_or keys.client_key (hmac_of provider.version stored (client_auth_message client))
          ≡ server.final.proof =
          subst (λ (kept : List ℕ). exclusive_or keys.client_key
          (hmac_of provider.version kept (client_auth_message client)) ≡ server.final.proof) is
          (subst (λ (of : ScramVersion). exclusive_or keys.client_key (hmac_of of (digest keys.version keys.client_key)
          (client_auth_message client)) ≡ server.final.proof) version shows) in
          record {
            version = version;
            agrees = λ same. agree side provider own text its init response client server holds version same;
            macs = λ back. one_mac provider.version stored keys.client_key server.final.proof
                (client_auth_message client) (server_auth_message server) key_here here back;
            hashes = ap (λ (of : ScramVersion). digest of keys.client_key) (sym version) ∙ (is ∙ sym met.1);
          },
    )

-- ---- the channel

-- a client that has a channel, and a server that takes its flag and no `y,,` and expects its data
pub one_channel : (channel : ClientChannel) (channels : Option ChannelBindings) (accept_y : Bool)
    (flag : ChannelBindingFlag) → channel ≢ Absent → ¬ TakesFlag channels accept_y ClientSupports
    → flag_of channel ≡ flag → TakesFlag channels accept_y flag
    → cbind_data channel ≡ cbind_data (expected_channel channels flag)
    → (binding : ChannelBinding) × (channel ≡ Bound binding) × ((known : ChannelBindings) × (its : ChannelData)
    × (channels ≡ Some known) × (data_of_kind known binding.kind ≡ Some its)
    × (data_bytes its ≡ data_bytes binding.cbind_data))
one_channel Absent channels accept_y flag has refuses same takes one = absurd (has refl)
one_channel NotOffered channels accept_y flag has refuses same takes one =
    absurd (refuses (subst (TakesFlag channels accept_y) (sym same) takes))
one_channel (Bound binding) None accept_y flag has refuses same takes one =
    absurd (subst (TakesFlag None accept_y) (sym same) takes)
one_channel (Bound binding) (Some known) accept_y flag has refuses same takes one =
    let kept = subst (TakesFlag (Some known) accept_y) (sym same) takes in
    let expected : data_bytes binding.cbind_data ≡ data_bytes (known_data (data_of_kind known binding.kind)) =
    one ∙ ap (λ (sent : ChannelBindingFlag). cbind_data (expected_channel (Some known) sent)) (sym same) in
    let its : data_bytes binding.cbind_data ≡ data_bytes kept.0 =
    expected ∙ ap (λ (z : Option ChannelData). data_bytes (known_data z)) kept.1 in
    (binding, refl, (known, kept.0, refl, kept.1, sym its))

-- a client that says `y,,` has a channel
unoffered_not_absent : NotOffered ≢ Absent
unoffered_not_absent is = cc

-- and binds none
unoffered_not_bound : (binding : ChannelBinding) → NotOffered ≢ Bound binding
unoffered_not_bound binding is = cc

-- a client with the flag and the data that the server read
bound_by : (channel : ClientChannel) (provider : Provider) (init : List ℕ) (client : ClientFirst)
    → ReadsClientFirst provider.rules init (Ok client) → channel ≢ Absent
    → ¬ TakesFlag provider.rules.channels provider.rules.accept_cbind_flag_y ClientSupports
    → flag_of channel ≡ client.header.flag
    → cbind_data channel ≡ cbind_data (expected_channel provider.rules.channels client.header.flag)
    → BindOne channel provider
bound_by channel provider init client reads has refuses same one =
    let found = one_channel channel provider.rules.channels provider.rules.accept_cbind_flag_y client.header.flag has
    refuses same (names_client_first provider.rules init client reads).header.0 one in (
      found.0,
      found.1,
      record {
        channels = found.2.0;
        known = found.2.1;
        binds = found.2.2;
        kind = found.2.3;
        same = found.2.4;
      },
    )

-- where one side received no misplaced attribute
bind_one : (side : ClientSide) (provider : Provider) (own text its init response : List ℕ)
    (client : ClientKnows side own text) (server : ServerKnows provider its init response)
    → side.channel ≢ Absent → ¬ TakesFlag provider.rules.channels provider.rules.accept_cbind_flag_y ClientSupports
    → HoldsBytes (server.client.user, server.stored) → HoldsHeaderBytes (header_in side)
    → NoneMisplacedInTexts client server → client_auth_message client ≡ server_auth_message server
    → BindOneChannel side provider
bind_one side provider own text its init response client server has refuses holds bytes apart same =
    let values = same_login (header_in side) provider.rules side.user (base64_text own) text client.first provider.version
    server.client (base64_text its) server.stored server.final holds (client_has side own text client)
    (server_has provider its init response server) same in
    bound_by side.channel provider init server.client server.reads_init has refuses
    (ap (λ (header : Gs2Header). header.flag) (values.header bytes apart)) (values.channel bytes apart)

pub equal_texts_bind_one_channel : EqualTextsBindOneChannel
equal_texts_bind_one_channel side provider own text its init response client server has refuses holds bytes =
    bind_one side provider own text its init response client server has refuses holds bytes
    (one_strict_side_of_texts_is_enough side provider own text its init response client server
    (inl (strict_of_channel (header_in side) side.strict has)))

-- the parts of an AuthMessage whose last text begins with this part
cut_at : (bare text without q : List ℕ) → Part without 0 q
    → (us vs : List (List ℕ)) × Parts (auth_message bare text without) (us ++ q ∷ vs)
cut_at bare text without q begins = go begins.0 begins.1 begins.2
  where
    go : (parts : List (List ℕ)) → Parts without parts → slice_get parts 0 ≡ Some q
        → (us vs : List (List ℕ)) × Parts (auth_message bare text without) (us ++ q ∷ vs)
    go [] are at = absurd (none-some q at)
    go (x ∷ parts) are at =
        let whole = three_joined bare text without (pieces bare) (pieces text) (x ∷ parts) (Parts-pieces bare)
        (Parts-pieces text) are in (
          pieces bare ++ pieces text,
          parts,
          subst (λ (z : List (List ℕ)). Parts (auth_message bare text without) z)
              (sym (append_assoc (pieces bare) (pieces text) (x ∷ parts))
              ∙ ap (λ (z : List ℕ). (pieces bare ++ pieces text) ++ z ∷ parts) (same_Some x q at)) whole,
        )

pub foreign_clients_bind_one_channel : ForeignClientsBindOneChannel
foreign_clients_bind_one_channel header bare text without provider its init response server has refuses strict holds bytes
    begins same =
    let small : server.stored.count < 2 ^ 32 = holds.0 in
    let client = server.client in
    let theirs = server_has provider its init response server in
    let right = server_parts provider.version provider.rules client (base64_text its) server.stored server.final small
    theirs in
    let q = codes "c=" ++ base64_text (cbind_input header) in
    let left = cut_at bare text without q begins in
    let parts = same_parts (server_auth_message server) (auth_message bare text without) _ _ (sym same) right.message left.2 in
    let challenge = challenge_known server in
    let apart = one_strict_server provider its init response server strict in
    let one = binding_of_server (escaped client.user) client.nonce challenge.nonce (base64_text server.stored.salt)
    (decimal server.stored.count) (base64_text (expected provider.rules client)) right.extra right.middle left.0 left.1 q
    (base64_text (cbind_input header), refl) (none_after_two client.bare _ _ right.extra right.bare apart.0)
    (none_after_two server.final.without _ _ right.middle right.rest apart.1) parts in
    let spelled : base64_text (cbind_input header) ≡ base64_text (expected provider.rules client) = cc in
    let binding = same_binding header provider.rules client bytes theirs.names.binding.0 spelled in
    bound_by header.channel provider init client server.reads_init has refuses
    (ap (λ (z : Gs2Header). z.flag) binding.0) binding.1

pub foreign_servers_expect_this : ForeignServersExpectThis
foreign_servers_expect_this side own text client expects bare first without has bytes its begins same =
    let header = header_in side in
    let ours = client_has side own text client in
    let left = client_parts header side.user (base64_text own) text client.first ours in
    let q = codes "c=" ++ base64_text (cbind_input expects) in
    let right = cut_at bare first without q begins in
    let parts = same_parts (client_auth_message client) (auth_message bare first without) _ _ same left.2 right.2 in
    let none = none_after_count (holding side (base64_text own)) text client.first (strict_of_channel header side.strict has)
    client.reads in
    let one = binding_of_client (escaped side.user) (base64_text own) client.first.nonce (base64_text client.first.salt)
    ours.names.count.0 (base64_text (cbind_input header)) left.0 right.0 right.1 q
    (base64_text (cbind_input expects), refl) (none_after_three text _ _ _ left.0 left.1 none) parts in
    let spelled : base64_text (cbind_input header) ≡ base64_text (cbind_input expects) = cc in
    one_binding header expects
    (one_spelled (base64_text (cbind_input header)) (cbind_input header) (cbind_input expects)
    (IsBytes-cbind_input header bytes, refl) (IsBytes-cbind_input expects its, spelled))

pub unoffered_texts_differ : UnofferedTextsDiffer
unoffered_texts_differ side provider own text its init response client server says refuses holds bytes same =
    let other : side.channel ≢ Absent = λ is. unoffered_not_absent (sym says ∙ is) in
    let found = equal_texts_bind_one_channel side provider own text its init response client server other refuses holds
    bytes same in
    unoffered_not_bound found.0 (sym says ∙ found.1)

pub verified_texts_bind_one_channel : VerifiedTextsBindOneChannel
verified_texts_bind_one_channel side provider own text last its init response verifier has refuses verified accepted
    part =
    let both = verified_texts_agree side provider own text last its init response verifier verified accepted part in (
      both.0,
      both.1,
      λ holds bytes. (
        equal_texts_bind_one_channel side provider own text its init response both.0 both.1 has refuses holds bytes,
        (both.2 holds).1,
      ),
    )

pub shown_texts_bind_one_channel : ShownTextsBindOneChannel
shown_texts_bind_one_channel side provider own text its init response verifier client has refuses accepted =
    let both = shown_texts_agree side provider own text its init response verifier client accepted in (
      both.0,
      λ holds bytes sized is shows. (
        both.1 holds sized is shows,
        equal_texts_bind_one_channel side provider own text its init response client both.0 has refuses holds bytes,
      ),
    )
