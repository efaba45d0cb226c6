-- What the bytes of two connections say of their channels.
use Rattle.std.proofs.Common.{◌≡◌, ◌≢◌, ◌⊎◌, ℕ, inl, inr}
use Rattle.fe2o3_scram.specs.BoundChannels.{BindOne}
use Rattle.fe2o3_scram.specs.ChannelBinding.{AcceptsFlag}
use Rattle.fe2o3_scram.specs.Credentials.{Provider}
use Rattle.fe2o3_scram.specs.declared.scram_messages.channel_binding_flag.ChannelBindingFlag.TheVariants.{ClientSupports}
use Rattle.fe2o3_scram.specs.declared.scram_messages.client_channel.ClientChannel.TheVariants.{Absent}
use Rattle.fe2o3_sasl_core.specs.ClientHistory.{Answering, AnswersAt}
use Rattle.fe2o3_sasl_core.specs.Events.{Login, IsLogin}
use Rattle.fe2o3_sasl_core.specs.Headline.{VerifierAgrees}
use Rattle.fe2o3_sasl_core.specs.Laws.{HoldsRecords}
use Rattle.fe2o3_sasl_core.specs.ServerHistory.{Accepted}
use Rattle.fe2o3_sasl_core.specs.TwoSides.{OkAt, Shows, client_message, server_message}
use Rattle.fe2o3_sasl_core.specs.Verdicts.{Verdict, Agreed, SameMac, SameHash, OtherKey, JudgesProof}
use Rattle.fe2o3_sasl_core.proofs.lemmas.two_sides.BoundSideLemmas.{equal_messages_bind_one_channel}
use Rattle.fe2o3_sasl_core.proofs.lemmas.two_sides.ReportedAnswerLemmas.{signed_position}
use Rattle.fe2o3_sasl.proofs.lemmas.two_sides.VerdictLemmas.{same_or_not}
use Rattle.connection_laws.specs.Pairs.{AcceptedProofsBindOneChannel, BindOneOrCollide, ClientOf, IfAgreed, LoggedInClientsBindOneChannel, ServerOf, sides}
use Rattle.connection_laws.proofs.lemmas.PairLemmas.{accepted_proofs_are_judged, held, logged_in_clients_agree}

module _ (login : Login) (provider : Provider) (client : ClientOf login) (server : ServerOf provider) (is : IsLogin login)
    (records : HoldsRecords provider) (has : login.channel ≢ Absent) (refuses : ¬ AcceptsFlag provider.rules ClientSupports)
  where
    -- an answer and an accepted response with equal AuthMessages bind one channel
    equal_bind_one : (k n : ℕ) (answer : Answering) (accepted : Accepted) → OkAt (sides client server) n accepted
        → AnswersAt login client.connection.events client.connection.replies k answer
        → client_message login answer ≡ server_message accepted → BindOne login.channel provider
    equal_bind_one k n answer accepted ok answers same =
        equal_messages_bind_one_channel (sides client server) k n answer accepted
        (held (sides client server) n accepted records ok) is.channel answers ok.accepts has refuses same

    -- an answer whose verifier the client took binds one channel, or collides
    bind_or_collide : (m n : ℕ) (accepted : Accepted) → OkAt (sides client server) n accepted
        → (agrees : VerifierAgrees (sides client server) m accepted)
        → BindOneOrCollide (sides client server) agrees.answer accepted
    bind_or_collide m n accepted ok agrees =
        go (same_or_not (client_message login agrees.answer) (server_message accepted))
      where
        go : (client_message login agrees.answer ≡ server_message accepted)
            ⊎ (client_message login agrees.answer ≢ server_message accepted)
            → BindOneOrCollide (sides client server) agrees.answer accepted
        go (inl same) =
            let signed = agrees.opened in
            let at = signed_position login client.connection.events client.connection.replies m signed.0 agrees.answer signed.2 in
            inl (equal_bind_one at.0 n agrees.answer accepted ok at.2 same)
        go (inr differ) = inr (agrees.collides differ)

    -- an agreed verdict has equal AuthMessages
    agreed_bind_one : (k n : ℕ) (answer : Answering) (accepted : Accepted) → Shows (sides client server) k n answer accepted
        → (verdict : Verdict) → JudgesProof (sides client server) answer accepted verdict
        → IfAgreed (BindOne login.channel provider) verdict
    agreed_bind_one k n answer accepted shows (Agreed user nonce parameters) judges =
        equal_bind_one k n answer accepted shows.ok shows.answers judges.1.0
    agreed_bind_one k n answer accepted shows (SameMac client_key client_text server_key server_text) judges = tt
    agreed_bind_one k n answer accepted shows (SameHash client_key recovered) judges = tt
    agreed_bind_one k n answer accepted shows OtherKey judges = tt

pub logged_in_clients_bind_one_channel : LoggedInClientsBindOneChannel
logged_in_clients_bind_one_channel login provider client server is records has refuses logged =
    let agree = logged_in_clients_agree login provider client server records logged in (
      agree.0,
      agree.1,
      agree.2,
      λ n accepted ok one. let agrees = agree.3 n accepted ok one in (
        agrees.answer,
        agrees.opened,
        bind_or_collide login provider client server is records has refuses agree.0 n accepted ok agrees,
      ),
    )

pub accepted_proofs_bind_one_channel : AcceptedProofsBindOneChannel
accepted_proofs_bind_one_channel login provider client server n text accepted is secret records has refuses accepts k answer
    shows =
    let judged = accepted_proofs_are_judged login provider client server n text accepted secret records accepts k answer
    shows in (
      judged.0,
      judged.1,
      agreed_bind_one login provider client server is records has refuses k n answer accepted shows judged.0 judged.1,
    )
