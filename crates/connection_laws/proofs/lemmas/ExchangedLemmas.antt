-- A client's and a server's negotiation over each other's bytes, both of which have logged in, are an unaltered run.
use Rattle.std.proofs.Common.{◌≡◌, ℕ, ◌+◌, ◌<◌, ◌≤◌, ◌^◌, Option, Some, List, [], ◌∷◌, ◌++◌, length, refl, sym, ap, ◌∙◌, subst, arith, append-nil}
use Rattle.std.specs.Prelude.{slice_get}
use Rattle.fe2o3_sasl_wire.specs.declared.amqp_types.SaslCode.TheVariants as outcomes
use Rattle.fe2o3_sasl_wire.specs.declared.sasl_frames.error.Error.TheVariants as faults
use Rattle.fe2o3_sasl_wire.specs.SaslFrames.{canonical}
use Rattle.fe2o3_sasl_wire.specs.SaslFrames as frames
use Rattle.fe2o3_scram.specs.Credentials.{Provider}
use Rattle.fe2o3_scram.specs.ChannelBinding.{server_mechanism}
use Rattle.fe2o3_scram.specs.ScramServer.{Initial}
use Rattle.fe2o3_sasl_core.specs.ClientHistory.{ClientHistory}
use Rattle.fe2o3_sasl_core.specs.Complete.{ClientComplete, ServerComplete}
use Rattle.fe2o3_sasl_core.specs.Events.{Given, Login, login_mechanism, ServerSays, Challenged, Concluded, Failed, ClientSays, Started, Answered, Reported, Refused}
use Rattle.fe2o3_sasl_core.specs.Profiles.{Profile, scram_profile, accepts_signature_by_challenge}
use Rattle.fe2o3_sasl_core.specs.Runs.{ProfileSteps}
use Rattle.fe2o3_sasl_core.specs.SaslAcceptor.{Acceptor, ScramAcceptor, acceptor_machine}
use Rattle.fe2o3_sasl_core.specs.ServerHistory.{ServerHistory}
use Rattle.fe2o3_sasl_core.specs.TwoSides.{Sides, sides_of, Histories}
use Rattle.fe2o3_sasl_core.specs.UnalteredRuns.{NoncesArePrintable, Suffices, Arrives, UnalteredRun, client_body, server_body}
use Rattle.fe2o3_sasl_core.proofs.lemmas.machines.ClientMachineLemmas.{profile_runs_are_histories}
use Rattle.fe2o3_sasl_core.proofs.lemmas.machines.ServerMachineLemmas.{acceptor_runs_are_histories}
use Rattle.fe2o3_sasl_negotiation.specs.declared.progress.Progress.TheVariants.{Authenticated}
use Rattle.fe2o3_sasl_negotiation.specs.Connections.{Piece, frames_of, ClientNegotiated, ServerNegotiated}
use Rattle.fe2o3_sasl_negotiation.specs.Framing.{sasl_header, framed}
use Rattle.fe2o3_sasl_negotiation.specs.Negotiations.{Side}
use Rattle.fe2o3_sasl_negotiation.proofs.lemmas.LoginLemmas.{servers_log_in, clients_log_in}
use Rattle.fe2o3_sasl_negotiation.proofs.lemmas.PieceLemmas.{length-frames_of}
use Rattle.connection_laws.proofs.lemmas.FramesLemmas.{SameBodies, same_frames, without_header}
use Rattle.connection_laws.proofs.lemmas.NegotiatedLemmas.{no_tail, ServerShape, server_shape, ClientShape, client_shape}
use Rattle.connection_laws.proofs.lemmas.ReplyListLemmas.{none_at}
use Rattle.connection_laws.proofs.lemmas.ServerLemmas.{at_most_two}
use Rattle.fe2o3_sasl_core.specs.declared.sasl_profile.error.ProfileError.TheVariants.{Frame as FrameFault, OutOfMemory}

abbrev plain : List ℕ → Given
plain body = record { body = body; nonce = [] }

-- three events of these bodies
record Three (events : List Given) (a b c : List ℕ) : Type 0 where
  offer : Given
  challenge : Given
  outcome : Given
  are : events ≡ offer ∷ challenge ∷ outcome ∷ []
  first : offer.body ≡ a
  second : challenge.body ≡ b
  third : outcome.body ≡ c

three : (events : List Given) (a b c : List ℕ) → SameBodies events (plain a ∷ plain b ∷ plain c ∷ [])
    → Three events a b c
three [] a b c same = absurd same
three (x ∷ []) a b c same = absurd same.1
three (x ∷ y ∷ []) a b c same = absurd same.1.1
three (x ∷ y ∷ z ∷ w ∷ events) a b c same = absurd same.1.1.1
three (x ∷ y ∷ z ∷ []) a b c same = record {
  offer = x;
  challenge = y;
  outcome = z;
  are = refl;
  first = same.0;
  second = same.1.0;
  third = same.1.1.0;
}

-- few frames of at most 512 bytes are short
short_frames : (a b c : List ℕ) → length a + 4 ≤ 512 → length b + 4 ≤ 512 → length c + 4 ≤ 512
    → length (frames_of (plain a ∷ plain b ∷ plain c ∷ [])) < 2 ^ 32
short_frames a b c first second third = omega (
  arith,
  first,
  second,
  third,
  length-frames_of (plain a) (plain b ∷ plain c ∷ []),
  length-frames_of (plain b) (plain c ∷ []),
  length-frames_of (plain c) [],
)

shorter_frames : (a b : List ℕ) → length a + 4 ≤ 512 → length b + 4 ≤ 512
    → length (frames_of (plain a ∷ plain b ∷ [])) < 2 ^ 32
shorter_frames a b first second = omega (
  arith,
  first,
  second,
  length-frames_of (plain a) (plain b ∷ []),
  length-frames_of (plain b) [],
)

-- replies of such shapes are neither that memory ran out nor too large
module _ (init response challenge outcome : List ℕ) (more : Option (List ℕ)) where
  abbrev client_list : List ClientSays
  client_list = Started init ∷ Answered response ∷ Reported outcomes.Ok more ∷ []

  abbrev server_list : List ServerSays
  server_list = Challenged challenge ∷ Concluded outcomes.Ok outcome ∷ []

  client_memory : ClientComplete client_list
  client_memory = none_at (Refused OutOfMemory) client_list
      ((λ same. cc), ((λ same. cc), ((λ same. cc), tt)))

  client_small : (k : ℕ) → slice_get client_list k ≡ Some (Refused (FrameFault faults.TooLarge)) → ⊥
  client_small = none_at (Refused (FrameFault faults.TooLarge)) client_list
      ((λ same. cc), ((λ same. cc), ((λ same. cc), tt)))

  server_memory : ServerComplete server_list
  server_memory = none_at (Failed faults.OutOfMemory) server_list ((λ same. cc), ((λ same. cc), tt))

  server_small : (k : ℕ) → slice_get server_list k ≡ Some (Failed faults.TooLarge) → ⊥
  server_small = none_at (Failed faults.TooLarge) server_list ((λ same. cc), ((λ same. cc), tt))

module _ (login : Login) (provider : Provider)
    (mechanism : login_mechanism login ≡ server_mechanism provider.version provider.rules)
    (client_limit server_limit : ℕ) (client : Side Profile) (server : Side Acceptor) (client_in : client.progress ≡ Authenticated)
    (server_in : server.progress ≡ Authenticated) (client_pieces server_pieces : List Piece)
    (client_taken client_sent server_taken server_sent offer : List ℕ)
    (offered : canonical (frames.Mechanisms (server_mechanism provider.version provider.rules ∷ [])) ≡ Some offer)
    (offer_small : length offer + 4 ≤ 512) (to_client : client_taken ≡ sasl_header ++ (framed offer ++ server_sent))
    (to_server : server_taken ≡ sasl_header ++ client_sent)
    (mine : ClientNegotiated (ProfileSteps login.hostname) client_limit (scram_profile login) client_pieces client_taken
    client_sent client)
    (theirs : ServerNegotiated acceptor_machine server_limit (ScramAcceptor provider Initial) server_pieces server_taken
    server_sent server) where
  abbrev both_sides : Sides
  both_sides = sides_of login mine.events mine.replies provider theirs.events theirs.replies

  client_history : ClientHistory login mine.events mine.replies
  client_history = profile_runs_are_histories login mine.events mine.replies client.state mine.run

  server_history : ServerHistory provider theirs.events theirs.replies
  server_history = acceptor_runs_are_histories provider theirs.events theirs.replies server.state theirs.run

  pub histories : Histories both_sides
  histories = record { client = client_history; server = server_history }

  served : ServerShape theirs.events theirs.replies theirs.answer
  served = server_shape provider server_pieces server_limit theirs.events theirs.replies theirs.answer server_history
      (at_most_two server_pieces server_limit theirs.events theirs.replies theirs.answer (ScramAcceptor provider Initial)
      server.state theirs.frames theirs.run theirs.replied) theirs.frames theirs.replied
      ((servers_log_in acceptor_machine server_limit (ScramAcceptor provider Initial) server_pieces server_taken
      server_sent
      server theirs).0 server_in)

  out_is : server_sent ≡ framed served.challenge ++ (framed served.outcome ++ [])
  out_is = theirs.sends ∙ (served.sent
      ∙ ap (λ (l : List ℕ). framed served.challenge ++ l) (sym (append-nil (framed served.outcome))))

  client_frames : frames_of mine.events ≡ framed offer ++ server_sent
  client_frames =
      let tail = no_tail _ _ _ _ client_limit (scram_profile login) client_pieces client_taken client_sent client mine
      client_in in
      without_header (frames_of mine.events) (framed offer ++ server_sent)
      (sym (mine.carried ∙ (ap (λ (l : List ℕ). sasl_header ++ (frames_of mine.events ++ l)) tail
      ∙ ap (λ (l : List ℕ). sasl_header ++ l) (append-nil (frames_of mine.events)))) ∙ to_client)

  client_three : Three mine.events offer served.challenge served.outcome
  client_three = three mine.events offer served.challenge served.outcome (same_frames mine.events
      (plain offer ∷ plain served.challenge ∷ plain served.outcome ∷ [])
      (short_frames offer served.challenge served.outcome offer_small served.challenge_small served.outcome_small)
      (client_frames ∙ ap (λ (l : List ℕ). framed offer ++ l) out_is))

  said : ClientShape mine.replies mine.answer
  said = client_shape (accepts_signature_by_challenge (scram_profile login)) mine.replies mine.answer
      (client_history.count ∙ ap (λ (events : List Given). length events) client_three.are) mine.replied
      ((clients_log_in login.hostname client_limit (scram_profile login) client_pieces client_taken client_sent client
      mine).0 client_in)

  server_frames : frames_of theirs.events ≡ framed said.init ++ (framed said.response ++ [])
  server_frames =
      let tail = no_tail _ _ _ _ server_limit (ScramAcceptor provider Initial) server_pieces server_taken server_sent
      server
      theirs server_in in
      without_header (frames_of theirs.events) client_sent
      (sym (theirs.carried ∙ (ap (λ (l : List ℕ). sasl_header ++ (frames_of theirs.events ++ l)) tail
      ∙ ap (λ (l : List ℕ). sasl_header ++ l) (append-nil (frames_of theirs.events)))) ∙ to_server)
      ∙ (mine.sends ∙ said.sent)

  server_two : SameBodies (served.init ∷ served.response ∷ []) (plain said.init ∷ plain said.response ∷ [])
  server_two = subst (λ (events : List Given). SameBodies events (plain said.init ∷ plain said.response ∷ []))
      served.events_are (same_frames theirs.events (plain said.init ∷ plain said.response ∷ [])
      (shorter_frames said.init said.response said.init_small said.response_small) server_frames)

  pub run : NoncesArePrintable provider.rules.strict mine.events → NoncesArePrintable login.strict theirs.events
      → UnalteredRun both_sides
  run client_nonces server_nonces = record {
    offer = client_three.offer;
    challenge = client_three.challenge;
    outcome = client_three.outcome;
    init = served.init;
    response = served.response;
    printable = (
      λ strict. client_nonces strict 0 client_three.offer
          (ap (λ (events : List Given). slice_get events 0) client_three.are),
      λ strict. server_nonces strict 0 served.init (ap (λ (events : List Given). slice_get events 0) served.events_are),
    );
    client_events = client_three.are;
    server_events = served.events_are;
    offered = ap (λ (name : List ℕ). canonical (frames.Mechanisms (name ∷ []))) mechanism
        ∙ (offered ∙ ap (λ (l : List ℕ). Some l) (sym client_three.first));
    started = subst (λ (replies : List ClientSays). Arrives (client_body (slice_get replies 0)) served.init.body)
        (sym said.replies_are) server_two.0;
    challenged = subst (λ (replies : List ServerSays). Arrives (server_body (slice_get replies 0))
        client_three.challenge.body) (sym served.replies_are) client_three.second;
    answered = subst (λ (replies : List ClientSays). Arrives (client_body (slice_get replies 1)) served.response.body)
        (sym said.replies_are) server_two.1.0;
    concluded = subst (λ (replies : List ServerSays). Arrives (server_body (slice_get replies 1))
        client_three.outcome.body) (sym served.replies_are) client_three.third;
  }

  pub fits : Suffices both_sides
  fits = record {
    client = subst (λ (replies : List ClientSays). ClientComplete replies) (sym said.replies_are)
        (client_memory said.init said.response [] [] said.more);
    server = subst (λ (replies : List ServerSays). ServerComplete replies) (sym served.replies_are)
        (server_memory [] [] served.challenge served.outcome said.more);
    client_small = subst (λ (replies : List ClientSays). (k : ℕ)
        → slice_get replies k ≡ Some (Refused (FrameFault faults.TooLarge)) → ⊥) (sym said.replies_are)
        (client_small said.init said.response [] [] said.more);
    server_small = subst (λ (replies : List ServerSays). (k : ℕ)
        → slice_get replies k ≡ Some (Failed faults.TooLarge) → ⊥) (sym served.replies_are)
        (server_small [] [] served.challenge served.outcome said.more);
  }
