-- A client by a policy and a SCRAM server that are joined log in: `unaltered_policy_clients_log_in`, and
-- `joined_policy_sides_exist`.
use Rattle.std.proofs.Common.{Option, ◌≡◌, ◌<◌, ◌≤◌, ◌^◌, ℕ, List, [], ◌∷◌, ◌++◌, length, refl, sym, ◌∙◌, ap, subst, inl, inr, arith, Ok}
use Rattle.std.proofs.lemmas.List.{append-nil}
use Rattle.std.specs.List.{AllByRecursion}
use Rattle.fe2o3_sasl_wire.specs.SaslFrames as frames
use Rattle.fe2o3_sasl_wire.specs.SaslFrames.{SaslFrame, canonical}
use Rattle.fe2o3_scram.specs.ChannelBinding.{is_bound}
use Rattle.fe2o3_scram.specs.Credentials.{Provider}
use Rattle.fe2o3_scram.specs.ScramServer.{Initial}
use Rattle.fe2o3_sasl_core.specs.Bodies.{SpellsBody}
use Rattle.fe2o3_sasl_core.specs.Events.{Login, login_mechanism}
use Rattle.fe2o3_sasl_core.specs.Profiles.{Profile, Selection, scram_profile}
use Rattle.fe2o3_sasl_core.specs.SaslAcceptor.{Acceptor, ScramAcceptor, acceptor_machine, acceptor_names}
use Rattle.fe2o3_sasl_core.specs.TwoSides.{sides_of}
use Rattle.fe2o3_sasl_core.specs.UnalteredRuns.{HoldsLogin}
use Rattle.fe2o3_sasl_core.proofs.lemmas.frames.SpellingLemmas.{spells_mechanisms}
use Rattle.fe2o3_sasl_core.proofs.lemmas.unaltered.UnalteredStepLemmas.{one_mechanism}
use Rattle.fe2o3_sasl_negotiation.specs.ClientNegotiation.{ClientReceives}
use Rattle.fe2o3_sasl_negotiation.specs.Connections.{fresh}
use Rattle.fe2o3_sasl_negotiation.specs.Framing.{framed, sasl_header}
use Rattle.fe2o3_sasl_negotiation.specs.Laws.{Call, Calls}
use Rattle.fe2o3_sasl_negotiation.specs.Negotiations.{Side}
use Rattle.fe2o3_sasl_negotiation.specs.ServerNegotiation as of_server
use Rattle.fe2o3_sasl_negotiation.specs.declared.progress.Expected.TheVariants.{Header}
use Rattle.fe2o3_sasl_negotiation.specs.declared.progress.Progress.TheVariants.{Authenticated}
use Rattle.fe2o3_sasl_negotiation.proofs.lemmas.ConnectionLemmas.{closed_is_not_logged_in}
use Rattle.fe2o3_sasl_negotiation.proofs.lemmas.CutLemmas.{cuts_do_not_matter, nothing_is_part}
use Rattle.connection_laws.specs.JoinedSides.{JoinedSides}
use Rattle.connection_laws.specs.PolicyClients.{EndAlike, IsChosen, JoinedByPolicy, JoinedPolicySidesExist, ReadsOffer, TakesPolicyFrames, UnalteredPolicyClientsLogIn}
use Rattle.connection_laws.specs.Unaltered.{BothLogIn, HasNonce, Joined}
use Rattle.connection_laws.proofs.lemmas.ExactSideLemmas.{Exact, ServerOffers, exact_calls, server_header}
use Rattle.connection_laws.proofs.lemmas.JoinedExistLemmas.{joined_sides_exist}
use Rattle.connection_laws.proofs.lemmas.PolicySelectedLemmas.{offered_clients_select, selected_profiles_act_as_client}
use Rattle.connection_laws.proofs.lemmas.SmallReplyLemmas.{long_enough}
use Rattle.connection_laws.proofs.lemmas.UnalteredLemmas.{taken_whole, unaltered_sides_log_in}

-- what a SCRAM server sends to a client begins with its offer
module _ (login : Login) (provider : Provider) (password salt : List ℕ) (count client_limit server_limit : ℕ)
    (server_calls : List Call) (client_sent server_sent : List ℕ) (server : Side Acceptor)
    (holds : HoldsLogin (sides_of login [] [] provider [] []) password salt count) (room : 512 ≤ client_limit)
    (nonces_are : AllByRecursion HasNonce server_calls)
    (takes : Calls (of_server.ServerReceives acceptor_names acceptor_machine)
    (fresh server_limit (ScramAcceptor provider Initial)) server_calls (sasl_header ++ client_sent) server_sent server [])
  where
    offer : ServerOffers provider server_limit client_sent server_sent server
    offer = let (taken, nonces, all, made) = cuts_do_not_matter
        (Exact (of_server.ServerSideAnswers acceptor_names acceptor_machine))
        (fresh server_limit (ScramAcceptor provider Initial)) server server_calls (sasl_header ++ client_sent) server_sent []
        (nothing_is_part Header server_limit)
        (exact_calls (of_server.ServerSideAnswers acceptor_names acceptor_machine) server_calls
        (fresh server_limit (ScramAcceptor provider Initial)) (sasl_header ++ client_sent) server_sent server [] nonces_are
        takes) in
        server_header provider server_limit nonces client_sent server_sent server
        (taken_whole (Exact (of_server.ServerSideAnswers acceptor_names acceptor_machine))
        (fresh server_limit (ScramAcceptor provider Initial)) server (sasl_header ++ client_sent) taken server_sent nonces all
        made)

    mechanism : frames.Mechanisms (login_mechanism login ∷ [])
        ≡ frames.Mechanisms (acceptor_names (ScramAcceptor provider Initial))
    mechanism = ap (λ (name : List ℕ). frames.Mechanisms (name ∷ []))
        (one_mechanism (sides_of login [] [] provider [] []) password salt count holds)

    spells : SpellsBody offer.body (Ok (frames.Mechanisms (acceptor_names (ScramAcceptor provider Initial))))
    spells = subst (λ (f : SaslFrame). SpellsBody offer.body (Ok f)) mechanism
        (spells_mechanisms login.version (is_bound login.channel) offer.body (ap canonical mechanism ∙ offer.offer))

    reads : ReadsOffer client_limit server_sent [] (acceptor_names (ScramAcceptor provider Initial))
    reads = let least : 4 ≤ length offer.body =
        long_enough (frames.Mechanisms (acceptor_names (ScramAcceptor provider Initial))) offer.body offer.offer in
        let few = offer.small in
        record {
          body = offer.body;
          more = offer.after;
          fits = (omega (arith, least), omega (arith, few, room));
          spells = spells;
          carried = offer.all ∙ ap (λ l. sasl_header ++ (framed offer.body ++ l)) (sym (append-nil offer.after));
        }

-- two clients one of which has logged in end in one side, which has selected its profile
logged_in : (selection : Selection) (hostname : Option (List ℕ)) (calls : List Call) (profile : Profile) (sent : List ℕ)
    (side last : Side Profile) → side.progress ≡ Authenticated → EndAlike selection hostname calls profile sent side last
    → IsChosen last.state × (last ≡ side)
logged_in selection hostname calls profile sent side last logged (inl chosen) = chosen
logged_in selection hostname calls profile sent side last logged (inr (no_init, nothing, closed, kept, is)) =
    absurd (closed_is_not_logged_in _ (sym closed ∙ logged))

pub unaltered_policy_clients_log_in : UnalteredPolicyClientsLogIn
unaltered_policy_clients_log_in selection login provider password salt count client server joined selected is holds fits
    wide = go (offered_clients_select selection login.hostname joined.client_limit joined.client_calls joined.server_sent
    joined.client_sent [] client (acceptor_names (ScramAcceptor provider Initial)) (scram_profile login) wide.client_size
    (reads login provider password salt count joined.client_limit joined.server_limit joined.server_calls
    joined.client_sent joined.server_sent server holds wide.client_limit wide.server_nonces joined.server_takes) selected
    joined.client_takes)
  where
    go : (side : Side Profile)
        × EndAlike selection login.hostname joined.client_calls (scram_profile login) joined.client_sent side client
        × Calls (ClientReceives login.hostname) (fresh joined.client_limit (scram_profile login)) joined.client_calls
        joined.server_sent joined.client_sent side []
        → IsChosen client.state × ((both : Joined login provider client server)
        × (both.client_calls ≡ joined.client_calls) × (both.server_calls ≡ joined.server_calls)
        × (both.client_sent ≡ joined.client_sent) × (both.server_sent ≡ joined.server_sent) × BothLogIn both salt count)
    go (side, alike, made) =
        let both : Joined login provider side server = record {
          client_limit = joined.client_limit;
          server_limit = joined.server_limit;
          client_calls = joined.client_calls;
          server_calls = joined.server_calls;
          client_sent = joined.client_sent;
          server_sent = joined.server_sent;
          client_takes = made;
          server_takes = joined.server_takes;
        } in
        let log_in = unaltered_sides_log_in login provider password salt count side server both is holds fits (record {
          client_limit = wide.client_limit;
          server_limit = wide.server_limit;
          client_nonces = wide.client_nonces;
          server_nonces = wide.server_nonces;
        }) in
        let (chosen, same) =
        logged_in selection login.hostname joined.client_calls (scram_profile login) joined.client_sent side client
        log_in.client_progress alike in (
          chosen,
          subst (λ (s : Side Profile). (b : Joined login provider s server) × (b.client_calls ≡ joined.client_calls)
              × (b.server_calls ≡ joined.server_calls) × (b.client_sent ≡ joined.client_sent)
              × (b.server_sent ≡ joined.server_sent) × BothLogIn b salt count) (sym same)
              (both, refl, refl, refl, refl, log_in),
        )

pub joined_policy_sides_exist : JoinedPolicySidesExist
joined_policy_sides_exist selection login provider password salt count client_limit server_limit client_calls server_calls
    selected is holds fits room wide small client_nonces server_nonces client_enough server_enough =
    go (joined_sides_exist login provider password salt count client_limit server_limit client_calls server_calls is holds
    fits room wide client_nonces server_nonces client_enough server_enough)
  where
    go : JoinedSides login provider client_limit server_limit client_calls server_calls
        → (client : Side Profile) × (server : Side Acceptor)
        × ((joined : JoinedByPolicy selection login.hostname provider client server) × TakesPolicyFrames joined
        × (joined.client_limit ≡ client_limit) × (joined.server_limit ≡ server_limit)
        × (joined.client_calls ≡ client_calls) × (joined.server_calls ≡ server_calls)
        × (client.progress ≡ Authenticated) × (server.progress ≡ Authenticated))
    go sides =
        let joined = sides.joined in
        let size : joined.client_limit < 2 ^ 32 =
        subst (λ (n : ℕ). n < 2 ^ 32) (sym sides.client_limited) small in
        let (client, alike, made) = selected_profiles_act_as_client selection login.hostname joined.client_limit
        joined.client_calls joined.server_sent joined.client_sent [] sides.client
        (acceptor_names (ScramAcceptor provider Initial)) (scram_profile login) size
        (reads login provider password salt count joined.client_limit joined.server_limit joined.server_calls
        joined.client_sent joined.server_sent sides.server holds sides.takes.client_limit sides.takes.server_nonces
        joined.server_takes) selected joined.client_takes in (
          client,
          sides.server,
          (
            record {
              client_limit = joined.client_limit;
              server_limit = joined.server_limit;
              client_calls = joined.client_calls;
              server_calls = joined.server_calls;
              client_sent = joined.client_sent;
              server_sent = joined.server_sent;
              client_takes = made;
              server_takes = joined.server_takes;
            },
            record {
              client_limit = sides.takes.client_limit;
              server_limit = sides.takes.server_limit;
              client_size = size;
              client_nonces = sides.takes.client_nonces;
              server_nonces = sides.takes.server_nonces;
            },
            sides.client_limited,
            sides.server_limited,
            sides.client_called,
            sides.server_called,
            ap (λ (s : Side Profile). s.progress) (logged_in selection login.hostname joined.client_calls
                (scram_profile login) joined.client_sent sides.client client sides.client_progress alike).1
                ∙ sides.client_progress,
            sides.server_progress,
          ),
        )
