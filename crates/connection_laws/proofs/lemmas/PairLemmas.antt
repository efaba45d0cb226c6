-- What the bytes of two connections say of both.
use Rattle.std.proofs.Common.{◌≡◌, ◌⊎◌, ℕ, zero, suc, ◌+◌, Option, Some, None, List, [], ◌∷◌, ◌++◌, length, replicate, codes, refl, sym, ap, ◌∙◌, subst, arith, ⊎_elim, inl, inr, Ok}
use Rattle.std.specs.Prelude.{slice_get, flat_map}
use Rattle.std.specs.List.{Contains}
use Rattle.std.proofs.lemmas.Option.{same_Some}
use Rattle.fe2o3_sasl_wire.specs.SaslFrames as frames
use Rattle.fe2o3_sasl_wire.specs.SaslFrames.{SaslFrame}
use Rattle.fe2o3_scram.specs.Credentials.{Provider}
use Rattle.fe2o3_scram.specs.Texts.{Part, base64_text}
use Rattle.fe2o3_scram.proofs.lemmas.texts.Base64Lemmas.{one_spelled}
use Rattle.fe2o3_scram.proofs.lemmas.texts.PartsLemmas.{one_part}
use Rattle.fe2o3_scram.specs.ScramServer.{Initial}
use Rattle.fe2o3_sasl_core.specs.Bodies.{SpellsBody}
use Rattle.fe2o3_sasl_core.proofs.lemmas.frames.SpellingLemmas.{one_spelled_frame}
use Rattle.fe2o3_sasl.proofs.lemmas.examples.ExampleTextLemmas.{length-base64_text}
use Rattle.fe2o3_sasl_core.specs.Events.{Given, Login, IsRecord, ClientSays}
use Rattle.fe2o3_sasl_core.specs.Headline.{SignedAt}
use Rattle.fe2o3_sasl_core.specs.Laws.{HoldsRecords}
use Rattle.fe2o3_sasl_core.specs.Positions.{test_at}
use Rattle.fe2o3_sasl_core.specs.Profiles.{scram_profile}
use Rattle.fe2o3_sasl_core.specs.SaslAcceptor.{ScramAcceptor, acceptor_machine}
use Rattle.fe2o3_sasl_core.specs.ServerHistory.{Accepted, LoggedIn as UserLoggedIn, full_nonce, is_challenge, is_ok}
use Rattle.fe2o3_sasl_core.specs.TwoSides.{Sides, OkAt, VerifierText}
use Rattle.fe2o3_sasl_core.proofs.lemmas.histories.ServerLawLemmas.{accepted_response}
use Rattle.fe2o3_sasl_core.proofs.lemmas.positions.PositionLemmas.{opens_here}
use Rattle.fe2o3_sasl_core.proofs.lemmas.two_sides.EqualMessageLemmas.{accepts_open, is_challenging}
use Rattle.fe2o3_sasl_core.proofs.lemmas.two_sides.HeadlineLemmas.{verifier_agrees}
use Rattle.fe2o3_sasl.proofs.lemmas.two_sides.VerdictLemmas.{shown_proofs_are_judged}
use Rattle.fe2o3_sasl_negotiation.specs.declared.progress.Progress.TheVariants.{Authenticated}
use Rattle.fe2o3_sasl_negotiation.specs.declared.progress.FrameKind.{FrameKind}
use Rattle.fe2o3_sasl_negotiation.specs.declared.progress.FrameKind.TheVariants as turns
use Rattle.fe2o3_sasl_negotiation.specs.Connections.{Piece, PieceNonceAt, AreFrames, LastReply, IsOkSent, IsOkReported}
use Rattle.fe2o3_sasl_negotiation.specs.ServerNegotiation.{server_follows}
use Rattle.fe2o3_sasl_negotiation.proofs.lemmas.LoginLemmas.{servers_log_in, clients_log_in, scram_servers_serve, scram_clients_report}
use Rattle.connection_laws.specs.Pairs.{ClientOf, ServerOf, ReportsLast, sides, LoggedInClientsAgree, LoggedInServersAccept, AcceptedProofsAreJudged, AcceptsLast, ChallengesWith, RepeatedResponsesMeanOneNonce, ReplaysAreRejected}
use Rattle.connection_laws.proofs.lemmas.FramesLemmas.{one_split}

-- the last reply, and where it is
last_at : {A : Type 0} (Is : A → Type 0) (replies : List A) → LastReply Is replies
    → (n : ℕ) × (says : A) × (suc n ≡ length replies) × (slice_get replies n ≡ Some says) × Is says
last_at Is [] none = absurd none
last_at Is (says ∷ []) is = (zero, says, refl, refl, is)
last_at Is (says ∷ next ∷ replies) is =
    let rest = last_at Is (next ∷ replies) is in
    (suc rest.0, rest.1, ap suc rest.2, rest.3, rest.4)

-- the record of an accepted response is one of the provider
pub held : (sides : Sides) (n : ℕ) (accepted : Accepted) → HoldsRecords sides.provider → OkAt sides n accepted
    → IsRecord accepted.challenge.stored
held sides n accepted records ok =
    let at = (accepts_open sides.provider sides.server_events sides.server_replies n accepted ok.accepts).2 in
    records accepted.challenge.client.user accepted.challenge.stored
    (is_challenging sides.provider at.0 at.1 accepted.challenge at.4).known

-- ---- from the server to the client

-- the server-final message on whose signature an Ok is reported
verifier_text : (login : Login) (events : List Given) (replies : List ClientSays) (m : ℕ) (more : Option (List ℕ))
    → SignedAt login events replies m more → (text : List ℕ) × VerifierText events replies m more text
verifier_text login events replies m (Some text) signed = (text, refl)
verifier_text login events replies m None signed = let verified = signed.4 in
    let challenge = verified.2 in
    (challenge.1, (verified.0, verified.1, (challenge.0, challenge.2, challenge.3)))

-- data has the text of its server-final message
text_of_data : (events : List Given) (replies : List ClientSays) (m : ℕ) (more : Option (List ℕ)) (text given : List ℕ)
    → VerifierText events replies m more text → more ≡ Some given → more ≡ Some text
text_of_data events replies m more text given verifier is = let same : text ≡ given =
    subst (λ (other : Option (List ℕ)). VerifierText events replies m other text) is verifier in
    is ∙ ap Some (sym same)

-- the last reply of a client that has logged in
pub reports_last : (login : Login) (client : ClientOf login) → client.last.progress ≡ Authenticated
    → (m : ℕ) × (text : List ℕ) × ReportsLast client m text
reports_last login client logged =
    let events = client.connection.events in
    let replies = client.connection.replies in
    let logs = scram_clients_report login client.limit client.pieces client.taken client.sent client.last
    client.connection in
    let last = last_at IsOkReported replies
    ((clients_log_in login.hostname client.limit (scram_profile login) client.pieces client.taken client.sent
    client.last client.connection).0 logged) in
    let at = last.3 ∙ ap Some last.4.1 in
    let (text, verifier) = verifier_text login events replies last.0 last.4.0
    (logs.exactly.only last.0 last.4.0 at) in (
      last.0,
      text,
      record {
        more = last.4.0;
        last = last.2;
        reported = at;
        verifier = verifier;
        with_data = λ outcomes_only. let (given, is) = logs.exactly.with_data outcomes_only last.0 last.4.0 at in
            text_of_data events replies last.0 last.4.0 text given verifier is;
      },
    )

pub logged_in_clients_agree : LoggedInClientsAgree
logged_in_clients_agree login provider client server records logged =
    let logs = scram_clients_report login client.limit client.pieces client.taken client.sent client.last
    client.connection in
    let serves = scram_servers_serve provider server.limit server.pieces server.taken server.sent server.last
    server.connection in
    let last = reports_last login client logged in (
      last.0,
      last.1,
      last.2,
      λ n accepted ok one. verifier_agrees (sides client server) last.0 n accepted
          (record { client = logs.history; server = serves.history })
          (held (sides client server) n accepted records ok)
          (record {
            more = last.2.more;
            text = last.1;
            reported = last.2.reported;
            verifier = last.2.verifier;
            ok = ok;
            one = one;
          }),
    )

-- ---- from the client to the server

pub logged_in_servers_accept : LoggedInServersAccept
logged_in_servers_accept provider server logged =
    let events = server.connection.events in
    let replies = server.connection.replies in
    let serves = scram_servers_serve provider server.limit server.pieces server.taken server.sent server.last
    server.connection in
    let last = last_at IsOkSent replies
    ((servers_log_in acceptor_machine server.limit (ScramAcceptor provider Initial) server.pieces server.taken
    server.sent server.last server.connection).0 logged) in
    let says = last.3 ∙ ap Some last.4.1 in
    let is = serves.exactly.only last.0 last.4.0 says in
    let response = accepted_response provider events replies last.0 is.0 is.1 in
    let user = is.0.challenge.client.user in
    let named : UserLoggedIn provider events replies (length replies) user =
    subst (λ k. UserLoggedIn provider events replies k user) last.2
    (last.0, opens_here is_ok is_challenge replies last.0 (ap (test_at is_ok) says), (is.0, is.1, refl)) in (
      last.0,
      response.1,
      is.0,
      record {
        event = response.0;
        body = last.4.0;
        last = last.2;
        at = response.2;
        spells = response.3;
        says = says;
        accepts = is.1;
        user = (serves.user user).1 named;
      },
    )

pub accepted_proofs_are_judged : AcceptedProofsAreJudged
accepted_proofs_are_judged login provider client server n text accepted secret records accepts k answer shows =
    let logs = scram_clients_report login client.limit client.pieces client.taken client.sent client.last
    client.connection in
    let serves = scram_servers_serve provider server.limit server.pieces server.taken server.sent server.last
    server.connection in
    shown_proofs_are_judged (sides client server) k n answer accepted
    (record { client = logs.history; server = serves.history }) secret
    (held (sides client server) n accepted records shows.ok) shows

-- ---- from one server to another

-- what is in a list that starts with copies of one nonce
copies : (n : ℕ) (nonce : List ℕ) (rest : List (List ℕ)) (k : ℕ) (found : List ℕ)
    → slice_get (replicate n nonce ++ rest) k ≡ Some found
    → (nonce ≡ found) ⊎ ((j : ℕ) × (slice_get rest j ≡ Some found))
copies zero nonce rest k found is = inr (k, is)
copies (suc n) nonce rest zero found is = inl (same_Some nonce found is)
copies (suc n) nonce rest (suc k) found is = copies n nonce rest k found is

-- the nonce at a byte is that of a piece
pub piece_at : (pieces : List Piece) (n : ℕ) (nonce : List ℕ) → PieceNonceAt pieces n nonce
    → (piece : Piece) × Contains pieces piece × (piece.nonce ≡ nonce)
piece_at [] n nonce at = absurd (cc)
piece_at (first ∷ pieces) n nonce at =
    ⊎_elim (λ (same : first.nonce ≡ nonce). (first, (zero, omega arith, refl), same))
    (λ (later : (j : ℕ) × PieceNonceAt pieces j nonce). let rest = piece_at pieces later.0 nonce later.1 in
    (rest.0, (suc rest.1.0, omega (arith, rest.1.1), rest.1.2), rest.2))
    (copies (length first.bytes) first.nonce
    (flat_map (λ (other : Piece). replicate (length other.bytes) other.nonce) pieces) n nonce at)

-- and that of an event is
event_piece : (pieces : List Piece) (limit at : ℕ) (follows : FrameKind → FrameKind) (turn : FrameKind)
    (events : List Given) → AreFrames pieces limit at follows turn events → (j : ℕ) (event : Given)
    → slice_get events j ≡ Some event → (piece : Piece) × Contains pieces piece × (piece.nonce ≡ event.nonce)
event_piece pieces limit at follows turn [] frames j event is = absurd (cc)
event_piece pieces limit at follows turn (first ∷ events) frames zero event is =
    let found = piece_at pieces (at + (length first.body + 3)) first.nonce frames.2 in
    (found.0, found.1, found.2 ∙ ap (λ (e : Given). e.nonce) (same_Some first event is))
event_piece pieces limit at follows turn (first ∷ events) frames (suc j) event is =
    event_piece pieces limit (at + (length first.body + 4)) follows (follows turn) events frames.3 j event is

same_text : (text other : List ℕ) → ◌≡◌ {A = SaslFrame} (frames.Response text) (frames.Response other) → text ≡ other
same_text text other same = cc

-- an accepted response has the nonce of both sides as its second part
second_part : {provider : Provider} (server : ServerOf provider) (n : ℕ) (text : List ℕ) (accepted : Accepted)
    → AcceptsLast server n text accepted → Part text 1 (codes "r=" ++ full_nonce accepted.challenge)
second_part {provider} server n text accepted accepts =
    let response = accepted_response provider server.connection.events server.connection.replies n accepted
    accepts.accepts in
    let one : response.0 ≡ accepts.event = same_Some response.0 accepts.event (sym response.2 ∙ accepts.at) in
    let texts : response.1 ≡ text = same_text response.1 text (one_spelled_frame accepts.event.body
    (frames.Response response.1) (frames.Response text)
    (subst (λ (e : Given). SpellsBody e.body (Ok (frames.Response response.1))) one response.3) accepts.spells) in
    subst (λ (z : List ℕ). Part z 1 (codes "r=" ++ full_nonce accepted.challenge)) texts response.5.nonce

-- the call that completed the init which the server's challenge answers
made_with : {provider : Provider} (server : ServerOf provider) (n : ℕ) (text : List ℕ) (accepted : Accepted)
    → AcceptsLast server n text accepted → (piece : Piece) × (accepted.challenge.nonce ≡ base64_text piece.nonce)
    × ChallengesWith server n piece
made_with {provider} server n text accepted accepts =
    let events = server.connection.events in
    let opened = accepts_open provider events server.connection.replies n accepted accepts.accepts in
    let at = opened.2 in
    let event = at.0 in
    let piece = event_piece server.pieces server.limit 8 server_follows turns.Init events server.connection.frames
    opened.0
    event at.2 in (
      piece.0,
      (is_challenging provider event at.1 accepted.challenge at.4).nonce ∙ ap base64_text (sym piece.2),
      (piece.1, (opened.0, opened.1, (event, at.2, piece.2))),
    )

pub repeated_responses_mean_one_nonce : RepeatedResponsesMeanOneNonce
repeated_responses_mean_one_nonce provider other server again n m text accepted repeated are too accepts reaccepts =
    let first = made_with server n text accepted accepts in
    let second = made_with again m text repeated reaccepts in
    let one = are first.0 first.2.0 in
    let two = too second.0 second.2.0 in
    let parts : codes "r=" ++ full_nonce accepted.challenge ≡ codes "r=" ++ full_nonce repeated.challenge =
    one_part text 1 (codes "r=" ++ full_nonce accepted.challenge) (codes "r=" ++ full_nonce repeated.challenge)
    (second_part server n text accepted accepts) (second_part again m text repeated reaccepts) in
    let fulls : full_nonce accepted.challenge ≡ full_nonce repeated.challenge = cc in
    let long : length accepted.challenge.nonce ≡ length repeated.challenge.nonce =
    ap length first.1 ∙ (length-base64_text first.0.nonce one.1
    ∙ sym (ap length second.1 ∙ length-base64_text second.0.nonce two.1)) in
    let nonces = one_split accepted.challenge.client.nonce accepted.challenge.nonce repeated.challenge.client.nonce
    repeated.challenge.nonce fulls long in
    record {
      client_nonce = nonces.0;
      server_nonce = nonces.1;
      first = first.0;
      second = second.0;
      first_call = first.2;
      second_call = second.2;
      same = one_spelled (base64_text first.0.nonce) first.0.nonce second.0.nonce (one.0, refl)
          (two.0, sym first.1 ∙ (nonces.1 ∙ second.1));
    }

pub replays_are_rejected : ReplaysAreRejected
replays_are_rejected provider other server again n m text accepted repeated are too differ accepts reaccepts =
    let one = repeated_responses_mean_one_nonce provider other server again n m text accepted repeated are too accepts
    reaccepts in
    differ one.first one.second one.first_call.0 one.second_call.0 one.same
