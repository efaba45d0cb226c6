-- One step of a SCRAM profile's machine: it says what the client's table says, and goes to a state that is known.
use Rattle.std.proofs.Common.{◌≡◌, ◌⊎◌, ℕ, Bool, true, false, Option, Some, None, List, [], refl, ap, ◌∙◌, subst, ⊎_elim, inl, inr, Result, Ok, Err}
use Rattle.std.specs.List.{Contains}
use Rattle.std.specs.Str.{IsUtf8}
use Rattle.fe2o3_sasl_wire.specs.declared.amqp_types.SaslCode.TheVariants as outcomes
use Rattle.fe2o3_sasl_wire.specs.declared.sasl_frames.error.Error.{Error}
use Rattle.fe2o3_sasl_wire.specs.declared.sasl_frames.error.Error.TheVariants as faults
use Rattle.fe2o3_sasl_wire.specs.SaslFrames.{canonical, SaslFrame}
use Rattle.fe2o3_sasl_wire.specs.SaslFrames as frames
use Rattle.fe2o3_scram.specs.declared.scram_messages.error.ScramErrorKind.{ScramErrorKind}
use Rattle.fe2o3_scram.specs.declared.scram_messages.error.ScramErrorKind.TheVariants.{Utf8Error}
use Rattle.fe2o3_scram.specs.Texts.{base64_text}
use Rattle.fe2o3_scram.specs.ChannelBinding.{header_of}
use Rattle.fe2o3_scram.specs.ClientFirst.{client_first_with}
use Rattle.fe2o3_scram.specs.ClientKeys.{ClientKeys}
use Rattle.fe2o3_scram.proofs.lemmas.messages.ServerFinalLemmas.{not_utf8 as not_utf8_text, text_refused}
use Rattle.fe2o3_sasl_core.specs.ClientHistory.{Answering, answer_at, says_answer, MaySign, ReadsChallenge, ReadsSigning, ClientAnswers, ClientAllocates, is_start, is_answer, ends_answer}
use Rattle.fe2o3_scram.specs.ScramClient.{ClientState, ClientInitial, ClientFirstSent, ClientFinalSent, SignatureVerified, Complete, ClientSide, AnswersIn, ChecksSignatureIn, ConcludesIn, VerifiesIn, expects_signature}
use Rattle.fe2o3_sasl_core.specs.Events.{is_strict_login, Given, Login, login_mechanism, ClientSays, Started, Answered, Reported, Refused, scram_fault, login_header}
use Rattle.fe2o3_sasl_core.specs.Profiles.{Profile, ScramProfile}
use Rattle.fe2o3_sasl_core.specs.ProfileMachine.{ChallengeReplies, client_frame, profile_machine, StepAllocates}
use Rattle.fe2o3_sasl_core.specs.Runs.{Replies, ProfileGives}
use Rattle.fe2o3_sasl_core.specs.Bodies.{carried}
use Rattle.fe2o3_sasl_core.proofs.lemmas.frames.SpellingLemmas.{sent}
use Rattle.fe2o3_sasl_core.specs.declared.sasl_profile.error.ProfileError.{ProfileError}
use Rattle.fe2o3_sasl_core.specs.declared.sasl_profile.error.ProfileError.TheVariants.{NotImplemented, Scram, Frame, OutOfMemory}
use Rattle.fe2o3_sasl_core.proofs.lemmas.machines.ClientStateLemmas.{side_in, profile_in, started_state, answered_state, Expected, StandsFor, DueAt, OpenAt, VerifiedAt, answers_due, refuses_due, verifies_open, refuses_open, left_true, not_false, no_signing, signs_open, refuses_signing, concludes_verified, refuses_unsigned}

-- ---- what the table says, and where the machine goes

-- what the client's table says where these are due, open and verified, or running out of memory
abbrev pub SaysRow : Login → Expected → Given → Result SaslFrame Error → ClientSays → Type 0
SaysRow login at event spelled says = (ClientAllocates login spelled × (says ≡ Refused OutOfMemory))
    ⊎ ClientAnswers login (DueAt at) (OpenAt at) (VerifiedAt at) event spelled says

-- the reply neither starts nor answers nor ends
abbrev pub Leaves : ClientSays → Type 0
Leaves says = (is_start says ≡ false) × (is_answer says ≡ false) × (ends_answer says ≡ false)

-- where the machine goes: it stays, starts, answers, verifies a signature in a challenge, or ends
abbrev pub Goes : Login → ClientState → Expected → Given → Result SaslFrame Error → ClientSays → ClientState → Type 0
Goes login state at event spelled says next =
    (Leaves says × (next ≡ state))
    ⊎ ((body : List ℕ) × (says ≡ Started body) × (next ≡ started_state login (base64_text event.nonce)))
    ⊎ ((body : List ℕ) × (answer : Answering) × (text : List ℕ) × (says ≡ Answered body)
    × (spelled ≡ Ok (frames.Challenge text)) × (at.waits ≡ None) × ReadsChallenge login (DueAt at) text (Ok answer)
    × (next ≡ answered_state login answer))
    ⊎ ((body : List ℕ) × (text : List ℕ) × (keys : Option ClientKeys) × (says ≡ Answered body)
    × (spelled ≡ Ok (frames.Challenge text)) × (at.due ≡ None) × ReadsSigning login (OpenAt at) text (Ok tt)
    × (next ≡ SignatureVerified keys))
    ⊎ ((more : Option (List ℕ)) × (keys : Option ClientKeys) × (says ≡ Reported outcomes.Ok more) × (at.due ≡ None)
    × (next ≡ Complete keys))

-- a step of the machine says what the table says, and goes so
abbrev pub StepsTo : Login → ClientState → Expected → Given → Result SaslFrame Error → ClientSays → Profile → Type 0
StepsTo login state at event spelled says next =
    (after : ClientState) × (next ≡ profile_in login after) × SaysRow login at event spelled says
    × Goes login state at event spelled says after

-- ---- one step

leaves_refused : (says : ClientSays) (fault : ProfileError) → says ≡ Refused fault → Leaves says
leaves_refused says fault e = (ap is_start e, ap is_answer e, ap ends_answer e)

-- what is rejected stays
refused : (login : Login) (state : ClientState) (at : Expected) (event : Given) (spelled : Result SaslFrame Error)
    (says : ClientSays) (next : Profile) (fault : ProfileError) → says ≡ Refused fault
    → next ≡ profile_in login state → SaysRow login at event spelled says
    → StepsTo login state at event spelled says next
refused login state at event spelled says next fault e n row = (state, n, row, inl (leaves_refused says fault e, refl))

-- a mechanisms list with the name is answered by a start
start_step : (login : Login) (state : ClientState) (at : Expected) (event : Given)
    (names : List (List ℕ)) (says : ClientSays) (next : Profile) → Contains names (login_mechanism login) →
    Replies (profile_in login state) (profile_in login (started_state login (base64_text event.nonce)))
    (Ok (frames.Init (login_mechanism login)
    (Some (client_first_with (header_of (login_header login)) login.user (base64_text event.nonce))) login.hostname)) says next →
    StepsTo login state at event (Ok (frames.Mechanisms names)) says next
start_step login state at event names says next has h =
    let nonce = base64_text event.nonce in
    let s = sent (Refused (Frame faults.TooLarge)) (λ body. Started body)
    (canonical (frames.Init (login_mechanism login)
    (Some (client_first_with (header_of (login_header login)) login.user nonce)) login.hostname))
    (profile_in login state) (profile_in login (started_state login nonce)) says next h in
    let row : SaysRow login at event (Ok (frames.Mechanisms names)) says = inr (inl (has, s.0)) in
    ⊎_elim (λ (x : (says ≡ Refused (Frame faults.TooLarge)) × (next ≡ profile_in login state)). refused login state at
    event (Ok (frames.Mechanisms names)) says next (Frame faults.TooLarge) x.0 x.1 row)
    (λ (x : (body : List ℕ) × (says ≡ Started body) × (next ≡ profile_in login (started_state login nonce))).
    (started_state login nonce, x.2, row, inr (inl (x.0, x.1, refl))))
    s.1

-- the step over a server-first message in UTF-8
answer_step : (login : Login) (state : ClientState) (at : Expected) (event : Given) (text : List ℕ)
    (answer : Result (List ℕ) ScramErrorKind) (after : ClientSide) (says : ClientSays) (next : Profile)
    → StandsFor login state at → IsUtf8 text → expects_signature (side_in login state) ≡ false
    → AnswersIn state (side_in login state) text answer after
    → Replies (profile_in login state) (ScramProfile after)
    (client_frame (λ message. frames.Response message) answer) says next
    → StepsTo login state at event (Ok (frames.Challenge text)) says next
answer_step login state at event text (Ok message) after says next stands utf8 none a h =
    let d = answers_due login state at text message after stands utf8 a in
    let answer = d.0 in
    let s = sent (Refused (Frame faults.TooLarge)) (λ body. Answered body) (canonical (frames.Response message))
    (profile_in login state) (ScramProfile after) says next h in
    let says_it : says ≡ says_answer login answer = s.0 ∙ ap
    (λ (m : List ℕ). carried (Refused (Frame faults.TooLarge)) (λ body. Answered body)
    (canonical (frames.Response m))) d.2 in
    let row : SaysRow login at event (Ok (frames.Challenge text)) says =
    inr (inr (inr (no_signing login state at stands none, inl (answer, d.1, says_it)))) in
    ⊎_elim (λ (x : (says ≡ Refused (Frame faults.TooLarge)) × (next ≡ profile_in login state)). refused login state at
    event (Ok (frames.Challenge text)) says next (Frame faults.TooLarge) x.0 x.1 row)
    (λ (x : (body : List ℕ) × (says ≡ Answered body) × (next ≡ ScramProfile after)). (
      answered_state login answer,
      x.2 ∙ ap (λ (c : ClientSide). ScramProfile c) d.3,
      row,
      inr (inr (inl (x.0, answer, text, x.1, refl, d.4, d.1, refl))),
    ))
    s.1
answer_step login state at event text (Err kind) after says next stands utf8 none a h =
    let d = refuses_due login state at text kind after stands utf8 a in
    refused login state at event (Ok (frames.Challenge text)) says next (scram_fault kind) h.0
    (h.1 ∙ ap (λ (c : ClientSide). ScramProfile c) d.1)
    (inr (inr (inr (no_signing login state at stands none, inr (kind, d.0, h.0)))))

-- the step over a server-final message in a challenge
signing_step : (login : Login) (state : ClientState) (at : Expected) (event : Given) (text : List ℕ)
    (answer : Result (Unit {0}) ScramErrorKind) (after : ClientSide) (says : ClientSays) (next : Profile)
    → StandsFor login state at → expects_signature (side_in login state) ≡ true
    → ChecksSignatureIn state (side_in login state) text answer after
    → Replies (profile_in login state) (ScramProfile after)
    (client_frame (λ verified. frames.Response []) answer) says next
    → StepsTo login state at event (Ok (frames.Challenge text)) says next
signing_step login state at event text (Ok verified) after says next stands is c h =
    let d = signs_open login state at text verified after stands is c in
    let s = sent (Refused (Frame faults.TooLarge)) (λ body. Answered body) (canonical (frames.Response []))
    (profile_in login state) (ScramProfile after) says next h in
    let row : SaysRow login at event (Ok (frames.Challenge text)) says = inr (inl (d.1, s.0)) in
    ⊎_elim (λ (x : (says ≡ Refused (Frame faults.TooLarge)) × (next ≡ profile_in login state)). refused login state at
    event (Ok (frames.Challenge text)) says next (Frame faults.TooLarge) x.0 x.1 row)
    (λ (x : (body : List ℕ) × (says ≡ Answered body) × (next ≡ ScramProfile after)). (
      SignatureVerified d.0,
      x.2 ∙ ap (λ (c : ClientSide). ScramProfile c) d.3,
      row,
      inr (inr (inr (inl (x.0, text, d.0, x.1, refl, d.2, d.1, refl)))),
    ))
    s.1
signing_step login state at event text (Err kind) after says next stands is c h =
    let d = refuses_signing login state at text kind after stands is c in
    refused login state at event (Ok (frames.Challenge text)) says next (scram_fault kind) h.0
    (h.1 ∙ ap (λ (c : ClientSide). ScramProfile c) d.1) (inr (inr (inl (kind, d.0, h.0))))

-- the step over an outcome Ok with data
outcome_step : (login : Login) (state : ClientState) (at : Expected) (event : Given)
    (text : List ℕ) (answer : Result (Unit {0}) ScramErrorKind) (after : ClientSide) (says : ClientSays)
    (next : Profile) → StandsFor login state at →
    VerifiesIn state (side_in login state) text answer after
    → Replies (profile_in login state) (ScramProfile after)
    (client_frame (λ verified. frames.Outcome outcomes.Ok (Some text)) answer) says next
    → StepsTo login state at event (Ok (frames.Outcome outcomes.Ok (Some text))) says next
outcome_step login state at event text (Ok verified) after says next stands b h =
    let d = verifies_open login state at text verified after stands b in (
      Complete d.0,
      h.1 ∙ ap (λ (c : ClientSide). ScramProfile c) d.3,
      inr (inl (d.1, h.0)),
      inr (inr (inr (inr (Some text, d.0, h.0, d.2, refl)))),
    )
outcome_step login state at event text (Err kind) after says next stands b h =
    let d = refuses_open login state at text kind after stands b in
    refused login state at event (Ok (frames.Outcome outcomes.Ok (Some text))) says next (scram_fault kind) h.0
    (h.1 ∙ ap (λ (c : ClientSide). ScramProfile c) d.1) (inr (inr (kind, d.0, h.0)))

-- the step over an outcome Ok without data
conclude_step : (login : Login) (state : ClientState) (at : Expected) (event : Given)
    (answer : Result (Unit {0}) ScramErrorKind) (after : ClientSide) (says : ClientSays) (next : Profile)
    → StandsFor login state at → ConcludesIn state (side_in login state) answer after
    → Replies (profile_in login state) (ScramProfile after)
    (client_frame (λ verified. frames.Outcome outcomes.Ok None) answer) says next
    → StepsTo login state at event (Ok (frames.Outcome outcomes.Ok None)) says next
conclude_step login state at event (Ok verified) after says next stands b h =
    let d = concludes_verified login state at verified after stands b in (
      Complete d.0,
      h.1 ∙ ap (λ (c : ClientSide). ScramProfile c) d.3,
      inr (inl (d.1, h.0)),
      inr (inr (inr (inr (None, d.0, h.0, d.2, refl)))),
    )
conclude_step login state at event (Err kind) after says next stands b h =
    let d = refuses_unsigned login state at kind after stands b in
    refused login state at event (Ok (frames.Outcome outcomes.Ok None)) says next (scram_fault kind) h.0
    (h.1 ∙ ap (λ (c : ClientSide). ScramProfile c) d.1) (inr (inr (kind, d.0, h.0)))

-- the reply of the machine in its place
replied : (profile moved then : Profile) (reply other : Result SaslFrame ProfileError) (says : ClientSays)
    (next : Profile) → reply ≡ other → moved ≡ then → Replies profile moved reply says next
    → Replies profile then other says next
replied profile moved then reply other says next e n h =
    subst (λ (x : Profile). Replies profile x other says next) n
    (subst (λ (x : Result SaslFrame ProfileError). Replies profile moved x says next) e h)

-- a challenge that is not UTF-8 is rejected as such, whether a signature is expected there or not
not_utf8_row : (login : Login) (state : ClientState) (at : Expected) (event : Given) (text : List ℕ)
    (says : ClientSays) → StandsFor login state at → ¬ IsUtf8 text → says ≡ Refused (Scram Utf8Error)
    → ClientAnswers login (DueAt at) (OpenAt at) (VerifiedAt at) event (Ok (frames.Challenge text)) says
not_utf8_row login state at event text says stands not_utf8 is =
    go (expects_signature (side_in login state)) refl
  where
    -- of which the signature is expected there
    waiting : (state : ClientState) → StandsFor login state at → expects_signature (side_in login state) ≡ true
        → (answer : Answering) × MaySign login (OpenAt at) answer
    waiting ClientInitial stands is = absurd (not_false login.signature_by_challenge is)
    waiting (ClientFirstSent nonce bare) stands is = absurd (not_false login.signature_by_challenge is)
    waiting (SignatureVerified keys) stands is = absurd (not_false login.signature_by_challenge is)
    waiting (Complete keys) stands is = absurd (not_false login.signature_by_challenge is)
    waiting (ClientFinalSent signature keys) stands is =
        (stands.1.0, (left_true login.signature_by_challenge true is, stands.1.1))

    go : (expects : Bool) → expects_signature (side_in login state) ≡ expects
        → ClientAnswers login (DueAt at) (OpenAt at) (VerifiedAt at) event (Ok (frames.Challenge text)) says
    go false none = inr (inr (no_signing login state at stands none, inr (Utf8Error, inl (not_utf8, refl), is)))
    go true expects = let w = waiting state stands expects in
        inr (inl (
          Utf8Error,
          (
            w.0,
            w.1,
            text_refused (is_strict_login login) (answer_at login w.0).signature text Utf8Error
                (not_utf8_text (is_strict_login login) text not_utf8),
          ),
          is,
        ))

-- the step where memory does not run out
machine_step : (login : Login) (state : ClientState) (at : Expected) (event : Given)
    (frame : SaslFrame) (reply : Result SaslFrame ProfileError) (moved : Profile) (says : ClientSays) (next : Profile)
    → StandsFor login state at →
    profile_machine (profile_in login state) login.hostname event.nonce frame reply moved
    → Replies (profile_in login state) moved reply says next
    → StepsTo login state at event (Ok frame) says next
machine_step login state at event (frames.Mechanisms names) reply moved says next stands (inl m) h =
    start_step login state at event names says next m.0
    (replied (profile_in login state) moved (profile_in login (started_state login (base64_text event.nonce))) reply
    (Ok (frames.Init (login_mechanism login)
    (Some (client_first_with (header_of (login_header login)) login.user (base64_text event.nonce))) login.hostname)) says
    next m.1 m.2 h)
machine_step login state at event (frames.Mechanisms names) reply moved says next stands (inr m) h =
    let r = replied (profile_in login state) moved (profile_in login state) reply
    (Err NotImplemented) says next m.1 m.2 h in
    refused login state at event (Ok (frames.Mechanisms names)) says next NotImplemented r.0 r.1
    (inr (inr (m.0, r.0)))
machine_step login state at event (frames.Challenge text) reply moved says next stands (inl m) h =
    let r = replied (profile_in login state) moved (profile_in login state) reply
    (Err (Scram Utf8Error)) says next m.1 m.2 h in
    refused login state at event (Ok (frames.Challenge text)) says next (Scram Utf8Error) r.0 r.1
    (inr (not_utf8_row login state at event text says stands m.0 r.0))
machine_step login state at event (frames.Challenge text) reply moved says next stands (inr m) h =
    go (expects_signature (side_in login state)) refl m.1
  where
    go : (expects : Bool) → expects_signature (side_in login state) ≡ expects
        → ChallengeReplies expects (side_in login state) text reply moved
        → StepsTo login state at event (Ok (frames.Challenge text)) says next
    go false is c = answer_step login state at event text c.0 c.1 says next stands m.0 is c.2
        (replied (profile_in login state) moved (ScramProfile c.1) reply
        (client_frame (λ message. frames.Response message) c.0) says next c.3 c.4 h)
    go true is c = signing_step login state at event text c.0 c.1 says next stands is c.2
        (replied (profile_in login state) moved (ScramProfile c.1) reply
        (client_frame (λ verified. frames.Response []) c.0) says next c.3 c.4 h)
machine_step login state at event (frames.Outcome outcomes.Ok None) reply moved says next stands m h =
    conclude_step login state at event m.0 m.1 says next stands m.2
    (replied (profile_in login state) moved (ScramProfile m.1) reply
    (client_frame (λ verified. frames.Outcome outcomes.Ok None) m.0) says next m.3 m.4 h)
machine_step login state at event (frames.Outcome outcomes.Ok (Some text)) reply moved says next stands m h =
    outcome_step login state at event text m.0 m.1 says next stands m.2
    (replied (profile_in login state) moved (ScramProfile m.1) reply
    (client_frame (λ verified. frames.Outcome outcomes.Ok (Some text)) m.0) says next m.3 m.4 h)
machine_step login state at event (frames.Outcome outcomes.Auth more) reply moved says next stands m h =
    let r = replied (profile_in login state) moved (profile_in login state) reply
    (Ok (frames.Outcome outcomes.Auth more)) says next m.0 m.1 h in
    (state, r.1, inr r.0, inl ((ap is_start r.0, ap is_answer r.0, ap ends_answer r.0), refl))
machine_step login state at event (frames.Outcome outcomes.Sys more) reply moved says next stands m h =
    let r = replied (profile_in login state) moved (profile_in login state) reply
    (Ok (frames.Outcome outcomes.Sys more)) says next m.0 m.1 h in
    (state, r.1, inr r.0, inl ((ap is_start r.0, ap is_answer r.0, ap ends_answer r.0), refl))
machine_step login state at event (frames.Outcome outcomes.SysPerm more) reply moved says next stands m h =
    let r = replied (profile_in login state) moved (profile_in login state) reply
    (Ok (frames.Outcome outcomes.SysPerm more)) says next m.0 m.1 h in
    (state, r.1, inr r.0, inl ((ap is_start r.0, ap is_answer r.0, ap ends_answer r.0), refl))
machine_step login state at event (frames.Outcome outcomes.SysTemp more) reply moved says next stands m h =
    let r = replied (profile_in login state) moved (profile_in login state) reply
    (Ok (frames.Outcome outcomes.SysTemp more)) says next m.0 m.1 h in
    (state, r.1, inr r.0, inl ((ap is_start r.0, ap is_answer r.0, ap ends_answer r.0), refl))
machine_step login state at event (frames.Init mechanism response hostname) reply moved says next stands m h =
    let r = replied (profile_in login state) moved (profile_in login state) reply
    (Err NotImplemented) says next m.0 m.1 h in
    refused login state at event (Ok (frames.Init mechanism response hostname)) says next NotImplemented r.0 r.1
    (inr r.0)
machine_step login state at event (frames.Response text) reply moved says next stands m h =
    let r = replied (profile_in login state) moved (profile_in login state) reply
    (Err NotImplemented) says next m.0 m.1 h in
    refused login state at event (Ok (frames.Response text)) says next NotImplemented r.0 r.1 (inr r.0)

allocates : (login : Login) (state : ClientState) (frame : SaslFrame) → StepAllocates (profile_in login state) frame
    → ClientAllocates login (Ok frame)
allocates login state (frames.Mechanisms names) h = h
allocates login state (frames.Challenge text) h = h.0
allocates login state (frames.Outcome outcomes.Ok (Some text)) h = h.0
allocates login state (frames.Outcome code (Some text)) h = h
allocates login state (frames.Outcome outcomes.Ok None) h = absurd h
allocates login state (frames.Outcome outcomes.Auth None) h = absurd h
allocates login state (frames.Outcome outcomes.Sys None) h = absurd h
allocates login state (frames.Outcome outcomes.SysPerm None) h = absurd h
allocates login state (frames.Outcome outcomes.SysTemp None) h = absurd h
allocates login state (frames.Init mechanism response hostname) h = absurd h
allocates login state (frames.Response text) h = absurd h

-- what a SCRAM profile does with a body is what the table says where its state's nonce is due and its state's
-- answer is open
pub profile_step : (login : Login) (state : ClientState) (at : Expected)
    (event : Given) (spelled : Result SaslFrame Error) (says : ClientSays) (next : Profile)
    → StandsFor login state at →
    ProfileGives login.hostname (profile_in login state) event spelled says next
    → StepsTo login state at event spelled says next
profile_step login state at event (Err fault) says next stands h =
    refused login state at event (Err fault) says next (Frame fault) h.0 h.1 (inr h.0)
profile_step login state at event (Ok frame) says next stands (inl h) =
    refused login state at event (Ok frame) says next OutOfMemory h.1 h.2
    (inl (allocates login state frame h.0, h.1))
profile_step login state at event (Ok frame) says next stands (inr h) =
    machine_step login state at event frame h.0 h.1 says next stands h.2 h.3
