-- When a SCRAM profile waits for an outcome without data: `verified_on_signature`.
use Rattle.std.proofs.Common.{◌≡◌, ◌≢◌, ◌⊎◌, ℕ, Bool, true, false, Option, Some, None, List, [], refl, sym, ap, ◌∙◌, subst, inl, inr, Result, Ok, Err}
use Rattle.std.specs.Prelude.{◌&&◌}
use Rattle.fe2o3_sasl_wire.specs.declared.amqp_types.SaslCode.{SaslCode}
use Rattle.fe2o3_sasl_wire.specs.declared.amqp_types.SaslCode.TheVariants as outcomes
use Rattle.fe2o3_sasl_wire.specs.declared.sasl_frames.error.Error.TheVariants as faults
use Rattle.fe2o3_sasl_wire.specs.SaslFrames.{canonical, SaslFrame}
use Rattle.fe2o3_sasl_wire.specs.SaslFrames as frames
use Rattle.fe2o3_scram.specs.ClientKeys.{ClientKeys}
use Rattle.fe2o3_scram.specs.declared.scram_messages.error.ScramErrorKind.{ScramErrorKind}
use Rattle.fe2o3_scram.specs.ScramClient as client_states
use Rattle.fe2o3_scram.specs.ScramClient.{ClientSide, ClientState, SignatureVerified, AnswersIn, ChecksSignatureIn, ConcludesIn, VerifiesIn, expects_signature, is_strict_client, is_unsigned, started}
use Rattle.fe2o3_scram.specs.Logins.{IsSigned}
use Rattle.fe2o3_sasl_core.specs.Bodies.{SpellsBody}
use Rattle.fe2o3_sasl_core.specs.Events.{Given, ClientSays, Started, Answered, Refused, scram_fault}
use Rattle.fe2o3_sasl_core.specs.Profiles.{Profile, ScramProfile}
use Rattle.fe2o3_sasl_core.specs.ProfileMachine.{ChallengeReplies, client_frame, profile_machine}
use Rattle.fe2o3_sasl_core.specs.Runs.{Replies, SendsCanonical}
use Rattle.fe2o3_sasl_core.specs.StepLaws.{VerifiedOnSignature}
use Rattle.fe2o3_sasl_core.specs.declared.sasl_profile.error.ProfileError.{ProfileError}
use Rattle.fe2o3_sasl_core.specs.declared.sasl_profile.error.ProfileError.TheVariants.{Frame}

same_client : (client other : ClientSide) → ScramProfile client ≡ ScramProfile other → client ≡ other
same_client client other is = cc

-- the client is as before, or it has sent the response to a signature
abbrev ComesToWait : ClientSide → ClientSide → Given → ClientSays → Type 0
ComesToWait client next event says = (next ≡ client)
    ⊎ ((text : List ℕ) × (body : List ℕ) × SpellsBody event.body (Ok (frames.Challenge text))
    × IsSigned (is_strict_client client) client.state text × (client.signature_by_challenge ≡ true) × (says ≡ Answered body))

-- with an error the client that was moved to is the next one, and with a reported outcome too
refusal_moves : (client next after : ClientSide) (moved : Profile) (reply : Result SaslFrame ProfileError)
    (fault : ProfileError) (says : ClientSays) → reply ≡ Err fault → moved ≡ ScramProfile after
    → Replies (ScramProfile client) moved reply says (ScramProfile next) → next ≡ after
refusal_moves client next after moved reply fault says is to said =
    same_client next after ((subst (λ (r : Result SaslFrame ProfileError). Replies (ScramProfile client) moved r says
    (ScramProfile next)) is said).1 ∙ to)

report_moves : (client next after : ClientSide) (moved : Profile) (reply : Result SaslFrame ProfileError)
    (code : SaslCode) (more : Option (List ℕ)) (says : ClientSays) → reply ≡ Ok (frames.Outcome code more)
    → moved ≡ ScramProfile after → Replies (ScramProfile client) moved reply says (ScramProfile next) → next ≡ after
report_moves client next after moved reply code more says is to said =
    same_client next after ((subst (λ (r : Result SaslFrame ProfileError). Replies (ScramProfile client) moved r says
    (ScramProfile next)) is said).1 ∙ to)

-- a frame that has no body leaves the client, and one that is sent moves it
sent_or_kept : (client next after : ClientSide) (moved : Profile) (carry : List ℕ → ClientSays) (body : Option (List ℕ))
    (says : ClientSays) → moved ≡ ScramProfile after
    → SendsCanonical (Refused (Frame faults.TooLarge)) carry body (ScramProfile client) moved says (ScramProfile next)
    → (next ≡ client) ⊎ ((written : List ℕ) × (says ≡ carry written) × (next ≡ after))
sent_or_kept client next after moved carry None says to said = inl (same_client next client said.1)
sent_or_kept client next after moved carry (Some body) says to said =
    inr (body, said.0, same_client next after (said.1 ∙ to))

init_moves : (client next after : ClientSide) (moved : Profile) (reply : Result SaslFrame ProfileError)
    (mechanism : List ℕ) (response hostname : Option (List ℕ)) (says : ClientSays)
    → reply ≡ Ok (frames.Init mechanism response hostname) → moved ≡ ScramProfile after
    → Replies (ScramProfile client) moved reply says (ScramProfile next)
    → (next ≡ client) ⊎ ((written : List ℕ) × (says ≡ Started written) × (next ≡ after))
init_moves client next after moved reply mechanism response hostname says is to said =
    sent_or_kept client next after moved (λ body. Started body)
    (canonical (frames.Init mechanism response hostname)) says to
    (subst (λ (r : Result SaslFrame ProfileError). Replies (ScramProfile client) moved r says (ScramProfile next)) is
    said)

response_moves : (client next after : ClientSide) (moved : Profile) (reply : Result SaslFrame ProfileError)
    (message : List ℕ) (says : ClientSays) → reply ≡ Ok (frames.Response message) → moved ≡ ScramProfile after
    → Replies (ScramProfile client) moved reply says (ScramProfile next)
    → (next ≡ client) ⊎ ((written : List ℕ) × (says ≡ Answered written) × (next ≡ after))
response_moves client next after moved reply message says is to said =
    sent_or_kept client next after moved (λ body. Answered body) (canonical (frames.Response message)) says to
    (subst (λ (r : Result SaslFrame ProfileError). Replies (ScramProfile client) moved r says (ScramProfile next)) is
    said)

-- a client that was moved to another state does not wait for an outcome without data
waits_otherwise : (client next after : ClientSide) (event : Given) (says : ClientSays) (keys : Option ClientKeys)
    → next.state ≡ SignatureVerified keys → after.state ≢ SignatureVerified keys → next ≡ after
    → ComesToWait client next event says
waits_otherwise client next after event says keys waits other to =
    absurd (other (sym (ap (λ (side : ClientSide). side.state) to) ∙ waits))

-- after its answer to a challenge it waits for the signature
after_answer : (state : ClientState) (client after : ClientSide) (text message : List ℕ) (keys : Option ClientKeys)
    → AnswersIn state client text (Ok message) after → after.state ≢ SignatureVerified keys
after_answer (client_states.ClientFirstSent nonce bare) client after text message keys from waits =
    let same = sym (ap (λ (side : ClientSide). side.state) from.3) ∙ waits in absurd (cc)
after_answer state client after text message keys from waits = absurd from

answer_error : (state : ClientState) (client after : ClientSide) (text : List ℕ) (kind : ScramErrorKind)
    → AnswersIn state client text (Err kind) after → after ≡ client
answer_error (client_states.ClientFirstSent nonce bare) client after text kind from = from.1
answer_error state client after text kind from = from.1

-- after an outcome Ok it has logged in
after_outcome : (state : ClientState) (client after : ClientSide) (text : List ℕ) (keys : Option ClientKeys)
    → VerifiesIn state client text (Ok tt) after → after.state ≢ SignatureVerified keys
after_outcome (client_states.ClientFinalSent signature sent) client after text keys from waits =
    let same = sym (ap (λ (side : ClientSide). side.state) from.1) ∙ waits in absurd (cc)
after_outcome state client after text keys from waits = absurd from

outcome_error : (state : ClientState) (client after : ClientSide) (text : List ℕ) (kind : ScramErrorKind)
    → VerifiesIn state client text (Err kind) after → after ≡ client
outcome_error (client_states.ClientFinalSent signature sent) client after text kind from = from.1
outcome_error state client after text kind from = from.1

after_end : (state : ClientState) (client after : ClientSide) (keys : Option ClientKeys)
    → ConcludesIn state client (Ok tt) after → after.state ≢ SignatureVerified keys
after_end (SignatureVerified sent) client after keys from waits =
    let same = sym (ap (λ (side : ClientSide). side.state) from) ∙ waits in absurd (cc)
after_end state client after keys from waits = absurd from

end_error : (state : ClientState) (client after : ClientSide) (kind : ScramErrorKind)
    → ConcludesIn state client (Err kind) after → after ≡ client
end_error (SignatureVerified sent) client after kind from = absurd from
end_error state client after kind from = from.1

-- a challenge that is accepted there shows the signature
checked_is_signed : (state : ClientState) (client after : ClientSide) (text : List ℕ)
    → ChecksSignatureIn state client text (Ok tt) after → IsSigned (is_strict_client client) state text
checked_is_signed (client_states.ClientFinalSent signature keys) client after text from =
    record { signature = signature; keys = keys; waits = refl; reads = from.0 }
checked_is_signed state client after text from = absurd from

check_error : (state : ClientState) (client after : ClientSide) (text : List ℕ) (kind : ScramErrorKind)
    → ChecksSignatureIn state client text (Err kind) after → after ≡ client
check_error (client_states.ClientFinalSent signature keys) client after text kind from = from.1
check_error state client after text kind from = from.1

accepts_signature : (accepts waits : Bool) → (accepts && waits) ≡ true → accepts ≡ true
accepts_signature true waits is = refl
accepts_signature false waits is = absurd (cc)

-- a challenge in UTF-8
challenge_waits : (expects : Bool) (client next : ClientSide) (event : Given) (text : List ℕ) (says : ClientSays)
    (keys : Option ClientKeys) (reply : Result SaslFrame ProfileError) (moved : Profile)
    → expects_signature client ≡ expects → next.state ≡ SignatureVerified keys
    → SpellsBody event.body (Ok (frames.Challenge text)) → ChallengeReplies expects client text reply moved
    → Replies (ScramProfile client) moved reply says (ScramProfile next) → ComesToWait client next event says
challenge_waits false client next event text says keys reply moved is waits spells (answer, after, from, sent, to) said =
    go answer from sent
  where
    go : (answer : Result (List ℕ) ScramErrorKind) → AnswersIn client.state client text answer after
        → reply ≡ client_frame (λ message. frames.Response message) answer → ComesToWait client next event says
    go (Err kind) from sent =
        inl (refusal_moves client next after moved reply (scram_fault kind) says sent to said
        ∙ answer_error client.state client after text kind from)
    go (Ok message) from sent = moves (response_moves client next after moved reply message says sent to said)
      where
        moves : (next ≡ client) ⊎ ((written : List ℕ) × (says ≡ Answered written) × (next ≡ after))
            → ComesToWait client next event says
        moves (inl same) = inl same
        moves (inr (written, is, same)) = waits_otherwise client next after event says keys waits
            (after_answer client.state client after text message keys from) same
challenge_waits true client next event text says keys reply moved is waits spells (answer, after, from, sent, to) said =
    go answer from sent
  where
    go : (answer : Result (Unit {0}) ScramErrorKind) → ChecksSignatureIn client.state client text answer after
        → reply ≡ client_frame (λ verified. frames.Response []) answer → ComesToWait client next event says
    go (Err kind) from sent =
        inl (refusal_moves client next after moved reply (scram_fault kind) says sent to said
        ∙ check_error client.state client after text kind from)
    go (Ok tt) from sent = moves (response_moves client next after moved reply [] says sent to said)
      where
        moves : (next ≡ client) ⊎ ((written : List ℕ) × (says ≡ Answered written) × (next ≡ after))
            → ComesToWait client next event says
        moves (inl same) = inl same
        moves (inr (written, writes, same)) = inr (
          text,
          written,
          spells,
          checked_is_signed client.state client after text from,
          accepts_signature client.signature_by_challenge (is_unsigned client.state) is,
          writes,
        )

pub verified_on_signature : VerifiedOnSignature
verified_on_signature hostname client next event says keys (Err fault, spells, gives) waits =
    inl (same_client next client gives.1)
verified_on_signature hostname client next event says keys (Ok frame, spells, inl wants) waits =
    inl (same_client next client wants.2)
verified_on_signature hostname client next event says keys (Ok frame, spells, inr gives) waits =
    go frame gives.0 gives.1 spells gives.2 gives.3
  where
    ends : (after : ClientSide) (moved : Profile) (reply : Result SaslFrame ProfileError)
        (answer : Result (Unit {0}) ScramErrorKind) (more : Option (List ℕ)) → moved ≡ ScramProfile after
        → (answer ≡ Ok tt → after.state ≢ SignatureVerified keys)
        → ((kind : ScramErrorKind) → answer ≡ Err kind → after ≡ client)
        → reply ≡ client_frame (λ verified. frames.Outcome outcomes.Ok more) answer
        → Replies (ScramProfile client) moved reply says (ScramProfile next) → ComesToWait client next event says
    ends after moved reply (Ok tt) more to other kept is said = waits_otherwise client next after event says keys waits
        (other refl) (report_moves client next after moved reply outcomes.Ok more says is to said)
    ends after moved reply (Err kind) more to other kept is said =
        inl (refusal_moves client next after moved reply (scram_fault kind) says is to said ∙ kept kind refl)

    starts : (next ≡ client) ⊎ ((written : List ℕ) × (says ≡ Started written) × (next ≡ started client event.nonce))
        → ComesToWait client next event says
    starts (inl same) = inl same
    starts (inr (written, is, same)) =
        let other = sym (ap (λ (side : ClientSide). side.state) same) ∙ waits in absurd (cc)

    go : (frame : SaslFrame) (reply : Result SaslFrame ProfileError) (moved : Profile)
        → SpellsBody event.body (Ok frame) → profile_machine (ScramProfile client) hostname event.nonce frame reply moved
        → Replies (ScramProfile client) moved reply says (ScramProfile next) → ComesToWait client next event says
    go (frames.Mechanisms names) reply moved spells (inl m) said =
        starts (init_moves client next (started client event.nonce) moved reply _ _ _ says m.1 m.2 said)
    go (frames.Mechanisms names) reply moved spells (inr m) said =
        inl (refusal_moves client next client moved reply _ says m.1 m.2 said)
    go (frames.Challenge text) reply moved spells (inl m) said =
        inl (refusal_moves client next client moved reply _ says m.1 m.2 said)
    go (frames.Challenge text) reply moved spells (inr m) said =
        challenge_waits (expects_signature client) client next event text says keys reply moved refl waits spells m.1
        said
    go (frames.Outcome outcomes.Ok None) reply moved spells (answer, after, from, is, to) said =
        ends after moved reply answer None to
        (λ same. after_end client.state client after keys
        (subst (λ (a : Result (Unit {0}) ScramErrorKind). ConcludesIn client.state client a after) same from))
        (λ kind same. end_error client.state client after kind
        (subst (λ (a : Result (Unit {0}) ScramErrorKind). ConcludesIn client.state client a after) same from)) is said
    go (frames.Outcome outcomes.Ok (Some text)) reply moved spells (answer, after, from, is, to) said =
        ends after moved reply answer (Some text) to
        (λ same. after_outcome client.state client after text keys
        (subst (λ (a : Result (Unit {0}) ScramErrorKind). VerifiesIn client.state client text a after) same from))
        (λ kind same. outcome_error client.state client after text kind
        (subst (λ (a : Result (Unit {0}) ScramErrorKind). VerifiesIn client.state client text a after) same from)) is
        said
    go (frames.Outcome outcomes.Auth more) reply moved spells m said =
        inl (report_moves client next client moved reply outcomes.Auth more says m.0 m.1 said)
    go (frames.Outcome outcomes.Sys more) reply moved spells m said =
        inl (report_moves client next client moved reply outcomes.Sys more says m.0 m.1 said)
    go (frames.Outcome outcomes.SysPerm more) reply moved spells m said =
        inl (report_moves client next client moved reply outcomes.SysPerm more says m.0 m.1 said)
    go (frames.Outcome outcomes.SysTemp more) reply moved spells m said =
        inl (report_moves client next client moved reply outcomes.SysTemp more says m.0 m.1 said)
    go (frames.Init mechanism response host) reply moved spells m said =
        inl (refusal_moves client next client moved reply _ says m.0 m.1 said)
    go (frames.Response text) reply moved spells m said =
        inl (refusal_moves client next client moved reply _ says m.0 m.1 said)
