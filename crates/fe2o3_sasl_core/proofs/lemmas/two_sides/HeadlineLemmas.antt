-- The headline theorem.
use Rattle.std.proofs.Common.{◌≡◌, ◌≢◌, ◌⊎◌, ℕ, false, true≢false, Option, Some, None, List, refl, sym, ap, ◌∙◌, subst, ⊎_elim, inl, inr, Result, Ok, Err}
use Rattle.std.specs.Prelude.{slice_get}
use Rattle.fe2o3_sasl_wire.specs.declared.amqp_types.SaslCode.TheVariants as outcomes
use Rattle.fe2o3_sasl_wire.specs.declared.sasl_frames.error.Error.{Error}
use Rattle.fe2o3_sasl_wire.specs.declared.sasl_frames.error.Error.TheVariants as faults
use Rattle.fe2o3_sasl_wire.specs.SaslFrames as frames
use Rattle.fe2o3_sasl_wire.specs.SaslFrames.{SaslFrame}
use Rattle.fe2o3_scram.specs.declared.scram_messages.error.ScramErrorKind.{ScramErrorKind}
use Rattle.fe2o3_sasl_core.specs.ClientHistory.{ClientHistory, OpenAnswer, VerifiedAnswer, IsDue, ClientAnswers, ClientAllocates, ReadsOutcome}
use Rattle.fe2o3_scram.specs.Credentials.{Provider}
use Rattle.fe2o3_sasl_core.specs.Events.{Given, Login, IsRecord, ServerSays, Concluded, Failed, ClientSays, Reported, Refused, scram_fault}
use Rattle.fe2o3_sasl_core.specs.Headline.{AnswersOkExactly, SignedAt, ReportsOkExactly, VerifierAgrees, TakenVerifiersAgree}
use Rattle.fe2o3_sasl_core.specs.Laws.{EveryServer, EveryClient}
use Rattle.fe2o3_sasl_core.specs.Positions.{test_at}
use Rattle.fe2o3_sasl_core.specs.Bodies.{SpellsBody}
use Rattle.fe2o3_sasl_core.specs.ServerHistory.{Challenging, Accepted, FitsAsResponse, AcceptsAt, Open, ServerAnswers, ServerAllocates, ServerHistory, says_ok, is_ok}
use Rattle.fe2o3_sasl_core.specs.TwoSides.{Sides, Histories, ReportedAnswer, Takes}
use Rattle.fe2o3_sasl_core.proofs.lemmas.histories.OneClientHistoryLemmas.{one_open_answer, one_reading_of_outcome}
use Rattle.fe2o3_sasl_core.proofs.lemmas.histories.ReportedOkLemmas.{reported_at}
use Rattle.fe2o3_sasl_core.proofs.lemmas.two_sides.MeetingSidesLemmas.{agree, met_taken, taken_signature}
use Rattle.fe2o3_sasl_core.proofs.lemmas.histories.OneServerHistoryLemmas.{one_response, one_challenge}
use Rattle.fe2o3_sasl_core.proofs.lemmas.histories.ServerLawLemmas.{ok_accepts}
use Rattle.fe2o3_sasl_core.proofs.lemmas.frames.SpellingLemmas.{one_spelling}
use Rattle.fe2o3_sasl_core.specs.declared.sasl_profile.error.ProfileError.TheVariants.{OutOfMemory}

-- ---- the server

-- a response that fits is answered with its Ok
ok_told : (provider : Provider) (IsOpen : Challenging → Type 0) (event : Given) (frame : SaslFrame)
    (accepted : Accepted) (says : ServerSays) → FitsAsResponse provider IsOpen frame accepted
    → ((one other : Accepted) → FitsAsResponse provider IsOpen frame one → FitsAsResponse provider IsOpen frame other
    → one ≡ other) → ServerAnswers provider IsOpen event (Ok frame) says → says ≡ says_ok provider accepted
ok_told provider IsOpen event (frames.Mechanisms names) accepted says fits one row = absurd fits
ok_told provider IsOpen event (frames.Challenge text) accepted says fits one row = absurd fits
ok_told provider IsOpen event (frames.Outcome code more) accepted says fits one row = absurd fits
ok_told provider IsOpen event (frames.Init mechanism response hostname) accepted says fits one row = absurd fits
ok_told provider IsOpen event (frames.Response text) accepted says fits one (inl row) =
    row.2 ∙ ap (says_ok provider) (one row.0 accepted row.1 fits)
ok_told provider IsOpen event (frames.Response text) accepted says fits one (inr row) = absurd (row.0 accepted fits)

-- the table's row at a response that is accepted
accepted_row : (provider : Provider) (events : List Given) (replies : List ServerSays) (n : ℕ) (accepted : Accepted)
    (says : ServerSays) → ServerHistory provider events replies
    → (accepts : AcceptsAt provider events replies n accepted)
    → slice_get replies n ≡ Some says → (says ≡ Failed faults.OutOfMemory)
    ⊎ ServerAnswers provider (Open provider events replies n) accepts.0 (Ok accepts.1) says
accepted_row provider events replies n accepted says history accepts at =
    let row = history.each n accepts.0 says accepts.2 at in
    let spelled = one_spelling accepts.0.body row.0 (Ok accepts.1) row.1 accepts.3 in
    ⊎_elim (λ (none : ServerAllocates row.0 × (says ≡ Failed faults.OutOfMemory)). inl none.1)
    (λ (told : ServerAnswers provider (Open provider events replies n) accepts.0 row.0 says). inr
    (subst (λ (s : Result SaslFrame Error). ServerAnswers provider
    (Open provider events replies n) accepts.0 s says) spelled told)) row.2

-- a response that is accepted is answered with its Ok, but for running out of memory
wherever_accepted : (provider : Provider) (events : List Given) (replies : List ServerSays) (n : ℕ)
    (accepted : Accepted) (says : ServerSays)
    → ServerHistory provider events replies → AcceptsAt provider events replies n accepted
    → slice_get replies n ≡ Some says → says ≢ Failed faults.OutOfMemory → says ≡ says_ok provider accepted
wherever_accepted provider events replies n accepted says history accepts at memory =
    ⊎_elim (λ (none : says ≡ Failed faults.OutOfMemory). absurd (memory none))
    (λ (told : ServerAnswers provider (Open provider events replies n) accepts.0 (Ok accepts.1) says).
    ok_told provider (Open provider events replies n) accepts.0 accepts.1 accepted says accepts.4
    (one_response provider (Open provider events replies n) (Open provider events replies n)
    (one_challenge provider events replies n) accepts.1) told)
    (accepted_row provider events replies n accepted says history accepts at)

pub answers_ok_exactly : EveryServer AnswersOkExactly
answers_ok_exactly provider events replies history = record {
  only = λ n body at.
      let is = ok_accepts provider events replies n body history at in (
        is.0,
        is.1,
        wherever_accepted provider events replies n is.0 (Concluded outcomes.Ok body) history is.1 at
            not_memory,
      );
  closes = λ n j k body is opened later also. true≢false
      (sym (ap (test_at is_ok) is) ∙ also.kept n opened.before later);
  wherever = λ n accepted says. wherever_accepted provider events replies n accepted says history;
}
  where
    not_memory : {body : List ℕ} → Concluded outcomes.Ok body ≢ Failed faults.OutOfMemory
    not_memory same = absurd (cc)

-- ---- the client

signed : (login : Login) (events : List Given) (replies : List ClientSays) (m : ℕ) (event : Given)
    (more : Option (List ℕ)) → slice_get events m ≡ Some event
    → SpellsBody event.body (Ok (frames.Outcome outcomes.Ok more))
    → ReadsOutcome login (OpenAnswer login events replies m) (VerifiedAnswer login events replies m) more (Ok tt)
    → SignedAt login events replies m more
signed login events replies m event None at spells reads = (event, reads.0, at, spells, reads.1)
signed login events replies m event (Some text) at spells reads = (event, reads.0, at, spells, reads.1, reads.2)

-- a client reports Ok only where the signature is given
only_where_signed : (login : Login) (events : List Given) (replies : List ClientSays) (m : ℕ) (more : Option (List ℕ))
    → ClientHistory login events replies → slice_get replies m ≡ Some (Reported outcomes.Ok more)
    → SignedAt login events replies m more
only_where_signed login events replies m more history at =
    let is = reported_at login events replies m more history at in
    signed login events replies m is.0 more is.1 is.2 is.3

-- with data, where the signature may not come in a challenge
signed_with_data : (login : Login) (events : List Given) (replies : List ClientSays) (m : ℕ)
    (more : Option (List ℕ)) → login.signature_by_challenge ≡ false → SignedAt login events replies m more
    → (text : List ℕ) × (more ≡ Some text)
signed_with_data login events replies m None unsigned signed = absurd (true≢false (sym signed.4.2.4.0 ∙ unsigned))
signed_with_data login events replies m (Some text) unsigned signed = (text, refl)

-- where it is given, the outcome is read so
reads_signed : (login : Login) (events : List Given) (replies : List ClientSays) (m : ℕ) (more : Option (List ℕ))
    → SignedAt login events replies m more → (event : Given) × (slice_get events m ≡ Some event)
    × SpellsBody event.body (Ok (frames.Outcome outcomes.Ok more))
    × ReadsOutcome login (OpenAnswer login events replies m) (VerifiedAnswer login events replies m) more (Ok tt)
reads_signed login events replies m None is = (is.0, is.2, is.3, (is.1, is.4))
reads_signed login events replies m (Some text) is = (is.0, is.2, is.3, (is.1, is.4, is.5))

-- and wherever it is
wherever_signed : (login : Login) (events : List Given) (replies : List ClientSays) (m : ℕ) (more : Option (List ℕ))
    (says : ClientSays) → ClientHistory login events replies → SignedAt login events replies m more
    → slice_get replies m ≡ Some says → says ≢ Refused OutOfMemory → says ≡ Reported outcomes.Ok more
wherever_signed login events replies m more says history is at memory =
    let signs = reads_signed login events replies m more is in
    let event = signs.0 in
    let row = history.each m event says signs.1 at in
    let spelled = one_spelling event.body row.0 (Ok (frames.Outcome outcomes.Ok more)) row.1 signs.2 in
    ⊎_elim (λ (none : ClientAllocates login row.0 × (says ≡ Refused OutOfMemory)). absurd (memory none.1))
    (λ (told : ClientAnswers login (IsDue events replies m) (OpenAnswer login events replies m)
    (VerifiedAnswer login events replies m) event row.0 says).
    go signs.3 (subst (λ (s : Result SaslFrame Error). ClientAnswers login (IsDue events replies m)
    (OpenAnswer login events replies m) (VerifiedAnswer login events replies m) event s says) spelled told))
    row.2
  where
    go : ReadsOutcome login (OpenAnswer login events replies m) (VerifiedAnswer login events replies m) more (Ok tt)
        → (ReadsOutcome login (OpenAnswer login events replies m) (VerifiedAnswer login events replies m) more (Ok tt)
        × (says ≡ Reported outcomes.Ok more))
        ⊎ ((kind : ScramErrorKind) × ReadsOutcome login (OpenAnswer login events replies m)
        (VerifiedAnswer login events replies m) more (Err kind) × (says ≡ Refused (scram_fault kind)))
        → says ≡ Reported outcomes.Ok more
    go reads (inl told) = told.1
    go reads (inr told) = let same = one_reading_of_outcome login (OpenAnswer login events replies m)
        (VerifiedAnswer login events replies m) (one_open_answer login events replies m) more (Ok tt) (Err told.0)
        reads told.1 in absurd (cc)

pub reports_ok_exactly : EveryClient ReportsOkExactly
reports_ok_exactly login events replies history = record {
  only = λ m more. only_where_signed login events replies m more history;
  with_data = λ unsigned m more at. signed_with_data login events replies m more unsigned
      (only_where_signed login events replies m more history at);
  wherever = λ m more says. wherever_signed login events replies m more says history;
}

-- ---- both

-- a verifier that the client took and the server issued
pub verifier_agrees : (sides : Sides) (m n : ℕ) (accepted : Accepted) → Histories sides
    → IsRecord accepted.challenge.stored → Takes sides m n accepted → VerifierAgrees sides m accepted
verifier_agrees sides m n accepted histories kept takes =
    let taken = taken_signature sides m n accepted histories takes in
    let reported_on : ReportedAnswer sides.login sides.client_events sides.client_replies m taken.0 =
    (takes.more, takes.reported, taken.1) in
    let meets = met_taken sides m n taken.0 accepted histories kept takes reported_on in
    record {
      answer = taken.0;
      opened = reported_on;
      agrees = λ same. agree sides taken.0 accepted meets same;
      collides = λ differ. record { version = taken.2.0; differ = differ; one = taken.2.1 };
    }

pub taken_verifiers_agree : EveryClient TakenVerifiersAgree
taken_verifiers_agree login events replies history sides m n accepted login_is events_are replies_are server kept takes =
    let client : ClientHistory sides.login sides.client_events sides.client_replies =
    subst (λ l. ClientHistory l sides.client_events sides.client_replies) (sym login_is)
    (subst (λ e. ClientHistory login e sides.client_replies) (sym events_are)
    (subst (λ r. ClientHistory login events r) (sym replies_are) history)) in
    verifier_agrees sides m n accepted (record { client = client; server = server }) kept takes
