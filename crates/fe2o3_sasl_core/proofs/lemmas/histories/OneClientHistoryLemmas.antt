-- What is due and what is open have one value, and two client histories without running out of memory are one.
use Rattle.std.proofs.Common.{◌≡◌, ◌⊎◌, ℕ, zero, suc, ◌<◌, ◌≤◌, Option, Some, None, List, length, refl, sym, ap, ◌∙◌, subst, arith, ⊎_elim, inl, inr, Result, Ok, Err}
use Rattle.std.specs.Prelude.{slice_get}
use Rattle.std.proofs.lemmas.Option.{same_Some}
use Rattle.fe2o3_sasl_wire.specs.declared.amqp_types.SaslCode.TheVariants as outcomes
use Rattle.fe2o3_sasl_wire.specs.declared.sasl_frames.error.Error.{Error}
use Rattle.fe2o3_sasl_wire.specs.SaslFrames as frames
use Rattle.fe2o3_sasl_wire.specs.SaslFrames.{SaslFrame}
use Rattle.fe2o3_scram.specs.declared.scram_messages.error.ScramErrorKind.{ScramErrorKind}
use Rattle.fe2o3_scram.specs.Texts.{base64_text}
use Rattle.fe2o3_sasl_core.specs.ClientHistory.{Answering, answer_at, client_at, says_answer, ReadsChallenge, ReadsOutcome, ReadsSigning, ClientAnswers, ClientAllocates, is_start, is_answer, ends_answer, NonceAt, IsDue, AnswersAt, OpenAnswer, SignsAt, VerifiedAnswer, ClientHistory}
use Rattle.fe2o3_sasl_core.specs.Events.{is_strict_login, Given, Login, ClientSays, Refused, scram_fault}
use Rattle.fe2o3_sasl_core.specs.Laws.{OneClientHistory}
use Rattle.fe2o3_scram.specs.ServerFinal.{ReadsServerFinal}
use Rattle.fe2o3_scram.specs.ServerFirst.{ServerFirst, ReadsServerFirst}
use Rattle.fe2o3_sasl_core.specs.Bodies.{SpellsBody}
use Rattle.fe2o3_sasl_core.specs.Complete.{ClientComplete}
use Rattle.fe2o3_sasl_core.proofs.lemmas.positions.OpenStateLemmas.{AreSame, OfOne, AgreeBelow, one_open_by, open_by_agrees}
use Rattle.fe2o3_sasl_core.proofs.lemmas.positions.PositionLemmas.{below_or_at, some_at, same_list}
use Rattle.fe2o3_scram.proofs.lemmas.messages.ServerFinalLemmas.{one_server_final}
use Rattle.fe2o3_scram.proofs.lemmas.messages.ServerFirstLemmas.{one_server_first}
use Rattle.fe2o3_sasl_core.proofs.lemmas.frames.SpellingLemmas.{one_spelling}
use Rattle.fe2o3_sasl_core.specs.declared.sasl_profile.error.ProfileError.TheVariants.{OutOfMemory}

-- ---- the table

-- a challenge is read alike where the same is due
pub challenge_moves : (login : Login) (Due Other : List ℕ → Type 0) → AreSame Due Other
    → (text : List ℕ) (answer : Result Answering ScramErrorKind) → ReadsChallenge login Due text answer
    → ReadsChallenge login Other text answer
challenge_moves login Due Other same text (Ok answer) h = (h.0, h.1, same.0 answer.nonce h.2, h.3)
challenge_moves login Due Other same text (Err kind) (inl h) = inl h
challenge_moves login Due Other same text (Err kind) (inr (inl h)) =
    inr (inl (h.0, (λ nonce due. h.1 nonce (same.1 nonce due)), h.2))
challenge_moves login Due Other same text (Err kind) (inr (inr h)) = inr (inr (h.0, (h.1.0, same.0 h.1.0 h.1.1, h.1.2)))

-- a signature in a challenge is read alike where the same is open
pub signing_moves : (login : Login) (IsOpen Other : Answering → Type 0) → AreSame IsOpen Other → (text : List ℕ)
    (result : Result (Unit {0}) ScramErrorKind) → ReadsSigning login IsOpen text result
    → ReadsSigning login Other text result
signing_moves login IsOpen Other same text result h = (h.0, (h.1.0, same.0 h.0 h.1.1), h.2)

-- an outcome is read alike where the same is open, and the same is verified
pub outcome_moves : (login : Login) (IsOpen Other IsVerified OtherVerified : Answering → Type 0)
    → AreSame IsOpen Other → AreSame IsVerified OtherVerified → (more : Option (List ℕ))
    (answer : Result (Unit {0}) ScramErrorKind) → ReadsOutcome login IsOpen IsVerified more answer
    → ReadsOutcome login Other OtherVerified more answer
outcome_moves login IsOpen Other IsVerified OtherVerified same verified None (Ok done) h = (h.0, verified.0 h.0 h.1)
outcome_moves login IsOpen Other IsVerified OtherVerified same verified None (Err kind) h =
    ((λ answer is. h.0 answer (verified.1 answer is)), h.1)
outcome_moves login IsOpen Other IsVerified OtherVerified same verified (Some text) (Ok done) h =
    (h.0, same.0 h.0 h.1, h.2)
outcome_moves login IsOpen Other IsVerified OtherVerified same verified (Some text) (Err kind) (inl h) =
    inl ((λ answer opened. h.0 answer (same.1 answer opened)), h.1)
outcome_moves login IsOpen Other IsVerified OtherVerified same verified (Some text) (Err kind) (inr h) =
    inr (h.0, same.0 h.0 h.1, h.2)

-- the table says the same where the same is due, the same is open and the same is verified
pub client_moves : (login : Login) (Due OtherDue : List ℕ → Type 0) (IsOpen OtherOpen : Answering → Type 0)
    (IsVerified OtherVerified : Answering → Type 0) → AreSame Due OtherDue → AreSame IsOpen OtherOpen
    → AreSame IsVerified OtherVerified → (event : Given) (spelled : Result SaslFrame Error) (says : ClientSays)
    → ClientAnswers login Due IsOpen IsVerified event spelled says
    → ClientAnswers login OtherDue OtherOpen OtherVerified event spelled says
client_moves login Due OtherDue IsOpen OtherOpen IsVerified OtherVerified due opened verified event spelled says =
    go spelled
  where
    go : (spelled : Result SaslFrame Error) → ClientAnswers login Due IsOpen IsVerified event spelled says
        → ClientAnswers login OtherDue OtherOpen OtherVerified event spelled says
    go (Err fault) h = h
    go (Ok (frames.Init mechanism response hostname)) h = h
    go (Ok (frames.Response text)) h = h
    go (Ok (frames.Mechanisms names)) h = h
    go (Ok (frames.Challenge text)) (inl h) = inl (signing_moves login IsOpen OtherOpen opened text (Ok tt) h.0, h.1)
    go (Ok (frames.Challenge text)) (inr (inl h)) =
        inr (inl (h.0, signing_moves login IsOpen OtherOpen opened text (Err h.0) h.1, h.2))
    go (Ok (frames.Challenge text)) (inr (inr h)) =
        inr (inr ((λ answer may. h.0 answer (may.0, opened.1 answer may.1)), challenge h.1))
      where
        challenge : ((answer : Answering) × ReadsChallenge login Due text (Ok answer) × (says ≡ says_answer login answer))
            ⊎ ((kind : ScramErrorKind) × ReadsChallenge login Due text (Err kind) × (says ≡ Refused (scram_fault kind)))
            → ((answer : Answering) × ReadsChallenge login OtherDue text (Ok answer)
            × (says ≡ says_answer login answer))
            ⊎ ((kind : ScramErrorKind) × ReadsChallenge login OtherDue text (Err kind)
            × (says ≡ Refused (scram_fault kind)))
        challenge (inl c) = inl (c.0, challenge_moves login Due OtherDue due text (Ok c.0) c.1, c.2)
        challenge (inr c) = inr (c.0, challenge_moves login Due OtherDue due text (Err c.0) c.1, c.2)
    go (Ok (frames.Outcome outcomes.Ok more)) (inl h) =
        inl (outcome_moves login IsOpen OtherOpen IsVerified OtherVerified opened verified more (Ok tt) h.0, h.1)
    go (Ok (frames.Outcome outcomes.Ok more)) (inr h) = inr (
      h.0,
      outcome_moves login IsOpen OtherOpen IsVerified OtherVerified opened verified more (Err h.0) h.1,
      h.2,
    )
    go (Ok (frames.Outcome outcomes.Auth more)) h = h
    go (Ok (frames.Outcome outcomes.Sys more)) h = h
    go (Ok (frames.Outcome outcomes.SysPerm more)) h = h
    go (Ok (frames.Outcome outcomes.SysTemp more)) h = h

abbrev answering : List ℕ → List ℕ → ServerFirst → Answering
answering nonce text first = record { nonce = nonce; text = text; first = first }

-- a challenge has one reading, where it is due for one nonce at most
pub one_reading_of_challenge : (login : Login) (Due : List ℕ → Type 0) → OfOne Due
    → (text : List ℕ) (answer other : Result Answering ScramErrorKind) → ReadsChallenge login Due text answer
    → ReadsChallenge login Due text other → answer ≡ other
one_reading_of_challenge login Due one text answer other = go answer other
  where
    -- against one nonce
    reads : (nonce again : List ℕ) (first second : Result ServerFirst ScramErrorKind) → Due nonce → Due again
        → ReadsServerFirst (client_at login nonce) text first → ReadsServerFirst (client_at login again) text second
        → first ≡ second
    reads nonce again first second due too h k = one_server_first (client_at login again) text first second
        (subst (λ (n : List ℕ). ReadsServerFirst (client_at login n) text first) (one nonce again due too) h) k

    same_Ok : (x y : ServerFirst) → ◌≡◌ {A = Result ServerFirst ScramErrorKind} (Ok x) (Ok y) → x ≡ y
    same_Ok x y e = cc

    same_Err : (x y : ScramErrorKind) → ◌≡◌ {A = Result ServerFirst ScramErrorKind} (Err x) (Err y) → x ≡ y
    same_Err x y e = cc

    apart : (x : ServerFirst) (y : ScramErrorKind) → ◌≡◌ {A = Result ServerFirst ScramErrorKind} (Ok x) (Err y) → ⊥
    apart x y e = absurd (cc)

    go : (a b : Result Answering ScramErrorKind) → ReadsChallenge login Due text a → ReadsChallenge login Due text b
        → a ≡ b
    go (Ok a) (Ok b) h k =
        let nonce = one a.nonce b.nonce h.2 k.2 in
        let texts : a.text ≡ b.text = h.1 ∙ sym k.1 in
        let first : a.first ≡ b.first = same_Ok a.first b.first
        (reads a.nonce b.nonce (Ok a.first) (Ok b.first) h.2 k.2 h.3 k.3) in
        λ i. Ok (answering (nonce i) (texts i) (first i))
    go (Ok a) (Err b) h (inl k) = absurd (k.0 h.0)
    go (Ok a) (Err b) h (inr (inl k)) = absurd (k.1 a.nonce h.2)
    go (Ok a) (Err b) h (inr (inr k)) =
        absurd (apart a.first b (reads a.nonce k.1.0 (Ok a.first) (Err b) h.2 k.1.1 h.3 k.1.2))
    go (Err a) (Ok b) (inl h) k = absurd (h.0 k.0)
    go (Err a) (Ok b) (inr (inl h)) k = absurd (h.1 b.nonce k.2)
    go (Err a) (Ok b) (inr (inr h)) k =
        absurd (apart b.first a (reads b.nonce h.1.0 (Ok b.first) (Err a) k.2 h.1.1 k.3 h.1.2))
    go (Err a) (Err b) (inl h) (inl k) = ap Err (h.1 ∙ sym k.1)
    go (Err a) (Err b) (inl h) (inr (inl k)) = absurd (h.0 k.0)
    go (Err a) (Err b) (inl h) (inr (inr k)) = absurd (h.0 k.0)
    go (Err a) (Err b) (inr (inl h)) (inl k) = absurd (k.0 h.0)
    go (Err a) (Err b) (inr (inl h)) (inr (inl k)) = ap Err (h.2 ∙ sym k.2)
    go (Err a) (Err b) (inr (inl h)) (inr (inr k)) = absurd (h.1 k.1.0 k.1.1)
    go (Err a) (Err b) (inr (inr h)) (inl k) = absurd (k.0 h.0)
    go (Err a) (Err b) (inr (inr h)) (inr (inl k)) = absurd (k.1 h.1.0 h.1.1)
    go (Err a) (Err b) (inr (inr h)) (inr (inr k)) = ap Err
        (same_Err a b (reads h.1.0 k.1.0 (Err a) (Err b) h.1.1 k.1.1 h.1.2 k.1.2))

-- a server-final message has one reading, where one answer at most is open
one_reading_of_signature : (login : Login) (IsOpen : Answering → Type 0) → OfOne IsOpen → (text : List ℕ)
    (waits again : Answering) (first second : Result (Unit {0}) ScramErrorKind) → IsOpen waits → IsOpen again
    → ReadsServerFinal (is_strict_login login) (answer_at login waits).signature text first
    → ReadsServerFinal (is_strict_login login) (answer_at login again).signature text second → first ≡ second
one_reading_of_signature login IsOpen one text waits again first second opened too h k =
    one_server_final (is_strict_login login) (answer_at login again).signature text first second
    (subst (λ (x : Answering). ReadsServerFinal (is_strict_login login) (answer_at login x).signature text first)
    (one waits again opened too) h) k

-- so has a signature in a challenge
pub one_reading_of_signing : (login : Login) (IsOpen : Answering → Type 0) → OfOne IsOpen → (text : List ℕ)
    (answer other : Result (Unit {0}) ScramErrorKind) → ReadsSigning login IsOpen text answer
    → ReadsSigning login IsOpen text other → answer ≡ other
one_reading_of_signing login IsOpen one text answer other h k =
    one_reading_of_signature login IsOpen one text h.0 k.0 answer other h.1.1 k.1.1 h.2 k.2

-- an outcome has one reading, where one answer at most is open
pub one_reading_of_outcome : (login : Login) (IsOpen IsVerified : Answering → Type 0) → OfOne IsOpen
    → (more : Option (List ℕ)) (answer other : Result (Unit {0}) ScramErrorKind)
    → ReadsOutcome login IsOpen IsVerified more answer → ReadsOutcome login IsOpen IsVerified more other
    → answer ≡ other
one_reading_of_outcome login IsOpen IsVerified one None (Ok a) (Ok b) h k = refl
one_reading_of_outcome login IsOpen IsVerified one None (Ok a) (Err b) h k = absurd (k.0 h.0 h.1)
one_reading_of_outcome login IsOpen IsVerified one None (Err a) (Ok b) h k = absurd (h.0 k.0 k.1)
one_reading_of_outcome login IsOpen IsVerified one None (Err a) (Err b) h k = ap Err (h.1 ∙ sym k.1)
one_reading_of_outcome login IsOpen IsVerified one (Some text) answer other h k = go answer other h k
  where
    reads : (waits again : Answering) (first second : Result (Unit {0}) ScramErrorKind) → IsOpen waits → IsOpen again
        → ReadsServerFinal (is_strict_login login) (answer_at login waits).signature text first
        → ReadsServerFinal (is_strict_login login) (answer_at login again).signature text second
        → first ≡ second
    reads = one_reading_of_signature login IsOpen one text

    go : (a b : Result (Unit {0}) ScramErrorKind) → ReadsOutcome login IsOpen IsVerified (Some text) a
        → ReadsOutcome login IsOpen IsVerified (Some text) b → a ≡ b
    go (Ok a) (Ok b) h k = refl
    go (Ok a) (Err b) h (inl k) = absurd (k.0 h.0 h.1)
    go (Ok a) (Err b) h (inr k) = reads h.0 k.0 (Ok a) (Err b) h.1 k.1 h.2 k.2
    go (Err a) (Ok b) (inl h) k = absurd (h.0 k.0 k.1)
    go (Err a) (Ok b) (inr h) k = reads h.0 k.0 (Err a) (Ok b) h.1 k.1 h.2 k.2
    go (Err a) (Err b) (inl h) (inl k) = ap Err (h.1 ∙ sym k.1)
    go (Err a) (Err b) (inl h) (inr k) = absurd (h.0 k.0 k.1)
    go (Err a) (Err b) (inr h) (inl k) = absurd (k.0 h.0 h.1)
    go (Err a) (Err b) (inr h) (inr k) = reads h.0 k.0 (Err a) (Err b) h.1 k.1 h.2 k.2

-- the table has one reply, where one nonce at most is due and one answer at most is open
pub one_client_answer : (login : Login) (Due : List ℕ → Type 0) (IsOpen IsVerified : Answering → Type 0) → OfOne Due
    → OfOne IsOpen → (event : Given) (spelled : Result SaslFrame Error) (says other : ClientSays)
    → ClientAnswers login Due IsOpen IsVerified event spelled says
    → ClientAnswers login Due IsOpen IsVerified event spelled other → says ≡ other
one_client_answer login Due IsOpen IsVerified due opened event (Err fault) says other h k = h ∙ sym k
one_client_answer login Due IsOpen IsVerified due opened event (Ok (frames.Init mechanism response hostname)) says other h k =
    h ∙ sym k
one_client_answer login Due IsOpen IsVerified due opened event (Ok (frames.Response text)) says other h k = h ∙ sym k
one_client_answer login Due IsOpen IsVerified due opened event (Ok (frames.Mechanisms names)) says other (inl h) (inl k) =
    h.1 ∙ sym k.1
one_client_answer login Due IsOpen IsVerified due opened event (Ok (frames.Mechanisms names)) says other (inl h) (inr k) =
    absurd (k.0 h.0)
one_client_answer login Due IsOpen IsVerified due opened event (Ok (frames.Mechanisms names)) says other (inr h) (inl k) =
    absurd (h.0 k.0)
one_client_answer login Due IsOpen IsVerified due opened event (Ok (frames.Mechanisms names)) says other (inr h) (inr k) =
    h.1 ∙ sym k.1
one_client_answer login Due IsOpen IsVerified due opened event (Ok (frames.Challenge text)) says other h k = go h k
  where
    Table : ClientSays → Type 0
    Table answer = ((answering : Answering) × ReadsChallenge login Due text (Ok answering)
        × (answer ≡ says_answer login answering))
        ⊎ ((kind : ScramErrorKind) × ReadsChallenge login Due text (Err kind) × (answer ≡ Refused (scram_fault kind)))

    same : (a b : Result Answering ScramErrorKind) → ReadsChallenge login Due text a → ReadsChallenge login Due text b
        → a ≡ b
    same a b x y = one_reading_of_challenge login Due due text a b x y

    table : Table says → Table other → says ≡ other
    table (inl h) (inl k) = let e = same (Ok h.0) (Ok k.0) h.1 k.1 in let d : h.0 ≡ k.0 = cc in
        h.2 ∙ (ap (says_answer login) d ∙ sym k.2)
    table (inl h) (inr k) = let e = same (Ok h.0) (Err k.0) h.1 k.1 in absurd (cc)
    table (inr h) (inl k) = let e = same (Err h.0) (Ok k.0) h.1 k.1 in absurd (cc)
    table (inr h) (inr k) = let e = same (Err h.0) (Err k.0) h.1 k.1 in let d : h.0 ≡ k.0 = cc in
        h.2 ∙ (ap (λ (x : ScramErrorKind). Refused (scram_fault x)) d ∙ sym k.2)

    signed : (a b : Result (Unit {0}) ScramErrorKind) → ReadsSigning login IsOpen text a
        → ReadsSigning login IsOpen text b → a ≡ b
    signed a b x y = one_reading_of_signing login IsOpen opened text a b x y

    go : ClientAnswers login Due IsOpen IsVerified event (Ok (frames.Challenge text)) says
        → ClientAnswers login Due IsOpen IsVerified event (Ok (frames.Challenge text)) other → says ≡ other
    go (inl h) (inl k) = h.1 ∙ sym k.1
    go (inl h) (inr (inl k)) = let e = signed (Ok tt) (Err k.0) h.0 k.1 in absurd (cc)
    go (inl h) (inr (inr k)) = absurd (k.0 h.0.0 h.0.1)
    go (inr (inl h)) (inl k) = let e = signed (Err h.0) (Ok tt) h.1 k.0 in absurd (cc)
    go (inr (inl h)) (inr (inl k)) = let e = signed (Err h.0) (Err k.0) h.1 k.1 in let d : h.0 ≡ k.0 = cc in
        h.2 ∙ (ap (λ (x : ScramErrorKind). Refused (scram_fault x)) d ∙ sym k.2)
    go (inr (inl h)) (inr (inr k)) = absurd (k.0 h.1.0 h.1.1)
    go (inr (inr h)) (inl k) = absurd (h.0 k.0.0 k.0.1)
    go (inr (inr h)) (inr (inl k)) = absurd (h.0 k.1.0 k.1.1)
    go (inr (inr h)) (inr (inr k)) = table h.1 k.1
one_client_answer login Due IsOpen IsVerified due opened event (Ok (frames.Outcome outcomes.Ok more)) says other h k = go h k
  where
    same : (a b : Result (Unit {0}) ScramErrorKind) → ReadsOutcome login IsOpen IsVerified more a
        → ReadsOutcome login IsOpen IsVerified more b → a ≡ b
    same a b x y = one_reading_of_outcome login IsOpen IsVerified opened more a b x y

    go : ClientAnswers login Due IsOpen IsVerified event (Ok (frames.Outcome outcomes.Ok more)) says
        → ClientAnswers login Due IsOpen IsVerified event (Ok (frames.Outcome outcomes.Ok more)) other → says ≡ other
    go (inl h) (inl k) = h.1 ∙ sym k.1
    go (inl h) (inr k) = let e = same (Ok tt) (Err k.0) h.0 k.1 in absurd (cc)
    go (inr h) (inl k) = let e = same (Err h.0) (Ok tt) h.1 k.0 in absurd (cc)
    go (inr h) (inr k) = let e = same (Err h.0) (Err k.0) h.1 k.1 in let d : h.0 ≡ k.0 = cc in
        h.2 ∙ (ap (λ (x : ScramErrorKind). Refused (scram_fault x)) d ∙ sym k.2)
one_client_answer login Due IsOpen IsVerified due opened event (Ok (frames.Outcome outcomes.Auth more)) says other h k = h ∙ sym k
one_client_answer login Due IsOpen IsVerified due opened event (Ok (frames.Outcome outcomes.Sys more)) says other h k = h ∙ sym k
one_client_answer login Due IsOpen IsVerified due opened event (Ok (frames.Outcome outcomes.SysPerm more)) says other h k =
    h ∙ sym k
one_client_answer login Due IsOpen IsVerified due opened event (Ok (frames.Outcome outcomes.SysTemp more)) says other h k =
    h ∙ sym k

-- ---- what is due and what is open

-- an event has one nonce text
pub one_nonce_at : (events : List Given) (k : ℕ) → OfOne (NonceAt events k)
one_nonce_at events k m n h i =
    h.2 ∙ (ap (λ (event : Given). base64_text event.nonce) (same_Some h.0 i.0 (sym h.1 ∙ i.1)) ∙ sym i.2)

-- a challenge is due for one nonce at most
pub one_due : (events : List Given) (replies : List ClientSays) (k : ℕ) → OfOne (IsDue events replies k)
one_due events replies k = one_open_by is_start is_answer (NonceAt events) replies k (one_nonce_at events)

-- a position has one answer
pub one_answers_at : (login : Login) (events : List Given) (replies : List ClientSays) (k : ℕ)
    → OfOne (AnswersAt login events replies k)
one_answers_at login events replies k a b h i =
    let event : h.0 ≡ i.0 = same_Some h.0 i.0 (sym h.2 ∙ i.2) in
    let text : h.1 ≡ i.1 = same_text h.1 i.1 (one_spelling i.0.body (Ok (frames.Challenge h.1))
    (Ok (frames.Challenge i.1)) (subst (λ (e : Given). SpellsBody e.body (Ok (frames.Challenge h.1))) event h.3)
    i.3) in
    same_Ok a b (one_reading_of_challenge login (IsDue events replies k) (one_due events replies k) i.1 (Ok a) (Ok b)
    (subst (λ (t : List ℕ). ReadsChallenge login (IsDue events replies k) t (Ok a)) text h.4) i.4)
  where
    same_text : (x y : List ℕ) → ◌≡◌ {A = Result SaslFrame Error} (Ok (frames.Challenge x)) (Ok (frames.Challenge y))
        → x ≡ y
    same_text x y e = cc

    same_Ok : (x y : Answering) → ◌≡◌ {A = Result Answering ScramErrorKind} (Ok x) (Ok y) → x ≡ y
    same_Ok x y e = cc

-- one answer is open at most
pub one_open_answer : (login : Login) (events : List Given) (replies : List ClientSays) (k : ℕ)
    → OfOne (OpenAnswer login events replies k)
one_open_answer login events replies k = one_open_by is_answer ends_answer (AnswersAt login events replies) replies k
    (one_answers_at login events replies)

-- a challenge has the signature of one answer at most
pub one_signs_at : (login : Login) (events : List Given) (replies : List ClientSays) (k : ℕ)
    → OfOne (SignsAt login events replies k)
one_signs_at login events replies k a b h i = one_open_answer login events replies k a b h.4.1 i.4.1

-- one answer's signature at most has come in a challenge
pub one_verified_answer : (login : Login) (events : List Given) (replies : List ClientSays) (k : ℕ)
    → OfOne (VerifiedAnswer login events replies k)
one_verified_answer login events replies k = one_open_by is_answer ends_answer (SignsAt login events replies) replies k
    (one_signs_at login events replies)

-- what is expected at k depends only on the replies before k, and so does what is open
pub due_agrees : (events : List Given) (replies others : List ClientSays) (k : ℕ) → AgreeBelow replies others k
    → (nonce : List ℕ) → IsDue events replies k nonce → IsDue events others k nonce
due_agrees events replies others k e = open_by_agrees is_start is_answer (NonceAt events)
    (NonceAt events) replies others k e (λ j nonce b h. h)

pub answers_agree : (login : Login) (events : List Given) (replies others : List ClientSays) (k : ℕ)
    → AgreeBelow replies others k → (answer : Answering) → AnswersAt login events replies k answer
    → AnswersAt login events others k answer
answers_agree login events replies others k e answer h =
    (h.0, h.1, h.2, h.3, (h.4.0, h.4.1, due_agrees events replies others k e answer.nonce h.4.2, h.4.3))

pub open_answer_agrees : (login : Login) (events : List Given) (replies others : List ClientSays) (k : ℕ)
    → AgreeBelow replies others k → (answer : Answering) → OpenAnswer login events replies k answer
    → OpenAnswer login events others k answer
open_answer_agrees login events replies others k e =
    open_by_agrees is_answer ends_answer (AnswersAt login events replies)
    (AnswersAt login events others) replies others k e (λ j answer b. answers_agree login events replies others j
    (λ i l. e i (omega arith)) answer)

-- and so does what is verified
pub verified_agrees : (login : Login) (events : List Given) (replies others : List ClientSays) (k : ℕ)
    → AgreeBelow replies others k → (answer : Answering) → VerifiedAnswer login events replies k answer
    → VerifiedAnswer login events others k answer
verified_agrees login events replies others k e =
    open_by_agrees is_answer ends_answer (SignsAt login events replies) (SignsAt login events others) replies others k e
    (λ j answer b h. (
      h.0,
      h.1,
      h.2,
      h.3,
      (h.4.0, open_answer_agrees login events replies others j (λ i l. e i (omega arith)) answer h.4.1),
      h.5,
    ))

-- ---- uniqueness

-- in a history without running out of memory each reply is the table's
said_at : (login : Login) (events : List Given) (replies : List ClientSays) → ClientHistory login events replies
    → ClientComplete replies → (k : ℕ) → k < length events →
    (event : Given) × (says : ClientSays) × (spelled : Result SaslFrame Error) × (slice_get events k ≡ Some event)
    × (slice_get replies k ≡ Some says) × SpellsBody event.body spelled
    × ClientAnswers login (IsDue events replies k) (OpenAnswer login events replies k)
    (VerifiedAnswer login events replies k) event spelled says
said_at login events replies h full k l =
    let e = some_at events k l in
    let s = some_at replies k (omega (arith, h.count)) in
    let row = h.each k e.0 s.0 e.1 s.1 in (
      e.0,
      s.0,
      row.0,
      e.1,
      s.1,
      row.1,
      ⊎_elim (λ (w : ClientAllocates login row.0 × (s.0 ≡ Refused OutOfMemory)). absurd (full k (s.1 ∙ ap Some w.1)))
          (λ (a : ClientAnswers login (IsDue events replies k) (OpenAnswer login events replies k)
          (VerifiedAnswer login events replies k) e.0 row.0 s.0). a)
          row.2,
    )

same_next : (login : Login) (events : List Given) (replies others : List ClientSays)
    → ClientHistory login events replies → ClientHistory login events others → ClientComplete replies
    → ClientComplete others →
    (k : ℕ) → k < length events → AgreeBelow replies others k → slice_get replies k ≡ slice_get others k
same_next login events replies others h g full too k l below =
    let back : AgreeBelow others replies k = λ j b. sym (below j b) in
    let a = said_at login events replies h full k l in
    let b = said_at login events others g too k l in
    let event : a.0 ≡ b.0 = same_Some a.0 b.0 (sym a.3 ∙ b.3) in
    let spelled : a.2 ≡ b.2 = one_spelling b.0.body a.2 b.2
    (subst (λ (e : Given). SpellsBody e.body a.2) event a.5) b.5 in
    let moved = client_moves login (IsDue events replies k) (IsDue events others k) (OpenAnswer login events replies k)
    (OpenAnswer login events others k) (VerifiedAnswer login events replies k) (VerifiedAnswer login events others k)
    (due_agrees events replies others k below, due_agrees events others replies k back)
    (open_answer_agrees login events replies others k below, open_answer_agrees login events others replies k back)
    (verified_agrees login events replies others k below, verified_agrees login events others replies k back)
    a.0 a.2 a.1 a.6 in
    let here = subst (λ (x : Result SaslFrame Error). ClientAnswers login (IsDue events others k)
    (OpenAnswer login events others k) (VerifiedAnswer login events others k) b.0 x a.1) spelled
    (subst (λ (e : Given). ClientAnswers login (IsDue events others k) (OpenAnswer login events others k)
    (VerifiedAnswer login events others k) e a.2 a.1) event moved) in
    let one = one_client_answer login (IsDue events others k) (OpenAnswer login events others k)
    (VerifiedAnswer login events others k)
    (one_due events others k) (one_open_answer login events others k) b.0 b.2 a.1 b.1 here b.6 in
    a.4 ∙ (ap Some one ∙ sym b.4)

same_below : (login : Login) (events : List Given) (replies others : List ClientSays)
    → ClientHistory login events replies → ClientHistory login events others → ClientComplete replies
    → ClientComplete others →
    (k : ℕ) → k ≤ length events → AgreeBelow replies others k
same_below login events replies others h g full too zero l j b = absurd (omega arith)
same_below login events replies others h g full too (suc k) l j b =
    let ih = same_below login events replies others h g full too k (omega arith) in
    ⊎_elim (λ (x : j < k). ih j x) (λ (x : j ≡ k). subst (λ (z : ℕ). slice_get replies z ≡ slice_get others z) (sym x)
    (same_next login events replies others h g full too k (omega arith) ih)) (below_or_at j k b)

-- a client history without running out of memory is a function of the events
pub one_client_history : OneClientHistory
one_client_history login events replies others h g full too =
    same_list replies others (h.count ∙ sym g.count) (λ k l. same_below login events replies others h g full too
    (length events) (omega arith) k (omega (arith, h.count)))
