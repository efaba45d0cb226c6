-- The worked examples of clients.
use Rattle.std.proofs.Common.{◌≡◌, ℕ, suc, true, true≢false, false, List, [], ◌∷◌, length, Err, Ok, refl, sym, ◌∙◌, ap, subst, arith, inl, inr}
use Rattle.std.specs.Prelude.{Some, slice_get}
use Rattle.fe2o3_sasl_wire.specs.declared.amqp_types.SaslCode.TheVariants as outcomes
use Rattle.fe2o3_sasl_wire.specs.declared.sasl_frames.error.Error.TheVariants as faults
use Rattle.base64.specs.GeneralPurpose.{IsBytes}
use Rattle.fe2o3_sasl_wire.specs.SaslFrames.{canonical}
use Rattle.fe2o3_sasl_wire.specs.SaslFrames as frames
use Rattle.fe2o3_scram.specs.ClientFinal.{Answer}
use Rattle.fe2o3_scram.specs.ServerFirst.{ReadsServerFirst, client_of}
use Rattle.fe2o3_scram.specs.ServerFinal.{ReadsServerFinal}
use Rattle.fe2o3_scram.specs.Texts.{joined}
use Rattle.fe2o3_scram.specs.declared.scram_messages.error.ScramErrorKind.{ScramErrorKind}
use Rattle.fe2o3_scram.specs.declared.scram_messages.error.ScramErrorKind.TheVariants.{StaleKeys as NamesStaleKeys}
use Rattle.fe2o3_sasl_core.specs.Bodies.{SpellsBody, carried}
use Rattle.fe2o3_sasl_core.specs.ClientHistory.{Answering, AnswersAt, IsDue, MaySign, NonceAt, OpenAnswer, ReadsChallenge, answer_at, ends_answer, is_answer, is_start, says_answer}
use Rattle.fe2o3_sasl_core.specs.Events.{Answered, ClientSays, Given, Login, Refused, Reported, is_strict_login, scram_fault, login_header}
use Rattle.fe2o3_sasl_core.specs.Positions.{test_at}
use Rattle.fe2o3_sasl_core.specs.TwoSides.{client_message, proof_at}
use Rattle.fe2o3_sasl.specs.examples.ClientExamples.{KeysLogIn, StaleKeysLogInLater, asks, is_served, logs_in, made, other_salt, starts, with_keys}
use Rattle.fe2o3_sasl.specs.examples.Examples.{binds, body_of, both, client_bytes, client_nonce, event_of, login, offers, salt, salted, sends_ok, sends_response, server_nonce, unaltered, verifier}
use Rattle.fe2o3_scram.proofs.lemmas.messages.ServerFirstLemmas.{one_has_salt, secret_refused, values_read}
use Rattle.fe2o3_sasl.proofs.lemmas.examples.ExampleBodyLemmas.{challenge_bodied, mechanisms_sent, mechanisms_texts, ok_sent, short_joined, short_salted, spells_body}
use Rattle.fe2o3_sasl.proofs.lemmas.examples.ExampleLemmas.{is_unaltered, short_both}
use Rattle.fe2o3_sasl.proofs.lemmas.examples.ExampleLoginLemmas.{answer_said, client_history, start_said}
use Rattle.fe2o3_sasl.proofs.lemmas.examples.ExampleReadingLemmas.{count_passes, names_salted, nonce_passes, plain_both, plain_salted, salt_bytes, salt_passes, signature_read}
use Rattle.fe2o3_sasl.proofs.lemmas.examples.ExampleTextLemmas.{IsBytes-replicate, utf8_joined}
use Rattle.fe2o3_sasl_core.proofs.lemmas.histories.LongerClientHistoryLemmas.{SaysAt}
use Rattle.fe2o3_sasl_core.proofs.lemmas.positions.PositionLemmas.{opens_here, stays_open}
use Rattle.fe2o3_sasl_core.specs.declared.sasl_profile.error.ProfileError.TheVariants.{Frame, StaleKeys}

-- ---- a challenge

-- its body
challenge_spelled : (bytes : List ℕ) → length bytes ≡ 32
    → SpellsBody (asks bytes).body (Ok (frames.Challenge (joined (salted bytes both))))
challenge_spelled bytes long = spells_body (frames.Challenge (joined (salted bytes both))) (tt, tt)
    (challenge_bodied (joined (salted bytes both))
    (omega (arith, short_joined (salted bytes both) (short_salted bytes both long short_both))))

-- the signature may not come in a challenge
none_may_sign : (some : Login) (IsOpen : Answering → Type 0) → some.signature_by_challenge ≡ false
    → (answer : Answering) → ¬ MaySign some IsOpen answer
none_may_sign some IsOpen unsigned answer may = absurd (true≢false (sym may.0 ∙ unsigned))

-- an error for a challenge, where one is expected
refuses : (some : Login) (events : List Given) (replies : List ClientSays) (k : ℕ) (bytes : List ℕ)
    (kind : ScramErrorKind) → some.signature_by_challenge ≡ false → length bytes ≡ 32
    → IsDue events replies k client_nonce
    → ReadsServerFirst (client_of client_nonce some.secret some.limits (login_header some) some.strict)
    (joined (salted bytes both)) (Err kind)
    → SaysAt some events replies k (asks bytes) (Refused (scram_fault kind))
refuses some events replies k bytes kind unsigned long due reads =
    let utf8 = utf8_joined (salted bytes both) (plain_salted bytes both plain_both) in (
      Ok (frames.Challenge (joined (salted bytes both))),
      challenge_spelled bytes long,
      inr (inr (inr (
        none_may_sign some (OpenAnswer some events replies k) unsigned,
        inr (kind, inr (inr (utf8, (client_nonce, due, reads))), refl),
      ))),
    )

-- ---- a client that answers as that of the first examples does

module _ (some : Login) (unsigned : some.signature_by_challenge ≡ false)
    (one : answer_at some made ≡ answer_at login made)
    (reads : ReadsServerFirst (client_of client_nonce some.secret some.limits (login_header some) some.strict) made.text
    (Ok made.first)) where
  -- its reading of the challenge, where that is due
  challenge_read : (events : List Given) (replies : List ClientSays) (k : ℕ) → IsDue events replies k client_nonce
      → ReadsChallenge some (IsDue events replies k) made.text (Ok made)
  challenge_read events replies k due =
      (utf8_joined (salted salt both) (plain_salted salt both plain_both), refl, due, reads)

  -- the two last replies
  response_said : Answered (body_of (sends_response (joined (binds both)) (proof_at login made)))
      ≡ says_answer some made
  response_said = answer_said unaltered is_unaltered
      ∙ ap (λ (answer : Answer). carried (Refused (Frame faults.TooLarge)) (λ body. Answered body)
      (canonical (frames.Response answer.message))) (sym one)

  signature_taken : ReadsServerFinal (is_strict_login some) (answer_at some made).signature (verifier made) (Ok tt)
  signature_taken = subst (λ (answer : Answer). ReadsServerFinal (is_strict_login some) answer.signature
      (verifier made) (Ok tt)) (sym one)
      (signature_read made.text both (client_message login made) refl (is_strict_login some))

  answered : (events : List Given) (replies : List ClientSays) (k : ℕ) → IsDue events replies k client_nonce
      → SaysAt some events replies k (asks salt)
      (Answered (body_of (sends_response (joined (binds both)) (proof_at login made))))
  answered events replies k due = (
    Ok (frames.Challenge made.text),
    challenge_spelled salt refl,
    inr (inr (inr (
      none_may_sign some (OpenAnswer some events replies k) unsigned,
      inl (made, challenge_read events replies k due, response_said),
    ))),
  )

  -- the outcome after it
  reported : (events : List Given) (replies : List ClientSays) (k : ℕ) → slice_get events k ≡ Some (asks salt)
      → test_at is_answer (slice_get replies k) ≡ true → IsDue events replies k client_nonce
      → SaysAt some events replies (suc k) (event_of client_bytes (sends_ok made))
      (Reported outcomes.Ok (Some (verifier made)))
  reported events replies k at is due =
      let answers : AnswersAt some events replies k made =
      (asks salt, made.text, at, challenge_spelled salt refl, challenge_read events replies k due) in (
        Ok (sends_ok made),
        spells_body (sends_ok made) (tt, (tt, tt)) (ok_sent made),
        inr (inl ((made, (k, opens_here is_answer ends_answer replies k is, answers), signature_taken), refl)),
      )

-- ---- keys in place of the password

keys_read : ReadsServerFirst (client_of client_nonce with_keys.secret with_keys.limits (login_header with_keys) with_keys.strict)
    made.text (Ok made.first)
keys_read =
    let named = names_salted salt salt_bytes both server_nonce [] refl plain_both tt in
    values_read (client_of client_nonce with_keys.secret with_keys.limits (login_header with_keys) with_keys.strict) made.text
    made.first
    (nonce_passes salt salt_bytes both server_nonce [] refl plain_both tt)
    (salt_passes salt salt_bytes both server_nonce [] refl plain_both tt)
    (count_passes salt salt_bytes both server_nonce [] refl plain_both tt with_keys.limits (omega arith) (omega arith))
    (λ wrong. wrong.0, (λ wrong. wrong.0, (λ wrong. wrong.0, tt))) (λ other. other (named.salt, named.count), tt) named

-- it starts as the client with the password does
keys_start : (events : List Given) (replies : List ClientSays)
    → SaysAt with_keys events replies 0 (event_of client_bytes offers) starts
keys_start events replies =
    (Ok offers, spells_body offers mechanisms_texts mechanisms_sent, inr (inl ((0, omega arith, refl), start_said)))

pub keys_log_in : KeysLogIn
keys_log_in =
    let events = event_of client_bytes offers ∷ is_served in
    let replies = starts ∷ logs_in in
    let due : IsDue events replies 1 client_nonce =
    (0, opens_here is_start is_answer replies 0 refl, (event_of client_bytes offers, refl, refl)) in
    client_history with_keys events replies refl (
      keys_start events replies,
      (
        answered with_keys refl refl keys_read events replies 1 due,
        (reported with_keys refl refl keys_read events replies 1 refl refl due, tt),
      ),
    )

-- the other salt is no salt of the keys
other_bytes : IsBytes other_salt
other_bytes = IsBytes-replicate 32 4 (omega arith)

others_refused : ReadsServerFirst (client_of client_nonce with_keys.secret with_keys.limits (login_header with_keys)
    with_keys.strict) (joined (salted other_salt both)) (Err NamesStaleKeys)
others_refused =
    let text = joined (salted other_salt both) in
    let named = names_salted other_salt other_bytes both server_nonce [] refl plain_both tt in
    let apart : ¬ (other_salt ≡ salt) = λ same. absurd (cc) in
    secret_refused (client_of client_nonce with_keys.secret with_keys.limits (login_header with_keys) with_keys.strict) text
    NamesStaleKeys
    (nonce_passes other_salt other_bytes both server_nonce [] refl plain_both tt)
    (salt_passes other_salt other_bytes both server_nonce [] refl plain_both tt)
    (count_passes other_salt other_bytes both server_nonce [] refl plain_both tt with_keys.limits (omega arith)
    (omega arith))
    (λ wrong. wrong.0, (λ wrong. wrong.0, (λ wrong. wrong.0, tt)))
    (inl (λ has. apart (one_has_salt text other_salt salt named.salt has.0), refl))

pub stale_keys_log_in_later : StaleKeysLogInLater
stale_keys_log_in_later =
    let events = event_of client_bytes offers ∷ asks other_salt ∷ is_served in
    let replies = starts ∷ Refused StaleKeys ∷ logs_in in
    let first = opens_here is_start is_answer replies 0 refl in
    let at : NonceAt events 0 client_nonce = (event_of client_bytes offers, refl, refl) in
    let due : IsDue events replies 2 client_nonce =
    (0, stays_open is_start is_answer replies 1 0 refl refl first, at) in
    client_history with_keys events replies refl (
      keys_start events replies,
      (
        refuses with_keys events replies 1 other_salt NamesStaleKeys refl refl (0, first, at) others_refused,
        (
          answered with_keys refl refl keys_read events replies 2 due,
          (reported with_keys refl refl keys_read events replies 2 refl refl due, tt),
        ),
      ),
    )
