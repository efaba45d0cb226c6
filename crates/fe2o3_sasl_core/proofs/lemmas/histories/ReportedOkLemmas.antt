-- What a reply of a client says of its position.
use Rattle.std.proofs.Common.{◌≡◌, ℕ, Option, Some, None, List, [], refl, sym, ap, subst, arith, ⊎_elim, inl, inr, Result, Ok, Err}
use Rattle.std.specs.Prelude.{slice_get, codes}
use Rattle.std.proofs.lemmas.Option.{slice_get_within}
use Rattle.fe2o3_sasl_wire.specs.declared.amqp_types.SaslCode.TheVariants as outcomes
use Rattle.fe2o3_sasl_wire.specs.declared.sasl_frames.error.Error.{Error}
use Rattle.fe2o3_sasl_wire.specs.declared.sasl_frames.error.Error.TheVariants as faults
use Rattle.fe2o3_sasl_wire.specs.SaslFrames.{canonical, SaslFrame}
use Rattle.fe2o3_sasl_wire.specs.SaslFrames as frames
use Rattle.fe2o3_scram.specs.Texts.{base64_text, HasBase64}
use Rattle.fe2o3_scram.specs.ChannelBinding.{header_of}
use Rattle.fe2o3_scram.specs.ClientFirst.{client_first_with}
use Rattle.fe2o3_sasl_core.specs.ClientHistory.{Answering, OpenAnswer, VerifiedAnswer, IsDue, ClientHistory, ClientAnswers, ClientAllocates, ReadsOutcome, answer_at}
use Rattle.fe2o3_sasl_core.specs.Bodies.{SpellsBody}
use Rattle.fe2o3_sasl_core.specs.TwoSides.{SignedAnswer, VerifierText}
use Rattle.fe2o3_sasl_core.specs.Events.{is_strict_login, Given, Login, login_mechanism, ClientSays, Started, Answered, Reported, Refused, login_header}
use Rattle.fe2o3_scram.proofs.lemmas.messages.OneValueLemmas.{names_server_final}
use Rattle.fe2o3_sasl_core.proofs.lemmas.positions.PositionLemmas.{some_at}
use Rattle.fe2o3_sasl_core.proofs.lemmas.frames.SpellingLemmas.{carried_not}
use Rattle.fe2o3_sasl_core.specs.declared.sasl_profile.error.ProfileError.TheVariants.{Frame, OutOfMemory}

module _ (login : Login) (Due : List ℕ → Type 0) (IsOpen IsVerified : Answering → Type 0) where
  -- a reported Ok is that of an outcome Ok
  pub reported : (event : Given) (spelled : Result SaslFrame Error) (more : Option (List ℕ))
      → ClientAnswers login Due IsOpen IsVerified event spelled (Reported outcomes.Ok more)
      → (spelled ≡ Ok (frames.Outcome outcomes.Ok more)) × ReadsOutcome login IsOpen IsVerified more (Ok tt)
  reported event (Err fault) more says = absurd (cc)
  reported event (Ok (frames.Init mechanism response hostname)) more says = absurd (cc)
  reported event (Ok (frames.Response text)) more says = absurd (cc)
  reported event (Ok (frames.Mechanisms names)) more (inl says) =
      absurd (carried_not (Refused (Frame faults.TooLarge)) (λ body. Started body)
      (canonical (frames.Init (login_mechanism login)
      (Some (client_first_with (header_of (login_header login)) login.user (base64_text event.nonce))) login.hostname))
      (Reported outcomes.Ok more) (λ is. cc) (λ body is. cc) (sym says.1))
  reported event (Ok (frames.Mechanisms names)) more (inr says) = let is = says.1 in absurd (cc)
  reported event (Ok (frames.Challenge text)) more (inl says) =
      absurd (carried_not (Refused (Frame faults.TooLarge)) (λ body. Answered body) (canonical (frames.Response []))
      (Reported outcomes.Ok more) (λ is. cc) (λ body is. cc) (sym says.1))
  reported event (Ok (frames.Challenge text)) more (inr (inl says)) = let is = says.2 in absurd (cc)
  reported event (Ok (frames.Challenge text)) more (inr (inr (none, inl says))) =
      absurd (carried_not (Refused (Frame faults.TooLarge)) (λ body. Answered body)
      (canonical (frames.Response (answer_at login says.0).message)) (Reported outcomes.Ok more) (λ is. cc)
      (λ body is. cc) (sym says.2))
  reported event (Ok (frames.Challenge text)) more (inr (inr (none, inr says))) = let is = says.2 in absurd (cc)
  reported event (Ok (frames.Outcome outcomes.Ok other)) more (inl says) =
      let is = says.1 in let same : other ≡ more = cc in (
        ap (λ (z : Option (List ℕ)). Ok (frames.Outcome outcomes.Ok z)) same,
        subst (λ (z : Option (List ℕ)). ReadsOutcome login IsOpen IsVerified z (Ok tt)) same says.0,
      )
  reported event (Ok (frames.Outcome outcomes.Ok other)) more (inr says) = let is = says.2 in absurd (cc)
  reported event (Ok (frames.Outcome outcomes.Auth other)) more says = absurd (cc)
  reported event (Ok (frames.Outcome outcomes.Sys other)) more says = absurd (cc)
  reported event (Ok (frames.Outcome outcomes.SysPerm other)) more says = absurd (cc)
  reported event (Ok (frames.Outcome outcomes.SysTemp other)) more says = absurd (cc)

-- the event of a reported Ok is an outcome Ok, whose signature is read
pub reported_at : (login : Login) (events : List Given) (replies : List ClientSays) (m : ℕ) (more : Option (List ℕ))
    → ClientHistory login events replies → slice_get replies m ≡ Some (Reported outcomes.Ok more)
    → (event : Given) × (slice_get events m ≡ Some event)
    × SpellsBody event.body (Ok (frames.Outcome outcomes.Ok more))
    × ReadsOutcome login (OpenAnswer login events replies m) (VerifiedAnswer login events replies m) more (Ok tt)
reported_at login events replies m more history at =
    let event = some_at events m (omega (
      arith,
      history.count,
      slice_get_within replies m (Reported outcomes.Ok more) at,
    )) in
    let row = history.each m event.0 (Reported outcomes.Ok more) event.1 at in
    ⊎_elim (λ (none : ClientAllocates login row.0 × (Reported outcomes.Ok more ≡ Refused OutOfMemory)). let is =
    none.1 in absurd (cc))
    (λ (says : ClientAnswers login (IsDue events replies m) (OpenAnswer login events replies m)
    (VerifiedAnswer login events replies m) event.0 row.0 (Reported outcomes.Ok more)).
    let reads = reported login (IsDue events replies m) (OpenAnswer login events replies m)
    (VerifiedAnswer login events replies m) event.0 row.0 more says in
    (event.0, event.1, subst (λ (x : Result SaslFrame Error). SpellsBody event.0.body x) reads.0 row.1, reads.1))
    row.2

-- a reported Ok is at the signature of the answer that is open, or was when the signature came in a challenge
pub signature_of_ok : (login : Login) (events : List Given) (replies : List ClientSays) (m : ℕ)
    (more : Option (List ℕ)) → ClientHistory login events replies
    → slice_get replies m ≡ Some (Reported outcomes.Ok more)
    → (answer : Answering) × (text : List ℕ) × SignedAnswer login events replies m more answer
    × VerifierText events replies m more text × HasBase64 text 0 (codes "v=") (answer_at login answer).signature
signature_of_ok login events replies m (Some given) history at =
    let reads = (reported_at login events replies m (Some given) history at).3 in (
      reads.0,
      given,
      reads.1,
      refl,
      names_server_final (is_strict_login login) (answer_at login reads.0).signature given
          tt reads.2,
    )
signature_of_ok login events replies m None history at =
    let reads = (reported_at login events replies m None history at).3 in
    let signs = reads.1.2 in (
      reads.0,
      signs.1,
      reads.1,
      (reads.1.0, reads.1.1, (signs.0, signs.2, signs.3)),
      names_server_final (is_strict_login login) (answer_at login reads.0).signature signs.1 tt signs.5,
    )
