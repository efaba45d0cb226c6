-- Two profiles of one login take the same steps on a connection, whatever keys they keep (AMQP 1.0, part 5, section 5.3.2):
-- `received_alike`.
use Rattle.std.proofs.Common.{refl, sym, ap, subst, inl, inr, ◌∙◌, ◌≡◌, ◌≢◌, ◌⊎◌, ℕ, List}
use Rattle.std.specs.Prelude.{Bool, true, false, ◌&&◌, Option, Some, None, Result, Ok, Err, drop}
use Rattle.std.specs.List.{Contains}
use Rattle.fe2o3_sasl_wire.specs.declared.amqp_types.SaslCode.TheVariants as outcomes
use Rattle.fe2o3_sasl_wire.specs.declared.sasl_frames.error.Error.{Error}
use Rattle.fe2o3_sasl_wire.specs.SaslFrames as frames
use Rattle.fe2o3_sasl_wire.specs.SaslFrames.{SaslFrame, canonical}
use Rattle.fe2o3_scram.specs.ChannelBinding.{flag_of, is_bound, mechanism_of}
use Rattle.fe2o3_scram.specs.ClientFirst.{client_first_bare, client_first_with}
use Rattle.fe2o3_scram.specs.ClientKeys.{ClientKeys}
use Rattle.fe2o3_scram.specs.ScramClient.{ClientFirstSent, ClientSide, ClientState, expects_signature}
use Rattle.fe2o3_scram.specs.Texts.{base64_text}
use Rattle.fe2o3_scram.specs.declared.scram_messages.channel_binding_flag.ChannelBindingFlag.{ChannelBindingFlag}
use Rattle.fe2o3_scram.specs.declared.scram_messages.client_channel.ClientChannel.{ClientChannel}
use Rattle.fe2o3_sasl_core.specs.Bodies.{carried as sent_or_not}
use Rattle.fe2o3_sasl_core.specs.Events.{ClientSays, Given, Refused}
use Rattle.fe2o3_sasl_core.specs.Profiles.{Profile, ScramProfile, accepts_signature_by_challenge}
use Rattle.fe2o3_sasl_core.specs.ProfileMachine.{ChallengeReplies, profile_machine}
use Rattle.fe2o3_sasl_core.specs.Runs.{ProfileGives, Replies}
use Rattle.fe2o3_sasl_core.specs.declared.sasl_profile.error.ProfileError.{ProfileError}
use Rattle.fe2o3_sasl_core.specs.declared.sasl_profile.error.ProfileError.TheVariants.{OutOfMemory}
use Rattle.fe2o3_sasl_negotiation.specs.ClientNegotiation.{ClientOutputs, ClientSideAnswers}
use Rattle.fe2o3_sasl_negotiation.specs.Framing.{unit_read}
use Rattle.fe2o3_sasl_negotiation.specs.Negotiations.{Reading, ReceivesAt, Side, SideOutput}
use Rattle.fe2o3_sasl_negotiation.specs.declared.progress.Expected.{Expected}
use Rattle.fe2o3_sasl_negotiation.specs.declared.progress.Expected.TheVariants.{Header, Frame}
use Rattle.fe2o3_sasl_negotiation.specs.declared.progress.FrameKind.{FrameKind}
use Rattle.fe2o3_sasl_negotiation.specs.declared.progress.Progress.TheVariants.{InProgress}
use Rattle.sasl_c.specs.declared.keys.ScramKeys.{ScramKeys as KeysStruct}
use Rattle.sasl_c.specs.declared.login.Login.{Login as Words}
use Rattle.sasl_c.specs.declared.sasl_client.SaslLogin.{SaslLogin as Login}
use Rattle.sasl_c.specs.Client.{Holds, IsClientOf}
use Rattle.sasl_c.specs.Keys.{WritesKeys}
use Rattle.sasl_c.proofs.ClientAlikeLemmas.{Follows, SameChannel, answers, checks, concludes, made, one_unsigned, rekeyed, verifies}
use Rattle.sasl_c.proofs.ClientLemmas.{moved_login}

-- a struct of keys that a call writes for these ones, and that holds them, holds the client's own too
abbrev pub SameKeys : Option ClientKeys → Option ClientKeys → Type 0
SameKeys own keys = (kept : KeysStruct) → WritesKeys kept keys → Holds kept keys → Holds kept own

pub same_keys : (keys : Option ClientKeys) → SameKeys keys keys
same_keys keys = λ kept written holds. holds

-- two profiles of SCRAM of these words, which differ in the keys that they keep and in the spelling of one channel
abbrev pub AlikeScram : Words → Profile → Profile → Type 0
AlikeScram words mine other = (side : ClientSide) × (channel others : ClientChannel) × (keys : Option ClientKeys)
    × (state : ClientState) × (mine ≡ ScramProfile (made side channel state))
    × (other ≡ ScramProfile (made side others (rekeyed keys state))) × SameChannel channel others
    × Follows SameKeys keys state × IsClientOf words (made side channel state)

-- two profiles of a login are one, or differ in this
abbrev pub Alike : Login → Profile → Profile → Type 0
Alike login mine other = (other ≡ mine) ⊎ ((login.mechanism ≡ 0) × AlikeScram login.login mine other)

-- ---- a step of SCRAM

module _ (side : ClientSide) (channel others : ClientChannel) (alike : SameChannel channel others) where
  -- the other profile is this one after a step, and the profile takes it too
  abbrev Stepped : (Profile → Type 0) → Profile → Type 0
  Stepped Step moved = (keys : Option ClientKeys) × (state : ClientState)
      × (moved ≡ ScramProfile (made side others (rekeyed keys state))) × Follows SameKeys keys state
      × Step (ScramProfile (made side channel state))

  one_reply : (nonce : List ℕ) (hostname : Option (List ℕ)) (reply : Result SaslFrame ProfileError)
      → reply ≡ Ok (frames.Init (mechanism_of side.version (is_bound others)) (Some (client_first_with (record {
        flag = flag_of others;
        acts_for = side.acts_for;
      }) side.user (base64_text nonce))) hostname)
      → reply ≡ Ok (frames.Init (mechanism_of side.version (is_bound channel)) (Some (client_first_with (record {
        flag = flag_of channel;
        acts_for = side.acts_for;
      }) side.user (base64_text nonce))) hostname)
  one_reply nonce hostname reply is =
      subst (λ (b : Bool). reply ≡ Ok (frames.Init (mechanism_of side.version b) (Some (client_first_with (record {
        flag = flag_of channel;
        acts_for = side.acts_for;
      }) side.user (base64_text nonce))) hostname)) alike.binds
      (subst (λ (f : ChannelBindingFlag). reply ≡ Ok (frames.Init (mechanism_of side.version (is_bound others))
      (Some (client_first_with (record { flag = f; acts_for = side.acts_for }) side.user (base64_text nonce))) hostname))
      alike.flag is)

  challenge_step : (signs : Bool) (keys : Option ClientKeys) (state : ClientState) (text : List ℕ)
      (reply : Result SaslFrame ProfileError) (moved : Profile) → Follows SameKeys keys state
      → ChallengeReplies signs (made side others (rekeyed keys state)) text reply moved
      → Stepped (λ next. ChallengeReplies signs (made side channel state) text reply next) moved
  challenge_step false keys state text reply moved follows (answer, after, is, replies, same) =
      let step = answers SameKeys same_keys side channel others alike keys state text answer after follows is in (
        step.0,
        step.1,
        same ∙ ap (λ (s : ClientSide). ScramProfile s) step.2,
        step.3,
        (answer, made side channel step.1, step.4, replies, refl),
      )
  challenge_step true keys state text reply moved follows (answer, after, is, replies, same) =
      let step = checks SameKeys same_keys side channel others alike keys state text answer after follows is in (
        step.0,
        step.1,
        same ∙ ap (λ (s : ClientSide). ScramProfile s) step.2,
        step.3,
        (answer, made side channel step.1, step.4, replies, refl),
      )

  scram_step : (keys : Option ClientKeys) (state : ClientState) (hostname : Option (List ℕ)) (nonce : List ℕ)
      (frame : SaslFrame) (reply : Result SaslFrame ProfileError) (moved : Profile) → Follows SameKeys keys state
      → profile_machine (ScramProfile (made side others (rekeyed keys state))) hostname nonce frame reply moved
      → Stepped (λ next. profile_machine (ScramProfile (made side channel state)) hostname nonce frame reply next) moved
  scram_step keys state hostname nonce (frames.Mechanisms names) reply moved follows (inl (has, replies, same)) = (
    keys,
    ClientFirstSent (base64_text nonce) (client_first_bare side.user (base64_text nonce)),
    same,
    tt,
    inl (
      subst (λ (b : Bool). Contains names (mechanism_of side.version b)) alike.binds has,
      one_reply nonce hostname reply replies,
      refl,
    ),
  )
  scram_step keys state hostname nonce (frames.Mechanisms names) reply moved follows (inr (not, replies, same)) = (
    keys,
    state,
    same,
    follows,
    inr (
      (λ has. not (subst (λ (b : Bool). Contains names (mechanism_of side.version b)) (sym alike.binds) has)),
      replies,
      refl,
    ),
  )
  scram_step keys state hostname nonce (frames.Challenge text) reply moved follows (inl (not, replies, same)) =
      (keys, state, same, follows, inl (not, replies, refl))
  scram_step keys state hostname nonce (frames.Challenge text) reply moved follows (inr (is_text, replies)) =
      let expects = ap (λ (b : Bool). side.signature_by_challenge && b) (one_unsigned keys state) in
      let step = challenge_step (expects_signature (made side channel state)) keys state text reply moved follows
      (subst (λ (b : Bool). ChallengeReplies b (made side others (rekeyed keys state)) text reply moved) expects replies) in
      (step.0, step.1, step.2, step.3, inr (is_text, step.4))
  scram_step keys state hostname nonce (frames.Outcome outcomes.Ok None) reply moved follows (answer, after, is, replies, same) =
      let step = concludes SameKeys same_keys side channel others alike keys state answer after follows is in (
        step.0,
        step.1,
        same ∙ ap (λ (s : ClientSide). ScramProfile s) step.2,
        step.3,
        (answer, made side channel step.1, step.4, replies, refl),
      )
  scram_step keys state hostname nonce (frames.Outcome outcomes.Ok (Some text)) reply moved follows
      (answer, after, is, replies, same) =
      let step = verifies SameKeys same_keys side channel others alike keys state text answer after follows is in (
        step.0,
        step.1,
        same ∙ ap (λ (s : ClientSide). ScramProfile s) step.2,
        step.3,
        (answer, made side channel step.1, step.4, replies, refl),
      )
  scram_step keys state hostname nonce (frames.Outcome code more) reply moved follows is =
      (keys, state, is.1, follows, (is.0, refl))
  scram_step keys state hostname nonce (frames.Init mechanism response host) reply moved follows is =
      (keys, state, is.1, follows, (is.0, refl))
  scram_step keys state hostname nonce (frames.Response text) reply moved follows is =
      (keys, state, is.1, follows, (is.0, refl))

-- a side with this profile
abbrev pub at : Side Profile → Profile → Side Profile
at side profile = record {
  progress = side.progress;
  expected = side.expected;
  limit = side.limit;
  held = side.held;
  state = profile;
}

-- ---- a step of a profile

module _ (login : Login) (hostname : Option (List ℕ)) where
  machine_alike : (mine other : Profile) (nonce : List ℕ) (frame : SaslFrame) (reply : Result SaslFrame ProfileError)
      (moved : Profile) → Alike login mine other → profile_machine other hostname nonce frame reply moved
      → (next : Profile) × profile_machine mine hostname nonce frame reply next × Alike login next moved
  machine_alike mine other nonce frame reply moved (inl same) is =
      (moved, subst (λ (p : Profile). profile_machine p hostname nonce frame reply moved) same is, inl refl)
  machine_alike mine other nonce frame reply moved
      (inr (scram, (side, channel, others, keys, state, meant, meets, alike, follows, words))) is =
      let step = scram_step side channel others alike keys state hostname nonce frame reply moved follows
      (subst (λ (p : Profile). profile_machine p hostname nonce frame reply moved) meets is) in (
        ScramProfile (made side channel step.1),
        subst (λ (p : Profile). profile_machine p hostname nonce frame reply (ScramProfile (made side channel step.1)))
            (sym meant) step.4,
        inr (
          scram,
          (
            side,
            channel,
            others,
            step.0,
            step.1,
            refl,
            step.2,
            alike,
            step.3,
            moved_login login.login (made side channel state) step.1 words,
          ),
        ),
      )

  stays : (mine other last : Profile) → Alike login mine other → last ≡ other → Alike login mine last
  stays mine other last alike same = subst (λ (p : Profile). Alike login mine p) (sym same) alike

  -- also where the reply is not sent
  sent_alike : (mine other after moved last : Profile) (body : Option (List ℕ)) → Alike login mine other
      → Alike login after moved → last ≡ sent_or_not other (λ _. moved) body
      → (next : Profile) × (next ≡ sent_or_not mine (λ _. after) body) × Alike login next last
  sent_alike mine other after moved last None alike later same = (mine, refl, stays mine other last alike same)
  sent_alike mine other after moved last (Some body) alike later same = (after, refl, stays after moved last later same)

  replied_alike : (mine other after moved last : Profile) (reply : Result SaslFrame ProfileError) (says : ClientSays)
      → Alike login mine other → Alike login after moved → Replies other moved reply says last
      → (next : Profile) × Replies mine after reply says next × Alike login next last
  replied_alike mine other after moved last (Err fault) says alike later is =
      (after, (is.0, refl), stays after moved last later is.1)
  replied_alike mine other after moved last (Ok (frames.Outcome code more)) says alike later is =
      (after, (is.0, refl), stays after moved last later is.1)
  replied_alike mine other after moved last (Ok (frames.Init mechanism response host)) says alike later is =
      let step = sent_alike mine other after moved last (canonical (frames.Init mechanism response host)) alike later is.1 in
      (step.0, (is.0, step.1), step.2)
  replied_alike mine other after moved last (Ok (frames.Response text)) says alike later is =
      let step = sent_alike mine other after moved last (canonical (frames.Response text)) alike later is.1 in
      (step.0, (is.0, step.1), step.2)
  replied_alike mine other after moved last (Ok (frames.Mechanisms names)) says alike later is =
      let step = sent_alike mine other after moved last (canonical (frames.Mechanisms names)) alike later is.1 in
      (step.0, (is.0, step.1), step.2)
  replied_alike mine other after moved last (Ok (frames.Challenge text)) says alike later is =
      let step = sent_alike mine other after moved last (canonical (frames.Challenge text)) alike later is.1 in
      (step.0, (is.0, step.1), step.2)

  gives_alike : (mine other last : Profile) (event : Given) (spelled : Result SaslFrame Error) (says : ClientSays)
      → Alike login mine other → says ≢ Refused OutOfMemory → ProfileGives hostname other event spelled says last
      → (next : Profile) × ProfileGives hostname mine event spelled says next × Alike login next last
  gives_alike mine other last event (Err fault) says alike room is =
      (mine, (is.0, refl), stays mine other last alike is.1)
  gives_alike mine other last event (Ok frame) says alike room (inl is) = absurd (room is.1)
  gives_alike mine other last event (Ok frame) says alike room (inr (reply, moved, is, replies)) =
      let step = machine_alike mine other event.nonce frame reply moved alike is in
      let said = replied_alike mine other step.0 moved last reply says alike step.2 replies in
      (said.0, inr (reply, step.0, step.1, said.1), said.2)

  -- ---- what a side answers

  one_signs : (mine other : Profile) → Alike login mine other
      → accepts_signature_by_challenge other ≡ accepts_signature_by_challenge mine
  one_signs mine other (inl same) = ap accepts_signature_by_challenge same
  one_signs mine other (inr (scram, (side, channel, others, keys, state, meant, meets, alike, follows, words))) =
      ap accepts_signature_by_challenge meets ∙ sym (ap accepts_signature_by_challenge meant)

  no_memory : (signs : Bool) (says : ClientSays) (turn : FrameKind) (answer : SideOutput)
      → ClientOutputs signs says turn answer → says ≢ Refused OutOfMemory
  no_memory signs says turn answer outputs = λ same.
      absurd (never (subst (λ (s : ClientSays). ClientOutputs signs s turn answer) same outputs))
    where
      never : ClientOutputs signs (Refused OutOfMemory) turn answer → ⊥
      never held = held

  answers_alike : (expected : Expected) (mine other last : Profile) (nonce unit : List ℕ) (answer : SideOutput)
      → Alike login mine other → ClientSideAnswers hostname expected other nonce unit answer last
      → (next : Profile) × ClientSideAnswers hostname expected mine nonce unit answer next × Alike login next last
  answers_alike Header mine other last nonce unit answer alike (opens, kept) =
      (mine, (opens, refl), stays mine other last alike kept)
  answers_alike (Frame turn) mine other last nonce unit answer alike (Err fault, spells, unread) =
      (mine, (Err fault, spells, (unread.0, refl)), stays mine other last alike unread.1)
  answers_alike (Frame turn) mine other last nonce unit answer alike (Ok frame, spells, inl (not, same, kept)) =
      (mine, (Ok frame, spells, inl (not, same, refl)), stays mine other last alike kept)
  answers_alike (Frame turn) mine other last nonce unit answer alike
      (Ok frame, spells, inr (in_turn, (says, (spelled, is, gives), outputs))) =
      let room = no_memory (accepts_signature_by_challenge other) says turn answer outputs in
      let step = gives_alike mine other last (record { body = drop 4 unit; nonce = nonce }) spelled says alike room gives in
      let said = subst (λ (b : Bool). ClientOutputs b says turn answer) (one_signs mine other alike) outputs in
      (step.0, (Ok frame, spells, inr (in_turn, (says, (spelled, is, step.1), said))), step.2)

  read_alike : (accepts : Bool) (expected : Expected) (mine other last : Profile) (nonce unit : List ℕ) (answer : SideOutput)
      → Alike login mine other → Reading accepts (ClientSideAnswers hostname) expected other nonce unit answer last
      → (next : Profile) × Reading accepts (ClientSideAnswers hostname) expected mine nonce unit answer next
      × Alike login next last
  read_alike false expected mine other last nonce unit answer alike is =
      answers_alike expected mine other last nonce unit answer alike is
  read_alike true expected mine other last nonce unit answer alike is =
      answers_alike expected mine other last nonce (unit_read true expected unit) answer alike is

  -- ---- a call

  pub received_alike : (accepts : Bool) (side next : Side Profile) (mine : Profile) (bytes nonce : List ℕ) (taken : ℕ)
      (sent : List ℕ) → Alike login mine side.state
      → ReceivesAt InProgress (Reading accepts (ClientSideAnswers hostname)) side bytes nonce taken sent next
      → (after : Profile)
      × ReceivesAt InProgress (Reading accepts (ClientSideAnswers hostname)) (at side mine) bytes nonce taken sent
      (at next after)
      × Alike login after next.state
  received_alike accepts side next mine bytes nonce taken sent alike (inl (part, (all, none, same))) = (
    mine,
    inl (part, (all, none, ap (λ (s : Side Profile). at s mine) same)),
    stays mine side.state next.state alike (ap (λ (s : Side Profile). s.state) same),
  )
  received_alike accepts side next mine bytes nonce taken sent alike (inr (inl (refused, (all, none, same)))) = (
    mine,
    inr (inl (refused, (all, none, ap (λ (s : Side Profile). at s mine) same))),
    stays mine side.state next.state alike (ap (λ (s : Side Profile). s.state) same),
  )
  received_alike accepts side next mine bytes nonce taken sent alike
      (inr (inr (answer, state, whole, answers, (all, is, same)))) =
      let step = read_alike accepts side.expected mine side.state state nonce _ answer alike answers in (
        step.0,
        inr (inr (answer, step.0, whole, step.1, (all, is, ap (λ (s : Side Profile). at s step.0) same))),
        stays step.0 state next.state step.2 (ap (λ (s : Side Profile). s.state) same),
      )
