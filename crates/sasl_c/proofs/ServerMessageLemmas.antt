-- Calls over one struct of a server of SCRAM are calls of one server: `messages_are_of_server`.
use Rattle.std.proofs.Common.{arith, inl, inr, refl, sym, ap, subst, ◌∙◌, ◌≡◌, ◌≢◌, ◌∷◌, ℕ, List, []}
use Rattle.std.specs.Prelude.{Bool, true, false, nat_eq, if◌then◌else◌, Option, Some, None, Result, Ok, Err}
use Rattle.std.specs.Cmp.Lexicographic.{pointwise}
use Rattle.fe2o3_scram.specs.ActingRights.{may_act}
use Rattle.fe2o3_scram.specs.ChannelBinding.{expected_header, is_strict}
use Rattle.fe2o3_scram.specs.ClientFinal.{server_of}
use Rattle.fe2o3_scram.specs.ClientFirst.{ClientFirst}
use Rattle.fe2o3_scram.specs.Credentials.{Provider, Record, VersionedRecord}
use Rattle.fe2o3_scram.specs.ScramServer.{Initial, ServerFinalSent, ServerFirstSent, ServerState, server_against}
use Rattle.fe2o3_scram.specs.ServerFinal.{AnswersClientFinal}
use Rattle.fe2o3_scram.specs.ServerFirst.{AnswersClientFirst, ServerChallenge, challenge_of}
use Rattle.fe2o3_scram.specs.Texts.{base64_text}
use Rattle.fe2o3_scram.specs.declared.hmac.ScramVersion.{ScramVersion}
use Rattle.fe2o3_scram.specs.declared.scram_messages.channel_binding_flag.ChannelBindingFlag.{ChannelBindingFlag}
use Rattle.fe2o3_scram.proofs.lemmas.messages.OneValueLemmas.{one_client_first_value}
use Rattle.sasl_c.specs.declared.records.ScramRecord.{ScramRecord as Kept}
use Rattle.sasl_c.specs.declared.server.ScramServer.{ScramServer as Struct}
use Rattle.sasl_c.specs.declared.status.Status.TheVariants.{ChannelDataLength}
use Rattle.sasl_c.specs.declared.status.WriteError.{WriteError}
use Rattle.sasl_c.specs.declared.status.WriteError.TheVariants.{RoomTooSmall, Other}
use Rattle.sasl_c.specs.Acting.{rights_for}
use Rattle.sasl_c.specs.Status.{text_answer_number}
use Rattle.sasl_c.specs.Server.{ClaimedUser, Concludes, ConcludesLogin, IsLoggedIn, IsOpen, MakesChallenge, fresh_server_struct, struct_challenge}
use Rattle.sasl_c.specs.ServerMessages.{CallsOfServer, CallsOverServer, ChallengeMessage, ChallengesReturn, HasRecordOf, MakesMessage, MessagesAreOfServer, OutcomeMessage, OutcomesReturn, PassesRecord, ServerMessage, ShowsServer, TakesMessage}
use Rattle.sasl_c.proofs.CallNumberLemmas.{status_not_zero}
use Rattle.sasl_c.proofs.OpenLemmas.{no_header, one_header}
use Rattle.sasl_c.proofs.SaltedLemmas.{one_shown}

-- ---- one record, and one challenge

one_some : (stored other : Record) → Some other ≡ Some stored → other ≡ stored
one_some stored other same = cc

found_where : (is : Bool) (own stored : Record) → (if is then Some own else None) ≡ Some stored → stored ≡ own
found_where true own stored same = one_some own stored (sym same)
found_where false own stored same = absurd (cc)

one_challenge : (server : Struct) (challenge other : ServerChallenge) → IsOpen server challenge → IsOpen server other
    → other ≡ challenge
one_challenge server challenge other is too =
    too.2 ∙ (ap (λ (f : ChannelBindingFlag). struct_challenge f server) (one_header server challenge other is too) ∙ sym is.2)

-- a number that is that of no open challenge
closed : (server : Struct) (challenge : ServerChallenge) (state : ℕ) → server.state ≡ state → state ≢ 1 → state ≢ 3 → state ≢ 7
    → state ≢ 8 → state ≢ 9 → IsOpen server challenge → ⊥
closed server challenge state is one three seven eight nine opens =
    no_header state one three seven eight nine challenge.header.flag (sym opens.0 ∙ is)

module _ (provider : Provider) where
  -- a challenge by the record that is passed is one of the store's server
  made_of : (kept : Kept) (nonce text : List ℕ) (challenge : ServerChallenge)
      → MakesChallenge provider.rules kept nonce text challenge
      → ((user : List ℕ) → ClaimedUser provider.rules text (Ok user) → HasRecordOf provider kept user)
      → AnswersClientFirst provider (base64_text nonce) text (Ok (Some challenge))
  unfolding MakesChallenge
  made_of kept nonce text challenge (shown, user, shows, (client, stored, reads, found, is)) passes =
      let has = passes client.user (client, reads, refl) in
      let same : stored ≡ has.0.stored = found_where (pointwise nat_eq user client.user) shown.stored stored found
      ∙ ap (λ (v : VersionedRecord). v.stored) (one_shown kept has.0 shown has.1 shows) in
      (client, stored, reads, has.3 ∙ ap Some (sym same), is)

  one_answer : (nonce text : List ℕ) (challenge other : ServerChallenge)
      → AnswersClientFirst provider (base64_text nonce) text (Ok (Some challenge))
      → AnswersClientFirst provider (base64_text nonce) text (Ok (Some other)) → other ≡ challenge
  one_answer nonce text challenge other (client, stored, reads, found, is) (reader, kept, readings, keeps, made) =
      let same : client ≡ reader = one_client_first_value provider.rules text client reader reads readings in
      let one : kept ≡ stored = one_some stored kept
      (sym keeps ∙ (sym (ap (λ (c : ClientFirst). provider.records c.user) same) ∙ found)) in
      made ∙ (ap (λ (c : ClientFirst). challenge_of c (base64_text nonce) kept) (sym same)
      ∙ (ap (λ (r : Record). challenge_of client (base64_text nonce) r) one ∙ sym is))

  -- the record of an open challenge is the store's
  abbrev Recorded : ServerState → Type 0
  Recorded Initial = Unit {0}
  Recorded (ServerFirstSent challenge stored) = provider.records challenge.user ≡ Some stored
  Recorded (ServerFinalSent user acts_for) = Unit {0}

  -- a server after a call
  abbrev Took : Struct → ServerState → ServerMessage → Type 0
  Took after state call =
      (next : ServerState) × TakesMessage provider state call next × ShowsServer after next × Recorded next

  challenge_took : (kept : Kept) (identities : List ℕ) (before after : Struct) (state : ServerState)
      (nonce text message : List ℕ) → PassesRecord provider kept identities (ChallengeMessage nonce text message) before
      → MakesMessage provider.rules kept identities (ChallengeMessage nonce text message) before after
      → Took after state (ChallengeMessage nonce text message)
  challenge_took kept identities before after state nonce text message passes
      ((challenge, makes, said), (other, opened, shows, same)) =
      let answers = made_of kept nonce text challenge makes passes in
      let one = one_answer nonce text challenge other answers (made_of kept nonce text other opened passes) in
      let user : provider.records challenge.user ≡ Some answers.1 =
      ap (λ (c : ServerChallenge). provider.records c.user) answers.4 ∙ answers.3 in (
        ServerFirstSent challenge answers.1,
        (challenge, answers, said, (answers.1, user, refl)),
        subst (λ (c : ServerChallenge). IsOpen after c) one shows,
        user,
      )

  outcome_took : (kept : Kept) (identities : List ℕ) (before after : Struct) (state : ServerState) (text message : List ℕ)
      → ShowsServer before state → Recorded state
      → PassesRecord provider kept identities (OutcomeMessage text message) before
      → MakesMessage provider.rules kept identities (OutcomeMessage text message) before after
      → Took after state (OutcomeMessage text message)
  unfolding Concludes ConcludesLogin
  outcome_took kept identities before after Initial text message stands recorded passes
      (user, acts_for, (challenge, shown, opens, shows, named, acts, concludes), logged, same) =
      absurd (closed before challenge 0 stands (λ e. absurd (omega (arith, e))) (λ e. absurd (omega (arith, e)))
      (λ e. absurd (omega (arith, e))) (λ e. absurd (omega (arith, e))) (λ e. absurd (omega (arith, e))) opens.0)
  outcome_took kept identities before after (ServerFinalSent own acting) text message stands recorded passes
      (user, acts_for, (challenge, shown, opens, shows, named, acts, concludes), logged, same) =
      absurd (closed before challenge 2 stands.0.0 (λ e. absurd (omega (arith, e))) (λ e. absurd (omega (arith, e)))
      (λ e. absurd (omega (arith, e))) (λ e. absurd (omega (arith, e))) (λ e. absurd (omega (arith, e))) opens.0)
  outcome_took kept identities before after (ServerFirstSent own stored) text message stands recorded passes
      (user, acts_for, (challenge, shown, opens, shows, named, acts, concludes), logged, same) =
      let one : challenge ≡ own = one_challenge before own challenge stands opens.0 in
      let has = passes challenge opens.0 in
      let record_is : shown ≡ has.0.0 = one_shown kept has.0.0 shown has.0.1 shows in
      let version : shown.version ≡ provider.version = ap (λ (v : VersionedRecord). v.version) record_is ∙ has.0.2 in
      let found : stored ≡ has.0.0.stored = one_some has.0.0.stored stored
      (sym (ap (λ (c : ServerChallenge). provider.records c.user) one ∙ recorded) ∙ has.0.3) in
      let keys : shown.stored ≡ stored = ap (λ (v : VersionedRecord). v.stored) record_is ∙ sym found in
      let header = expected_header provider.rules.channels challenge.header in
      let strict = is_strict provider.rules in
      let acting = may_act (rights_for challenge.user identities) challenge.user challenge.header.acts_for in
      let first = subst (λ (v : ScramVersion). AnswersClientFinal (server_of v header strict challenge.bare challenge.first
      challenge.nonce shown.stored acting) text (Ok message)) version concludes.0 in
      let second = subst (λ (r : Record). AnswersClientFinal (server_of provider.version header strict challenge.bare
      challenge.first challenge.nonce r acting) text (Ok message)) keys first in
      let third = subst (λ (b : Bool). AnswersClientFinal (server_of provider.version header strict challenge.bare
      challenge.first challenge.nonce stored b) text (Ok message)) has.1 second in (
        ServerFinalSent own.user own.header.acts_for,
        (
          subst (λ (c : ServerChallenge). AnswersClientFinal (server_against provider.version provider.rules provider.rights c
              stored) text (Ok message)) one third,
          refl,
        ),
        subst (λ (c : ServerChallenge). IsLoggedIn after c.user c.header.acts_for) one
            (subst (λ (a : Option (List ℕ)). IsLoggedIn after challenge.user a) acts
            (subst (λ (u : List ℕ). IsLoggedIn after u acts_for) named logged)),
        tt,
      )

  call_took : (call : ServerMessage) (kept : Kept) (identities : List ℕ) (before after : Struct) (state : ServerState)
      → ShowsServer before state → Recorded state → PassesRecord provider kept identities call before
      → MakesMessage provider.rules kept identities call before after → Took after state call
  call_took (ChallengeMessage nonce text message) kept identities before after state stands recorded passes makes =
      challenge_took kept identities before after state nonce text message passes makes
  call_took (OutcomeMessage text message) kept identities before after state stands recorded passes makes =
      outcome_took kept identities before after state text message stands recorded passes makes

  calls_took : (before last : Struct) (state : ServerState) (calls : List ServerMessage) → ShowsServer before state
      → Recorded state → CallsOverServer provider before calls last
      → (end : ServerState) × CallsOfServer provider state calls end × ShowsServer last end
  calls_took before last state [] stands recorded same =
      (state, refl, subst (λ (s : Struct). ShowsServer s state) (sym same) stands)
  calls_took before last state (call ∷ calls) stands recorded (kept, identities, after, passes, makes, more) =
      let step = call_took call kept identities before after state stands recorded passes makes in
      let rests = calls_took after last step.0 calls step.2 step.3 more in
      (rests.0, (step.0, step.1, rests.1), rests.2)

pub messages_are_of_server : MessagesAreOfServer
messages_are_of_server provider last calls over = calls_took provider fresh_server_struct last Initial calls refl tt over

-- ---- the numbers

-- the number of channel data that are too long, which is not 0
too_long : (answer : Result (Unit {0}) WriteError) (number : ℕ) (A B : Type 0) → number ≡ text_answer_number answer
    → answer ≡ Err (Other ChannelDataLength) → B → (number ≡ 0 → A) × (number ≢ 0 → B)
too_long (Ok done) number A B is same stays = absurd (cc)
too_long (Err RoomTooSmall) number A B is same stays = absurd (cc)
too_long (Err (Other status)) number A B is same stays =
    ((λ zero. absurd (status_not_zero status (sym is ∙ zero))), λ not. stays)

pub challenges_return : ChallengesReturn
challenges_return rules kept nonce text before after number room left (answer, is, inl (long, same, stays)) =
    too_long answer number _ (after ≡ before) is same stays.0
challenges_return rules kept nonce text before after number room left (Ok done, is, inr (short, (fills, opens, asks))) =
    ((λ zero. (fills.0, (fills.1, opens), fills.3, fills.4)), λ not. absurd (not is))
challenges_return rules kept nonce text before after number room left
    (Err RoomTooSmall, is, inr (short, (fills, opens, asks))) = ((λ zero. absurd (omega (arith, zero, is))), λ not. opens)
challenges_return rules kept nonce text before after number room left
    (Err (Other status), is, inr (short, (fills, opens, asks))) =
    ((λ zero. absurd (status_not_zero status (sym is ∙ zero))), λ not. opens)

pub outcomes_return : OutcomesReturn
outcomes_return rules kept text before after number room left (answer, is, inl (long, same, stays)) =
    too_long answer number _ (after ≡ before) is same stays.0
outcomes_return rules kept text before after number room left (Ok done, is, inr (short, (fills, stays, asks))) =
    ((λ zero. (fills.0, fills.1, fills.3, fills.4)), λ not. absurd (not is))
outcomes_return rules kept text before after number room left
    (Err RoomTooSmall, is, inr (short, (fills, stays, asks))) = ((λ zero. absurd (omega (arith, zero, is))), λ not. stays)
outcomes_return rules kept text before after number room left
    (Err (Other status), is, inr (short, (fills, stays, asks))) =
    ((λ zero. absurd (status_not_zero status (sym is ∙ zero))), λ not. stays)
