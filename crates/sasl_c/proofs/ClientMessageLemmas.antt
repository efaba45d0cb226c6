-- Calls over one struct of a client of SCRAM are calls of one client: `messages_are_of_client`.
use Rattle.std.proofs.Common.{arith, refl, sym, ap, subst, ◌∙◌, ◌≡◌, ◌≢◌, ◌∷◌, ℕ, List, []}
use Rattle.std.specs.Prelude.{Option, Ok, Err}
use Rattle.fe2o3_scram.specs.ChannelBinding.{flag_of}
use Rattle.fe2o3_scram.specs.ClientFirst.{client_first_bare, client_first_with}
use Rattle.fe2o3_scram.specs.ClientKeys.{ClientKeys}
use Rattle.fe2o3_scram.specs.ScramClient.{AnswersIn, ClientSide, ClientState, ClientInitial, ClientFirstSent, ClientFinalSent, SignatureVerified, Complete, VerifiesIn, started, with_state}
use Rattle.fe2o3_scram.specs.Texts.{base64_text}
use Rattle.fe2o3_scram.specs.declared.scram_messages.channel_binding_flag.ChannelBindingFlag.{ChannelBindingFlag}
use Rattle.sasl_c.specs.declared.client.ScramClient.{ScramClient as Struct}
use Rattle.sasl_c.specs.declared.login.Login.{Login}
use Rattle.sasl_c.specs.declared.status.WriteError.TheVariants.{RoomTooSmall, Other}
use Rattle.sasl_c.specs.Client.{AnswersByMessage, IsClientOf, IsSide, IsState, Responds, Verifies, WritesClient, complete_struct, fresh_client_struct}
use Rattle.sasl_c.specs.ClientCalls.{SameWords}
use Rattle.sasl_c.specs.ClientMessages.{CallsOfClient, CallsOverScram, FinalCall, FirstCall, MakesCall, MessageCall, FinalCallsReturn, FirstCallsReturn, MessagesAreOfClient, MessagesSpellClients, TakesCall, VerifyCall, VerifyCallsReturn}
use Rattle.sasl_c.proofs.CallNumberLemmas.{status_not_zero}
use Rattle.sasl_c.proofs.ClientAlikeLemmas.{Follows, SameChannel, answers, made, rekeyed, verifies}
use Rattle.sasl_c.proofs.ClientCallLemmas.{nothing_sent, state_shown}
use Rattle.sasl_c.proofs.ClientLemmas.{moved_login}
use Rattle.sasl_c.proofs.ClientProfileLemmas.{SameKeys, same_keys}
use Rattle.sasl_c.proofs.SameLoginLemmas.{client_of_base, one_channel, one_client, one_state}

-- ---- the state that a call finds

answer_due : (user : List ℕ) (before : Struct) (state : ClientState) (side next : ClientSide) (text message : List ℕ)
    → AnswersIn state side text (Ok message) next → IsState user before state → before.state ≢ 3
answer_due user before (ClientFirstSent nonce bare) side next text message answered is =
    λ three. absurd (omega (arith, is.0, three))
answer_due user before ClientInitial side next text message answered is = absurd answered
answer_due user before (ClientFinalSent signature keys) side next text message answered is = absurd answered
answer_due user before (SignatureVerified keys) side next text message answered is = absurd answered
answer_due user before (Complete keys) side next text message answered is = absurd answered

verdict_due : (user : List ℕ) (before : Struct) (state : ClientState) (side next : ClientSide) (text : List ℕ)
    → VerifiesIn state side text (Ok tt) next → IsState user before state → before.state ≢ 3
verdict_due user before (ClientFinalSent signature keys) side next text verified is =
    λ three. absurd (omega (arith, is.0, three))
verdict_due user before ClientInitial side next text verified is = absurd verified
verdict_due user before (ClientFirstSent nonce bare) side next text verified is = absurd verified
verdict_due user before (SignatureVerified keys) side next text verified is = absurd verified
verdict_due user before (Complete keys) side next text verified is = absurd verified

-- the struct of a client that has accepted a signature
verified_shown : (user : List ℕ) (before after : Struct) (state : ClientState) (side next : ClientSide) (text : List ℕ)
    → VerifiesIn state side text (Ok tt) next → IsState user before state → after ≡ complete_struct before.keys
    → IsState user after next.state
verified_shown user before after (ClientFinalSent signature keys) side next text verified is same =
    subst (λ (s : ClientSide). IsState user after s.state) (sym verified.1)
    (subst (λ (s : Struct). IsState user s (Complete keys)) (sym same) (refl, is.3))
verified_shown user before after ClientInitial side next text verified is same = absurd verified
verified_shown user before after (ClientFirstSent nonce bare) side next text verified is same = absurd verified
verified_shown user before after (SignatureVerified keys) side next text verified is same = absurd verified
verified_shown user before after (Complete keys) side next text verified is same = absurd verified

-- ---- a call

module _ (base : Login) where
  same_channel : (side other : ClientSide) → IsClientOf base side → IsClientOf base other
      → SameChannel side.channel other.channel
  same_channel side other is too = one_channel base.channel_use base.channel_kind base.channel_data_len base.channel_data
      side.channel other.channel is.header.0 too.header.0

  -- another client of the struct is this one with other keys
  abbrev IsOther : ClientSide → ClientSide → Type 0
  IsOther side other = (keys : Option ClientKeys) × (other ≡ made side other.channel (rekeyed keys side.state))
      × Follows SameKeys keys side.state

  other_of : (before : Struct) (side other : ClientSide) → before.state ≢ 3 → IsSide base before side
      → IsSide base before other → IsOther side other
  other_of before side other going is too =
      let user : other.user ≡ side.user = too.0.user ∙ sym is.0.user in
      let state = one_state side.user before side.state other.state going is.1
      (subst (λ (u : List ℕ). IsState u before other.state) user too.1) in
      (state.0, one_client base side other is.0 too.0 ∙ ap (made side other.channel) state.1, state.2)

  -- a client after a call
  abbrev Took : Struct → ClientSide → MessageCall → Type 0
  Took after side call = (next : ClientSide) × TakesCall side call next × IsSide base after next

  first_took : (login : Login) (before after : Struct) (side : ClientSide) (nonce message : List ℕ) → SameWords base login
      → IsSide base before side → MakesCall login (FirstCall nonce message) before after
      → Took after side (FirstCall nonce message)
  first_took login before after side nonce message one is ((other, others, said, tested), (begins, same)) =
      let too = client_of_base base login one other others in
      let channel = same_channel side other is.0 too in
      let text = base64_text nonce in
      let named = ap (λ (f : ChannelBindingFlag). client_first_with (record {
        flag = f;
        acts_for = other.acts_for;
      }) other.user text) channel.flag ∙ (ap (λ (a : Option (List ℕ)). client_first_with (record {
        flag = flag_of side.channel;
        acts_for = a;
      }) other.user text) (too.header.1 ∙ sym is.0.header.1) ∙ ap (λ (u : List ℕ). client_first_with (record {
        flag = flag_of side.channel;
        acts_for = side.acts_for;
      }) u text) (too.user ∙ sym is.0.user)) in (
        started side nonce,
        (said ∙ named, refl),
        (
          moved_login base side (ClientFirstSent text (client_first_bare side.user text)) is.0,
          subst (λ (s : Struct). IsState side.user s (ClientFirstSent text (client_first_bare side.user text))) (sym same)
              (refl, refl, refl),
        ),
      )

  final_took : (login : Login) (before after : Struct) (side : ClientSide) (text message : List ℕ) → SameWords base login
      → IsSide base before side → MakesCall login (FinalCall text message) before after
      → Took after side (FinalCall text message)
  unfolding Responds AnswersByMessage
  final_took login before after side text message one is (next, (other, others, answered), shows, written, tested) =
      let too : IsSide base before other = (client_of_base base login one other others.0, others.1) in
      let going = answer_due other.user before other.state other next text message answered others.1 in
      let meets = other_of before side other going is too in
      let moved = answers SameKeys same_keys side side.channel other.channel (same_channel side other is.0 too.0) meets.0
      side.state text (Ok message) next meets.2
      (subst (λ (s : ClientSide). AnswersIn s.state s text (Ok message) next) meets.1 answered) in (
        made side side.channel moved.1,
        moved.4,
        (
          moved_login base side moved.1 is.0,
          state_shown side.user after moved.0 moved.1 moved.3
              (subst (λ (s : ClientSide). WritesClient after s.state) moved.2 written)
              (subst (λ (s : ClientSide). IsState s.user after s.state) moved.2 shows.1),
        ),
      )

  verify_took : (login : Login) (before after : Struct) (side : ClientSide) (text : List ℕ) → SameWords base login
      → IsSide base before side → MakesCall login (VerifyCall text) before after → Took after side (VerifyCall text)
  unfolding Verifies
  verify_took login before after side text one is (other, next, others, verified, shows, same, tested) =
      let too : IsSide base before other = (client_of_base base login one other others.0, others.1) in
      let going = verdict_due other.user before other.state other next text verified others.1 in
      let meets = other_of before side other going is too in
      let moved = verifies SameKeys same_keys side side.channel other.channel (same_channel side other is.0 too.0) meets.0
      side.state text (Ok tt) next meets.2
      (subst (λ (s : ClientSide). VerifiesIn s.state s text (Ok tt) next) meets.1 verified) in (
        made side side.channel moved.1,
        moved.4,
        (
          moved_login base side moved.1 is.0,
          verified_shown side.user before after side.state side (made side side.channel moved.1) text moved.4 is.1 same,
        ),
      )

  call_took : (call : MessageCall) (login : Login) (before after : Struct) (side : ClientSide) → SameWords base login
      → IsSide base before side → MakesCall login call before after → Took after side call
  call_took (FirstCall nonce message) login before after side one is makes =
      first_took login before after side nonce message one is makes
  call_took (FinalCall text message) login before after side one is makes =
      final_took login before after side text message one is makes
  call_took (VerifyCall text) login before after side one is makes = verify_took login before after side text one is makes

  calls_took : (before last : Struct) (side : ClientSide) (calls : List MessageCall) → IsSide base before side
      → CallsOverScram base before calls last → (end : ClientSide) × CallsOfClient side calls end × IsSide base last end
  calls_took before last side [] is same =
      (side, refl, subst (λ (s : Struct). IsSide base s side) (sym same) is)
  calls_took before last side (call ∷ calls) is (login, after, one, makes, more) =
      let step = call_took call login before after side one is makes in
      let rests = calls_took after last step.0 calls step.2 more in
      (rests.0, (step.0, step.1, rests.1), rests.2)

pub messages_are_of_client : MessagesAreOfClient
messages_are_of_client base side last calls is none over = calls_took base fresh_client_struct last side calls
    (is, subst (λ (s : ClientState). IsState side.user fresh_client_struct s) (sym none) (nothing_sent side.user)) over

pub messages_spell_clients : MessagesSpellClients
unfolding Responds Verifies AnswersByMessage
messages_spell_clients login (FirstCall nonce message) before after ((side, is, said, tested), begins) =
    (with_state side ClientInitial, moved_login login side ClientInitial is, refl)
messages_spell_clients login (FinalCall text message) before after (next, (side, is, answered), shows, writes, tested) =
    (with_state side ClientInitial, moved_login login side ClientInitial is.0, refl)
messages_spell_clients login (VerifyCall text) before after (side, next, is, verified, shows, same, tested) =
    (with_state side ClientInitial, moved_login login side ClientInitial is.0, refl)

-- ---- the numbers

pub first_calls_return : FirstCallsReturn
first_calls_return login nonce before after number room left (Ok done, is, (fills, starts, asks)) =
    ((λ zero. (fills.0, (fills.1, starts), fills.3, fills.4)), λ not. absurd (not is))
first_calls_return login nonce before after number room left (Err RoomTooSmall, is, (fills, starts, asks)) =
    ((λ zero. absurd (omega (arith, zero, is))), λ not. starts)
first_calls_return login nonce before after number room left (Err (Other status), is, (fills, starts, asks)) =
    ((λ zero. absurd (status_not_zero status (sym is ∙ zero))), λ not. starts)

pub final_calls_return : FinalCallsReturn
final_calls_return login text before after number room left (Ok done, is, (fills, stays, asks)) =
    ((λ zero. (fills.0, fills.1, fills.3, fills.4)), λ not. absurd (not is))
final_calls_return login text before after number room left (Err RoomTooSmall, is, (fills, stays, asks)) =
    ((λ zero. absurd (omega (arith, zero, is))), λ not. stays)
final_calls_return login text before after number room left (Err (Other status), is, (fills, stays, asks)) =
    ((λ zero. absurd (status_not_zero status (sym is ∙ zero))), λ not. stays)

pub verify_calls_return : VerifyCallsReturn
unfolding Verifies
verify_calls_return login text before after number (Ok done, is, (verified, asks)) =
    ((λ zero. verified), λ not. absurd (not is))
verify_calls_return login text before after number (Err status, is, (verified, asks)) =
    ((λ zero. absurd (status_not_zero status (sym is ∙ zero))), λ not. verified.0)
