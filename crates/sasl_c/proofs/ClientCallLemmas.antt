-- Calls over one struct of a client are calls of one side: `calls_connect`.
use Rattle.std.proofs.Common.{arith, refl, sym, ap, subst, inl, inr, ◌∙◌, ◌≡◌, ◌≢◌, ◌∷◌, ℕ, List, []}
use Rattle.std.specs.Prelude.{Bool, true, false, if◌then◌else◌, Option, Ok, Err, take, drop}
use Rattle.fe2o3_scram.specs.ClientKeys.{ClientKeys}
use Rattle.fe2o3_scram.specs.ScramClient.{ClientState, ClientInitial, ClientFirstSent, ClientFinalSent, SignatureVerified, Complete, is_complete, with_state}
use Rattle.fe2o3_sasl_core.specs.Profiles.{AnonymousProfile, ExternalProfile, MessageProfile, PlainProfile, PolicyProfile, Profile, ScramProfile}
use Rattle.fe2o3_sasl_negotiation.specs.ClientNegotiation.{ClientSideAnswers}
use Rattle.fe2o3_sasl_negotiation.specs.Connections.{fresh}
use Rattle.fe2o3_sasl_negotiation.specs.Laws.{Calls}
use Rattle.fe2o3_sasl_negotiation.specs.Negotiations.{Reading, ReceivesAt, Side}
use Rattle.fe2o3_sasl_negotiation.specs.declared.progress.Progress.{Progress}
use Rattle.fe2o3_sasl_negotiation.specs.declared.progress.Progress.TheVariants.{InProgress}
use Rattle.sasl_c.specs.declared.client.ScramClient.{ScramClient as ScramStruct}
use Rattle.sasl_c.specs.declared.sasl_client.SaslClient.{SaslClient as Struct}
use Rattle.sasl_c.specs.declared.sasl_client.SaslLogin.{SaslLogin as Login}
use Rattle.sasl_c.specs.declared.status.WriteError.TheVariants.{RoomTooSmall, Other}
use Rattle.sasl_c.specs.Client.{IsState, WritesClient, fresh_client_struct}
use Rattle.sasl_c.specs.ClientCalls.{CallsWithOneLoginConnect, CallsOverClient, IsNewProfile, LoginsSpellClients, SameLogin, ReturnsAreClientCalls, ClientCall, ZerosAreNewClients, answered_by_client}
use Rattle.sasl_c.specs.Connection.{accepts_extended}
use Rattle.sasl_c.specs.Keys.{WritesKeys}
use Rattle.sasl_c.specs.SaslClient.{ClientTakes, IsClient, IsDueIn, IsHostname, IsProfile, ReceivesAsClient, WritesProfile}
use Rattle.sasl_c.proofs.CallLemmas.{flag_again, keeps_zeros, one_side, side_so, waiting, waits}
use Rattle.sasl_c.proofs.CallNumberLemmas.{status_not_zero}
use Rattle.sasl_c.proofs.ClientAlikeLemmas.{Follows, rekeyed}
use Rattle.sasl_c.proofs.ClientDoneLemmas.{is_done, received_open}
use Rattle.sasl_c.proofs.ClientLemmas.{moved_login}
use Rattle.sasl_c.proofs.ClientProfileLemmas.{Alike, SameKeys, at, received_alike}
use Rattle.sasl_c.proofs.SameLoginLemmas.{alike_of, of_base, one_hostname}
use Rattle.sasl_c.proofs.SaslClientLemmas.{one_due}

-- ---- a struct and the side of its connection

-- a struct of this side of a connection, which is not that of a completed login while the side is in progress
record IsOfSide (base : Login) (accepts : Bool) (client : Struct) (side : Side Profile) : Type 0 where
  shows : IsClient base client side
  extended : accepts_extended client.connection ≡ accepts
  going : side.progress ≡ InProgress → client.scram.state ≢ 3

state_open : (user : List ℕ) (scram : ScramStruct) (state : ClientState) → IsState user scram state → scram.state ≢ 3
    → is_complete state ≡ false
state_open user scram ClientInitial is going = refl
state_open user scram (ClientFirstSent nonce bare) is going = refl
state_open user scram (ClientFinalSent signature keys) is going = refl
state_open user scram (SignatureVerified keys) is going = refl
state_open user scram (Complete keys) is going = absurd (going is.0)

profile_open : (login : Login) (scram : ScramStruct) (profile : Profile) → IsProfile login scram profile → scram.state ≢ 3
    → is_done profile ≡ false
profile_open login scram (ScramProfile side) is going = state_open side.user scram side.state is.1.1 going
profile_open login scram (PlainProfile identity user password) is going = refl
profile_open login scram AnonymousProfile is going = refl
profile_open login scram ExternalProfile is going = refl
profile_open login scram (MessageProfile mechanism message is_due) is going = refl
profile_open login scram (PolicyProfile selection) is going = absurd is

-- a struct that is written for a login which is not complete
numbered : (scram other : ScramStruct) → scram ≡ other → other.state ≢ 3 → scram.state ≢ 3
numbered scram other same not = λ three. not (sym (ap (λ (s : ScramStruct). s.state) same) ∙ three)

state_written : (scram : ScramStruct) (state : ClientState) → WritesClient scram state → is_complete state ≡ false
    → scram.state ≢ 3
state_written scram ClientInitial is goes = numbered scram _ is (λ three. absurd (omega (arith, three)))
state_written scram (ClientFirstSent nonce bare) is goes = numbered scram _ is.2 (λ three. absurd (omega (arith, three)))
state_written scram (ClientFinalSent signature keys) is goes = numbered scram _ is.2 (λ three. absurd (omega (arith, three)))
state_written scram (SignatureVerified keys) is goes = numbered scram _ is.2 (λ three. absurd (omega (arith, three)))
state_written scram (Complete keys) is goes = absurd (cc)

profile_written : (scram : ScramStruct) (profile : Profile) → WritesProfile scram profile → is_done profile ≡ false
    → scram.state ≢ 3
profile_written scram (ScramProfile side) is goes = state_written scram side.state is goes
profile_written scram (PlainProfile identity user password) is goes =
    numbered scram _ is (λ three. absurd (omega (arith, three)))
profile_written scram AnonymousProfile is goes = numbered scram _ is (λ three. absurd (omega (arith, three)))
profile_written scram ExternalProfile is goes = numbered scram _ is (λ three. absurd (omega (arith, three)))
profile_written scram (MessageProfile mechanism message true) is goes =
    numbered scram _ is (λ three. absurd (omega (arith, three)))
profile_written scram (MessageProfile mechanism message false) is goes =
    numbered scram _ is (λ three. absurd (omega (arith, three)))
profile_written scram (PolicyProfile selection) is goes = numbered scram _ is (λ three. absurd (omega (arith, three)))

-- ---- the struct after a call

keys_written : (scram other : ScramStruct) (keys : Option ClientKeys) → scram ≡ other → WritesKeys other.keys keys
    → WritesKeys scram.keys keys
keys_written scram other keys same is = subst (λ (s : ScramStruct). WritesKeys s.keys keys) (sym same) is

pub state_shown : (user : List ℕ) (scram : ScramStruct) (keys : Option ClientKeys) (state : ClientState)
    → Follows SameKeys keys state → WritesClient scram (rekeyed keys state) → IsState user scram (rekeyed keys state)
    → IsState user scram state
state_shown user scram keys ClientInitial follows written is = is
state_shown user scram keys (ClientFirstSent nonce bare) follows written is = is
state_shown user scram keys (ClientFinalSent signature own) follows written is =
    (is.0, is.1, is.2, follows scram.keys (keys_written scram _ keys written.2 written.1) is.3)
state_shown user scram keys (SignatureVerified own) follows written is =
    (is.0, follows scram.keys (keys_written scram _ keys written.2 written.1) is.1)
state_shown user scram keys (Complete own) follows written is =
    (is.0, follows scram.keys (keys_written scram _ keys written.2 written.1) is.1)

-- a struct that is written for a profile is that of each profile which is alike
profile_shown : (login : Login) (scram : ScramStruct) (mine other : Profile) → Alike login mine other
    → WritesProfile scram other → IsProfile login scram other → IsProfile login scram mine
profile_shown login scram mine other (inl same) written is = subst (λ (p : Profile). IsProfile login scram p) same is
profile_shown login scram mine other
    (inr (first, (side, channel, others, keys, state, meant, meets, alike, follows, words))) written is =
    let wrote = subst (λ (p : Profile). WritesProfile scram p) meets written in
    let shows = subst (λ (p : Profile). IsProfile login scram p) meets is in
    subst (λ (p : Profile). IsProfile login scram p) (sym meant)
    (first, (words, state_shown side.user scram keys state follows wrote shows.1.1))

-- ---- a call

same_side : (base : Login) (before : Struct) (side other : Side Profile) → IsClient base before side
    → IsClient base before other → other.progress ≡ InProgress → side ≡ at other side.state
same_side base before side other of is wants =
    let keeps = waiting before.connection other.progress other.expected other.held is.0.0 wants in
    let mine = waits before.connection side.progress side.expected side.held of.0.0 keeps.progress in
    let own = waiting before.connection side.progress side.expected side.held of.0.0 mine in
    one_side side other.progress other.expected other.limit other.held (mine ∙ sym wants)
    (one_due side.expected other.expected (own.expected ∙ sym keeps.expected)) (of.0.1 ∙ sym is.0.1) (own.held ∙ sym keeps.held)
    ∙ sym (side_so (at other side.state))

module _ (base : Login) (hostname : Option (List ℕ)) (named : IsHostname base hostname) (accepts : Bool) where
  call_step : (login : Login) (before after : Struct) (bytes nonce : List ℕ) (taken : ℕ) (sent : List ℕ)
      (side : Side Profile) → SameLogin base login → IsOfSide base accepts before side
      → ReceivesAsClient login bytes nonce before after taken (Ok sent)
      → (next : Side Profile) × ClientTakes accepts hostname side bytes nonce taken sent next
      × IsOfSide base accepts after next
  unfolding ReceivesAsClient
  call_step login before after bytes nonce taken sent side one of
      (host, other, next, hosts, is, wants, takes, shows, written) =
      let meets : IsClient base before other = (is.0, of_base base login before.scram other.state one is.1) in
      let same = same_side base before side other of.shows meets wants in
      let going = of.going (ap (λ (s : Side Profile). s.progress) same ∙ wants) in
      let alike = alike_of base before.scram side.state other.state going of.shows.1 meets.1 in
      let mine = subst (λ (b : Bool). ClientTakes b hostname other bytes nonce taken sent next) of.extended
      (subst (λ (h : Option (List ℕ)). ClientTakes (accepts_extended before.connection) h other bytes nonce taken sent next)
      (one_hostname base login hostname host one named hosts) takes) in
      let at_wait = subst (λ (s : Progress). ReceivesAt s (Reading accepts (ClientSideAnswers hostname)) other bytes nonce taken
      sent next) wants mine in
      let step = received_alike base hostname accepts other next side.state bytes nonce taken sent alike at_wait in
      let received = subst (λ (s : Progress). ReceivesAt s (Reading accepts (ClientSideAnswers hostname)) (at other side.state)
      bytes nonce taken sent (at next step.0)) (sym wants) step.1 in (
        at next step.0,
        subst (λ (s : Side Profile). ClientTakes accepts hostname s bytes nonce taken sent (at next step.0)) (sym same) received,
        record {
          shows = (
            shows.0,
            profile_shown base after.scram step.0 next.state step.2 written.1
                (of_base base login after.scram next.state one shows.1),
          );
          extended = ap accepts_extended written.0 ∙ (flag_again (accepts_extended before.connection) ∙ of.extended);
          going = λ goes. profile_written after.scram next.state written.1 (received_open accepts hostname other next bytes
              nonce taken sent (profile_open base before.scram other.state meets.1 going) at_wait goes);
        },
      )

  -- ---- all calls

  calls_of_side : (before last : Struct) (side : Side Profile) (calls : List ClientCall) (stream sent rest : List ℕ)
      → IsOfSide base accepts before side → CallsOverClient base before calls stream sent last rest
      → (end : Side Profile) × Calls (ClientTakes accepts hostname) side (answered_by_client calls) stream sent end rest
      × IsOfSide base accepts last end
  calls_of_side before last side [] stream sent rest of (none, same, all) =
      (side, (none, refl, all), subst (λ (s : Struct). IsOfSide base accepts s side) (sym same) of)
  calls_of_side before last side (call ∷ calls) stream sent rest of
      (inl (is, (after, taken, first, later, one, received, more, all))) =
      let step = call_step call.login before after (take call.handed stream) call.nonce taken first side one of received in
      let rests = calls_of_side after last step.0 calls (drop taken stream) later rest step.2 more in (
        rests.0,
        subst (λ (b : Bool). Calls (ClientTakes accepts hostname) side (if b then record {
          handed = call.handed;
          nonce = call.nonce;
        } ∷ answered_by_client calls else answered_by_client calls) stream sent rests.0 rest) (sym is)
            (taken, first, step.0, later, step.1, rests.1, all),
        rests.2,
      )
  calls_of_side before last side (call ∷ calls) stream sent rest of (inr (is, more)) =
      let rests = calls_of_side before last side calls stream sent rest of more in (
        rests.0,
        subst (λ (b : Bool). Calls (ClientTakes accepts hostname) side (if b then record {
          handed = call.handed;
          nonce = call.nonce;
        } ∷ answered_by_client calls else answered_by_client calls) stream sent rests.0 rest) (sym is) rests.1,
        rests.2,
      )

-- ---- the first struct

pub nothing_sent : (user : List ℕ) → IsState user fresh_client_struct ClientInitial
nothing_sent user = (
  (λ one. absurd (omega (arith, one))),
  (λ four. absurd (omega (arith, four))),
  (λ two. absurd (omega (arith, two))),
)

new_shown : (login : Login) (profile : Profile) → IsNewProfile login profile → IsProfile login fresh_client_struct profile
new_shown login (ScramProfile side) (is, none) =
    (is.0, (is.1.0, subst (λ (s : ClientState). IsState side.user fresh_client_struct s) (sym none) (nothing_sent side.user)))
new_shown login (PlainProfile identity user password) (is, none) = is
new_shown login AnonymousProfile (is, none) = is
new_shown login ExternalProfile (is, none) = is
new_shown login (PolicyProfile selection) (is, none) = absurd is
new_shown login (MessageProfile mechanism message is_due) (is, none) = (
  is.0,
  is.1,
  subst (λ (b : Bool). IsDueIn fresh_client_struct b) (sym none) (λ one. absurd (omega (arith, one))),
  is.2,
)

pub zeros_are_fresh : ZerosAreNewClients
zeros_are_fresh login profile client new is = (
  (keeps_zeros client.connection is.0, refl),
  subst (λ (s : ScramStruct). IsProfile login s profile) (sym is.1) (new_shown login profile new),
)

pub calls_connect : CallsWithOneLoginConnect
calls_connect base hostname profile before last calls stream sent rest named new is over =
    let all = calls_of_side base hostname named (accepts_extended before.connection) before last (fresh 512 profile) calls stream
    sent rest (record {
      shows = zeros_are_fresh base profile before new is;
      extended = refl;
      going = λ _. numbered before.scram fresh_client_struct is.1 (λ three. absurd (omega (arith, three)));
    }) over in
    (all.0, all.1, all.2.shows, all.2.extended)

-- ---- the client of a login

renewed : Profile → Profile
renewed (ScramProfile side) = ScramProfile (with_state side ClientInitial)
renewed (MessageProfile mechanism message is_due) = MessageProfile mechanism message false
renewed profile = profile

new_of : (login : Login) (scram : ScramStruct) (profile : Profile) → IsProfile login scram profile
    → IsNewProfile login (renewed profile)
unfolding renewed
new_of login scram (ScramProfile side) is =
    ((is.0, (moved_login login.login side ClientInitial is.1.0, tt)), refl)
new_of login scram (PlainProfile identity user password) is = (is, tt)
new_of login scram AnonymousProfile is = (is, tt)
new_of login scram ExternalProfile is = (is, tt)
new_of login scram (PolicyProfile selection) is = absurd is
new_of login scram (MessageProfile mechanism message is_due) is = ((is.0, is.1, is.3), refl)

pub logins_spell_clients : LoginsSpellClients
unfolding ReceivesAsClient
logins_spell_clients login bytes nonce sent before after taken
    (host, side, next, hosts, is, wants, takes, shows, written) =
    (host, renewed side.state, hosts, new_of login before.scram side.state is.1)

pub returns_are_calls : ReturnsAreClientCalls
returns_are_calls login bytes nonce before after taken_before taken number room left (Ok done, is, (fills, stays, asks)) =
    ((λ zero. (fills.0, fills.1, fills.3, fills.4)), λ not. absurd (not is))
returns_are_calls login bytes nonce before after taken_before taken number room left
    (Err RoomTooSmall, is, (fills, stays, asks)) = ((λ zero. absurd (omega (arith, zero, is))), λ not. stays)
returns_are_calls login bytes nonce before after taken_before taken number room left
    (Err (Other status), is, (fills, stays, asks)) =
    ((λ zero. absurd (status_not_zero status (sym is ∙ zero))), λ not. stays)
