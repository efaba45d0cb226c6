-- Which stages a struct shows alike, and the struct of a side.
use Rattle.std.proofs.Common.{arith, refl, sym, ap, subst, ◌∙◌, ◌≡◌, ◌≢◌, ℕ, List}
use Rattle.std.specs.Prelude.{Bool, true, false, if◌then◌else◌, Option, Some, None}
use Rattle.fe2o3_scram.specs.ActingRights.{Rights}
use Rattle.fe2o3_scram.specs.ChannelBinding.{is_required}
use Rattle.fe2o3_scram.specs.Mixed.{MultiRecords}
use Rattle.fe2o3_scram.specs.ServerFirst.{OpenExchange, ServerChallenge}
use Rattle.fe2o3_scram.specs.declared.channel_binding.ChannelKind.TheVariants.{TlsUnique, TlsServerEndPoint, TlsExporter}
use Rattle.fe2o3_scram.specs.declared.hmac.ScramVersion.{ScramVersion}
use Rattle.fe2o3_scram.specs.declared.scram_messages.channel_binding_flag.ChannelBindingFlag.{ChannelBindingFlag}
use Rattle.fe2o3_scram.specs.declared.scram_messages.channel_binding_flag.ChannelBindingFlag.TheVariants.{NotSupported, ClientSupports, Required}
use Rattle.fe2o3_sasl_core.specs.MockChoices.{MockChoice}
use Rattle.fe2o3_sasl_core.specs.SavedServers.{IsRestored, KeptStage, KeptNothing, KeptAsked, KeptOpen, KeptSignature, KeptLogin, challenge_mechanism, exchange_now, kept_stage, restored_stage}
use Rattle.fe2o3_sasl_core.specs.Servers.{ExchangeOpen, NotStarted, ResponseAsked, ServerSettings, ServerStage, SignatureShown, UserAuthenticated, is_offered_by, logged_in_at}
use Rattle.fe2o3_sasl_core.specs.declared.mechanism.Mechanism.{Mechanism}
use Rattle.fe2o3_sasl_core.proofs.lemmas.machines.MechanismLemmas.{one_mechanism}
use Rattle.sasl_c.specs.declared.server.ScramServer.{ScramServer as ScramStruct}
use Rattle.sasl_c.specs.Server.{HasSigned, HoldsIdentity, ShowsSigned, ShowsStage, ShowsUser, fresh_server_struct, open_number, stage_struct, struct_challenge, struct_where}
use Rattle.sasl_c.proofs.CallLooksLemmas.{Looks}
use Rattle.sasl_c.proofs.CallStageLemmas.{over}
use Rattle.sasl_c.proofs.ExchangeLemmas.{keeps_nothing, never_zero}
use Rattle.sasl_c.proofs.OpenLemmas.{flag_at_number, read_again}
use Rattle.sasl_c.proofs.SaslServerLemmas.{one_number}

-- ---- numbers of states

not_two : (flag : ChannelBindingFlag) → open_number flag ≢ 2
not_two NotSupported same = absurd (omega (arith, same))
not_two ClientSupports same = absurd (omega (arith, same))
not_two (Required TlsUnique) same = absurd (omega (arith, same))
not_two (Required TlsServerEndPoint) same = absurd (omega (arith, same))
not_two (Required TlsExporter) same = absurd (omega (arith, same))

not_four : (flag : ChannelBindingFlag) → open_number flag ≢ 4
not_four NotSupported same = absurd (omega (arith, same))
not_four ClientSupports same = absurd (omega (arith, same))
not_four (Required TlsUnique) same = absurd (omega (arith, same))
not_four (Required TlsServerEndPoint) same = absurd (omega (arith, same))
not_four (Required TlsExporter) same = absurd (omega (arith, same))

not_five : (flag : ChannelBindingFlag) → open_number flag ≢ 5
not_five NotSupported same = absurd (omega (arith, same))
not_five ClientSupports same = absurd (omega (arith, same))
not_five (Required TlsUnique) same = absurd (omega (arith, same))
not_five (Required TlsServerEndPoint) same = absurd (omega (arith, same))
not_five (Required TlsExporter) same = absurd (omega (arith, same))

one_flag : (flag other : ChannelBindingFlag) → open_number flag ≡ open_number other → flag ≡ other
one_flag flag other same =
    let both : Some flag ≡ Some other = sym (read_again flag) ∙ (ap flag_at_number same ∙ read_again other) in cc

-- a struct of another state shows no login
not_user : (scram : ScramStruct) (user acts_for : Option (List ℕ)) → scram.state ≢ 0 → scram.state ≢ 2
    → ShowsUser scram user acts_for → ⊥
not_user scram None acts_for zero two shows = zero shows
not_user scram (Some user) acts_for zero two shows = two shows.0.0

no_user : (scram : ScramStruct) (user acts_for : Option (List ℕ)) → scram.state ≡ 0 → ShowsUser scram user acts_for
    → user ≡ None
no_user scram None acts_for zero shows = refl
no_user scram (Some user) acts_for zero shows =
    let two : scram.state ≡ 2 = shows.0.0 in absurd (omega (arith, zero, two))

signed_state : (scram : ScramStruct) (user acts_for : Option (List ℕ)) → ShowsSigned scram user acts_for → scram.state ≡ 4
signed_state scram None acts_for shows = absurd shows
signed_state scram (Some user) acts_for shows = shows.0

one_identity : (scram : ScramStruct) (acts_for other : Option (List ℕ)) → HoldsIdentity scram acts_for
    → HoldsIdentity scram other → acts_for ≡ other
one_identity scram acts_for other holds too = holds.1 ∙ sym too.1

one_signed : (scram : ScramStruct) (user acts_for other_user other : Option (List ℕ)) → ShowsSigned scram user acts_for
    → ShowsSigned scram other_user other → (other_user ≡ user) × (other ≡ acts_for)
one_signed scram None acts_for other_user other shows too = absurd shows
one_signed scram (Some user) acts_for None other shows too = absurd too
one_signed scram (Some user) acts_for (Some other_user) other shows too =
    let one : other_user ≡ user = too.2 ∙ sym shows.2 in
    (ap (λ (u : List ℕ). Some u) one, one_identity scram other acts_for too.4 shows.4)

some_signed : (scram : ScramStruct) (user acts_for : Option (List ℕ)) → ShowsSigned scram user acts_for
    → ((name : List ℕ) (acting : Option (List ℕ)) → ¬ HasSigned scram name acting) → ⊥
some_signed scram None acts_for shows none = shows
some_signed scram (Some user) acts_for shows none = none user acts_for shows

-- ---- the stage that is restored

module _ (settings : ServerSettings) (records : MultiRecords) (rights : Rights) (mock : Option MockChoice)
    (plain : ScramVersion) where
  abbrev passed : ServerSettings
  passed = over records rights mock plain settings

  asked_looks : (mechanism : Mechanism) (nonce : List ℕ) (stage : ServerStage) (is : Bool)
      → (if is then ResponseAsked mechanism nonce else NotStarted) ≡ ResponseAsked mechanism nonce
      → stage ≡ (if is then ResponseAsked mechanism nonce else NotStarted) → Looks (ResponseAsked mechanism nonce) stage
  asked_looks mechanism nonce stage true was same =
      subst (λ (s : ServerStage). Looks (ResponseAsked mechanism nonce) s) (sym same) (refl, refl)
  asked_looks mechanism nonce stage false was same = absurd (cc)

  open_looks : (version : ScramVersion) (plus : Bool) (exchange mine other : OpenExchange) (binds : Bool)
      (stage : ServerStage) (is : Bool) → other.challenge ≡ exchange.challenge
      → (if is then ExchangeOpen version binds mine else NotStarted) ≡ ExchangeOpen version plus exchange
      → stage ≡ (if is then ExchangeOpen version binds other else NotStarted)
      → Looks (ExchangeOpen version plus exchange) stage
  open_looks version plus exchange mine other binds stage true challenge was same =
      let one : binds ≡ plus = cc in
      subst (λ (s : ServerStage). Looks (ExchangeOpen version plus exchange) s) (sym same) (refl, one, challenge)
  open_looks version plus exchange mine other binds stage false challenge was same = absurd (cc)

  restored_asked : (mechanism other_mechanism : Mechanism) (nonce other_nonce : List ℕ) (stage : ServerStage)
      → other_mechanism ≡ mechanism
      → other_nonce ≡ nonce → IsRestored settings (ResponseAsked mechanism nonce)
      → stage ≡ restored_stage passed (KeptAsked other_mechanism other_nonce) → Looks (ResponseAsked mechanism nonce) stage
  unfolding IsRestored
  restored_asked mechanism other_mechanism nonce other_nonce stage one_of one was same =
      let kept : KeptAsked other_mechanism other_nonce ≡ KeptAsked mechanism nonce = cc in
      asked_looks mechanism nonce stage (is_offered_by settings mechanism) was (same ∙ ap (restored_stage passed) kept)

  -- the exchange that is restored for a challenge
  exchange_looks : (version other_version : ScramVersion) (plus : Bool) (exchange : OpenExchange)
      (challenge : ServerChallenge) (stage : ServerStage) → other_version ≡ version → challenge ≡ exchange.challenge
      → IsRestored settings (ExchangeOpen version plus exchange)
      → stage ≡ restored_stage passed (KeptOpen other_version challenge)
      → Looks (ExchangeOpen version plus exchange) stage
  unfolding IsRestored
  exchange_looks version other_version plus exchange challenge stage hash one was same =
      let kept : KeptOpen other_version challenge ≡ KeptOpen version exchange.challenge = cc in
      let now : stage ≡ restored_stage passed (KeptOpen version exchange.challenge) = same ∙ ap (restored_stage passed) kept in
      open_looks version plus exchange (exchange_now settings version exchange.challenge)
      (exchange_now passed version exchange.challenge) (is_required exchange.challenge.header.flag) stage
      (is_offered_by settings (challenge_mechanism version exchange.challenge)) refl was now

  -- the stage that a struct restores looks like the one that it was written for
  pub restored_looks : (scram : ScramStruct) (stage other : ServerStage) (kept : KeptStage)
      → logged_in_at stage ≡ None → IsRestored settings stage → scram ≡ stage_struct (kept_stage stage)
      → ShowsStage scram (kept_stage stage) → ShowsStage scram kept → other ≡ restored_stage passed kept
      → Looks stage other
  restored_looks scram NotStarted other KeptNothing out was written shows too same =
      subst (λ (s : ServerStage). Looks NotStarted s) (sym same) tt
  restored_looks scram NotStarted other (KeptAsked mechanism nonce) out was written shows too same =
      let zero : scram.state ≡ 0 = ap (λ (s : ScramStruct). s.state) written in
      let five : scram.state ≡ 5 = too.0 in absurd (omega (arith, zero, five))
  restored_looks scram NotStarted other (KeptOpen version challenge) out was written shows too same =
      let zero : scram.state ≡ 0 = ap (λ (s : ScramStruct). s.state) written in
      absurd (never_zero challenge.header.flag (sym zero ∙ too.1.0))
  restored_looks scram NotStarted other (KeptSignature login) out was written shows too same =
      let zero : scram.state ≡ 0 = ap (λ (s : ScramStruct). s.state) written in
      let four : scram.state ≡ 4 = signed_state scram login.user login.acts_for too in absurd (omega (arith, zero, four))
  restored_looks scram NotStarted other (KeptLogin login) out was written shows too same =
      let zero : scram.state ≡ 0 = ap (λ (s : ScramStruct). s.state) written in
      subst (λ (s : ServerStage). Looks NotStarted s) (sym same) (no_user scram login.user login.acts_for zero too)
  restored_looks scram (ResponseAsked mechanism nonce) other KeptNothing out was written shows too same =
      absurd (too.2 mechanism nonce shows)
  restored_looks scram (ResponseAsked mechanism nonce) other
      (KeptAsked other_mechanism other_nonce) out was written shows too same =
      restored_asked mechanism other_mechanism nonce other_nonce other (one_mechanism other_mechanism mechanism (too.4
      ∙ sym shows.4))
      (too.2 ∙ sym shows.2) was same
  restored_looks scram (ResponseAsked mechanism nonce) other (KeptOpen version challenge) out was written shows too same =
      absurd (not_five challenge.header.flag (sym too.1.0 ∙ shows.0))
  restored_looks scram (ResponseAsked mechanism nonce) other (KeptSignature login) out was written shows too same =
      let five : scram.state ≡ 5 = shows.0 in
      let four : scram.state ≡ 4 = signed_state scram login.user login.acts_for too in absurd (omega (arith, five, four))
  restored_looks scram (ResponseAsked mechanism nonce) other (KeptLogin login) out was written shows too same =
      let five : scram.state ≡ 5 = shows.0 in
      absurd (not_user scram login.user login.acts_for (λ zero. absurd (omega (arith, five, zero)))
      (λ two. absurd (omega (arith, five, two))) too)
  restored_looks scram (ExchangeOpen version plus exchange) other KeptNothing out was written shows too same =
      absurd (too.0 version exchange.challenge shows)
  restored_looks scram (ExchangeOpen version plus exchange) other (KeptAsked mechanism nonce) out was written shows too same =
      absurd (not_five exchange.challenge.header.flag (sym shows.1.0 ∙ too.0))
  restored_looks scram (ExchangeOpen version plus exchange) other (KeptOpen other_version challenge) out was written shows too
      same =
      let flag : challenge.header.flag ≡ exchange.challenge.header.flag =
      one_flag challenge.header.flag exchange.challenge.header.flag (sym too.1.0 ∙ shows.1.0) in
      let one : challenge ≡ exchange.challenge =
      too.1.2 ∙ (ap (λ (f : ChannelBindingFlag). struct_challenge f scram) flag ∙ sym shows.1.2) in
      exchange_looks version other_version plus exchange challenge other (one_number other_version version (too.0 ∙ sym shows.0))
      one was same
  restored_looks scram (ExchangeOpen version plus exchange) other (KeptSignature login) out was written shows too same =
      absurd (not_four exchange.challenge.header.flag
      (sym shows.1.0 ∙ signed_state scram login.user login.acts_for too))
  restored_looks scram (ExchangeOpen version plus exchange) other (KeptLogin login) out was written shows too same =
      absurd (not_user scram login.user login.acts_for
      (λ zero. never_zero exchange.challenge.header.flag (sym zero ∙ shows.1.0))
      (λ two. not_two exchange.challenge.header.flag (sym shows.1.0 ∙ two)) too)
  restored_looks scram (SignatureShown login) other KeptNothing out was written shows too same =
      absurd (some_signed scram login.user login.acts_for shows too.1)
  restored_looks scram (SignatureShown login) other (KeptAsked mechanism nonce) out was written shows too same =
      let four : scram.state ≡ 4 = signed_state scram login.user login.acts_for shows in
      let five : scram.state ≡ 5 = too.0 in absurd (omega (arith, four, five))
  restored_looks scram (SignatureShown login) other (KeptOpen version challenge) out was written shows too same =
      absurd (not_four challenge.header.flag (sym too.1.0 ∙ signed_state scram login.user login.acts_for shows))
  restored_looks scram (SignatureShown login) other (KeptSignature logs) out was written shows too same =
      subst (λ (s : ServerStage). Looks (SignatureShown login) s) (sym same)
      (one_signed scram login.user login.acts_for logs.user logs.acts_for shows too)
  restored_looks scram (SignatureShown login) other (KeptLogin logs) out was written shows too same =
      let four : scram.state ≡ 4 = signed_state scram login.user login.acts_for shows in
      absurd (not_user scram logs.user logs.acts_for (λ zero. absurd (omega (arith, four, zero)))
      (λ two. absurd (omega (arith, four, two))) too)
  restored_looks scram (UserAuthenticated login) other kept out was written shows too same = absurd (cc)

-- ---- structs of stages that look alike

shown_where : (scram : ScramStruct) (user other : Option (List ℕ)) (acts_for other_acts : Option (List ℕ)) → other ≡ user
    → other_acts ≡ acts_for → ShowsUser scram other other_acts → ShowsUser scram user acts_for
shown_where scram user other acts_for other_acts one same shows =
    subst (λ (u : Option (List ℕ)). ShowsUser scram u acts_for) one
    (subst (λ (a : Option (List ℕ)). ShowsUser scram other a) same shows)

signed_where : (scram : ScramStruct) (user other : Option (List ℕ)) (acts_for other_acts : Option (List ℕ)) → other ≡ user
    → other_acts ≡ acts_for → ShowsSigned scram other other_acts → ShowsSigned scram user acts_for
signed_where scram user other acts_for other_acts one same shows =
    subst (λ (u : Option (List ℕ)). ShowsSigned scram u acts_for) one
    (subst (λ (a : Option (List ℕ)). ShowsSigned scram other a) same shows)

zero_state : (scram : ScramStruct) (user acts_for : Option (List ℕ)) → user ≡ None → ShowsUser scram user acts_for
    → scram.state ≡ 0
zero_state scram None acts_for none shows = shows
zero_state scram (Some user) acts_for none shows = absurd (cc)

fresh_where : (state : ℕ) (user acts_for : Option (List ℕ)) → user ≡ None → struct_where state user acts_for ≡ fresh_server_struct
fresh_where state None acts_for none = refl
fresh_where state (Some user) acts_for none = absurd (cc)

pub shown_alike : (scram : ScramStruct) (stage other : ServerStage) → Looks stage other → ShowsStage scram (kept_stage other)
    → ShowsStage scram (kept_stage stage)
shown_alike scram NotStarted NotStarted looks shows = shows
shown_alike scram NotStarted (UserAuthenticated other) looks shows =
    keeps_nothing scram KeptNothing refl (zero_state scram other.user other.acts_for looks shows)
shown_alike scram (ResponseAsked mechanism nonce) (ResponseAsked other_mechanism other_nonce) looks shows =
    let one : KeptAsked other_mechanism other_nonce ≡ KeptAsked mechanism nonce =
    ap (λ (w : Mechanism). KeptAsked w other_nonce) looks.0 ∙ ap (KeptAsked mechanism) looks.1 in
    subst (ShowsStage scram) one shows
shown_alike scram (ExchangeOpen version plus exchange) (ExchangeOpen other_version other_plus other) looks shows =
    let one : KeptOpen other_version other.challenge ≡ KeptOpen version exchange.challenge =
    ap (λ (v : ScramVersion). KeptOpen v other.challenge) looks.0 ∙ ap (KeptOpen version) looks.2 in
    subst (ShowsStage scram) one shows
shown_alike scram (SignatureShown login) (SignatureShown other) looks shows =
    signed_where scram login.user other.user login.acts_for other.acts_for looks.0 looks.1 shows
shown_alike scram (UserAuthenticated login) (UserAuthenticated other) looks shows =
    shown_where scram login.user other.user login.acts_for other.acts_for looks.0 looks.1 shows
shown_alike scram NotStarted (ResponseAsked mechanism nonce) looks shows = absurd looks
shown_alike scram NotStarted (ExchangeOpen version plus exchange) looks shows = absurd looks
shown_alike scram NotStarted (SignatureShown other) looks shows = absurd looks
shown_alike scram (ResponseAsked mechanism nonce) NotStarted looks shows = absurd looks
shown_alike scram (ResponseAsked mechanism nonce) (ExchangeOpen version plus exchange) looks shows = absurd looks
shown_alike scram (ResponseAsked mechanism nonce) (SignatureShown other) looks shows = absurd looks
shown_alike scram (ResponseAsked mechanism nonce) (UserAuthenticated other) looks shows = absurd looks
shown_alike scram (ExchangeOpen version plus exchange) NotStarted looks shows = absurd looks
shown_alike scram (ExchangeOpen version plus exchange) (ResponseAsked mechanism nonce) looks shows = absurd looks
shown_alike scram (ExchangeOpen version plus exchange) (SignatureShown other) looks shows = absurd looks
shown_alike scram (ExchangeOpen version plus exchange) (UserAuthenticated other) looks shows = absurd looks
shown_alike scram (SignatureShown login) NotStarted looks shows = absurd looks
shown_alike scram (SignatureShown login) (ResponseAsked mechanism nonce) looks shows = absurd looks
shown_alike scram (SignatureShown login) (ExchangeOpen version plus exchange) looks shows = absurd looks
shown_alike scram (SignatureShown login) (UserAuthenticated other) looks shows = absurd looks
shown_alike scram (UserAuthenticated login) NotStarted looks shows = absurd looks
shown_alike scram (UserAuthenticated login) (ResponseAsked mechanism nonce) looks shows = absurd looks
shown_alike scram (UserAuthenticated login) (ExchangeOpen version plus exchange) looks shows = absurd looks
shown_alike scram (UserAuthenticated login) (SignatureShown other) looks shows = absurd looks

pub written_alike : (stage other : ServerStage) → Looks stage other
    → stage_struct (kept_stage other) ≡ stage_struct (kept_stage stage)
written_alike NotStarted NotStarted looks = refl
written_alike NotStarted (UserAuthenticated other) looks = fresh_where 2 other.user other.acts_for looks
written_alike (ResponseAsked mechanism nonce) (ResponseAsked other_mechanism other_nonce) looks =
    let one : KeptAsked other_mechanism other_nonce ≡ KeptAsked mechanism nonce =
    ap (λ (w : Mechanism). KeptAsked w other_nonce) looks.0 ∙ ap (KeptAsked mechanism) looks.1 in
    ap stage_struct one
written_alike (ExchangeOpen version plus exchange) (ExchangeOpen other_version other_plus other) looks =
    let one : KeptOpen other_version other.challenge ≡ KeptOpen version exchange.challenge =
    ap (λ (v : ScramVersion). KeptOpen v other.challenge) looks.0 ∙ ap (KeptOpen version) looks.2 in
    ap stage_struct one
written_alike (SignatureShown login) (SignatureShown other) looks =
    ap (λ (u : Option (List ℕ)). struct_where 4 u other.acts_for) looks.0 ∙ ap (struct_where 4 login.user) looks.1
written_alike (UserAuthenticated login) (UserAuthenticated other) looks =
    ap (λ (u : Option (List ℕ)). struct_where 2 u other.acts_for) looks.0 ∙ ap (struct_where 2 login.user) looks.1
written_alike NotStarted (ResponseAsked mechanism nonce) looks = absurd looks
written_alike NotStarted (ExchangeOpen version plus exchange) looks = absurd looks
written_alike NotStarted (SignatureShown other) looks = absurd looks
written_alike (ResponseAsked mechanism nonce) NotStarted looks = absurd looks
written_alike (ResponseAsked mechanism nonce) (ExchangeOpen version plus exchange) looks = absurd looks
written_alike (ResponseAsked mechanism nonce) (SignatureShown other) looks = absurd looks
written_alike (ResponseAsked mechanism nonce) (UserAuthenticated other) looks = absurd looks
written_alike (ExchangeOpen version plus exchange) NotStarted looks = absurd looks
written_alike (ExchangeOpen version plus exchange) (ResponseAsked mechanism nonce) looks = absurd looks
written_alike (ExchangeOpen version plus exchange) (SignatureShown other) looks = absurd looks
written_alike (ExchangeOpen version plus exchange) (UserAuthenticated other) looks = absurd looks
written_alike (SignatureShown login) NotStarted looks = absurd looks
written_alike (SignatureShown login) (ResponseAsked mechanism nonce) looks = absurd looks
written_alike (SignatureShown login) (ExchangeOpen version plus exchange) looks = absurd looks
written_alike (SignatureShown login) (UserAuthenticated other) looks = absurd looks
written_alike (UserAuthenticated login) NotStarted looks = absurd looks
written_alike (UserAuthenticated login) (ResponseAsked mechanism nonce) looks = absurd looks
written_alike (UserAuthenticated login) (ExchangeOpen version plus exchange) looks = absurd looks
written_alike (UserAuthenticated login) (SignatureShown other) looks = absurd looks
