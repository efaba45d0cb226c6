-- A connection of a server of all mechanisms takes the HMAC values of one login at most: `server_connections_cost`.
use Rattle.std.proofs.Common.{◌≡◌, ◌⊎◌, ◌∙◌, ◌+◌, ◌≤◌, ◌++◌, ℕ, Option, Some, None, List, drop, take, ap, sym, subst, refl, inl, inr, arith, Result, Ok, Err}
use Rattle.fe2o3_sasl_wire.specs.SaslFrames as frames
use Rattle.fe2o3_sasl_wire.specs.SaslFrames.{SaslFrame}
use Rattle.fe2o3_sasl_wire.specs.declared.sasl_frames.error.Error.{Error}
use Rattle.fe2o3_sasl_core.specs.Bodies.{SpellsBody}
use Rattle.fe2o3_sasl_core.specs.Costs.{AcceptorCostsOf, AcceptorStepCosts, CostsAtMost}
use Rattle.fe2o3_sasl_core.specs.Events.{Given, Challenged}
use Rattle.fe2o3_sasl_core.specs.Servers.{InitWhere, ResponseAnswers, ServerAt, ServerSettings, init_where_hmacs, is_response_asked, response_hmacs, sasl_hmacs, sasl_machine}
use Rattle.fe2o3_sasl_core.proofs.lemmas.frames.SpellingLemmas.{one_spelling, one_spelled_frame}
use Rattle.fe2o3_sasl_negotiation.specs.declared.progress.Expected.{Expected}
use Rattle.fe2o3_sasl_negotiation.specs.declared.progress.Expected.TheVariants.{Header, Frame}
use Rattle.fe2o3_sasl_negotiation.specs.declared.progress.FrameKind.{FrameKind}
use Rattle.fe2o3_sasl_negotiation.specs.declared.progress.FrameKind.TheVariants as turns
use Rattle.fe2o3_sasl_negotiation.specs.declared.progress.Progress.{Progress}
use Rattle.fe2o3_sasl_negotiation.specs.declared.progress.Progress.TheVariants.{InProgress, Authenticated, Failed as HasFailed}
use Rattle.fe2o3_sasl_negotiation.specs.Connections.{SpellsTurn, fresh}
use Rattle.fe2o3_sasl_negotiation.specs.Framing.{size_of}
use Rattle.fe2o3_sasl_negotiation.specs.Negotiations.{Completes, IsInTurn, Receives, Side, SideOutput}
use Rattle.fe2o3_sasl_negotiation.specs.ServerNegotiation.{Offers, ServerCosts, ServerOpens, ServerSideAnswers, offer_body}
use Rattle.fe2o3_sasl_negotiation.proofs.lemmas.ChallengeLemmas.{challenge_of_answer}
use Rattle.fe2o3_sasl_negotiation.proofs.lemmas.CostLemmas.{Left, answers_whole, leaves, paid_calls, rests}
use Rattle.fe2o3_sasl_negotiation.proofs.lemmas.KindLemmas.{closes_waits_not, due_of, progress_of, sends_goes_on}
use Rattle.connection_laws.specs.ServerHmacs.{HasCountsUpTo, ServerConnectionsCost, login_most, offered_by_server}
use Rattle.connection_laws.proofs.lemmas.ServedLemmas.{init_of, init_step, response_step}
use Rattle.connection_laws.proofs.lemmas.ServerLemmas.{response_of}
use Rattle.connection_laws.proofs.lemmas.ServerStepLemmas.{challenge, challenge_has_memory}
use Rattle.connection_laws.proofs.lemmas.StageCostLemmas.{AtMost, left_at, response_ends, response_waits, where_ends, where_waits}
use Rattle.connection_laws.proofs.lemmas.UnknownNameLemmas.{step_settings}

-- what a server answers to a unit
abbrev pub Answers : Expected → ServerAt → List ℕ → List ℕ → SideOutput → ServerAt → Type 0
Answers = ServerSideAnswers offered_by_server sasl_machine

-- a side has ended
abbrev pub Done : Side ServerAt → Type 0
Done side = side.progress ≡ InProgress → ⊥

-- a side expects a header or an init
abbrev pub Early : Side ServerAt → Type 0
Early side = (side.expected ≡ Header) ⊎ (side.expected ≡ Frame turns.Init)

-- ---- a header

offers_goes : (found : Option (List ℕ)) (answer : SideOutput) → Offers found answer → answer.progress ≡ InProgress
    → answer.expected ≡ Frame turns.Init
offers_goes (Some body) answer sends waits = sends_goes_on body turns.Init answer sends waits
offers_goes None answer is waits = absurd (closes_waits_not _ _ answer is waits)

opens_goes : (names : List (List ℕ)) (header : List ℕ) (answer : SideOutput) → ServerOpens names header answer
    → answer.progress ≡ InProgress → answer.expected ≡ Frame turns.Init
opens_goes names header answer (inl (other, is)) waits =
    let no = sym (progress_of answer _ is) ∙ waits in absurd (cc)
opens_goes names header answer (inr (is, (first, offers, same))) waits =
    due_of answer _ same
    ∙ offers_goes (offer_body names) first offers (sym (progress_of answer _ same) ∙ waits)

-- ---- settings

unit_settings : (expected : Expected) (server next : ServerAt) (nonce unit : List ℕ) (answer : SideOutput)
    → Answers expected server nonce unit answer next → next.settings ≡ server.settings
unit_settings Header server next nonce unit answer answers = ap (λ (s : ServerAt). s.settings) answers.1
unit_settings (Frame turn) server next nonce unit answer (Err fault, spells, closed) =
    ap (λ (s : ServerAt). s.settings) closed.1
unit_settings (Frame turn) server next nonce unit answer (Ok frame, spells, inl out) =
    ap (λ (s : ServerAt). s.settings) out.2
unit_settings (Frame turn) server next nonce unit answer (Ok frame, spells, inr (in_turn, (says, steps, said))) =
    step_settings server next (record { body = drop 4 unit; nonce = nonce }) says steps

left_settings : (side next : Side ServerAt) (bytes nonce : List ℕ) → Left Answers side bytes nonce next
    → next.state.settings ≡ side.state.settings
left_settings side next bytes nonce (inl waits) = ap (λ (s : ServerAt). s.settings) waits.2
left_settings side next bytes nonce (inr (inl closed)) = ap (λ (s : ServerAt). s.settings) closed.1
left_settings side next bytes nonce (inr (inr (answer, unit, answers, progress, due))) =
    unit_settings side.expected side.state next.state nonce unit answer answers

-- ---- a unit

-- nothing was made, or what the answer to this frame takes
abbrev pub UnitCosts : ServerAt → List ℕ → ℕ → ℕ → Type 0
UnitCosts server body before after = (after ≡ before)
    ⊎ ((frame : SaslFrame) × SpellsBody body (Ok frame) × CostsAtMost sasl_hmacs server frame before after)

pub least_of : (server : ServerAt) (body : List ℕ) (before after : ℕ) → UnitCosts server body before after → before ≤ after
least_of server body before after (inl same) = omega (arith, same)
least_of server body before after (inr (frame, spells, costs)) = costs.0

costs_of : (server : ServerAt) (body : List ℕ) (before after : ℕ) (frame : SaslFrame)
    → UnitCosts server body before after → SpellsBody body (Ok frame) → CostsAtMost sasl_hmacs server frame before after
costs_of server body before after frame (inl same) spells =
    (omega (arith, same), λ n takes. omega (arith, same))
costs_of server body before after frame (inr (other, spelled, costs)) spells =
    subst (λ (f : SaslFrame). CostsAtMost sasl_hmacs server f before after)
    (one_spelled_frame body other frame spelled spells) costs

module _ (settings : ServerSettings) (most : ℕ) (counts : HasCountsUpTo settings most) where
  abbrev total : ℕ
  total = login_most settings most

  init_costs : (server : ServerAt) (body name : List ℕ) (response hostname : Option (List ℕ)) (before after : ℕ)
      → server.settings ≡ settings → UnitCosts server body before after
      → SpellsBody body (Ok (frames.Init name response hostname))
      → AtMost (init_where_hmacs (is_response_asked server.stage) settings name response) before after
  init_costs server body name response hostname before after same costs spells =
      subst (λ (s : ServerSettings). AtMost (init_where_hmacs (is_response_asked server.stage) s name response) before
      after) same (costs_of server body before after (frames.Init name response hostname) costs spells)

  response_costs : (server : ServerAt) (body text : List ℕ) (before after : ℕ) → server.settings ≡ settings
      → UnitCosts server body before after → SpellsBody body (Ok (frames.Response text))
      → AtMost (response_hmacs settings server.stage text) before after
  response_costs server body text before after same costs spells =
      subst (λ (s : ServerSettings). AtMost (response_hmacs s server.stage text) before after) same
      (costs_of server body before after (frames.Response text) costs spells)

  init_waits : (server next : ServerAt) (nonce unit : List ℕ) (answer : SideOutput) (before after : ℕ)
      → server.settings ≡ settings → Answers (Frame turns.Init) server nonce unit answer next
      → answer.progress ≡ InProgress → UnitCosts server (drop 4 unit) before after
      → (answer.expected ≡ Frame turns.Response)
      × (after + left_at settings most counts next.stage ≤ before + total)
  init_waits server next nonce unit answer before after same answers waits costs =
      let (spelled, (body, steps, sends)) = challenge_of_answer sasl_machine offered_by_server turns.Init server next nonce unit
      answer answers waits in
      let (name, response, hostname, spells) = init_of (drop 4 unit) spelled in
      let event : Given = record { body = drop 4 unit; nonce = nonce } in
      let c = challenge server next nonce (frames.Init name response hostname) body
      (init_step sasl_machine server next event (Challenged body) name response hostname spells (challenge_has_memory body)
      steps) in (
        sends_goes_on body turns.Response answer sends waits,
        where_waits settings most counts (is_response_asked server.stage) name server.stage next.stage nonce response
            c.reply before after c.is
            (subst (λ (s : ServerSettings). InitWhere (is_response_asked server.stage) s server.stage nonce name response
            c.reply next.stage) same c.by.1)
            (init_costs server (drop 4 unit) name response hostname before after same costs spells),
      )

  response_waits_too : (server next : ServerAt) (nonce unit : List ℕ) (answer : SideOutput) (before after : ℕ)
      → server.settings ≡ settings → Answers (Frame turns.Response) server nonce unit answer next
      → answer.progress ≡ InProgress → UnitCosts server (drop 4 unit) before after
      → (answer.expected ≡ Frame turns.Response)
      × (after + left_at settings most counts next.stage ≤ before + left_at settings most counts server.stage)
  response_waits_too server next nonce unit answer before after same answers waits costs =
      let (spelled, (body, steps, sends)) = challenge_of_answer sasl_machine offered_by_server turns.Response server next nonce
      unit answer answers waits in
      let (text, spells) = response_of (drop 4 unit) spelled in
      let event : Given = record { body = drop 4 unit; nonce = nonce } in
      let c = challenge server next nonce (frames.Response text) body
      (response_step sasl_machine server next event (Challenged body) text spells (challenge_has_memory body) steps) in (
        sends_goes_on body turns.Response answer sends waits,
        response_waits settings most counts server.stage next.stage event text c.reply before after spells c.is
            (subst (λ (s : ServerSettings). ResponseAnswers s server.stage text c.reply next.stage) same c.by.1)
            (response_costs server (drop 4 unit) text before after same costs spells),
      )

  pub init_ends : (server : ServerAt) (body : List ℕ) (before after : ℕ) → server.settings ≡ settings
      → UnitCosts server body before after → SpellsTurn turns.Init body → after ≤ before + total
  init_ends server body before after same costs spelled =
      let (name, response, hostname, spells) = init_of body spelled in
      where_ends settings most counts (is_response_asked server.stage) name response before after
      (init_costs server body name response hostname before after same costs spells)

  pub response_ends_too : (server : ServerAt) (nonce body : List ℕ) (before after : ℕ) → server.settings ≡ settings
      → UnitCosts server body before after → SpellsTurn turns.Response body
      → after ≤ before + left_at settings most counts server.stage
  response_ends_too server nonce body before after same costs spelled =
      let (text, spells) = response_of body spelled in
      response_ends settings most counts server.stage (record { body = body; nonce = nonce }) text before after spells
      (response_costs server body text before after same costs spells)

  -- ---- a call

  -- what a side may cost: a login, what is left where a response is expected, none at its end
  abbrev pub MayCost : Side ServerAt → ℕ → Type 0
  MayCost side may = (side.state.settings ≡ settings) × ((Early side × (may ≡ total))
      ⊎ (((side.expected ≡ Frame turns.Response) × (may ≡ left_at settings most counts side.state.stage)
      × (left_at settings most counts side.state.stage ≤ total))
      ⊎ (Done side × (may ≡ 0))))

  -- what a call may cost
  abbrev Pays : Side ServerAt → ℕ → ℕ → ℕ → Type 0
  Pays next before after may =
      (less : ℕ) × MayCost next less × (before ≤ after) × (after + less ≤ before + may)

  module _ (side next : Side ServerAt) (bytes nonce sent : List ℕ) (taken before after : ℕ)
      (receives : Receives Answers side bytes nonce taken sent next) (same : side.state.settings ≡ settings) where
    left : Left Answers side bytes nonce next
    left = leaves Answers side.progress side next bytes nonce sent taken receives

    kept : next.state.settings ≡ settings
    kept = left_settings side next bytes nonce left ∙ same

    at_end : (may : ℕ) → Done next → before ≤ after → after ≤ before + may → Pays next before after may
    at_end may done least bound = (0, (kept, inr (inr (done, refl))), least, omega (arith, bound))

    failed : (state : Progress) → next.progress ≡ state → (state ≡ InProgress → ⊥) → Done next
    failed state at ends waits = ends (sym at ∙ waits)

    unit_init : (answer : SideOutput) (unit : List ℕ)
        → Answers (Frame turns.Init) side.state nonce unit answer next.state → next.progress ≡ answer.progress
        → next.expected ≡ answer.expected → UnitCosts side.state (drop 4 unit) before after
        → after ≤ before + total → (progress : Progress) → next.progress ≡ progress → Pays next before after total
    unit_init answer unit answers progress due costs bound InProgress waits =
        let (expected, paid) = init_waits side.state next.state nonce unit answer before after same answers
        (sym progress ∙ waits) costs in (
          left_at settings most counts next.state.stage,
          (kept, inr (inl (due ∙ expected, refl, omega (arith, paid, least_of side.state (drop 4 unit) before after costs)))),
          least_of side.state (drop 4 unit) before after costs,
          paid,
        )
    unit_init answer unit answers progress due costs bound Authenticated at =
        at_end total (failed Authenticated at (λ no. cc)) (least_of side.state (drop 4 unit) before after costs) bound
    unit_init answer unit answers progress due costs bound (HasFailed why) at =
        at_end total (failed (HasFailed why) at (λ no. cc)) (least_of side.state (drop 4 unit) before after costs) bound

    abbrev rest : ℕ
    rest = left_at settings most counts side.state.stage

    unit_response : (answer : SideOutput) (unit : List ℕ)
        → Answers (Frame turns.Response) side.state nonce unit answer next.state → next.progress ≡ answer.progress
        → next.expected ≡ answer.expected → UnitCosts side.state (drop 4 unit) before after
        → rest ≤ total → after ≤ before + rest → (progress : Progress) → next.progress ≡ progress
        → Pays next before after rest
    unit_response answer unit answers progress due costs few bound InProgress waits =
        let (expected, paid) = response_waits_too side.state next.state nonce unit answer before after same answers
        (sym progress ∙ waits) costs in (
          left_at settings most counts next.state.stage,
          (
            kept,
            inr (inl (
              due ∙ expected,
              refl,
              omega (arith, paid, few, least_of side.state (drop 4 unit) before after costs),
            )),
          ),
          least_of side.state (drop 4 unit) before after costs,
          paid,
        )
    unit_response answer unit answers progress due costs few bound Authenticated at =
        at_end rest (failed Authenticated at (λ no. cc)) (least_of side.state (drop 4 unit) before after costs) bound
    unit_response answer unit answers progress due costs few bound (HasFailed why) at =
        at_end rest (failed (HasFailed why) at (λ no. cc)) (least_of side.state (drop 4 unit) before after costs) bound

    header : (answer : SideOutput) (unit : List ℕ) → Answers Header side.state nonce unit answer next.state
        → next.progress ≡ answer.progress → next.expected ≡ answer.expected → after ≡ before → (progress : Progress)
        → next.progress ≡ progress → Pays next before after total
    header answer unit answers progress due unchanged InProgress waits = (
      total,
      (kept, inl (inr (due ∙ opens_goes (offered_by_server side.state) unit answer answers.0 (sym progress ∙ waits)), refl)),
      omega (arith, unchanged),
      omega (arith, unchanged),
    )
    header answer unit answers progress due unchanged Authenticated at =
        at_end total (failed Authenticated at (λ no. cc)) (omega (arith, unchanged)) (omega (arith, unchanged))
    header answer unit answers progress due unchanged (HasFailed why) at =
        at_end total (failed (HasFailed why) at (λ no. cc)) (omega (arith, unchanged)) (omega (arith, unchanged))

    -- a call that costs nothing
    early_free : Early side → after ≡ before → Left Answers side bytes nonce next → Pays next before after total
    early_free (inl at) unchanged (inl waits) =
        (total, (kept, inl (inl (waits.1 ∙ at), refl)), omega (arith, unchanged), omega (arith, unchanged))
    early_free (inr at) unchanged (inl waits) =
        (total, (kept, inl (inr (waits.1 ∙ at), refl)), omega (arith, unchanged), omega (arith, unchanged))
    early_free early unchanged (inr (inl closed)) =
        at_end total closed.0 (omega (arith, unchanged)) (omega (arith, unchanged))
    early_free (inl at) unchanged (inr (inr (answer, unit, answers, progress, due))) =
        header answer unit
        (subst (λ (d : Expected). Answers d side.state nonce unit answer next.state) at answers) progress due unchanged
        next.progress refl
    early_free (inr at) unchanged (inr (inr (answer, unit, answers, progress, due))) =
        unit_init answer unit (subst (λ (d : Expected). Answers d side.state nonce unit answer next.state) at answers)
        progress due (inl unchanged) (omega (arith, unchanged)) next.progress refl

    late_free : side.expected ≡ Frame turns.Response → rest ≤ total → after ≡ before → Left Answers side bytes nonce next
        → Pays next before after rest
    late_free at few unchanged (inl waits) = (
      rest,
      (
        kept,
        inr (inl (
          waits.1 ∙ at,
          ap (λ (s : ServerAt). left_at settings most counts s.stage) (sym waits.2),
          subst (λ (s : ServerAt). left_at settings most counts s.stage ≤ total) (sym waits.2) few,
        )),
      ),
      omega (arith, unchanged),
      omega (arith, unchanged),
    )
    late_free at few unchanged (inr (inl closed)) =
        at_end rest closed.0 (omega (arith, unchanged)) (omega (arith, unchanged))
    late_free at few unchanged (inr (inr (answer, unit, answers, progress, due))) =
        unit_response answer unit (subst (λ (d : Expected). Answers d side.state nonce unit answer next.state) at answers)
        progress due (inl unchanged) few (omega (arith, unchanged)) next.progress refl

    -- a call that completes a frame in turn
    abbrev unit : List ℕ
    unit = take (size_of (side.held ++ bytes)) (side.held ++ bytes)

    paid_costs : (turn : FrameKind) (body : List ℕ) (frame : SaslFrame) → Completes side bytes turn body
        → SpellsBody body (Ok frame)
        → AcceptorStepCosts sasl_hmacs side.state (record { body = body; nonce = nonce }) before after
        → UnitCosts side.state (drop 4 unit) before after
    paid_costs turn body frame completes spells (spelled, read, costs) = inr (
      frame,
      subst (λ (b : List ℕ). SpellsBody b (Ok frame)) completes.3 spells,
      subst (λ (s : Result SaslFrame Error). AcceptorCostsOf sasl_hmacs side.state s before after)
          (one_spelling body spelled (Ok frame) read spells) costs,
    )

    one_turn : (turn is : FrameKind) → side.expected ≡ Frame turn → side.expected ≡ Frame is → turn ≡ is
    one_turn turn is at other = let both : Frame turn ≡ Frame is = sym at ∙ other in cc

    no_header : {A : Type 0} (turn : FrameKind) → side.expected ≡ Frame turn → side.expected ≡ Header → A
    no_header turn at other =
        let both : ◌≡◌ {A = Expected} (Frame turn) Header = sym at ∙ other in absurd (cc)

    spells_turn : (turn is : FrameKind) (body : List ℕ) (frame : SaslFrame) → turn ≡ is → Completes side bytes turn body
        → SpellsBody body (Ok frame) → IsInTurn turn frame → SpellsTurn is (drop 4 unit)
    spells_turn turn is body frame one completes spells in_turn = (
      frame,
      subst (λ (b : List ℕ). SpellsBody b (Ok frame)) completes.3 spells,
      subst (λ (t : FrameKind). IsInTurn t frame) one in_turn,
    )

    early_step : Early side → ServerCosts sasl_hmacs side bytes nonce before after → Pays next before after total
    early_step early (inl unchanged) = early_free early unchanged left
    early_step early (inr (turn, body, completes, inl unchanged)) = early_free early unchanged left
    early_step (inl at) (inr (turn, body, completes, inr (frame, spells, in_turn, costs))) =
        no_header turn completes.1 at
    early_step (inr at) (inr (turn, body, completes, inr (frame, spells, in_turn, costs))) =
        let one = one_turn turn turns.Init completes.1 at in
        let whole = answers_whole Answers side next turn bytes nonce sent taken completes.0 completes.1 completes.2 receives in
        let paid = paid_costs turn body frame completes spells costs in
        unit_init whole.0 unit
        (subst (λ (t : FrameKind). Answers (Frame t) side.state nonce unit whole.0 next.state) one whole.1) whole.2 whole.3
        paid (init_ends side.state (drop 4 unit) before after same paid
        (spells_turn turn turns.Init body frame one completes spells in_turn)) next.progress refl

    late_step : side.expected ≡ Frame turns.Response → rest ≤ total → ServerCosts sasl_hmacs side bytes nonce before after
        → Pays next before after rest
    late_step at few (inl unchanged) = late_free at few unchanged left
    late_step at few (inr (turn, body, completes, inl unchanged)) = late_free at few unchanged left
    late_step at few (inr (turn, body, completes, inr (frame, spells, in_turn, costs))) =
        let one = one_turn turn turns.Response completes.1 at in
        let whole = answers_whole Answers side next turn bytes nonce sent taken completes.0 completes.1 completes.2 receives in
        let paid = paid_costs turn body frame completes spells costs in
        unit_response whole.0 unit
        (subst (λ (t : FrameKind). Answers (Frame t) side.state nonce unit whole.0 next.state) one whole.1) whole.2 whole.3
        paid few (response_ends_too side.state nonce (drop 4 unit) before after same paid
        (spells_turn turn turns.Response body frame one completes spells in_turn)) next.progress refl

    done_step : Done side → ServerCosts sasl_hmacs side bytes nonce before after → Pays next before after 0
    done_step done (inl unchanged) =
        let still = rests Answers side.progress side next bytes nonce sent taken done receives in
        at_end 0 (λ waits. done (sym (ap (λ (s : Side ServerAt). s.progress) still) ∙ waits))
        (omega (arith, unchanged)) (omega (arith, unchanged))
    done_step done (inr (turn, body, completes, costs)) = absurd (done completes.0)

  pub step_pays : (side next : Side ServerAt) (bytes nonce sent : List ℕ) (taken before after may : ℕ) → MayCost side may
      → Receives Answers side bytes nonce taken sent next → ServerCosts sasl_hmacs side bytes nonce before after
      → Pays next before after may
  step_pays side next bytes nonce sent taken before after may (same, inl (early, is)) receives costs =
      subst (λ (m : ℕ). Pays next before after m) (sym is)
      (early_step side next bytes nonce sent taken before after receives same early costs)
  step_pays side next bytes nonce sent taken before after may (same, inr (inl (at, is, few))) receives costs =
      subst (λ (m : ℕ). Pays next before after m) (sym is)
      (late_step side next bytes nonce sent taken before after receives same at few costs)
  step_pays side next bytes nonce sent taken before after may (same, inr (inr (done, is))) receives costs =
      subst (λ (m : ℕ). Pays next before after m) (sym is)
      (done_step side next bytes nonce sent taken before after receives same done costs)

pub server_connections_cost : ServerConnectionsCost
server_connections_cost server most limit calls stream before after counts made =
    paid_calls Answers (ServerCosts sasl_hmacs) (MayCost server.settings most counts)
    (λ side next bytes nonce sent taken start end may costs_so receives costs.
    step_pays server.settings most counts side next bytes nonce sent taken start end may costs_so receives costs)
    calls (fresh limit server) stream before after (login_most server.settings most) (refl, inl (inl refl, refl)) made
