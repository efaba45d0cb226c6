-- What a connection of a server of all mechanisms costs whose calls run out of memory and are repeated.
use Rattle.std.proofs.Common.{◌≡◌, ◌∙◌, ◌+◌, ◌≤◌, ℕ, List, sym, subst, refl, inl, inr, arith, Result, Ok}
use Rattle.fe2o3_sasl_wire.specs.SaslFrames.{SaslFrame}
use Rattle.fe2o3_sasl_wire.specs.declared.sasl_frames.error.Error.{Error}
use Rattle.fe2o3_sasl_core.specs.Bodies.{SpellsBody}
use Rattle.fe2o3_sasl_core.specs.Costs.{AcceptorCostsOf, AcceptorStepCosts}
use Rattle.fe2o3_sasl_core.specs.Servers.{ServerAt, ServerSettings, sasl_hmacs}
use Rattle.fe2o3_sasl_core.proofs.lemmas.frames.SpellingLemmas.{one_spelling}
use Rattle.fe2o3_sasl_negotiation.specs.declared.progress.Expected.{Expected}
use Rattle.fe2o3_sasl_negotiation.specs.declared.progress.Expected.TheVariants.{Header, Frame}
use Rattle.fe2o3_sasl_negotiation.specs.declared.progress.FrameKind.{FrameKind}
use Rattle.fe2o3_sasl_negotiation.specs.declared.progress.FrameKind.TheVariants as turns
use Rattle.fe2o3_sasl_negotiation.specs.Connections.{SpellsTurn, fresh}
use Rattle.fe2o3_sasl_negotiation.specs.Negotiations.{IsInTurn, Side}
use Rattle.fe2o3_sasl_negotiation.specs.ServerNegotiation.{ServerCosts}
use Rattle.fe2o3_sasl_negotiation.proofs.lemmas.RetryLemmas.{paid_retried}
use Rattle.connection_laws.specs.ServerHmacs.{HasCountsUpTo, ServerConnectionsRetry, login_most}
use Rattle.connection_laws.proofs.lemmas.ServerHmacLemmas.{Answers, Early, MayCost, UnitCosts, init_ends, least_of, response_ends_too, step_pays}
use Rattle.connection_laws.proofs.lemmas.StageCostLemmas.{left_at}

module _ (settings : ServerSettings) (most : ℕ) (counts : HasCountsUpTo settings most) (side : Side ServerAt)
    (bytes nonce : List ℕ) (before after : ℕ) (same : side.state.settings ≡ settings) where
  abbrev total : ℕ
  total = login_most settings most

  -- a call costs no more than a login
  abbrev Tries : Type 0
  Tries = (before ≤ after) × (after ≤ before + total)

  free : after ≡ before → Tries
  free unchanged = (omega (arith, unchanged), omega (arith, unchanged))

  -- the answer to a body costs what its frame takes
  body_costs : (body : List ℕ) (frame : SaslFrame) → SpellsBody body (Ok frame)
      → AcceptorStepCosts sasl_hmacs side.state (record { body = body; nonce = nonce }) before after
      → UnitCosts side.state body before after
  body_costs body frame spells (spelled, read, costs) = inr (
    frame,
    spells,
    subst (λ (s : Result SaslFrame Error). AcceptorCostsOf sasl_hmacs side.state s before after)
        (one_spelling body spelled (Ok frame) read spells) costs,
  )

  same_turn : (turn is : FrameKind) → side.expected ≡ Frame turn → side.expected ≡ Frame is → turn ≡ is
  same_turn turn is at other = let both : Frame turn ≡ Frame is = sym at ∙ other in cc

  in_turn_of : (turn is : FrameKind) (body : List ℕ) (frame : SaslFrame) → turn ≡ is → SpellsBody body (Ok frame)
      → IsInTurn turn frame → SpellsTurn is body
  in_turn_of turn is body frame one spells in_turn =
      (frame, spells, subst (λ (t : FrameKind). IsInTurn t frame) one in_turn)

  not_header : {A : Type 0} (turn : FrameKind) → side.expected ≡ Frame turn → side.expected ≡ Header → A
  not_header turn at other =
      let both : ◌≡◌ {A = Expected} (Frame turn) Header = sym at ∙ other in absurd (cc)

  early_tries : Early side → ServerCosts sasl_hmacs side bytes nonce before after → Tries
  early_tries early (inl unchanged) = free unchanged
  early_tries early (inr (turn, body, completes, inl unchanged)) = free unchanged
  early_tries (inl at) (inr (turn, body, completes, inr (frame, spells, in_turn, costs))) =
      not_header turn completes.1 at
  early_tries (inr at) (inr (turn, body, completes, inr (frame, spells, in_turn, costs))) =
      let paid = body_costs body frame spells costs in (
        least_of side.state body before after paid,
        init_ends settings most counts side.state body before after same paid
            (in_turn_of turn turns.Init body frame (same_turn turn turns.Init completes.1 at) spells in_turn),
      )

  late_tries : side.expected ≡ Frame turns.Response → left_at settings most counts side.state.stage ≤ total
      → ServerCosts sasl_hmacs side bytes nonce before after → Tries
  late_tries at few (inl unchanged) = free unchanged
  late_tries at few (inr (turn, body, completes, inl unchanged)) = free unchanged
  late_tries at few (inr (turn, body, completes, inr (frame, spells, in_turn, costs))) =
      let paid = body_costs body frame spells costs in
      let bound = response_ends_too settings most counts side.state nonce body before after same paid
      (in_turn_of turn turns.Response body frame (same_turn turn turns.Response completes.1 at) spells in_turn) in
      (least_of side.state body before after paid, omega (arith, bound, few))

tries : (settings : ServerSettings) (most : ℕ) (counts : HasCountsUpTo settings most) (side : Side ServerAt)
    (bytes nonce : List ℕ) (before after may : ℕ) → MayCost settings most counts side may
    → ServerCosts sasl_hmacs side bytes nonce before after
    → (before ≤ after) × (after ≤ before + login_most settings most)
tries settings most counts side bytes nonce before after may (same, inl (early, is)) costs =
    early_tries settings most counts side bytes nonce before after same early costs
tries settings most counts side bytes nonce before after may (same, inr (inl (at, is, few))) costs =
    late_tries settings most counts side bytes nonce before after same at few costs
tries settings most counts side bytes nonce before after may (same, inr (inr (done, is))) (inl unchanged) =
    free settings most counts side bytes nonce before after same unchanged
tries settings most counts side bytes nonce before after may (same, inr (inr (done, is)))
    (inr (turn, body, completes, costs)) = absurd (done completes.0)

pub server_connections_retry : ServerConnectionsRetry
server_connections_retry server most limit calls stream failed before after counts made =
    paid_retried Answers (ServerCosts sasl_hmacs) (login_most server.settings most) (MayCost server.settings most counts)
    (λ side next bytes nonce sent taken start end may costs_so receives costs.
    step_pays server.settings most counts side next bytes nonce sent taken start end may costs_so receives costs)
    (tries server.settings most counts) calls (fresh limit server) stream failed before after
    (login_most server.settings most) (refl, inl (inl refl, refl)) made
