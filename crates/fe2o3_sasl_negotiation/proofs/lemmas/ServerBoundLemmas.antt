-- What a connection of a server sends and holds.
use Rattle.std.proofs.Common.{◌≡◌, ◌⊎◌, ℕ, ◌+◌, ◌*◌, ◌≤◌, Option, Some, None, List, length, drop, refl, sym, ap, ◌∙◌, subst, inl, inr, arith, length-append, Ok, Err}
use Rattle.fe2o3_sasl_wire.specs.declared.amqp_types.SaslCode.TheVariants as outcomes
use Rattle.fe2o3_sasl_wire.specs.declared.sasl_frames.error.Error.TheVariants as faults
use Rattle.fe2o3_sasl_wire.specs.SaslFrames.{SaslFrame}
use Rattle.fe2o3_sasl_core.specs.AnyMechanismLaws.{Machine}
use Rattle.fe2o3_sasl_core.specs.Events.{Given, ServerSays, Challenged, Concluded, Failed}
use Rattle.fe2o3_sasl_core.specs.Runs.{AcceptorSteps}
use Rattle.fe2o3_sasl_core.specs.SaslAcceptor.{acceptor_names, acceptor_machine}
use Rattle.fe2o3_sasl_negotiation.specs.declared.progress.CloseReason.TheVariants.{ProtocolHeaderMismatch}
use Rattle.fe2o3_sasl_negotiation.specs.declared.progress.Expected.{Expected}
use Rattle.fe2o3_sasl_negotiation.specs.declared.progress.Expected.TheVariants.{Header, Frame}
use Rattle.fe2o3_sasl_negotiation.specs.declared.progress.Progress.TheVariants.{InProgress, Authenticated}
use Rattle.fe2o3_sasl_negotiation.specs.declared.progress.FrameKind.{FrameKind}
use Rattle.fe2o3_sasl_negotiation.specs.declared.progress.FrameKind.TheVariants as turns
use Rattle.fe2o3_sasl_negotiation.specs.Connections.{SpellsTurn}
use Rattle.fe2o3_sasl_negotiation.specs.CostLaws.{ServersOfAreBounded, ServersAreBounded}
use Rattle.fe2o3_sasl_negotiation.specs.Framing.{sasl_header}
use Rattle.fe2o3_sasl_negotiation.specs.Negotiations.{SideOutput, Sends, closes}
use Rattle.fe2o3_sasl_negotiation.specs.ServerNegotiation.{offer_body, Offers, behind_header, ServerOutputs, ServerSideAnswers}
use Rattle.fe2o3_sasl_negotiation.proofs.lemmas.BoundLemmas.{Keeps, closed, logged_in, closes_keeps, sends_keeps, bounded}
use Rattle.fe2o3_sasl_negotiation.proofs.lemmas.ChallengeLemmas.{ChallengesAtMost, acceptor_bounds, bounded_steps, challenged_turn}

module _ {S : Type 0} (names : S → List (List ℕ)) (machine : S → List ℕ → SaslFrame → SaslFrame → S → Type 0)
    (left most : S → ℕ) (at_most : ChallengesAtMost machine left most) where
  -- the bytes that a server may send yet
  abbrev budget : S → Expected → ℕ
  budget state Header = 8 + (most state + 3) * 512
  budget state (Frame turns.Init) = (most state + 2) * 512
  budget state (Frame turns.Response) = (left state + 1) * 512
  budget state (Frame turn) = 512

  abbrev ServerKeeps : Expected → S → S → SideOutput → Type 0
  ServerKeeps expected state next answer = Keeps (budget next) (budget state expected) answer

  -- an outcome is sent at any time
  one_frame : (state : S) (turn : FrameKind) → 512 ≤ budget state (Frame turn)
  one_frame state turns.Mechanisms = omega arith
  one_frame state turns.Init = omega arith
  one_frame state turns.Challenge = omega arith
  one_frame state turns.Response = omega arith
  one_frame state turns.Outcome = omega arith
  one_frame state turns.SignatureChallenge = omega arith

  -- a challenge leaves what its acceptor may send after it
  challenged : (turn : FrameKind) (state next : S) (event : Given) (body : List ℕ) (answer : SideOutput)
      → (turn ≡ turns.Init) ⊎ (turn ≡ turns.Response) → SpellsTurn turn event.body
      → AcceptorSteps machine state event (Challenged body) next → Sends body InProgress (Frame turns.Response) answer
      → ServerKeeps (Frame turn) state next answer
  challenged turns.Init state next event body answer either spells steps sends =
      let few = at_most.first state next event body spells steps in
      sends_keeps (budget next) (budget state (Frame turns.Init)) body InProgress (Frame turns.Response) answer
      (omega arith) (λ _. omega (arith, few)) sends
  challenged turns.Response state next event body answer either spells steps sends =
      let fewer = at_most.more state next event body spells steps in
      sends_keeps (budget next) (budget state (Frame turns.Response)) body InProgress (Frame turns.Response) answer
      (omega arith) (λ _. omega (arith, fewer)) sends
  challenged turns.Mechanisms state next event body answer (inl is) spells steps sends = absurd (cc)
  challenged turns.Mechanisms state next event body answer (inr is) spells steps sends = absurd (cc)
  challenged turns.Challenge state next event body answer (inl is) spells steps sends = absurd (cc)
  challenged turns.Challenge state next event body answer (inr is) spells steps sends = absurd (cc)
  challenged turns.Outcome state next event body answer (inl is) spells steps sends = absurd (cc)
  challenged turns.Outcome state next event body answer (inr is) spells steps sends = absurd (cc)
  challenged turns.SignatureChallenge state next event body answer (inl is) spells steps sends = absurd (cc)
  challenged turns.SignatureChallenge state next event body answer (inr is) spells steps sends = absurd (cc)

  says_keeps : (says : ServerSays) (turn : FrameKind) (state next : S) (event : Given) (answer : SideOutput)
      → SpellsTurn turn event.body → AcceptorSteps machine state event says next → ServerOutputs says turn answer
      → ServerKeeps (Frame turn) state next answer
  says_keeps (Challenged body) turn state next event answer spells steps sends =
      challenged turn state next event body answer (challenged_turn machine turn state next event body spells steps) spells
      steps sends
  says_keeps (Concluded outcomes.Ok body) turn state next event answer spells steps sends =
      sends_keeps (budget next) _ body Authenticated (Frame turn) answer (one_frame state turn)
      (λ wants. absurd (logged_in wants)) sends
  says_keeps (Concluded outcomes.Auth body) turn state next event answer spells steps sends =
      sends_keeps (budget next) _ body _ (Frame turn) answer (one_frame state turn) (λ wants. absurd (closed _ wants)) sends
  says_keeps (Concluded outcomes.Sys body) turn state next event answer spells steps sends =
      sends_keeps (budget next) _ body _ (Frame turn) answer (one_frame state turn) (λ wants. absurd (closed _ wants)) sends
  says_keeps (Concluded outcomes.SysPerm body) turn state next event answer spells steps sends =
      sends_keeps (budget next) _ body _ (Frame turn) answer (one_frame state turn) (λ wants. absurd (closed _ wants)) sends
  says_keeps (Concluded outcomes.SysTemp body) turn state next event answer spells steps sends =
      sends_keeps (budget next) _ body _ (Frame turn) answer (one_frame state turn) (λ wants. absurd (closed _ wants)) sends
  says_keeps (Failed faults.OutOfMemory) turn state next event answer spells steps never = absurd never
  says_keeps (Failed faults.DecodeError) turn state next event answer spells steps same =
      closes_keeps (budget next) _ answer same
  says_keeps (Failed faults.NotImplemented) turn state next event answer spells steps same =
      closes_keeps (budget next) _ answer same
  says_keeps (Failed faults.TooLarge) turn state next event answer spells steps same =
      closes_keeps (budget next) _ answer same

  -- what is offered follows the header
  offers_keep : (state : S) (offer : Option (List ℕ)) (answer : SideOutput) → Offers offer answer
      → Keeps (budget state) ((most state + 3) * 512) answer
  offers_keep state None answer same = closes_keeps (budget state) _ answer same
  offers_keep state (Some body) answer sends =
      sends_keeps (budget state) _ body InProgress (Frame turns.Init) answer (omega arith) (λ _. omega arith) sends

  with_header : (next : S) (answer first : SideOutput) → answer ≡ behind_header first
      → Keeps (budget next) ((most next + 3) * 512) first → ServerKeeps Header next next answer
  with_header next answer first same kept =
      let sent : length answer.sent ≡ 8 + length first.sent =
      ap (λ (a : SideOutput). length a.sent) same ∙ length-append sasl_header first.sent in
      let within = kept.0 in (
        omega (arith, sent, within),
        λ wants. let rest = kept.1 (sym (ap (λ (a : SideOutput). a.progress) same) ∙ wants) in
            let behind : budget next answer.expected ≡ budget next first.expected =
            ap (λ (a : SideOutput). budget next a.expected) same in
            omega (arith, sent, rest, behind),
      )

  server_keeps : (expected : Expected) (state next : S) (nonce unit : List ℕ) (answer : SideOutput)
      → ServerSideAnswers names machine expected state nonce unit answer next → ServerKeeps expected state next answer
  server_keeps Header state next nonce unit answer (inl (other, same), kept) =
      subst (λ (s : S). ServerKeeps Header s next answer) kept
      (with_header next answer (closes (ProtocolHeaderMismatch unit) Header) same
      (closes_keeps {expected = Header} (budget next) ((most next + 3) * 512) _ refl))
  server_keeps Header state next nonce unit answer (inr (is, (first, offered, same)), kept) =
      subst (λ (s : S). ServerKeeps Header s next answer) kept
      (with_header next answer first same (offers_keep next (offer_body (names state)) first offered))
  server_keeps (Frame turn) state next nonce unit answer (Err fault, spells, unread) =
      closes_keeps (budget next) _ answer unread.0
  server_keeps (Frame turn) state next nonce unit answer (Ok frame, spells, inl out) =
      closes_keeps (budget next) _ answer out.1
  server_keeps (Frame turn) state next nonce unit answer (Ok frame, spells, inr (in_turn, (says, steps, said))) =
      says_keeps says turn state next (record { body = drop 4 unit; nonce = nonce }) answer (frame, spells, in_turn) steps
      said

pub servers_of_are_bounded : {S : Type 0} (names : S → List (List ℕ)) (machine : Machine S)
    → ServersOfAreBounded names machine
servers_of_are_bounded names machine left most bounds state limit calls stream sent rest last made =
    let at_most = bounded_steps machine left most bounds in
    bounded (ServerSideAnswers names machine) (budget names machine left most at_most)
    (server_keeps names machine left most at_most) limit state calls stream sent rest last made

pub servers_are_bounded : ServersAreBounded
servers_are_bounded acceptor limit calls stream sent rest last made =
    servers_of_are_bounded acceptor_names acceptor_machine (λ _. 0) (λ _. 0) acceptor_bounds acceptor limit calls stream
    sent rest last made
