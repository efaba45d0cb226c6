-- After an unaltered login the server names the identity that the client named.
use Rattle.std.proofs.Common.{◌≡◌, ◌≢◌, sym, ap, ◌∙◌, subst, Result, Ok}
use Rattle.fe2o3_sasl_wire.specs.declared.sasl_frames.error.Error.{Error}
use Rattle.fe2o3_sasl_wire.specs.declared.sasl_frames.error.Error.TheVariants as faults
use Rattle.fe2o3_sasl_wire.specs.SaslFrames.{SaslFrame}
use Rattle.fe2o3_sasl_wire.specs.SaslFrames as frames
use Rattle.fe2o3_scram.specs.ChannelBinding.{header_of, is_bound}
use Rattle.fe2o3_scram.specs.ClientFirst.{client_first_with}
use Rattle.fe2o3_scram.specs.ScramServer.{Initial}
use Rattle.fe2o3_scram.specs.Texts.{base64_text}
use Rattle.fe2o3_sasl_wire.specs.declared.amqp_types.SaslCode.TheVariants as outcomes
use Rattle.fe2o3_sasl_core.specs.Bodies.{SpellsBody}
use Rattle.fe2o3_sasl_core.specs.Events.{Given, ServerSays, Challenged, Concluded, Failed, login_header}
use Rattle.fe2o3_sasl_core.specs.Runs.{AcceptorGives, AcceptorSteps}
use Rattle.fe2o3_sasl_core.specs.SaslAcceptor.{Acceptor, ScramAcceptor, acceptor_acting, acceptor_machine}
use Rattle.fe2o3_sasl_core.proofs.lemmas.frames.SpellingLemmas.{one_spelling, spells_init, spells_response}
use Rattle.fe2o3_sasl_core.proofs.lemmas.machines.OneReplyLemmas.{one_acceptor_reply}
use Rattle.connection_laws.proofs.lemmas.CutStepLemmas.{server_gives}
use Rattle.connection_laws.proofs.lemmas.LoginAnswerLemmas as answer
use Rattle.connection_laws.proofs.lemmas.LoginFrameLemmas as frame
use Rattle.connection_laws.proofs.lemmas.LoginFrameLemmas.{Premises}
use Rattle.connection_laws.proofs.lemmas.UnalteredSideLemmas.{Case, UpToOk, event}

-- two steps of an acceptor over one body leave one acceptor, if memory suffices for both
one_next : (acceptor next last : Acceptor) (given : Given) (says other : ServerSays) (frame : SaslFrame)
    → SpellsBody given.body (Ok frame) → says ≢ Failed faults.OutOfMemory → other ≢ Failed faults.OutOfMemory
    → AcceptorSteps acceptor_machine acceptor given says next
    → AcceptorGives acceptor_machine acceptor given (Ok frame) other last → next ≡ last
one_next acceptor next last given says other frame reads memory too (spelled, spells, gives) goes =
    let same = one_spelling given.body spelled (Ok frame) spells reads in
    (server_gives acceptor_machine one_acceptor_reply (Ok frame) acceptor given says other next last memory too
    (subst (λ (r : Result SaslFrame Error). AcceptorGives acceptor_machine acceptor given r says next) same gives) goes).1

module _ (c : Case) (u : UpToOk c) where
  abbrev p : Premises
  p = record {
    login = c.login;
    provider = c.provider;
    password = c.password;
    salt = c.salt;
    count = c.count;
    mine = u.zeroth.nonce;
    theirs = u.first.nonce;
    is = c.is;
    holds = c.holds;
    fits = c.fits;
    mine_long = u.zeroth.long;
    theirs_long = u.first.long;
  }

  challenged : u.first.next ≡ answer.challenged_acceptor p
  challenged = one_next (ScramAcceptor c.provider Initial) u.first.next (answer.challenged_acceptor p)
      (event u.init u.first.nonce) u.first.says (Challenged (frame.challenge_body p)) (frame.init p)
      (spells_init c.login.version (is_bound c.login.channel)
      (client_first_with (header_of (login_header c.login)) c.login.user (base64_text u.zeroth.nonce)) c.login.hostname
      u.init c.is.hostname u.sent_init)
      (λ lacks. let same = sym u.challenged ∙ lacks in absurd (cc)) (λ lacks. absurd (cc)) u.first.steps
      (answer.challenges p)

  accepted : u.third.next ≡ answer.last_acceptor p
  accepted = one_next (answer.challenged_acceptor p) u.third.next (answer.last_acceptor p)
      (event u.response u.third.nonce) u.third.says (Concluded outcomes.Ok (frame.outcome_body p))
      (frames.Response (frame.message p)) (spells_response (frame.message p) u.response u.sent_response)
      (λ lacks. let same = sym u.accepted ∙ lacks in absurd (cc)) (λ lacks. absurd (cc))
      (subst (λ (acceptor : Acceptor). AcceptorSteps acceptor_machine acceptor (event u.response u.third.nonce)
      u.third.says u.third.next) challenged u.third.steps)
      (answer.accepts p u.third.nonce)

  pub acts_for : acceptor_acting u.third.next ≡ c.login.acts_for
  acts_for = ap acceptor_acting accepted
