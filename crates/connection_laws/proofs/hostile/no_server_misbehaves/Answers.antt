use Rattle.connection_laws.proofs.lemmas.HostileLemmas as lemma
use Rattle.connection_laws.proofs.hostile.no_server_misbehaves.Goals as goal

pub returns-clause-ignores_init : goal.returns-clause-ignores_init
returns-clause-ignores_init g c = lemma.no_init_is_ignored g.A.SaslAcceptor.machine

pub returns-clause-ignores_response : goal.returns-clause-ignores_response
returns-clause-ignores_response g c = lemma.no_response_is_ignored g.A.SaslAcceptor.machine

pub returns-clause-answers_other : goal.returns-clause-answers_other
returns-clause-answers_other g c = lemma.none_answers_other g.A.SaslAcceptor.machine

pub returns-clause-answers_header : goal.returns-clause-answers_header
returns-clause-answers_header g c = lemma.none_answers_header g.A.SaslAcceptor.machine

pub returns-clause-has_short_frame : goal.returns-clause-has_short_frame
returns-clause-has_short_frame g c = lemma.no_frame_is_short

pub returns-clause-marks_nothing : goal.returns-clause-marks_nothing
returns-clause-marks_nothing g c = lemma.none_marks_nothing g.A.SaslAcceptor.names g.B.SaslAcceptor.names
    g.A.SaslAcceptor.machine g.B.SaslAcceptor.machine

pub returns-clause-has_two_nonces : goal.returns-clause-has_two_nonces
returns-clause-has_two_nonces g c = lemma.no_byte_has_two_nonces

pub returns-clause-reuses_nonce : goal.returns-clause-reuses_nonce
returns-clause-reuses_nonce g c = lemma.none_reuses_a_nonce g.A.SaslAcceptor.machine

pub returns-clause-hides_offer : goal.returns-clause-hides_offer
returns-clause-hides_offer g c = lemma.none_hides_its_offer g.A.SaslAcceptor.names g.A.SaslAcceptor.machine

pub returns-clause-sends_beyond_offer : goal.returns-clause-sends_beyond_offer
returns-clause-sends_beyond_offer g c = lemma.none_sends_beyond_its_offer g.A.SaslAcceptor.names
    g.A.SaslAcceptor.machine

pub returns-clause-sends_other : goal.returns-clause-sends_other
returns-clause-sends_other g c = lemma.none_sends_other g.A.SaslAcceptor.machine
