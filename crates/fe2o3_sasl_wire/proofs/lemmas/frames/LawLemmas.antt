-- The laws of the grammar.
use Rattle.std.proofs.Common.{◌≡◌, ℕ, List, [], ◌++◌, length, Ok, refl, sym, subst, arith, inl, inr}
use Rattle.std.proofs.lemmas.List.{take_at, length-append}
use Rattle.fe2o3_sasl_wire.specs.declared.protocol_header.ProtocolHeader.{ProtocolHeader}
use Rattle.fe2o3_sasl_wire.specs.declared.protocol_header.ProtocolId.{ProtocolId}
use Rattle.fe2o3_sasl_wire.specs.declared.protocol_header.ProtocolId.TheVariants.{Amqp, Tls, Sasl}
use Rattle.fe2o3_sasl_wire.specs.ProtocolHeader.{id_byte, header_bytes}
use Rattle.fe2o3_sasl_wire.specs.private.Sameness.{same_code, same_frame_decides}
use Rattle.fe2o3_sasl_wire.specs.SaslFrames.{SaslFrame, Mechanisms, Init, Challenge, Response, Outcome, Symbol, Null, Spells, Begins}
use Rattle.fe2o3_sasl_wire.specs.Laws.{SpellingsHaveOneFrame, WrittenBodiesAreRead, BodiesHaveOneAnswer, SpelledMechanismsAreAscii, EqualValuesAreOne}
use Rattle.fe2o3_sasl_wire.proofs.lemmas.frames.PrefixLemmas.{no_spelling_begins_another}
use Rattle.fe2o3_sasl_wire.proofs.lemmas.frames.BodyAnswerLemmas.{one_answer, some_answer}
use Rattle.fe2o3_sasl_wire.proofs.lemmas.writing.CanonicalSpellsLemmas.{canonical_spells}

-- two frames that one body spells are one: the law of this name
pub spellings_have_one_frame : SpellingsHaveOneFrame
spellings_have_one_frame left right body s t = (no_spelling_begins_another left right body body [] [] s t refl).0

-- a spelling followed by anything begins it
spelling_begins : (frame : SaslFrame) (body rest : List ℕ) → Spells frame body
    → Begins (body ++ rest) frame (length body)
spelling_begins frame body rest s = record {
  within = omega (arith, length-append body rest);
  spelled = subst (Spells frame) (sym (take_at body rest (length body) refl)) s;
}

-- what is written is read back, whatever follows it: the law of this name
pub written_bodies_are_read : WrittenBodiesAreRead
written_bodies_are_read frame body rest answer texts e =
    let read = spelling_begins frame body rest (canonical_spells frame body texts e) in
    (read, λ other. one_answer (body ++ rest) answer (Ok (frame, length body)) other read)

-- each list of bytes is read in exactly one way: the law of this name
pub bodies_have_one_answer : BodiesHaveOneAnswer
bodies_have_one_answer body fits =
    let some = some_answer body fits in
    (some.0, some.1, λ other reads. one_answer body other some.0 reads some.1)

not_null : (mechanism : List ℕ) → Symbol mechanism ≡ Null → ⊥
not_null mechanism e = cc

-- the mechanism of an init that a body spells is ASCII: the law of this name
pub spelled_mechanisms_are_ascii : SpelledMechanismsAreAscii
spelled_mechanisms_are_ascii (Mechanisms names) body s = tt
spelled_mechanisms_are_ascii (Challenge bytes) body s = tt
spelled_mechanisms_are_ascii (Response bytes) body s = tt
spelled_mechanisms_are_ascii (Outcome code bytes) body s = tt
spelled_mechanisms_are_ascii (Init mechanism response hostname) body s =
    elim s.each [ inl none ↦ absurd (not_null mechanism none.0.0) | inr some ↦ some.5.0 ]

same_id : (left right : ProtocolId) → id_byte left ≡ id_byte right → left ≡ right
same_id Amqp Amqp same = refl
same_id Tls Tls same = refl
same_id Sasl Sasl same = refl
same_id _ _ same = cc

same_header : (left right : ProtocolHeader) → header_bytes left ≡ header_bytes right → left ≡ right
same_header left right same =
    let id = same_id left.id right.id cc in
    let major : left.major ≡ right.major = cc in
    let minor : left.minor ≡ right.minor = cc in
    let revision : left.revision ≡ right.revision = cc in
    λ i. record { id = id i; major = major i; minor = minor i; revision = revision i }

-- frames, codes, headers and protocols that are equal by `==` are one: the law of this name
pub equal_values_are_one : EqualValuesAreOne
equal_values_are_one = (same_frame_decides, same_code, same_header, same_id)
