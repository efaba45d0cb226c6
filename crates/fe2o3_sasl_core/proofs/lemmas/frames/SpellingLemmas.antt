-- What a canonical body spells, and what a body spells at most.
use Rattle.std.proofs.Common.{◌≡◌, ◌⊎◌, inl, inr, ℕ, Bool, true, false, Option, List, [], ◌∷◌, Some, None, length, refl, sym, ap, ◌∙◌, subst, Result, Ok, Err}
use Rattle.std.specs.Prelude.{codes, IsAscii}
use Rattle.std.specs.Str.{IsUtf8}
use Rattle.std.proofs.lemmas.List.{append-nil}
use Rattle.fe2o3_sasl_wire.specs.declared.amqp_types.SaslCode.{SaslCode}
use Rattle.fe2o3_sasl_wire.specs.declared.sasl_frames.error.Error.{Error}
use Rattle.fe2o3_sasl_wire.specs.SaslFrames.{ReadsBody, canonical, HasTexts, SaslFrame}
use Rattle.fe2o3_sasl_wire.specs.SaslFrames as frames
use Rattle.fe2o3_sasl_wire.proofs.lemmas.frames.BodyAnswerLemmas.{begins_once}
use Rattle.fe2o3_sasl_wire.proofs.lemmas.frames.LawLemmas.{written_bodies_are_read}
use Rattle.fe2o3_sasl_wire.proofs.lemmas.reading.TextLemmas.{IsAscii-from_is_ascii}
use Rattle.fe2o3_scram.specs.declared.hmac.ScramVersion.{ScramVersion}
use Rattle.fe2o3_scram.specs.declared.hmac.ScramVersion.TheVariants.{Sha1, Sha256, Sha512}
use Rattle.fe2o3_scram.specs.ChannelBinding.{mechanism_of}
use Rattle.fe2o3_scram.specs.Hmac.{mechanism_name}
use Rattle.fe2o3_sasl_core.specs.Runs.{SendsCanonical}
use Rattle.fe2o3_sasl_core.specs.Bodies.{SpellsBody, carried}

-- a canonical body spells its frame
pub spells_canonical : (frame : SaslFrame) (body : List ℕ) → HasTexts frame → canonical frame ≡ Some body
    → SpellsBody body (Ok frame)
spells_canonical frame body texts is = (
  length body,
  subst (λ (bytes : List ℕ). ReadsBody bytes (Ok (frame, length body))) (append-nil body)
      (written_bodies_are_read frame body [] (Ok (frame, length body)) texts is).0,
)

-- a body spells one thing
pub one_spelling : (body : List ℕ) (spelled other : Result SaslFrame Error) → SpellsBody body spelled
    → SpellsBody body other → spelled ≡ other
one_spelling body (Ok frame) (Ok other) is too = ap (λ (x : SaslFrame). Ok x)
    (begins_once body frame other is.0 too.0 is.1 too.1).0
one_spelling body (Ok frame) (Err fault) is too = absurd (too.1 frame is.0 is.1)
one_spelling body (Err fault) (Ok frame) is too = absurd (is.1 frame too.0 too.1)
one_spelling body (Err fault) (Err other) is too = ap (λ (x : Error). Err x) (is.0 ∙ sym too.0)

same_frame : (frame other : SaslFrame) → ◌≡◌ {A = Result SaslFrame Error} (Ok frame) (Ok other) → frame ≡ other
same_frame frame other e = cc

-- one frame
pub one_spelled_frame : (body : List ℕ) (frame other : SaslFrame) → SpellsBody body (Ok frame)
    → SpellsBody body (Ok other) → frame ≡ other
one_spelled_frame body frame other is too = same_frame frame other (one_spelling body (Ok frame) (Ok other) is too)

-- a reply that carries a frame is another than these
pub carried_not : {A : Type 0} (too_large : A) (says : List ℕ → A) (body : Option (List ℕ)) (reply : A)
    → (too_large ≡ reply → ⊥) → ((body : List ℕ) → says body ≡ reply → ⊥) → carried too_large says body ≡ reply → ⊥
carried_not too_large says None reply large none is = large is
carried_not too_large says (Some body) reply large none is = none body is

-- what was sent: the reply in its body, or the fault that leaves the state
pub sent : {S A : Type 0} (too_large : A) (says : List ℕ → A) (body : Option (List ℕ)) (state moved : S) (reply : A)
    (next : S) → SendsCanonical too_large says body state moved reply next →
    (reply ≡ carried too_large says body) × (((reply ≡ too_large) × (next ≡ state))
    ⊎ ((bytes : List ℕ) × (reply ≡ says bytes) × (next ≡ moved)))
sent too_large says None state moved reply next h = (h.0, inl h)
sent too_large says (Some body) state moved reply next h = (h.0, inr (body, h.0, h.1))

-- the name of a mechanism is ASCII
pub IsAscii-mechanism_name : (version : ScramVersion) → IsAscii (mechanism_name version)
IsAscii-mechanism_name Sha1 = IsAscii-from_is_ascii (codes "SCRAM-SHA-1") refl
IsAscii-mechanism_name Sha256 = IsAscii-from_is_ascii (codes "SCRAM-SHA-256") refl
IsAscii-mechanism_name Sha512 = IsAscii-from_is_ascii (codes "SCRAM-SHA-512") refl

-- also with channel binding
pub IsAscii-mechanism_of : (version : ScramVersion) (bound : Bool) → IsAscii (mechanism_of version bound)
IsAscii-mechanism_of version false = IsAscii-mechanism_name version
IsAscii-mechanism_of Sha1 true = IsAscii-from_is_ascii (codes "SCRAM-SHA-1-PLUS") refl
IsAscii-mechanism_of Sha256 true = IsAscii-from_is_ascii (codes "SCRAM-SHA-256-PLUS") refl
IsAscii-mechanism_of Sha512 true = IsAscii-from_is_ascii (codes "SCRAM-SHA-512-PLUS") refl

-- the five frames of a run, from their bodies
pub spells_mechanisms : (version : ScramVersion) (bound : Bool) (body : List ℕ)
    → canonical (frames.Mechanisms (mechanism_of version bound ∷ [])) ≡ Some body
    → SpellsBody body (Ok (frames.Mechanisms (mechanism_of version bound ∷ [])))
spells_mechanisms version bound body is = spells_canonical (frames.Mechanisms (mechanism_of version bound ∷ [])) body
    ((IsAscii-mechanism_of version bound, tt), tt) is

pub spells_init : (version : ScramVersion) (bound : Bool) (text : List ℕ) (hostname : Option (List ℕ)) (body : List ℕ)
    → ((host : List ℕ) → hostname ≡ Some host → IsUtf8 host)
    → canonical (frames.Init (mechanism_of version bound) (Some text) hostname) ≡ Some body
    → SpellsBody body (Ok (frames.Init (mechanism_of version bound) (Some text) hostname))
spells_init version bound text None body utf8 is =
    spells_canonical (frames.Init (mechanism_of version bound) (Some text) None) body
    (IsAscii-mechanism_of version bound, (tt, (tt, tt))) is
spells_init version bound text (Some host) body utf8 is =
    spells_canonical (frames.Init (mechanism_of version bound) (Some text) (Some host)) body
    (IsAscii-mechanism_of version bound, (tt, (utf8 host refl, tt))) is

pub spells_challenge : (text body : List ℕ) → canonical (frames.Challenge text) ≡ Some body
    → SpellsBody body (Ok (frames.Challenge text))
spells_challenge text body is = spells_canonical (frames.Challenge text) body (tt, tt) is

pub spells_response : (text body : List ℕ) → canonical (frames.Response text) ≡ Some body
    → SpellsBody body (Ok (frames.Response text))
spells_response text body is = spells_canonical (frames.Response text) body (tt, tt) is

pub spells_outcome : (code : SaslCode) (text body : List ℕ) → canonical (frames.Outcome code (Some text)) ≡ Some body
    → SpellsBody body (Ok (frames.Outcome code (Some text)))
spells_outcome code text body is = spells_canonical (frames.Outcome code (Some text)) body (tt, (tt, tt)) is
