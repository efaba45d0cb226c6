-- The bodies of the worked examples: that they are there, and what they spell.
use Rattle.std.proofs.Common.{◌≡◌, ◌<◌, ◌≤◌, ◌+◌, ◌*◌, ◌^◌, ℕ, true≢false, List, [], ◌∷◌, ◌++◌, length, refl, sym, subst, arith, codes, Ok, append-nil}
use Rattle.std.specs.Prelude.{Option, Some, None, IsSome}
use Rattle.std.specs.List.{AllByRecursion}
use Rattle.std.proofs.lemmas.List.{length-append}
use Rattle.fe2o3_sasl_wire.specs.declared.amqp_types.SaslCode.TheVariants as outcomes
use Rattle.fe2o3_sasl_wire.specs.declared.sasl_frames.forms.Form.{Form}
use Rattle.fe2o3_sasl_wire.specs.declared.sasl_frames.forms.Form.TheVariants.{Eight, ThirtyTwo}
use Rattle.fe2o3_sasl_wire.specs.SaslFrames.{ReadsBody, canonical, shortest, HasTexts, SaslFrame}
use Rattle.fe2o3_sasl_wire.specs.private.Writing.{canonical_variable, items_of, width}
use Rattle.fe2o3_sasl_wire.specs.SaslFrames as frames
use Rattle.fe2o3_sasl_wire.proofs.lemmas.writing.CanonicalSpellsLemmas.{length-content}
use Rattle.fe2o3_sasl_wire.proofs.lemmas.writing.BodyPartsLemmas.{has_body}
use Rattle.fe2o3_sasl_wire.proofs.lemmas.frames.LawLemmas.{written_bodies_are_read}
use Rattle.fe2o3_scram.specs.Texts.{base64_text, joined}
use Rattle.fe2o3_sasl_core.specs.ClientHistory.{Answering, answer_at}
use Rattle.fe2o3_sasl.specs.examples.Examples.{client_bytes, server_bytes, client_nonce, server_nonce, both, salt, login, names, salted, values, binds, sends_init, sends_response, sends_ok, body_of}
use Rattle.fe2o3_sasl_core.specs.Bodies.{SpellsBody, carried}
use Rattle.fe2o3_scram.proofs.lemmas.texts.AsciiLemmas.{IsAscii-literal}
use Rattle.fe2o3_scram.proofs.lemmas.hashes.DigestLemmas.{length-hmac_of}
use Rattle.fe2o3_sasl.proofs.lemmas.examples.ExampleTextLemmas.{length-base64_text}

-- ---- a frame that is short enough has a body

some_body : (body : Option (List ℕ)) → IsSome body → body ≡ Some (carried [] (λ some. some) body)
some_body None is = absurd (true≢false (sym is))
some_body (Some body) is = refl

pub bodied : (frame : SaslFrame) → length (items_of frame) < 2 ^ 31 → canonical frame ≡ Some (body_of frame)
bodied frame short = some_body (canonical frame) (has_body frame (length (items_of frame)) refl (omega (arith, short)))

most_width : (form : Form) → width form ≤ 4
most_width Eight = omega arith
most_width ThirtyTwo = omega arith

pub short_variable : (short long : ℕ) (bytes : List ℕ) → length (canonical_variable short long bytes) ≤ length bytes + 5
short_variable short long bytes =
    omega (arith, length-content (shortest (length bytes)) bytes, most_width (shortest (length bytes)))

pub short_items : (text : List ℕ) → length text < 2 ^ 16 → length (canonical_variable 0xa0 0xb0 text ++ []) < 2 ^ 30
short_items text short = omega (
  arith,
  short,
  short_variable 0xa0 0xb0 text,
  length-append (canonical_variable 0xa0 0xb0 text) [],
)

pub challenge_bodied : (text : List ℕ) → length text < 2 ^ 16
    → canonical (frames.Challenge text) ≡ Some (body_of (frames.Challenge text))
challenge_bodied text short = bodied (frames.Challenge text) (omega (arith, short_items text short))

response_bodied : (text : List ℕ) → length text < 2 ^ 16
    → canonical (frames.Response text) ≡ Some (body_of (frames.Response text))
response_bodied text short = bodied (frames.Response text) (omega (arith, short_items text short))

outcome_bodied : (text : List ℕ) → length text < 2 ^ 16
    → canonical (frames.Outcome outcomes.Ok (Some text)) ≡ Some (body_of (frames.Outcome outcomes.Ok (Some text)))
outcome_bodied text short = bodied (frames.Outcome outcomes.Ok (Some text)) (omega (arith, short_items text short))

pub init_bodied : (bare : List ℕ) → length bare < 2 ^ 15
    → canonical (sends_init bare) ≡ Some (body_of (sends_init bare))
init_bodied bare short = bodied (sends_init bare) (omega
    (arith, short_items (codes "n,," ++ bare) (omega (arith, short))))

-- ---- lengths of texts

-- a part is short
abbrev pub Short : List ℕ → Type 0
Short part = length part ≤ 200

pub short_joined : (parts : List (List ℕ)) → AllByRecursion Short parts → length (joined parts) ≤ 201 * length parts
short_joined [] short = omega arith
short_joined (part ∷ []) short = let one = short.0 in omega (arith, one)
short_joined (part ∷ next ∷ more) short = let one = short.0 in
    omega (arith, one, length-append part (44 ∷ joined (next ∷ more)), short_joined (next ∷ more) short.1)

length-client_nonce : length client_nonce ≡ 44
length-client_nonce = length-base64_text client_bytes refl

pub length-both : length both ≡ 88
length-both = omega (
  arith,
  length-append client_nonce server_nonce,
  length-client_nonce,
  length-base64_text server_bytes refl,
)

pub short_names : (user : List ℕ) → length user ≤ 100 → AllByRecursion Short (names user)
short_names user short = (omega (arith, short), (omega (arith, length-client_nonce), tt))

pub short_salted : (bytes nonce : List ℕ) → length bytes ≡ 32 → length nonce ≤ 100
    → AllByRecursion Short (salted bytes nonce)
short_salted bytes nonce long short =
    (omega (arith, short), (omega (arith, length-base64_text bytes long), (omega arith, tt)))

pub short_values : (nonce : List ℕ) → length nonce ≤ 100 → AllByRecursion Short (values nonce)
short_values nonce short = short_salted salt nonce refl short

pub short_binds : (nonce : List ℕ) → length nonce ≤ 100 → AllByRecursion Short (binds nonce)
short_binds nonce short = (omega arith, (omega (arith, short), tt))

pub short_response : (without proof : List ℕ) → length without < 2 ^ 15 → length proof ≡ 32
    → length (joined (without ∷ (codes "p=" ++ base64_text proof) ∷ [])) < 2 ^ 16
short_response without proof short long =
    omega (arith, short, length-append without (44 ∷ (codes "p=" ++ base64_text proof)), length-base64_text proof long)

pub short_ok : (answer : Answering) → length (codes "v=" ++ base64_text (answer_at login answer).signature) < 2 ^ 16
short_ok answer =
    omega (arith, length-base64_text (answer_at login answer).signature (length-hmac_of login.version _ _))

pub response_sent : (without proof : List ℕ) → length without < 2 ^ 15 → length proof ≡ 32
    → canonical (sends_response without proof) ≡ Some (body_of (sends_response without proof))
response_sent without proof short long = response_bodied (joined (without ∷ (codes "p=" ++ base64_text proof) ∷ []))
    (short_response without proof short long)

pub ok_sent : (answer : Answering) → canonical (sends_ok answer) ≡ Some (body_of (sends_ok answer))
ok_sent answer = outcome_bodied (codes "v=" ++ base64_text (answer_at login answer).signature) (short_ok answer)

-- ---- frames that are written out

pub mechanisms_sent : canonical (frames.Mechanisms (codes "SCRAM-SHA-256" ∷ []))
    ≡ Some (body_of (frames.Mechanisms (codes "SCRAM-SHA-256" ∷ [])))
unfolding canonical
mechanisms_sent = refl

-- ---- what a body spells

pub spells_body : (frame : SaslFrame) → HasTexts frame → canonical frame ≡ Some (body_of frame)
    → SpellsBody (body_of frame) (Ok frame)
spells_body frame texts sent =
    let body = body_of frame in (
      length body,
      subst (λ (some : List ℕ). ReadsBody some (Ok (frame, length body))) (append-nil body)
          (written_bodies_are_read frame body [] (Ok (frame, length body)) texts sent).0,
    )

pub init_texts : (bare : List ℕ) → HasTexts (sends_init bare)
init_texts bare = (IsAscii-literal (codes "SCRAM-SHA-256") refl, (tt, (tt, tt)))

pub mechanisms_texts : HasTexts (frames.Mechanisms (codes "SCRAM-SHA-256" ∷ []))
mechanisms_texts = ((IsAscii-literal (codes "SCRAM-SHA-256") refl, tt), tt)
