-- Two sides of which neither is strict, and what someone on the way can do to them.
use Rattle.std.proofs.Common.{◌<◌, ◌^◌, ℕ, false, List, [], ◌∷◌, ◌++◌, refl, ap, arith, codes, append_assoc, Ok}
use Rattle.std.specs.Fmt.{decimal}
use Rattle.std.specs.Str.{IsUtf8}
use Rattle.std.proofs.lemmas.Str.{IsUtf8-append}
use Rattle.fe2o3_scram.specs.ChannelBinding.{ClientHeader, cbind_input}
use Rattle.fe2o3_scram.specs.ClientFinal.{ClientFinal, NamesClientFinal, ReadsFinalText, client_final_of, without_proof_with}
use Rattle.fe2o3_scram.specs.ClientSecret.{Password, no_limit}
use Rattle.fe2o3_scram.specs.Credentials.{Record}
use Rattle.fe2o3_scram.specs.examples.MovedChannels.{MovedChannelsPass, MovedFirstsAreRefused, lax_client, moved_first, moved_without}
use Rattle.fe2o3_scram.specs.ServerFirst.{HasCount, NamesServerFirst, ServerFirst, client_of, server_first_of}
use Rattle.fe2o3_scram.specs.Texts.{HasBase64, NoComma, Part, Parts, base64_text}
use Rattle.fe2o3_scram.proofs.lemmas.messages.ClientFinalLemmas.{text_read}
use Rattle.fe2o3_scram.proofs.lemmas.messages.ExchangeLemmas.{IsCount-decimal, no_comma-decimal, not_extended, only_part, part_of, two_parts}
use Rattle.fe2o3_scram.proofs.lemmas.messages.HeaderLemmas.{IsBytes-cbind_input}
use Rattle.fe2o3_scram.proofs.lemmas.messages.ServerFirstLemmas.{not_too_large, not_too_small, same_nonce, secret_holds, values_read}
use Rattle.fe2o3_scram.proofs.lemmas.messages.StrictSideLemmas.{none_after_count, strict_of_channel}
use Rattle.fe2o3_scram.proofs.lemmas.texts.AsciiLemmas.{IsUtf8-base64_text, utf8_behind}
use Rattle.fe2o3_scram.proofs.lemmas.texts.Base64Lemmas.{no_comma-base64_text}
use Rattle.fe2o3_scram.proofs.lemmas.texts.JoinedTextLemmas.{three_joined, two_joined}

plain_binding : (header : ClientHeader) → NoComma (codes "c=" ++ base64_text (cbind_input header))
plain_binding header = part_of (codes "c=") (base64_text (cbind_input header)) refl (no_comma-base64_text (cbind_input header))

without_parts : (header : ClientHeader) (both : List ℕ) → NoComma both → Parts (without_proof_with header both)
    ((codes "c=" ++ base64_text (cbind_input header)) ∷ (codes "r=" ++ both) ∷ [])
without_parts header both plain = two_parts (codes "c=" ++ base64_text (cbind_input header)) (codes "r=" ++ both)
    (plain_binding header) (part_of (codes "r=") both refl plain)

without_utf8 : (header : ClientHeader) (both : List ℕ) → IsUtf8 both → IsUtf8 (without_proof_with header both)
without_utf8 header both utf8 = IsUtf8-append (codes "c=" ++ base64_text (cbind_input header)) (codes ",r=" ++ both)
    (utf8_behind (codes "c=") (base64_text (cbind_input header)) refl (IsUtf8-base64_text (cbind_input header)))
    (utf8_behind (codes ",r=") both refl utf8)

-- a message that names its values is read by a server that is not strict
read : (header : ClientHeader) (nonce text : List ℕ) (final : ClientFinal) → IsUtf8 text
    → NamesClientFinal header nonce text final → ReadsFinalText header false nonce text (Ok final)
read header nonce text final utf8 names = text_read header false nonce text utf8 final
    (λ none. none _ names.binding.1, (λ none. none _ names.binding, (λ other. other names.binding, tt)))
    (λ none. none _ names.nonce, (λ other. other names.nonce, tt))
    (λ none. none _ _ names.proof.1, (λ none. none final names.proof, (λ wrong. wrong.0, tt))) names

-- the parts of the server's message with the two attributes after it
moved_parts : (both : List ℕ) (stored : Record) (theirs : ClientHeader) → NoComma both → stored.count < 2 ^ 32
    → Parts (moved_first (server_first_of both stored) theirs both)
    ((codes "r=" ++ both) ∷ (codes "s=" ++ base64_text stored.salt) ∷ (codes "i=" ++ decimal stored.count)
    ∷ (codes "c=" ++ base64_text (cbind_input theirs)) ∷ (codes "r=" ++ both) ∷ [])
moved_parts both stored theirs plain small =
    let wide : stored.count < 2 ^ 64 = omega (arith, small) in
    let full = codes "r=" ++ both in
    let salt = codes "s=" ++ base64_text stored.salt in
    let count = codes "i=" ++ decimal stored.count in
    let first = three_joined full salt count (full ∷ []) (salt ∷ []) (count ∷ [])
    (only_part full (part_of (codes "r=") both refl plain))
    (only_part salt (part_of (codes "s=") (base64_text stored.salt) refl (no_comma-base64_text stored.salt)))
    (only_part count (part_of (codes "i=") (decimal stored.count) refl (no_comma-decimal stored.count wide))) in
    two_joined (server_first_of both stored) (without_proof_with theirs both) _ _ first (without_parts theirs both plain)

pub moved_firsts_are_refused : MovedFirstsAreRefused
moved_firsts_are_refused secret limits strict own both ours theirs stored first has plain small reads =
    none_after_count (client_of own secret limits ours strict) (moved_first (server_first_of both stored) theirs both) first
    (strict_of_channel ours strict has) reads (
      3,
      codes "c=" ++ base64_text (cbind_input theirs),
      omega (arith),
      (_, moved_parts both stored theirs plain small, refl),
      refl,
    )

pub moved_channels_pass : MovedChannelsPass
moved_channels_pass password own both bare ours theirs proof stored normal begins plain utf8 bytes proved salted some
    small =
    let text = moved_first (server_first_of both stored) theirs both in
    let parts = moved_parts both stored theirs plain small in
    let nonce : Part text 0 (codes "r=" ++ both) = (_, parts, refl) in
    let has_salt : HasBase64 text 1 (codes "s=") stored.salt = (salted, (_, parts, refl)) in
    let digits : Part text 2 (codes "i=" ++ decimal stored.count) = (_, parts, refl) in
    let has_count : HasCount text stored.count = (decimal stored.count, digits, IsCount-decimal stored.count some small) in
    let named : ServerFirst = record { nonce = both; salt = stored.salt; count = stored.count } in
    let names : NamesServerFirst text named = record { nonce = nonce; salt = has_salt; count = has_count } in
    let response = client_final_of (moved_without ours theirs both) proof in
    let last = part_of (codes "p=") (base64_text proof) refl (no_comma-base64_text proof) in
    let final : ClientFinal = record { without = moved_without ours theirs both; proof = proof } in
    let before = two_joined (without_proof_with theirs both) (without_proof_with ours both) _ _
    (without_parts theirs both plain) (without_parts ours both plain) in
    let all = two_joined (moved_without ours theirs both) (codes "p=" ++ base64_text proof) _ _ before
    (only_part (codes "p=" ++ base64_text proof) last) in
    let response_utf8 : IsUtf8 response = IsUtf8-append (moved_without ours theirs both) (codes ",p=" ++ base64_text proof)
    (IsUtf8-append (without_proof_with theirs both) (44 ∷ without_proof_with ours both)
    (without_utf8 theirs both utf8) (utf8_behind (codes ",") (without_proof_with ours both) refl
    (without_utf8 ours both utf8)))
    (utf8_behind (codes ",p=") (base64_text proof) refl (IsUtf8-base64_text proof)) in
    record {
      client = values_read (lax_client password own ours) text named (
        λ few. few (codes "i=" ++ decimal stored.count) digits,
        (
          not_extended text both nonce,
          (λ none. none both nonce, (same_nonce text own both begins.0 nonce begins.1, tt)),
        ),
      )
          (λ none. none (base64_text stored.salt) has_salt.1, (λ none. none stored.salt has_salt, tt)) (
            λ none. none (decimal stored.count) digits,
            (
              λ none. none stored.count has_count,
              (
                not_too_small text 1 stored.count has_count some,
                (not_too_large text no_limit stored.count has_count (omega (arith, small)), tt),
              ),
            ),
          )
          (λ wrong. wrong.0, (λ wrong. wrong.0, (λ wrong. wrong.0, tt)))
          (secret_holds (Password password) text named names normal) names;
      server = read theirs both response final response_utf8 (record {
        binding = (IsBytes-cbind_input theirs bytes, (_, all, refl));
        nonce = (_, all, refl);
        proof = (proved, (last, refl));
      });
      one = ap (λ (z : List ℕ). bare ++ 44 ∷ z) (append_assoc (server_first_of both stored)
          (44 ∷ without_proof_with theirs both) (44 ∷ without_proof_with ours both));
    }
