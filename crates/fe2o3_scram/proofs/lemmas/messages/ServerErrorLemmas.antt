-- The reading of a server error.
use Rattle.std.proofs.Common.{◌≡◌, ℕ, List, ◌++◌, true, not, eqb, get_or, length, refl, sym, ◌∙◌, ap, subst, arith, codes, inl, inr}
use Rattle.std.specs.Prelude.{◌==◌, if◌then◌else◌, nat_lt}
use Rattle.std.specs.List.{list_all}
use Rattle.fe2o3_scram.specs.declared.scram_messages.server_error.ServerError.{ServerError}
use Rattle.fe2o3_scram.specs.declared.scram_messages.server_error.ServerError.TheVariants as errors
use Rattle.fe2o3_scram.specs.Laws.{OneServerError, ServerErrorsAreNoSignature, ServerErrorsAreReadAgain}
use Rattle.fe2o3_scram.specs.Texts.{Part}
use Rattle.fe2o3_scram.specs.ServerErrors.{IsErrorValue, NamesServerError, error_message, error_name}
use Rattle.fe2o3_scram.specs.declared.scram_messages.error.ScramErrorKind.TheVariants.{ServerSignatureMismatch}
use Rattle.fe2o3_scram.proofs.lemmas.messages.ExchangeLemmas.{only_part}
use Rattle.fe2o3_scram.proofs.lemmas.messages.ServerFinalLemmas.{no_verifier, text_refused}
use Rattle.fe2o3_scram.proofs.lemmas.texts.AsciiLemmas.{IsUtf8-literal}
use Rattle.fe2o3_scram.proofs.lemmas.texts.Base64Lemmas.{no_comma-test}
use Rattle.fe2o3_scram.proofs.lemmas.texts.PartsLemmas.{one_behind, one_part}

-- the error of each name, by the name's length, and its first letter where two names have one length
abbrev of_name : List ℕ → ServerError
of_name name = if length name == 16 then errors.InvalidEncoding
    else (if length name == 24 then errors.ExtensionsNotSupported
    else (if length name == 13 then errors.InvalidProof
    else (if length name == 27 then errors.ChannelBindingsDontMatch
    else (if length name == 35 then errors.ServerDoesSupportChannelBinding
    else (if length name == 29 then errors.ChannelBindingNotSupported
    else (if length name == 32 then errors.UnsupportedChannelBindingType
    else (if length name == 25 then errors.InvalidUsernameEncoding
    else (if length name == 11 then errors.OtherError
    else (if get_or name 0 0 == 117 then errors.UnknownUser else errors.NoResources)))))))))

is_of_name : (error : ServerError) → of_name (error_name error) ≡ error
is_of_name errors.InvalidEncoding = refl
is_of_name errors.ExtensionsNotSupported = refl
is_of_name errors.InvalidProof = refl
is_of_name errors.ChannelBindingsDontMatch = refl
is_of_name errors.ServerDoesSupportChannelBinding = refl
is_of_name errors.ChannelBindingNotSupported = refl
is_of_name errors.UnsupportedChannelBindingType = refl
is_of_name errors.UnknownUser = refl
is_of_name errors.InvalidUsernameEncoding = refl
is_of_name errors.NoResources = refl
is_of_name errors.OtherError = refl

one_name : (error other : ServerError) → error_name error ≡ error_name other → error ≡ other
one_name error other same = sym (is_of_name error) ∙ (ap of_name same ∙ is_of_name other)

one_error : (value : List ℕ) (error other : ServerError) → IsErrorValue value error → IsErrorValue value other
    → error ≡ other
one_error value error other (inl is) (inl too) = one_name error other (sym is ∙ too)
one_error value error other (inl is) (inr too) = absurd (too.1 error is)
one_error value error other (inr is) (inl too) = absurd (is.1 other too)
one_error value error other (inr is) (inr too) = is.0 ∙ sym too.0

pub one_server_error : OneServerError
one_server_error text error other is too =
    let same = one_behind text 0 (codes "e=") is.1.0 too.1.0 is.1.1 too.1.1 in
    one_error too.1.0 error other (subst (λ (value : List ℕ). IsErrorValue value error) same is.1.2) too.1.2

again : (error : ServerError) → list_all (λ byte. nat_lt byte 128) (error_message error) ≡ true
    → list_all (λ byte. not (eqb byte 44)) (error_message error) ≡ true → NamesServerError (error_message error) error
again error ascii plain = (
  IsUtf8-literal (error_message error) ascii,
  (
    error_name error,
    (_, only_part (error_message error) (no_comma-test (error_message error) plain), refl),
    inl refl,
  ),
)

pub errors_are_read_again : ServerErrorsAreReadAgain
errors_are_read_again errors.InvalidEncoding = again errors.InvalidEncoding refl refl
errors_are_read_again errors.ExtensionsNotSupported = again errors.ExtensionsNotSupported refl refl
errors_are_read_again errors.InvalidProof = again errors.InvalidProof refl refl
errors_are_read_again errors.ChannelBindingsDontMatch = again errors.ChannelBindingsDontMatch refl refl
errors_are_read_again errors.ServerDoesSupportChannelBinding =
    again errors.ServerDoesSupportChannelBinding refl refl
errors_are_read_again errors.ChannelBindingNotSupported = again errors.ChannelBindingNotSupported refl refl
errors_are_read_again errors.UnsupportedChannelBindingType = again errors.UnsupportedChannelBindingType refl refl
errors_are_read_again errors.UnknownUser = again errors.UnknownUser refl refl
errors_are_read_again errors.InvalidUsernameEncoding = again errors.InvalidUsernameEncoding refl refl
errors_are_read_again errors.NoResources = again errors.NoResources refl refl
errors_are_read_again errors.OtherError = again errors.OtherError refl refl

pub errors_are_no_signature : ServerErrorsAreNoSignature
errors_are_no_signature strict signature text error is =
    text_refused strict signature text ServerSignatureMismatch (no_verifier strict text is.0 (λ rest has.
    let same : codes "e=" ++ is.1.0 ≡ codes "v=" ++ rest =
    one_part text 0 (codes "e=" ++ is.1.0) (codes "v=" ++ rest) is.1.1 has in
    let letter : ◌≡◌ {A = ℕ} 101 118 = ap (λ (bytes : List ℕ). get_or bytes 0 0) same in
    omega (arith, letter)))

-- a text whose first part is no server error
pub no_error : (text : List ℕ) → ((value : List ℕ) → ¬ Part text 0 (codes "e=" ++ value)) → (error : ServerError)
    → ¬ NamesServerError text error
no_error text none error is = none is.1.0 is.1.1
