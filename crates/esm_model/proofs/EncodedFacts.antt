-- A base64 text is that of the bytes that it decodes to.
use Rattle.std.specs.Prelude.{◌≡◌, ℕ, List, [], Some, Ok, Err, refl, length, option_map, unwrap_or}
use Rattle.std.specs.declared.result.Result.{Result}
use Rattle.std.specs.Result.{result_ok}
use Rattle.std.proofs.Common.{sym, ap, ◌∙◌}
use Rattle.std.proofs.lemmas.Option.{none-some}
use Rattle.base64.specs.declared.decode.DecodeError.{DecodeError}
use Rattle.base64.specs.Engines.{standard}
use Rattle.base64.specs.GeneralPurpose.{IsBytes, decode_of, encode_of}
use Rattle.base64.proofs.EngineFacts.{decode_of_strict}
use Rattle.esm_model.specs.Records.{encoded_in, IsBase64Of}

by_result : (text : List ℕ) (n : ℕ) (r : Result (List ℕ) DecodeError) → IsBytes text → decode_of standard text ≡ r → option_map length (result_ok r) ≡ Some n → IsBase64Of n text
by_result text n (Ok b) bytes eq some =
    let same : encoded_in text ≡ b = ap (λ r. unwrap_or (result_ok r) []) eq in
    (eq ∙ ap (λ x. Ok x) (sym same), decode_of_strict standard text b (refl, refl) bytes eq ∙ ap (λ x. encode_of standard x) (sym same), ap length same ∙ ap (λ o. unwrap_or o 0) some)
by_result text n (Err e) bytes eq some = absurd (none-some n some)

pub is_base64 : (text : List ℕ) (n : ℕ) → IsBytes text → option_map length (result_ok (decode_of standard text)) ≡ Some n → IsBase64Of n text
is_base64 text n bytes some = by_result text n (decode_of standard text) bytes refl some
