-- Reading JSON from bytes that may be no text.
use Rattle.std.proofs.Common.{◌≡◌, ℕ, List, Bool, true, false, if◌then◌else◌, Option, Some, None, IsUtf8, refl, ap, sym, ◌∙◌}
use Rattle.std.specs.Str.{is_utf8}
use Rattle.std.proofs.lemmas.Str.{IsUtf8-from_is_utf8, is_utf8-from_IsUtf8}
use Rattle.serde_json.specs.Data.{Data}
use Rattle.serde_json.specs.Read.{read}
use Rattle.esm_model.specs.Json.{read_json}

json_if : (b : Bool) (o : Option Data) (bs : List ℕ) → is_utf8 bs ≡ b → (if b then o else None) ≡ (if is_utf8 bs then o else None)
json_if b o bs e = ap (λ c. if c then o else None) (sym e)

pub json_read : (bs : List ℕ) (d : Data) → IsUtf8 bs → read bs ≡ Some d → Some d ≡ read_json bs
json_read bs d text h = sym h ∙ json_if true (read bs) bs (is_utf8-from_IsUtf8 bs text)

refused_by : (bs : List ℕ) (b : Bool) → is_utf8 bs ≡ b → (IsUtf8 bs → read bs ≡ None) → None ≡ read_json bs
refused_by bs true e h = sym (h (IsUtf8-from_is_utf8 bs e)) ∙ json_if true (read bs) bs e
refused_by bs false e h = json_if false (read bs) bs e

pub json_refused : (bs : List ℕ) → (IsUtf8 bs → read bs ≡ None) → None ≡ read_json bs
json_refused bs h = refused_by bs (is_utf8 bs) refl h
