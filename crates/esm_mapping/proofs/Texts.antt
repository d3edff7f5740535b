-- What a text names, from how it reads and how its fields are judged.
use Rattle.std.proofs.Common.{◌≡◌, ◌∙◌, ℕ, List, true, false, true≢false, refl, sym, ap, Option, Some, None, Result, Ok, Err, is_some}
use Rattle.std.specs.Prelude.{option_and_then, if◌then◌else◌}
use Rattle.std.specs.Result.{result_err, result_ok}
use Rattle.serde_json.specs.Data.{Data}
use Rattle.serde_json.specs.Read.{read}
use Rattle.esm_model.specs.declared.config.Config.{Config}
use Rattle.esm_config.specs.declared.param.Param.{Param}
use Rattle.esm_config.specs.declared.param.Param.TheVariants.{Body, EventSourceArn, StartingPosition}
use Rattle.esm_mapping.specs.Expected.{config_as, is_expected, IsGivenAs, judged_as, refused_as}
use Rattle.esm_mapping.specs.Named.{IsDisabledText, IsExpected, IsOfText}
use Rattle.esm_mapping.specs.Refused.{kind_refused, latest_refused, refused_field, refused_in, refused_or_kind}
use Rattle.esm_mapping.specs.Starts.{is_latest}
use Rattle.esm_mapping.specs.declared.expected.Expected.{Expected}
use Rattle.esm_mapping.proofs.Running.{may_run_as}

-- a value that the table accepts is refused for no field of the table
accepted_by : (e : Expected) (d : Data) (r : Result Config Param) (c : Config) → judged_as e d ≡ r → config_as e d ≡ Some c → refused_as e d ≡ None
accepted_by e d (Ok x) c is fields = ap result_err is
accepted_by e d (Err p) c is fields = absurd (true≢false (ap is_some (sym fields ∙ ap result_ok is)))

accepted : (e : Expected) (d : Data) (c : Config) → config_as e d ≡ Some c → refused_as e d ≡ None
accepted e d c fields = accepted_by e d (judged_as e d) c refl fields

field_of_value : (e : Expected) (text : List ℕ) (d : Data) (o : Option Param) → read text ≡ Some d → refused_as e d ≡ o → refused_field e text ≡ refused_or_kind e d o
field_of_value e text d o is refused = ap (refused_in e) is ∙ ap (refused_or_kind e d) refused

field_of_config : (e : Expected) (text : List ℕ) (d : Data) (c : Config) → read text ≡ Some d → config_as e d ≡ Some c → refused_field e text ≡ kind_refused e c
field_of_config e text d c is fields = field_of_value e text d None is (accepted e d c fields) ∙ ap (option_and_then (kind_refused e)) fields

-- refusals

pub refused_body : (e : Expected) (text : List ℕ) → read text ≡ None → refused_field e text ≡ Some Body
refused_body e text none = ap (refused_in e) none

pub refused_by_table : (e : Expected) (text : List ℕ) (d : Data) (param : Param) → read text ≡ Some d → refused_as e d ≡ Some param → refused_field e text ≡ Some param
refused_by_table e text d param is refused = field_of_value e text d (Some param) is refused

pub refused_kind : (e : Expected) (text : List ℕ) (d : Data) (c : Config) → read text ≡ Some d → config_as e d ≡ Some c → is_expected e c.kind ≡ false
    → refused_field e text ≡ Some EventSourceArn
refused_kind e text d c is fields other = field_of_config e text d c is fields ∙ ap (λ b. if b then latest_refused c else Some EventSourceArn) other

-- of the expected kind
field_of_expected : (e : Expected) (text : List ℕ) (d : Data) (c : Config) → read text ≡ Some d → config_as e d ≡ Some c → is_expected e c.kind ≡ true
    → refused_field e text ≡ latest_refused c
field_of_expected e text d c is fields kind = field_of_config e text d c is fields ∙ ap (λ b. if b then latest_refused c else Some EventSourceArn) kind

pub refused_latest : (e : Expected) (text : List ℕ) (d : Data) (c : Config) → read text ≡ Some d → config_as e d ≡ Some c → is_expected e c.kind ≡ true → is_latest c.start ≡ true
    → refused_field e text ≡ Some StartingPosition
refused_latest e text d c is fields kind latest = field_of_expected e text d c is fields kind ∙ ap (λ b. if b then Some StartingPosition else None) latest

-- the mapping

pub of_text : (e : Expected) (text : List ℕ) (d : Data) (c : Config) → read text ≡ Some d → config_as e d ≡ Some c → is_expected e c.kind ≡ true → is_latest c.start ≡ false
    → IsOfText e text (record { config = c; start = c.start })
of_text e text d c is fields kind known = record {
  value = d;
  reads = is;
  accepted = field_of_expected e text d c is fields kind ∙ ap (λ b. if b then Some StartingPosition else None) known;
  fields = fields;
  kind = kind;
  start_is = refl;
}

pub disabled_text : (e : Expected) (text : List ℕ) (d : Data) (c : Config) → read text ≡ Some d → config_as e d ≡ Some c → is_expected e c.kind ≡ true → is_latest c.start ≡ false
    → c.enabled ≡ false → IsDisabledText e text
disabled_text e text d c is fields kind known disabled = (record { config = c; start = c.start }, of_text e text d c is fields kind known, disabled)

pub is_named : (e : Expected) (text : List ℕ) (d : Data) (c : Config) → read text ≡ Some d → config_as e d ≡ Some c → IsGivenAs e c → is_expected e c.kind ≡ true
    → is_latest c.start ≡ false → c.enabled ≡ true → IsExpected e text (record { config = c; start = c.start })
is_named e text d c is fields given kind known enabled = (of_text e text d c is fields kind known, may_run_as e c c.start given enabled known)
