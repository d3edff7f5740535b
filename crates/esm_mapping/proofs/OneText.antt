-- A text names one mapping, or there is one reason why it names none.
use Rattle.std.proofs.Common.{◌≡◌, ◌∙◌, ℕ, List, Bool, true, false, refl, sym, ap, Option, Some, None}
use Rattle.std.specs.Prelude.{◌≢◌, option_and_then}
use Rattle.serde_json.specs.Read.{read}
use Rattle.esm_model.specs.declared.config.Config.{Config}
use Rattle.esm_model.specs.declared.config.Start.{Start}
use Rattle.esm_config.specs.declared.param.Param.{Param}
use Rattle.esm_mapping.specs.Expected.{config_as}
use Rattle.esm_mapping.specs.Named.{IsExpected, IsOfText, WhyNotExpected}
use Rattle.esm_mapping.specs.Refused.{refused_field}
use Rattle.esm_mapping.specs.declared.expected.Expected.{Expected}
use Rattle.esm_mapping.specs.declared.named.MappingError.{MappingError}
use Rattle.esm_mapping.specs.declared.named.MappingError.TheVariants as error
use Rattle.esm_mapping.specs.declared.named.NamedMapping.{NamedMapping}

-- two mappings of one text

same_config : (o : Option Config) (a b : Config) → o ≡ Some a → o ≡ Some b → a ≡ b
same_config o a b one other = cc

abbrev config_in : Expected → List ℕ → Option Config
config_in e text = option_and_then (config_as e) (read text)

config_read : (e : Expected) (text : List ℕ) (named : NamedMapping) → IsOfText e text named → config_in e text ≡ Some named.config
config_read e text named is = ap (option_and_then (config_as e)) is.reads ∙ is.fields

abbrev named : Config → Start → NamedMapping
named c start = record { config = c; start = start }

pub same_named : (a b : NamedMapping) → a.config ≡ b.config → a.start ≡ b.start → a ≡ b
same_named a b configs starts = ap (λ (c : Config). named c a.start) configs ∙ ap (λ (start : Start). named b.config start) starts

pub one_of_text : (e : Expected) (text : List ℕ) (a b : NamedMapping) → IsOfText e text a → IsOfText e text b → a ≡ b
one_of_text e text a b one other =
    let configs : a.config ≡ b.config = same_config (config_in e text) a.config b.config (config_read e text a one) (config_read e text b other) in
    same_named a b configs (one.start_is ∙ ap (λ (c : Config). c.start) configs ∙ sym other.start_is)

-- the reason, by the field that is refused and whether the configuration is enabled

abbrev unless_enabled : Bool → Option MappingError
unless_enabled true = None
unless_enabled false = Some error.Disabled

abbrev reason_of_config : Option Config → Option MappingError
reason_of_config None = None
reason_of_config (Some c) = unless_enabled c.enabled

abbrev reason_of : Option Param → Option Config → Option MappingError
reason_of (Some param) o = Some (error.BadParam param)
reason_of None o = reason_of_config o

abbrev pub text_reason : Expected → List ℕ → Option MappingError
text_reason e text = reason_of (refused_field e text) (config_in e text)

reason_of_text : (e : Expected) (text : List ℕ) (named : NamedMapping) → IsOfText e text named → text_reason e text ≡ unless_enabled named.config.enabled
reason_of_text e text named is = ap (λ (o : Option Param). reason_of o (config_in e text)) is.accepted ∙ ap reason_of_config (config_read e text named is)

pub no_text_reason : (e : Expected) (text : List ℕ) (named : NamedMapping) → IsExpected e text named → text_reason e text ≡ None
no_text_reason e text named is = reason_of_text e text named is.0 ∙ ap unless_enabled is.1.enabled

pub has_text_reason : (e : Expected) (text : List ℕ) (why : MappingError) → WhyNotExpected e text why → why ≢ error.OutOfMemory → text_reason e text ≡ Some why
has_text_reason e text (error.BadParam param) why caused = ap (λ (o : Option Param). reason_of o (config_in e text)) why
has_text_reason e text error.Disabled why caused = reason_of_text e text why.0 why.1 ∙ ap unless_enabled why.2
has_text_reason e text error.OutOfMemory why caused = absurd (caused refl)
has_text_reason e text error.NotAJournal why caused = absurd why
has_text_reason e text (error.Damaged place) why caused = absurd why
has_text_reason e text (error.BadPayload index) why caused = absurd why
has_text_reason e text error.DiskFault why caused = absurd why
has_text_reason e text error.Unknown why caused = absurd why
