-- The words name one mapping, or there is one reason why they name none.
use Rattle.std.proofs.Common.{◌≡◌, ◌∙◌, ℕ, List, true, ap, refl, Option, Some, None}
use Rattle.std.specs.Prelude.{◌≢◌}
use Rattle.esm_cli.specs.declared.command.Which.{Which}
use Rattle.esm_cli.specs.declared.command.Which.TheVariants as which
use Rattle.esm_io.specs.Faults.{Rose}
use Rattle.esm_io.specs.Meanings.{DiskMeaning}
use Rattle.esm_mapping.specs.Named.{IsExpected, IsNamed, WhyNot, WhyNotExpected}
use Rattle.esm_mapping.specs.declared.expected.Expected.{Expected}
use Rattle.esm_mapping.specs.declared.expected.Expected.TheVariants.{StreamOrQueue}
use Rattle.esm_mapping.specs.declared.named.MappingError.{MappingError}
use Rattle.esm_mapping.specs.declared.named.MappingError.TheVariants as error
use Rattle.esm_mapping.specs.declared.named.NamedMapping.{NamedMapping}
use Rattle.esm_mapping.proofs.OneId.{has_id_reason, has_index, id_reason, index_of, no_id_reason, one_of_id, same_index}
use Rattle.esm_mapping.proofs.OneText.{has_text_reason, no_text_reason, one_of_text, text_reason}

same_reason : (o : Option MappingError) (a b : MappingError) → o ≡ Some a → o ≡ Some b → a ≡ b
same_reason o a b one other = cc

none_or_some : (o : Option MappingError) (e : MappingError) → o ≡ None → o ≡ Some e → ⊥
none_or_some o e none some = cc

pub one_mapping : {D : Type 0} (m : DiskMeaning D) (w : Which) (old : D) → m.honest old ≡ true → (one other : NamedMapping) → IsNamed m w old one → IsNamed m w old other → one ≡ other
one_mapping m (which.Config text) old honest one other first second = one_of_text StreamOrQueue text one other first.0 second.0
one_mapping m (which.Mapping id) old honest one other first second = one_of_id m id old one other honest first second

without_reason : {D : Type 0} (m : DiskMeaning D) (w : Which) (old new : D) → m.honest old ≡ true → (Rose (m.faults old) (m.faults new) → ⊥) → (named : NamedMapping) (e : MappingError)
    → IsNamed m w old named → WhyNot m w old new e → e ≢ error.OutOfMemory → ⊥
without_reason m (which.Config text) old new honest sound named e is why caused =
    none_or_some (text_reason StreamOrQueue text) e (no_text_reason StreamOrQueue text named is) (has_text_reason StreamOrQueue text e why caused)
without_reason m (which.Mapping id) old new honest sound named e is why caused =
    none_or_some (id_reason (index_of e 0) id (m.content old)) e (no_id_reason m id old (index_of e 0) named honest is) (has_id_reason m id old new 0 e honest sound why caused)

-- want of memory alone has no cause
memory_or_caused : (e : MappingError) → (e ≢ error.OutOfMemory → ⊥) → e ≡ error.OutOfMemory
memory_or_caused error.OutOfMemory caused = refl
memory_or_caused error.NotAJournal caused = absurd (caused (λ is. cc))
memory_or_caused (error.Damaged place) caused = absurd (caused (λ is. cc))
memory_or_caused (error.BadPayload index) caused = absurd (caused (λ is. cc))
memory_or_caused error.DiskFault caused = absurd (caused (λ is. cc))
memory_or_caused error.Unknown caused = absurd (caused (λ is. cc))
memory_or_caused error.Disabled caused = absurd (caused (λ is. cc))
memory_or_caused (error.BadParam param) caused = absurd (caused (λ is. cc))

pub no_reason : {D : Type 0} (m : DiskMeaning D) (w : Which) (old new : D) → m.honest old ≡ true → (Rose (m.faults old) (m.faults new) → ⊥) → (named : NamedMapping) (e : MappingError)
    → IsNamed m w old named → WhyNot m w old new e → e ≡ error.OutOfMemory
no_reason m w old new honest sound named e is why = memory_or_caused e (without_reason m w old new honest sound named e is why)

pub one_reason : {D : Type 0} (m : DiskMeaning D) (w : Which) (old new : D) → m.honest old ≡ true → (Rose (m.faults old) (m.faults new) → ⊥) → (one other : MappingError)
    → WhyNot m w old new one → one ≢ error.OutOfMemory → WhyNot m w old new other → other ≢ error.OutOfMemory → one ≡ other
one_reason m (which.Config text) old new honest sound one other why caused also caused' =
    same_reason (text_reason StreamOrQueue text) one other (has_text_reason StreamOrQueue text one why caused) (has_text_reason StreamOrQueue text other also caused')
one_reason m (which.Mapping id) old new honest sound one other why caused also caused' =
    let same : index_of one (index_of other 0) ≡ index_of other (index_of one 0) = same_index m old one other (has_index m id old new one honest why) (has_index m id old new other honest also) in
    same_reason (id_reason (index_of one (index_of other 0)) id (m.content old)) one other
    (has_id_reason m id old new (index_of other 0) one honest sound why caused)
    (ap (λ (i : ℕ). id_reason i id (m.content old)) same ∙ has_id_reason m id old new (index_of one 0) other honest sound also caused')

-- of a text alone

pub one_expected : (e : Expected) (text : List ℕ) (one other : NamedMapping) → IsExpected e text one → IsExpected e text other → one ≡ other
one_expected e text one other first second = one_of_text e text one other first.0 second.0

pub no_reason_expected : (e : Expected) (text : List ℕ) (named : NamedMapping) (why : MappingError) → IsExpected e text named → WhyNotExpected e text why → why ≡ error.OutOfMemory
no_reason_expected e text named why is not = memory_or_caused why (λ caused. none_or_some (text_reason e text) why (no_text_reason e text named is) (has_text_reason e text why not caused))

pub one_reason_expected : (e : Expected) (text : List ℕ) (one other : MappingError) → WhyNotExpected e text one → one ≢ error.OutOfMemory
    → WhyNotExpected e text other → other ≢ error.OutOfMemory → one ≡ other
one_reason_expected e text one other why caused also caused' =
    same_reason (text_reason e text) one other (has_text_reason e text one why caused) (has_text_reason e text other also caused')
