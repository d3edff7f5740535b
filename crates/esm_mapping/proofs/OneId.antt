-- An id names one mapping of the registry, or there is one reason why it names none.
use Rattle.std.proofs.Common.{◌≡◌, ◌∙◌, ℕ, ◌+◌, ◌<◌, List, [], ◌∷◌, ◌++◌, take, drop, reverse, Bool, true, false, refl, sym, ap, subst, arith, Option, Some, None}
use Rattle.std.specs.Prelude.{◌≢◌, option_and_then, IsSome}
use Rattle.std.proofs.lemmas.List.{reverse-append, take-append-drop, take-take}
use Rattle.esm_io.specs.Faults.{Rose}
use Rattle.esm_io.specs.Meanings.{DiskMeaning}
use Rattle.esm_journal.specs.File.{header_of, opened, Opening, Foreign, Damaged, Holding}
use Rattle.esm_journal.specs.State.{OpensTo}
use Rattle.esm_registry.specs.Lists.{Mappings, mapping_at}
use Rattle.esm_registry.specs.Payload.{after_payload, mappings_of, told}
use Rattle.esm_registry.specs.State.{IsFirstBad}
use Rattle.esm_registry.specs.declared.mapping.Mapping.{Mapping}
use Rattle.esm_mapping.specs.Named.{Finds, HasBadPayload, IsNamedById, WhyNotById}
use Rattle.esm_mapping.specs.Starts.{start_after}
use Rattle.esm_mapping.specs.declared.named.MappingError.{MappingError}
use Rattle.esm_mapping.specs.declared.named.MappingError.TheVariants as error
use Rattle.esm_mapping.specs.declared.named.NamedMapping.{NamedMapping}
use Rattle.esm_mapping.proofs.OneText.{same_named}

-- payloads of which a front is no registry's are none

none_after : (more payloads : List (List ℕ)) → told payloads ≡ None → told (more ++ payloads) ≡ None
none_after [] payloads none = none
none_after (payload ∷ more) payloads none = ap (option_and_then (after_payload payload)) (none_after more payloads none)

none_behind : (payloads : List (List ℕ)) (n : ℕ) → mappings_of (take n payloads) ≡ None → mappings_of payloads ≡ None
none_behind payloads n none =
    ap (λ ps. told (reverse ps)) (sym (take-append-drop n payloads))
    ∙ ap told (reverse-append (take n payloads) (drop n payloads))
    ∙ none_after (reverse (drop n payloads)) (reverse (take n payloads)) none

-- so one payload is the first that is none

not_none : (o : Option Mappings) → IsSome o → o ≡ None → ⊥
not_none (Some s) some is = cc
not_none None some is = cc

not_before : (payloads : List (List ℕ)) (i j : ℕ) → IsFirstBad payloads i → IsFirstBad payloads j → i < j → ⊥
not_before payloads i j one other before =
    not_none (mappings_of (take j payloads)) other.0
    (none_behind (take j payloads) (i + 1) (ap mappings_of (take-take (i + 1) j payloads (omega arith)) ∙ one.1))

one_first : (payloads : List (List ℕ)) (i j : ℕ) → IsFirstBad payloads i → IsFirstBad payloads j → i ≡ j
one_first payloads i j one other =
    let not_lower : i < j → ⊥ = not_before payloads i j one other in
    let not_higher : j < i → ⊥ = not_before payloads j i other one in
    omega (arith, not_lower, not_higher)

same_payloads : (bytes : List ℕ) (a b : List (List ℕ)) → OpensTo (header_of 1) a bytes → OpensTo (header_of 1) b bytes → a ≡ b
same_payloads bytes a b (e, one) (d, other) = (let both : Holding e a ≡ Holding d b = sym one ∙ other in cc)

one_bad : (bytes : List ℕ) (i j : ℕ) → HasBadPayload i bytes → HasBadPayload j bytes → i ≡ j
one_bad bytes i j (a, opens, first) (b, also, other) =
    one_first a i j first (subst (λ ps. IsFirstBad ps j) (same_payloads bytes b a also opens) other)

-- what the file says of an id

abbrev found_in : List ℕ → Option Mappings → Option Mapping
found_in id None = None
found_in id (Some s) = mapping_at id s.list

abbrev found_at : List ℕ → Opening → Option Mapping
found_at id Foreign = None
found_at id (Damaged place) = None
found_at id (Holding epoch payloads) = found_in id (mappings_of payloads)

-- the reason why it names none; `index` is that of a payload that is none of a registry's

abbrev unless_enabled : Bool → Option MappingError
unless_enabled true = None
unless_enabled false = Some error.Disabled

abbrev reason_found : Option Mapping → Option MappingError
reason_found None = Some error.Unknown
reason_found (Some mapping) = unless_enabled mapping.config.enabled

abbrev reason_said : ℕ → List ℕ → Option Mappings → Option MappingError
reason_said index id None = Some (error.BadPayload index)
reason_said index id (Some s) = reason_found (mapping_at id s.list)

abbrev reason_in : ℕ → List ℕ → Opening → Option MappingError
reason_in index id Foreign = Some error.NotAJournal
reason_in index id (Damaged place) = Some (error.Damaged place)
reason_in index id (Holding epoch payloads) = reason_said index id (mappings_of payloads)

abbrev pub id_reason : ℕ → List ℕ → List ℕ → Option MappingError
id_reason index id bytes = reason_in index id (opened (header_of 1) bytes)

found_of : {D : Type 0} (m : DiskMeaning D) (old : D) (id : List ℕ) (found : Option Mapping) → m.honest old ≡ true → Finds m old id found
    → found_at id (opened (header_of 1) (m.content old)) ≡ found
found_of m old id found honest finds =
    ap (found_at id) (finds.has.opens honest).1 ∙ ap (found_in id) finds.has.said ∙ finds.found_is

reason_of : {D : Type 0} (m : DiskMeaning D) (old : D) (id : List ℕ) (index : ℕ) (found : Option Mapping) → m.honest old ≡ true → Finds m old id found
    → id_reason index id (m.content old) ≡ reason_found found
reason_of m old id index found honest finds =
    ap (reason_in index id) (finds.has.opens honest).1 ∙ ap (reason_said index id) finds.has.said ∙ ap reason_found finds.found_is

-- two mappings of one id

same_mapping : (o : Option Mapping) (a b : Mapping) → o ≡ Some a → o ≡ Some b → a ≡ b
same_mapping o a b one other = cc

pub one_of_id : {D : Type 0} (m : DiskMeaning D) (id : List ℕ) (old : D) (a b : NamedMapping) → m.honest old ≡ true → IsNamedById m id old a → IsNamedById m id old b → a ≡ b
one_of_id m id old a b honest (first, finds, is, runs) (second, also, is', runs') =
    let same : first ≡ second = same_mapping (found_at id (opened (header_of 1) (m.content old))) first second
    (found_of m old id (Some first) honest finds) (found_of m old id (Some second) honest also) in
    same_named a b (is.config_is ∙ ap (λ (x : Mapping). x.config) same ∙ sym is'.config_is)
    (is.start_is ∙ ap (λ (x : Mapping). start_after x.created x.config.start) same ∙ sym is'.start_is)

-- the index of the payload that an error tells, or another

abbrev pub index_of : MappingError → ℕ → ℕ
index_of (error.BadPayload index) otherwise = index
index_of error.NotAJournal otherwise = otherwise
index_of (error.Damaged place) otherwise = otherwise
index_of error.DiskFault otherwise = otherwise
index_of error.Unknown otherwise = otherwise
index_of error.Disabled otherwise = otherwise
index_of (error.BadParam param) otherwise = otherwise
index_of error.OutOfMemory otherwise = otherwise

bad_payload : (index : ℕ) (id bytes : List ℕ) → HasBadPayload index bytes → id_reason index id bytes ≡ Some (error.BadPayload index)
bad_payload index id bytes (payloads, opens, first) =
    ap (reason_in index id) opens.1 ∙ ap (reason_said index id) (none_behind payloads (index + 1) first.1)

pub has_id_reason : {D : Type 0} (m : DiskMeaning D) (id : List ℕ) (old new : D) (otherwise : ℕ) (e : MappingError) → m.honest old ≡ true → (Rose (m.faults old) (m.faults new) → ⊥)
    → WhyNotById m id old new e → e ≢ error.OutOfMemory → id_reason (index_of e otherwise) id (m.content old) ≡ Some e
has_id_reason m id old new otherwise error.NotAJournal honest sound why caused = ap (reason_in otherwise id) (why honest)
has_id_reason m id old new otherwise (error.Damaged place) honest sound why caused = ap (reason_in otherwise id) (why honest)
has_id_reason m id old new otherwise (error.BadPayload index) honest sound why caused = bad_payload index id (m.content old) (why honest)
has_id_reason m id old new otherwise error.DiskFault honest sound why caused = absurd (sound why)
has_id_reason m id old new otherwise error.Unknown honest sound why caused = reason_of m old id otherwise None honest why
has_id_reason m id old new otherwise error.Disabled honest sound why caused = reason_of m old id otherwise (Some why.0) honest why.1 ∙ ap unless_enabled why.2
has_id_reason m id old new otherwise (error.BadParam param) honest sound why caused = absurd why
has_id_reason m id old new otherwise error.OutOfMemory honest sound why caused = absurd (caused refl)

pub no_id_reason : {D : Type 0} (m : DiskMeaning D) (id : List ℕ) (old : D) (index : ℕ) (named : NamedMapping) → m.honest old ≡ true → IsNamedById m id old named
    → id_reason index id (m.content old) ≡ None
no_id_reason m id old index named honest (mapping, finds, is, runs) =
    reason_of m old id index (Some mapping) honest finds ∙ ap (λ (c : _). unless_enabled c.enabled) (sym is.config_is) ∙ ap unless_enabled runs.enabled

-- two errors tell one index, where each tells one

abbrev HasIndex : {D : Type 0} → DiskMeaning D → D → MappingError → Type 0
HasIndex m old (error.BadPayload index) = HasBadPayload index (m.content old)
HasIndex m old _ = Unit {0}

pub has_index : {D : Type 0} (m : DiskMeaning D) (id : List ℕ) (old new : D) (e : MappingError) → m.honest old ≡ true → WhyNotById m id old new e → HasIndex m old e
has_index m id old new (error.BadPayload index) honest why = why honest
has_index m id old new error.NotAJournal honest why = tt
has_index m id old new (error.Damaged place) honest why = tt
has_index m id old new error.DiskFault honest why = tt
has_index m id old new error.Unknown honest why = tt
has_index m id old new error.Disabled honest why = tt
has_index m id old new (error.BadParam param) honest why = tt
has_index m id old new error.OutOfMemory honest why = tt

pub same_index : {D : Type 0} (m : DiskMeaning D) (old : D) (d e : MappingError) → HasIndex m old d → HasIndex m old e → index_of d (index_of e 0) ≡ index_of e (index_of d 0)
same_index m old (error.BadPayload i) (error.BadPayload j) one other = one_bad (m.content old) i j one other
same_index m old (error.BadPayload i) error.NotAJournal one other = refl
same_index m old (error.BadPayload i) (error.Damaged place) one other = refl
same_index m old (error.BadPayload i) error.DiskFault one other = refl
same_index m old (error.BadPayload i) error.Unknown one other = refl
same_index m old (error.BadPayload i) error.Disabled one other = refl
same_index m old (error.BadPayload i) (error.BadParam param) one other = refl
same_index m old (error.BadPayload i) error.OutOfMemory one other = refl
same_index m old error.NotAJournal e one other = refl
same_index m old (error.Damaged place) e one other = refl
same_index m old error.DiskFault e one other = refl
same_index m old error.Unknown e one other = refl
same_index m old error.Disabled e one other = refl
same_index m old (error.BadParam param) e one other = refl
same_index m old error.OutOfMemory e one other = refl
