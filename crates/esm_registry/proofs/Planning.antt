-- What a plan comes to is what the machine says.
use Rattle.std.proofs.Common.{◌≡◌, ◌∙◌, ◌+◌, ◌<◌, ◌≤◌, ◌++◌, ◌||◌, ℕ, List, [], ◌∷◌, true, false, cond, Option, Some, None, refl, sym, ap, subst, nat_lt, is_some, option_and_then, Bor}
use Rattle.std.specs.Option.{option_copied}
use Rattle.std.proofs.lemmas.Bool.{cond-true, cond-false, or_left, or_parts, lt-ltb, le-ltb}
use Rattle.std.proofs.lemmas.Slice.Eq.{bytes_eq-Decides}
use Rattle.esm_model.specs.declared.config.Config.{Config}
use Rattle.esm_registry.specs.declared.change.Change.TheVariants.{Created, Updated, Deleted}
use Rattle.esm_registry.specs.declared.command.Applied.TheVariants.{One}
use Rattle.esm_registry.specs.declared.mapping.Mapping.{Mapping}
use Rattle.esm_registry.specs.Index.{Arns, arns_of, count_in}
use Rattle.esm_registry.specs.Lists.{Mappings, has_id, mapping_at, without, replaced, is_taken, uuid_of, new_mapping, changed}
use Rattle.esm_registry.specs.Machine.{conflict, has_conflict, created, updated, deleted}
use Rattle.esm_registry.specs.Payload.{after_change, after_created, after_updated, after_deleted, after_payload, change_of, payload_of}
use Rattle.esm_registry.specs.Texts.{mapping_text}
use Rattle.esm_registry.proofs.Counting.{taken_is}

pub none_from : {A : Type 0} (o : Option A) → is_some o ≡ false → o ≡ None
none_from None h = refl
none_from (Some x) h = cc

pub found_id : (id : List ℕ) (m : Mapping) (xs : List Mapping) → mapping_at id xs ≡ Some m → m.id ≡ id
found_id id m [] h = cc
found_id id m (x ∷ xs) h =
    elim (has_id id x) as (λ b. has_id id x ≡ b → cond b (Some x) (mapping_at id xs) ≡ Some m → m.id ≡ id) [
      | true ↦ λ is e. let same : x ≡ m = cc in subst (λ y. y.id ≡ id) same ((bytes_eq-Decides x.id id).0 is)
      | false ↦ λ is e. found_id id m xs e
    ] refl h

-- a count tells whether a source and function are taken
pub taken_by : (c : Config) (p : Arns) (xs : List Mapping) → p ≡ arns_of c → is_taken c xs ≡ nat_lt 0 (count_in p xs)
taken_by c p xs is = taken_is c xs ∙ ap (λ q. nat_lt 0 (count_in q xs)) (sym is)

-- creation

pub conflict_taken : (s : Mappings) (c : Config) (p : Arns) → p ≡ arns_of c → 0 < count_in p s.list → has_conflict s c ≡ true
conflict_taken s c p is some =
    or_left (is_taken c s.list) (is_some (mapping_at (uuid_of c (s.created + 1)) s.list)) (taken_by c p s.list is ∙ lt-ltb 0 (count_in p s.list) some)

copied_some : (o : Option (Bor Mapping)) → is_some o ≡ is_some (option_copied o)
copied_some None = refl
copied_some (Some x) = refl

pub conflict_found : (s : Mappings) (c : Config) (p : Arns) (id : List ℕ) (found : Option (Bor Mapping)) → p ≡ arns_of c → count_in p s.list ≤ 0
    → id ≡ uuid_of c (s.created + 1) → option_copied found ≡ mapping_at id s.list → is_some found ≡ has_conflict s c
conflict_found s c p id found is none id_is at =
    copied_some found ∙ ap is_some (at ∙ ap (λ i. mapping_at i s.list) id_is)
    ∙ ap (λ b. b || is_some (mapping_at (uuid_of c (s.created + 1)) s.list)) (sym (taken_by c p s.list is ∙ le-ltb 0 (count_in p s.list) none))

pub created_refused : (s : Mappings) (c : Config) (moment : ℕ) → has_conflict s c ≡ true → created s c moment ≡ conflict s
created_refused s c moment h = cond-true (has_conflict s c) (conflict s) _ h

pub created_is : (s : Mappings) (c : Config) (moment : ℕ) (id : List ℕ) (payload text : List ℕ) → has_conflict s c ≡ false
    → id ≡ uuid_of c (s.created + 1) → text ≡ mapping_text (record { id = id; config = c; created = moment; modified = moment })
    → payload ≡ payload_of (Created id moment c)
    → created s c moment ≡ record {
      answer = One 202 text;
      after = record { list = s.list ++ record { id = id; config = c; created = moment; modified = moment } ∷ []; created = s.created + 1 };
      payload = Some payload;
    }
created_is s c moment id payload text free id_is text_is payload_is =
    cond-false (has_conflict s c) (conflict s) (record {
      answer = One 202 (mapping_text (new_mapping s c moment));
      after = record { list = s.list ++ new_mapping s c moment ∷ []; created = s.created + 1 };
      payload = Some (payload_of (Created (uuid_of c (s.created + 1)) moment c));
    }) free
    ∙ rw (text_is, payload_is, id_is) refl

pub created_new : (s : Mappings) (c : Config) (id : List ℕ) → has_conflict s c ≡ false → id ≡ uuid_of c (s.created + 1) → mapping_at id s.list ≡ None
created_new s c id free id_is =
    ap (λ i. mapping_at i s.list) id_is
    ∙ none_from (mapping_at (uuid_of c (s.created + 1)) s.list) (or_parts (is_taken c s.list) (is_some (mapping_at (uuid_of c (s.created + 1)) s.list)) free).1

pub created_says : (s : Mappings) (payload id : List ℕ) (moment : ℕ) (c : Config) → change_of payload ≡ Some (Created id moment c) → mapping_at id s.list ≡ None
    → after_payload payload s ≡ Some (record { list = s.list ++ record { id = id; config = c; created = moment; modified = moment } ∷ []; created = s.created + 1 })
created_says s payload id moment c reads none = ap (option_and_then (after_change s)) reads ∙ ap (after_created s id moment c) none

-- update

pub updated_refused : (s : Mappings) (m : Mapping) (c : Config) (moment : ℕ) (p : Arns) → p ≡ arns_of c → 0 < count_in p (without m.id s.list)
    → updated s m.id m c moment ≡ conflict s
updated_refused s m c moment p is some =
    cond-true (is_taken c (without m.id s.list)) (conflict s) _ (taken_by c p (without m.id s.list) is ∙ lt-ltb 0 (count_in p (without m.id s.list)) some)

pub updated_is : (s : Mappings) (m : Mapping) (c : Config) (moment : ℕ) (p : Arns) (payload text : List ℕ) → p ≡ arns_of c → count_in p (without m.id s.list) ≤ 0
    → text ≡ mapping_text (changed m c moment) → payload ≡ payload_of (Updated m.id moment c)
    → updated s m.id m c moment ≡ record {
      answer = One 202 text;
      after = record { list = replaced m.id (changed m c moment) s.list; created = s.created };
      payload = Some payload;
    }
updated_is s m c moment p payload text is none text_is payload_is =
    cond-false (is_taken c (without m.id s.list)) (conflict s) (record {
      answer = One 202 (mapping_text (changed m c moment));
      after = record { list = replaced m.id (changed m c moment) s.list; created = s.created };
      payload = Some (payload_of (Updated m.id moment c));
    }) (taken_by c p (without m.id s.list) is ∙ le-ltb 0 (count_in p (without m.id s.list)) none)
    ∙ rw (text_is, payload_is) refl

pub updated_says : (s : Mappings) (payload : List ℕ) (m : Mapping) (moment : ℕ) (c : Config) → change_of payload ≡ Some (Updated m.id moment c)
    → mapping_at m.id s.list ≡ Some m
    → after_payload payload s ≡ Some (record { list = replaced m.id (changed m c moment) s.list; created = s.created })
updated_says s payload m moment c reads there = ap (option_and_then (after_change s)) reads ∙ ap (after_updated s m.id moment c) there

-- deletion

pub deleted_says : (s : Mappings) (payload id : List ℕ) (m : Mapping) (moment : ℕ) → change_of payload ≡ Some (Deleted id moment)
    → mapping_at id s.list ≡ Some m → after_payload payload s ≡ Some (record { list = without id s.list; created = s.created })
deleted_says s payload id m moment reads there = ap (option_and_then (after_change s)) reads ∙ ap (after_deleted s id) there

pub deleted_is : (s : Mappings) (id : List ℕ) (m : Mapping) (moment : ℕ) (payload text : List ℕ) → mapping_at id s.list ≡ Some m
    → text ≡ mapping_text m → payload ≡ payload_of (Deleted id moment)
    → deleted s id moment (mapping_at id s.list) ≡ record {
      answer = One 202 text;
      after = record { list = without id s.list; created = s.created };
      payload = Some payload;
    }
deleted_is s id m moment payload text there text_is payload_is =
    ap (deleted s id moment) there ∙ rw (text_is, payload_is) refl
