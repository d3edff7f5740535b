-- How a command that writes nothing, or one payload, obeys the machine.
use Rattle.std.proofs.Common.{◌≡◌, ◌∙◌, ◌+◌, ◌++◌, ℕ, List, [], ◌∷◌, Bool, true, false, cond, find, Option, Some, None, Result, Ok, Err, refl, sym, ap, subst, arith, option_and_then}
use Rattle.std.proofs.lemmas.List.{append-nil, reverse-append}
use Rattle.esm_io.specs.Images.{LeavesOnly}
use Rattle.esm_io.specs.Meanings.{DiskMeaning}
use Rattle.esm_journal.specs.State.{JournalState}
use Rattle.esm_registry.specs.Applying.{Writes, IsReady, Obeys, Says}
use Rattle.esm_registry.specs.Index.{Arns, HasPair, TableState, arns_of}
use Rattle.esm_registry.specs.Lists.{Mappings, has_id, mapping_at, without, replaced}
use Rattle.esm_registry.specs.Machine.{Stepped, answered}
use Rattle.esm_registry.specs.Payload.{after_payload, mappings_of, told}
use Rattle.esm_registry.specs.State.{OpensToStep, RegistryState}
use Rattle.esm_registry.proofs.IndexFacts.{has_its_id}
use Rattle.esm_registry.proofs.ListFacts.{without_last}
use Rattle.esm_registry.specs.declared.mapping.Mapping.{Mapping}
use Rattle.esm_registry.specs.declared.command.Applied.{Applied}
use Rattle.esm_registry.specs.declared.command.RegistryError.{RegistryError}
use Rattle.esm_registry.specs.declared.command.RegistryError.TheVariants as error

-- one payload more
pub mappings_of-push : (payloads : List (List ℕ)) (payload : List ℕ) (s t : Mappings) → mappings_of payloads ≡ Some s → after_payload payload s ≡ Some t
    → mappings_of (payloads ++ payload ∷ []) ≡ Some t
mappings_of-push payloads payload s t before after =
    ap told (reverse-append payloads (payload ∷ [])) ∙ ap (option_and_then (after_payload payload)) before ∙ after

-- what a crash leaves where no call of the disk is made
abbrev pub Quiet : {D : Type 0} → DiskMeaning D → JournalState D → Type 0
Quiet m journal = m.honest journal.disk ≡ true → (payload : Option (List ℕ)) → LeavesOnly m.moment m.since journal.disk journal.disk (OpensToStep journal.payloads payload)

pub obeys_answer : {D : Type 0} (m : DiskMeaning D) (table : TableState) (journal : JournalState D) (stepped : Stepped) (a : Applied)
    → IsReady table journal → Quiet m journal → stepped ≡ answered table.mappings a → Obeys m table table journal journal stepped (Ok a)
obeys_answer {D} m table journal stepped a ready quiet is =
    subst (λ (st : Stepped). Obeys {D = D} m table table journal journal st (Ok a)) (sym is) (record {
      writes = record {
        payloads = sym (append-nil journal.payloads);
        up = ready.up;
        same = tt;
        no_memory = λ e. refl;
        fault = λ e. cc;
        cause = λ e. cc;
        no_other = λ e. cc;
        any_moment = λ honest. quiet honest None;
        honesty = refl;
        never_falls = omega arith;
      };
      answers = record { answer = refl; mappings = refl; same = tt };
      free = ready.free;
      said = ready.said;
    })

pub obeys_no_memory : {D : Type 0} (m : DiskMeaning D) (table : TableState) (journal : JournalState D) (stepped : Stepped)
    → IsReady table journal → Quiet m journal → Obeys m table table journal journal stepped (Err error.OutOfMemory)
obeys_no_memory m table journal stepped ready quiet = record {
  writes = record {
    payloads = tt;
    up = tt;
    same = refl;
    no_memory = λ e. refl;
    fault = λ e. cc;
    cause = λ e. cc;
    no_other = λ e. cc;
    any_moment = λ honest. quiet honest stepped.payload;
    honesty = refl;
    never_falls = omega arith;
  };
  answers = record { answer = tt; mappings = tt; same = refl };
  free = ready.free;
  said = ready.said;
}

pub obeys_done : {D T : Type 0} (m : DiskMeaning D) (old new : TableState) (journal journal' : JournalState D) (bytes payload : List ℕ) (after : Mappings) (a : Applied) (u : T)
    → IsReady old journal → Says old.mappings payload after → bytes ≡ payload → Writes {D = D} {T = T} m journal journal' (Some bytes) (Ok u)
    → new ≡ record { mappings = after; promised = None }
    → Obeys m old new journal journal' (record { answer = a; after = after; payload = Some payload }) (Ok a)
obeys_done {D} {T} m old new journal journal' bytes payload after a u ready says same wrote is =
    let written = subst (λ (p : List ℕ). Writes {D = D} {T = T} m journal journal' (Some p) (Ok u)) same wrote in
    record {
      writes = record {
        payloads = written.payloads;
        up = written.up;
        same = tt;
        no_memory = λ e. cc;
        fault = λ e. cc;
        cause = λ e. cc;
        no_other = λ e. cc;
        any_moment = written.any_moment;
        honesty = written.honesty;
        never_falls = written.never_falls;
      };
      answers = record { answer = refl; mappings = ap (λ t. t.mappings) is; same = tt };
      free = ap (λ t. t.promised) is;
      said =
          ap mappings_of written.payloads ∙ mappings_of-push journal.payloads payload old.mappings after ready.said says.says
          ∙ ap Some (sym (ap (λ t. t.mappings) is));
    }

pub obeys_failed : {D T : Type 0} (m : DiskMeaning D) (old new : TableState) (journal journal' : JournalState D) (bytes : List ℕ) (stepped : Stepped) (e : RegistryError)
    → IsReady old journal → Some bytes ≡ stepped.payload → Writes {D = D} {T = T} m journal journal' (Some bytes) (Err e) → new ≡ old → Obeys m old new journal journal' stepped (Err e)
obeys_failed {D} {T} m old new journal journal' bytes stepped e ready same wrote is =
    let written = subst (λ (p : Option (List ℕ)). Writes {D = D} {T = T} m journal journal' p (Err e)) same wrote in
    record {
      writes = record {
        payloads = tt;
        up = tt;
        same = written.same;
        no_memory = λ h. written.no_memory (ap Err (inside h));
        fault = λ h. written.fault (ap Err (inside h));
        cause = λ h. written.cause (ap Err (inside h));
        no_other = λ h. written.no_other (ap Err (inside h));
        any_moment = written.any_moment;
        honesty = written.honesty;
        never_falls = written.never_falls;
      };
      answers = record { answer = tt; mappings = tt; same = ap (λ t. t.mappings) is };
      free = ap (λ t. t.promised) is ∙ ready.free;
      said = ap mappings_of written.same ∙ ready.said ∙ ap Some (sym (ap (λ t. t.mappings) is));
    }
  where
    inside : {f : RegistryError} → ◌≡◌ {A = Result Applied RegistryError} (Err e) (Err f) → e ≡ f
    inside h = cc

find_last : {X : Type 0} (p : X → Bool) (xs : List X) (y : X) → find p xs ≡ None → p y ≡ true → find p (xs ++ y ∷ []) ≡ Some y
find_last p [] y none is = rw is refl
find_last p (x ∷ xs) y none is =
    elim (p x) as (λ b. cond b (Some x) (find p xs) ≡ None → cond b (Some x) (find p (xs ++ y ∷ [])) ≡ Some y)
    [ true ↦ λ e. cc | false ↦ λ e. find_last p xs y e is ] none

-- creation

pub has_added : (old a : TableState) (m : Mapping) (q : Arns) → mapping_at m.id old.mappings.list ≡ None → q ≡ arns_of m.config
    → a ≡ record { mappings = record { list = old.mappings.list ++ m ∷ []; created = old.mappings.created }; promised = old.promised }
    → HasPair a.mappings.list m.id q
has_added old a m q none pair added = record {
  mapping = m;
  there = ap (λ t. mapping_at m.id t.mappings.list) added ∙ find_last (has_id m.id) old.mappings.list m none (has_its_id m.id m refl);
  pair = pair;
}

pub created_after : (old a n : TableState) (m : Mapping) → old.promised ≡ None
    → a ≡ record { mappings = record { list = old.mappings.list ++ m ∷ []; created = old.mappings.created }; promised = old.promised }
    → n ≡ record { mappings = record { list = a.mappings.list; created = a.mappings.created + 1 }; promised = a.promised }
    → n ≡ record { mappings = record { list = old.mappings.list ++ m ∷ []; created = old.mappings.created + 1 }; promised = None }
created_after old a n m free added counted =
    counted
    ∙ ap (λ (t : TableState). let r : TableState = record { mappings = record { list = t.mappings.list; created = t.mappings.created + 1 }; promised = t.promised } in r) added
    ∙ ap (λ (p : Option Arns). let r : TableState = record { mappings = record { list = old.mappings.list ++ m ∷ []; created = old.mappings.created + 1 }; promised = p } in r) free

pub taken_back : (old a n : TableState) (m : Mapping) → mapping_at m.id old.mappings.list ≡ None
    → a ≡ record { mappings = record { list = old.mappings.list ++ m ∷ []; created = old.mappings.created }; promised = old.promised }
    → n ≡ record { mappings = record { list = without m.id a.mappings.list; created = a.mappings.created }; promised = a.promised }
    → n ≡ old
taken_back old a n m none added removed =
    removed
    ∙ ap (λ (t : TableState). let r : TableState = record { mappings = record { list = without m.id t.mappings.list; created = t.mappings.created }; promised = t.promised } in r) added
    ∙ ap (λ (l : List Mapping). let r : TableState = record { mappings = record { list = l; created = old.mappings.created }; promised = old.promised } in r)
    (without_last (has_id m.id) old.mappings.list m none (has_its_id m.id m refl))

-- update

pub updated_after : (old a n : TableState) (m : Mapping) (q : Arns) → a ≡ record { mappings = old.mappings; promised = Some q }
    → n ≡ record { mappings = record { list = replaced m.id m a.mappings.list; created = a.mappings.created }; promised = None }
    → n ≡ record { mappings = record { list = replaced m.id m old.mappings.list; created = old.mappings.created }; promised = None }
updated_after old a n m q promised replaced_is =
    replaced_is
    ∙ ap (λ (t : TableState). let r : TableState = record { mappings = record { list = replaced m.id m t.mappings.list; created = t.mappings.created }; promised = None } in r) promised

pub released_again : (old a n : TableState) (q : Arns) → old.promised ≡ None → a ≡ record { mappings = old.mappings; promised = Some q }
    → n ≡ record { mappings = a.mappings; promised = None } → n ≡ old
released_again old a n q free promised released =
    released
    ∙ ap (λ (t : TableState). let r : TableState = record { mappings = t.mappings; promised = None } in r) promised
    ∙ ap (λ (p : Option Arns). let r : TableState = record { mappings = old.mappings; promised = p } in r) (sym free)

-- deletion

pub deleted_after : (old n : TableState) (id : List ℕ) → old.promised ≡ None
    → n ≡ record { mappings = record { list = without id old.mappings.list; created = old.mappings.created }; promised = old.promised }
    → n ≡ record { mappings = record { list = without id old.mappings.list; created = old.mappings.created }; promised = None }
deleted_after old n id free removed =
    removed ∙ ap (λ (p : Option Arns). let r : TableState = record { mappings = record { list = without id old.mappings.list; created = old.mappings.created }; promised = p } in r) free

-- a registry with the same parts
pub same_state : {D : Type 0} (s s' : Mappings) (j j' : JournalState D) → s' ≡ s → j' ≡ j
    → record { mappings = s'; journal = j' } ≡ (let r : RegistryState D = record { mappings = s; journal = j } in r)
same_state {D} s s' j j' mappings journal =
    ap (λ (x : Mappings). let r : RegistryState D = record { mappings = x; journal = j' } in r) mappings
    ∙ ap (λ (x : JournalState D). let r : RegistryState D = record { mappings = s; journal = x } in r) journal
