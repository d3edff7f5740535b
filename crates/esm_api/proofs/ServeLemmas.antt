-- From what a judged request comes to in the program to what the service of a connection leaves.
use Rattle.std.proofs.Common.{◌≡◌, ◌≢◌, ℕ, ◌+◌, ◌<◌, ◌≤◌, Bool, true, false, List, ◌++◌, length, Option, Some, None, sym, refl, ◌∙◌, subst, inl, inr, arith}
use Rattle.std.specs.Prelude.{Result, Ok, Err, IfOk, OnErr}
use Rattle.std.specs.Prelude.{min}
use Rattle.std.proofs.lemmas.Bool.{cond_both}
use Rattle.esm_model.specs.declared.limits.TheConstants.{MAX_HEAD}
use Rattle.esm_model.specs.declared.moment.TheConstants.{MAX_MOMENT}
use Rattle.esm_api.specs.declared.length.TheConstants.{MAX_REQUEST_BODY}
use Rattle.serde_json.specs.Data.{Data}
use Rattle.esm_io.specs.Faults.{Rose}
use Rattle.esm_io.specs.Meanings.{DiskMeaning}
use Rattle.esm_io.specs.Talks.{Talk, Reads, Writes}
use Rattle.esm_model.specs.declared.memory.OutOfMemory.{OutOfMemory}
use Rattle.esm_registry.specs.declared.mapping.Mapping.{Mapping}
use Rattle.esm_registry.specs.Lists.{Mappings, mapping_at, without, is_taken}
use Rattle.esm_registry.specs.Machine.{Asked, Create, Listing, Get, Update, Delete, Stepped, has_conflict, conflict, created_by, got, updated_by, updated_at, deleted, step_at}
use Rattle.esm_registry.specs.State.{RegistryState}
use Rattle.esm_api.specs.declared.judge.Judged.{Judged}
use Rattle.esm_api.specs.declared.judge.Judged.TheVariants as judged
use Rattle.esm_api.specs.declared.refusal.Refusal.{Refusal}
use Rattle.esm_api.specs.declared.refusal.Refusal.TheVariants as row
use Rattle.esm_api.specs.declared.respond.Response.{Response}
use Rattle.esm_api.specs.Answer.{status_of}
use Rattle.esm_api.specs.Judged.{judgement_of}
use Rattle.esm_api.specs.Request.{Judgement, Unfinished, Refused, Asks, IsJudged}
use Rattle.esm_api.specs.Response.{response, asked_response, applied_status}
use Rattle.esm_api.specs.Serving.{IsApplied, Leaves, Responds, IsUnanswered}
use Rattle.esm_api.specs.Given.{Gives, Stands}

-- ---- only a disk that failed is answered with 500

abbrev IsBelow : Stepped → Type 0
IsBelow stepped = applied_status stepped.answer < 500

created_below : (s : Mappings) (moment : ℕ) (r : _) → IsBelow (created_by s moment r)
created_below s moment (Err param) = omega arith
created_below s moment (Ok c) = cond_both (has_conflict s c) (conflict s) _ IsBelow (λ _. omega arith) (λ _. omega arith)

got_below : (s : Mappings) (found : Option Mapping) → IsBelow (got s found)
got_below s None = omega arith
got_below s (Some m) = omega arith

updated_below : (s : Mappings) (id : List ℕ) (m : Mapping) (moment : ℕ) (r : _) → IsBelow (updated_by s id m moment r)
updated_below s id m moment (Err param) = omega arith
updated_below s id m moment (Ok c) = cond_both (is_taken c (without id s.list)) (conflict s) _ IsBelow (λ _. omega arith) (λ _. omega arith)

updated_at_below : (s : Mappings) (id : List ℕ) (d : Data) (moment : ℕ) (found : Option Mapping) → IsBelow (updated_at s id d moment found)
updated_at_below s id d moment None = omega arith
updated_at_below s id d moment (Some m) = updated_below s id m moment _

deleted_below : (s : Mappings) (id : List ℕ) (moment : ℕ) (found : Option Mapping) → IsBelow (deleted s id moment found)
deleted_below s id moment None = omega arith
deleted_below s id moment (Some m) = omega arith

step_below : (s : Mappings) (asked : Asked) (moment : ℕ) → IsBelow (step_at s asked moment)
step_below s (Create d) moment = created_below s moment _
step_below s Listing moment = omega arith
step_below s (Get id) moment = got_below s (mapping_at id s.list)
step_below s (Update id d) moment = updated_at_below s id d moment (mapping_at id s.list)
step_below s (Delete id) moment = deleted_below s id moment (mapping_at id s.list)

row_below : (r : Refusal) → status_of r < 500
row_below row.Head = omega arith
row_below row.Host = omega arith
row_below row.Query = omega arith
row_below row.Path = omega arith
row_below row.Method = omega arith
row_below row.Length = omega arith
row_below row.Body = omega arith
row_below row.Json = omega arith
row_below row.Mapping = omega arith

fault_if : {D : Type 0} (m : DiskMeaning D) (old new : RegistryState D) (judgement : Judgement) (moment : ℕ) (failed : Bool) → Leaves m old new judgement moment failed
    → (response old.mappings judgement moment failed).status ≡ 500 → Rose (m.faults old.journal.disk) (m.faults new.journal.disk)
fault_if m old new Unfinished moment failed leaves is = absurd (omega (arith, is))
fault_if m old new (Refused r) moment failed leaves is = absurd (omega (arith, is, row_below r))
fault_if m old new (Asks asked) moment true leaves is = leaves.cause refl
fault_if m old new (Asks asked) moment false leaves is = absurd (omega (arith, is, step_below old.mappings asked (min moment MAX_MOMENT)))

failed_if : (mappings : Mappings) (judgement : Judgement) (moment : ℕ) (failed : Bool) → (response mappings judgement moment failed).status ≡ 500 → failed ≡ true
failed_if mappings Unfinished moment failed is = absurd (omega (arith, is))
failed_if mappings (Refused r) moment failed is = absurd (omega (arith, is, row_below r))
failed_if mappings (Asks asked) moment true is = refl
failed_if mappings (Asks asked) moment false is = absurd (omega (arith, is, step_below mappings asked (min moment MAX_MOMENT)))

pub responds_fault : {L D : Type 0} (told : L → Option Talk) (link link' : L) (m : DiskMeaning D) (old new : RegistryState D) (moment status : ℕ) (unsent : List ℕ)
    → Responds told link link' m old new moment status unsent → status ≡ 500 → Rose (m.faults old.journal.disk) (m.faults new.journal.disk)
responds_fault told link link' m old new moment status unsent responds is =
    fault_if m old new responds.judgement moment responds.failed responds.leaves (sym responds.status_is ∙ is)

-- ---- what a judged request comes to

pub gives_refusal : {D : Type 0} (m : DiskMeaning D) (registry : RegistryState D) (r : Refusal) (moment : ℕ) (given : Response)
    → given.status ≡ status_of r → given.text.items ≡ (response registry.mappings (Refused r) moment false).text → Gives m registry registry (Refused r) moment given
gives_refusal m registry r moment given status text = record { failed = false; status = status; text = text; leaves = (refl, refl) }

pub gives_applied : {D : Type 0} (m : DiskMeaning D) (old new : RegistryState D) (asked : Asked) (moment : ℕ) (failed : Bool) (r : Result Response OutOfMemory) → IsApplied m old new asked moment failed
    → IfOk r (λ given. given.status ≡ (asked_response old.mappings asked moment failed).status) → IfOk r (λ given. given.text.items ≡ (asked_response old.mappings asked moment failed).text)
    → IfOk r (Gives m old new (Asks asked) moment)
gives_applied m old new asked moment failed (Ok given) applied status text = record { failed = failed; status = status; text = text; leaves = applied }
gives_applied m old new asked moment failed (Err e) applied status text = tt

pub stands_applied : {D : Type 0} (m : DiskMeaning D) (old new : RegistryState D) (asked : Asked) (moment : ℕ) (failed : Bool) (r : Result Response OutOfMemory) → IsApplied m old new asked moment failed
    → OnErr r (Stands m old new (Asks asked) moment)
stands_applied m old new asked moment failed (Ok given) applied = tt
stands_applied m old new asked moment failed (Err e) applied = inr (asked, failed, refl, applied)

-- ---- one connection

judgement_whole : (j : Judged) → judgement_of j ≢ Unfinished
judgement_whole (judged.Refused r) e = cc
judgement_whole (judged.Asks command) e = cc

pub responds_if : {L D : Type 0} (told : L → Option Talk) (link middle link' : L) (m : DiskMeaning D) (old new : RegistryState D) (moment : ℕ) (read : List ℕ) (j : Judged) (given : Response) (sent unsent : List ℕ)
    → length read ≤ MAX_HEAD + MAX_REQUEST_BODY → Reads (told link) (told middle) read → IsJudged read (judgement_of j) → Gives m old new (judgement_of j) moment given → given.text.items ≡ sent ++ unsent → Writes (told middle) (told link') sent
    → Responds told link link' m old new moment given.status unsent
responds_if told link middle link' m old new moment read j given sent unsent within reads is gives parts writes = record {
  read = read;
  judgement = judgement_of j;
  judged = is;
  whole = judgement_whole j;
  within = within;
  failed = gives.failed;
  middle = middle;
  reads = reads;
  sent = sent;
  parts = sym gives.text ∙ parts;
  writes = writes;
  status_is = gives.status;
  failed_is = λ is. failed_if old.mappings (judgement_of j) moment gives.failed (sym gives.status ∙ is);
  leaves = gives.leaves;
}

pub unanswered_if : {D : Type 0} (link link' : Option Talk) (m : DiskMeaning D) (old new : RegistryState D) (moment : ℕ) (read : List ℕ) (judgement : Judgement)
    → Reads link link' read → IsJudged read judgement → Stands m old new judgement moment → IsUnanswered link link' m old new moment
unanswered_if link link' m old new moment read judgement reads is stands = record {
  read = read;
  reads = reads;
  leaves =
      elim stands [
        | inl same ↦ inl same
        | inr applied ↦ inr (applied.0, applied.1, subst (IsJudged read) applied.2 is, applied.3)
      ];
}
