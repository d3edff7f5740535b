-- Two outcomes of `serve` have one status, where the registry's disk is honest and neither it nor the door nor the output failed.
use Rattle.std.proofs.Common.{◌≡◌, ◌∙◌, ℕ, ◌+◌, List, [], ◌∷◌, ◌++◌, take, drop, reverse, Some, None, ap, inl, inr, refl, sym}
use Rattle.std.specs.Prelude.{◌⊎◌, option_and_then}
use Rattle.std.proofs.lemmas.List.{reverse-append, take-append-drop}
use Rattle.esm_io.specs.Faults.{Rose}
use Rattle.esm_journal.specs.File.{header_of, opened, Foreign, Damaged, Holding}
use Rattle.esm_journal.specs.State.{OpensTo}
use Rattle.esm_registry.specs.Lists.{Mappings}
use Rattle.esm_registry.specs.Payload.{after_payload, mappings_of, told}
use Rattle.esm_run.specs.declared.connections.Accepted.{Accepted}
use Rattle.esm_run.specs.declared.connections.Stop.{Stop}
use Rattle.esm_run.specs.declared.connections.Stop.TheVariants as stop
use Rattle.esm_run.specs.declared.registry_file.ServeEnd.{ServeEnd}
use Rattle.esm_run.specs.declared.registry_file.ServeEnd.TheVariants as end
use Rattle.esm_run.specs.Serve.{IsServeEnd, IsSoundServe, ServeOutcome, serve_status, stop_status}
use Rattle.esm_run.specs.Serving.{StopsFor}
use Rattle.esm_run.specs.World.{DoorSeen, ServeTells, Written}
use Rattle.esm_run.proofs.Inits.{told_with}
use Rattle.esm_run.proofs.OneCommand.{OneStatus}

-- payloads of which a front is no registry's are none

none_after : (more payloads : List (List ℕ)) → told payloads ≡ None → told (more ++ payloads) ≡ None
none_after [] payloads none = none
none_after (payload ∷ more) payloads none = ap (option_and_then (after_payload payload)) (none_after more payloads none)

none_behind : (payloads : List (List ℕ)) (n : ℕ) → mappings_of (take n payloads) ≡ None → mappings_of payloads ≡ None
none_behind payloads n none =
    ap (λ ps. told (reverse ps)) (sym (take-append-drop n payloads))
    ∙ ap told (reverse-append (take n payloads) (drop n payloads))
    ∙ none_after (reverse (drop n payloads)) (reverse (take n payloads)) none

-- the file is one that says mappings, or none that does

abbrev Says : List ℕ → Type 0
Says bytes = (payloads : List (List ℕ)) × OpensTo (header_of 1) payloads bytes × ((s : Mappings) × (mappings_of payloads ≡ Some s))

abbrev IsGoodOrBad : List ℕ → ℕ → Type 0
IsGoodOrBad bytes status = ((status ≡ 0) × Says bytes) ⊎ ((status ≡ 8) × (Says bytes → ⊥))

not_foreign : (bytes : List ℕ) → opened (header_of 1) bytes ≡ Foreign → Says bytes → ⊥
not_foreign bytes foreign (payloads, (epoch, holding), says) = (let both : Holding epoch payloads ≡ Foreign = sym holding ∙ foreign in cc)

not_damaged : (bytes : List ℕ) (place : ℕ) → opened (header_of 1) bytes ≡ Damaged place → Says bytes → ⊥
not_damaged bytes place damaged (payloads, (epoch, holding), says) = (let both : Holding epoch payloads ≡ Damaged place = sym holding ∙ damaged in cc)

same_payloads : (bytes : List ℕ) (a b : List (List ℕ)) → OpensTo (header_of 1) a bytes → OpensTo (header_of 1) b bytes → a ≡ b
same_payloads bytes a b (e, one) (d, other) = (let both : Holding e a ≡ Holding d b = sym one ∙ other in cc)

not_bad : (bytes : List ℕ) (a : List (List ℕ)) (n : ℕ) → OpensTo (header_of 1) a bytes → mappings_of (take n a) ≡ None → Says bytes → ⊥
not_bad bytes a n opens none (payloads, holding, (s, says)) =
    let same : payloads ≡ a = same_payloads bytes payloads a holding opens in
    let both : Some s ≡ None = sym says ∙ ap mappings_of same ∙ none_behind a n none in
    cc

stopped_well : {C D : Type 0} (o : ServeTells C D) (old new : D) (door : DoorSeen) (requests : ℕ) (accepted : Accepted) (why : Stop) (down : _) → IsSoundServe o old new door
    → StopsFor (o.disk.faults old) (o.disk.faults new) down door requests accepted.count why → stop_status why ≡ 0
stopped_well o old new door requests accepted stop.Done down sound stops = refl
stopped_well o old new door requests accepted stop.DiskFault down sound stops = absurd (sound.no_disk_fault stops.0)
stopped_well o old new door requests accepted stop.DoorFault down sound stops = absurd (sound.no_door_fault stops.0)

good_or_bad : {C D : Type 0} (o : ServeTells C D) (old new : D) (door : DoorSeen) (requests : ℕ) (e : ServeEnd) → IsSoundServe o old new door → IsServeEnd o old new door requests e
    → IsGoodOrBad (o.disk.content old) (serve_status e)
good_or_bad o old new door requests end.NotAJournal sound is = inr (refl, not_foreign (o.disk.content old) (is.1 sound.honest))
good_or_bad o old new door requests (end.Damaged place) sound is = inr (refl, not_damaged (o.disk.content old) place (is.1 sound.honest))
good_or_bad o old new door requests (end.BadPayload index) sound is =
    let bad = is.1 sound.honest in
    inr (refl, not_bad (o.disk.content old) bad.0 (index + 1) bad.1 bad.2.1)
good_or_bad o old new door requests end.OpenFault sound is = absurd (sound.no_disk_fault is.1)
good_or_bad o old new door requests (end.Served accepted) sound is =
    inl (
      stopped_well o old new door requests accepted accepted.stop is.last.journal.down sound is.stop,
      (is.first.journal.payloads, is.opened.file sound.honest, (is.first.mappings, is.opened.says.said)),
    )

one_of_both : (bytes : List ℕ) (a b : ℕ) → IsGoodOrBad bytes a → IsGoodOrBad bytes b → a ≡ b
one_of_both bytes a b (inl one) (inl other) = one.0 ∙ sym other.0
one_of_both bytes a b (inl one) (inr other) = absurd (other.1 one.1)
one_of_both bytes a b (inr one) (inl other) = absurd (one.1 other.1)
one_of_both bytes a b (inr one) (inr other) = one.0 ∙ sym other.0

pub one_serve : {C D : Type 0} (o : ServeTells C D) (old new : D) (door : DoorSeen) (output : Written) (requests : ℕ) → (Rose output.faults_before output.faults_now → ⊥) → IsSoundServe o old new door
    → OneStatus (ServeOutcome o old new door output requests)
one_serve o old new door output requests sound serve_sound a b one other =
    told_with output.faults_before output.faults_now output.before output.after _ _ _ a sound one.told
    ∙ one_of_both (o.disk.content old) (serve_status one.end) (serve_status other.end)
    (good_or_bad o old new door requests one.end serve_sound one.cause) (good_or_bad o old new door requests other.end serve_sound other.cause)
    ∙ sym (told_with output.faults_before output.faults_now output.before output.after _ _ _ b sound other.told)
