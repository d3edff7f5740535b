-- What is owed of a core, as it is told: how much, and what is written of it.
use Rattle.std.proofs.Common.{◌≡◌, ℕ, ◌+◌, ◌<◌, ◌≤◌, List, [], ◌∷◌, ◌++◌, length, take, refl, sym, ap, ap₂, ◌∙◌, subst, arith, Option, Some, None}
use Rattle.std.specs.List.{cons_option}
use Rattle.std.proofs.lemmas.Option.{same_Some}
use Rattle.esm_model.specs.declared.limits.TheConstants.{MAX_PAYLOAD}
use Rattle.esm_model.specs.Records.{Record}
use Rattle.esm_model.specs.declared.entry.Entry.{Entry}
use Rattle.esm_book.specs.Decided.{written_of, lengths_of}
use Rattle.esm_replay_model.specs.ReplaySetting.{ReplaySetting}
use Rattle.esm_replay_core.specs.declared.decisions.ReplayEntry.{ReplayEntry}
use Rattle.esm_replay_core.specs.declared.owed.Owed.{Owed}
use Rattle.esm_replay_core.specs.declared.owed.Owed.TheVariants.{Nothing, Coming, Began, Ended, Replayed, Left}
use Rattle.esm_replay_core.specs.declared.owed.Replay.{Replay}
use Rattle.esm_replay_core.specs.View.{ReplayView}
use Rattle.esm_replay_core.specs.Told.{came_entries, added_entries, owed_of, payload_in}
use Rattle.esm_replay_core.specs.Owing.{replay_entry, owed_entries, owed_replay_of, first_replay_of}
use Rattle.esm_replay_core.specs.Kept.{Parts, IsKept, MayOwe, IsWritten, own, seen_of}
use Rattle.esm_replay_core.proofs.Tellings.{owed_number}

-- how much

pub due_number : (p : Parts) (v : ReplayView) → seen_of p ≡ v → length (owed_of v) ≡ length p.coming + length (owed_entries p.owed)
due_number p v seen = sym (ap (λ (u : ReplayView). length (owed_of u)) seen) ∙ owed_number (seen_of p)

none_due : (p : Parts) (v : ReplayView) → seen_of p ≡ v → p.coming ≡ [] → owed_entries p.owed ≡ [] → length (owed_of v) ≡ 0
none_due p v seen none empty =
    due_number p v seen ∙ ap₂ (λ (a b : ℕ). a + b) (ap (λ (rs : List Record). length rs) none) (ap (λ (es : List Entry). length es) empty)

pub not_nothing : (p : Parts) (v : ReplayView) → IsKept p → seen_of p ≡ v → 0 < length (owed_of v) → p.owed ≡ Nothing → ⊥
not_nothing p v k seen some is =
    let none : length (owed_of v) ≡ 0 = none_due p v seen (subst (MayOwe p) is k.owed).0 (ap owed_entries is) in
    omega arith

pub not_left : (p : Parts) (v : ReplayView) → IsKept p → seen_of p ≡ v → 0 < length (owed_of v) → p.owed ≡ Left → ⊥
not_left p v k seen some is =
    let none : length (owed_of v) ≡ 0 = none_due p v seen (subst (MayOwe p) is k.owed) (ap owed_entries is) in
    omega arith

-- records come before anything began
early_by : (p : Parts) (o : Owed) → MayOwe p o → 1 ≤ length p.coming → p.past ≡ []
early_by p Nothing may some = (let none : length p.coming ≡ 0 = ap (λ (rs : List Record). length rs) may.0 in absurd (omega arith))
early_by p Coming may some = may.1
early_by p (Began lane places names moment) may some = (let none : length p.coming ≡ 0 = ap (λ (rs : List Record). length rs) may.none in absurd (omega arith))
early_by p (Ended lane reply moment count parts replay) may some = (let none : length p.coming ≡ 0 = ap (λ (rs : List Record). length rs) may.none in absurd (omega arith))
early_by p (Replayed r) may some = (let none : length p.coming ≡ 0 = ap (λ (rs : List Record). length rs) may.none in absurd (omega arith))
early_by p Left may some = (let none : length p.coming ≡ 0 = ap (λ (rs : List Record). length rs) may in absurd (omega arith))

pub early_of : (p : Parts) → IsKept p → 1 ≤ length p.coming → p.past ≡ []
early_of p k some = early_by p p.owed k.owed some

-- what is written

abbrev pub bytes_of : Option Replay → List (List ℕ)
bytes_of None = []
bytes_of (Some r) = r.payload.items ∷ []

coming_written : (rs : List Record) (es : List ReplayEntry) → written_of payload_in (came_entries rs ++ es) ≡ written_of payload_in es
coming_written [] es = refl
coming_written (r ∷ rs) es = coming_written rs es

replay_written : (s : ReplaySetting) (r : Replay) → IsWritten s r → written_of payload_in (added_entries s (replay_entry r ∷ [])) ≡ r.payload.items ∷ []
replay_written s r is = ap (λ (o : Option (List ℕ)). cons_option o []) is.payload

written_by : (p : Parts) (o : Owed) → MayOwe p o → written_of payload_in (added_entries (own p) (owed_entries o)) ≡ bytes_of (owed_replay_of o)
written_by p Nothing may = refl
written_by p Coming may = refl
written_by p (Began lane places names moment) may = refl
written_by p (Ended lane reply moment count parts None) may = refl
written_by p (Ended lane reply moment count parts (Some r)) may = replay_written (own p) r may.written
written_by p (Replayed r) may = replay_written (own p) r may.written
written_by p Left may = refl

pub due_written : (p : Parts) (v : ReplayView) → IsKept p → seen_of p ≡ v → written_of payload_in (owed_of v) ≡ bytes_of (owed_replay_of p.owed)
due_written p v k seen =
    sym (ap (λ (u : ReplayView). written_of payload_in (owed_of u)) seen)
    ∙ coming_written p.coming (added_entries (own p) (owed_entries p.owed))
    ∙ written_by p p.owed k.owed

pub due_lengths : (p : Parts) (v : ReplayView) (o : Option Replay) → IsKept p → seen_of p ≡ v → owed_replay_of p.owed ≡ o → lengths_of (written_of payload_in (owed_of v)) ≡ lengths_of (bytes_of o)
due_lengths p v o k seen is = ap lengths_of (due_written p v k seen ∙ ap bytes_of is)

short_by : (p : Parts) (o : Owed) (r : Replay) → MayOwe p o → owed_replay_of o ≡ Some r → length r.payload.items ≤ MAX_PAYLOAD
short_by p Nothing r may is = absurd (cc)
short_by p Coming r may is = absurd (cc)
short_by p (Began lane places names moment) r may is = absurd (cc)
short_by p (Ended lane reply moment count parts None) r may is = absurd (cc)
short_by p (Ended lane reply moment count parts (Some q)) r may is = subst (λ (x : Replay). length x.payload.items ≤ MAX_PAYLOAD) (same_Some q r is) may.written.short
short_by p (Replayed q) r may is = subst (λ (x : Replay). length x.payload.items ≤ MAX_PAYLOAD) (same_Some q r is) may.written.short
short_by p Left r may is = absurd (cc)

pub due_short : (p : Parts) (r : Replay) → IsKept p → owed_replay_of p.owed ≡ Some r → length r.payload.items ≤ MAX_PAYLOAD
due_short p r k is = short_by p p.owed r k.owed is

-- what is written first

first_by : (s : ReplaySetting) (rs : List Record) (p : Parts) (o : Owed) → MayOwe p o → s ≡ own p → rs ≡ p.coming → written_of payload_in (take 1 (came_entries rs ++ added_entries s (owed_entries o))) ≡ bytes_of (first_replay_of o)
first_by s (r ∷ rs) p Nothing may is same = refl
first_by s (r ∷ rs) p Coming may is same = refl
first_by s (r ∷ rs) p (Began lane places names moment) may is same = refl
first_by s (r ∷ rs) p (Ended lane reply moment count parts d) may is same = refl
first_by s (r ∷ rs) p (Replayed q) may is same = (let none : r ∷ rs ≡ [] = same ∙ may.none in absurd (cc))
first_by s (r ∷ rs) p Left may is same = refl
first_by s [] p Nothing may is same = refl
first_by s [] p Coming may is same = refl
first_by s [] p (Began lane places names moment) may is same = refl
first_by s [] p (Ended lane reply moment count parts d) may is same = refl
first_by s [] p (Replayed q) may is same = ap (λ (t : ReplaySetting). written_of payload_in (added_entries t (replay_entry q ∷ []))) is ∙ replay_written (own p) q may.written
first_by s [] p Left may is same = refl

pub due_first : (p : Parts) (v : ReplayView) (o : Option Replay) → IsKept p → seen_of p ≡ v → first_replay_of p.owed ≡ o → written_of payload_in (take 1 (owed_of v)) ≡ bytes_of o
due_first p v o k seen is =
    sym (ap (λ (u : ReplayView). written_of payload_in (take 1 (owed_of u))) seen)
    ∙ first_by (own p) p.coming p p.owed k.owed refl refl
    ∙ ap bytes_of is

replays_by : (o : Owed) (r : Replay) → first_replay_of o ≡ Some r → owed_replay_of o ≡ Some r
replays_by Nothing r is = absurd (cc)
replays_by Coming r is = absurd (cc)
replays_by (Began lane places names moment) r is = absurd (cc)
replays_by (Ended lane reply moment count parts d) r is = absurd (cc)
replays_by (Replayed q) r is = is
replays_by Left r is = absurd (cc)

pub first_short : (p : Parts) (r : Replay) → IsKept p → first_replay_of p.owed ≡ Some r → length r.payload.items ≤ MAX_PAYLOAD
first_short p r k is = due_short p r k (replays_by p.owed r is)
