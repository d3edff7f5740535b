-- The records of a failure line are those that came.
use Rattle.std.proofs.Common.{◌≡◌, ℕ, ◌<◌, ◌≤◌, true, List, [], length, sym, refl, ap, ◌∙◌, inl, inr, Option, Some, None, arith}
use Rattle.std.specs.Prelude.{option_map, unwrap_or, slice_index}
use Rattle.std.proofs.lemmas.Option.{slice_get_cases}
use Rattle.esm_model.specs.declared.moment.TheConstants.{MAX_MOMENT}
use Rattle.esm_model.specs.Records.{Record}
use Rattle.esm_model.specs.declared.entry.Entry.{Entry}
use Rattle.esm_model.specs.declared.event.Failure.{Failure}
use Rattle.esm_model.specs.declared.event.Response.{Response}
use Rattle.esm_model.specs.Setting.{Setting, records_of, record_at}
use Rattle.esm_model.specs.Entries.{came_count}
use Rattle.esm_model.specs.FailureLine.{calls_of, response_of, sequence_at, arrival_at, last_of, failure_of}
use Rattle.esm_model.specs.Valid.{IsValidRecord}
use Rattle.esm_model.specs.Step.{Legal}
use Rattle.esm_model.proofs.Records.{came_within}

-- a record that came is there
pub came_there : {A : Type 0} (s : Setting) (h : List Entry) (n i : ℕ) → Legal s h → i < came_count h n → None ≡ record_at s n i → A
came_there s h n i legal came none =
    let within = came_within s h legal n in
    elim (slice_get_cases (records_of s n) i).1 [
      | inl there ↦ absurd (let clash : ◌≡◌ {A = Option Record} None (Some there.0) = none ∙ there.2 in cc)
      | inr past ↦ absurd (let out : length (records_of s n) ≤ i = past.0 in omega (arith, within, came, out))
    ]

pub sequence_there : (s : Setting) (n i : ℕ) (r : Record) → Some r ≡ record_at s n i → r.seq ≡ sequence_at s n i
sequence_there s n i r is = ap (λ (o : Option Record). unwrap_or (option_map (λ (x : Record). x.seq) o) []) is

pub arrival_there : (s : Setting) (n i : ℕ) (r : Record) → Some r ≡ record_at s n i → r.arrival ≡ arrival_at s n i
arrival_there s n i r is = ap (λ (o : Option Record). unwrap_or (option_map (λ (x : Record). x.arrival) o) 0) is

pub arrival_none : (s : Setting) (n i : ℕ) → None ≡ record_at s n i → 0 ≡ arrival_at s n i
arrival_none s n i is = ap (λ (o : Option Record). unwrap_or (option_map (λ (x : Record). x.arrival) o) 0) is

pub arrival_early : (s : Setting) (n i : ℕ) (r : Record) → ((k j : ℕ) (x : Record) → record_at s k j ≡ Some x → IsValidRecord x) → Some r ≡ record_at s n i → r.arrival ≤ MAX_MOMENT
arrival_early s n i r valid is = (valid n i r (sym is)).arrival

pub failure_told : (s : Setting) (h : List Entry) (n : ℕ) (places : List ℕ) (m first_place last_place calls : ℕ) (first last : List ℕ) (first_arrival last_arrival : ℕ) (answer : Option Response)
    → first_place ≡ slice_index places 0 → last_place ≡ last_of places
    → first ≡ sequence_at s n first_place → first_arrival ≡ arrival_at s n first_place
    → last ≡ sequence_at s n last_place → last_arrival ≡ arrival_at s n last_place
    → calls ≡ calls_of h n first_place → answer ≡ response_of h n first_place
    → (let f : Failure = record { shard = n; place = first_place; first = first; last = last; first_arrival = first_arrival; last_arrival = last_arrival; count = length places; expired = true; calls = calls; response = answer; moment = m } in f)
    ≡ failure_of s h n places true m
failure_told s h n places m first_place last_place calls first last first_arrival last_arrival answer at_first at_last e_first e_first_arrival e_last e_last_arrival e_calls e_answer =
    rw (e_first, e_first_arrival, e_last, e_last_arrival, e_calls, e_answer, at_first, at_last) refl
