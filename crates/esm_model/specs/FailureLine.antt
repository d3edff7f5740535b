-- What a failure line says. Source: the Lambda Developer Guide, event source mappings for Kinesis, failure destinations.
use Rattle.std.specs.Prelude.{ℕ, suc, ◌-◌, ◌==◌, Bool, ◌&&◌, List, [], ◌∷◌, length, Option, Some, None, option_map, unwrap_or, slice_index, if◌then◌else◌}
use Rattle.esm_model.specs.Records.{Record}
use Rattle.esm_model.specs.declared.entry.Reply.{Reply}
use Rattle.esm_model.specs.declared.entry.Reply.TheVariants.{Answered, Garbled, Lost}
use Rattle.esm_model.specs.declared.entry.Entry.{Entry}
use Rattle.esm_model.specs.declared.entry.Entry.TheVariants.{Began, Ended}
use Rattle.esm_model.specs.declared.event.Failure.{Failure}
use Rattle.esm_model.specs.declared.event.Response.{Response}
use Rattle.esm_model.specs.Setting.{Setting, record_at}
use Rattle.esm_model.specs.Entries.{holds, last_call, batch_of}
use Rattle.esm_model.specs.FailureText.{failure_text}

abbrev pub calls_of_after : ℕ → ℕ → ℕ → Entry → ℕ
calls_of_after n i before (Began lane places closing moment) = if (lane.shard == n) && holds places i then suc before else before
calls_of_after n i before _ = before

-- the number of calls whose batch held the place
abbrev pub calls_of : List Entry → ℕ → ℕ → ℕ
calls_of [] n i = 0
calls_of (e ∷ h) n i = calls_of_after n i (calls_of h n i) e

-- the response in a reply: none where the reply is lost or garbled
abbrev pub response_in : Reply → Option Response
response_in (Answered status error body) = Some (record { status = status; error = error })
response_in (Garbled bytes) = None
response_in Lost = None

abbrev pub response_after : List Entry → ℕ → ℕ → Option Response → Entry → Option Response
response_after h n i before (Ended lane reply moment) = if (lane.shard == n) && holds (batch_of (last_call h lane)) i then response_in reply else before
response_after h n i before _ = before

-- the answer of the last call whose batch held the place
abbrev pub response_of : List Entry → ℕ → ℕ → Option Response
response_of [] n i = None
response_of (e ∷ h) n i = response_after h n i (response_of h n i) e

-- the sequence number of the record at the place
abbrev pub sequence_at : Setting → ℕ → ℕ → List ℕ
sequence_at s n i = unwrap_or (option_map (λ (r : Record). r.seq) (record_at s n i)) []

-- the arrival of the record at the place, in milliseconds since 1970
abbrev pub arrival_at : Setting → ℕ → ℕ → ℕ
arrival_at s n i = unwrap_or (option_map (λ (r : Record). r.arrival) (record_at s n i)) 0

-- the last of the places
abbrev pub last_of : List ℕ → ℕ
last_of places = slice_index places (length places - 1)

-- what the line says of records that are given up at the moment, after the history
abbrev pub failure_of : Setting → List Entry → ℕ → List ℕ → Bool → ℕ → Failure
failure_of s h n places expired m = record {
  shard = n;
  place = slice_index places 0;
  first = sequence_at s n (slice_index places 0);
  last = sequence_at s n (last_of places);
  first_arrival = arrival_at s n (slice_index places 0);
  last_arrival = arrival_at s n (last_of places);
  count = length places;
  expired = expired;
  calls = calls_of h n (slice_index places 0);
  response = response_of h n (slice_index places 0);
  moment = m;
}

-- the failure line: there is one if and only if a destination is set
abbrev pub failure_line : Setting → List Entry → ℕ → List ℕ → Bool → ℕ → Option (List ℕ)
failure_line s h n places expired m = option_map (λ (destination : List ℕ). failure_text s.config (failure_of s h n places expired m)) s.config.destination
