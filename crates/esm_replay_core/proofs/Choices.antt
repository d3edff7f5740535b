-- What comes next is what the history calls for.
use Rattle.std.proofs.Common.{◌≡◌, ℕ, ◌<◌, ◌≤◌, false, List, [], ◌∷◌, length, refl, sym, ap, ap₂, ◌∙◌, subst, arith, Option, Some, None}
use Rattle.std.specs.Prelude.{Result, Ok, Err, IfOk, ◌==◌, is_some, map, slice_get}
use Rattle.std.specs.List.{All, filter_map}
use Rattle.std.proofs.lemmas.Bool.{le-leb, lt-leb}
use Rattle.std.proofs.lemmas.List.Elements.{All-filter}
use Rattle.esm_model.specs.declared.config.Config.{Config}
use Rattle.esm_model.specs.Records.{Record}
use Rattle.esm_model.specs.declared.lane.LaneId.{LaneId}
use Rattle.esm_model.specs.declared.book.Job.{Job}
use Rattle.esm_model.specs.declared.entry.Entry.{Entry}
use Rattle.esm_model.specs.EventText.{event_text}
use Rattle.esm_model.specs.Entries.{calls_begun}
use Rattle.esm_model.specs.Setting.{records_at, sequences_at}
use Rattle.esm_model.specs.Valid.{IsValidRecord}
use Rattle.esm_journal_state.specs.SaidLists.{SaidLists}
use Rattle.esm_replay_model.specs.declared.range.Range.{Range}
use Rattle.esm_replay_model.specs.ReplaySetting.{ReplaySetting, config_of}
use Rattle.esm_replay_model.specs.Pieces.{ReplayPiece, piece, next_call, first_pieces}
use Rattle.esm_replay_model.specs.ReplayRun.{replay_lane, pieces_left}
use Rattle.esm_replay.specs.declared.batch.Batch.{Batch}
use Rattle.esm_replay.specs.Batch.{IsNextBatch, StandWithin, batch_records}
use Rattle.esm_replay.specs.Records.{of_shard, setting_with}
use Rattle.esm_replay.specs.Waiting.{Waiting, NamedPiece, seen_pieces, IsPlaced}
use Rattle.esm_replay_core.specs.declared.decisions.ReplayNext.{ReplayNext}
use Rattle.esm_replay_core.specs.declared.decisions.ReplayNext.TheVariants as next
use Rattle.esm_replay_core.specs.declared.owed.Owed.{Owed}
use Rattle.esm_replay_core.specs.declared.owed.Owed.TheVariants.{Nothing, Coming, Began, Ended, Replayed, Left}
use Rattle.esm_replay_core.specs.declared.choosing.Chosen.{Chosen}
use Rattle.esm_replay_core.specs.Deciding.{job_of, next_of, next_by}
use Rattle.esm_replay_core.specs.Choosing.{IsReady, IsChosen, OwesNext, BeginsBatch, IsBegunOf, IsWaitingFor, StaysWaiting}
use Rattle.esm_replay_core.proofs.Standing.{found_valid, stand_within}

-- the next batch

pub ready_batch : (s : ReplaySetting) (h : List Entry) (c : Config) (calls begun : ℕ) (rs : List Record) (w : Waiting) (found : Option Batch) → IsReady s h c calls begun rs w
    → ((s' : ReplaySetting) → config_of s' ≡ c → All (IsPlaced s' rs) w.pieces → IsNextBatch s' rs w.pieces found) → IsNextBatch s rs w.pieces found
ready_batch s h c calls begun rs w found ready each = each s ready.config_is ready.placed

pub ready_within : (s : ReplaySetting) (h : List Entry) (c : Config) (calls begun : ℕ) (rs : List Record) (w : Waiting) → IsReady s h c calls begun rs w → StandWithin (length rs) w.pieces
ready_within s h c calls begun rs w ready = stand_within s rs w.pieces ready.placed

pub ready_valid : (s : ReplaySetting) (h : List Entry) (c : Config) (calls begun : ℕ) (rs : List Record) (w : Waiting) (batch : Batch) → IsReady s h c calls begun rs w → All IsValidRecord rs → IsNextBatch s rs w.pieces (Some batch) → All IsValidRecord (batch_records rs batch)
ready_valid s h c calls begun rs w batch ready valid is =
    subst (All IsValidRecord) (sym is.1)
    (subst (λ (xs : List Record). All IsValidRecord (filter_map (slice_get xs) batch.places)) (sym (ready.records batch.shard))
    (found_valid (of_shard batch.shard rs) batch.places (All-filter (λ (r : Record). r.shard == batch.shard) IsValidRecord rs valid)))

-- nothing waits

pub none_chosen : (s : ReplaySetting) (h : List Entry) (c : Config) (calls begun : ℕ) (rs : List Record) (w : Waiting) (m : ℕ) → IsReady s h c calls begun rs w → w.pieces ≡ [] → IsChosen s h m (record { next = next.Finished; owed = Nothing })
none_chosen s h c calls begun rs w m ready none = record {
  answer = ap (next_by s h) (sym (ap (λ (ps : List NamedPiece). seen_pieces ps) none) ∙ ready.pieces);
  owes = refl;
}

-- something waits

by_some : (s : ReplaySetting) (h : List Entry) (ps : List ReplayPiece) (call : ReplayPiece) → call ≡ next_call s ps → 1 ≤ length call.places → (answer : ReplayNext)
    → ((p : ReplayPiece) (others : List ReplayPiece) → ps ≡ p ∷ others → next_by s h (p ∷ others) ≡ answer) → next_by s h ps ≡ answer
by_some s h [] call is some answer each = (let none : length call.places ≡ 0 = ap (λ (x : ReplayPiece). length x.places) is in absurd (omega arith))
by_some s h (p ∷ others) call is some answer each = each p others refl

-- a call of the shard's records at the places, with this event
abbrev pub call_of : ℕ → List ℕ → List ℕ → Job
call_of n places event = record { lane = replay_lane n; places = places; closing = None; event = event }

-- the front of the first piece, where something waits
record IsNext (s : ReplaySetting) (h : List Entry) (rs : List Record) (batch : Batch) : Type 0 where
  call : piece batch.shard batch.places ≡ next_call s (pieces_left s h)
  records : batch_records rs batch ≡ records_at s.base batch.shard batch.places
  some : 1 ≤ length batch.places

next_of_batch : (s : ReplaySetting) (h : List Entry) (c : Config) (calls begun : ℕ) (rs : List Record) (w : Waiting) (batch : Batch) → IsReady s h c calls begun rs w → IsNextBatch s rs w.pieces (Some batch) → IsNext s h rs batch
next_of_batch s h c calls begun rs w batch ready is = record { call = is.0 ∙ ap (next_call s) ready.pieces; records = is.1; some = is.2 }

pub spent_chosen : (s : ReplaySetting) (h : List Entry) (c : Config) (calls begun : ℕ) (rs : List Record) (w : Waiting) (m : ℕ) (batch : Batch) → IsReady s h c calls begun rs w → IsNextBatch s rs w.pieces (Some batch) → calls ≤ begun
    → IsChosen s h m (record { next = next.Spent; owed = Nothing })
spent_chosen s h c calls begun rs w m batch ready is spent =
    let n : IsNext s h rs batch = next_of_batch s h c calls begun rs w batch ready is in
    let limit : s.base.calls ≤ calls_begun h = subst (λ (k : ℕ). k ≤ calls_begun h) (sym ready.calls_is) (subst (λ (k : ℕ). calls ≤ k) ready.begun_is spent) in
    record {
      answer = sym (by_some s h (pieces_left s h) (piece batch.shard batch.places) n.call n.some next.Spent (λ p others same. rw (le-leb s.base.calls (calls_begun h) limit) refl));
      owes = refl;
    }

call_by : (s : ReplaySetting) (h : List Entry) (rs : List Record) (c : Config) (m : ℕ) (batch : Batch) (answer : ReplayNext) (owed : Owed) → IsNext s h rs batch → config_of s ≡ c → calls_begun h < s.base.calls → BeginsBatch c batch.shard batch.places (batch_records rs batch) m answer owed
    → (answer ≡ next_of s h) × OwesNext s h m answer owed
call_by s h rs c m batch (next.Call job) (Began lane places names moment) n config_is left begins =
    let event : event_text c (batch_records rs batch) None ≡ event_text (config_of s) (records_at s.base batch.shard batch.places) None = ap₂ (λ (x : Config) (xs : List Record). event_text x xs None) (sym config_is) n.records in
    let job_is : job ≡ job_of s (piece batch.shard batch.places) = begins.0 ∙ ap (call_of batch.shard batch.places) event in
    let next_is : next_of s h ≡ next.Call (job_of s (next_call s (pieces_left s h))) =
    by_some s h (pieces_left s h) (piece batch.shard batch.places) n.call n.some (next.Call (job_of s (next_call s (pieces_left s h))))
    (λ p others same. rw (lt-leb s.base.calls (calls_begun h) left) (ap (λ (ps : List ReplayPiece). next.Call (job_of s (next_call s ps))) (sym same))) in (
      ap next.Call (job_is ∙ ap (job_of s) n.call) ∙ sym next_is,
      (
        begins.1 ∙ ap (λ (j : Job). j.lane) (sym begins.0),
        begins.2 ∙ ap (λ (j : Job). j.places) (sym begins.0),
        record {
          lane_is = begins.1 ∙ ap (λ (p : ReplayPiece). replay_lane p.shard) n.call;
          exact = begins.2 ∙ ap (λ (p : ReplayPiece). p.places) n.call;
          some = subst (λ (xs : List ℕ). 1 ≤ length xs) (sym begins.2) n.some;
          calls_left = left;
          names_are =
              begins.3
              ∙ ap (λ (xs : List Record). map (λ (r : Record). r.seq) xs) n.records
              ∙ ap₂ (λ (l : LaneId) (xs : List ℕ). sequences_at s.base l.shard xs) (sym begins.1) (sym begins.2);
          moment_is = begins.4;
        },
      ),
    )
call_by s h rs c m batch (next.Call job) Nothing n config_is left begins = absurd begins
call_by s h rs c m batch (next.Call job) Coming n config_is left begins = absurd begins
call_by s h rs c m batch (next.Call job) (Ended lane reply moment count parts d) n config_is left begins = absurd begins
call_by s h rs c m batch (next.Call job) (Replayed r) n config_is left begins = absurd begins
call_by s h rs c m batch (next.Call job) Left n config_is left begins = absurd begins
call_by s h rs c m batch next.Spent owed n config_is left begins = absurd begins
call_by s h rs c m batch next.Finished owed n config_is left begins = absurd begins

pub call_chosen : (s : ReplaySetting) (h : List Entry) (c : Config) (calls begun : ℕ) (rs : List Record) (w : Waiting) (m : ℕ) (batch : Batch) (chosen : Chosen) → IsReady s h c calls begun rs w → IsNextBatch s rs w.pieces (Some batch) → begun < calls
    → IsBegunOf c batch.shard batch.places (batch_records rs batch) m chosen → IsChosen s h m chosen
call_chosen s h c calls begun rs w m batch chosen ready is left begins =
    let n : IsNext s h rs batch = next_of_batch s h c calls begun rs w batch ready is in
    let limit : calls_begun h < s.base.calls = subst (λ (k : ℕ). calls_begun h < k) (sym ready.calls_is) (subst (λ (k : ℕ). k < calls) ready.begun_is left) in
    let both : (chosen.next ≡ next_of s h) × OwesNext s h m chosen.next chosen.owed = call_by s h rs c m batch chosen.next chosen.owed n ready.config_is limit begins in
    record { answer = both.0; owes = both.1 }

-- of an answer that may fail
pub chosen_if : {E : Type 0} (result : Result Chosen E) (P Q : Chosen → Type 0) → ((chosen : Chosen) → P chosen → Q chosen) → IfOk result P → IfOk result Q
chosen_if (Ok chosen) P Q each is = each chosen is
chosen_if (Err why) P Q each is = tt

-- what waits first

pub first_stays : (told : SaidLists) (ranges : List Range) (rs : List Record) (old : Option Waiting) (first : Waiting) → old ≡ None
    → ((c : Config) (calls : ℕ) → seen_pieces first.pieces ≡ first_pieces (setting_with c calls told ranges rs)) → ((c : Config) (calls : ℕ) → All (IsPlaced (setting_with c calls told ranges rs) rs) first.pieces)
    → StaysWaiting told ranges rs old (Some first)
first_stays told ranges rs old first none pieces placed c calls h was =
    let s : ReplaySetting = setting_with c calls told ranges rs in
    let early : h ≡ [] = subst (IsWaitingFor s rs h) none was in
    (subst (λ (x : List Entry). seen_pieces first.pieces ≡ pieces_left s x) (sym early) (pieces c calls), placed c calls)

pub none_of : (o : Option Waiting) → is_some o ≡ false → o ≡ None
none_of None none = refl
none_of (Some w) none = absurd (cc)
