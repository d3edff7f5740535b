-- How calls of a replay's book lead on, as one caller makes them.
use Rattle.std.proofs.Common.{◌≡◌, ℕ, ◌<◌, ◌≤◌, Bool, true, false, cond, List, [], ◌∷◌, ◌++◌, length, take, reverse, refl, sym, ap, ap₂, ◌∙◌, subst, arith, append-nil, append_assoc, Some, None}
use Rattle.std.specs.Prelude.{nat_le}
use Rattle.std.proofs.lemmas.Bool.{leb-true}
use Rattle.esm_io.specs.Meanings.{DiskMeaning}
use Rattle.esm_model.specs.Records.{Record}
use Rattle.esm_model.specs.declared.lane.LaneId.{LaneId}
use Rattle.esm_model.specs.declared.book.Job.{Job}
use Rattle.esm_model.specs.declared.called.Called.{Called}
use Rattle.esm_model.specs.declared.entry.Reply.{Reply}
use Rattle.esm_model.specs.declared.entry.Entry.{Entry}
use Rattle.esm_model.specs.declared.entry.Entry.TheVariants.{Came, Began, Ended, Gave, Tried, Closed, Replayed, Shut}
use Rattle.esm_model.specs.Entries.{calls_begun}
use Rattle.esm_serial.specs.Adding.{AddsNoCall, AddsCall, call_to}
use Rattle.esm_replay_model.specs.ReplaySetting.{ReplaySetting, config_of}
use Rattle.esm_replay_model.specs.Pieces.{ReplayPiece, next_call, replay_event, succeeded_of}
use Rattle.esm_replay_model.specs.ReplayRun.{call_out, pieces_left, replay_calls, IsReplay}
use Rattle.esm_replay_core.specs.declared.decisions.ReplayNext.{ReplayNext}
use Rattle.esm_replay_core.specs.declared.decisions.ReplayNext.TheVariants as next
use Rattle.esm_replay_core.specs.View.{ReplayView, setting_of, moment_for}
use Rattle.esm_replay.specs.Coming.{first_change}
use Rattle.esm_replay_core.specs.declared.decisions.Opened.{Opened}
use Rattle.esm_replay_core.specs.Deciding.{job_of, next_by, next_of, next_entries, replayed_entries, done_entries}
use Rattle.esm_replay_book.specs.Books.{BookState, payloads_in}
use Rattle.esm_replay_book.specs.Calls.{Added, AddedAll, AddedSome, IsJob}
use Rattle.esm_replay_book.specs.Serving.{AreGiven, HasGoneOn, IsUnchanged, IsGoing, IsSpent, function_in}
use Rattle.esm_replay_book.proofs.Deciding.{ended_front}
use Rattle.esm_replay_book.proofs.Going.{same_setting}

-- the history alone goes on

-- the calls, and the moments, of a history that goes on by entries: no call ended
record GoesQuietly (gave : ℕ → Bool) (s : ReplaySetting) (h : List Entry) (es : List Entry) : Type 0 where
  calls : (sends : List ℕ → List ℕ) → replay_calls s sends (reverse es ++ h) ≡ replay_calls s sends h
  moments : AreGiven gave h → AreGiven gave (reverse es ++ h)

quiet_next : (gave : ℕ → Bool) (s : ReplaySetting) (h : List Entry) (n : ReplayNext) (t : ℕ) → gave t ≡ true → GoesQuietly gave s h (next_entries n (moment_for h t))
quiet_next gave s h next.Spent t given = record { calls = λ sends. refl; moments = λ were. were }
quiet_next gave s h next.Finished t given = record { calls = λ sends. refl; moments = λ were. were }
quiet_next gave s h (next.Call job) t given = record { calls = λ sends. refl; moments = λ were. (were, (t, given, refl)) }

abbrev call_ended : ReplaySetting → (List ℕ → List ℕ) → List Entry → Reply → Called
call_ended s sends h reply = record { name = (config_of s).function; event = sends (replay_event s (call_out h)); reply = reply }

calls_ended : (s : ReplaySetting) (sends : List ℕ → List ℕ) (h : List Entry) (lane : LaneId) (reply : Reply) (m n : ℕ) (places : List ℕ)
    → replay_calls s sends (reverse (Ended lane reply m ∷ replayed_entries n places m) ++ h) ≡ replay_calls s sends h ++ call_ended s sends h reply ∷ []
calls_ended s sends h lane reply m n [] = refl
calls_ended s sends h lane reply m n (i ∷ places) = refl

moments_ended : (gave : ℕ → Bool) (h : List Entry) (lane : LaneId) (reply : Reply) (t n : ℕ) (places : List ℕ) → gave t ≡ true → AreGiven gave h
    → AreGiven gave (reverse (Ended lane reply (moment_for h t) ∷ replayed_entries n places (moment_for h t)) ++ h)
moments_ended gave h lane reply t n [] given were = (were, (t, given, refl))
moments_ended gave h lane reply t n (i ∷ places) given were = ((were, (t, given, refl)), (t, given, omega arith))

-- books that go on

goes_so : {D : Type 0} (gave : ℕ → Bool) (sends : List ℕ → List ℕ) (first old new : BookState D) (calls more : List Called) → HasGoneOn gave sends first old calls → new.core.opened ≡ old.core.opened → new.found ≡ old.found → (IsUnchanged old → IsUnchanged new)
    → (AreGiven gave old.core.past → AreGiven gave new.core.past) → replay_calls (setting_of new.core) sends new.core.past ≡ replay_calls (setting_of old.core) sends old.core.past ++ more → HasGoneOn gave sends first new (calls ++ more)
goes_so gave sends first old new calls more w opened found unchanged moments called = record {
  opened = opened ∙ w.opened;
  found = found ∙ w.found;
  unchanged = λ were. unchanged (w.unchanged were);
  moments = λ given. moments (w.moments given);
  called = called
      ∙ (ap (λ (cs : List Called). cs ++ more) w.called
      ∙ append_assoc (replay_calls (setting_of first.core) sends first.core.past) calls more);
}

goes_quietly : {D : Type 0} (gave : ℕ → Bool) (sends : List ℕ → List ℕ) (first old new : BookState D) (calls : List Called) → HasGoneOn gave sends first old calls → new.core.opened ≡ old.core.opened → new.found ≡ old.found → (IsUnchanged old → IsUnchanged new)
    → (AreGiven gave old.core.past → AreGiven gave new.core.past) → replay_calls (setting_of new.core) sends new.core.past ≡ replay_calls (setting_of old.core) sends old.core.past → HasGoneOn gave sends first new calls
goes_quietly gave sends first old new calls w opened found unchanged moments called =
    subst (HasGoneOn gave sends first new) (append-nil calls)
    (goes_so gave sends first old new calls [] w opened found unchanged moments (called ∙ sym (append-nil (replay_calls (setting_of old.core) sends old.core.past))))

-- the core is as it was
pub stays_so : {D : Type 0} (t : ℕ) (old new : BookState D) → new.core ≡ old.core → new.found ≡ old.found → AddsNoCall HasGoneOn t old new
stays_so t old new core found gave sends first calls given w =
    goes_quietly gave sends first old new calls w (ap (λ (v : ReplayView). v.opened) core) found (λ were. subst (λ (v : ReplayView). first_change v.opened.said [] v.records ≡ None) (sym core) were)
    (λ were. subst (λ (v : ReplayView). AreGiven gave v.past) (sym core) were) (ap (λ (v : ReplayView). replay_calls (setting_of v) sends v.past) core)

-- records came before the first call
pub came_on : {D : Type 0} (t : ℕ) (records : List Record) (old new : BookState D) → IsGoing old → IsUnchanged new → Added records old new [] → AddsNoCall HasGoneOn t old new
came_on t records old new going unchanged a gave sends first calls given w =
    let none : new.core.past ≡ [] = a.past ∙ going in
    goes_quietly gave sends first old new calls w a.opened a.found (λ were. unchanged)
    (λ were. subst (AreGiven gave) (sym none) tt)
    (ap (λ (h : List Entry). replay_calls (setting_of new.core) sends h) none ∙ sym (ap (λ (h : List Entry). replay_calls (setting_of old.core) sends h) going))

still_unchanged : {D : Type 0} (old new : BookState D) (es : List Entry) → Added old.core.records old new es → IsUnchanged old → IsUnchanged new
still_unchanged old new es a were = ap₂ (λ (o : Opened) (rs : List Record). first_change o.said [] rs) a.opened a.records_are ∙ were

-- a call may have begun
pub asked_on : {D : Type 0} (t : ℕ) (old new : BookState D) → Added old.core.records old new (next_entries (next_of (setting_of old.core) old.core.past) (moment_for old.core.past t)) → AddsNoCall HasGoneOn t old new
asked_on t old new a gave sends first calls given w =
    let s = setting_of old.core in
    let same = same_setting new.core old.core a.opened a.records_are in
    let q = quiet_next gave s old.core.past (next_of s old.core.past) t given in
    goes_quietly gave sends first old new calls w a.opened a.found (still_unchanged old new (next_entries (next_of s old.core.past) (moment_for old.core.past t)) a)
    (λ were. subst (AreGiven gave) (sym a.past) (q.moments were))
    (ap₂ (λ (z : ReplaySetting) (h : List Entry). replay_calls z sends h) same a.past ∙ q.calls sends)

some_payload : (texts : List (List ℕ)) (payload : List ℕ) → texts ≡ payload ∷ [] → 0 < length texts
some_payload texts payload is = (let long : length texts ≡ 1 = ap (λ (xs : List (List ℕ)). length xs) is in omega (arith, long))

-- a call ended, and perhaps what succeeded in it was replayed
ended_on : {D : Type 0} (t : ℕ) (old new : BookState D) (job : Job) (reply : Reply) (n : ℕ) (places : List ℕ) → IsJob (setting_of old.core) old.core.past job
    → Added old.core.records old new (Ended job.lane reply (moment_for old.core.past t) ∷ replayed_entries n places (moment_for old.core.past t))
    → AddsCall HasGoneOn t old new (function_in old) job.event reply
ended_on t old new job reply n places runs a gave sends first calls given w =
    let s = setting_of old.core in
    let h = old.core.past in
    let m = moment_for h t in
    let same = same_setting new.core old.core a.opened a.records_are in
    let event : replay_event s (call_out h) ≡ job.event = sym runs.event in
    goes_so gave sends first old new calls (call_to (function_in old) sends job.event reply ∷ []) w a.opened a.found (still_unchanged old new (Ended job.lane reply m ∷ replayed_entries n places m) a)
    (λ were. subst (AreGiven gave) (sym a.past) (moments_ended gave h job.lane reply t n places given were))
    (ap₂ (λ (z : ReplaySetting) (es : List Entry). replay_calls z sends es) same a.past
    ∙ (calls_ended s sends h job.lane reply m n places
    ∙ ap (λ (e : List ℕ). replay_calls s sends h ++ call_to (function_in old) sends e reply ∷ []) event))

pub done_on : {D : Type 0} (m : DiskMeaning D) (t : ℕ) (old new : BookState D) (job : Job) (reply : Reply) → IsJob (setting_of old.core) old.core.past job
    → AddedAll m old.core.records old new (done_entries (setting_of old.core) old.core.past job.lane reply (moment_for old.core.past t)) → AddsCall HasGoneOn t old new (function_in old) job.event reply
done_on m t old new job reply runs a =
    let call = succeeded_of (setting_of old.core) (call_out old.core.past) reply in
    ended_on t old new job reply call.shard call.places runs a.added

pub stopped_on : {D : Type 0} (m : DiskMeaning D) (t : ℕ) (old new : BookState D) (job : Job) (reply : Reply) → IsJob (setting_of old.core) old.core.past job
    → AddedSome m old.core.records old new (done_entries (setting_of old.core) old.core.past job.lane reply (moment_for old.core.past t)) → AddsCall HasGoneOn t old new (function_in old) job.event reply
stopped_on m t old new job reply runs a =
    let call = succeeded_of (setting_of old.core) (call_out old.core.past) reply in
    let at = moment_for old.core.past t in
    let some : 0 < length (payloads_in (setting_of new.core) (take 1 a.rest)) = some_payload (payloads_in (setting_of new.core) (take 1 a.rest)) a.writing.0 a.writing.1 in
    let front : a.front ≡ Ended job.lane reply at ∷ [] = ended_front (setting_of new.core) call.shard at call.places job.lane reply a.front a.rest a.split a.left some in
    ended_on t old new job reply call.shard [] runs (subst (λ (es : List Entry). Added old.core.records old new es) front a.added)

-- what is left where all calls allowed began

begun_within : (s : ReplaySetting) (h : List Entry) → IsReplay s h → calls_begun h ≤ s.base.calls
begun_within s [] run = omega arith
begun_within s (Began lane places None m ∷ h) run = (let left = run.1.1.calls_left in omega (arith, left))
begun_within s (Began lane places (Some window) m ∷ h) run = absurd run.1.1
begun_within s (Ended lane reply m ∷ h) run = begun_within s h run.0
begun_within s (Replayed shard places m ∷ h) run = begun_within s h run.0
begun_within s (Came shard first count m ∷ h) run = absurd run.1.1
begun_within s (Gave by shard places fate line state m ∷ h) run = absurd run.1.1
begun_within s (Tried lane places closing tries m ∷ h) run = absurd run.1.1
begun_within s (Closed lane window m ∷ h) run = absurd run.1.1
begun_within s (Shut m ∷ h) run = absurd run.1.1

spent_if : (b : Bool) (job : Job) → next.Spent ≡ cond b next.Spent (next.Call job) → b ≡ true
spent_if true job is = refl
spent_if false job is = absurd (cc)

spent_by : (s : ReplaySetting) (h : List Entry) (ps : List ReplayPiece) → next.Spent ≡ next_by s h ps → (nat_le s.base.calls (calls_begun h) ≡ true) × (ps ≡ [] → ⊥)
spent_by s h [] is = absurd (cc)
spent_by s h (p ∷ others) is = (spent_if (nat_le s.base.calls (calls_begun h)) (job_of s (next_call s (p ∷ others))) is, λ none. absurd (cc))

pub spent_so : {D : Type 0} (b : BookState D) → IsReplay (setting_of b.core) b.core.past → next.Spent ≡ next_of (setting_of b.core) b.core.past → IsSpent b
spent_so b run is =
    let s = setting_of b.core in
    let by = spent_by s b.core.past (pieces_left s b.core.past) is in
    let most : s.base.calls ≤ calls_begun b.core.past = leb-true s.base.calls (calls_begun b.core.past) by.0 in
    let within = begun_within s b.core.past run in
    record { calls = omega (arith, most, within); left = by.1 }

finished_if : (b : Bool) (job : Job) → next.Finished ≡ cond b next.Spent (next.Call job) → ⊥
finished_if true job is = absurd (cc)
finished_if false job is = absurd (cc)

finished_by : (s : ReplaySetting) (h : List Entry) (ps : List ReplayPiece) → next.Finished ≡ next_by s h ps → ps ≡ []
finished_by s h [] is = refl
finished_by s h (p ∷ others) is = absurd (finished_if (nat_le s.base.calls (calls_begun h)) (job_of s (next_call s (p ∷ others))) is)

pub finished_so : (s : ReplaySetting) (h : List Entry) → next.Finished ≡ next_of s h → pieces_left s h ≡ []
finished_so s h is = finished_by s h (pieces_left s h) is
