-- Each call of a legal history over records of changes has the elements of its batch.
use Rattle.std.proofs.Common.{◌≡◌, ℕ, ◌==◌, Bool, true, false, cond, List, [], ◌∷◌, ◌++◌, refl, sym, ap₂, subst, Option, Some, None}
use Rattle.std.specs.List.{All, slice_get}
use Rattle.std.proofs.lemmas.Bool.{false≢true}
use Rattle.std.proofs.lemmas.List.Elements.{All-cons, All-get_or, All-nil}
use Rattle.std.proofs.lemmas.Option.{get_or_from_slice_get, slice_get_within}
use Rattle.esm_model.specs.Calls.{calls, event_of, last_event, window_call}
use Rattle.esm_model.specs.Entries.{batcher, is_running}
use Rattle.esm_model.specs.Lane.{same_lane}
use Rattle.esm_model.specs.Setting.{Setting, record_at, records_at, records_of}
use Rattle.esm_model.specs.Valid.{IsStreamConfig}
use Rattle.esm_model.specs.Windows.{has_windows}
use Rattle.esm_model.specs.declared.called.Called.{Called}
use Rattle.esm_model.specs.declared.entry.Entry.{Entry}
use Rattle.esm_model.specs.declared.entry.Reply.{Reply}
use Rattle.esm_model.specs.declared.entry.Entry.TheVariants.{Came, Began, Ended, Gave, Tried, Closed, Replayed, Shut}
use Rattle.esm_model.specs.Records.{Record}
use Rattle.esm_ddb.specs.BatchEvents.{AreRecordsOfChanges, HaveTheirElements, HaveTheirElementsRunning, element_calls, last_elements}
use Rattle.esm_ddb.specs.Event.{ddb_event}
use Rattle.esm_ddb.specs.LineByLine.{IsOfChange}
use Rattle.esm_ddb.specs.RunEvent.{elements_event}
use Rattle.esm_ddb.specs.Translating.{source_of}
use Rattle.esm_ddb.proofs.KeptStates.{KeepStates, states_kept, window_has_state}
use Rattle.esm_ddb.proofs.RunEvents.{has_elements}

-- ---- the records of a batch

found_all : (P : Record → Type 0) (rs : List Record) (i : ℕ) (r : Record) → All P rs → slice_get rs i ≡ Some r → P r
found_all P rs i r all at = subst P (get_or_from_slice_get rs i r r at) (All-get_or P rs i r (slice_get_within rs i r at) all)

all_more : (P : Record → Type 0) (s : Setting) (n x : ℕ) (xs : List ℕ) (o : Option Record) → record_at s n x ≡ o → ((r : Record) → o ≡ Some r → P r) → All P (records_at s n xs)
    → All P (records_at s n (x ∷ xs))
all_more P s n x xs None is each before =
    let same : records_at s n (x ∷ xs) ≡ records_at s n xs = rw is refl in
    subst (λ (rs : List Record). All P rs) (sym same) before
all_more P s n x xs (Some r) is each before =
    let more : records_at s n (x ∷ xs) ≡ r ∷ records_at s n xs = rw is refl in
    subst (λ (rs : List Record). All P rs) (sym more) (All-cons P r (records_at s n xs) (each r refl) before)

at_places : (P : Record → Type 0) (s : Setting) (n : ℕ) (places : List ℕ) → All P (records_of s n) → All P (records_at s n places)
at_places P s n [] all = All-nil P
at_places P s n (x ∷ xs) all = all_more P s n x xs (record_at s n x) refl (λ r is. found_all P (records_of s n) x r all is) (at_places P s n xs all)

event_is : (s : Setting) (h : List Entry) → (has_windows s.config ≡ true → KeepStates s h) → IsStreamConfig s.config → AreRecordsOfChanges s → (n : ℕ) (places : List ℕ) (closing : Option ℕ)
    → ddb_event (event_of s h n places closing) ≡ elements_event s.config (records_at s n places) (window_call s h n places closing)
event_is s h keep config all n places closing =
    has_elements s.config (records_at s n places) (window_call s h n places closing) config (at_places (IsOfChange (source_of s.config)) s n places (all n)) (window_has_state s h keep n places closing)

-- ---- the call that runs in a lane

still : (t b : Bool) → cond t false b ≡ true → b ≡ true
still true b e = absurd (false≢true e)
still false b e = e

-- one that begins
begun_now : (t : Bool) (event elements last last_of : List ℕ) (b : Bool) → ddb_event event ≡ elements → cond t true b ≡ true → (b ≡ true → ddb_event last ≡ last_of) → ddb_event (cond t event last) ≡ cond t elements last_of
begun_now true event elements last last_of b is runs before = is
begun_now false event elements last last_of b is runs before = before runs

pub running_is : HaveTheirElementsRunning
running_is s [] legal config found all lane runs = absurd (false≢true runs)
running_is s (Began at places closing m ∷ h) legal config found all lane runs =
    begun_now (same_lane at lane) (event_of s h lane.shard places closing) (elements_event s.config (records_at s lane.shard places) (window_call s h lane.shard places closing)) (last_event s h lane) (last_elements s h lane) (is_running h lane)
    (event_is s h (λ windows. states_kept s (found windows) h legal.0) config all lane.shard places closing) runs (running_is s h legal.0 config found all lane)
running_is s (Ended at reply m ∷ h) legal config found all lane runs = running_is s h legal.0 config found all lane (still (same_lane at lane) (is_running h lane) runs)
running_is s (Came n first count m ∷ h) legal config found all lane runs = running_is s h legal.0 config found all lane runs
running_is s (Gave by n places f line state m ∷ h) legal config found all lane runs = running_is s h legal.0 config found all lane runs
running_is s (Tried at places closing t m ∷ h) legal config found all lane runs = running_is s h legal.0 config found all lane runs
running_is s (Closed at w m ∷ h) legal config found all lane runs = running_is s h legal.0 config found all lane runs
running_is s (Replayed n places m ∷ h) legal config found all lane runs = running_is s h legal.0 config found all lane runs
running_is s (Shut m ∷ h) legal config found all lane runs = running_is s h legal.0 config found all lane runs

-- ---- the calls

-- a call of the function that was sent this
abbrev call_with : Setting → Reply → List ℕ → Called
call_with s reply event = record { name = s.config.function; event = event; reply = reply }

one_more : (s : Setting) (sends : List ℕ → List ℕ) (reply : Reply) (b : Bool) (cs ds : List Called) (event other : List ℕ) → cs ≡ ds → event ≡ other
    → cond b (cs ++ call_with s reply (sends event) ∷ []) cs ≡ cond b (ds ++ call_with s reply (sends other) ∷ []) ds
one_more s sends reply b cs ds event other before is = ap₂ (λ (xs : List Called) (e : List ℕ). cond b (xs ++ call_with s reply (sends e) ∷ []) xs) before is

pub calls_are : HaveTheirElements
calls_are s sends [] legal config found all k = refl
calls_are s sends (Ended lane reply m ∷ h) legal config found all k =
    one_more s sends reply (batcher s h lane == k) (calls s (λ event. sends (ddb_event event)) h k) (element_calls s sends h k) (ddb_event (last_event s h lane)) (last_elements s h lane)
    (calls_are s sends h legal.0 config found all k) (running_is s h legal.0 config found all lane legal.1.1)
calls_are s sends (Began at places closing m ∷ h) legal config found all k = calls_are s sends h legal.0 config found all k
calls_are s sends (Came n first count m ∷ h) legal config found all k = calls_are s sends h legal.0 config found all k
calls_are s sends (Gave by n places f line state m ∷ h) legal config found all k = calls_are s sends h legal.0 config found all k
calls_are s sends (Tried at places closing t m ∷ h) legal config found all k = calls_are s sends h legal.0 config found all k
calls_are s sends (Closed at w m ∷ h) legal config found all k = calls_are s sends h legal.0 config found all k
calls_are s sends (Replayed n places m ∷ h) legal config found all k = calls_are s sends h legal.0 config found all k
calls_are s sends (Shut m ∷ h) legal config found all k = calls_are s sends h legal.0 config found all k
