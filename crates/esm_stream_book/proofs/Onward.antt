-- What a batcher knows of a shared history while entries of others follow, one after the other.
use Rattle.std.proofs.Common.{◌≡◌, ◌≢◌, ℕ, ◌+◌, ◌≤◌, true, false, List, [], ◌∷◌, ◌++◌, refl, sym, ap, ◌∙◌, subst, inl, inr, Option, Some, None, append_assoc}
use Rattle.std.specs.Prelude.{◌==◌}
use Rattle.std.proofs.lemmas.Bool.{cases_Bool, eq-eqb}
use Rattle.std.proofs.lemmas.List.{append-nil}
use Rattle.esm_model.specs.declared.book.Job.{Job}
use Rattle.esm_model.specs.declared.lane.LaneId.{LaneId}
use Rattle.esm_model.specs.declared.entry.Entry.{Entry}
use Rattle.esm_model.specs.declared.setup.Setup.{Setup}
use Rattle.esm_model.specs.declared.setup.Told.{Told}
use Rattle.esm_model.specs.Setting.{Setting, Stream, Extends, over}
use Rattle.esm_model.specs.Entries.{came_count, is_running, is_shut, batcher, last_call, batch_of, calls_begun}
use Rattle.esm_model.specs.Calls.{calls, last_event, has_end_of}
use Rattle.esm_model.specs.Step.{Legal}
use Rattle.esm_model.specs.Kept.{MayFollowAll, IsLegal, entries_after}
use Rattle.esm_model.specs.Books.{entries_told, streams_told, setting_told, author, seat_of, lane_of_entry, stream_may_follow}
use Rattle.esm_model.specs.Laws.{CallsKept, CallsKeptOver}
use Rattle.esm_model.proofs.CallsMade.{batcher_stays}
use Rattle.esm_model.proofs.TellingFacts.{entries_more, told_extends}
use Rattle.esm_model.specs.GoingOn.{OthersFollow}
use Rattle.esm_stream_book.specs.Batchers.{calls_told, Rests, RunsJob}
use Rattle.esm_stream_core.specs.Quiet.{IsQuiet}
use Rattle.esm_stream_book.specs.Finishing.{HasFinished, AreSpent}
use Rattle.esm_stream_book.proofs.OneMore.{IsElse, AllRest, ends_none, rests_on, StaysOn, stays_on, came_before, event_over}
use Rattle.esm_stream_book.proofs.Quiet.{IsOther, not_came, streams_stay, quiet_on, shut_on, begun_on}

-- one entry after the other

may_front : (may : List Told → Told → Type 0) (h xs ys : List Told) → MayFollowAll may h (xs ++ ys) → MayFollowAll may h xs
may_front may h [] ys all = tt
may_front may h (x ∷ xs) ys all = (all.0, may_front may (h ++ x ∷ []) xs ys all.1)

regrouped : (h : List Told) (t : Told) (es : List Told) → h ++ t ∷ es ≡ (h ++ t ∷ []) ++ es
regrouped h t es = sym (append_assoc h (t ∷ []) es)

legal_first : (setup : Setup) (h : List Told) (t : Told) (es : List Told) → IsLegal (stream_may_follow setup) (h ++ t ∷ es) → IsLegal (stream_may_follow setup) (h ++ t ∷ [])
legal_first setup h t es legal = may_front (stream_may_follow setup) [] (h ++ t ∷ []) es (subst (IsLegal (stream_may_follow setup)) (regrouped h t es) legal)

-- the first of others is another's, and so are those behind it
pub first_else : (setup : Setup) (n : ℕ) (h : List Told) (t : Told) (es : List Told) → entries_after (author setup) n h (t ∷ es) ≡ [] → (author setup h t ≢ n) × (entries_after (author setup) n (h ++ t ∷ []) es ≡ [])
first_else setup n h t es none = elim (cases_Bool (author setup h t == n)) [
  | inl same ↦ absurd (let clash : t ∷ entries_after (author setup) n (h ++ t ∷ []) es ≡ [] = rw same at none in cc)
  | inr apart ↦ (
    (λ is. let same : (author setup h t == n) ≡ true = eq-eqb (author setup h t) n is in absurd (cc)),
    (rw apart at none),
  )
]

-- one more entry, of another
pub record OneElse (setup : Setup) (k : ℕ) (h : List Told) (t : Told) : Type 0 where
  pub legal : IsLegal (stream_may_follow setup) (h ++ t ∷ [])
  pub other : author setup h t ≢ k + 1

last_all : (setup : Setup) (k : ℕ) (P : List Told → Type 0) → ((h : List Told) (t : Told) → OneElse setup k h t → P h → P (h ++ t ∷ [])) → (h es : List Told) → OthersFollow author stream_may_follow setup (k + 1) h es → P h → P (h ++ es)
last_all setup k P one h [] follow now = subst P (sym (append-nil h)) now
last_all setup k P one h (t ∷ es) follow now =
    let parts = first_else setup (k + 1) h t es follow.others in
    subst P (append_assoc h (t ∷ []) es)
    (last_all setup k P one (h ++ t ∷ []) es (record { legal = subst (IsLegal (stream_may_follow setup)) (regrouped h t es) follow.legal; others = parts.1 })
    (one h t (record { legal = legal_first setup h t es follow.legal; other = parts.0 }) now))

-- the batchers of a setting are those of each that has its configuration
same_seat : (setup : Setup) (a b : List Told) (h : List Entry) (by : Option LaneId) → seat_of (setting_told setup a) h by ≡ seat_of (setting_told setup b) h by
same_seat setup a b h None = refl
same_seat setup a b h (Some lane) = refl

module _ (kept_legal : (setup : Setup) (history : List Told) (streams : List Stream) → IsLegal (stream_may_follow setup) history → Extends (streams_told history) streams → Legal (over (setting_told setup history) streams) (entries_told history))
    (calls_kept : (s : Setting) (sends : List ℕ → List ℕ) (later before : List Entry) (k : ℕ) → CallsKept s sends later before k)
    (kept_over : (s : Setting) (sends : List ℕ → List ℕ) (h : List Entry) (k : ℕ) (after : List Stream) → Extends s.streams after → Legal s h → CallsKeptOver s sends h k after) where
  legal_now : (setup : Setup) (h : List Told) → IsLegal (stream_may_follow setup) h → Legal (setting_told setup h) (entries_told h)
  legal_now setup h legal = kept_legal setup h (streams_told h) legal (λ n i r at. at)

  module _ (setup : Setup) (k : ℕ) (h : List Told) (t : Told) (one : OneElse setup k h t) where
    legal_before : Legal (setting_told setup h) (entries_told h)
    legal_before = legal_now setup h (may_front (stream_may_follow setup) [] h (t ∷ []) one.legal)

    -- over the records that came by then
    legal_over : Legal (setting_told setup (h ++ t ∷ [])) (entries_told h)
    legal_over = kept_legal setup h (streams_told (h ++ t ∷ [])) (may_front (stream_may_follow setup) [] h (t ∷ []) one.legal) (told_extends h (t ∷ []))

    else_over : IsElse (setting_told setup (h ++ t ∷ [])) (entries_told h) k t.entry
    else_over is = one.other (same_seat setup h (h ++ t ∷ []) (entries_told h) (lane_of_entry t.entry) ∙ is)

    calls_one : (sends : List ℕ → List ℕ) → calls_told setup sends (h ++ t ∷ []) k ≡ calls_told setup sends h k
    calls_one sends =
        let s = setting_told setup (h ++ t ∷ []) in
        let none : has_end_of s (t.entry ∷ []) (entries_told h) k ≡ false = rw (ends_none s (entries_told h) k t.entry else_over) refl in
        ap (λ es. calls s sends es k) (entries_more h t)
        ∙ (calls_kept s sends (t.entry ∷ []) (entries_told h) k).same none
        ∙ kept_over (setting_told setup h) sends (entries_told h) k (streams_told (h ++ t ∷ [])) (told_extends h (t ∷ [])) legal_before

    rests_one : Rests setup h k → Rests setup (h ++ t ∷ []) k
    rests_one rest =
        let s = setting_told setup (h ++ t ∷ []) in
        subst (λ es. AllRest s es k) (sym (entries_more h t)) (rests_on s (entries_told h) k t.entry legal_over else_over rest)

    runs_one : (job : Job) → RunsJob setup h k job → RunsJob setup (h ++ t ∷ []) k job
    runs_one job runs =
        let s = setting_told setup (h ++ t ∷ []) in
        let more = entries_more h t in
        let on : StaysOn s (entries_told h) t.entry job.lane = stays_on s (entries_told h) k t.entry job.lane else_over runs.served in
        record {
          served = subst (λ es. batcher s es job.lane ≡ k) (sym more) (batcher_stays s t.entry (entries_told h) job.lane runs.came ∙ runs.served);
          came = subst (λ es. 1 ≤ came_count es job.lane.shard) (sym more) (came_before t.entry (entries_told h) job.lane.shard runs.came);
          running = ap (λ es. is_running es job.lane) more ∙ on.running ∙ runs.running;
          places = runs.places ∙ ap batch_of (sym (ap (λ es. last_call es job.lane) more ∙ on.last));
          event = runs.event ∙ sym (ap (λ es. last_event s es job.lane) more ∙ on.event ∙ event_over kept_over (setting_told setup h) (entries_told h) job.lane (streams_told (h ++ t ∷ [])) (told_extends h (t ∷ [])) legal_before runs.running);
        }

    finished_one : HasFinished setup h k → HasFinished setup (h ++ t ∷ []) k
    finished_one finished =
        let s = setting_told setup (h ++ t ∷ []) in
        let more = entries_more h t in
        let legal : Legal s (t.entry ∷ entries_told h) = subst (Legal s) more (legal_now setup (h ++ t ∷ []) one.legal) in
        let other : IsOther t.entry = not_came s (entries_told h) t.entry legal finished.shut in
        let before : IsQuiet s (entries_told h) k = subst (λ (ts : List Stream). IsQuiet (over (setting_told setup h) ts) (entries_told h) k) (sym (streams_stay h t other)) finished.quiet in
        record {
          shut = subst (λ es. is_shut es ≡ true) (sym more) (shut_on t.entry (entries_told h) finished.shut);
          quiet = subst (λ es. IsQuiet s es k) (sym more) (quiet_on s (entries_told h) k t.entry legal finished.shut else_over before);
        }

  pub calls_last : (setup : Setup) (sends : List ℕ → List ℕ) (h es : List Told) (k : ℕ) → OthersFollow author stream_may_follow setup (k + 1) h es → calls_told setup sends (h ++ es) k ≡ calls_told setup sends h k
  calls_last setup sends h es k follow =
      last_all setup k (λ g. calls_told setup sends g k ≡ calls_told setup sends h k) (λ g t one same. calls_one setup k g t one sends ∙ same) h es follow refl

  pub rests_last : (setup : Setup) (h es : List Told) (k : ℕ) → OthersFollow author stream_may_follow setup (k + 1) h es → Rests setup h k → Rests setup (h ++ es) k
  rests_last setup h es k follow rest = last_all setup k (λ g. Rests setup g k) (λ g t one now. rests_one setup k g t one now) h es follow rest

  pub runs_last : (setup : Setup) (h es : List Told) (k : ℕ) (job : Job) → OthersFollow author stream_may_follow setup (k + 1) h es → RunsJob setup h k job → RunsJob setup (h ++ es) k job
  runs_last setup h es k job follow runs = last_all setup k (λ g. RunsJob setup g k job) (λ g t one now. runs_one setup k g t one job now) h es follow runs

  pub finished_last : (setup : Setup) (h es : List Told) (k : ℕ) → OthersFollow author stream_may_follow setup (k + 1) h es → HasFinished setup h k → HasFinished setup (h ++ es) k
  finished_last setup h es k follow finished = last_all setup k (λ g. HasFinished setup g k) (λ g t one now. finished_one setup k g t one now) h es follow finished

-- the calls that began stay

spent_on : (setup : Setup) (h es : List Told) → AreSpent setup h → AreSpent setup (h ++ es)
spent_on setup h [] spent = subst (AreSpent setup) (sym (append-nil h)) spent
spent_on setup h (t ∷ es) spent =
    subst (AreSpent setup) (append_assoc h (t ∷ []) es)
    (spent_on setup (h ++ t ∷ []) es (subst (λ hs. setup.calls ≤ calls_begun hs) (sym (entries_more h t)) (begun_on t.entry (entries_told h) setup.calls spent)))

pub spent_last : (setup : Setup) (h es : List Told) (n : ℕ) → OthersFollow author stream_may_follow setup n h es → AreSpent setup h → AreSpent setup (h ++ es)
spent_last setup h es n follow spent = spent_on setup h es spent
