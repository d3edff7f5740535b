-- What the entries of other seats leave of a batcher's calls, of its rest and of the call that it runs.
use Rattle.std.proofs.Common.{◌≡◌, ◌≢◌, ℕ, suc, ◌+◌, ◌≤◌, true, false, eqb, List, [], ◌∷◌, ◌++◌, refl, sym, ap, ◌∙◌, subst, arith, append_assoc, ne_eqb, eq-eqb}
use Rattle.std.specs.Prelude.{◌==◌}
use Rattle.std.proofs.lemmas.List.{append-nil, append_cancel_left}
use Rattle.std.proofs.lemmas.Bool.{and_right, cond-true, cond-false}
use Rattle.esm_model.specs.declared.moment.TheConstants.{MAX_MOMENT}
use Rattle.esm_model.specs.declared.item.Message.{Message}
use Rattle.esm_model.specs.declared.lane.LaneId.{LaneId}
use Rattle.esm_model.specs.declared.book.Job.{Job}
use Rattle.esm_model.specs.declared.called.Called.{Called}
use Rattle.esm_model.specs.declared.entry.Reply.TheVariants.{Lost}
use Rattle.esm_model.specs.declared.entry.Entry.{Entry}
use Rattle.esm_model.specs.declared.entry.Entry.TheVariants.{Came, Began, Ended, Gave, Tried, Closed, Replayed, Shut}
use Rattle.esm_model.specs.declared.setup.Told.{Told}
use Rattle.esm_model.specs.declared.setup.Setup.{Setup}
use Rattle.esm_model.specs.Lane.{same_lane}
use Rattle.esm_model.specs.Entries.{last_moment, last_call, batch_of, is_running}
use Rattle.esm_model.specs.Kept.{IsLegal}
use Rattle.esm_model.specs.Books.{entries_told, lane_of_entry}
use Rattle.esm_model.specs.GoingOn.{OthersFollow}
use Rattle.esm_queue_model.specs.QueueSetting.{QueueSetting, ExtendsMessages, over_messages}
use Rattle.esm_queue_model.specs.QueueEntries.{queue_of, queue_lane}
use Rattle.esm_queue_model.specs.QueueBatch.{queue_event, last_queue_event, queue_calls}
use Rattle.esm_queue_model.specs.QueueStep.{LegalQueue}
use Rattle.esm_queue_model.specs.QueueBooks.{messages_told, queue_setting_told, queue_seat, queue_author, queue_may_follow}
use Rattle.esm_queue_model.specs.HistoryLaws.{QueueCallsKeptOver}
use Rattle.esm_queue_book.specs.Batchers.{queue_calls_told, QueueRests, RunsQueueJob}
use Rattle.esm_queue_book.proofs.Telling.{entries_more, told_extends, may_front, none_of_author}

-- the laws of queues' histories
pub record AreLaws : Type 0 where
  pub legal : (setup : Setup) (history : List Told) (messages : List Message) → IsLegal (queue_may_follow setup) history → ExtendsMessages (messages_told history) messages → LegalQueue (over_messages (queue_setting_told setup history) messages) (entries_told history)
  pub calls : (s : QueueSetting) (sends : List ℕ → List ℕ) (h : List Entry) (k : ℕ) (after : List Message) → ExtendsMessages s.messages after → LegalQueue s h → QueueCallsKeptOver s sends h k after

-- an entry of another seat

-- the entry is not one of the batcher's
abbrev pub IsOther : ℕ → Entry → Type 0
IsOther k e = queue_seat (lane_of_entry e) ≢ k + 1

other_number : (at : LaneId) (k : ℕ) → suc at.lane ≢ k + 1 → (at.lane == k) ≡ false
other_number at k ne = ne_eqb at.lane k (λ is. ne (omega (arith, is)))

other_lane : (at : LaneId) (k : ℕ) → suc at.lane ≢ k + 1 → same_lane at (queue_lane k) ≡ false
other_lane at k ne = and_right (at.shard == 0) (at.lane == k) (other_number at k ne)

running_other : (e : Entry) (h : List Entry) (k : ℕ) → IsOther k e → is_running (e ∷ h) (queue_lane k) ≡ is_running h (queue_lane k)
running_other (Began at places closing m) h k ne = cond-false (same_lane at (queue_lane k)) true (is_running h (queue_lane k)) (other_lane at k ne)
running_other (Ended at reply m) h k ne = cond-false (same_lane at (queue_lane k)) false (is_running h (queue_lane k)) (other_lane at k ne)
running_other (Came shard first count m) h k ne = refl
running_other (Gave by shard places f line state m) h k ne = refl
running_other (Tried at places closing tries m) h k ne = refl
running_other (Closed at window m) h k ne = refl
running_other (Replayed shard places m) h k ne = refl
running_other (Shut m) h k ne = refl

batch_other : (e : Entry) (h : List Entry) (k : ℕ) → IsOther k e → batch_of (last_call (e ∷ h) (queue_lane k)) ≡ batch_of (last_call h (queue_lane k))
batch_other (Began at places closing m) h k ne = rw (other_lane at k ne) refl
batch_other (Ended at reply m) h k ne = refl
batch_other (Came shard first count m) h k ne = refl
batch_other (Gave by shard places f line state m) h k ne = refl
batch_other (Tried at places closing tries m) h k ne = refl
batch_other (Closed at window m) h k ne = refl
batch_other (Replayed shard places m) h k ne = refl
batch_other (Shut m) h k ne = refl

event_other : (s : QueueSetting) (e : Entry) (h : List Entry) (k : ℕ) → IsOther k e → last_queue_event s (e ∷ h) (queue_lane k) ≡ last_queue_event s h (queue_lane k)
event_other s (Began at places closing m) h k ne = cond-false (same_lane at (queue_lane k)) (queue_event s (queue_of s h) m places) (last_queue_event s h (queue_lane k)) (other_lane at k ne)
event_other s (Ended at reply m) h k ne = refl
event_other s (Came shard first count m) h k ne = refl
event_other s (Gave by shard places f line state m) h k ne = refl
event_other s (Tried at places closing tries m) h k ne = refl
event_other s (Closed at window m) h k ne = refl
event_other s (Replayed shard places m) h k ne = refl
event_other s (Shut m) h k ne = refl

calls_other : (s : QueueSetting) (sends : List ℕ → List ℕ) (e : Entry) (h : List Entry) (k : ℕ) → IsOther k e → queue_calls s sends (e ∷ h) k ≡ queue_calls s sends h k
calls_other s sends (Ended at reply m) h k ne =
    cond-false (at.lane == k) (queue_calls s sends h k ++ record { name = s.config.function; event = sends (last_queue_event s h at); reply = reply } ∷ []) (queue_calls s sends h k) (other_number at k ne)
calls_other s sends (Began at places closing m) h k ne = refl
calls_other s sends (Came shard first count m) h k ne = refl
calls_other s sends (Gave by shard places f line state m) h k ne = refl
calls_other s sends (Tried at places closing tries m) h k ne = refl
calls_other s sends (Closed at window m) h k ne = refl
calls_other s sends (Replayed shard places m) h k ne = refl
calls_other s sends (Shut m) h k ne = refl

-- the event text over more messages

moment_within : (s : QueueSetting) (h : List Entry) → LegalQueue s h → last_moment h ≤ MAX_MOMENT
moment_within s [] legal = omega arith
moment_within s (e ∷ h) legal = legal.1.0.within

-- the calls with one that ends now
calls_ended : (s : QueueSetting) (h : List Entry) (k m : ℕ) → queue_calls s (λ x. x) (Ended (queue_lane k) Lost m ∷ h) k ≡ queue_calls s (λ x. x) h k ++ record { name = s.config.function; event = last_queue_event s h (queue_lane k); reply = Lost } ∷ []
calls_ended s h k m =
    cond-true (eqb k k) (queue_calls s (λ x. x) h k ++ record { name = s.config.function; event = last_queue_event s h (queue_lane k); reply = Lost } ∷ []) (queue_calls s (λ x. x) h k) (eq-eqb k k refl)

abbrev first_event : List Called → List ℕ
first_event [] = []
first_event (c ∷ cs) = c.event

-- a call that runs may end at once, and its event text is then in the calls
event_over : AreLaws → (s : QueueSetting) (h : List Entry) (k : ℕ) (after : List Message) → ExtendsMessages s.messages after → LegalQueue s h → is_running h (queue_lane k) ≡ true → last_queue_event (over_messages s after) h (queue_lane k) ≡ last_queue_event s h (queue_lane k)
event_over laws s h k after goes legal running =
    let m : ℕ = last_moment h in
    let over : QueueSetting = over_messages s after in
    let ended : LegalQueue s (Ended (queue_lane k) Lost (last_moment h) ∷ h) = (legal, (record { not_back = omega arith; within = moment_within s h legal }, running)) in
    let before : queue_calls over (λ x. x) h k ≡ queue_calls s (λ x. x) h k = laws.calls s (λ x. x) h k after goes legal in
    let both : queue_calls over (λ x. x) (Ended (queue_lane k) Lost m ∷ h) k ≡ queue_calls s (λ x. x) (Ended (queue_lane k) Lost m ∷ h) k = laws.calls s (λ x. x) (Ended (queue_lane k) Lost m ∷ h) k after goes ended in
    let one : List Called = record { name = s.config.function; event = last_queue_event over h (queue_lane k); reply = Lost } ∷ [] in
    let other : List Called = record { name = s.config.function; event = last_queue_event s h (queue_lane k); reply = Lost } ∷ [] in
    let appended : queue_calls s (λ x. x) h k ++ one ≡ queue_calls s (λ x. x) h k ++ other
    = ap (λ (cs : List Called). cs ++ one) (sym before) ∙ (sym (calls_ended over h k m) ∙ (both ∙ calls_ended s h k m)) in
    ap first_event (append_cancel_left (queue_calls s (λ x. x) h k) one other appended)

-- one more entry

pub legal_now : AreLaws → (setup : Setup) (h : List Told) → IsLegal (queue_may_follow setup) h → LegalQueue (queue_setting_told setup h) (entries_told h)
legal_now laws setup h kept = laws.legal setup h (messages_told h) kept (λ i m at. at)

calls_more : AreLaws → (setup : Setup) (sends : List ℕ → List ℕ) (k : ℕ) (h : List Told) (t : Told) → IsLegal (queue_may_follow setup) h → IsOther k t.entry → queue_calls_told setup sends (h ++ t ∷ []) k ≡ queue_calls_told setup sends h k
calls_more laws setup sends k h t kept ne =
    let s : QueueSetting = queue_setting_told setup (h ++ t ∷ []) in
    ap (λ (es : List Entry). queue_calls s sends es k) (entries_more h t)
    ∙ (calls_other s sends t.entry (entries_told h) k ne
    ∙ laws.calls (queue_setting_told setup h) sends (entries_told h) k (messages_told (h ++ t ∷ [])) (told_extends h (t ∷ [])) (legal_now laws setup h kept))

running_more : (k : ℕ) (h : List Told) (t : Told) → IsOther k t.entry → is_running (entries_told (h ++ t ∷ [])) (queue_lane k) ≡ is_running (entries_told h) (queue_lane k)
running_more k h t ne = ap (λ (es : List Entry). is_running es (queue_lane k)) (entries_more h t) ∙ running_other t.entry (entries_told h) k ne

batch_more : (k : ℕ) (h : List Told) (t : Told) → IsOther k t.entry → batch_of (last_call (entries_told (h ++ t ∷ [])) (queue_lane k)) ≡ batch_of (last_call (entries_told h) (queue_lane k))
batch_more k h t ne = ap (λ (es : List Entry). batch_of (last_call es (queue_lane k))) (entries_more h t) ∙ batch_other t.entry (entries_told h) k ne

event_more : AreLaws → (setup : Setup) (k : ℕ) (h : List Told) (t : Told) → IsLegal (queue_may_follow setup) h → IsOther k t.entry → is_running (entries_told h) (queue_lane k) ≡ true → last_queue_event (queue_setting_told setup (h ++ t ∷ [])) (entries_told (h ++ t ∷ [])) (queue_lane k) ≡ last_queue_event (queue_setting_told setup h) (entries_told h) (queue_lane k)
event_more laws setup k h t kept ne running =
    let s : QueueSetting = queue_setting_told setup (h ++ t ∷ []) in
    ap (λ (es : List Entry). last_queue_event s es (queue_lane k)) (entries_more h t)
    ∙ (event_other s t.entry (entries_told h) k ne
    ∙ event_over laws (queue_setting_told setup h) (entries_told h) k (messages_told (h ++ t ∷ [])) (told_extends h (t ∷ [])) (legal_now laws setup h kept) running)

-- all that follow

-- what one more entry of another seat keeps, all of them keep
pub lasts : (P : List Told → Type 0) (setup : Setup) (n : ℕ) → ((h : List Told) (t : Told) → IsLegal (queue_may_follow setup) (h ++ t ∷ []) → queue_seat (lane_of_entry t.entry) ≢ n → P h → P (h ++ t ∷ [])) → (h es : List Told) → OthersFollow queue_author queue_may_follow setup n h es → P h → P (h ++ es)
lasts P setup n step h [] follow p = subst P (sym (append-nil h)) p
lasts P setup n step h (t ∷ es) follow p =
    let regroup : (h ++ t ∷ []) ++ es ≡ h ++ t ∷ es = append_assoc h (t ∷ []) es in
    let parts = none_of_author (queue_author setup) n h t es follow.others in
    let legal : IsLegal (queue_may_follow setup) ((h ++ t ∷ []) ++ es) = subst (IsLegal (queue_may_follow setup)) (sym regroup) follow.legal in
    let now : P (h ++ t ∷ []) = step h t (may_front (queue_may_follow setup) [] (h ++ t ∷ []) es legal) parts.0 p in
    subst P regroup (lasts P setup n step (h ++ t ∷ []) es (record { legal = legal; others = parts.1 }) now)

pub calls_last : AreLaws → (s : Setup) (sends : List ℕ → List ℕ) (h es : List Told) (k : ℕ) → OthersFollow queue_author queue_may_follow s (k + 1) h es → queue_calls_told s sends (h ++ es) k ≡ queue_calls_told s sends h k
calls_last laws s sends h es k follow =
    lasts (λ (g : List Told). queue_calls_told s sends g k ≡ queue_calls_told s sends h k) s (k + 1)
    (λ g t kept ne is. calls_more laws s sends k g t (may_front (queue_may_follow s) [] g (t ∷ []) kept) ne ∙ is) h es follow refl

pub rests_last : (s : Setup) (h es : List Told) (k : ℕ) → OthersFollow queue_author queue_may_follow s (k + 1) h es → QueueRests s h k → QueueRests s (h ++ es) k
rests_last s h es k follow rests = lasts (λ (g : List Told). QueueRests s g k) s (k + 1) (λ g t kept ne is. running_more k g t ne ∙ is) h es follow rests

pub runs_last : AreLaws → (s : Setup) (h es : List Told) (k : ℕ) (job : Job) → OthersFollow queue_author queue_may_follow s (k + 1) h es → RunsQueueJob s h k job → RunsQueueJob s (h ++ es) k job
runs_last laws s h es k job follow runs =
    lasts (λ (g : List Told). RunsQueueJob s g k job) s (k + 1)
    (λ g t kept ne is. record {
      lane = is.lane;
      running = running_more k g t ne ∙ is.running;
      places = is.places ∙ sym (batch_more k g t ne);
      event = is.event ∙ sym (event_more laws s k g t (may_front (queue_may_follow s) [] g (t ∷ []) kept) ne is.running);
    }) h es follow runs
