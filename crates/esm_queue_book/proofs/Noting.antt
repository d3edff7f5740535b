-- How an entry that is noted ends.
use Rattle.std.proofs.Common.{◌≡◌, ℕ, ◌≤◌, true, false, List, [], ◌∷◌, ◌++◌, map, reverse, refl, sym, ap, ap₂, ◌∙◌, subst, arith, append-nil, Option, None}
use Rattle.std.specs.List.{All}
use Rattle.std.proofs.lemmas.List.Elements.{All-nil, All-cons}
use Rattle.esm_model.specs.declared.moment.TheConstants.{MAX_MOMENT}
use Rattle.esm_model.specs.declared.item.Message.{Message}
use Rattle.esm_model.specs.declared.book.Trouble.{Trouble}
use Rattle.esm_model.specs.declared.book.Job.{Job}
use Rattle.esm_model.specs.declared.entry.Reply.{Reply}
use Rattle.esm_model.specs.declared.entry.Entry.{Entry}
use Rattle.esm_model.specs.declared.entry.Entry.TheVariants.{Ended, Shut}
use Rattle.esm_model.specs.Entries.{is_shut, last_moment}
use Rattle.esm_model.specs.Step.{IsLater}
use Rattle.esm_queue_model.specs.QueueSetting.{QueueSetting, over_messages}
use Rattle.esm_queue_model.specs.QueueStep.{LegalQueue, SettledQueue}
use Rattle.esm_queue_model.specs.QueueBooks.{messages_told, IsOfQueue}
use Rattle.esm_journal_record.specs.EntryPayload.{queue_payload}
use Rattle.esm_book.specs.Decided.{written_of}
use Rattle.esm_book.specs.Hand.{is_end}
use Rattle.esm_book.specs.State.{in_hand}
use Rattle.esm_queue_core.specs.declared.decisions.QueueEntry.{QueueEntry}
use Rattle.esm_queue_core.proofs.Tellings.{payload_in}
use Rattle.esm_queue_core.specs.CoreView.{all_messages, moment_for, IsRunningJob}
use Rattle.esm_queue_core.specs.Sound.{Sound, ShutIsSound}
use Rattle.esm_queue_core.specs.Told.{queue_entries, history_of, owed_of, opened, told_entries, told_of}
use Rattle.esm_queue_book.specs.Books.{BookState, payloads_in}
use Rattle.esm_queue_book.specs.Calls.{AddedOne}
use Rattle.esm_queue_book.specs.Keeping.{MayFollowFront, IsSound}
use Rattle.esm_queue_book.specs.Carried.{Noted}
use Rattle.esm_queue_book.proofs.Entries.{entry_in, past_grows, told_grows, owed_entries}
use Rattle.esm_queue_book.proofs.Hands.{follows_on}
use Rattle.esm_queue_book.proofs.Staying.{hand_over, stays_so}
use Rattle.esm_queue_book.proofs.Going.{Went, messages_grow, of_queue_so, opened_so}

pub later_for : (h : List Entry) (moment : ℕ) → last_moment h ≤ MAX_MOMENT → IsLater h (moment_for h moment)
later_for h moment within = record { not_back = omega arith; within = omega arith }

-- nothing is written of what is noted
pub note_went : {D : Type 0} (old new : BookState D) (X : List QueueEntry) → history_of new.core ≡ reverse X ++ history_of old.core → opened new.core ≡ opened old.core → new ≡ record old { core = new.core } → written_of payload_in X ≡ []
    → new.core.setting.messages ≡ messages_told (told_of new.core) → old.core.setting.messages ≡ messages_told (told_of old.core) → (new.core.owed ≡ [] → new.core.coming ≡ []) → Went old new X
note_went {D} old new X history origin rest silent messages before rests = record {
  history = history;
  origin = origin;
  payloads = ap (λ (b : BookState D). b.pair.payloads) rest ∙ (sym (append-nil old.pair.payloads) ∙ ap (λ (texts : List (List ℕ)). old.pair.payloads ++ texts) (sym silent));
  found = ap (λ (b : BookState D). b.found) rest;
  messages = messages;
  messages_before = before;
  rests = rests;
}

module _ {D : Type 0} (old new : BookState D) (e : Entry) (X : List QueueEntry) where
  added_one : Went old new X → X ≡ queue_entries (all_messages old.core) (e ∷ []) → messages_told (told_entries (all_messages old.core) (e ∷ [])) ≡ []
      → told_entries (all_messages old.core) (e ∷ []) ≡ told_entries old.core.setting.messages (e ∷ []) → owed_of new.core ≡ owed_of old.core → new ≡ record old { core = new.core } → AddedOne old new e
  added_one w is silent alike owed rest =
      let messages = all_messages old.core in
      record {
        past = past_grows old.core new.core messages (e ∷ []) X w.history is;
        told = told_grows old.core new.core messages (e ∷ []) X w.history is ∙ ap (λ ts. told_of old.core ++ ts) alike;
        setting = opened_so new.core old.core w.origin
            ∙ ap (over_messages old.core.setting) (messages_grow old new X messages (e ∷ []) w is ∙ (ap (λ (ms : List Message). old.core.setting.messages ++ ms) silent ∙ append-nil old.core.setting.messages));
        owed = sym (owed_entries new.core) ∙ (ap (map entry_in) owed ∙ owed_entries old.core);
        rest = rest;
      }

  sound_one : Went old new X → X ≡ queue_entries (all_messages old.core) (e ∷ []) → AddedOne old new e → IsSound old → All (IsOfQueue old.core.setting.config.kind) (told_entries (all_messages old.core) (e ∷ []))
      → LegalQueue old.core.setting (e ∷ old.core.past) → (old.trouble ≡ None → SettledQueue old.core.setting (e ∷ old.core.past)) → ((ms : List Message) → payloads_in ms (e ∷ []) ≡ []) → owed_of new.core ≡ owed_of old.core → is_end e ≡ true → IsSound new
  sound_one w is added sound told legal settled unwritten owed ends =
      let past : e ∷ old.core.past ≡ new.core.past = sym added.past in
      let setting : old.core.setting ≡ new.core.setting = sym added.setting in
      let same : new.trouble ≡ old.trouble = ap (λ (b : BookState D). b.trouble) added.rest in
      let messages = all_messages old.core in
      let came : old.core.setting.messages ≡ new.core.setting.messages = ap (λ (t : QueueSetting). t.messages) setting in
      record {
        messages = w.messages;
        of_queue = of_queue_so old new X (all_messages old.core) (e ∷ []) w is sound told;
        legal = subst (λ (t : QueueSetting). LegalQueue t new.core.past) setting (subst (LegalQueue old.core.setting) past legal);
        settled = λ up. subst (λ (t : QueueSetting). SettledQueue t new.core.past) setting (subst (SettledQueue old.core.setting) past (settled (sym same ∙ up)));
        none_owed = λ up. added.owed ∙ sound.none_owed (sym same ∙ up);
        none_coming = w.rests;
        stays = stays_so old.core new.core messages (e ∷ []) X w.history is (sound.stays ∙ ap (λ (ms : List Message). payloads_in ms (reverse old.core.past)) came)
            (unwritten messages ∙ sym (unwritten new.core.setting.messages));
        hand = hand_over new.trouble new.core messages (owed ∙ ap (queue_entries messages) (sym added.owed))
            ∙ (ap₂ (λ (t : Option Trouble) (es : List Entry). payloads_in messages (in_hand t es)) same added.owed
            ∙ (sound.hand
            ∙ (ap₂ (λ (t : Option Trouble) (es : List Entry). payloads_in old.core.setting.messages (in_hand t es)) (sym same) (sym added.owed)
            ∙ ap (λ (ms : List Message). payloads_in ms (in_hand new.trouble new.core.owed)) came)));
        hand_follows = λ x some.
            let was : in_hand old.trouble old.core.owed ≡ x ∷ [] = sym (ap₂ (λ (t : Option Trouble) (es : List Entry). in_hand t es) same added.owed) ∙ some in
            subst (λ (t : QueueSetting). MayFollowFront t new.core.past x) setting
            (subst (λ (h : List Entry). MayFollowFront old.core.setting h x) past
            (follows_on (λ before y. LegalQueue old.core.setting (y ∷ before)) old.core.past e x ends (sound.hand_follows x was)));
        hand_is_one = λ disk.
            let one = sound.hand_is_one (sym same ∙ disk) in
            (one.0, one.1, ap₂ (λ (t : Option Trouble) (es : List Entry). in_hand t es) same added.owed ∙ one.2, ap (λ (ms : List Message). queue_payload ms one.0) (sym came) ∙ one.3);
      }

one_of_queue : {D : Type 0} (old : BookState D) (e : Entry) → IsOfQueue old.core.setting.config.kind (record { entry = e; records = []; messages = [] }) → All (IsOfQueue old.core.setting.config.kind) (record { entry = e; records = []; messages = [] } ∷ [])
one_of_queue old e is = All-cons (IsOfQueue old.core.setting.config.kind) _ [] is (All-nil (IsOfQueue old.core.setting.config.kind))

-- the end of a call, on a book that is down
pub noted_end : {D : Type 0} (old new : BookState D) (job : Job) (reply : Reply) (moment : ℕ) (X : List QueueEntry) → IsSound old → (old.trouble ≡ None → ⊥) → IsRunningJob old.core.past job → last_moment old.core.past ≤ MAX_MOMENT
    → Went old new X → X ≡ queue_entries (all_messages old.core) (Ended job.lane reply (moment_for old.core.past moment) ∷ []) → owed_of new.core ≡ owed_of old.core → new ≡ record old { core = new.core } → Noted old new (Ended job.lane reply (moment_for old.core.past moment))
noted_end old new job reply moment X sound down runs within w is owed rest =
    let e : Entry = Ended job.lane reply (moment_for old.core.past moment) in
    let added = added_one old new e X w is refl refl owed rest in
    record {
      added = added;
      sound = sound_one old new e X w is added sound (one_of_queue old e (record { messages = refl; no_records = refl })) (sound.legal, (later_for old.core.past moment within, runs.runs)) (λ up. absurd (down up)) (λ ms. refl) owed refl;
    }

-- the end of the input, on a book that is not
pub noted_shut : {D : Type 0} (old new : BookState D) (moment : ℕ) (X : List QueueEntry) → IsSound old → old.trouble ≡ None → is_shut old.core.past ≡ false → last_moment old.core.past ≤ MAX_MOMENT → ((s : QueueSetting) (h : List Entry) → Sound s h → ShutIsSound s h)
    → Went old new X → X ≡ queue_entries (all_messages old.core) (Shut (moment_for old.core.past moment) ∷ []) → owed_of new.core ≡ owed_of old.core → new ≡ record old { core = new.core } → Noted old new (Shut (moment_for old.core.past moment))
noted_shut old new moment X sound up going within law w is owed rest =
    let e : Entry = Shut (moment_for old.core.past moment) in
    let added = added_one old new e X w is refl refl owed rest in
    let after = law old.core.setting old.core.past (record { legal = sound.legal; settled = sound.settled up }) (moment_for old.core.past moment) going (later_for old.core.past moment within) in
    record {
      added = added;
      sound = sound_one old new e X w is added sound (one_of_queue old e (record { messages = refl; no_records = refl })) after.legal (λ same. after.settled) (λ ms. refl) owed refl;
    }
