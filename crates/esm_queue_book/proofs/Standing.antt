-- What is true of every book, in the words of queues.
use Rattle.std.proofs.Common.{◌≡◌, ℕ, List, [], ◌∷◌, ◌++◌, map, reverse, refl, sym, ap, ap₂, ◌∙◌, subst, None}
use Rattle.std.specs.Prelude.{slice_get}
use Rattle.std.specs.List.{All}
use Rattle.std.proofs.lemmas.List.{map-append}
use Rattle.std.proofs.lemmas.List.Elements.{All-nil}
use Rattle.esm_io.specs.Meanings.{DiskMeaning, DestMeaning}
use Rattle.esm_model.specs.declared.config.Config.{Config}
use Rattle.esm_model.specs.declared.item.Message.{Message}
use Rattle.esm_model.specs.declared.entry.Entry.{Entry}
use Rattle.esm_model.specs.declared.setup.FoundDeletion.{FoundDeletion}
use Rattle.esm_model.specs.declared.setup.Setup.{Setup}
use Rattle.esm_model.specs.declared.setup.Told.{Told}
use Rattle.esm_model.specs.Books.{entries_told}
use Rattle.esm_model.specs.Kept.{IsLegal}
use Rattle.esm_queue_model.specs.QueueSetting.{QueueSetting, ExtendsMessages, over_messages}
use Rattle.esm_queue_model.specs.QueueStep.{LegalQueue}
use Rattle.esm_queue_model.specs.QueueBooks.{messages_told, queue_setting_told, IsOfQueue, queue_may_follow}
use Rattle.esm_book.specs.declared.nowhere.Nowhere.{Nowhere}
use Rattle.esm_book.specs.State.{in_hand, IsKept}
use Rattle.esm_queue_core.specs.declared.decisions.QueueEntry.{QueueEntry}
use Rattle.esm_queue_core.specs.CoreView.{CoreView, all_messages, new_setting, new_view}
use Rattle.esm_queue_core.specs.Told.{queue_entry, queue_entries, history_of, owed_of, told_entries, told_of}
use Rattle.esm_queue_book.specs.Books.{BookState}
use Rattle.esm_queue_book.specs.Keeping.{IsSound, IsSetupOf, HasJournal, entries_left}
use Rattle.esm_queue_book.proofs.Entries.{reversed_back}
use Rattle.esm_queue_book.proofs.Hands.{none_in_hand}
use Rattle.esm_queue_book.proofs.Staying.{oldest_first, payloads_of, hand_so}
use Rattle.esm_queue_book.proofs.Going.{queue_meaning}

-- a book in which no message came
pub sound_new : {D : Type 0} (b : BookState D) (config : Config) (calls visibility : ℕ) (deletions : List FoundDeletion) → b.core ≡ new_view (new_setting config calls visibility deletions) → b.trouble ≡ None → IsSound b
sound_new {D} b config calls visibility deletions is none =
    let fresh : BookState D = record b { core = new_view (new_setting config calls visibility deletions) } in
    let sound : IsSound fresh = record {
      messages = refl;
      of_queue = All-nil (IsOfQueue config.kind);
      legal = tt;
      settled = λ up. record { sorted = refl; paid = λ lane. refl };
      none_owed = λ up. refl;
      none_coming = λ settled. refl;
      stays = refl;
      hand = refl;
      hand_follows = λ e some. absurd (none_in_hand b.trouble [] e refl some);
      hand_is_one = λ disk. absurd (cc (sym none ∙ disk));
    } in
    subst (λ (v : CoreView). IsSound (record b { core = v })) (sym is) sound

-- the journal

pub left_so : {D : Type 0} (b : BookState D) → reverse (history_of b.core) ++ in_hand b.trouble (owed_of b.core) ≡ queue_entries (all_messages b.core) (entries_left b)
left_so b =
    ap₂ (λ (xs ys : List QueueEntry). xs ++ ys) (oldest_first (all_messages b.core) b.core.past) (hand_so b.trouble (all_messages b.core) b.core.owed)
    ∙ sym (map-append (queue_entry (all_messages b.core)) (reverse b.core.past) (in_hand b.trouble b.core.owed))

pub has_journal : {D : Type 0} (m : DiskMeaning D) (n : DestMeaning Nowhere) (b : BookState D) → IsKept queue_meaning m n b → HasJournal m b
has_journal m n b k =
    let a = k.grown.appended in
    record {
      payloads = a.payloads ∙ ap (λ (texts : List (List ℕ)). b.found.payloads ++ texts) (payloads_of (all_messages b.core) b.core.past);
      down = k.pair_down;
      found_up = k.found_up;
      epoch = a.epoch;
      swapped = a.swapped;
      spare = a.spare;
      honesty = a.honesty;
    }

-- as threads hand it on

entries_back : (messages : List Message) (es : List Entry) → map (λ (t : Told). t.entry) (told_entries messages es) ≡ es
entries_back messages [] = refl
entries_back messages (e ∷ es) = ap (λ (xs : List Entry). e ∷ xs) (entries_back messages es)

pub past_told : (v : CoreView) → entries_told (told_of v) ≡ v.past
past_told v = ap reverse (entries_back (all_messages v) (reverse v.past)) ∙ reversed_back v.past

setting_for : {D : Type 0} (setup : Setup) (b : BookState D) → IsSetupOf setup b → over_messages (queue_setting_told setup (told_of b.core)) b.core.setting.messages ≡ b.core.setting
setting_for setup b is =
    ap₂ (λ (config : Config) (calls : ℕ). record { config = config; calls = calls; visibility = setup.visibility_ms; messages = b.core.setting.messages; deletions = setup.deletions }) is.config is.calls
    ∙ ap₂ (λ (visibility : ℕ) (deletions : List FoundDeletion). record b.core.setting { visibility = visibility; deletions = deletions }) is.visibility is.deletions

abbrev pub IsKeptLaw : Type 0
IsKeptLaw = (setup : Setup) (history : List Told) (messages : List Message) → All (IsOfQueue setup.config.kind) history → ExtendsMessages (messages_told history) messages
    → LegalQueue (over_messages (queue_setting_told setup history) messages) (entries_told history) → IsLegal (queue_may_follow setup) history

pub legal_told : {D : Type 0} (b : BookState D) → IsKeptLaw → IsSound b → (setup : Setup) → IsSetupOf setup b → IsLegal (queue_may_follow setup) (told_of b.core)
legal_told b law sound setup is =
    let history = told_of b.core in
    let all : All (IsOfQueue setup.config.kind) history = subst (λ (c : Config). All (IsOfQueue c.kind) history) (sym is.config) sound.of_queue in
    let legal = subst (LegalQueue b.core.setting) (sym (past_told b.core)) sound.legal in
    law setup history b.core.setting.messages all (λ i x at. ap (λ (ms : List Message). slice_get ms i) sound.messages ∙ at)
    (subst (λ (s : QueueSetting). LegalQueue s (entries_told history)) (sym (setting_for setup b is)) legal)
