-- What the layer over devices tells of a call, in the words of redrives.
use Rattle.std.proofs.Common.{◌≡◌, List, [], ◌∷◌, ◌++◌, reverse, sym, ap, ◌∙◌, subst, append_assoc, append-nil}
use Rattle.std.proofs.lemmas.List.{reverse-append}
use Rattle.std.specs.Prelude.{false}
use Rattle.esm_model.specs.declared.item.Message.{Message}
use Rattle.esm_model.specs.declared.entry.Entry.{Entry}
use Rattle.esm_queue_model.specs.QueueBooks.{messages_told}
use Rattle.esm_redrive_model.specs.RedriveSetting.{RedriveSetting, redrive_over}
use Rattle.esm_redrive_model.specs.RedriveStep.{LegalRedrive}
use Rattle.esm_queue_core.proofs.ToldMessages.{messages-append}
use Rattle.esm_redrive_core.proofs.Telling.{told-append}
use Rattle.esm_redrive_core.specs.declared.decisions.RedriveCall.{RedriveCall}
use Rattle.esm_redrive_core.specs.declared.decisions.RedriveEntry.{RedriveEntry}
use Rattle.esm_redrive_core.specs.declared.decisions.RedriveOpened.{RedriveOpened}
use Rattle.esm_redrive_core.specs.Ahead.{IsConsistent, comes_first}
use Rattle.esm_redrive_core.specs.RedriveView.{RedriveView}
use Rattle.esm_redrive_core.specs.Told.{redrive_entries, history_of, opened, told_entries, told_of, coming_by, entries_by}
use Rattle.esm_redrive_book.specs.Carried.{messages_by}
use Rattle.esm_redrive_book.proofs.Entries.{past_grows, told_grows}
use Rattle.esm_redrive_book.proofs.Bringing.{all_brought, late_quiet, none_told, rest_quiet}

-- the setting is as it was opened
pub opened_so : (v w : RedriveView) → opened v ≡ opened w → v.setting ≡ redrive_over w.setting v.setting.queue.messages
opened_so v w is =
    ap (λ (o : RedriveOpened). record { queue = record { config = o.config; calls = o.calls; visibility = o.visibility_ms; messages = v.setting.queue.messages; deletions = o.deletions }; max_receives = o.max_receives; dead_ids = o.dead_ids }) is

-- a history to which entries were added is legal without the last of them
pub legal_before : (s : RedriveSetting) (later h : List Entry) → LegalRedrive s (later ++ h) → LegalRedrive s h
legal_before s [] h legal = legal
legal_before s (e ∷ later) h legal = legal_before s later h legal.0

pub legal_part : (s : RedriveSetting) (front rest h : List Entry) → LegalRedrive s (reverse (front ++ rest) ++ h) → LegalRedrive s (reverse front ++ h)
legal_part s front rest h legal =
    legal_before s (reverse rest) (reverse front ++ h)
    (subst (LegalRedrive s) (ap (λ (es : List Entry). es ++ h) (reverse-append front rest) ∙ append_assoc (reverse rest) (reverse front) h) legal)

-- these entries went to the history of a core
pub record Went (v w : RedriveView) (X : List RedriveEntry) : Type 0 where
  pub history : history_of w ≡ reverse X ++ history_of v
  pub origin : opened w ≡ opened v
  pub before : IsConsistent v
  pub after : IsConsistent w

module _ (v w : RedriveView) (X : List RedriveEntry) (went : Went v w X) where
  -- the messages after it are those before, and then those that the entries tell
  pub messages_grow : (messages : List Message) (es : List Entry) → X ≡ redrive_entries messages es → w.setting.queue.messages ≡ v.setting.queue.messages ++ messages_told (told_entries messages es)
  messages_grow messages es is =
      went.after.messages
      ∙ (ap messages_told (told_grows v w messages es X went.history is)
      ∙ (messages-append (told_of v) (told_entries messages es)
      ∙ ap (λ (ms : List Message). ms ++ messages_told (told_entries messages es)) (sym went.before.messages)))

  -- of what a call decides the first entries were added, and none of the others brings messages
  pub setting_some : (asked : RedriveCall) (front rest : List Entry) → X ≡ redrive_entries (messages_by v asked) front → front ++ rest ≡ entries_by v asked → comes_first rest ≡ false → w.setting ≡ redrive_over v.setting (messages_by v asked)
  setting_some asked front rest is split first =
      let messages = messages_by v asked in
      let quiet = none_told messages rest (rest_quiet front rest (entries_by v asked) split (late_quiet v asked) first) in
      let fronts : messages_told (told_entries messages front) ≡ coming_by asked =
      sym (append-nil (messages_told (told_entries messages front)))
      ∙ (ap (λ (ms : List Message). messages_told (told_entries messages front) ++ ms) (sym quiet)
      ∙ (sym (messages-append (told_entries messages front) (told_entries messages rest))
      ∙ (ap messages_told (sym (told-append messages front rest) ∙ ap (told_entries messages) split)
      ∙ all_brought v asked))) in
      opened_so w v went.origin
      ∙ ap (redrive_over v.setting) (messages_grow messages front is ∙ ap (λ (ms : List Message). v.setting.queue.messages ++ ms) fronts)

  pub past_some : (messages : List Message) (front : List Entry) → X ≡ redrive_entries messages front → w.past ≡ reverse front ++ v.past
  past_some messages front is = past_grows v w messages front X went.history is
