-- How one call of a redrive's book goes on from those before it.
use Rattle.std.proofs.Common.{◌≡◌, ◌∙◌, ℕ, Bool, true, List, [], ◌++◌, ap, append-nil, append_assoc, refl, subst, sym}
use Rattle.std.specs.Prelude.{length, reverse}
use Rattle.esm_model.specs.declared.called.Called.{Called}
use Rattle.esm_model.specs.declared.entry.Entry.{Entry}
use Rattle.esm_model.specs.declared.item.Message.{Message}
use Rattle.esm_model.specs.Entries.{CallsFollowShut}
use Rattle.esm_queue_core.specs.CoreView.{moment_for}
use Rattle.esm_queue_model.specs.QueueEntries.{queue_count}
use Rattle.esm_redrive_model.specs.RedriveSetting.{RedriveSetting, redrive_over}
use Rattle.esm_redrive_model.specs.RedriveReport.{redrive_calls}
use Rattle.esm_redrive_model.specs.RedriveStep.{LegalRedrive}
use Rattle.esm_redrive_core.specs.RedriveView.{RedriveView}
use Rattle.esm_redrive_book.specs.Moments.{IsTimedView}
use Rattle.esm_runner.specs.Given.{AreGiven}
use Rattle.esm_redrive_run.specs.Book.{Book, HasGoneOn, IsLegalBook}
use Rattle.esm_redrive_run.proofs.Following.{Each, IsAtMoment, given_more}

-- from the old book to the new one at the moment t, and these calls ended
pub record HasStepped {D : Type 0} (t : ℕ) (old new : Book D) (more : (List ℕ → List ℕ) → List Called) : Type 0 where
  pub opened : new.core.setting ≡ redrive_over old.core.setting new.core.setting.queue.messages
  pub found : new.found ≡ old.found
  pub found_dest : new.found_dest ≡ old.found_dest
  pub sound : IsLegalBook old → IsLegalBook new
  pub moments : (gave : ℕ → Bool) → gave t ≡ true → AreGiven gave old.core.past → AreGiven gave new.core.past
  pub called : (sends : List ℕ → List ℕ) → redrive_calls new.core.setting sends new.core.past ≡ redrive_calls old.core.setting sends old.core.past ++ more sends
  pub later : CallsFollowShut old.core.past → CallsFollowShut new.core.past

-- where the clock gave the moment t, and those of all that the old book has and owes, it gave those of the new one
abbrev pub StaysTimed : {D : Type 0} → ℕ → (old new : Book D) → Type 0
StaysTimed t old new = (gave : ℕ → Bool) → gave t ≡ true → IsTimedView gave old.core → IsTimedView gave new.core

abbrev pub no_calls : (List ℕ → List ℕ) → List Called
no_calls sends = []

pub gone_on : {D : Type 0} (t : ℕ) (old new : Book D) (more : (List ℕ → List ℕ) → List Called) (gave : ℕ → Bool) (sends : List ℕ → List ℕ) (first : Book D) (calls : List Called) → HasStepped t old new more → StaysTimed t old new → gave t ≡ true → HasGoneOn gave sends first old calls
    → HasGoneOn gave sends first new (calls ++ more sends)
gone_on t old new more gave sends first calls step stays clock before = record {
  opened = step.opened ∙ ap (λ (s : RedriveSetting). redrive_over s new.core.setting.queue.messages) before.opened;
  found = step.found ∙ before.found;
  found_dest = step.found_dest ∙ before.found_dest;
  sound = λ is. step.sound (before.sound is);
  moments = λ all. step.moments gave clock (before.moments all);
  timed = λ all. stays gave clock (before.timed all);
  called = step.called sends ∙ (ap (λ (cs : List Called). cs ++ more sends) before.called ∙ append_assoc (redrive_calls first.core.setting sends first.core.past) calls (more sends));
  later = λ all. step.later (before.later all);
}

pub gone_none : {D : Type 0} (t : ℕ) (old new : Book D) (gave : ℕ → Bool) (sends : List ℕ → List ℕ) (first : Book D) (calls : List Called) → HasStepped t old new no_calls → StaysTimed t old new → gave t ≡ true → HasGoneOn gave sends first old calls
    → HasGoneOn gave sends first new calls
gone_none t old new gave sends first calls step stays clock before = subst (HasGoneOn gave sends first new) (append-nil calls) (gone_on t old new no_calls gave sends first calls step stays clock before)

-- these entries were added over these messages
pub stepped : {D : Type 0} (t : ℕ) (old new : Book D) (messages : List Message) (es : List Entry) (more : (List ℕ → List ℕ) → List Called) → new.core.past ≡ reverse es ++ old.core.past → new.core.setting ≡ redrive_over old.core.setting messages
    → new.found ≡ old.found → new.found_dest ≡ old.found_dest → IsLegalBook new → Each (IsAtMoment (moment_for old.core.past t)) es
    → ((sends : List ℕ → List ℕ) → redrive_calls new.core.setting sends (reverse es ++ old.core.past) ≡ redrive_calls old.core.setting sends old.core.past ++ more sends)
    → (CallsFollowShut old.core.past → CallsFollowShut (reverse es ++ old.core.past)) → HasStepped t old new more
stepped t old new messages es more past setting found found_dest legal at called later = record {
  opened = setting ∙ ap (λ (s : RedriveSetting). redrive_over old.core.setting s.queue.messages) (sym setting);
  found = found;
  found_dest = found_dest;
  sound = λ is. legal;
  moments = λ gave clock all. subst (AreGiven gave) (sym past) (given_more gave t (moment_for old.core.past t) es old.core.past clock refl at all);
  called = λ sends. ap (λ (h : List Entry). redrive_calls new.core.setting sends h) past ∙ called sends;
  later = λ all. subst CallsFollowShut (sym past) (later all);
}

-- nothing was added
pub stood : {D : Type 0} (t : ℕ) (old new : Book D) → new.core ≡ old.core → new.found ≡ old.found → new.found_dest ≡ old.found_dest → HasStepped t old new no_calls
stood t old new core found found_dest = record {
  opened = ap (λ (v : RedriveView). v.setting) core ∙ ap (λ (v : RedriveView). redrive_over old.core.setting v.setting.queue.messages) (sym core);
  found = found;
  found_dest = found_dest;
  sound = λ is. record {
    legal = subst (λ (v : RedriveView). LegalRedrive v.setting v.past) (sym core) is.legal;
    came = subst (λ (v : RedriveView). queue_count v.past ≡ length v.setting.queue.messages) (sym core) is.came;
  };
  moments = λ gave clock all. subst (λ (v : RedriveView). AreGiven gave v.past) (sym core) all;
  called = λ sends. ap (λ (v : RedriveView). redrive_calls v.setting sends v.past) core ∙ sym (append-nil (redrive_calls old.core.setting sends old.core.past));
  later = λ all. subst (λ (v : RedriveView). CallsFollowShut v.past) (sym core) all;
}
