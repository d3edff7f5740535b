-- A run of a redrive that is to begin, over what its journal and its dead-letter file say, and why none begins.
use Rattle.std.proofs.Common.{◌≡◌, ◌∙◌, ℕ, true, List, [], Result, Ok, Err, Option, ap, inl, inr, subst, sym}
use Rattle.std.specs.Prelude.{IfOk, OnErr, reverse}
use Rattle.esm_io.specs.Meanings.{DiskMeaning}
use Rattle.esm_journal.specs.Pair.{PairState, first_disk, second_disk}
use Rattle.esm_journal.specs.Reads.{IsOnlyRead}
use Rattle.esm_journal.specs.State.{JournalState}
use Rattle.esm_model.specs.declared.config.Config.{Config}
use Rattle.esm_model.specs.declared.entry.Entry.{Entry}
use Rattle.esm_model.specs.declared.memory.OutOfMemory.{OutOfMemory}
use Rattle.esm_journal_state.specs.Meaning.{history, are_good}
use Rattle.esm_journal_state.specs.SaidLists.{SaidLists, IsInOrder}
use Rattle.esm_journal_state.specs.Tells.{Tells}
use Rattle.esm_input.specs.declared.ending.InputEnd.{InputEnd}
use Rattle.esm_input.specs.Reading.{InputState, handed}
use Rattle.esm_redrive_core.specs.RedriveView.{RedriveView, new_setting, new_view}
use Rattle.esm_redrive_book.specs.Opening.{IsOpened, IsNotOpened}
use Rattle.esm_redrive_book.specs.declared.open_error.RedriveOpen.{RedriveOpen}
use Rattle.esm_redrive_book.specs.declared.open_error.RedriveOpen.TheVariants as open_error
use Rattle.esm_runner.specs.Files.{FilesState, IsOpenedFiles, AreClosed}
use Rattle.esm_runner.proofs.Begins.{SameTold, says_itself}
use Rattle.esm_runner.proofs.Goods.{none_bad}
use Rattle.esm_redrive_run.specs.Book.{Book}
use Rattle.esm_redrive_run.specs.Headline.{Disks, Words}
use Rattle.esm_redrive_run.specs.Ended.{Telling, HasEnded, HasNotBegun, HasRun, HasStopped, HasStoppedRun}
use Rattle.esm_redrive_run.specs.Runs.{IsBegun, IsNoBadPayload, IsRefusal, files_of, new_input, why_of, words_of}
use Rattle.esm_redrive_run.specs.declared.run.RedriveEnd.{RedriveEnd}
use Rattle.esm_redrive_run.specs.declared.run.RedriveEnd.TheVariants as end

pub begun : {S D : Type 0} (w : Words) (said : SaidLists) (pair : PairState D) (dest : JournalState D) (source : S) (b : Book D) (i : InputState S) (name : List ℕ) → SameTold → Tells said (history (reverse pair.payloads)) → IsInOrder said
    → IsOpened w.config w.calls w.visibility w.max_receives dest.payloads pair dest b → i ≡ new_input w.config source → handed i ≡ [] → name ≡ w.config.function → IsBegun w said pair dest source b i name
begun w said pair dest source b i name told tells order made input unread name_is =
    let h = history (reverse pair.payloads) in
    record {
      letters = made.core.letters;
      ids = made.core.ids;
      same_ids = made.core.same_ids;
      core = made.core.is
          ∙ ap (λ (t : SaidLists). new_view (new_setting w.config w.calls w.visibility t.deletions w.max_receives made.core.ids)) (told made.core.said said h h made.core.tells tells (says_itself h) made.core.order order);
      pair_is = made.pair_is;
      dest_is = made.dest_is;
      found = made.found;
      found_dest = made.found_dest;
      up = made.trouble;
      input = input;
      unread = unread;
      name_is = name_is;
    }

pub no_bad : (config : Config) (payloads lines : List (List ℕ)) (why : RedriveOpen) → are_good (reverse payloads) ≡ true → IsNotOpened config payloads lines why → IsNoBadPayload why
no_bad config payloads lines (open_error.BadPayload index) good refused = none_bad payloads index good refused
no_bad config payloads lines (open_error.BadLine index) good refused = tt
no_bad config payloads lines open_error.OutOfMemory good refused = tt

pub refusal_so : (w : Words) (payloads lines : List (List ℕ)) (why : RedriveOpen) → are_good (reverse payloads) ≡ true → IsNotOpened w.config payloads lines why → IsRefusal w lines (why_of why)
refusal_so w payloads lines (open_error.BadPayload index) good refused = absurd (none_bad payloads index good refused)
refusal_so w payloads lines (open_error.BadLine index) good refused = refused.1
refusal_so w payloads lines open_error.OutOfMemory good refused = tt

-- the words and the files of a run that has begun

pub words_are : {S D : Type 0} (w : Words) (said : SaidLists) (pair : PairState D) (dest : JournalState D) (source : S) (b : Book D) (i : InputState S) (name : List ℕ) → IsBegun w said pair dest source b i name → words_of b ≡ w
words_are w said pair dest source b i name has =
    ap (λ (v : RedriveView). record { config = v.setting.queue.config; calls = v.setting.queue.calls; visibility = v.setting.queue.visibility; max_receives = v.setting.max_receives }) has.core

pub files_are : {D : Type 0} (journal spare failures : D) (said : SaidLists) (b : Book D) (f : FilesState D) → journal ≡ f.journal → spare ≡ f.spare → failures ≡ f.failures → b.pair ≡ f.pair → said ≡ f.said → b.dest ≡ f.dest → files_of journal spare failures said b ≡ f
files_are journal spare failures said b f p q r s t u = λ k. record { journal = p k; spare = q k; failures = r k; pair = s k; said = t k; dest = u k }

pub begun_again : {S D : Type 0} (w : Words) (said : SaidLists) (pair : PairState D) (dest : JournalState D) (source : S) (b : Book D) (i : InputState S) (name : List ℕ) → IsBegun w said pair dest source b i name → IsBegun (words_of b) said b.pair b.dest i.source b i name
begun_again {S} {D} w said pair dest source b i name has =
    subst (λ (v : Words). IsBegun v said b.pair b.dest i.source b i name) (sym (words_are w said pair dest source b i name has))
    (subst (λ (p : PairState D). IsBegun w said p b.dest i.source b i name) (sym has.pair_is)
    (subst (λ (d : JournalState D). IsBegun w said pair d i.source b i name) (sym has.dest_is)
    (subst (λ (s : S). IsBegun w said pair dest s b i name) (sym (ap (λ (j : InputState S). j.source) has.input)) has)))

-- what is told of a run

pub as_ended : {S D F : Type 0} (t : Telling D F) (faults : S → ℕ) (left : S → Option (List ℕ)) (w : Words) (f : FilesState D) (old_input new_input : S) (reading : Option InputEnd) (old_caller new_caller : F) (h : List Entry) (new : Disks D) (e : RedriveEnd)
    → HasRun t faults left w f old_input new_input reading old_caller new_caller h new e → HasEnded t faults left w f old_input new_input reading old_caller new_caller h new e
as_ended t faults left w f old_input new_input reading old_caller new_caller h new (end.Finished why) has = has
as_ended t faults left w f old_input new_input reading old_caller new_caller h new end.CallsSpent has = has
as_ended t faults left w f old_input new_input reading old_caller new_caller h new end.DiskFault has = has
as_ended t faults left w f old_input new_input reading old_caller new_caller h new end.DestFault has = has
as_ended t faults left w f old_input new_input reading old_caller new_caller h new (end.Changed change) has = has
as_ended t faults left w f old_input new_input reading old_caller new_caller h new (end.BadLine index) has = absurd has.cause

-- nothing ran
pub not_run : {S D F : Type 0} (t : Telling D F) (faults : S → ℕ) (left : S → Option (List ℕ)) (w : Words) (f : FilesState D) (old_input new_input : S) (reading : Option InputEnd) (old_caller new_caller : F) (h : List Entry) (new : Disks D) (why : Result RedriveEnd OutOfMemory)
    → IsRefusal w f.dest.payloads why → HasNotBegun t f old_input new_input reading old_caller new_caller h new
    → IfOk why (HasEnded t faults left w f old_input new_input reading old_caller new_caller h new) × OnErr why (HasStoppedRun t faults left w f old_input new_input reading old_caller new_caller h new)
not_run t faults left w f old_input new_input reading old_caller new_caller h new (Ok (end.BadLine index)) refusal none = ((refusal, none), tt)
not_run t faults left w f old_input new_input reading old_caller new_caller h new (Ok (end.Finished why)) refusal none = absurd refusal
not_run t faults left w f old_input new_input reading old_caller new_caller h new (Ok end.CallsSpent) refusal none = absurd refusal
not_run t faults left w f old_input new_input reading old_caller new_caller h new (Ok end.DiskFault) refusal none = absurd refusal
not_run t faults left w f old_input new_input reading old_caller new_caller h new (Ok end.DestFault) refusal none = absurd refusal
not_run t faults left w f old_input new_input reading old_caller new_caller h new (Ok (end.Changed change)) refusal none = absurd refusal
not_run t faults left w f old_input new_input reading old_caller new_caller h new (Err short) refusal none = (tt, inl none)

pub as_stopped : {S D F : Type 0} (t : Telling D F) (faults : S → ℕ) (left : S → Option (List ℕ)) (w : Words) (f : FilesState D) (old_input new_input : S) (reading : Option InputEnd) (old_caller new_caller : F) (h : List Entry) (new : Disks D)
    → HasStopped t faults left w f old_input new_input reading old_caller new_caller h new → HasStoppedRun t faults left w f old_input new_input reading old_caller new_caller h new
as_stopped t faults left w f old_input new_input reading old_caller new_caller h new has = inr has

-- nothing was written
pub unwritten : {D : Type 0} (m : DiskMeaning D) (f : FilesState D) (journal spare dead : D) → IsOpenedFiles m f → journal ≡ first_disk f.pair → spare ≡ second_disk f.pair → dead ≡ f.dest.disk → AreClosed m f journal spare dead
unwritten {D} m f journal spare dead files first second lines =
    ((subst (λ (d : D). IsOnlyRead m f.journal d) (sym first) files.read.0, subst (λ (d : D). IsOnlyRead m f.spare d) (sym second) files.read.1), subst (λ (d : D). IsOnlyRead m f.failures d) (sym lines) files.lines_read)
