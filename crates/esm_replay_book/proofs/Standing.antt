-- What is true of every book, in the words of replays.
use Rattle.std.proofs.Common.{◌≡◌, ℕ, List, [], ◌++◌, reverse, refl, sym, ap, ap₂, ◌∙◌, subst, Option, Some, None}
use Rattle.std.proofs.lemmas.List.Elements.{All-nil}
use Rattle.esm_io.specs.Meanings.{DiskMeaning, DestMeaning}
use Rattle.esm_model.specs.declared.book.Trouble.{Trouble}
use Rattle.esm_model.specs.declared.book.Trouble.TheVariants.{Disk, Dest, Changed}
use Rattle.esm_model.specs.Valid.{IsValidRecord}
use Rattle.esm_book.specs.declared.nowhere.Nowhere.{Nowhere}
use Rattle.esm_book.specs.Decided.{written_of}
use Rattle.esm_book.specs.State.{in_hand, IsKept}
use Rattle.esm_replay_core.specs.declared.decisions.Opened.{Opened}
use Rattle.esm_replay_core.specs.View.{ReplayView, setting_of, new_view}
use Rattle.esm_replay_core.specs.Told.{history_of, owed_of, payload_in}
use Rattle.esm_replay_book.specs.Books.{BookState, payloads_in}
use Rattle.esm_replay_book.specs.Keeping.{IsUncalled, IsSound, HasJournal, entries_left}
use Rattle.esm_replay_book.proofs.Entries.{written-append, payloads-append, written_history, written_hand}
use Rattle.esm_replay_book.proofs.Going.{replay_meaning}

uncalled_none : (t : Option Trouble) → IsUncalled t []
uncalled_none None = tt
uncalled_none (Some Disk) = tt
uncalled_none (Some Dest) = tt
uncalled_none (Some (Changed change)) = refl

-- a book in which no record came
pub sound_new : {D : Type 0} (b : BookState D) (opened : Opened) → b.trouble ≡ None → b.core ≡ new_view opened → IsSound b
sound_new {D} b opened up is =
    let fresh : BookState D = record b { core = new_view opened } in
    let sound : IsSound fresh = record {
      run = tt;
      ahead = tt;
      said = tt;
      valid = All-nil IsValidRecord;
      unchanged = refl;
      none_coming = refl;
      none_owed = λ up. refl;
      settled = λ up. refl;
      down_rests = λ down. refl;
      owes = λ disk. absurd (cc (sym up ∙ disk));
      uncalled = uncalled_none b.trouble;
    } in
    subst (λ (v : ReplayView). IsSound (record b { core = v })) (sym is) sound

-- the journal

pub left_so : {D : Type 0} (b : BookState D) → IsSound b → written_of payload_in (reverse (history_of b.core) ++ in_hand b.trouble (owed_of b.core)) ≡ payloads_in (setting_of b.core) (entries_left b)
left_so b sound =
    let s = setting_of b.core in
    written-append (reverse (history_of b.core)) (in_hand b.trouble (owed_of b.core))
    ∙ (ap₂ (λ (xs ys : List (List ℕ)). xs ++ ys) (written_history b.core) (written_hand b.trouble b.core sound.none_coming)
    ∙ sym (payloads-append s (reverse b.core.past) (in_hand b.trouble b.core.owed)))

pub has_journal : {D : Type 0} (m : DiskMeaning D) (n : DestMeaning Nowhere) (b : BookState D) → IsKept replay_meaning m n b → HasJournal m b
has_journal m n b k =
    let a = k.grown.appended in
    record {
      payloads = a.payloads ∙ ap (λ (texts : List (List ℕ)). b.found.payloads ++ texts) (written_history b.core);
      down = k.pair_down;
      found_up = k.found_up;
      epoch = a.epoch;
      swapped = a.swapped;
      spare = a.spare;
      honesty = a.honesty;
    }
