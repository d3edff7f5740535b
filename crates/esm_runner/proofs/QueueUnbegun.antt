-- A run that want of memory stopped before it began.
use Rattle.std.proofs.Common.{◌≡◌, ℕ, false, List, [], Option, None, arith, inl, refl, subst, sym}
use Rattle.std.specs.Prelude.{slice_index_or}
use Rattle.std.proofs.lemmas.List.{append-nil}
use Rattle.std.proofs.lemmas.List.Elements.{All-nil}
use Rattle.esm_io.specs.Meanings.{DiskMeaning}
use Rattle.esm_io.specs.Told.{Grows}
use Rattle.esm_journal.specs.File.{header_of}
use Rattle.esm_journal.specs.Pair.{PairOpensTo, first_disk, second_disk}
use Rattle.esm_model.specs.declared.config.Config.{Config}
use Rattle.esm_model.specs.ValidMessage.{IsValidMessage}
use Rattle.esm_queue_core.specs.CoreView.{new_setting, new_view}
use Rattle.esm_input.specs.Positions.{from_start}
use Rattle.esm_input.specs.Reading.{items_read}
use Rattle.esm_queue_book.specs.Books.{BookState}
use Rattle.esm_runner.specs.QueueComing.{messages_in_items}
use Rattle.esm_runner.specs.Files.{FilesState, IsOpenedFiles}
use Rattle.esm_runner.specs.Headline.{Devices, Telling}
use Rattle.esm_runner.proofs.Unbegun.{OnlyNow, grows_by_none, opens_as_found, opens_as_opened, takes_none}
use Rattle.esm_book.specs.declared.nowhere.Nowhere.{Nowhere}
use Rattle.esm_runner.specs.QueueEnded.{HasStoppedRun, line_kind}
use Rattle.esm_runner.specs.QueueRuns.{IsLeft, LeavesSince, new_input}
use Rattle.esm_runner.specs.QueueLaws.{AreLaws}
use Rattle.esm_runner.proofs.QueueHeadlines.{AreOf, headline}
use Rattle.esm_runner.proofs.QueueWays.{stopped}

-- the book that would have been opened
abbrev new_book : {D : Type 0} → Config → (calls visibility : ℕ) → FilesState D → Nowhere → BookState D
new_book config calls visibility f none = record { core = new_view (new_setting config calls visibility f.said.deletions); pair = f.pair; dest = none; trouble = None; found = f.pair; found_dest = none }

leaves_all : {D : Type 0} (m : DiskMeaning D) (config : Config) (calls visibility : ℕ) (f : FilesState D) (none : Nowhere) → IsOpenedFiles m f → LeavesSince m f (new_book config calls visibility f none)
leaves_all m config calls visibility f none files honest other_honest only other_only one other since other_since = record {
  front = [];
  rest = [];
  split = refl;
  opens = subst (λ (list : List (List ℕ)). PairOpensTo (header_of 2) f.pair.epoch list one other) (sym (append-nil f.pair.payloads))
      (opens_as_found m f files honest other_honest only other_only one other since other_since);
}

left_new : {D : Type 0} (m : DiskMeaning D) (config : Config) (calls visibility : ℕ) (f : FilesState D) (none : Nowhere) → OnlyNow m → IsOpenedFiles m f → IsLeft m f (new_book config calls visibility f none)
left_new m config calls visibility f none only_now files = record {
  files = files;
  found = refl;
  legal = tt;
  settled = λ up. record { sorted = refl; paid = λ lane. refl };
  came = refl;
  deletions = refl;
  valid = All-nil (IsValidMessage config.kind);
  few = omega arith;
  journal = record { payloads = sym (append-nil f.pair.payloads); down = files.up; found_up = files.up; epoch = refl; swapped = refl; spare = refl; honesty = refl };
  since = leaves_all m config calls visibility f none files;
  pair_kept = files.kept;
  opened_since = λ honest other_honest one other since other_since. record {
    front = [];
    rest = [];
    split = refl;
    opens = subst (λ (list : List (List ℕ)). PairOpensTo (header_of 2) f.pair.epoch list one other) (sym (append-nil f.pair.payloads))
        (opens_as_opened m f files only_now honest other_honest one other since other_since);
  };
  pair_stopped = λ honest other_honest down. absurd (let up = files.up in cc);
  stays = refl;
  hand = refl;
  hand_follows = λ e some. absurd (cc);
  hand_is_one = λ disk. absurd (cc);
}

pub not_begun : {S D F : Type 0} (t : Telling D F) (left_in : S → Option (List ℕ)) (config : Config) (calls visibility : ℕ) (f : FilesState D) (old : S) (callers : List F) (new : Devices D F) → Nowhere → AreLaws → OnlyNow t.disk → IsOpenedFiles t.disk f
    → new.journal ≡ first_disk f.pair → new.spare ≡ second_disk f.pair → new.failures ≡ f.dest.disk → new.callers ≡ callers → HasStoppedRun t left_in config calls visibility f old old callers [] new
not_begun {S} {D} {F} t left_in config calls visibility f old callers new none laws only_now files first second lines same =
    let b : BookState D = new_book config calls visibility f none in
    let left : IsLeft t.disk f b = left_new t.disk config calls visibility f none only_now files in
    let of : AreOf f b new = record { journal = first; spare = second; failures = lines } in
    stopped t left_in config calls visibility f old (new_input config old) callers b b new laws (record { core = refl }) left of tt
    (record { kind = refl; factor = refl; start = refl; found = refl }) refl (headline t f b new laws left of tt (record { past = tt; owed = tt }))
    (record { bytes = []; more = []; whole = false; taken = takes_none (left_in old); came = (messages_in_items (from_start config.start (items_read (line_kind config) config.factor false []).items), refl) })
    (λ k d within. inl (subst (λ (xs : List F). Grows (t.callers.log (slice_index_or callers k d)) (t.callers.log (slice_index_or xs k d)) []) (sym same) (grows_by_none (t.callers.log (slice_index_or callers k d)))))
    (record {
      untouched = λ k d past. subst (λ (xs : List F). slice_index_or xs k d ≡ slice_index_or callers k d) (sym same) refl;
      no_calls = λ k past. refl;
    })
