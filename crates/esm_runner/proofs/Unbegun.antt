-- A run that want of memory stopped before it began.
use Rattle.std.proofs.Common.{◌≡◌, ◌∙◌, ℕ, Bool, true, false, List, [], ◌++◌, Result, Ok, Err, Option, Some, None, ap, arith, inl, refl, subst, sym}
use Rattle.std.specs.Prelude.{OnErr, if◌then◌else◌, slice_index_or}
use Rattle.std.proofs.lemmas.List.{append-nil}
use Rattle.esm_io.specs.Images.{Only}
use Rattle.esm_io.specs.Meanings.{DiskMeaning}
use Rattle.esm_io.specs.Told.{Grows, TakesFront}
use Rattle.esm_journal.specs.File.{header_of}
use Rattle.esm_journal.specs.Pair.{PairKeeps, PairOpensTo, first_disk, second_disk}
use Rattle.esm_journal.specs.Reads.{IsOnlyRead}
use Rattle.esm_journal.specs.State.{JournalState, OpensTo}
use Rattle.esm_model.specs.declared.config.Config.{Config}
use Rattle.esm_model.specs.declared.config.Start.{Start}
use Rattle.esm_ingest.specs.Coming.{of_shard}
use Rattle.esm_ledger.specs.Ledger.{opened_with}
use Rattle.esm_stream_core.specs.CoreView.{new_view}
use Rattle.esm_model.specs.declared.item.LineKind.TheVariants as kinds
use Rattle.esm_input.specs.Positions.{from_start}
use Rattle.esm_input.specs.Reading.{items_read}
use Rattle.esm_folder.proofs.OpenedDisks.{are_honest}
use Rattle.esm_stream_book.specs.Books.{BookState}
use Rattle.esm_stream_book.specs.Keeping.{HasLines}
use Rattle.esm_runner.specs.Coming.{records_in_items}
use Rattle.esm_runner.specs.Ended.{HasStoppedRun}
use Rattle.esm_runner.specs.Files.{FilesState, IsOpenedFiles}
use Rattle.esm_runner.specs.Headline.{Devices, Telling}
use Rattle.esm_runner.specs.Runs.{CountsNow, IsLeft, LeavesSince, file_dest, new_input}
use Rattle.esm_runner.specs.Laws.{AreLaws}
use Rattle.esm_runner.proofs.Headlines.{AreOf, headline}
use Rattle.esm_runner.proofs.Ways.{stopped}

-- the book that would have been opened
abbrev new_book : {D : Type 0} → Config → ℕ → FilesState D → BookState D (JournalState D)
new_book config calls f = record { core = new_view (opened_with config calls f.said); pair = f.pair; dest = f.dest; trouble = None; found = f.pair; found_dest = f.dest }

-- the one image that a disk had when it was handed in, and since
same_image : {D : Type 0} (m : DiskMeaning D) (old new : D) → m.honest old ≡ true → Only (m.content old) (m.image old) → IsOnlyRead m old new → (image : List ℕ) → m.since new (m.moment old) image → image ≡ m.content new
same_image m old new honest only read image since = only image ((read.any_moment honest).each image since) ∙ sym (read.same honest)

open_in_order : {D : Type 0} (m : DiskMeaning D) (swapped : Bool) (used spare : D) (epoch : ℕ) (payloads : List (List ℕ)) → PairOpensTo (header_of 2) epoch payloads (m.content used) (m.content spare)
    → PairOpensTo (header_of 2) epoch payloads (m.content (if swapped then spare else used)) (m.content (if swapped then used else spare))
open_in_order m false used spare epoch payloads opens = opens
open_in_order m true used spare epoch payloads opens = (opens.1, opens.0)

pub opens_as_found : {D : Type 0} (m : DiskMeaning D) (f : FilesState D) → IsOpenedFiles m f → m.honest f.journal ≡ true → m.honest f.spare ≡ true → Only (m.content f.journal) (m.image f.journal) → Only (m.content f.spare) (m.image f.spare) → (one other : List ℕ)
    → m.since (first_disk f.pair) (m.moment f.journal) one → m.since (second_disk f.pair) (m.moment f.spare) other → PairOpensTo (header_of 2) f.pair.epoch f.pair.payloads one other
opens_as_found m f files honest other_honest only other_only one other since other_since =
    let both = are_honest m f.pair.swapped f.journal f.spare f.pair.used f.pair.spare files.read (honest, other_honest) in
    let keeps : PairKeeps m (header_of 2) f.pair.epoch f.pair.payloads f.pair.used f.pair.spare = files.kept both.0 both.1 files.up in
    let now : PairOpensTo (header_of 2) f.pair.epoch f.pair.payloads (m.content (first_disk f.pair)) (m.content (second_disk f.pair)) =
    open_in_order m f.pair.swapped f.pair.used f.pair.spare f.pair.epoch f.pair.payloads keeps.opens in
    let one_is : one ≡ m.content (first_disk f.pair) = same_image m f.journal (first_disk f.pair) honest only files.read.0 one since in
    let other_is : other ≡ m.content (second_disk f.pair) = same_image m f.spare (second_disk f.pair) other_honest other_only files.read.1 other other_since in
    subst (λ (bytes : List ℕ). PairOpensTo (header_of 2) f.pair.epoch f.pair.payloads bytes other) (sym one_is)
    (subst (λ (bytes : List ℕ). PairOpensTo (header_of 2) f.pair.epoch f.pair.payloads (m.content (first_disk f.pair)) bytes) (sym other_is) now)

-- since this moment a disk has no other image
abbrev pub OnlyNow : {D : Type 0} → DiskMeaning D → Type 0
OnlyNow {D} m = (d : D) (bytes : List ℕ) → m.honest d ≡ true → m.since d (m.moment d) bytes → m.image d bytes

-- and the images that they had since they were opened
pub opens_as_opened : {D : Type 0} (m : DiskMeaning D) (f : FilesState D) → IsOpenedFiles m f → OnlyNow m → m.honest f.pair.used ≡ true → m.honest f.pair.spare ≡ true
    → (one other : List ℕ) → m.since f.pair.used (m.moment f.pair.used) one → m.since f.pair.spare (m.moment f.pair.spare) other → PairOpensTo (header_of 2) f.pair.epoch f.pair.payloads one other
opens_as_opened m f files only_now honest other_honest one other since other_since =
    let keeps : PairKeeps m (header_of 2) f.pair.epoch f.pair.payloads f.pair.used f.pair.spare = files.kept honest other_honest files.up in
    let one_is : one ≡ m.content f.pair.used = keeps.durable one (only_now f.pair.used one honest since) in
    let other_is : other ≡ m.content f.pair.spare = keeps.spare_durable other (only_now f.pair.spare other other_honest other_since) in
    subst (λ (bytes : List ℕ). PairOpensTo (header_of 2) f.pair.epoch f.pair.payloads bytes other) (sym one_is)
    (subst (λ (bytes : List ℕ). PairOpensTo (header_of 2) f.pair.epoch f.pair.payloads (m.content f.pair.used) bytes) (sym other_is) keeps.opens)

pub grows_by_none : {A : Type 0} (o : Option (List A)) → Grows o o []
grows_by_none None = refl
grows_by_none (Some xs) = ap Some (sym (append-nil xs))

pub takes_none : {A : Type 0} (o : Option (List A)) → TakesFront o o []
takes_none None = refl
takes_none (Some xs) = (xs, refl, refl)

leaves_all : {D : Type 0} (m : DiskMeaning D) (line : List ℕ → List ℕ) (config : Config) (calls : ℕ) (f : FilesState D) → IsOpenedFiles m f → LeavesSince m line f (new_book config calls f)
leaves_all m line config calls f files honest other_honest only other_only one other since other_since = record {
  front = [];
  rest = [];
  split = refl;
  opens = subst (λ (list : List (List ℕ)). PairOpensTo (header_of 2) f.pair.epoch list one other) (sym (append-nil f.pair.payloads))
      (opens_as_found m f files honest other_honest only other_only one other since other_since);
  delivered = ([], ap Some (sym (append-nil f.dest.payloads)));
}

-- the lines that were found are all that is left of the failure file
lines_found : {D : Type 0} (m : DiskMeaning D) (line : List ℕ → List ℕ) (config : Config) (calls : ℕ) (f : FilesState D) → IsOpenedFiles m f → HasLines (file_dest m line) (new_book config calls f)
lines_found m line config calls f files = record {
  lines = ap Some (sym (append-nil f.dest.payloads));
  failed = files.dest_up;
  found_usable = files.dest_up;
  honesty = refl;
  images = λ honest held told. record { later = omega arith; images = λ t left early since. inl since };
  durable = λ honest held told only left since. record {
    front = [];
    rest = [];
    split = refl;
    reads = subst (λ (ls : List (List ℕ)). OpensTo (header_of 1) ls left) (sym (append-nil (held ++ [])))
        (subst (λ (ls : List (List ℕ)). OpensTo (header_of 1) ls left) (sym (append-nil held)) (only left since));
  };
}

left_new : {D : Type 0} (m : DiskMeaning D) (line : List ℕ → List ℕ) (config : Config) (calls : ℕ) (f : FilesState D) → CountsNow m → IsOpenedFiles m f → IsLeft m line f (new_book config calls f)
left_new m line config calls f now files = record {
  files = files;
  found = refl;
  found_dest = refl;
  legal = λ streams extends. tt;
  settled = λ up streams extends. record { sorted = λ n. refl; paid = λ lane. refl };
  fates = refl;
  can_be_said = record { counted = λ n. omega arith; entries = tt; in_hand = λ e some. absurd (cc) };
  journal = record { payloads = sym (append-nil f.pair.payloads); down = files.up; found_up = files.up; epoch = refl; swapped = refl; spare = refl; honesty = refl };
  lines = lines_found m line config calls f files;
  since = leaves_all m line config calls f files;
  pair_kept = files.kept;
  opened_since = λ honest other_honest one other since other_since. record {
    front = [];
    rest = [];
    split = refl;
    opens = subst (λ (list : List (List ℕ)). PairOpensTo (header_of 2) f.pair.epoch list one other) (sym (append-nil f.pair.payloads))
        (opens_as_opened m f files now.only_now honest other_honest one other since other_since);
    delivered = ([], ap Some (sym (append-nil f.dest.payloads)));
  };
  pair_stopped = λ honest other_honest down. absurd (let up = files.up in cc);
  dest_kept = files.lines_kept;
  dest_stopped = λ honest down. absurd (let up = files.dest_up in cc);
  hand = refl;
  hand_follows = λ e some. absurd (cc);
  tried_follows = λ e some. absurd (cc);
  hand_is_one = λ failed. absurd (cc);
  tried_is_one = λ failed. absurd (cc);
  now = now;
}

pub not_begun : {S D F : Type 0} (t : Telling D F) (left_in : S → Option (List ℕ)) (config : Config) (start : Start) (calls : ℕ) (f : FilesState D) (old : S) (callers : List F) (new : Devices D F) → AreLaws → CountsNow t.disk → IsOpenedFiles t.disk f
    → new.journal ≡ first_disk f.pair → new.spare ≡ second_disk f.pair → new.failures ≡ f.dest.disk → new.callers ≡ callers → HasStoppedRun t left_in config start calls f old old callers [] new
not_begun {S} {D} {F} t left_in config start calls f old callers new laws now files first second lines same =
    let b : BookState D (JournalState D) = new_book config calls f in
    let left : IsLeft t.disk t.line f b = left_new t.disk t.line config calls f now files in
    let of : AreOf b new = record { journal = first; spare = second; failures = lines } in
    stopped t left_in config start calls f old (new_input config start old) callers b b new laws (record { core = refl }) left of tt
    (record { kind = refl; factor = refl; start_is = refl; found = refl }) refl (headline t f b new laws left of tt (record { past = tt; owed = tt }))
    (record { bytes = []; more = []; whole = false; taken = takes_none (left_in old); came = λ n. (of_shard n (records_in_items (from_start start (items_read kinds.Stream config.factor false []).items)), refl) })
    (λ k d within. inl (subst (λ (xs : List F). Grows (t.callers.log (slice_index_or callers k d)) (t.callers.log (slice_index_or xs k d)) []) (sym same) (grows_by_none (t.callers.log (slice_index_or callers k d)))))

-- a fact that holds whatever was answered
pub on_any_err : {A E P : Type 0} (r : Result A E) → P → OnErr r P
on_any_err (Ok x) p = tt
on_any_err (Err e) p = p
