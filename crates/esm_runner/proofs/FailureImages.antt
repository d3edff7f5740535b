-- What a crash leaves of the failure file: the lines found, and then the first of those of the run, in their order.
use Rattle.std.proofs.Common.{◌≡◌, ◌∙◌, ℕ, ◌≤◌, true, List, [], ◌∷◌, ◌++◌, map, Option, Some, None, ap, ap₂, append-nil, arith, inl, inr, refl, subst, sym}
use Rattle.std.specs.List.{cons_option}
use Rattle.esm_io.specs.Images.{Only}
use Rattle.esm_io.specs.Meanings.{DiskMeaning}
use Rattle.esm_journal.specs.File.{header_of}
use Rattle.esm_journal.specs.State.{JournalState, Keeps, OpensTo}
use Rattle.esm_model.specs.declared.book.Trouble.{Trouble}
use Rattle.esm_model.specs.declared.book.Trouble.TheVariants.{Disk, Dest, Changed}
use Rattle.esm_model.specs.declared.entry.Entry.{Entry}
use Rattle.esm_model.specs.Books.{entry_line}
use Rattle.esm_book.specs.Growth.{IsHeld, ReadsFront}
use Rattle.esm_book.specs.State.{in_delivery, in_hand}
use Rattle.esm_stream_core.specs.CoreView.{lines_of}
use Rattle.esm_stream_book.specs.Books.{BookState}
use Rattle.esm_stream_book.specs.Keeping.{entries_left, lines_left}
use Rattle.esm_runner.specs.Files.{FilesState}
use Rattle.esm_runner.specs.Headline.{Devices, FailureLinesCrashKept, HandIsGiven, IsTried, OpensToLinesOf, Telling}
use Rattle.esm_runner.specs.Runs.{IsLeft, file_dest}

-- the parts of a list whose image is parted
parted : {A B : Type 0} (f : A → B) (xs : List A) (front rest : List B) → front ++ rest ≡ map f xs → (ys : List A) × (zs : List A) × (ys ++ zs ≡ xs) × (map f ys ≡ front)
parted f xs [] rest split = ([], xs, refl, refl)
parted f [] (y ∷ front) rest split = absurd (let clash : y ∷ (front ++ rest) ≡ [] = split in cc)
parted {A} {B} f (x ∷ xs) (y ∷ front) rest split =
    let whole : y ∷ (front ++ rest) ≡ f x ∷ map f xs = split in
    let first : y ≡ f x = cc in
    let others : front ++ rest ≡ map f xs = cc in
    let more = parted f xs front rest others in
    (x ∷ more.0, more.1, ap (λ (l : List A). x ∷ l) more.2, ap₂ (λ (z : B) (l : List B). z ∷ l) (sym first) more.3)

-- the first lines are those of the first entries
pub record AreLinesOf (es : List Entry) (lines : List (List ℕ)) : Type 0 where
  pub front : List Entry
  pub rest : List Entry
  pub split : front ++ rest ≡ es
  pub are : lines_of front ≡ lines

lines_step : (e : Entry) (es : List Entry) (line : List ℕ) (front rest : List (List ℕ)) (o : Option (List ℕ)) → entry_line e ≡ o → ((xs zs : List (List ℕ)) → xs ++ zs ≡ lines_of es → AreLinesOf es xs)
    → line ∷ (front ++ rest) ≡ cons_option o (lines_of es) → AreLinesOf (e ∷ es) (line ∷ front)
lines_step e es line front rest None of more split =
    let on = more (line ∷ front) rest split in
    record { front = e ∷ on.front; rest = on.rest; split = ap (λ (l : List Entry). e ∷ l) on.split; are = ap (λ (o : Option (List ℕ)). cons_option o (lines_of on.front)) of ∙ on.are }
lines_step e es line front rest (Some text) of more split =
    let first : line ≡ text = cc in
    let others : front ++ rest ≡ lines_of es = cc in
    let on = more front rest others in
    record {
      front = e ∷ on.front;
      rest = on.rest;
      split = ap (λ (l : List Entry). e ∷ l) on.split;
      are = ap (λ (o : Option (List ℕ)). cons_option o (lines_of on.front)) of ∙ ap₂ (λ (z : List ℕ) (l : List (List ℕ)). z ∷ l) (sym first) on.are;
    }

first_lines : (es : List Entry) (front rest : List (List ℕ)) → front ++ rest ≡ lines_of es → AreLinesOf es front
first_lines [] [] rest split = record { front = []; rest = []; split = refl; are = refl }
first_lines [] (line ∷ front) rest split = absurd (let clash : line ∷ (front ++ rest) ≡ [] = split in cc)
first_lines (e ∷ es) [] rest split = record { front = []; rest = e ∷ es; split = refl; are = refl }
first_lines (e ∷ es) (line ∷ front) rest split = lines_step e es line front rest (entry_line e) refl (first_lines es) split

-- an entry is tried where the file failed, and then exactly one
is_tried_so : (why : Option Trouble) (owed : List Entry) → (why ≡ Some Dest → (e : Entry) × (text : List ℕ) × (in_delivery why owed ≡ e ∷ []) × (entry_line e ≡ Some text)) → IsTried why (in_delivery why owed)
is_tried_so None owed one = refl
is_tried_so (Some Disk) owed one = refl
is_tried_so (Some Dest) owed one = one refl
is_tried_so (Some (Changed change)) owed one = refl

module _ {D : Type 0} (m : DiskMeaning D) (line : List ℕ → List ℕ) (f : FilesState D) (b : BookState D (JournalState D)) (left : IsLeft m line f b) where
  pub dest_honest : m.honest f.failures ≡ true → m.honest b.dest.disk ≡ true
  dest_honest honest = left.lines.honesty ∙ (ap (λ (d : JournalState D). m.honest d.disk) left.found_dest ∙ (left.files.lines_read.honesty ∙ honest))

  found_honest : m.honest f.failures ≡ true → m.honest b.found_dest.disk ≡ true
  found_honest honest = ap (λ (d : JournalState D). m.honest d.disk) left.found_dest ∙ (left.files.lines_read.honesty ∙ honest)

  found_told : ◌≡◌ {A = Option (List (List ℕ))} (Some b.found_dest.payloads) (Some f.dest.payloads)
  found_told = ap (λ (d : JournalState D). Some d.payloads) left.found_dest

  -- as it was opened it has the lines found, and no others
  held_at_first : m.honest f.failures ≡ true → IsHeld (file_dest m line) b.found_dest f.dest.payloads
  held_at_first honest bytes since =
      let opened : m.honest f.dest.disk ≡ true = left.files.lines_read.honesty ∙ honest in
      let keeps : Keeps m (header_of 1) f.dest.payloads f.dest.disk = left.files.lines_kept opened left.files.dest_up in
      let now : m.since f.dest.disk (m.moment f.dest.disk) bytes = subst (λ (d : JournalState D). m.since d.disk (m.moment d.disk) bytes) left.found_dest since in
      subst (OpensTo (header_of 1) f.dest.payloads) (sym (keeps.durable bytes (left.now.only_now f.dest.disk bytes opened now))) keeps.opens

  -- the first lines of these entries, behind those
  lines_from : (before : List (List ℕ)) (es : List Entry) (bytes : List ℕ) → ReadsFront (λ left lines. OpensTo (header_of 1) lines left) before (map line (lines_of es)) bytes → OpensToLinesOf line before es bytes
  lines_from before es bytes read =
      let texts = parted line (lines_of es) read.front read.rest read.split in
      let first = first_lines es texts.0 texts.1 texts.2 in
      record {
        front = first.front;
        rest = first.rest;
        split = first.split;
        opens = subst (λ (ls : List (List ℕ)). OpensTo (header_of 1) (before ++ ls) bytes) (sym texts.3 ∙ ap (map line) (sym first.are)) read.reads;
      }

  -- each image now
  lines_now : m.honest f.failures ≡ true → (bytes : List ℕ) → m.image b.dest.disk bytes → OpensToLinesOf line (f.dest.payloads ++ map line (lines_of (entries_left b))) (in_delivery b.trouble b.core.owed) bytes
  lines_now honest bytes image =
      let since : m.since b.dest.disk (m.moment b.dest.disk) bytes = left.now.counts_now b.dest.disk (m.moment b.dest.disk) bytes (dest_honest honest) (omega arith) image in
      lines_from (f.dest.payloads ++ map line (lines_of (entries_left b))) (in_delivery b.trouble b.core.owed) bytes
      (left.lines.durable (found_honest honest) f.dest.payloads found_told (held_at_first honest) bytes since)

  -- and each since the run's start
  lines_since : m.honest f.failures ≡ true → Only (m.content f.failures) (m.image f.failures) → (bytes : List ℕ) → m.since b.dest.disk (m.moment f.failures) bytes → OpensToLinesOf line f.dest.payloads (lines_left b) bytes
  lines_since honest settled bytes since =
      let read = left.files.lines_read.any_moment honest in
      let takes = left.lines.images (found_honest honest) f.dest.payloads found_told in
      let early : m.moment f.failures ≤ m.moment b.found_dest.disk = subst (λ (d : JournalState D). m.moment f.failures ≤ m.moment d.disk) (sym left.found_dest) read.later in
      elim (takes.images (m.moment f.failures) bytes early since) [
        | inl was ↦
            (let image : m.image f.failures bytes = read.each bytes (subst (λ (d : JournalState D). m.since d.disk (m.moment f.failures) bytes) left.found_dest was) in
            let opens : OpensTo (header_of 1) f.dest.payloads bytes = subst (OpensTo (header_of 1) f.dest.payloads) (sym (settled bytes image)) (left.files.opens_lines honest) in
            record { front = []; rest = lines_left b; split = refl; opens = subst (λ (ls : List (List ℕ)). OpensTo (header_of 1) ls bytes) (sym (append-nil f.dest.payloads)) opens })
        | inr front ↦ lines_from f.dest.payloads (lines_left b) bytes front
      ]

  -- and each since it was opened
  lines_opened : m.honest f.failures ≡ true → (bytes : List ℕ) → m.since b.dest.disk (m.moment f.dest.disk) bytes → OpensToLinesOf line f.dest.payloads (lines_left b) bytes
  lines_opened honest bytes since =
      let takes = left.lines.images (found_honest honest) f.dest.payloads found_told in
      let from : m.since b.dest.disk (m.moment b.found_dest.disk) bytes = subst (λ (d : JournalState D). m.since b.dest.disk (m.moment d.disk) bytes) (sym left.found_dest) since in
      elim (takes.images (m.moment b.found_dest.disk) bytes (omega arith) from) [
        | inl was ↦
            record {
              front = [];
              rest = lines_left b;
              split = refl;
              opens = subst (λ (ls : List (List ℕ)). OpensTo (header_of 1) ls bytes) (sym (append-nil f.dest.payloads)) (held_at_first honest bytes was);
            }
        | inr front ↦ lines_from f.dest.payloads (lines_left b) bytes front
      ]

pub lines_crash : {D F : Type 0} (t : Telling D F) (f : FilesState D) (b : BookState D (JournalState D)) (new : Devices D F) (left : IsLeft t.disk t.line f b)
    → HandIsGiven t.callers.gave b.core.setting b.core.past (in_delivery b.trouble b.core.owed) left.tried_follows → new.failures ≡ b.dest.disk
    → FailureLinesCrashKept t f b.core.setting b.core.past b.trouble (in_hand b.trouble b.core.owed) new
lines_crash {D} t f b new left given is =
    record {
      tried = in_delivery b.trouble b.core.owed;
      is_tried = is_tried_so b.trouble b.core.owed left.tried_is_one;
      tried_follows = left.tried_follows;
      tried_given = given;
      since = λ honest settled bytes since.
          lines_since t.disk t.line f b left honest settled bytes (subst (λ (d : D). t.disk.since d (t.disk.moment f.failures) bytes) is since);
      since_opening = λ honest bytes since.
          lines_opened t.disk t.line f b left honest bytes (subst (λ (d : D). t.disk.since d (t.disk.moment f.dest.disk) bytes) is since);
      now = λ honest bytes image. lines_now t.disk t.line f b left honest bytes (subst (λ (d : D). t.disk.image d bytes) is image);
    }
