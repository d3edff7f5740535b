-- What the files hold after a run of a redrive is what a stage of the life leaves.
use Rattle.std.proofs.Common.{◌≡◌, ◌∙◌, ◌⊎◌, ℕ, suc, ◌≤◌, Bool, true, false, ◌&&◌, List, [], ◌∷◌, ◌++◌, length, Option, Some, None, ap, append-nil, append_assoc, arith, inl, inr, refl, subst, sym}
use Rattle.std.specs.Prelude.{◌==◌, filter_map, IsTrue, reverse}
use Rattle.std.specs.List.{cons_option, list_all}
use Rattle.std.proofs.lemmas.Bool.{or_left}
use Rattle.std.proofs.lemmas.List.{reverse-append, reverse-reverse}
use Rattle.std.proofs.lemmas.List.Elements.{filter_map-append}
use Rattle.std.proofs.lemmas.List.Folds.{list_any-append}
use Rattle.esm_io.specs.Images.{Only}
use Rattle.esm_io.specs.Meanings.{DiskMeaning}
use Rattle.esm_book.specs.Hand.{is_end}
use Rattle.esm_journal.specs.File.{header_of, Holding}
use Rattle.esm_journal.specs.Pair.{PairOpensTo, pair_opened}
use Rattle.esm_journal.specs.State.{OpensTo}
use Rattle.esm_journal_record.specs.EntryPayload.{queue_payload}
use Rattle.esm_model.specs.declared.book.Trouble.{Trouble}
use Rattle.esm_model.specs.declared.book.Trouble.TheVariants.{Disk, Dest, Changed}
use Rattle.esm_model.specs.declared.entry.Entry.{Entry}
use Rattle.esm_model.specs.declared.entry.Entry.TheVariants.{Came, Began, Ended, Gave, Tried, Closed, Replayed, Shut}
use Rattle.esm_model.specs.declared.item.Message.{Message}
use Rattle.esm_model.specs.Books.{entry_line, lines_of}
use Rattle.esm_model.specs.Entries.{holds, moment_of}
use Rattle.esm_queue_model.specs.QueueSetting.{is_fifo}
use Rattle.esm_queue_book.specs.Books.{payloads_in}
use Rattle.esm_queue_life.specs.Life.{Redriven, Stage, content, dead_lines}
use Rattle.esm_redrive_book.specs.Keeping.{FollowsFront}
use Rattle.esm_redrive_life.specs.Content.{content_after}
use Rattle.esm_redrive_life.specs.Life.{IsRedriveOver}
use Rattle.esm_redrive_model.specs.Due.{lined_places, moved_places}
use Rattle.esm_redrive_model.specs.RedriveSetting.{RedriveSetting}
use Rattle.esm_runner.specs.Files.{FilesState}
use Rattle.esm_runner.specs.Given.{AreGiven, IsGiven}
use Rattle.esm_runner.specs.Headline.{IsInHand}
use Rattle.esm_redrive_run.specs.Headline.{Disks, Headline, LinesKept, LinesStopped, OpensToFrontOf, Words, dead_letters}
use Rattle.esm_redrive_run.specs.Stages.{IsLeftOf, IsStage}
use Rattle.esm_life.specs.Left.{ArePairLeft}
use Rattle.esm_life.specs.QueueLaws.{AreQueueLaws}
use Rattle.esm_life.specs.Redrives.{GoesOnWithStage, IsLeftByStage, IsLeftWhole, IsWholeStage, KeepsLawsInLife, LeftBy, MayBeLeft, run_in, stage_of}
use Rattle.esm_life.proofs.QueueStages.{laws_kept}

-- what ends a call or the input writes nothing

pub record IsQuiet (e : Entry) : Type 0 where
  pub line : entry_line e ≡ None
  pub payload : (messages : List Message) → queue_payload messages e ≡ None
  pub places : lined_places e ≡ []

not_end : (e : Entry) → false ≡ true → IsQuiet e
not_end e end = absurd (let clash : false ≡ true = end in cc)

quiet : (e : Entry) → is_end e ≡ true → IsQuiet e
quiet (Came shard first count moment) end = not_end (Came shard first count moment) end
quiet (Began lane places closing moment) end = not_end (Began lane places closing moment) end
quiet (Ended lane reply moment) end = record { line = refl; payload = λ messages. refl; places = refl }
quiet (Gave by shard places fate line state moment) end = not_end (Gave by shard places fate line state moment) end
quiet (Tried lane places closing tries moment) end = not_end (Tried lane places closing tries moment) end
quiet (Closed lane window moment) end = not_end (Closed lane window moment) end
quiet (Replayed shard places moment) end = not_end (Replayed shard places moment) end
quiet (Shut moment) end = record { line = refl; payload = λ messages. refl; places = refl }

both_true : (x y : Bool) → (x && y) ≡ true → (x ≡ true) × (y ≡ true)
both_true true y both = (refl, both)
both_true false y both = absurd (let clash : false ≡ true = both in cc)

-- a text that no such entry has
abbrev pub IsOfOthers : (Entry → Option (List ℕ)) → Type 0
IsOfOthers text = (e : Entry) → is_end e ≡ true → text e ≡ None

pub of_others : (messages : List Message) → IsOfOthers (queue_payload messages)
of_others messages e end = (quiet e end).payload messages

added : (text : Entry → Option (List ℕ)) (e : Entry) (h : List Entry) → filter_map text (reverse (e ∷ h)) ≡ filter_map text (reverse h) ++ cons_option (text e) []
added text e h = ap (filter_map text) (reverse-append (e ∷ []) h) ∙ filter_map-append text (reverse h) (e ∷ [])

same_texts : (text : Entry → Option (List ℕ)) → IsOfOthers text → (later before : List Entry) → list_all is_end later ≡ true → filter_map text (reverse (later ++ before)) ≡ filter_map text (reverse before)
same_texts text others [] before ends = refl
same_texts text others (e ∷ later) before ends =
    let both = both_true (is_end e) (list_all is_end later) ends in
    added text e (later ++ before)
    ∙ (ap (λ (o : Option (List ℕ)). filter_map text (reverse (later ++ before)) ++ cons_option o []) (others e both.0)
    ∙ (append-nil (filter_map text (reverse (later ++ before)))
    ∙ same_texts text others later before both.1))

same_places : (later before : List Entry) → list_all is_end later ≡ true → moved_places (later ++ before) ≡ moved_places before
same_places [] before ends = refl
same_places (e ∷ later) before ends =
    let both = both_true (is_end e) (list_all is_end later) ends in
    ap (λ (places : List ℕ). moved_places (later ++ before) ++ places) (quiet e both.0).places
    ∙ (append-nil (moved_places (later ++ before))
    ∙ same_places later before both.1)

-- places

holds_more : (xs ys : List ℕ) (i : ℕ) → IsTrue (holds xs i) → IsTrue (holds (xs ++ ys) i)
holds_more xs ys i at = list_any-append (λ p. p == i) xs ys ∙ or_left (holds xs i) (holds ys i) at

-- those of a history stand in each that goes on from it
places_stay : (lost kept : List Entry) (i : ℕ) → IsTrue (holds (moved_places kept) i) → IsTrue (holds (moved_places (lost ++ kept)) i)
places_stay [] kept i at = at
places_stay (e ∷ lost) kept i at = holds_more (moved_places (lost ++ kept)) (lined_places e) i (places_stay lost kept i at)

-- what is left by all entries

abbrev Follows : RedriveSetting → (h further : List Entry) → Type 0
Follows s h further = (e : Entry) → further ≡ e ∷ [] → FollowsFront s h e

-- behind which the clock gave its moment
abbrev FollowsGiven : (ℕ → Bool) → (s : RedriveSetting) (h further : List Entry) → Follows s h further → Type 0
FollowsGiven gave s h further follows = (e : Entry) (some : further ≡ e ∷ []) → IsGiven gave (follows e some).before (moment_of e)

-- the clock gave the moments of each front of what it gave the moments of
pub given_before : (gave : ℕ → Bool) (lost kept : List Entry) → AreGiven gave (lost ++ kept) → AreGiven gave kept
given_before gave [] kept all = all
given_before gave (e ∷ lost) kept all = given_before gave lost kept all.0

pub record IsWritten (gave : ℕ → Bool) (s : RedriveSetting) (h further kept : List Entry) : Type 0 where
  pub moments : AreGiven gave kept
  pub left : IsLeftOf s h further kept
  pub texts : (text : Entry → Option (List ℕ)) → IsOfOthers text → filter_map text (reverse h ++ further) ≡ filter_map text (reverse kept)
  pub places : (i : ℕ) → IsTrue (holds (moved_places h) i) → IsTrue (holds (moved_places kept) i)

-- the texts of all entries, where the last one follows a front of the others
pub all_texts : (text : Entry → Option (List ℕ)) → IsOfOthers text → (h later before : List Entry) (e : Entry) → h ≡ later ++ before → list_all is_end later ≡ true
    → filter_map text (reverse h ++ e ∷ []) ≡ filter_map text (reverse (e ∷ before))
all_texts text others h later before e split ends =
    filter_map-append text (reverse h) (e ∷ [])
    ∙ (ap (λ (ts : List (List ℕ)). ts ++ cons_option (text e) []) (ap (λ (k : List Entry). filter_map text (reverse k)) split ∙ same_texts text others later before ends)
    ∙ sym (added text e before))

whole_one : (gave : ℕ → Bool) (s : RedriveSetting) (h : List Entry) (e : Entry) (front : FollowsFront s h e) → AreGiven gave h → IsGiven gave front.before (moment_of e) → IsWritten gave s h (e ∷ []) (e ∷ front.before)
whole_one gave s h e front moments given = record {
  moments = (given_before gave front.later front.before (subst (AreGiven gave) front.split moments), given);
  left = inr (e, refl, (front, refl));
  texts = λ text others. all_texts text others h front.later front.before e front.split front.ends;
  places = λ i at.
      holds_more (moved_places front.before) (lined_places e) i
      (subst (λ (places : List ℕ). IsTrue (holds places i)) (ap moved_places front.split ∙ same_places front.later front.before front.ends) at);
}

whole : (gave : ℕ → Bool) (s : RedriveSetting) (h further : List Entry) → AreGiven gave h → (follows : Follows s h further) → FollowsGiven gave s h further follows → length further ≤ 1 → (kept : List Entry) × IsWritten gave s h further kept
whole gave s h [] moments follows given few = (h, record { moments = moments; left = inl ([], refl); texts = λ text others. ap (filter_map text) (append-nil (reverse h)); places = λ i at. at })
whole gave s h (e ∷ []) moments follows given few = ((e ∷ (follows e refl).before), whole_one gave s h e (follows e refl) moments (given e refl))
whole gave s h (e ∷ (another ∷ more)) moments follows given few = absurd (omega (arith, few))

-- what is left by the first of them

pub record IsFront (gave : ℕ → Bool) (s : RedriveSetting) (h further all front kept : List Entry) : Type 0 where
  pub moments : AreGiven gave kept
  pub left : IsLeftOf s h further kept
  pub texts : (text : Entry → Option (List ℕ)) → IsOfOthers text → filter_map text front ≡ filter_map text (reverse kept)
  pub places : (i : ℕ) → IsTrue (holds (moved_places kept) i) → IsTrue (holds (moved_places all) i)

-- a front of the history
of_history : (gave : ℕ → Bool) (s : RedriveSetting) (h further all front lost : List Entry) → AreGiven gave h → h ≡ lost ++ reverse front → IsWritten gave s h further all → IsFront gave s h further all front (reverse front)
of_history gave s h further all front lost moments split written = record {
  moments = given_before gave lost (reverse front) (subst (AreGiven gave) split moments);
  left = inl (lost, split);
  texts = λ text others. ap (filter_map text) (sym (reverse-reverse front));
  places = λ i at. written.places i (subst (λ (k : List Entry). IsTrue (holds (moved_places k) i)) (sym split) (places_stay lost (reverse front) i at));
}

-- or all of them
of_all : (gave : ℕ → Bool) (s : RedriveSetting) (h further all front : List Entry) → front ≡ reverse h ++ further → IsWritten gave s h further all → IsFront gave s h further all front all
of_all gave s h further all front is written = record {
  moments = written.moments;
  left = written.left;
  texts = λ text others. ap (filter_map text) is ∙ written.texts text others;
  places = λ i at. at;
}

pub reversed : (h further front rest : List Entry) → front ++ rest ≡ reverse h ++ further → reverse rest ++ reverse front ≡ reverse further ++ h
reversed h further front rest split =
    sym (reverse-append front rest) ∙ (ap reverse split ∙ (reverse-append (reverse h) further ∙ ap (λ (k : List Entry). reverse further ++ k) (reverse-reverse h)))

split_at : (gave : ℕ → Bool) (s : RedriveSetting) (h all front rest lost : List Entry) (e : Entry) → AreGiven gave h → lost ≡ reverse rest → front ++ rest ≡ reverse h ++ e ∷ [] → lost ++ reverse front ≡ e ∷ h → IsWritten gave s h (e ∷ []) all
    → (kept : List Entry) × IsFront gave s h (e ∷ []) all front kept
split_at gave s h all front rest [] e moments is split back written =
    let none : rest ≡ [] = sym (reverse-reverse rest) ∙ ap reverse (sym is) in
    (all, of_all gave s h (e ∷ []) all front (sym (append-nil front) ∙ (ap (λ (k : List Entry). front ++ k) (sym none) ∙ split)) written)
split_at gave s h all front rest (l ∷ lost) e moments is split back written =
    let cut : lost ++ reverse front ≡ h = (let whole : l ∷ (lost ++ reverse front) ≡ e ∷ h = back in cc) in
    (reverse front, of_history gave s h (e ∷ []) all front lost moments (sym cut) written)

part : (gave : ℕ → Bool) (s : RedriveSetting) (h further all front rest : List Entry) → AreGiven gave h → length further ≤ 1 → front ++ rest ≡ reverse h ++ further → IsWritten gave s h further all → (kept : List Entry) × IsFront gave s h further all front kept
part gave s h [] all front rest moments few split written = (reverse front, of_history gave s h [] all front (reverse rest) moments (sym (reversed h [] front rest split)) written)
part gave s h (e ∷ []) all front rest moments few split written = split_at gave s h all front rest (reverse rest) e moments refl split (reversed h (e ∷ []) front rest split) written
part gave s h (e ∷ (another ∷ more)) all front rest moments few split written = absurd (omega (arith, few))

-- the files

pub few_in_hand : (trouble : Option Trouble) (hand : List Entry) → IsInHand trouble hand → length hand ≤ 1
few_in_hand None hand is = subst (λ (es : List Entry). length es ≤ 1) (sym is) (omega arith)
few_in_hand (Some Disk) hand is = subst (λ (es : List Entry). length es ≤ 1) (sym is.1) (omega arith)
few_in_hand (Some Dest) hand is = subst (λ (es : List Entry). length es ≤ 1) (sym is) (omega arith)
few_in_hand (Some (Changed change)) hand is = subst (λ (es : List Entry). length es ≤ 1) (sym is) (omega arith)

-- of one entry at most, none stands in front or all of them
none_or_all : (front rest tried : List Entry) → front ++ rest ≡ tried → length tried ≤ 1 → (front ≡ []) ⊎ (front ≡ tried)
none_or_all [] rest tried split few = inl refl
none_or_all (e ∷ []) [] tried split few = inr split
none_or_all (e ∷ []) (r ∷ rest) tried split few =
    absurd (let less : suc (suc (length rest)) ≤ 1 = subst (λ (es : List Entry). length es ≤ 1) (sym split) few in omega (arith, less))
none_or_all (e ∷ (another ∷ front)) rest tried split few =
    absurd (let less : suc (suc (length (front ++ rest))) ≤ 1 = subst (λ (es : List Entry). length es ≤ 1) (sym split) few in omega (arith, less))

-- the lines that an image of the dead-letter file has; each place that these entries moved has its line there
pub record HasLines {D : Type 0} (gave : ℕ → Bool) (f : FilesState D) (s : RedriveSetting) (h hand tried all : List Entry) (bytes : List ℕ) : Type 0 where
  pub lined : List Entry
  pub moments : AreGiven gave lined
  pub left : IsLeftOf s h hand lined ⊎ IsLeftOf s h tried lined
  pub places : (i : ℕ) → IsTrue (holds (moved_places all) i) → IsTrue (holds (moved_places lined) i)
  pub opens : OpensTo (header_of 1) (f.dest.payloads ++ lines_of lined) bytes

lines_kept : {D : Type 0} (m : DiskMeaning D) (gave : ℕ → Bool) (f : FilesState D) (s : RedriveSetting) (h hand tried all : List Entry) (new : Disks D) (one other bytes : List ℕ) → MayBeLeft m f new one other bytes
    → IsWritten gave s h hand all → LinesKept m f (dead_letters (reverse h ++ hand)) new → HasLines gave f s h hand tried all bytes
lines_kept m gave f s h hand tried all new one other bytes may written kept =
    let keeps = kept may.honest_lines in
    let now : OpensTo (header_of 1) (f.dest.payloads ++ dead_letters (reverse h ++ hand)) bytes =
    subst (OpensTo (header_of 1) (f.dest.payloads ++ dead_letters (reverse h ++ hand))) (sym (keeps.durable bytes may.dead)) keeps.opens in
    record {
      lined = all;
      moments = written.moments;
      left = inl written.left;
      places = λ i at. at;
      opens = subst (λ (lines : List (List ℕ)). OpensTo (header_of 1) (f.dest.payloads ++ lines) bytes) (written.texts entry_line (λ e end. (quiet e end).line)) now;
    }

lines_stopped : {D : Type 0} (m : DiskMeaning D) (gave : ℕ → Bool) (f : FilesState D) (s : RedriveSetting) (h hand tried : List Entry) (new : Disks D) (one other bytes : List ℕ) → MayBeLeft m f new one other bytes
    → AreGiven gave h → (follows : Follows s h tried) → FollowsGiven gave s h tried follows → length tried ≤ 1 → LinesStopped m f (dead_letters (reverse h)) tried new → HasLines gave f s h hand tried h bytes
lines_stopped m gave f s h hand tried new one other bytes may moments follows given few stopped =
    let o = stopped may.honest_lines bytes may.dead in
    let old = f.dest.payloads ++ dead_letters (reverse h) in
    elim (none_or_all o.front o.rest tried o.split few) [
      | inl none ↦ record {
        lined = h;
        moments = moments;
        left = inr (inl ([], refl));
        places = λ i at. at;
        opens = subst (λ (lines : List (List ℕ)). OpensTo (header_of 1) lines bytes) (append-nil old)
            (subst (λ (es : List Entry). OpensTo (header_of 1) (old ++ dead_letters es) bytes) none o.opens);
      }
      | inr of_all ↦ (
          let all = whole gave s h tried moments follows given few in
          record {
            lined = all.0;
            moments = all.1.moments;
            left = inr all.1.left;
            places = all.1.places;
            opens = subst (λ (lines : List (List ℕ)). OpensTo (header_of 1) (f.dest.payloads ++ lines) bytes)
                (sym (filter_map-append entry_line (reverse h) tried) ∙ all.1.texts entry_line (λ e end. (quiet e end).line))
                (subst (λ (lines : List (List ℕ)). OpensTo (header_of 1) lines bytes) (append_assoc f.dest.payloads (dead_letters (reverse h)) (dead_letters tried))
                (subst (λ (es : List Entry). OpensTo (header_of 1) (old ++ dead_letters es) bytes) of_all o.opens));
          })
    ]

-- both files
joined : {D : Type 0} (gave : ℕ → Bool) (f : FilesState D) (s : RedriveSetting) (h hand tried all front kept : List Entry) (one other bytes : List ℕ)
    → IsFront gave s h hand all front kept → PairOpensTo (header_of 2) f.pair.epoch (f.pair.payloads ++ payloads_in s.queue.messages front) one other
    → HasLines gave f s h hand tried all bytes → LeftBy gave f s h hand tried one other bytes
joined gave f s h hand tried all front kept one other bytes part opens lines = record {
  recorded = kept;
  lined = lines.lined;
  moments = part.moments;
  lines_given = lines.moments;
  left = record { recorded_is = part.left; lined_is = lines.left; line_first = λ i at. lines.places i (part.places i at) };
  content_is = subst (λ (payloads : List (List ℕ)). PairOpensTo (header_of 2) f.pair.epoch (f.pair.payloads ++ payloads) one other)
      (part.texts (queue_payload s.queue.messages) (of_others s.queue.messages)) opens;
  lines_are = lines.opens;
}

module _ {D : Type 0} (m : DiskMeaning D) (gave : ℕ → Bool) (f : FilesState D) (s : RedriveSetting) (h hand tried : List Entry) (new : Disks D) (one other bytes : List ℕ) (may : MayBeLeft m f new one other bytes) where
  -- a front of what happened stands in what a crash leaves of the journal, whenever it comes
  front_left : (trouble : Option Trouble) → Headline m gave f s h trouble hand tried new → ArePairLeft m f new.journal new.spare one other → OpensToFrontOf s.queue.messages f.pair.epoch f.pair.payloads (reverse h ++ hand) one other
  front_left trouble headline (inl start) = headline.crash may.honest start.settled one other start.journal_since start.spare_since
  front_left trouble headline (inr opening) = headline.crash_since_opening may.honest one other opening.journal_since opening.spare_since

  -- the dead-letter file did not fail
  lines_up : (trouble : Option Trouble) → Headline m gave f s h trouble hand tried new → LinesKept m f (dead_letters (reverse h ++ hand)) new → LeftBy gave f s h hand tried one other bytes
  lines_up trouble headline kept =
      let few = few_in_hand trouble hand headline.in_hand in
      let o = front_left trouble headline may.left in
      let all = whole gave s h hand headline.moments headline.hand_follows headline.hand_given few in
      let first = part gave s h hand all.0 o.front o.rest headline.moments few o.split all.1 in
      joined gave f s h hand tried all.0 o.front first.0 one other bytes first.1 o.opens (lines_kept m gave f s h hand tried all.0 new one other bytes may all.1 kept)

  -- it failed, and no entry is in hand
  lines_down : Headline m gave f s h (Some Dest) hand tried new → LeftBy gave f s h hand tried one other bytes
  lines_down headline =
      let none : hand ≡ [] = headline.in_hand in
      let few = few_in_hand (Some Dest) hand none in
      let o = front_left (Some Dest) headline may.left in
      let written : IsWritten gave s h hand h = subst (λ (es : List Entry). IsWritten gave s h es h) (sym none)
      (record { moments = headline.moments; left = inl ([], refl); texts = λ text others. ap (filter_map text) (append-nil (reverse h)); places = λ i at. at }) in
      let first = part gave s h hand h o.front o.rest headline.moments few o.split written in
      let tried_one : length tried ≤ 1 = subst (λ (es : List Entry). length es ≤ 1) (sym headline.is_tried.2) (omega arith) in
      joined gave f s h hand tried h o.front first.0 one other bytes first.1 o.opens
      (lines_stopped m gave f s h hand tried new one other bytes may headline.moments headline.tried_follows headline.tried_given tried_one headline.dead_letters_kept)

  pub left_by : (trouble : Option Trouble) → Headline m gave f s h trouble hand tried new → LeftBy gave f s h hand tried one other bytes
  left_by None headline = lines_up None headline headline.dead_letters_kept
  left_by (Some Disk) headline = lines_up (Some Disk) headline headline.dead_letters_kept
  left_by (Some Dest) headline = lines_down headline
  left_by (Some (Changed change)) headline = lines_up (Some (Changed change)) headline headline.dead_letters_kept

-- the laws

abbrev pub RunIsStage : {D : Type 0} → DiskMeaning D → Type 0
RunIsStage {D} m =
    (gave : ℕ → Bool) (w : Words) (f : FilesState D) (messages : List Message) (s : RedriveSetting) (h : List Entry) (trouble : Option Trouble)
    (hand tried : List Entry) (new : Disks D) (recorded lined : List Entry) → IsStage m gave w f messages s h trouble hand tried new recorded lined

pub of_stage : {D : Type 0} (m : DiskMeaning D) → RunIsStage m → (gave : ℕ → Bool) (w : Words) (f : FilesState D) (messages : List Message) (s : RedriveSetting) (h : List Entry) (trouble : Option Trouble)
    (hand tried : List Entry) (new : Disks D) (one other bytes : List ℕ) → IsLeftByStage m gave w f messages s h trouble hand tried new one other bytes
of_stage m stage gave w f messages s h trouble hand tried new one other bytes opened setting headline may =
    let left = left_by m gave f s h hand tried new one other bytes may trouble headline in
    (left, stage gave w f messages s h trouble hand tried new left.recorded left.lined opened setting headline left.left)

-- no device failed
all_whole : {D : Type 0} (m : DiskMeaning D) (gave : ℕ → Bool) (f : FilesState D) (s : RedriveSetting) (h : List Entry) (trouble : Option Trouble) (hand tried : List Entry) (new : Disks D)
    → Headline m gave f s h trouble hand tried new → (trouble ≡ Some Disk → ⊥) → (trouble ≡ Some Dest → ⊥) → hand ≡ [] → LinesKept m f (dead_letters (reverse h ++ hand)) new → IsLeftWhole m f s h hand tried new
all_whole m gave f s h trouble hand tried new headline disk dest none kept = record {
  left = record { recorded_is = inl ([], refl); lined_is = inl (inl ([], refl)); line_first = λ i at. at };
  whole = record { recorded = refl; lined = refl; settled = headline.settled disk dest };
  content_is = headline.journal_kept disk;
  lines_are = subst (λ (es : List Entry). LinesKept m f (dead_letters es) new) (ap (λ (es : List Entry). reverse h ++ es) none ∙ append-nil (reverse h)) kept;
}

pub of_whole : {D : Type 0} (m : DiskMeaning D) (gave : ℕ → Bool) (f : FilesState D) (s : RedriveSetting) (h : List Entry) (trouble : Option Trouble) (hand tried : List Entry) (new : Disks D)
    → IsWholeStage m gave f s h trouble hand tried new
of_whole m gave f s h None hand tried new headline disk dest = all_whole m gave f s h None hand tried new headline disk dest headline.in_hand headline.dead_letters_kept
of_whole m gave f s h (Some Disk) hand tried new headline disk dest = absurd (disk refl)
of_whole m gave f s h (Some Dest) hand tried new headline disk dest = absurd (dest refl)
of_whole m gave f s h (Some (Changed change)) hand tried new headline disk dest =
    all_whole m gave f s h (Some (Changed change)) hand tried new headline disk dest headline.in_hand headline.dead_letters_kept

pub of_life : {D : Type 0} (m : DiskMeaning D) → RunIsStage m → (gave : ℕ → Bool) (w : Words) (f : FilesState D) (messages : List Message) (s : RedriveSetting) (h : List Entry) (trouble : Option Trouble)
    (hand tried : List Entry) (new : Disks D) (one other bytes : List ℕ) (life : List Stage) → GoesOnWithStage m gave w f messages s h trouble hand tried new one other bytes life
of_life m stage gave w f messages s h trouble hand tried new one other bytes life opened setting headline may found =
    let both = of_stage m stage gave w f messages s h trouble hand tried new one other bytes opened setting headline may in
    let left = both.0 in
    let fifo = is_fifo w.config.kind in
    let over : IsRedriveOver fifo (stage_of s h left.recorded left.lined) (content life) (dead_lines life) =
    subst (λ (lines : List (List ℕ)). IsRedriveOver fifo (stage_of s h left.recorded left.lined) (content life) lines) found.lines_are
    (subst (λ (old : List (List ℕ)). IsRedriveOver fifo (stage_of s h left.recorded left.lined) old f.dest.payloads) found.content_is both.1) in
    record {
      recorded = left.recorded;
      lined = left.lined;
      moments = left.moments;
      lines_given = left.lines_given;
      opens = record {
        is_life = (found.is_life, over);
        content_is = subst (λ (old : List (List ℕ)). pair_opened (header_of 2) one other ≡ Holding f.pair.epoch (content_after s.queue left.recorded old)) found.content_is left.content_is.0;
        lines_are = subst (λ (lines : List (List ℕ)). OpensTo (header_of 1) (lines ++ lines_of left.lined) bytes) found.lines_are left.lines_are;
      };
    }

-- files that a crash leaves nothing else of

pub settled_so : (bytes content : List ℕ) (images : List ℕ → Type 0) → content ≡ bytes → Only bytes images → Only content images
settled_so bytes content images is only image at = only image at ∙ sym is

-- the laws of a life

pub keeps_laws : AreQueueLaws → (fifo : Bool) (s : RedriveSetting) (h recorded lined : List Entry) (life : List Stage) → KeepsLawsInLife fifo s h recorded lined life
keeps_laws laws fifo s h recorded lined life is over =
    let r = stage_of s h recorded lined in
    (laws_kept laws fifo (Redriven r) (run_in s h recorded) life (is, over) refl, laws.redrive_earned fifo r life (is, over))
