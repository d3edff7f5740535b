-- What the files hold after a run of a queue is what a further stage of its life leaves.
use Rattle.std.proofs.Common.{◌≡◌, ◌∙◌, ◌+◌, ℕ, ◌≤◌, Bool, true, List, [], ◌∷◌, ◌++◌, length, Option, Some, None, ap, ap₂, append-nil, arith, inl, inr, refl, subst, sym}
use Rattle.std.specs.Prelude.{filter_map, reverse}
use Rattle.std.specs.List.{cons_option}
use Rattle.std.proofs.lemmas.List.{reverse-reverse}
use Rattle.esm_io.specs.Meanings.{DiskMeaning}
use Rattle.esm_folder.specs.declared.disks.Disks.{Disks as FolderDisks}
use Rattle.esm_folder.specs.Init.{fresh_bytes}
use Rattle.esm_folder.specs.Upkeep.{AreHonest}
use Rattle.esm_journal.specs.File.{header_of, Holding, Opening, opened as file_opened}
use Rattle.esm_journal.specs.Pair.{PairOpensTo, pair_opened}
use Rattle.esm_journal.specs.State.{OpensTo}
use Rattle.esm_journal_record.specs.EntryPayload.{queue_payload}
use Rattle.esm_model.specs.declared.book.Trouble.{Trouble}
use Rattle.esm_model.specs.declared.config.Config.{Config}
use Rattle.esm_model.specs.declared.entry.Entry.{Entry}
use Rattle.esm_model.specs.declared.item.Message.{Message}
use Rattle.esm_model.specs.declared.names.FileName.TheVariants as file
use Rattle.esm_queue_model.specs.QueueSetting.{QueueSetting, is_fifo}
use Rattle.esm_queue_model.specs.QueueStep.{LegalQueue}
use Rattle.esm_queue_model.proofs.QueueHistories.{legal_before}
use Rattle.esm_queue_life.specs.Life.{IsRecorded, IsRunOver, Ran, Stage, content, dead_lines}
use Rattle.esm_redrive_life.specs.Content.{content_after}
use Rattle.esm_runner.specs.Files.{FilesState}
use Rattle.esm_queue_book.specs.Books.{OpensToFirst, payloads_in}
use Rattle.esm_runner.specs.Given.{AreGiven}
use Rattle.esm_runner.specs.Headline.{Devices, telling}
use Rattle.esm_runner.specs.QueueHeadline.{HandFollows, HandIsGiven, Headline, LegalOver}
use Rattle.esm_workers.specs.Working.{Outside}
use Rattle.esm_life.specs.Left.{AreLinesLeft, ArePairLeft}
use Rattle.esm_life.specs.QueueLaws.{AreQueueLaws}
use Rattle.esm_life.specs.Queues.{GoesOnWithStage, HasRunOver, IsCompactedLife, IsFoundAgain, IsLeftByStage, IsLifeBegun, IsMigratedLife, IsMigratingLife, IsSameLife, IsWholeStage, KeepsLawsInLife, OpensToLife, stage_of}
use Rattle.esm_life.proofs.QueueStages.{laws_kept}
use Rattle.esm_life.proofs.RedriveFiles.{few_in_hand, given_before, of_others, all_texts, reversed, settled_so}

-- the first texts are those of the first entries

pub record AreTextsOf (text : Entry → Option (List ℕ)) (es : List Entry) (texts : List (List ℕ)) : Type 0 where
  pub front : List Entry
  pub rest : List Entry
  pub split : front ++ rest ≡ es
  pub are : filter_map text front ≡ texts

texts_step : (text : Entry → Option (List ℕ)) (e : Entry) (es : List Entry) (line : List ℕ) (front rest : List (List ℕ)) (o : Option (List ℕ)) → text e ≡ o → ((xs zs : List (List ℕ)) → xs ++ zs ≡ filter_map text es → AreTextsOf text es xs)
    → line ∷ (front ++ rest) ≡ cons_option o (filter_map text es) → AreTextsOf text (e ∷ es) (line ∷ front)
texts_step text e es line front rest None of more split =
    let on = more (line ∷ front) rest split in
    record { front = e ∷ on.front; rest = on.rest; split = ap (λ (l : List Entry). e ∷ l) on.split; are = ap (λ (o : Option (List ℕ)). cons_option o (filter_map text on.front)) of ∙ on.are }
texts_step text e es line front rest (Some own) of more split =
    let first : line ≡ own = cc in
    let others : front ++ rest ≡ filter_map text es = cc in
    let on = more front rest others in
    record {
      front = e ∷ on.front;
      rest = on.rest;
      split = ap (λ (l : List Entry). e ∷ l) on.split;
      are = ap (λ (o : Option (List ℕ)). cons_option o (filter_map text on.front)) of ∙ ap₂ (λ (z : List ℕ) (l : List (List ℕ)). z ∷ l) (sym first) on.are;
    }

first_texts : (text : Entry → Option (List ℕ)) (es : List Entry) (front rest : List (List ℕ)) → front ++ rest ≡ filter_map text es → AreTextsOf text es front
first_texts text [] [] rest split = record { front = []; rest = []; split = refl; are = refl }
first_texts text [] (line ∷ front) rest split = absurd (let clash : line ∷ (front ++ rest) ≡ [] = split in cc)
first_texts text (e ∷ es) [] rest split = record { front = []; rest = e ∷ es; split = refl; are = refl }
first_texts text (e ∷ es) (line ∷ front) rest split = texts_step text e es line front rest (text e) refl (first_texts text es) split

-- what the journal kept

pub record IsKeptOf (gave : ℕ → Bool) (s : QueueSetting) (h front kept : List Entry) : Type 0 where
  pub moments : AreGiven gave kept
  pub legal : LegalQueue s kept
  pub recorded : IsRecorded h kept
  pub texts : filter_map (queue_payload s.messages) front ≡ filter_map (queue_payload s.messages) (reverse kept)

legal_here : (s : QueueSetting) (h : List Entry) → LegalOver s h → LegalQueue s h
legal_here s h legal = legal s.messages (λ i x at. at)

of_front : (gave : ℕ → Bool) (s : QueueSetting) (h front lost : List Entry) → AreGiven gave h → LegalQueue s h → lost ++ reverse front ≡ h → IsKeptOf gave s h front (reverse front)
of_front gave s h front lost moments legal split = record {
  moments = given_before gave lost (reverse front) (subst (AreGiven gave) (sym split) moments);
  legal = legal_before s lost (reverse front) (subst (LegalQueue s) (sym split) legal);
  recorded = inl (lost, sym split);
  texts = ap (filter_map (queue_payload s.messages)) (sym (reverse-reverse front));
}

at_split : (gave : ℕ → Bool) (s : QueueSetting) (h front rest lost : List Entry) (e : Entry) → AreGiven gave h → LegalQueue s h → (follows : HandFollows s h (e ∷ [])) → HandIsGiven gave s h (e ∷ []) follows → lost ≡ reverse rest → front ++ rest ≡ reverse h ++ e ∷ [] → lost ++ reverse front ≡ e ∷ h
    → (kept : List Entry) × IsKeptOf gave s h front kept
at_split gave s h front rest [] e moments legal follows given is split back =
    let none : rest ≡ [] = sym (reverse-reverse rest) ∙ ap reverse (sym is) in
    let all : front ≡ reverse h ++ e ∷ [] = sym (append-nil front) ∙ (ap (λ (k : List Entry). front ++ k) (sym none) ∙ split) in
    let to = follows e refl in (
      e ∷ to.before,
      record {
        moments = (given_before gave to.later to.before (subst (AreGiven gave) to.split moments), given e refl);
        legal = legal_here s (e ∷ to.before) to.follows;
        recorded = inr (record { hand = e; before = to.before; later = to.later; recorded_is = refl; happened_is = to.split; ends = to.ends });
        texts = ap (filter_map (queue_payload s.messages)) all ∙ all_texts (queue_payload s.messages) (of_others s.messages) h to.later to.before e to.split to.ends;
      },
    )
at_split gave s h front rest (l ∷ lost) e moments legal follows given is split back =
    let cut : lost ++ reverse front ≡ h = (let whole : l ∷ (lost ++ reverse front) ≡ e ∷ h = back in cc) in
    (reverse front, of_front gave s h front lost moments legal cut)

kept_of : (gave : ℕ → Bool) (s : QueueSetting) (h hand front rest : List Entry) → AreGiven gave h → LegalQueue s h → (follows : HandFollows s h hand) → HandIsGiven gave s h hand follows → length hand ≤ 1 → front ++ rest ≡ reverse h ++ hand → (kept : List Entry) × IsKeptOf gave s h front kept
kept_of gave s h [] front rest moments legal follows given few split = (reverse front, of_front gave s h front (reverse rest) moments legal (reversed h [] front rest split))
kept_of gave s h (e ∷ []) front rest moments legal follows given few split = at_split gave s h front rest (reverse rest) e moments legal follows given refl split (reversed h (e ∷ []) front rest split)
kept_of gave s h (e ∷ (another ∷ more)) front rest moments legal follows given few split = absurd (omega (arith, few))

-- the laws of one run

-- since now an honest disk has no image but those of now
abbrev pub OnlyNow : {D : Type 0} → DiskMeaning D → Type 0
OnlyNow {D} m = (disk : D) (bytes : List ℕ) → m.honest disk ≡ true → m.since disk (m.moment disk) bytes → m.image disk bytes

module _ {D F : Type 0} (m : DiskMeaning D) (only_now : OnlyNow m) (callers : Outside F) (line : List ℕ → List ℕ) (config : Config) (calls visibility : ℕ) (f : FilesState D) (messages : List Message) (s : QueueSetting) (h : List Entry) (trouble : Option Trouble) (hand : List Entry) (new : Devices D F) where
  abbrev of_kind : Bool
  of_kind = is_fifo config.kind

  run_over : HasRunOver m callers line config calls visibility f messages s h trouble hand new → (recorded : List Entry) → LegalQueue s recorded → IsRecorded h recorded → IsRunOver of_kind (stage_of s h recorded) f.pair.payloads
  run_over run recorded legal kept = record {
    kind = ap (λ (v : QueueSetting). is_fifo v.config.kind) run.is_setting.opened;
    opened = record { told = f.said; tells = run.opened.tells; found = ap (λ (v : QueueSetting). v.deletions) run.is_setting.opened };
    messages = record { valid = run.headline.valid; few = run.headline.few };
    legal = legal_here s h run.headline.legal_trace;
    legal_recorded = legal;
    kept = kept;
  }

  -- the first payloads of what happened stand in what a crash leaves of the journal, whenever it comes
  first_left : Headline (telling callers m line) f s h trouble hand new → (one other : List ℕ) → AreHonest m f.journal f.spare → ArePairLeft m f new.journal new.spare one other
      → OpensToFirst f.pair.epoch f.pair.payloads (payloads_in s.messages (reverse h ++ hand)) one other
  first_left head one other honest (inl start) = head.crash honest start.settled one other start.journal_since start.spare_since
  first_left head one other honest (inr opening) = head.crash_since_opening honest one other opening.journal_since opening.spare_since

  -- and the dead letters that were found
  lines_stay : HasRunOver m callers line config calls visibility f messages s h trouble hand new → (bytes : List ℕ) → m.honest f.failures ≡ true → AreLinesLeft m f new.failures bytes → OpensTo (header_of 1) f.dest.payloads bytes
  lines_stay run bytes honest (inl start) =
      subst (OpensTo (header_of 1) f.dest.payloads) (sym (start.settled bytes ((run.headline.failures_read.any_moment honest).each bytes start.since))) (run.opened.opens_lines honest)
  lines_stay run bytes honest (inr since) =
      let found : m.honest f.dest.disk ≡ true = run.opened.lines_read.honesty ∙ honest in
      let keeps = run.opened.lines_kept found run.opened.dest_up in
      let now : m.image f.dest.disk bytes = only_now f.dest.disk bytes found (subst (λ (d : D). m.since d (m.moment f.dest.disk) bytes) run.headline.failures_same since) in
      subst (OpensTo (header_of 1) f.dest.payloads) (sym (keeps.durable bytes now)) keeps.opens

  pub of_stage : (one other bytes : List ℕ) → IsLeftByStage m callers line config calls visibility f messages s h trouble hand new one other bytes
  of_stage one other bytes run may =
      let head = run.headline in
      let o = first_left head one other may.honest may.left in
      let first = first_texts (queue_payload s.messages) (reverse h ++ hand) o.front o.rest o.split in
      let kept = kept_of callers.gave s h hand first.front first.rest head.moments (legal_here s h head.legal_trace) head.hand_follows head.hand_given (few_in_hand trouble hand head.in_hand) first.split in (
        record {
          recorded = kept.0;
          moments = kept.1.moments;
          run_over = run_over run kept.0 kept.1.legal kept.1.recorded;
          content_is = subst (λ (payloads : List (List ℕ)). PairOpensTo (header_of 2) f.pair.epoch (f.pair.payloads ++ payloads) one other) (sym first.are ∙ kept.1.texts) o.opens;
        },
        lines_stay run bytes may.honest_lines may.lines_left,
      )

  pub of_whole : IsWholeStage m callers line config calls visibility f messages s h trouble hand new
  of_whole run not = record {
    run_over = run_over run h (legal_here s h run.headline.legal_trace) (inl ([], refl));
    content_is = run.headline.journal_kept not;
    lines_are = run.headline.failures_same;
  }

  pub of_life : (one other bytes : List ℕ) (life : List Stage) → GoesOnWithStage m callers line config calls visibility f messages s h trouble hand new one other bytes life
  of_life one other bytes life run may found =
      let left = of_stage one other bytes run may in
      record {
        recorded = left.0.recorded;
        moments = left.0.moments;
        opens = record {
          is_life = (found.is_life, subst (IsRunOver of_kind (stage_of s h left.0.recorded)) found.content_is left.0.run_over);
          content_is = subst (λ (old : List (List ℕ)). pair_opened (header_of 2) one other ≡ Holding f.pair.epoch (content_after s left.0.recorded old)) found.content_is left.0.content_is.0;
          lines_are = subst (λ (lines : List (List ℕ)). OpensTo (header_of 1) lines bytes) found.lines_are left.1;
        };
      }

-- and of a life

pub keeps_laws : AreQueueLaws → (fifo : Bool) (s : QueueSetting) (h recorded : List Entry) (life : List Stage) → KeepsLawsInLife fifo s h recorded life
keeps_laws laws fifo s h recorded life is over =
    let r = stage_of s h recorded in
    (laws_kept laws fifo (Ran r) r life (is, over) refl, laws.earned fifo r life (is, over))

-- what was opened is one
same_held : (epoch other : ℕ) (payloads list : List (List ℕ)) (o : Opening) → o ≡ Holding epoch payloads → o ≡ Holding other list → payloads ≡ list
same_held epoch other payloads list o one two =
    let both : Holding epoch payloads ≡ Holding other list = sym one ∙ two in cc

pub found_again : {D : Type 0} (m : DiskMeaning D) (f : FilesState D) (fifo : Bool) (life : List Stage) (epoch : ℕ) → IsFoundAgain m f fifo life epoch
found_again m f fifo life epoch opened honest honest_lines opens =
    let lines = opened.opens_lines honest_lines in
    record {
      is_life = opens.is_life;
      content_is = same_held f.pair.epoch epoch f.pair.payloads (content life) (pair_opened (header_of 2) (m.content f.journal) (m.content f.spare)) (opened.opens honest) opens.content_is;
      lines_are = same_held lines.0 opens.lines_are.0 f.dest.payloads (dead_lines life) (file_opened (header_of 1) (m.content f.failures)) lines.1 opens.lines_are.1;
    }

pub compacted : {D : Type 0} (m : DiskMeaning D) (fifo : Bool) (life : List Stage) (epoch : ℕ) (journal spare journal' spare' : D) (one other bytes : List ℕ)
    → IsCompactedLife m fifo life epoch journal spare journal' spare' one other bytes
compacted m fifo life epoch journal spare journal' spare' one other bytes compacting honest settled opens since since_spare =
    elim (compacting honest settled epoch (content life) opens.content_is one other since since_spare) [
      | inl old ↦ inl (record { is_life = opens.is_life; content_is = old; lines_are = opens.lines_are })
      | inr new ↦ inr (new.0, record { is_life = (opens.is_life, record { same = new.1.same; good = new.1.good_again }); content_is = new.2; lines_are = opens.lines_are })
    ]

pub migrated : {D : Type 0} (m : DiskMeaning D) (fifo : Bool) (life : List Stage) (journal spare journal' spare' : D) (payloads : List (List ℕ)) (bytes : List ℕ) → IsMigratedLife m fifo life journal spare journal' spare' payloads bytes
migrated m fifo life journal spare journal' spare' payloads bytes is same lines done = record {
  is_life = is;
  content_is = subst (λ (list : List (List ℕ)). pair_opened (header_of 2) (m.content journal') (m.content spare') ≡ Holding (done.epoch + 1) list) same done.holds.opens;
  lines_are = lines;
}

pub migrating : {D : Type 0} (m : DiskMeaning D) (fifo : Bool) (life : List Stage) (epoch : ℕ) (journal spare journal' spare' : D) (one other bytes : List ℕ) → IsMigratingLife m fifo life epoch journal spare journal' spare' one other bytes
migrating m fifo life epoch journal spare journal' spare' one other bytes moving honest settled opens since since_spare =
    elim (moving.version_1 honest settled opens.version epoch (content life) opens.content_is one other since since_spare) [
      | inl old ↦ inl (record { is_life = opens.is_life; version = old.0; content_is = old.1; lines_are = opens.lines_are })
      | inr new ↦ inr (record { is_life = opens.is_life; content_is = new; lines_are = opens.lines_are })
    ]

pub same_life : {D : Type 0} (m : DiskMeaning D) (fifo : Bool) (life : List Stage) (epoch : ℕ) (journal spare failures journal' spare' failures' : D) (one other bytes : List ℕ)
    → IsSameLife m fifo life epoch journal spare failures journal' spare' failures' one other bytes
same_life m fifo life epoch journal spare failures journal' spare' failures' one other bytes unwritten honest settled honest_lines settled_lines opens since spare_since lines_since =
    let first : one ≡ m.content journal = settled.0 one ((unwritten.0.0.any_moment honest.0).each one since) in
    let second : other ≡ m.content spare = settled.1 other ((unwritten.0.1.any_moment honest.1).each other spare_since) in
    let third : bytes ≡ m.content failures = settled_lines bytes ((unwritten.1.any_moment honest_lines).each bytes lines_since) in
    subst (λ (x : List ℕ). OpensToLife fifo life epoch x other bytes) (sym first)
    (subst (λ (y : List ℕ). OpensToLife fifo life epoch (m.content journal) y bytes) (sym second)
    (subst (OpensToLife fifo life epoch (m.content journal) (m.content spare)) (sym third) opens))

-- fresh files open to nothing

pub life_begun : {D : Type 0} (m : DiskMeaning D) (old new : FolderDisks D) (fifo : Bool) → IsLifeBegun m old new fifo
life_begun m old new fifo made honest =
    let journal = made file.Journal (honest file.Journal) in
    let spare = made file.Spare (honest file.Spare) in
    let lines = made file.Failures (honest file.Failures) in
    record {
      settled = (
        settled_so (fresh_bytes file.Journal) (m.content new.journal) (m.image new.journal) journal.1 journal.2,
        settled_so (fresh_bytes file.Spare) (m.content new.spare) (m.image new.spare) spare.1 spare.2,
      );
      settled_lines = settled_so (fresh_bytes file.Failures) (m.content new.failures) (m.image new.failures) lines.1 lines.2;
      opens =
          subst (λ (x : List ℕ). OpensToLife fifo [] 1 x (m.content new.spare) (m.content new.failures)) (sym journal.1)
          (subst (λ (y : List ℕ). OpensToLife fifo [] 1 (fresh_bytes file.Journal) y (m.content new.failures)) (sym spare.1)
          (subst (OpensToLife fifo [] 1 (fresh_bytes file.Journal) (fresh_bytes file.Spare)) (sym lines.1)
          (record { is_life = tt; content_is = refl; lines_are = (1, refl) })));
    }
