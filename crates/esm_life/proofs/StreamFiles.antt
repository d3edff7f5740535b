-- What the journal holds after a run of a stream's mapping is what a further stage of its life leaves.
use Rattle.std.proofs.Common.{◌≡◌, ◌∙◌, ◌+◌, ℕ, ◌≤◌, Bool, true, false, List, [], ◌∷◌, ◌++◌, length, Option, None, ap, ap₂, append-nil, arith, inl, inr, refl, subst, sym}
use Rattle.std.specs.Prelude.{filter_map, reverse, IfSome}
use Rattle.std.proofs.lemmas.List.{reverse-reverse}
use Rattle.esm_io.specs.Meanings.{DiskMeaning}
use Rattle.esm_book.specs.Hand.{is_end}
use Rattle.esm_folder.specs.Upkeep.{AreHonest}
use Rattle.esm_folder.specs.declared.disks.Disks.{Disks}
use Rattle.esm_journal.specs.File.{header_of, Holding, Opening, fresh_file, blank_file}
use Rattle.esm_journal.specs.Pair.{PairOpensTo, pair_opened}
use Rattle.esm_journal_record.specs.EntryPayload.{AllMayBeSaid, entry_payload, entry_said}
use Rattle.esm_journal_record.specs.Payload.{IsSaid}
use Rattle.esm_model.specs.declared.book.Trouble.{Trouble}
use Rattle.esm_model.specs.declared.config.Config.{Config}
use Rattle.esm_model.specs.declared.entry.Entry.{Entry}
use Rattle.esm_model.specs.declared.entry.Entry.TheVariants.{Came, Began, Ended, Gave, Tried, Closed, Replayed, Shut}
use Rattle.esm_model.specs.Records.{Record}
use Rattle.esm_model.specs.declared.names.FileName.TheVariants as file
use Rattle.esm_model.specs.Setting.{Extends, Setting, Stream, over}
use Rattle.esm_model.specs.Step.{Legal}
use Rattle.esm_model.specs.Valid.{HasFieldsOf, HasStreamFields, IsStreamConfig}
use Rattle.esm_model.proofs.Histories.{legal_before}
use Rattle.esm_runner.specs.Files.{FilesState, IsOpenedFiles}
use Rattle.esm_runner.specs.Given.{AreGiven}
use Rattle.esm_runner.specs.Headline.{Devices, HandFollows, HandIsGiven, Headline, IsSettingOf, OpensToFrontOf, telling}
use Rattle.esm_workers.specs.Working.{Outside}
use Rattle.esm_history.specs.Content.{GoesOnFrom, IsOpenedOver, content_after}
use Rattle.esm_life.specs.Life.{AreBetween, CheckpointIsRuns, CheckpointStays, EachFateOnce, EachIsEarned, FateStays, IsLife, IsRecorded, IsRunOver, KeysInOrder, NoneIsCalledAgain, Ran, Run, Stage, content}
use Rattle.esm_life.specs.Left.{ArePairLeft}
use Rattle.esm_life.specs.Streams.{GoesOnWithStage, HasRunOver, IsCompactedLife, IsFoundAgain, IsLeftByStage, IsMigratedLife, IsMigratingLife, IsNewLife, IsSameLife, IsWholeStage, KeepsLawsInLife, OpensToLife, stage_of}
use Rattle.esm_life.specs.Tries.{TriesGoOn}
use Rattle.esm_life.proofs.RedriveFiles.{all_texts, few_in_hand, given_before, reversed, settled_so}

-- what ends a call or the input writes nothing
of_others : (s : Setting) (e : Entry) → is_end e ≡ true → entry_payload s e ≡ None
of_others s (Came shard first count moment) end = refl
of_others s (Began lane places closing moment) end = refl
of_others s (Ended lane reply moment) end = refl
of_others s (Gave by shard places fate line state moment) end = absurd (let clash : false ≡ true = end in cc)
of_others s (Tried lane places closing tries moment) end = absurd (let clash : false ≡ true = end in cc)
of_others s (Closed lane window moment) end = absurd (let clash : false ≡ true = end in cc)
of_others s (Replayed shard places moment) end = absurd (let clash : false ≡ true = end in cc)
of_others s (Shut moment) end = refl

-- what the journal kept

pub record IsKeptOf (gave : ℕ → Bool) (s : Setting) (h front kept : List Entry) : Type 0 where
  pub moments : AreGiven gave kept
  pub legal : Legal s kept
  pub may_be_said : AllMayBeSaid s kept
  pub recorded : IsRecorded h kept
  pub texts : filter_map (entry_payload s) front ≡ filter_map (entry_payload s) (reverse kept)

legal_here : (s : Setting) (h : List Entry) → ((streams : List Stream) → Extends s.streams streams → Legal (over s streams) h) → Legal s h
legal_here s h legal = legal s.streams (λ n i r at. at)

said_before : (s : Setting) (lost kept : List Entry) → AllMayBeSaid s (lost ++ kept) → AllMayBeSaid s kept
said_before s [] kept all = all
said_before s (e ∷ lost) kept all = said_before s lost kept all.0

-- the entry in hand can be said
abbrev HandSaid : Setting → List Entry → Type 0
HandSaid s hand = (e : Entry) → hand ≡ e ∷ [] → IfSome (entry_said s e) IsSaid

module _ (gave : ℕ → Bool) (s : Setting) (h : List Entry) (moments : AreGiven gave h) (legal : Legal s h) (said : AllMayBeSaid s h) where
  of_front : (front lost : List Entry) → lost ++ reverse front ≡ h → IsKeptOf gave s h front (reverse front)
  of_front front lost split = record {
    moments = given_before gave lost (reverse front) (subst (AreGiven gave) (sym split) moments);
    legal = legal_before s lost (reverse front) (subst (Legal s) (sym split) legal);
    may_be_said = said_before s lost (reverse front) (subst (AllMayBeSaid s) (sym split) said);
    recorded = inl (lost, sym split);
    texts = ap (filter_map (entry_payload s)) (sym (reverse-reverse front));
  }

  at_split : (front rest lost : List Entry) (e : Entry) (follows : HandFollows s h (e ∷ [])) → HandIsGiven gave s h (e ∷ []) follows → HandSaid s (e ∷ []) → lost ≡ reverse rest → front ++ rest ≡ reverse h ++ e ∷ [] → lost ++ reverse front ≡ e ∷ h → (kept : List Entry) × IsKeptOf gave s h front kept
  at_split front rest [] e follows given hand_said is split back =
      let none : rest ≡ [] = sym (reverse-reverse rest) ∙ ap reverse (sym is) in
      let all : front ≡ reverse h ++ e ∷ [] = sym (append-nil front) ∙ (ap (λ (k : List Entry). front ++ k) (sym none) ∙ split) in
      let to = follows e refl in (
        e ∷ to.before,
        record {
          moments = (given_before gave to.later to.before (subst (AreGiven gave) to.split moments), given e refl);
          legal = legal_here s (e ∷ to.before) to.follows;
          may_be_said = (said_before s to.later to.before (subst (AllMayBeSaid s) to.split said), hand_said e refl);
          recorded = inr (record { hand = e; before = to.before; later = to.later; recorded_is = refl; happened_is = to.split; ends = to.ends });
          texts = ap (filter_map (entry_payload s)) all ∙ all_texts (entry_payload s) (of_others s) h to.later to.before e to.split to.ends;
        },
      )
  at_split front rest (l ∷ lost) e follows given hand_said is split back =
      let cut : lost ++ reverse front ≡ h = (let whole : l ∷ (lost ++ reverse front) ≡ e ∷ h = back in cc) in
      (reverse front, of_front front lost cut)

  kept_of : (hand front rest : List Entry) (follows : HandFollows s h hand) → HandIsGiven gave s h hand follows → HandSaid s hand → length hand ≤ 1 → front ++ rest ≡ reverse h ++ hand → (kept : List Entry) × IsKeptOf gave s h front kept
  kept_of [] front rest follows given hand_said few split = (reverse front, of_front front (reverse rest) (reversed h [] front rest split))
  kept_of (e ∷ []) front rest follows given hand_said few split = at_split front rest (reverse rest) e follows given hand_said refl split (reversed h (e ∷ []) front rest split)
  kept_of (e ∷ (another ∷ more)) front rest follows given hand_said few split = absurd (omega (arith, few))

-- the laws of one run

module _ {D F : Type 0} (m : DiskMeaning D) (callers : Outside F) (line : List ℕ → List ℕ) (config : Config) (calls : ℕ) (f : FilesState D) (records : List Record) (s : Setting) (h : List Entry) (trouble : Option Trouble) (hand : List Entry) (new : Devices D F) where
  opened_over : IsOpenedFiles m f → IsSettingOf config calls f.said records s → IsOpenedOver s f.pair.payloads
  opened_over opened setting = record {
    told = f.said;
    tells = opened.tells;
    found = record {
      fates = ap (λ (v : Setting). v.fates) setting.opened;
      tries = ap (λ (v : Setting). v.tries) setting.opened;
      states = ap (λ (v : Setting). v.states) setting.opened;
      window_tries = ap (λ (v : Setting). v.window_tries) setting.opened;
    };
  }

  run_over : (run : HasRunOver m callers line config calls f records s h trouble hand new) (recorded : List Entry) → Legal s recorded → AllMayBeSaid s recorded → IsRecorded h recorded → IsRunOver (stage_of s h recorded) f.pair.payloads
  run_over run recorded legal said kept = record {
    opened = opened_over run.opened run.is_setting;
    legal = legal_here s h run.headline.legal_trace;
    legal_recorded = legal;
    may_be_said = said;
    kept = kept;
  }

  -- a front of what happened stands in what a crash leaves, whenever it comes
  front_left : Headline (telling callers m line) f s h trouble hand new → (one other : List ℕ) → AreHonest m f.journal f.spare → ArePairLeft m f new.journal new.spare one other → OpensToFrontOf s f.pair.epoch f.pair.payloads (reverse h ++ hand) one other
  front_left head one other honest (inl start) = head.crash honest start.settled one other start.journal_since start.spare_since
  front_left head one other honest (inr opening) = head.crash_since_opening honest one other opening.journal_since opening.spare_since

  pub of_stage : (one other : List ℕ) → IsLeftByStage m callers line config calls f records s h trouble hand new one other
  of_stage one other run may =
      let head = run.headline in
      let o = front_left head one other may.honest may.left in
      let kept = kept_of callers.gave s h head.moments (legal_here s h head.legal_trace) head.can_be_said.entries hand o.front o.rest head.hand_follows head.hand_given head.can_be_said.in_hand (few_in_hand trouble hand head.in_hand) o.split in
      record {
        recorded = kept.0;
        moments = kept.1.moments;
        run_over = run_over run kept.0 kept.1.legal kept.1.may_be_said kept.1.recorded;
        content_is = subst (λ (payloads : List (List ℕ)). PairOpensTo (header_of 2) f.pair.epoch (f.pair.payloads ++ payloads) one other) kept.1.texts o.opens;
      }

  pub of_whole : IsWholeStage m callers line config calls f records s h trouble hand new
  of_whole run not =
      let head = run.headline in
      record {
        run_over = run_over run h (legal_here s h head.legal_trace) head.can_be_said.entries (inl ([], refl));
        content_is = head.journal_kept not;
        paid = λ up lane. (head.settled up s.streams (λ n i r at. at)).paid lane;
      }

  pub of_life : (one other : List ℕ) (life : List Stage) → GoesOnWithStage m callers line config calls f records s h trouble hand new one other life
  of_life one other life run may found =
      let left = of_stage one other run may in
      record {
        recorded = left.recorded;
        moments = left.moments;
        opens = record {
          is_life = (found.0, subst (IsRunOver (stage_of s h left.recorded)) found.1 left.run_over);
          content_is = subst (λ (old : List (List ℕ)). pair_opened (header_of 2) one other ≡ Holding f.pair.epoch (content_after s left.recorded old)) found.1 left.content_is.0;
        };
      }

-- and of a life

pub record AreLawsOfLife : Type 0 where
  pub stays : (later before : List Stage) → IsLife (later ++ before) → FateStays later before
  pub earned : (r : Run) (before : List Stage) → IsLife (Ran r ∷ before) → EachIsEarned r before
  pub not_called : (r : Run) (before : List Stage) → IsLife (Ran r ∷ before) → NoneIsCalledAgain r before
  pub in_order : (r : Run) (before : List Stage) → IsLife (Ran r ∷ before) → KeysInOrder r before
  pub checkpoint_stays : (later before : List Stage) → IsLife (later ++ before) → CheckpointStays later before
  pub checkpoint_is : (r : Run) (before : List Stage) → IsLife (Ran r ∷ before) → CheckpointIsRuns r before
  pub knows : (r next : Run) (between before : List Stage) → IsLife (Ran next ∷ between ++ Ran r ∷ before) → AreBetween between → HasStreamFields r.setting.config → GoesOnFrom r.setting r.recorded next.setting
  pub once : (life : List Stage) → IsLife life → EachFateOnce life
  pub finds_tries : (r next : Run) (between before : List Stage) → IsLife (Ran next ∷ between ++ Ran r ∷ before) → AreBetween between → HasStreamFields r.setting.config → TriesGoOn r.setting r.recorded next.setting

stream_fields : (c : Config) → IsStreamConfig c → HasStreamFields c
stream_fields c is = subst (λ k. HasFieldsOf k c) is.kind is.valid.fields

pub keeps_laws : {D F : Type 0} (m : DiskMeaning D) → AreLawsOfLife → (callers : Outside F) (line : List ℕ → List ℕ) (config : Config) (calls : ℕ) (f : FilesState D) (records : List Record) (s : Setting) (h : List Entry) (trouble : Option Trouble) (hand : List Entry) (new : Devices D F)
    (life : List Stage) → KeepsLawsInLife m callers line config calls f records s h trouble hand new life
keeps_laws m laws callers line config calls f records s h trouble hand new life run valid found recorded over =
    let r = stage_of s h recorded in
    let is : IsLife (Ran r ∷ life) = (found.0, over) in
    let own : s.config ≡ config = ap (λ (v : Setting). v.config) run.is_setting.opened in
    let fields : HasStreamFields s.config = stream_fields s.config (subst IsStreamConfig (sym own) valid) in
    record {
      fates_stay = laws.stays (Ran r ∷ []) life is;
      each_is_earned = laws.earned r life is;
      none_is_called_again = laws.not_called r life is;
      keys_in_order = laws.in_order r life is;
      checkpoint_stays = laws.checkpoint_stays (Ran r ∷ []) life is;
      checkpoint_is_runs = laws.checkpoint_is r life is;
      goes_on = λ next between on no_run. laws.knows r next between life on no_run fields;
      each_fate_once = laws.once (Ran r ∷ life) is;
      tries_go_on = λ next between on no_run. laws.finds_tries r next between life on no_run fields;
    }

-- what was opened is one
same_held : (epoch other : ℕ) (payloads list : List (List ℕ)) (o : Opening) → o ≡ Holding epoch payloads → o ≡ Holding other list → payloads ≡ list
same_held epoch other payloads list o one two =
    let both : Holding epoch payloads ≡ Holding other list = sym one ∙ two in cc

pub found_again : {D : Type 0} (m : DiskMeaning D) (f : FilesState D) (life : List Stage) (epoch : ℕ) → IsFoundAgain m f life epoch
found_again m f life epoch opened honest opens =
    (opens.is_life, same_held f.pair.epoch epoch f.pair.payloads (content life) (pair_opened (header_of 2) (m.content f.journal) (m.content f.spare)) (opened.opens honest) opens.content_is)

fresh_opens : pair_opened (header_of 2) (fresh_file (header_of 2)) (blank_file (header_of 2) 0) ≡ Holding 1 []
fresh_opens = refl

pub begins : {D : Type 0} (m : DiskMeaning D) (old new : Disks D) → IsNewLife m old new
begins m old new made honest =
    let journal = made file.Journal honest.0 in
    let spare = made file.Spare honest.1 in (
      (settled_so (fresh_file (header_of 2)) (m.content new.journal) (m.image new.journal) journal.1 journal.2, settled_so (blank_file (header_of 2) 0) (m.content new.spare) (m.image new.spare) spare.1 spare.2),
      record { is_life = tt; content_is = ap₂ (pair_opened (header_of 2)) journal.1 spare.1 ∙ fresh_opens },
    )

pub compacted : {D : Type 0} (m : DiskMeaning D) (life : List Stage) (epoch : ℕ) (journal spare journal' spare' : D) (one other : List ℕ) → IsCompactedLife m life epoch journal spare journal' spare' one other
compacted m life epoch journal spare journal' spare' one other compacting honest settled opens since since_spare =
    elim (compacting honest settled epoch (content life) opens.content_is one other since since_spare) [
      | inl old ↦ inl (record { is_life = opens.is_life; content_is = old })
      | inr new ↦ inr (new.0, record { is_life = (opens.is_life, record { same = new.1.same; good = new.1.good_again }); content_is = new.2 })
    ]

pub migrated : {D : Type 0} (m : DiskMeaning D) (life : List Stage) (journal spare journal' spare' : D) (payloads : List (List ℕ)) → IsMigratedLife m life journal spare journal' spare' payloads
migrated m life journal spare journal' spare' payloads is same done = record {
  is_life = is;
  content_is = subst (λ (list : List (List ℕ)). pair_opened (header_of 2) (m.content journal') (m.content spare') ≡ Holding (done.epoch + 1) list) same done.holds.opens;
}

pub migrating : {D : Type 0} (m : DiskMeaning D) (life : List Stage) (epoch : ℕ) (journal spare journal' spare' : D) (one other : List ℕ) → IsMigratingLife m life epoch journal spare journal' spare' one other
migrating m life epoch journal spare journal' spare' one other moving honest settled opens since since_spare =
    elim (moving.version_1 honest settled opens.version epoch (content life) opens.content_is one other since since_spare) [
      | inl old ↦ inl (record { is_life = opens.is_life; version = old.0; content_is = old.1 })
      | inr new ↦ inr (record { is_life = opens.is_life; content_is = new })
    ]

pub same_life : {D : Type 0} (m : DiskMeaning D) (life : List Stage) (epoch : ℕ) (journal spare journal' spare' : D) (one other : List ℕ) → IsSameLife m life epoch journal spare journal' spare' one other
same_life m life epoch journal spare journal' spare' one other unwritten honest settled opens since spare_since =
    let first : one ≡ m.content journal = settled.0 one ((unwritten.0.any_moment honest.0).each one since) in
    let second : other ≡ m.content spare = settled.1 other ((unwritten.1.any_moment honest.1).each other spare_since) in
    subst (λ (x : List ℕ). OpensToLife life epoch x other) (sym first)
    (subst (λ (y : List ℕ). OpensToLife life epoch (m.content journal) y) (sym second) opens)
