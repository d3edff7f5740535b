-- What the disks of a queue leave of a life: those that no call was made on or that were only read, and those of a run or a redrive.
use Rattle.std.proofs.Common.{◌≡◌, ◌∙◌, ◌⊎◌, ℕ, Bool, true, List, [], ◌∷◌, ◌++◌, length, Option, Some, ap, arith, subst, sym}
use Rattle.esm_cli.specs.declared.command.Command.TheVariants as command
use Rattle.esm_folder.specs.Upkeep.{AreHonest, AreSettled, HasCompacted, found}
use Rattle.esm_io.specs.Images.{Only}
use Rattle.esm_io.specs.Meanings.{DiskMeaning}
use Rattle.esm_journal.specs.File.{Foreign, Holding, header_of}
use Rattle.esm_journal.specs.Pair.{pair_opened}
use Rattle.esm_journal.specs.Reads.{IsOnlyRead}
use Rattle.esm_journal.specs.State.{OpensTo}
use Rattle.esm_life.specs.Left.{AreLinesRead, AreLinesSinceStart, IsReadAtEnd, IsSinceOpening, IsSinceStart}
use Rattle.esm_life.specs.Queues.{GoesOnWithStage, HasFoundLife, HasRunOver, IsCompactedLife, IsFoundAgain, IsWholeStage, LeavesLife, OpensToLife, stage_of}
use Rattle.esm_life.specs.Redrives as redrives
use Rattle.esm_model.specs.declared.book.Trouble.{Trouble}
use Rattle.esm_model.specs.declared.book.Trouble.TheVariants.{Dest, Disk}
use Rattle.esm_model.specs.declared.config.Config.{Config}
use Rattle.esm_model.specs.declared.entry.Entry.{Entry}
use Rattle.esm_model.specs.declared.item.Message.{Message}
use Rattle.esm_model.specs.Books.{lines_of}
use Rattle.esm_program_life.specs.Queues.{AddsRewritten, HasLife}
use Rattle.esm_program_life.specs.Written.{HasWritten}
use Rattle.esm_program_life.proofs.Writes.{Compacts, compacts}
use Rattle.esm_program_life.proofs.Disks.{AreLeft, OnlyNow}
use Rattle.esm_queue_life.specs.Life.{IsRunOver, Ran, Redriven, Rewritten, Stage, content, dead_lines}
use Rattle.esm_queue_model.specs.QueueSetting.{QueueSetting, is_fifo}
use Rattle.esm_redrive_life.specs.Content.{content_after}
use Rattle.esm_redrive_life.specs.Life.{IsRedriveOver, IsWhole}
use Rattle.esm_redrive_model.specs.RedriveSetting.{RedriveSetting}
use Rattle.esm_redrive_run.specs.Headline.{Disks as RedriveDisks, Headline as RedriveHeadline, IsSettingOf as IsRedriveSettingOf, Words}
use Rattle.esm_redrive_run.specs.Stages.{IsStage}
use Rattle.esm_runner.specs.Files.{FilesState, IsOpenedFiles}
use Rattle.esm_runner.specs.Headline.{Devices}
use Rattle.esm_workers.specs.Working.{Outside}

-- the laws that are used, of disks and of a life
pub record AreLaws {D : Type 0} (F : Type 0) (m : DiskMeaning D) : Type 0 where
  pub only_now : OnlyNow m
  pub found : (f : FilesState D) (fifo : Bool) (life : List Stage) (epoch : ℕ) → IsFoundAgain m f fifo life epoch
  pub goes_on : (callers : Outside F) (line : List ℕ → List ℕ) (config : Config) (calls visibility : ℕ) (f : FilesState D) (messages : List Message) (s : QueueSetting) (h : List Entry) (trouble : Option Trouble) (hand : List Entry) (new : Devices D F) (one other bytes : List ℕ) (life : List Stage)
      → GoesOnWithStage m callers line config calls visibility f messages s h trouble hand new one other bytes life
  pub whole : (callers : Outside F) (line : List ℕ → List ℕ) (config : Config) (calls visibility : ℕ) (f : FilesState D) (messages : List Message) (s : QueueSetting) (h : List Entry) (trouble : Option Trouble) (hand : List Entry) (new : Devices D F)
      → IsWholeStage m callers line config calls visibility f messages s h trouble hand new
  pub redriven : (gave : ℕ → Bool) (w : Words) (f : FilesState D) (messages : List Message) (s : RedriveSetting) (h : List Entry) (trouble : Option Trouble) (hand tried : List Entry) (new : RedriveDisks D) (one other bytes : List ℕ) (life : List Stage)
      → redrives.GoesOnWithStage m gave w f messages s h trouble hand tried new one other bytes life
  pub whole_redrive : (gave : ℕ → Bool) (f : FilesState D) (s : RedriveSetting) (h : List Entry) (trouble : Option Trouble) (hand tried : List Entry) (new : RedriveDisks D) → redrives.IsWholeStage m gave f s h trouble hand tried new
  pub redrive : (gave : ℕ → Bool) (w : Words) (f : FilesState D) (messages : List Message) (s : RedriveSetting) (h : List Entry) (trouble : Option Trouble) (hand tried : List Entry) (new : RedriveDisks D) (recorded lined : List Entry)
      → IsStage m gave w f messages s h trouble hand tried new recorded lined
  pub compacted : (fifo : Bool) (life : List Stage) (epoch : ℕ) (journal spare journal' spare' : D) (one other bytes : List ℕ) → IsCompactedLife m fifo life epoch journal spare journal' spare' one other bytes

-- one disk

-- it has these bytes, and a crash may have left nothing else of it
abbrev pub HasOnly : {D : Type 0} → DiskMeaning D → (old new : D) → Type 0
HasOnly {D} m old new = (bytes : List ℕ) → m.since new (m.moment old) bytes → bytes ≡ m.content old

pub only_of_read : {D : Type 0} (m : DiskMeaning D) (old new : D) → m.honest old ≡ true → Only (m.content old) (m.image old) → IsOnlyRead m old new → HasOnly m old new
only_of_read m old new honest settled read bytes since = settled bytes ((read.any_moment honest).each bytes since)

pub only_of_unused : {D : Type 0} (m : DiskMeaning D) → OnlyNow m → (old new : D) → m.honest old ≡ true → Only (m.content old) (m.image old) → new ≡ old → HasOnly m old new
only_of_unused m only_now old new honest settled same bytes since = settled bytes (only_now old bytes honest (subst (λ d. m.since d (m.moment old) bytes) same since))

pub settled_of_read : {D : Type 0} (m : DiskMeaning D) (old new : D) → m.honest old ≡ true → Only (m.content old) (m.image old) → IsOnlyRead m old new → Only (m.content new) (m.image new)
settled_of_read m old new honest settled read bytes now = settled bytes (read.images honest bytes now) ∙ sym (read.same honest)

-- a file that opens to lines has bytes
pub not_empty_lines : (bytes : List ℕ) (lines : List (List ℕ)) → OpensTo (header_of 1) lines bytes → length bytes ≡ 0 → ⊥
not_empty_lines [] lines opens none = let clash : Foreign ≡ Holding opens.0 lines = opens.1 in cc
not_empty_lines (byte ∷ bytes) lines opens none = absurd (omega (arith, none))

-- what is left of a life

-- of disks that were only read, as they read at the end
pub of_end : {D : Type 0} (m : DiskMeaning D) (fifo : Bool) (life : List Stage) (epoch : ℕ) (journal spare failures : D) → HasLife m fifo life epoch journal spare failures → (journal' spare' failures' : D) (one other bytes : List ℕ)
    → IsReadAtEnd m journal spare journal' spare' one other → AreLinesRead m failures failures' bytes → OpensToLife fifo life epoch one other bytes
of_end m fifo life epoch journal spare failures has journal' spare' failures' one other bytes end lines =
    let first : one ≡ m.content journal = end.journal_is ∙ end.read.0.same has.honest.0 in
    let second : other ≡ m.content spare = end.spare_is ∙ end.read.1.same has.honest.1 in
    let third : bytes ≡ m.content failures = lines.lines_are ∙ lines.read.same has.honest_lines in
    subst (λ (x : List ℕ). OpensToLife fifo life epoch x other bytes) (sym first)
    (subst (λ (y : List ℕ). OpensToLife fifo life epoch (m.content journal) y bytes) (sym second)
    (subst (λ (z : List ℕ). OpensToLife fifo life epoch (m.content journal) (m.content spare) z) (sym third) has.opens))

module _ {D : Type 0} (m : DiskMeaning D) (fifo : Bool) (life : List Stage) (epoch : ℕ) (journal spare failures : D) (has : HasLife m fifo life epoch journal spare failures) where
  -- of those that `compact` wrote

  pub of_compacted : (journal' spare' : D) (before after : ℕ) → HasCompacted m journal spare journal' spare' before after → Compacts m (content life) journal' spare'
  of_compacted journal' spare' before after wrote = compacts m journal spare journal' spare' before after epoch (content life) wrote has.honest has.opens.content_is

  pub of_written : (journal' spare' : D) (by : Compacts m (content life) journal' spare') (one other bytes : List ℕ) → pair_opened (header_of 2) one other ≡ Holding by.epoch by.list → bytes ≡ m.content failures → OpensToLife fifo (Rewritten by.list ∷ life) by.epoch one other bytes
  of_written journal' spare' by one other bytes opens same_lines = record {
    is_life = (has.opens.is_life, record { same = by.compacted.same; good = by.compacted.good_again });
    content_is = opens;
    lines_are = subst (λ (z : List ℕ). OpensTo (header_of 1) (dead_lines life) z) (sym same_lines) has.opens.lines_are;
  }

  pub adds_rewritten : (journal' spare' failures' : D) → HasWritten m command.Compact journal spare journal' spare' → failures' ≡ failures → AddsRewritten m fifo journal spare failures journal' spare' failures' life
  adds_rewritten journal' spare' failures' wrote same_lines =
      let by = of_compacted journal' spare' wrote.0 wrote.1 wrote.2 in
      record {
        written = wrote;
        lines_same = same_lines;
        list = by.list;
        epoch = by.epoch;
        opens = of_written journal' spare' by (m.content journal') (m.content spare') (m.content failures') by.holds.opens (ap m.content same_lines);
        settled = by.holds.settled;
      }

module _ {D F : Type 0} (m : DiskMeaning D) (laws : AreLaws F m) (fifo : Bool) (life : List Stage) (epoch : ℕ) (journal spare failures : D) (has : HasLife m fifo life epoch journal spare failures) where
  pub of_same : (one other bytes : List ℕ) → one ≡ m.content journal → other ≡ m.content spare → bytes ≡ m.content failures → OpensToLife fifo life epoch one other bytes
  of_same one other bytes first second lines =
      subst (λ (x : List ℕ). OpensToLife fifo life epoch x other bytes) (sym first)
      (subst (λ (y : List ℕ). OpensToLife fifo life epoch (m.content journal) y bytes) (sym second)
      (subst (λ (z : List ℕ). OpensToLife fifo life epoch (m.content journal) (m.content spare) z) (sym lines) has.opens))

  -- of files that were opened on these disks

  module _ (f : FilesState D) (journal_is : f.journal ≡ journal) (spare_is : f.spare ≡ spare) (failures_is : f.failures ≡ failures) where
    at_files : (P : D → D → D → Type 0) → P journal spare failures → P f.journal f.spare f.failures
    at_files P p = subst (λ (j : D). P j f.spare f.failures) (sym journal_is) (subst (λ (s : D). P journal s f.failures) (sym spare_is) (subst (λ (d : D). P journal spare d) (sym failures_is) p))

    pub honest_files : AreHonest m f.journal f.spare
    honest_files = at_files (λ j s d. AreHonest m j s) has.honest

    pub honest_lines : m.honest f.failures ≡ true
    honest_lines = at_files (λ j s d. m.honest d ≡ true) has.honest_lines

    pub found_in : IsOpenedFiles m f → HasFoundLife fifo f life
    found_in opened = laws.found f fifo life epoch opened honest_files honest_lines (at_files (λ j s d. OpensToLife fifo life epoch (m.content j) (m.content s) (m.content d)) has.opens)

    -- of a run

    module _ (callers : Outside F) (line : List ℕ → List ℕ) (config : Config) (calls visibility : ℕ) (kind : is_fifo config.kind ≡ fifo) (messages : List Message) (s : QueueSetting) (h : List Entry) (trouble : Option Trouble) (hand : List Entry) (new : Devices D F)
        (run : HasRunOver m callers line config calls visibility f messages s h trouble hand new) where
      pub of_run : (one other bytes : List ℕ) → AreLeft m f journal spare new.journal new.spare one other → AreLinesSinceStart m failures new.failures bytes ⊎ m.since new.failures (m.moment f.dest.disk) bytes → LeavesLife callers.gave fifo life s h f.pair.epoch one other bytes
      of_run one other bytes left lines_left =
          subst (λ (b : Bool). LeavesLife callers.gave b life s h f.pair.epoch one other bytes) kind
          (laws.goes_on callers line config calls visibility f messages s h trouble hand new one other bytes life run
          (record {
            honest = honest_files;
            honest_lines = honest_lines;
            left = at_files (λ j s d. IsSinceStart m j s new.journal new.spare one other ⊎ IsSinceOpening m f new.journal new.spare one other) left;
            lines_left = at_files (λ j s d. AreLinesSinceStart m d new.failures bytes ⊎ m.since new.failures (m.moment f.dest.disk) bytes) lines_left;
          }) (subst (λ (b : Bool). HasFoundLife b f life) (sym kind) (found_in run.opened)))

      -- the dead-letter file is as it was opened
      lines_settled : Only (m.content new.failures) (m.image new.failures)
      lines_settled =
          subst (λ (d : D). Only (m.content d) (m.image d)) (sym run.headline.failures_same) (run.opened.lines_kept (run.opened.lines_read.honesty ∙ honest_lines) run.opened.dest_up).durable

      pub of_whole : (trouble ≡ Some Disk → ⊥) → OpensToLife fifo (Ran (stage_of s h h) ∷ life) f.pair.epoch (m.content new.journal) (m.content new.spare) (m.content new.failures) × AreSettled m new.journal new.spare × Only (m.content new.failures) (m.image new.failures)
      of_whole up =
          let left = laws.whole callers line config calls visibility f messages s h trouble hand new run up in
          let holds = left.content_is honest_files in
          let was = found_in run.opened in
          let over : IsRunOver fifo (stage_of s h h) f.pair.payloads = subst (λ (b : Bool). IsRunOver b (stage_of s h h) f.pair.payloads) kind left.run_over in
          let lines : m.content new.failures ≡ m.content failures = run.headline.failures_read.same honest_lines ∙ ap m.content failures_is in (
            record {
              is_life = (was.is_life, subst (IsRunOver fifo (stage_of s h h)) was.content_is over);
              content_is = subst (λ (old : List (List ℕ)). found m new.journal new.spare ≡ Holding f.pair.epoch (content_after s h old)) was.content_is holds.opens;
              lines_are = subst (OpensTo (header_of 1) (dead_lines life)) (sym lines) has.opens.lines_are;
            },
            holds.settled,
            lines_settled,
          )

    -- of a redrive

    module _ (gave : ℕ → Bool) (w : Words) (kind : is_fifo w.config.kind ≡ fifo) (messages : List Message) (s : RedriveSetting) (h : List Entry) (trouble : Option Trouble) (hand tried : List Entry) (new : RedriveDisks D) (opened : IsOpenedFiles m f) (setting : IsRedriveSettingOf w f messages s)
        (headline : RedriveHeadline m gave f s h trouble hand tried new) where
      pub of_redrive : (one other bytes : List ℕ) → AreLeft m f journal spare new.journal new.spare one other → m.image new.dead bytes → redrives.LeavesLife gave fifo life s h f.pair.epoch one other bytes
      of_redrive one other bytes left now =
          subst (λ (b : Bool). redrives.LeavesLife gave b life s h f.pair.epoch one other bytes) kind
          (laws.redriven gave w f messages s h trouble hand tried new one other bytes life opened setting headline
          (record {
            honest = honest_files;
            honest_lines = honest_lines;
            left = at_files (λ j s d. IsSinceStart m j s new.journal new.spare one other ⊎ IsSinceOpening m f new.journal new.spare one other) left;
            dead = now;
          }) (subst (λ (b : Bool). HasFoundLife b f life) (sym kind) (found_in opened)))

      pub of_whole_redrive : (trouble ≡ Some Disk → ⊥) → (trouble ≡ Some Dest → ⊥)
          → OpensToLife fifo (Redriven (redrives.stage_of s h h h) ∷ life) f.pair.epoch (m.content new.journal) (m.content new.spare) (m.content new.dead) × AreSettled m new.journal new.spare × Only (m.content new.dead) (m.image new.dead) × IsWhole (redrives.stage_of s h h h)
      of_whole_redrive up lines_up =
          let left = laws.whole_redrive gave f s h trouble hand tried new headline up lines_up in
          let holds = left.content_is honest_files in
          let was = found_in opened in
          let over : IsRedriveOver fifo (redrives.stage_of s h h h) f.pair.payloads f.dest.payloads =
          subst (λ (b : Bool). IsRedriveOver b (redrives.stage_of s h h h) f.pair.payloads f.dest.payloads) kind (laws.redrive gave w f messages s h trouble hand tried new h h opened setting headline left.left) in (
            record {
              is_life = (
                was.is_life,
                subst (λ (old : List (List ℕ)). IsRedriveOver fifo (redrives.stage_of s h h h) old (dead_lines life)) was.content_is
                    (subst (λ (lines : List (List ℕ)). IsRedriveOver fifo (redrives.stage_of s h h h) f.pair.payloads lines) was.lines_are over),
              );
              content_is = subst (λ (old : List (List ℕ)). found m new.journal new.spare ≡ Holding f.pair.epoch (content_after s.queue h old)) was.content_is holds.opens;
              lines_are = subst (λ (lines : List (List ℕ)). OpensTo (header_of 1) (lines ++ lines_of h) (m.content new.dead)) was.lines_are (left.lines_are honest_lines).opens;
            },
            holds.settled,
            (left.lines_are honest_lines).durable,
            left.whole,
          )
