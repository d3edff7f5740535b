-- What disks leave of a life: those that no call was made on or that were only read, and those of a run.
use Rattle.std.proofs.Common.{◌≡◌, ◌∙◌, ◌⊎◌, ℕ, Bool, true, false, List, [], ◌∷◌, length, Option, Some, None, arith, refl, subst, sym}
use Rattle.std.specs.Prelude.{◌&&◌, ◌||◌, if◌then◌else◌, nat_lt, not}
use Rattle.esm_cli.specs.declared.command.Command.TheVariants as command
use Rattle.esm_folder.specs.Upkeep.{AreHonest, AreOnlyRead, AreSettled, HasCompacted, found}
use Rattle.esm_history.specs.Content.{OwesNothing, content_after}
use Rattle.esm_io.specs.Images.{Only}
use Rattle.esm_io.specs.Meanings.{DiskMeaning}
use Rattle.esm_journal.specs.File.{Damaged, Foreign, Holding, Opening, epoch_in, header_of, opened_rest}
use Rattle.esm_journal.specs.Migrate.{is_version_2}
use Rattle.esm_journal.specs.Pair.{beside, is_sealed, is_taken, pair_opened}
use Rattle.esm_journal.specs.Reads.{IsOnlyRead}
use Rattle.esm_life.specs.Left.{IsReadAtEnd, IsSinceOpening, IsSinceStart}
use Rattle.esm_life.specs.Life.{IsRunOver, Ran, Rewritten, Stage, content}
use Rattle.esm_life.specs.Replays.{IsStage}
use Rattle.esm_life.specs.Streams.{GoesOnWithStage, HasFoundLife, HasRunOver, IsCompactedLife, IsFoundAgain, IsReplayedLife, IsSameLife, IsWholeStage, LeavesLife, MayBeLeft, OpensToLife, stage_of}
use Rattle.esm_model.specs.declared.book.Trouble.{Trouble}
use Rattle.esm_model.specs.declared.book.Trouble.TheVariants.{Disk}
use Rattle.esm_model.specs.declared.config.Config.{Config}
use Rattle.esm_model.specs.declared.entry.Entry.{Entry}
use Rattle.esm_model.specs.Records.{Record}
use Rattle.esm_model.specs.Setting.{Setting}
use Rattle.esm_program_life.specs.Streams.{AddsRewritten, HasLife}
use Rattle.esm_program_life.specs.Written.{HasWritten}
use Rattle.esm_program_life.proofs.Writes.{Compacts, compacts}
use Rattle.esm_replay_model.specs.ReplaySetting.{ReplaySetting}
use Rattle.esm_replay_run.specs.Headline.{Disks as ReplayDisks}
use Rattle.esm_runner.specs.Files.{FilesState, IsOpenedFiles}
use Rattle.esm_runner.specs.Headline.{Devices}
use Rattle.esm_workers.specs.Working.{Outside}

-- since now an honest disk has no image but those of now
abbrev pub OnlyNow : {D : Type 0} → DiskMeaning D → Type 0
OnlyNow {D} m = (disk : D) (left : List ℕ) → m.honest disk ≡ true → m.since disk (m.moment disk) left → m.image disk left

-- the laws that are used, of disks and of a life
pub record AreLaws {D : Type 0} (F : Type 0) (m : DiskMeaning D) : Type 0 where
  pub only_now : OnlyNow m
  pub same : (life : List Stage) (epoch : ℕ) (journal spare journal' spare' : D) (one other : List ℕ) → IsSameLife m life epoch journal spare journal' spare' one other
  pub found : (f : FilesState D) (life : List Stage) (epoch : ℕ) → IsFoundAgain m f life epoch
  pub goes_on : (callers : Outside F) (line : List ℕ → List ℕ) (config : Config) (calls : ℕ) (f : FilesState D) (records : List Record) (s : Setting) (h : List Entry) (trouble : Option Trouble) (hand : List Entry) (new : Devices D F) (one other : List ℕ) (life : List Stage)
      → GoesOnWithStage m callers line config calls f records s h trouble hand new one other life
  pub whole : (callers : Outside F) (line : List ℕ → List ℕ) (config : Config) (calls : ℕ) (f : FilesState D) (records : List Record) (s : Setting) (h : List Entry) (trouble : Option Trouble) (hand : List Entry) (new : Devices D F)
      → IsWholeStage m callers line config calls f records s h trouble hand new
  pub replayed : (gave : ℕ → Bool) (config : Config) (calls : ℕ) (f : FilesState D) (came : List Record) (s : ReplaySetting) (h : List Entry) (trouble : Option Trouble) (hand : List Entry) (new : ReplayDisks D) (one other : List ℕ) (life : List Stage)
      → IsReplayedLife m gave config calls f came s h trouble hand new one other life
  pub replay : (gave : ℕ → Bool) (config : Config) (calls : ℕ) (f : FilesState D) (came : List Record) (s : ReplaySetting) (h : List Entry) (trouble : Option Trouble) (hand : List Entry) (new : ReplayDisks D) (left rest : List (List ℕ))
      → IsStage m gave config calls f came s h trouble hand new left rest
  pub compacted : (life : List Stage) (epoch : ℕ) (journal spare journal' spare' : D) (one other : List ℕ) → IsCompactedLife m life epoch journal spare journal' spare' one other

-- bytes that a crash may leave of two disks: since the command began, or since these files were opened
abbrev pub AreLeft : {D : Type 0} → DiskMeaning D → FilesState D → (journal spare journal' spare' : D) → (one other : List ℕ) → Type 0
AreLeft m f journal spare journal' spare' one other = IsSinceStart m journal spare journal' spare' one other ⊎ IsSinceOpening m f journal' spare' one other

-- what opens

-- a pair that opens to payloads is one of version 2
sealed_so : (a b x y : Bool) (o p : Opening) (epoch : ℕ) (payloads : List (List ℕ)) → (if a && x then o else if b && y then p else Foreign) ≡ Holding epoch payloads → (a || b) ≡ true
sealed_so true b x y o p epoch payloads is = refl
sealed_so false true x y o p epoch payloads is = refl
sealed_so false false x y o p epoch payloads is = absurd (let clash : Foreign ≡ Holding epoch payloads = is in cc)

pub version_of : (one other : List ℕ) (epoch : ℕ) (payloads : List (List ℕ)) → pair_opened (header_of 2) one other ≡ Holding epoch payloads → is_version_2 one other ≡ true
version_of one other epoch payloads is =
    sealed_so (is_sealed (header_of 2) one) (is_sealed (header_of 2) other) (not (is_sealed (header_of 2) other) || nat_lt (epoch_in other) (epoch_in one))
    (not (is_sealed (header_of 2) one) || nat_lt (epoch_in one) (epoch_in other)) (beside (opened_rest one) (length other)) (beside (opened_rest other) (length one)) epoch payloads is

-- an empty file is none of a pair that opens
nothing_beside : (o : Opening) (epoch : ℕ) (payloads : List (List ℕ)) → beside o 0 ≡ Holding epoch payloads → ⊥
nothing_beside (Holding e list) epoch payloads is = let clash : Damaged 0 ≡ Holding epoch payloads = is in cc
nothing_beside Foreign epoch payloads is = cc
nothing_beside (Damaged place) epoch payloads is = cc

taken_so : (b : Bool) (o : Opening) (epoch : ℕ) (payloads : List (List ℕ)) → (if b then beside o 0 else Foreign) ≡ Holding epoch payloads → ⊥
taken_so true o epoch payloads is = nothing_beside o epoch payloads is
taken_so false o epoch payloads is = cc

pub not_empty : (one other : List ℕ) (epoch : ℕ) (payloads : List (List ℕ)) → pair_opened (header_of 2) one other ≡ Holding epoch payloads → length one ≡ 0 → ⊥
not_empty [] other epoch payloads is none = taken_so (is_taken (header_of 2) other []) (opened_rest other) epoch payloads is
not_empty (byte ∷ one) other epoch payloads is none = absurd (omega (arith, none))

pub not_empty_spare : (one other : List ℕ) (epoch : ℕ) (payloads : List (List ℕ)) → pair_opened (header_of 2) one other ≡ Holding epoch payloads → length other ≡ 0 → ⊥
not_empty_spare one [] epoch payloads is none = taken_so (is_taken (header_of 2) one []) (opened_rest one) epoch payloads is
not_empty_spare one (byte ∷ other) epoch payloads is none = absurd (omega (arith, none))

-- what is left

-- of disks on which no call was made
module _ {D : Type 0} (m : DiskMeaning D) (only_now : OnlyNow m) (life : List Stage) (epoch : ℕ) (journal spare : D) (has : HasLife m life epoch journal spare) where
  pub of_unused : (journal' spare' : D) (one other : List ℕ) → journal' ≡ journal → spare' ≡ spare → IsSinceStart m journal spare journal' spare' one other → OpensToLife life epoch one other
  of_unused journal' spare' one other same same_spare left =
      let first : one ≡ m.content journal = left.settled.0 one (only_now journal one has.honest.0 (subst (λ (d : D). m.since d (m.moment journal) one) same left.journal_since)) in
      let second : other ≡ m.content spare = left.settled.1 other (only_now spare other has.honest.1 (subst (λ (d : D). m.since d (m.moment spare) other) same_spare left.spare_since)) in
      subst (λ (x : List ℕ). OpensToLife life epoch x other) (sym first)
      (subst (λ (y : List ℕ). OpensToLife life epoch (m.content journal) y) (sym second) has.opens)

  -- and of those that were only read, as they read at the end
  pub of_end : (journal' spare' : D) (one other : List ℕ) → IsReadAtEnd m journal spare journal' spare' one other → OpensToLife life epoch one other
  of_end journal' spare' one other end =
      let first : one ≡ m.content journal = end.journal_is ∙ end.read.0.same has.honest.0 in
      let second : other ≡ m.content spare = end.spare_is ∙ end.read.1.same has.honest.1 in
      subst (λ (x : List ℕ). OpensToLife life epoch x other) (sym first)
      (subst (λ (y : List ℕ). OpensToLife life epoch (m.content journal) y) (sym second) has.opens)

  -- and of those that `compact` wrote

  pub of_compacted : (journal' spare' : D) (before after : ℕ) → HasCompacted m journal spare journal' spare' before after → Compacts m (content life) journal' spare'
  of_compacted journal' spare' before after wrote = compacts m journal spare journal' spare' before after epoch (content life) wrote has.honest has.opens.content_is

  pub of_written : (journal' spare' : D) (by : Compacts m (content life) journal' spare') (one other : List ℕ) → pair_opened (header_of 2) one other ≡ Holding by.epoch by.list → OpensToLife (Rewritten by.list ∷ life) by.epoch one other
  of_written journal' spare' by one other opens = record { is_life = (has.opens.is_life, record { same = by.compacted.same; good = by.compacted.good_again }); content_is = opens }

  pub adds_rewritten : (journal' spare' : D) → HasWritten m command.Compact journal spare journal' spare' → AddsRewritten m journal spare journal' spare' life
  adds_rewritten journal' spare' wrote =
      let by = of_compacted journal' spare' wrote.0 wrote.1 wrote.2 in
      record { written = wrote; list = by.list; epoch = by.epoch; opens = of_written journal' spare' by (m.content journal') (m.content spare') by.holds.opens; settled = by.holds.settled }

module _ {D F : Type 0} (m : DiskMeaning D) (laws : AreLaws F m) (life : List Stage) (epoch : ℕ) (journal spare : D) (has : HasLife m life epoch journal spare) where
  pub of_read : (journal' spare' : D) (one other : List ℕ) → AreOnlyRead m journal spare journal' spare' → IsSinceStart m journal spare journal' spare' one other → OpensToLife life epoch one other
  of_read journal' spare' one other read left = laws.same life epoch journal spare journal' spare' one other read has.honest left.settled has.opens left.journal_since left.spare_since

  settled_so : (old new : D) → m.honest old ≡ true → Only (m.content old) (m.image old) → IsOnlyRead m old new → Only (m.content new) (m.image new)
  settled_so old new honest only read bytes image = only bytes (read.images honest bytes image) ∙ sym (read.same honest)

  pub settled_of_read : (journal' spare' : D) → AreOnlyRead m journal spare journal' spare' → AreSettled m journal spare → AreSettled m journal' spare'
  settled_of_read journal' spare' read was = (settled_so journal journal' has.honest.0 was.0 read.0, settled_so spare spare' has.honest.1 was.1 read.1)

  pub of_read_now : (journal' spare' : D) → AreOnlyRead m journal spare journal' spare' → OpensToLife life epoch (m.content journal') (m.content spare')
  of_read_now journal' spare' read =
      subst (λ (x : List ℕ). OpensToLife life epoch x (m.content spare')) (sym (read.0.same has.honest.0))
      (subst (λ (y : List ℕ). OpensToLife life epoch (m.content journal) y) (sym (read.1.same has.honest.1)) has.opens)

  -- of files that were opened on these disks

  module _ (f : FilesState D) (journal_is : f.journal ≡ journal) (spare_is : f.spare ≡ spare) where
    at_files : (P : D → D → Type 0) → P journal spare → P f.journal f.spare
    at_files P p = subst (λ (j : D). P j f.spare) (sym journal_is) (subst (λ (s : D). P journal s) (sym spare_is) p)

    pub honest_files : AreHonest m f.journal f.spare
    honest_files = at_files (AreHonest m) has.honest

    pub found_in : IsOpenedFiles m f → HasFoundLife f life
    found_in opened = laws.found f life epoch opened honest_files (at_files (λ j s. OpensToLife life epoch (m.content j) (m.content s)) has.opens)

    pub may_be : (journal' spare' : D) (one other : List ℕ) → AreLeft m f journal spare journal' spare' one other → MayBeLeft m f journal' spare' one other
    may_be journal' spare' one other left = record {
      honest = honest_files;
      left = at_files (λ j s. IsSinceStart m j s journal' spare' one other ⊎ IsSinceOpening m f journal' spare' one other) left;
    }

    module _ (callers : Outside F) (line : List ℕ → List ℕ) (config : Config) (calls : ℕ) (records : List Record) (s : Setting) (h : List Entry) (trouble : Option Trouble) (hand : List Entry) (new : Devices D F) (run : HasRunOver m callers line config calls f records s h trouble hand new) where
      pub of_run : (one other : List ℕ) → AreLeft m f journal spare new.journal new.spare one other → LeavesLife callers.gave life s h f.pair.epoch one other
      of_run one other left = laws.goes_on callers line config calls f records s h trouble hand new one other life run (may_be new.journal new.spare one other left) (found_in run.opened)

      pub of_whole : (trouble ≡ Some Disk → ⊥) → OpensToLife (Ran (stage_of s h h) ∷ life) f.pair.epoch (m.content new.journal) (m.content new.spare) × AreSettled m new.journal new.spare × (trouble ≡ None → OwesNothing s h)
      of_whole up =
          let left = laws.whole callers line config calls f records s h trouble hand new run up in
          let holds = left.content_is honest_files in
          let was = found_in run.opened in (
            record {
              is_life = (was.0, subst (IsRunOver (stage_of s h h)) was.1 left.run_over);
              content_is = subst (λ (old : List (List ℕ)). found m new.journal new.spare ≡ Holding f.pair.epoch (content_after s h old)) was.1 holds.opens;
            },
            holds.settled,
            left.paid,
          )
