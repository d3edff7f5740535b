-- A run of a replay of which the headline holds is a stage of the life of its mapping.
use Rattle.std.proofs.Common.{◌≡◌, ℕ, ◌≤◌, Bool, List, [], ◌∷◌, ◌++◌, length, arith, inl, inr, Option, Some, None, subst, sym}
use Rattle.std.specs.Prelude.{reverse}
use Rattle.esm_folder.specs.Upkeep.{AreHonest}
use Rattle.esm_io.specs.Meanings.{DiskMeaning}
use Rattle.esm_journal.specs.File.{header_of, Holding}
use Rattle.esm_journal.specs.Pair.{pair_opened}
use Rattle.esm_model.specs.declared.book.Trouble.{Trouble}
use Rattle.esm_model.specs.declared.book.Trouble.TheVariants.{Disk, Dest, Changed}
use Rattle.esm_model.specs.declared.config.Config.{Config}
use Rattle.esm_model.specs.declared.entry.Entry.{Entry}
use Rattle.esm_model.specs.Records.{Record}
use Rattle.esm_replay_model.specs.ReplaySetting.{ReplaySetting}
use Rattle.esm_runner.specs.Files.{FilesState}
use Rattle.esm_runner.specs.Headline.{IsInHand}
use Rattle.esm_replay_life.specs.ReplayLife.{IsReplayRunOver}
use Rattle.esm_replay_book.specs.Books.{OpensToFirst, payloads_in}
use Rattle.esm_replay_run.specs.Headline.{Disks, Headline}
use Rattle.esm_life.specs.Left.{ArePairLeft}
use Rattle.esm_life.specs.Life.{Stage}
use Rattle.esm_life.specs.Replays.{IsStage, IsLeftByStage}
use Rattle.esm_life.specs.Streams.{IsReplayedLife, replay_of}

none_in_hand : (hand : List Entry) → hand ≡ [] → length hand ≤ 1
none_in_hand [] none = omega arith
none_in_hand (e ∷ hand) none = absurd (cc)

few_in_hand : (trouble : Option Trouble) (hand : List Entry) → IsInHand trouble hand → length hand ≤ 1
few_in_hand (Some Disk) hand in_hand = subst (λ (es : List Entry). length es ≤ 1) (sym in_hand.1) (omega arith)
few_in_hand (Some Dest) hand in_hand = none_in_hand hand in_hand
few_in_hand (Some (Changed change)) hand in_hand = none_in_hand hand in_hand
few_in_hand None hand in_hand = none_in_hand hand in_hand

pub stage : {D : Type 0} (m : DiskMeaning D) (gave : ℕ → Bool) (config : Config) (calls : ℕ) (f : FilesState D) (came : List Record) (s : ReplaySetting) (h : List Entry) (trouble : Option Trouble) (hand : List Entry) (new : Disks D) (left rest : List (List ℕ))
    → IsStage m gave config calls f came s h trouble hand new left rest
stage m gave config calls f came s h trouble hand new left rest opened setting unchanged headline kept = record {
  is_setting = record { told = f.said; tells = opened.tells; config = config; calls = calls; ranges = setting.ranges; came = came; unchanged = unchanged; is = setting.is };
  legal_trace = headline.legal_trace;
  hand_is_run = headline.hand_is_run;
  in_hand = few_in_hand trouble hand headline.in_hand;
  may_be_said = headline.may_be_said;
  rest = rest;
  kept = kept;
}

-- the first payloads of what happened stand in what a crash leaves, whenever it comes
first_left : {D : Type 0} (m : DiskMeaning D) (gave : ℕ → Bool) (f : FilesState D) (s : ReplaySetting) (h : List Entry) (trouble : Option Trouble) (hand : List Entry) (new : Disks D) (one other : List ℕ) → Headline m gave f s h trouble hand new → AreHonest m f.journal f.spare
    → ArePairLeft m f new.journal new.spare one other → OpensToFirst f.pair.epoch f.pair.payloads (payloads_in s (reverse h ++ hand)) one other
first_left m gave f s h trouble hand new one other headline honest (inl start) = headline.crash honest start.settled one other start.journal_since start.spare_since
first_left m gave f s h trouble hand new one other headline honest (inr opening) = headline.crash_since_opening honest one other opening.journal_since opening.spare_since

pub left_by : {D : Type 0} (m : DiskMeaning D) (gave : ℕ → Bool) (config : Config) (calls : ℕ) (f : FilesState D) (came : List Record) (s : ReplaySetting) (h : List Entry) (trouble : Option Trouble) (hand : List Entry) (new : Disks D) (one other : List ℕ)
    → IsLeftByStage m gave config calls f came s h trouble hand new one other
left_by m gave config calls f came s h trouble hand new one other opened setting unchanged headline honest left =
    let o = first_left m gave f s h trouble hand new one other headline honest left in
    record {
      left = o.front;
      content_is = o.opens;
      stage = stage m gave config calls f came s h trouble hand new o.front o.rest opened setting unchanged headline o.split;
    }

pub goes_on : {D : Type 0} (m : DiskMeaning D) (gave : ℕ → Bool) (config : Config) (calls : ℕ) (f : FilesState D) (came : List Record) (s : ReplaySetting) (h : List Entry) (trouble : Option Trouble) (hand : List Entry) (new : Disks D) (one other : List ℕ) (life : List Stage)
    → IsReplayedLife m gave config calls f came s h trouble hand new one other life
goes_on m gave config calls f came s h trouble hand new one other life opened setting unchanged headline may found =
    let by = left_by m gave config calls f came s h trouble hand new one other opened setting unchanged headline may.honest may.left in
    record {
      left = by.left;
      opens = record {
        is_life = (found.0, subst (IsReplayRunOver (replay_of s h hand by.left)) found.1 by.stage);
        content_is = subst (λ (old : List (List ℕ)). pair_opened (header_of 2) one other ≡ Holding f.pair.epoch (old ++ by.left)) found.1 by.content_is.0;
      };
    }
