-- The files of a run, from what opening each of them tells.
use Rattle.std.proofs.Common.{◌≡◌, ◌∙◌, ℕ, true, false, List, arith, inl, inr, refl, subst, sym}
use Rattle.esm_io.specs.Faults.{Rose}
use Rattle.esm_io.specs.Meanings.{DiskMeaning}
use Rattle.esm_journal.specs.File.{header_of, opened, eight_at, Holding, Foreign, Damaged}
use Rattle.esm_journal.specs.Pair.{PairState, first_disk, second_disk}
use Rattle.esm_journal.specs.Reads.{IsOnlyRead, RefusedFor}
use Rattle.esm_journal.specs.State.{JournalState, OpensTo, Keeps}
use Rattle.esm_journal.specs.declared.error.OpenError.{OpenError}
use Rattle.esm_journal.specs.declared.error.OpenError.TheVariants as open_error
use Rattle.esm_journal_state.specs.Bad.{IsFirstBad}
use Rattle.esm_journal_state.specs.SaidLists.{SaidLists}
use Rattle.esm_journal_state.specs.declared.error.SaysError.TheVariants as judged
use Rattle.esm_folder.specs.Upkeep.{AreHonest, AreOnlyRead, found}
use Rattle.esm_folder.specs.declared.ending.JournalFile.TheVariants as file
use Rattle.esm_runner.specs.declared.files.FilesError.{FilesError}
use Rattle.esm_runner.specs.declared.files.FilesError.TheVariants as error
use Rattle.esm_runner.specs.Files.{IsOpenedFiles, AreRefused, AreGoodPayloads}
use Rattle.esm_runner.specs.Openings.{refusal_of, IsPairOpened, IsPairRefused}

-- a disk that nobody called
pub not_called : {D : Type 0} (m : DiskMeaning D) (d : D) → (m.honest d ≡ true → (image : List ℕ) → m.since d (m.moment d) image → m.image d image) → IsOnlyRead m d d
not_called m d now = record {
  honesty = refl;
  same = λ honest. refl;
  images = λ honest image is. is;
  any_moment = λ honest. record { later = omega arith; each = now honest; before = λ t image low was. inl was };
  never_falls = omega arith;
  greatest = λ low. low;
}

-- the disks of a pair, handed back as they are
pub pair_read : {D : Type 0} (m : DiskMeaning D) (journal spare journal' spare' : D) (pair : PairState D) → journal' ≡ first_disk pair → spare' ≡ second_disk pair
    → AreOnlyRead m journal spare (first_disk pair) (second_disk pair) → AreOnlyRead m journal spare journal' spare'
pair_read m journal spare journal' spare' pair first second read = (subst (IsOnlyRead m journal) (sym first) read.0, subst (IsOnlyRead m spare) (sym second) read.1)

-- a payload of the pair is bad
pub bad_refused : {D : Type 0} (m : DiskMeaning D) (journal spare journal' spare' : D) (pair : PairState D) (index : ℕ)
    → (AreHonest m journal spare → found m journal spare ≡ Holding pair.epoch pair.payloads) → IsFirstBad pair.payloads (judged.BadPayload index)
    → AreOnlyRead m journal spare journal' spare' → IsPairRefused m journal spare journal' spare' (error.BadPayload index)
bad_refused m journal spare journal' spare' pair index opens bad read = record {
  cause = λ failures. (pair.payloads, (λ honest. (pair.epoch, opens honest)), bad);
  before = tt;
  read = read;
}

-- the pair was refused, and the failure file was not opened
pub refused_first : {D : Type 0} (m : DiskMeaning D) (journal spare failures journal' spare' : D) (why : FilesError) → IsOnlyRead m failures failures
    → IsPairRefused m journal spare journal' spare' why → AreRefused m journal spare failures journal' spare' failures why
refused_first m journal spare failures journal' spare' why same refused = record { cause = refused.cause failures; before = refused.before; unwritten = (refused.read, same) }

pub opened_files : {D : Type 0} (m : DiskMeaning D) (journal spare failures before : D) (pair : PairState D) (said : SaidLists) (lines dest : JournalState D)
    → IsPairOpened m journal spare pair said → before ≡ failures → dest ≡ lines → (m.honest failures ≡ true → OpensTo (header_of 1) lines.payloads (m.content failures)) → lines.down ≡ false
    → IsOnlyRead m failures lines.disk → (m.honest failures ≡ true → Keeps m (header_of 1) lines.payloads lines.disk)
    → IsOpenedFiles m (record { journal = journal; spare = spare; failures = before; pair = pair; said = said; dest = dest })
opened_files m journal spare failures before pair said lines dest first was is opens up read kept =
    let all : IsOpenedFiles m (record { journal = journal; spare = spare; failures = failures; pair = pair; said = said; dest = lines }) = record {
      opens = first.opens;
      up = first.up;
      kept = first.kept;
      good = first.good;
      tells = first.tells;
      order = first.order;
      read = first.read;
      opens_lines = opens;
      dest_up = up;
      lines_kept = λ honest still. kept (sym read.honesty ∙ honest);
      lines_read = read;
    } in
    rw (was, is) all

-- why the failure file was not opened
abbrev pub RefusesLines : {D : Type 0} → DiskMeaning D → (failures failures' : D) → OpenError → Type 0
RefusesLines m failures failures' why =
    RefusedFor (λ first. m.honest failures ≡ true → (opened (header_of 1) (m.content failures) ≡ Foreign) × (first ≡ eight_at (m.content failures) 0))
    (λ place. m.honest failures ≡ true → opened (header_of 1) (m.content failures) ≡ Damaged place) (Rose (m.faults failures) (m.faults failures')) why

good_payloads : {D : Type 0} (m : DiskMeaning D) (journal spare : D) (pair : PairState D) (said : SaidLists) → IsPairOpened m journal spare pair said → AreGoodPayloads m journal spare
good_payloads m journal spare pair said first = record { payloads = pair.payloads; are_found = λ honest. (pair.epoch, first.opens honest); good = first.good }

pub lines_refused : {D : Type 0} (m : DiskMeaning D) (journal spare failures journal' spare' failures' : D) (pair : PairState D) (said : SaidLists) (why : OpenError)
    → IsPairOpened m journal spare pair said → AreOnlyRead m journal spare journal' spare' → IsOnlyRead m failures failures' → RefusesLines m failures failures' why
    → AreRefused m journal spare failures journal' spare' failures' (refusal_of file.Failures why)
lines_refused m journal spare failures journal' spare' failures' pair said (open_error.NotAJournal bytes) first read lines_read h =
    record { cause = λ honest. (h honest).0; before = good_payloads m journal spare pair said first; unwritten = (read, lines_read) }
lines_refused m journal spare failures journal' spare' failures' pair said (open_error.Damaged place) first read lines_read h =
    record { cause = h; before = good_payloads m journal spare pair said first; unwritten = (read, lines_read) }
lines_refused m journal spare failures journal' spare' failures' pair said open_error.DiskFault first read lines_read h =
    record { cause = inr h; before = tt; unwritten = (read, lines_read) }
lines_refused m journal spare failures journal' spare' failures' pair said open_error.OutOfMemory first read lines_read h =
    record { cause = tt; before = tt; unwritten = (read, lines_read) }
