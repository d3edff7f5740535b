use Rattle.std.proofs.Common.{◌≡◌, ◌∙◌, List, Option, ap, refl, subst, sym}
use Rattle.std.specs.Prelude.{IfOk, OnErr, reverse}
use Rattle.std.proofs.lemmas.List.{reverse-reverse}
use Rattle.std.proofs.lemmas.Result.{IfOk-weaker, on_err_weaker}
use Rattle.esm_io.specs.Meanings.{DiskMeaning, disk as meaning}
use Rattle.esm_journal.specs.Pair.{PairState, first_disk, second_disk}
use Rattle.esm_journal.specs.Reads.{IsOnlyRead}
use Rattle.esm_model.specs.declared.entry.Entry.{Entry}
use Rattle.esm_model.specs.declared.book.Trouble.{Trouble}
use Rattle.esm_input.specs.declared.ending.InputEnd.{InputEnd}
use Rattle.esm_input.specs.Reading.{InputState}
use Rattle.esm_redrive_core.specs.RedriveView.{RedriveView}
use Rattle.esm_runner.specs.Files.{FilesState}
use Rattle.esm_workers.specs.Working.{outside}
use Rattle.esm_redrive_run.specs.declared.book.SerialRedrive.{SerialRedrive}
use Rattle.esm_redrive_run.specs.Book.{Book}
use Rattle.esm_redrive_run.specs.Headline.{Disks, Words}
use Rattle.esm_redrive_run.specs.Ended.{Telling, telling, HasRun, HasStopped}
use Rattle.esm_redrive_run.specs.Ending.{EndsBy, HasReason}
use Rattle.esm_redrive_run.specs.Laws.{AreLaws}
use Rattle.esm_redrive_run.specs.Runs.{IsLeft, files_of, words_of}
use Rattle.esm_redrive_run.specs.declared.run.RedriveEnd.{RedriveEnd}
use Rattle.esm_redrive_run.proofs.Headlines.{AreOf}
use Rattle.esm_redrive_run.proofs.InputRead.{IsMadeFor, made_for}
use Rattle.esm_redrive_run.proofs.Ways.{HasCome, Means, StoodSo, ended_by, found_ran, found_stays, reason_so, stopped_by}
use Rattle.esm_redrive_run.proofs.redrive_run.run_opened.Goals as goal

abbrev see : {D : Type 0} → SerialRedrive D → Book D
see b = b.redrive

pub run_serial-ran-requires-clause-fresh : goal.run_serial-ran-requires-clause-fresh
run_serial-ran-requires-clause-fresh g c κs within =
    let begun = c.requires.begun in
    record {
      past = ap (λ (v : RedriveView). v.past) begun.core;
      messages = ap (λ (v : RedriveView). v.setting.queue.messages) begun.core;
      up = begun.up;
    }

pub run_serial-ran-requires-clause-kind : goal.run_serial-ran-requires-clause-kind
run_serial-ran-requires-clause-kind g c κs within = ap (λ (i : InputState g.row.S.Denot). i.kind) c.requires.begun.input

pub run_serial-ran-requires-clause-unread : goal.run_serial-ran-requires-clause-unread
run_serial-ran-requires-clause-unread g c κs within = c.requires.begun.unread

pub returns : goal.returns
returns g c =
    let m : DiskMeaning g.row.D.Denot = meaning g.D.Disk in
    let t : Telling g.row.D.Denot g.row.F.Denot = telling (outside g.C.Clock.gave g.F.Caller.sends g.F.Caller.log) m in
    let faults = g.S.Source.faults in
    let left_in = g.S.Source.left in
    let source : g.row.S.Denot = c.args.run.input.source in
    let first : SerialRedrive g.row.D.Denot = c.args.run.book in
    let now : SerialRedrive g.row.D.Denot = c.run_serial-ran.result.book in
    let before : Book g.row.D.Denot = c.args.run.book.redrive in
    let w : Words = words_of before in
    let f : FilesState g.row.D.Denot = files_of c.args.before.now.journal.value c.args.before.now.spare.value c.args.before.now.failures.value c.args.said before in
    let b : Book g.row.D.Denot = c.run_serial-ran.result.book.redrive in
    let i : InputState g.row.S.Denot = c.run_serial-ran.result.input in
    let r = c.run_serial-ran.result.end in
    let e = c.run_serial-ran.ensures in
    let out = c.closed.result in
    let old : g.row.F.Denot = c.args.caller.now in
    let caller : g.row.F.Denot = c.run_serial-ran.new.caller in
    let new : Disks g.row.D.Denot = record { journal = out.journal; spare = out.spare; dead = out.dead } in
    let laws : AreLaws = c.laws_hold.ensures in
    let begun = c.requires.begun in
    let stood : StoodSo w f (see first) = record { letters = begun.letters; ids = begun.ids; same_ids = begun.same_ids; core = begun.core } in
    let come : HasCome _ g.C.Clock.gave g.F.Caller.sends g.F.Caller.log faults left_in first now i old caller r = record {
      called = e.called;
      rests = e.rests;
      stopped = e.stopped;
      ended = e.ended;
      came = e.came;
      changed = e.changed;
      no_change = e.no_change;
      read = e.read;
      good = e.good;
      cut = e.cut;
    } in
    let means : Means _ see = record {
      since = λ gave sends one other calls is. is;
      rests = λ one is. is;
      runs = λ one job is. is;
      going = λ one is. is;
      shut = λ one is. is;
      finished = λ one is. is;
      spent = λ one is. is;
      down = λ one. refl;
      change = λ one. refl;
      function = λ one. refl;
      items = λ one n. refl;
      differs = λ one list change is. is;
    } in
    let stays = found_stays _ see means g.C.Clock.gave g.F.Caller.sends g.F.Caller.log faults left_in first now i old caller r come in
    let left : IsLeft m f b = record {
      files = c.requires.files;
      found = stays.0 ∙ begun.found;
      found_dest = stays.1 ∙ begun.found_dest;
      sound = c.trouble.ensures.sound;
      consistent = c.trouble.ensures.consistent;
      written = c.trouble.ensures.written;
      since = c.since_before.ensures;
      images = c.trouble.ensures.images;
      pair_kept = c.trouble.ensures.kept;
      pair_stopped = rw (← c.into_parts-history.ensures.pair) c.closed.ensures.pair_stopped;
      dest_kept = rw (← c.into_parts-history.ensures.dead) (rw (← c.into_journal.ensures) c.closed.ensures.dead_kept);
      only_now = λ d bytes honest since. g.met.D.Disk.only_now d bytes honest since;
      counts_now = λ d t bytes honest early image. g.met.D.Disk.counts_now d t bytes honest early image;
    } in
    let of : AreOf b new = record {
      journal = rw (← c.into_parts-history.ensures.pair) c.closed.ensures.journal;
      spare = rw (← c.into_parts-history.ensures.pair) c.closed.ensures.spare;
      dead = rw (← c.into_parts-history.ensures.dead) (rw (← c.into_journal.ensures) c.closed.ensures.dead);
    } in
    let made : IsMadeFor w.config source i = made_for w.config source c.args.run.input i begun.input e.input in
    let trace : reverse out.trace.items ≡ b.core.past = rw (c.closed.ensures.trace, c.into_parts-history.ensures.history) (reverse-reverse b.core.past) in
    let source_is : out.input ≡ i.source = c.closed.ensures.input ∙ c.into_parts-source.ensures.source in
    let reading : out.reading.value ≡ i.end = c.closed.ensures.reading ∙ (c.of-read_to.ensures ∙ c.into_parts-source.ensures.end) in
    let P : RedriveEnd → Type 0 = HasRun t faults left_in w f source out.input out.reading.value old caller (reverse out.trace.items) new in
    let Q : Type 0 = HasStopped t faults left_in w f source out.input out.reading.value old caller (reverse out.trace.items) new in
    record {
      ended = subst (λ x. IfOk x P) (sym c.closed.ensures.end)
          (IfOk-weaker c.end_of-end.result (EndsBy r c.into_parts-history.result.trouble c.into_parts-source.result.1) P
          (λ x is.
          let by : EndsBy r b.trouble i.end x =
          subst (λ (v : Option Trouble). EndsBy r v i.end x) c.into_parts-history.ensures.trouble
          (subst (λ (v : Option InputEnd). EndsBy r c.into_parts-history.result.trouble v x) c.into_parts-source.ensures.end is) in
          subst (λ (v : g.row.S.Denot × Option InputEnd). HasRun t faults left_in w f source v.0 v.1 old caller (reverse out.trace.items) new x)
          (λ k. (sym source_is k, sym reading k))
          (subst (λ (h : List Entry). HasRun t faults left_in w f source i.source i.end old caller h new x) (sym trace)
          (ended_by _ see means t w f first now stood faults left_in source i old caller new r x laws left of c.trouble.ensures.cause made come by)))
          c.end_of-end.ensures.ended);
      stopped = subst (λ x. OnErr x Q) (sym c.closed.ensures.end)
          (on_err_weaker c.end_of-end.result
          (λ is.
          subst (λ (v : g.row.S.Denot × Option InputEnd). HasStopped t faults left_in w f source v.0 v.1 old caller (reverse out.trace.items) new)
          (λ k. (sym source_is k, sym reading k))
          (subst (λ (h : List Entry). HasStopped t faults left_in w f source i.source i.end old caller h new) (sym trace)
          (stopped_by _ see means t w f first now stood faults left_in source i old caller new r laws left of c.trouble.ensures.cause made come is)))
          c.end_of-end.ensures.stopped);
      said = c.closed.ensures.said;
    }

pub since_before-requires-clause-first : goal.since_before-requires-clause-first
since_before-requires-clause-first g c =
    let m : DiskMeaning g.row.D.Denot = meaning g.D.Disk in
    let ran = c.run_serial-ran in
    let first : SerialRedrive g.row.D.Denot = c.args.run.book in
    let now : SerialRedrive g.row.D.Denot = c.run_serial-ran.result.book in
    let found : (see now).found ≡ c.args.run.book.redrive.pair =
    found_ran _ see g.C.Clock.gave g.F.Caller.sends g.F.Caller.log first now c.args.caller.now ran.new.caller ran.result.end (λ one other calls is. is) ran.ensures.called ran.ensures.stopped ∙ c.requires.begun.found in
    subst (λ (p : PairState g.row.D.Denot). IsOnlyRead m c.args.before.now.journal.value (first_disk p)) (sym found) c.requires.files.read.0

pub since_before-requires-clause-second : goal.since_before-requires-clause-second
since_before-requires-clause-second g c =
    let m : DiskMeaning g.row.D.Denot = meaning g.D.Disk in
    let ran = c.run_serial-ran in
    let first : SerialRedrive g.row.D.Denot = c.args.run.book in
    let now : SerialRedrive g.row.D.Denot = c.run_serial-ran.result.book in
    let found : (see now).found ≡ c.args.run.book.redrive.pair =
    found_ran _ see g.C.Clock.gave g.F.Caller.sends g.F.Caller.log first now c.args.caller.now ran.new.caller ran.result.end (λ one other calls is. is) ran.ensures.called ran.ensures.stopped ∙ c.requires.begun.found in
    subst (λ (p : PairState g.row.D.Denot). IsOnlyRead m c.args.before.now.spare.value (second_disk p)) (sym found) c.requires.files.read.1

pub end_of-end-requires : goal.end_of-end-requires
end_of-end-requires g c =
    let ran = c.run_serial-ran in
    let b : Book g.row.D.Denot = c.run_serial-ran.result.book.redrive in
    record {
      reason = subst (λ (v : Option Trouble). IfOk ran.result.end (HasReason v c.into_parts-source.result.1)) (sym c.into_parts-history.ensures.trouble)
          (subst (λ (v : Option InputEnd). IfOk ran.result.end (HasReason b.trouble v)) (sym c.into_parts-source.ensures.end)
          (reason_so _ see g.C.Clock.gave c.args.run.book ran.result.book ran.result.input (g.F.Caller.log c.args.caller.now) (g.F.Caller.log ran.new.caller) ran.result.end (λ one. refl) ran.ensures.came ran.ensures.ended));
    }
