use Rattle.std.proofs.Common.{◌≡◌, length, ℕ, List, arith, ap, ◌∙◌, sym}
use Rattle.esm_journal.proofs.Rooms.{length_room}
use Rattle.esm_journal.proofs.log.Log.reserve.Goals as goal

pub returns-clause-log : goal.returns-clause-log
returns-clause-log g c =
    let places = c.in_ok-reserve.ensures.ok in
    let spares : length c.in_ok-spares.spares.items ≡ length c.args.lengths.now = sym (length_room c.in_ok-spares.spares.items) ∙ ap (λ (l : List ℕ). length l) c.in_ok-spares.ensures.room in
    record {
      header = c.requires.header;
      file = rw c.reserve.ensures.items c.requires.file;
      synced = c.requires.synced;
      stopped = rw c.reserve.ensures.items c.requires.stopped;
      end = rw c.reserve.ensures.items c.requires.end;
      faults_fit = c.requires.faults_fit;
      spares = c.in_ok-spares.ensures.spares;
      total = c.in_ok-spares.ensures.total;
      places = omega (arith, spares, places);
    }
