use Rattle.std.proofs.Common.{◌≡◌, ◌<◌, ℕ, Bool, true, false, List, [], ◌∷◌, ◌++◌, length, vec_len, rules, arith, ap, ◌∙◌, sym}
use Rattle.esm_io.proofs.Leaving.{weaker}
use Rattle.esm_journal.proofs.Adds.{either_of_torn, bytes_of_added, file_of_added, payload_in, on_ok_told, room_for_more}
use Rattle.esm_journal.proofs.Written.{end_push}
use Rattle.esm_journal.proofs.log.Log.append.Goals as goal

pub returns-then-is_err-2-clause-any_moment : goal.returns-then-is_err-2-clause-any_moment
returns-then-is_err-2-clause-any_moment g c = λ h up.
    let log = c.args.self.now in
    weaker g.D.Disk.moment g.D.Disk.image_since log.disk c.add_entry.new.disk _ _ (c.add_entry.ensures.any_moment h)
    (either_of_torn log.header log.epoch log.payloads.items c.requires.header (g.D.Disk.content log.disk) (c.requires.file h up) log.end c.requires.end c.args.payload.now _ (c.deref.ensures.value ∙ c.in-Ok.ensures.framed) (omega arith))

pub returns-clause-any_moment : goal.returns-clause-any_moment
returns-clause-any_moment g c = λ h up.
    let log = c.args.self.now in
    weaker g.D.Disk.moment g.D.Disk.image_since log.disk c.add_entry.new.disk _ _ (c.add_entry.ensures.any_moment h)
    (either_of_torn log.header log.epoch log.payloads.items c.requires.header (g.D.Disk.content log.disk) (c.requires.file h up) log.end c.requires.end c.args.payload.now _ (c.deref.ensures.value ∙ c.in-Ok.ensures.framed) (omega arith))

pub returns-clause-log : goal.returns-clause-log
returns-clause-log g c =
    let log = c.args.self.now in
    let payload = c.args.payload.now in
    let frame = c.in-Ok.frame in
    let went_well = sym c.is_err-2.ensures.value ∙ c.if-is_err-2.false in
    let taken : c.from_vec.result ≡ payload = c.from_vec.ensures ∙ c.payload_of.ensures ∙ payload_in payload frame.items (vec_len frame) (search rules) c.in-Ok.ensures.framed in
    let pushed : c.push_reserved.new.self.items ≡ log.payloads.items ++ payload ∷ [] =
    c.push_reserved.ensures.items ∙ ap (λ (l : List (List ℕ)). l ++ c.from_vec.result ∷ []) c.reserve.ensures.items ∙ ap (λ (p : List ℕ). log.payloads.items ++ p ∷ []) taken in
    let size = c.push_reserved.ensures.len in
    let large = c.push_reserved.ensures.capacity in
    let total = c.in-Ok.ensures.total in
    let used : 0 < length log.spares.items → length c.framed.new.spares.items < length log.spares.items = c.in-Ok.ensures.used in
    let ok = on_ok_told c.reserve.result (sym c.is_err.ensures.value ∙ c.if-is_err.false) c.reserve.ensures.ok in
    record {
      header = c.requires.header;
      file = λ h up.
          let honest = sym c.add_entry.ensures.honesty ∙ h in
          rw pushed (file_of_added log.header log.epoch log.payloads.items c.requires.header (g.D.Disk.content log.disk) (c.requires.file honest up) log.end c.requires.end payload c.deref.result.now
          (c.deref.ensures.value ∙ c.in-Ok.ensures.framed) (omega arith) (g.D.Disk.content c.add_entry.new.disk) (on_ok_told c.add_entry.result went_well (c.add_entry.ensures.written honest)));
      synced = λ h up. on_ok_told c.add_entry.result went_well (c.add_entry.ensures.durable (sym c.add_entry.ensures.honesty ∙ h));
      stopped = λ h down. absurd (not_both c.if-self.false down);
      end = rw pushed (omega (arith, end_push log.payloads.items payload, c.requires.end));
      faults_fit = c.add_entry.ensures.count.greatest;
      spares = c.framed.ensures.spares;
      total = omega (arith, total);
      places = room_for_more _ _ _ _ _ _ _ _ c.requires.places c.reserve.ensures.capacity (c.reserve.ensures.len) ok size large c.framed.ensures.fewer used;
    }
  where
    no_way : true ≡ false → ⊥
    no_way e = cc

    not_both : {b : Bool} → b ≡ false → b ≡ true → ⊥
    not_both up down = no_way (sym down ∙ up)

pub returns-then-is_err-2-clause-log : goal.returns-then-is_err-2-clause-log
returns-then-is_err-2-clause-log g c =
    let log = c.args.self.now in
    let payload = c.args.payload.now in
    let new = c.add_entry.new.disk in
    let total = c.in-Ok.ensures.total in
    let fewer = c.framed.ensures.fewer in
    let large = c.reserve.ensures.capacity in
    let same = c.reserve.ensures.len in
    let places = c.requires.places in
    record {
      header = c.requires.header;
      file = λ h up. absurd (clash up);
      synced = λ h up. absurd (clash up);
      stopped = λ h down.
          let honest = sym c.add_entry.ensures.honesty ∙ h in
          let run = c.add_entry.ensures.any_moment honest in (
            payload,
            λ bytes now. rw c.reserve.ensures.items (either_of_torn log.header log.epoch log.payloads.items c.requires.header (g.D.Disk.content log.disk) (c.requires.file honest c.if-self.false) log.end c.requires.end payload c.deref.result.now
                (c.deref.ensures.value ∙ c.in-Ok.ensures.framed) (omega arith) bytes (run.each bytes (g.met.D.Disk.counts_now new (g.D.Disk.moment log.disk) bytes h run.later now))),
          );
      end = rw c.reserve.ensures.items c.requires.end;
      faults_fit = c.add_entry.ensures.count.greatest;
      spares = c.framed.ensures.spares;
      total = omega (arith, total);
      places = omega (arith, fewer, large, same, places);
    }
  where
    clash : true ≡ false → ⊥
    clash e = cc

pub returns-clause-told : goal.returns-clause-told
returns-clause-told g c =
    let log = c.args.self.now in
    let payload = c.args.payload.now in
    let frame = c.in-Ok.frame in
    let went_well = sym c.is_err-2.ensures.value ∙ c.if-is_err-2.false in
    let taken : c.from_vec.result ≡ payload = c.from_vec.ensures ∙ c.payload_of.ensures ∙ payload_in payload frame.items (vec_len frame) (search rules) c.in-Ok.ensures.framed in
    record {
      added =
          c.push_reserved.ensures.items ∙ ap (λ (l : List (List ℕ)). l ++ c.from_vec.result ∷ []) c.reserve.ensures.items
          ∙ ap (λ (p : List ℕ). log.payloads.items ++ p ∷ []) taken;
      bytes = λ h.
          bytes_of_added log.header log.epoch log.payloads.items c.requires.header (g.D.Disk.content log.disk) (c.requires.file h c.if-self.false) log.end c.requires.end payload c.deref.result.now
          (c.deref.ensures.value ∙ c.in-Ok.ensures.framed) (omega arith) (g.D.Disk.content c.add_entry.new.disk)
          (on_ok_told c.add_entry.result went_well (c.add_entry.ensures.written h));
      room = search rules;
      up = c.if-self.false;
      not_added = tt;
      fault = λ e. cc;
      cause = λ e. cc;
      no_memory = λ e. cc;
      has_room = λ room e. cc;
      down = λ e. search rules;
      is_down = λ was. search rules;
      too_long = λ n e. search rules;
      is_too_long = λ up long. absurd (omega (arith, long));
      honesty = c.add_entry.ensures.honesty;
      count = c.add_entry.ensures.count;
    }
