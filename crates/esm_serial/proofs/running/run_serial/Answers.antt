use Rattle.std.proofs.Common.{◌≡◌, ◌∙◌, [], Err, sym, refl, inl, inr, rules}
use Rattle.esm_input.specs.Reading.{handed}
use Rattle.esm_serial.specs.Ran.{StopsSo, IsChangeOf}
use Rattle.esm_serial.proofs.Pieces.{some_as}
use Rattle.esm_serial.proofs.Leaving.{has_come, has_called, has_perhaps, not_called, down_of, short_of, change_of, no_change, all_came, came_all, none_came, on_err_always}
use Rattle.esm_serial.specs.declared.reading.Stop.TheVariants as stop
use Rattle.esm_serial.proofs.running.run_serial.Goals as goal

pub read_all-requires-clause-came : goal.read_all-requires-clause-came
read_all-requires-clause-came g c κs within = none_came (g.B.Serial.items c.args.book) (handed c.args.input) c.begins.ensures.items c.requires.unread

-- it was read whole

pub returns-in-Ok-clause-called : goal.returns-in-Ok-clause-called
returns-in-Ok-clause-called g c =
    has_called g.B.Serial g.C.Clock.gave g.F.Caller.sends c.args.book c.read_all.new.book c.note_end.new.book (c.begins.ensures.since g.C.Clock.gave g.F.Caller.sends) c.read_all.ensures.brings
    c.note_end.ensures.since c.call_all-end.new.book (g.F.Caller.log c.args.caller.now) (g.F.Caller.log c.call_all-end.new.caller) c.call_all-end.result c.call_all-end.ensures.called

pub returns-in-Ok-clause-stopped : goal.returns-in-Ok-clause-stopped
returns-in-Ok-clause-stopped g c =
    has_perhaps g.B.Serial g.C.Clock.gave g.F.Caller.sends c.args.book c.read_all.new.book c.note_end.new.book (c.begins.ensures.since g.C.Clock.gave g.F.Caller.sends) c.read_all.ensures.brings
    c.note_end.ensures.since c.call_all-end.new.book (g.F.Caller.log c.args.caller.now) (g.F.Caller.log c.call_all-end.new.caller) c.call_all-end.result c.call_all-end.ensures.stopped

pub returns-in-Ok-clause-came : goal.returns-in-Ok-clause-came
returns-in-Ok-clause-came g c =
    came_all g.B.Serial g.C.Clock.gave c.args.book c.call_all-end.new.book c.read_all.new.input (g.F.Caller.log c.args.caller.now) (g.F.Caller.log c.call_all-end.new.caller) c.call_all-end.result
    (all_came g.B.Serial c.read_all.new.book c.note_end.new.book c.call_all-end.new.book c.read_all.new.input c.in-Ok.ensures.came c.in-Ok.ensures.end c.note_end.ensures.items
    (c.note_end.ensures.shut (c.note_end.ensures.down ∙ c.in-Ok.ensures.up)) c.call_all-end.ensures.same)

pub returns-in-Ok-clause-changed : goal.returns-in-Ok-clause-changed
returns-in-Ok-clause-changed g c = λ change is.
    no_change (g.B.Serial.change c.call_all-end.new.book) change (IsChangeOf g.B.Serial g.C.Clock.gave g.F.Caller.sends c.args.book c.call_all-end.new.book c.read_all.new.input change)
    (c.call_all-end.ensures.same.change ∙ (c.note_end.ensures.change ∙ c.in-Ok.ensures.unchanged)) is

pub returns-in-Ok-clause-unasked : goal.returns-in-Ok-clause-unasked
returns-in-Ok-clause-unasked g c = λ change is.
    no_change (g.B.Serial.change c.call_all-end.new.book) change _
    (c.call_all-end.ensures.same.change ∙ (c.note_end.ensures.change ∙ c.in-Ok.ensures.unchanged)) is

pub returns-in-Ok-clause-cut : goal.returns-in-Ok-clause-cut
returns-in-Ok-clause-cut g c =
    on_err_always c.call_all-end.result
    (StopsSo g.B.Serial g.C.Clock.gave g.S.Source.faults g.S.Source.left c.args.book c.call_all-end.new.book c.read_all.new.input (g.F.Caller.log c.args.caller.now) (g.F.Caller.log c.call_all-end.new.caller))
    (inl (record {
      all = all_came g.B.Serial c.read_all.new.book c.note_end.new.book c.call_all-end.new.book c.read_all.new.input c.in-Ok.ensures.came c.in-Ok.ensures.end c.note_end.ensures.items
          (c.note_end.ensures.shut (c.note_end.ensures.down ∙ c.in-Ok.ensures.up)) c.call_all-end.ensures.same;
      good = c.in-Ok.ensures.good (λ short. cc);
      read = c.in-Ok.ensures.read (λ short. cc);
    }))

pub returns-in-Ok-clause-no_change : goal.returns-in-Ok-clause-no_change
returns-in-Ok-clause-no_change g c =
    on_err_always c.call_all-end.result _
    (c.call_all-end.ensures.same.change ∙ (c.note_end.ensures.change ∙ c.in-Ok.ensures.unchanged))

pub returns-in-Ok-clause-uncalled : goal.returns-in-Ok-clause-uncalled
returns-in-Ok-clause-uncalled g c = λ change is.
    no_change (g.B.Serial.change c.call_all-end.new.book) change _
    (c.call_all-end.ensures.same.change ∙ (c.note_end.ensures.change ∙ c.in-Ok.ensures.unchanged)) is

-- the book went down

pub returns-in-Err-Down-clause-came : goal.returns-in-Err-Down-clause-came
returns-in-Err-Down-clause-came g c =
    let is_down : c.read_all.result ≡ Err stop.Down = search rules in
    let at = down_of g.B.Serial g.C.Clock.gave g.S.Source.left c.args.book c.read_all.new.input c.read_all.new.book c.read_all.result is_down c.read_all.ensures.stop in
    inr (record {
      items = some_as (g.B.Serial.items c.read_all.new.book) (g.B.Serial.items c.note_end-in-Err-Down.new.book) c.note_end-in-Err-Down.ensures.items (handed c.read_all.new.input) at.some;
      unasked = refl;
      uncalled = not_called g.B.Serial g.C.Clock.gave c.args.book c.read_all.new.book c.note_end-in-Err-Down.new.book c.begins.ensures.since c.read_all.ensures.brings c.note_end-in-Err-Down.ensures.since;
    })

pub returns-in-Err-Down-clause-changed : goal.returns-in-Err-Down-clause-changed
returns-in-Err-Down-clause-changed g c = λ change is.
    let is_down : c.read_all.result ≡ Err stop.Down = search rules in
    let at = down_of g.B.Serial g.C.Clock.gave g.S.Source.left c.args.book c.read_all.new.input c.read_all.new.book c.read_all.result is_down c.read_all.ensures.stop in
    change_of g.B.Serial g.C.Clock.gave g.F.Caller.sends c.args.book c.read_all.new.book c.note_end-in-Err-Down.new.book c.read_all.new.input change (c.begins.ensures.since g.C.Clock.gave g.F.Caller.sends)
    c.note_end-in-Err-Down.ensures.items (at.changed change (sym c.note_end-in-Err-Down.ensures.change ∙ is))

pub returns-in-Err-Down-clause-uncalled : goal.returns-in-Err-Down-clause-uncalled
returns-in-Err-Down-clause-uncalled g c = λ change is.
    not_called g.B.Serial g.C.Clock.gave c.args.book c.read_all.new.book c.note_end-in-Err-Down.new.book c.begins.ensures.since c.read_all.ensures.brings c.note_end-in-Err-Down.ensures.since

-- memory was wanting while it was read

pub returns-in-Err-OutOfMemory-clause-stopped : goal.returns-in-Err-OutOfMemory-clause-stopped
returns-in-Err-OutOfMemory-clause-stopped g c =
    inl (has_come g.B.Serial g.C.Clock.gave g.F.Caller.sends c.args.book c.read_all.new.book (c.begins.ensures.since g.C.Clock.gave g.F.Caller.sends) c.read_all.ensures.brings (g.F.Caller.log c.args.caller.now))

pub returns-in-Err-OutOfMemory-clause-changed : goal.returns-in-Err-OutOfMemory-clause-changed
returns-in-Err-OutOfMemory-clause-changed g c = λ change is.
    let is_short : c.read_all.result ≡ Err stop.OutOfMemory = search rules in
    let at = short_of g.B.Serial g.C.Clock.gave g.S.Source.left c.args.book c.read_all.new.input c.read_all.new.book c.read_all.result is_short c.read_all.ensures.stop in
    no_change (g.B.Serial.change c.read_all.new.book) change (IsChangeOf g.B.Serial g.C.Clock.gave g.F.Caller.sends c.args.book c.read_all.new.book c.read_all.new.input change) at.0 is

pub returns-in-Err-OutOfMemory-clause-no_change : goal.returns-in-Err-OutOfMemory-clause-no_change
returns-in-Err-OutOfMemory-clause-no_change g c =
    let is_short : c.read_all.result ≡ Err stop.OutOfMemory = search rules in
    let at = short_of g.B.Serial g.C.Clock.gave g.S.Source.left c.args.book c.read_all.new.input c.read_all.new.book c.read_all.result is_short c.read_all.ensures.stop in
    at.0

pub returns-in-Err-OutOfMemory-clause-cut : goal.returns-in-Err-OutOfMemory-clause-cut
returns-in-Err-OutOfMemory-clause-cut g c =
    let is_short : c.read_all.result ≡ Err stop.OutOfMemory = search rules in
    let at = short_of g.B.Serial g.C.Clock.gave g.S.Source.left c.args.book c.read_all.new.input c.read_all.new.book c.read_all.result is_short c.read_all.ensures.stop in
    inr (record {
      cut = at.1;
      going = c.read_all.ensures.brings.going;
      unasked = refl;
      uncalled = λ sends. c.read_all.ensures.brings.since sends c.args.book [] (c.begins.ensures.since g.C.Clock.gave sends);
    })
