use Rattle.std.proofs.Common.{◌≡◌, ◌≤◌, ℕ, ◌++◌, length, ap, sym, ◌∙◌, subst}
use Rattle.esm_model.specs.Books.{entries_told}
use Rattle.esm_model.specs.Entries.{is_shut}
use Rattle.esm_model.specs.Kept.{meaning}
use Rattle.esm_turn.specs.Seats.{SeatView}
use Rattle.esm_workers.specs.Seated.{IsSeated}
use Rattle.esm_model.specs.declared.limits.TheConstants.{MAX_RECORDS}
use Rattle.esm_model.specs.Coming.{items_of}
use Rattle.esm_pool.proofs.Arriving.{ok_stop, err_stop, unchanged_stop}
use Rattle.esm_pool.proofs.Seats.{found, gone_back, same_found, given}
use Rattle.esm_pool.proofs.coming.note.Goals as goal

pub bring-came-requires-clause-going : goal.bring-came-requires-clause-going
bring-came-requires-clause-going g c =
    let m = meaning g.B.Kept in
    let gave = g.C.Clock.gave in
    let t = c.args.turn.now in
    let s : SeatView = c.args.seat.now in
    let x = c.take-value.result.value in
    let f = found m gave t s x c.requires.seated c.take-value.ensures.setup c.take-value.ensures.legal c.take-value.ensures.begins c.take-value.ensures.mine c.take-value.ensures.change in
    same_found m gave t s x f (λ h. is_shut (entries_told h)) (c.stays.ensures.shut t.setup) ∙ c.requires.going

pub bring-came-requires-clause-within : goal.bring-came-requires-clause-within
bring-came-requires-clause-within g c = λ n.
    let m = meaning g.B.Kept in
    let gave = g.C.Clock.gave in
    let t = c.args.turn.now in
    let s : SeatView = c.args.seat.now in
    let x = c.take-value.result.value in
    let f = found m gave t s x c.requires.seated c.take-value.ensures.setup c.take-value.ensures.legal c.take-value.ensures.begins c.take-value.ensures.mine c.take-value.ensures.change in
    let same : (n : ℕ) → g.B.Pooled.items (m.history x) n ≡ g.B.Pooled.items s.seen n = λ n. same_found m gave t s x f (λ h. g.B.Pooled.items h n) (λ h es follow. c.stays.ensures.items t.setup h es follow n) in
    subst (λ l. length (l ++ items_of n c.args.list.items) ≤ MAX_RECORDS) (sym (same n)) (c.requires.within n)

pub returns-clause-seated : goal.returns-clause-seated
returns-clause-seated g c =
    let m = meaning g.B.Kept in
    let gave = g.C.Clock.gave in
    let t = c.args.turn.now in
    let s : SeatView = c.args.seat.now in
    let x = c.take-value.result.value in
    let f = found m gave t s x c.requires.seated c.take-value.ensures.setup c.take-value.ensures.legal c.take-value.ensures.begins c.take-value.ensures.mine c.take-value.ensures.change in
    subst (IsSeated m.author m.may_follow gave t 0) (sym (gone_back m gave t s x c.bring-came.new.self c.take-value.new.seat c.give.new.seat c.take-value.ensures.seat c.give.ensures))
    (given m gave t s x f c.bring-came.new.self c.bring-came.ensures.goes_on c.now-moment.result c.bring-came.ensures.moments c.now-moment.ensures)

pub returns-clause-unchanged : goal.returns-clause-unchanged
returns-clause-unchanged g c =
    let m = meaning g.B.Kept in
    let gave = g.C.Clock.gave in
    let t = c.args.turn.now in
    let s : SeatView = c.args.seat.now in
    let x = c.take-value.result.value in
    let f = found m gave t s x c.requires.seated c.take-value.ensures.setup c.take-value.ensures.legal c.take-value.ensures.begins c.take-value.ensures.mine c.take-value.ensures.change in
    unchanged_stop c.bring-came.result c.stopped.result (m.change x) (m.change c.bring-came.new.self) c.give.new.seat.change c.stopped.ensures (f.change ∙ c.requires.unchanged) c.bring-came.ensures.tells (ap (λ (u : SeatView). u.change) c.give.ensures)

pub returns-clause-came : goal.returns-clause-came
returns-clause-came g c =
    let m = meaning g.B.Kept in
    let gave = g.C.Clock.gave in
    let t = c.args.turn.now in
    let s : SeatView = c.args.seat.now in
    let x = c.take-value.result.value in
    let f = found m gave t s x c.requires.seated c.take-value.ensures.setup c.take-value.ensures.legal c.take-value.ensures.begins c.take-value.ensures.mine c.take-value.ensures.change in
    let same : (n : ℕ) → g.B.Pooled.items (m.history x) n ≡ g.B.Pooled.items s.seen n = λ n. same_found m gave t s x f (λ h. g.B.Pooled.items h n) (λ h es follow. c.stays.ensures.items t.setup h es follow n) in
    ok_stop c.bring-came.result c.stopped.result _ _ (λ came n. ap (λ (u : SeatView). g.B.Pooled.items u.seen n) c.give.ensures ∙ (came n ∙ ap (λ l. l ++ items_of n c.args.list.items) (same n))) c.stopped.ensures c.bring-came.ensures.came

pub returns-clause-some : goal.returns-clause-some
returns-clause-some g c = λ n.
    let m = meaning g.B.Kept in
    let gave = g.C.Clock.gave in
    let t = c.args.turn.now in
    let s : SeatView = c.args.seat.now in
    let x = c.take-value.result.value in
    let f = found m gave t s x c.requires.seated c.take-value.ensures.setup c.take-value.ensures.legal c.take-value.ensures.begins c.take-value.ensures.mine c.take-value.ensures.change in
    let same : (n : ℕ) → g.B.Pooled.items (m.history x) n ≡ g.B.Pooled.items s.seen n = λ n. same_found m gave t s x f (λ h. g.B.Pooled.items h n) (λ h es follow. c.stays.ensures.items t.setup h es follow n) in
    let some = c.bring-came.ensures.some n in
    (some.0, ap (λ l. l ++ items_of n c.args.list.items) (sym (same n)) ∙ (some.1 ∙ ap (λ l. l ++ some.0) (sym (ap (λ (u : SeatView). g.B.Pooled.items u.seen n) c.give.ensures))))

pub returns-clause-stop : goal.returns-clause-stop
returns-clause-stop g c =
    let m = meaning g.B.Kept in
    let gave = g.C.Clock.gave in
    let t = c.args.turn.now in
    let s : SeatView = c.args.seat.now in
    let x = c.take-value.result.value in
    let f = found m gave t s x c.requires.seated c.take-value.ensures.setup c.take-value.ensures.legal c.take-value.ensures.begins c.take-value.ensures.mine c.take-value.ensures.change in
    let same : (n : ℕ) → g.B.Pooled.items (m.history x) n ≡ g.B.Pooled.items s.seen n = λ n. same_found m gave t s x f (λ h. g.B.Pooled.items h n) (λ h es follow. c.stays.ensures.items t.setup h es follow n) in
    err_stop g.B.Pooled.items g.B.Pooled.differs (m.setup x) t.setup (m.history x) (m.history c.bring-came.new.self) s.seen c.give.new.seat.seen c.args.list.items (m.mark c.bring-came.new.self) c.give.new.seat.mark
    (m.change x) (m.change c.bring-came.new.self) c.give.new.seat.change c.bring-came.result c.stopped.result c.stopped.ensures f.setup c.bring-came.ensures.goes_on.history_is same
    (ap (λ (u : SeatView). u.seen) c.give.ensures) (ap (λ (u : SeatView). u.mark) c.give.ensures) (f.change ∙ c.requires.unchanged) c.bring-came.ensures.tells (ap (λ (u : SeatView). u.change) c.give.ensures)
    c.bring-came.ensures.down c.bring-came.ensures.changed
