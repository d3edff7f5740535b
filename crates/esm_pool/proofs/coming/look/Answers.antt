use Rattle.std.proofs.Common.{◌≡◌, ℕ, ap, sym, ◌∙◌, subst}
use Rattle.esm_model.specs.Books.{entries_told}
use Rattle.esm_model.specs.Entries.{is_shut}
use Rattle.esm_model.specs.Kept.{meaning}
use Rattle.esm_turn.specs.Seats.{SeatView}
use Rattle.esm_workers.specs.Seated.{IsSeated}
use Rattle.esm_pool.proofs.Seats.{found, gone_back, same_found, given_as_it_was}
use Rattle.esm_pool.proofs.Stopping.{goes_on_as, stop_at_as}
use Rattle.esm_pool.proofs.coming.look.Goals as goal

pub returns-clause-seated : goal.returns-clause-seated
returns-clause-seated g c =
    let m = meaning g.B.Kept in
    let gave = g.C.Clock.gave in
    let t = c.args.turn.now in
    let s : SeatView = c.args.seat.now in
    let x = c.take-value.result.value in
    let f = found m gave t s x c.requires.seated c.take-value.ensures.setup c.take-value.ensures.legal c.take-value.ensures.begins c.take-value.ensures.mine c.take-value.ensures.change in
    subst (IsSeated m.author m.may_follow gave t 0) (sym (gone_back m gave t s x x c.take-value.new.seat c.give.new.seat c.take-value.ensures.seat c.give.ensures))
    (given_as_it_was m gave t s x f)

pub returns-clause-going : goal.returns-clause-going
returns-clause-going g c =
    let m = meaning g.B.Kept in
    let gave = g.C.Clock.gave in
    let t = c.args.turn.now in
    let s : SeatView = c.args.seat.now in
    let x = c.take-value.result.value in
    let f = found m gave t s x c.requires.seated c.take-value.ensures.setup c.take-value.ensures.legal c.take-value.ensures.begins c.take-value.ensures.mine c.take-value.ensures.change in
    ap (λ (u : SeatView). is_shut (entries_told u.seen)) c.give.ensures ∙ (same_found m gave t s x f (λ h. is_shut (entries_told h)) (c.stays.ensures.shut t.setup) ∙ c.requires.going)

pub returns-clause-same : goal.returns-clause-same
returns-clause-same g c = λ n.
    let m = meaning g.B.Kept in
    let gave = g.C.Clock.gave in
    let t = c.args.turn.now in
    let s : SeatView = c.args.seat.now in
    let x = c.take-value.result.value in
    let f = found m gave t s x c.requires.seated c.take-value.ensures.setup c.take-value.ensures.legal c.take-value.ensures.begins c.take-value.ensures.mine c.take-value.ensures.change in
    let same : (n : ℕ) → g.B.Pooled.items (m.history x) n ≡ g.B.Pooled.items s.seen n = λ n. same_found m gave t s x f (λ h. g.B.Pooled.items h n) (λ h es follow. c.stays.ensures.items t.setup h es follow n) in
    ap (λ (u : SeatView). g.B.Pooled.items u.seen n) c.give.ensures ∙ same n

pub returns-clause-unchanged : goal.returns-clause-unchanged
returns-clause-unchanged g c =
    let m = meaning g.B.Kept in
    let gave = g.C.Clock.gave in
    let t = c.args.turn.now in
    let s : SeatView = c.args.seat.now in
    let x = c.take-value.result.value in
    let f = found m gave t s x c.requires.seated c.take-value.ensures.setup c.take-value.ensures.legal c.take-value.ensures.begins c.take-value.ensures.mine c.take-value.ensures.change in
    ap (λ (u : SeatView). u.change) c.give.ensures ∙ f.change

pub returns-clause-stop : goal.returns-clause-stop
returns-clause-stop g c =
    let m = meaning g.B.Kept in
    let gave = g.C.Clock.gave in
    let t = c.args.turn.now in
    let s : SeatView = c.args.seat.now in
    let x = c.take-value.result.value in
    let f = found m gave t s x c.requires.seated c.take-value.ensures.setup c.take-value.ensures.legal c.take-value.ensures.begins c.take-value.ensures.mine c.take-value.ensures.change in
    stop_at_as g.B.Pooled.spent (m.setup x) t.setup (m.history x) c.give.new.seat.seen (m.mark x) c.give.new.seat.mark f.setup (ap (λ (u : SeatView). u.seen) c.give.ensures) (ap (λ (u : SeatView). u.mark) c.give.ensures)
    c.stop_at-stop.result c.stop_at-stop.ensures.stop

pub returns-clause-goes_on : goal.returns-clause-goes_on
returns-clause-goes_on g c =
    let m = meaning g.B.Kept in
    let gave = g.C.Clock.gave in
    let t = c.args.turn.now in
    let s : SeatView = c.args.seat.now in
    let x = c.take-value.result.value in
    let f = found m gave t s x c.requires.seated c.take-value.ensures.setup c.take-value.ensures.legal c.take-value.ensures.begins c.take-value.ensures.mine c.take-value.ensures.change in
    goes_on_as g.B.Pooled.spent (m.setup x) t.setup (m.history x) c.give.new.seat.seen (m.mark x) c.give.new.seat.mark f.setup (ap (λ (u : SeatView). u.seen) c.give.ensures) (ap (λ (u : SeatView). u.mark) c.give.ensures)
    c.stop_at-stop.result c.stop_at-stop.ensures.goes_on
