use Rattle.std.proofs.Common.{◌≡◌, ℕ, ap, sym, ◌∙◌, subst}
use Rattle.esm_model.specs.Books.{entries_told}
use Rattle.esm_model.specs.Entries.{is_shut}
use Rattle.esm_model.specs.Kept.{meaning, added}
use Rattle.esm_turn.specs.Seats.{SeatView}
use Rattle.esm_workers.specs.Seated.{IsSeated}
use Rattle.esm_pool.proofs.Seats.{found, gone_back, holds_found, same_found, given, own_follow}
use Rattle.esm_pool.proofs.coming.note_end.Goals as goal

pub end_input-requires-clause-going : goal.end_input-requires-clause-going
end_input-requires-clause-going g c =
    let m = meaning g.B.Kept in
    let gave = g.C.Clock.gave in
    let t = c.args.turn.now in
    let s : SeatView = c.args.seat.now in
    let x = c.take-value.result.value in
    let f = found m gave t s x c.requires.seated c.take-value.ensures.setup c.take-value.ensures.legal c.take-value.ensures.begins c.take-value.ensures.mine c.take-value.ensures.change in
    same_found m gave t s x f (λ h. is_shut (entries_told h)) (c.stays.ensures.shut t.setup) ∙ c.requires.going

pub returns-clause-seated : goal.returns-clause-seated
returns-clause-seated g c =
    let m = meaning g.B.Kept in
    let gave = g.C.Clock.gave in
    let t = c.args.turn.now in
    let s : SeatView = c.args.seat.now in
    let x = c.take-value.result.value in
    let f = found m gave t s x c.requires.seated c.take-value.ensures.setup c.take-value.ensures.legal c.take-value.ensures.begins c.take-value.ensures.mine c.take-value.ensures.change in
    subst (IsSeated m.author m.may_follow gave t 0) (sym (gone_back m gave t s x c.end_input.new.self c.take-value.new.seat c.give.new.seat c.take-value.ensures.seat c.give.ensures))
    (given m gave t s x f c.end_input.new.self c.end_input.ensures.goes_on c.now-moment.result c.end_input.ensures.moments c.now-moment.ensures)

pub returns-clause-same : goal.returns-clause-same
returns-clause-same g c = λ n.
    let m = meaning g.B.Kept in
    let gave = g.C.Clock.gave in
    let t = c.args.turn.now in
    let s : SeatView = c.args.seat.now in
    let x = c.take-value.result.value in
    let f = found m gave t s x c.requires.seated c.take-value.ensures.setup c.take-value.ensures.legal c.take-value.ensures.begins c.take-value.ensures.mine c.take-value.ensures.change in
    let same : (n : ℕ) → g.B.Pooled.items (m.history x) n ≡ g.B.Pooled.items s.seen n = λ n. same_found m gave t s x f (λ h. g.B.Pooled.items h n) (λ h es follow. c.stays.ensures.items t.setup h es follow n) in
    ap (λ (u : SeatView). g.B.Pooled.items u.seen n) c.give.ensures ∙ (c.end_input.ensures.same n ∙ same n)

pub returns-clause-unchanged : goal.returns-clause-unchanged
returns-clause-unchanged g c =
    let m = meaning g.B.Kept in
    let gave = g.C.Clock.gave in
    let t = c.args.turn.now in
    let s : SeatView = c.args.seat.now in
    let x = c.take-value.result.value in
    let f = found m gave t s x c.requires.seated c.take-value.ensures.setup c.take-value.ensures.legal c.take-value.ensures.begins c.take-value.ensures.mine c.take-value.ensures.change in
    ap (λ (u : SeatView). u.change) c.give.ensures ∙ (c.end_input.ensures.change ∙ f.change)

pub returns-clause-spent : goal.returns-clause-spent
returns-clause-spent g c = λ was.
    let m = meaning g.B.Kept in
    let gave = g.C.Clock.gave in
    let t = c.args.turn.now in
    let s : SeatView = c.args.seat.now in
    let x = c.take-value.result.value in
    let f = found m gave t s x c.requires.seated c.take-value.ensures.setup c.take-value.ensures.legal c.take-value.ensures.begins c.take-value.ensures.mine c.take-value.ensures.change in
    let y = c.end_input.new.self in
    let at_first : g.B.Pooled.spent t.setup (m.history x) = holds_found m gave t s x f (g.B.Pooled.spent t.setup) (λ h es. c.stays.ensures.spent t.setup h es 0) was in
    let behind : g.B.Pooled.spent t.setup (m.history y) = subst (g.B.Pooled.spent t.setup) (sym c.end_input.ensures.goes_on.history_is)
    (c.stays.ensures.spent t.setup (m.history x) (added (m.history x) (m.history y)) 1 (own_follow m gave t s x f y c.end_input.ensures.goes_on 1 (λ one. absurd (cc))) at_first) in
    subst (g.B.Pooled.spent t.setup) (sym (ap (λ (u : SeatView). u.seen) c.give.ensures)) behind
