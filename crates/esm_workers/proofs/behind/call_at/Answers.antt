use Rattle.std.proofs.Common.{◌≡◌, ◌≤◌, List, ◌∷◌, length, ap, sym, ◌∙◌, subst, arith}
use Rattle.esm_turn.specs.Seats.{SeatView, AreAllSeats}
use Rattle.esm_workers.specs.Hands.{meanings, HasBegun, GoesOnFrom, TellsOf}
use Rattle.esm_workers.specs.Packs.{seats_of}
use Rattle.esm_workers.proofs.Packed.{callers_length}
use Rattle.esm_workers.proofs.Closed.{IsClosed, all_back}
use Rattle.esm_workers.proofs.Whole.{Stays, ready, first_is, first_seated, seats, seats_count, on_first, change_is, later_whole, tells_whole}
use Rattle.esm_workers.proofs.behind.call_at.Goals as goal

pub call_some-short-requires-clause-few : goal.call_some-short-requires-clause-few
call_some-short-requires-clause-few g c κs within =
    let hs = c.pack-first.new.hands.items in
    let many : length hs ≡ length c.args.callers.items = sym (callers_length hs) ∙ ap length c.pack-first.ensures.callers.1 in
    let b = c.requires.batchers in
    let l = c.requires.callers in
    (omega (arith, b, l, many), omega (arith, l, many))

pub call_some-short-requires-clause-ready : goal.call_some-short-requires-clause-ready
call_some-short-requires-clause-ready g c κs within =
    let m = meanings g.T.Kept g.T.Pooled g.C.Clock g.F.Caller in
    let t = c.args.turn in
    let first = c.pack-first.result in
    let hs = c.pack-first.new.hands.items in
    let begun : HasBegun m t c.requires.begun.0 c.requires.begun.1 (first ∷ seats_of hs) = subst (HasBegun m t c.requires.begun.0 c.requires.begun.1) (sym c.pack-first.ensures.seats.1) c.requires.begun.2 in
    ready m t c.requires.begun.0 c.requires.begun.1 first hs begun

pub unpack-requires-clause-room : goal.unpack-requires-clause-room
unpack-requires-clause-room g c =
    let hs = c.pack-first.new.hands.items in
    let many : length hs ≡ length c.args.callers.items = sym (callers_length hs) ∙ ap length c.pack-first.ensures.callers.1 in
    let same = c.call_some-short.ensures.worked.as_many in
    let one = c.pack-first.ensures.room.0 in
    let two = c.pack-first.ensures.room.1 in
    let begun = c.requires.begun.2.begun.count in
    let places = c.requires.seats in
    let l = c.requires.callers in
    let a = c.args.seats.ok in
    let b = c.args.callers.ok in
    (omega (arith, many, same, one, begun, places, l, a.0, a.1), omega (arith, many, same, two, l, b.0, b.1))

pub close-book-requires : goal.close-book-requires
close-book-requires g c =
    let m = meanings g.T.Kept g.T.Pooled g.C.Clock g.F.Caller in
    let t = c.args.turn in
    let first = c.pack-first.result in
    let hs = c.pack-first.new.hands.items in
    let begun : HasBegun m t c.requires.begun.0 c.requires.begun.1 (first ∷ seats_of hs) = subst (HasBegun m t c.requires.begun.0 c.requires.begun.1) (sym c.pack-first.ensures.seats.1) c.requires.begun.2 in
    let after = c.call_some-short.new.hands.items in
    let have = c.call_some-short.ensures.worked in
    let seen = c.requires.begun.0 in
    let told = c.requires.begun.1 in
    let here = first_seated m t seen told first hs begun in
    record {
      all = subst (AreAllSeats t) (sym c.unpack.ensures.seats)
          (all_back m.author m.may_follow m.outside.gave t (first ∷ seats_of after) (seats_count m t seen told first hs begun c.args.batchers after have first here) (seats m t seen told first hs begun c.args.batchers after have first here));
    }

pub returns-clause-tells : goal.returns-clause-tells
returns-clause-tells g c = λ seen told began.
    let m = meanings g.T.Kept g.T.Pooled g.C.Clock g.F.Caller in
    let t = c.args.turn in
    let first = c.pack-first.result in
    let hs = c.pack-first.new.hands.items in
    let begun : HasBegun m t seen told (first ∷ seats_of hs) = subst (HasBegun m t seen told) (sym c.pack-first.ensures.seats.1) began in
    let many : length hs ≡ length c.args.callers.items = sym (callers_length hs) ∙ ap length c.pack-first.ensures.callers.1 in
    let after = c.call_some-short.new.hands.items in
    let have = c.call_some-short.ensures.worked in
    let book = c.close-book.result in
    let h = g.T.Kept.history book in
    let mark = g.T.Kept.mark book in
    let change = g.T.Kept.change book in
    let e = c.close-book.ensures in
    let closed : IsClosed m.author m.may_follow t (first ∷ seats_of after) h mark change
    = subst (λ l. IsClosed m.author m.may_follow t l h mark change) c.unpack.ensures.seats (record { legal = e.legal; begins = e.begins; mine = e.mine; others = e.others; marked = e.marked; told = e.change }) in
    let few : c.args.batchers ≤ length hs = (let b = c.requires.batchers in let l = c.requires.callers in omega (arith, b, l, many)) in
    let stays : Stays m = record { no_calls = c.begins.ensures.calls; at_rest = c.begins.ensures.rests; calls = c.stays.ensures.calls; rests = c.stays.ensures.rests; runs = c.stays.ensures.runs; finished = c.stays.ensures.finished; spent = c.stays.ensures.spent } in
    let here = first_seated m t seen told first hs begun in
    subst (λ (z : List g.row.F.Denot × List g.row.F.Denot). TellsOf m t.setup c.args.batchers h mark c.call_some-short.result z.0 z.1) (λ i. (c.pack-first.ensures.callers.1 i, sym c.unpack.ensures.callers i))
    (tells_whole m t seen told first hs begun c.args.batchers after have first here h mark change closed few stays c.call_some-short.result c.call_some-short.ensures.long)

pub returns-clause-goes_on : goal.returns-clause-goes_on
returns-clause-goes_on g c = λ seen told began.
    let m = meanings g.T.Kept g.T.Pooled g.C.Clock g.F.Caller in
    let t = c.args.turn in
    let first = c.pack-first.result in
    let hs = c.pack-first.new.hands.items in
    let begun : HasBegun m t seen told (first ∷ seats_of hs) = subst (HasBegun m t seen told) (sym c.pack-first.ensures.seats.1) began in
    let after = c.call_some-short.new.hands.items in
    let have = c.call_some-short.ensures.worked in
    let book = c.close-book.result in
    let h = g.T.Kept.history book in
    let mark = g.T.Kept.mark book in
    let change = g.T.Kept.change book in
    let e = c.close-book.ensures in
    let closed : IsClosed m.author m.may_follow t (first ∷ seats_of after) h mark change
    = subst (λ l. IsClosed m.author m.may_follow t l h mark change) c.unpack.ensures.seats (record { legal = e.legal; begins = e.begins; mine = e.mine; others = e.others; marked = e.marked; told = e.change }) in
    let here = first_seated m t seen told first hs begun in
    subst (λ (v : SeatView). GoesOnFrom m.author m.may_follow t.setup 0 v.seen h) (first_is m t seen told first hs begun)
    (on_first m t seen told first hs begun c.args.batchers after have first here h mark change closed)

pub returns-clause-later : goal.returns-clause-later
returns-clause-later g c = λ seen told began.
    let m = meanings g.T.Kept g.T.Pooled g.C.Clock g.F.Caller in
    let t = c.args.turn in
    let first = c.pack-first.result in
    let hs = c.pack-first.new.hands.items in
    let begun : HasBegun m t seen told (first ∷ seats_of hs) = subst (HasBegun m t seen told) (sym c.pack-first.ensures.seats.1) began in
    let many : length hs ≡ length c.args.callers.items = sym (callers_length hs) ∙ ap length c.pack-first.ensures.callers.1 in
    let after = c.call_some-short.new.hands.items in
    let have = c.call_some-short.ensures.worked in
    let book = c.close-book.result in
    let h = g.T.Kept.history book in
    let mark = g.T.Kept.mark book in
    let change = g.T.Kept.change book in
    let e = c.close-book.ensures in
    let closed : IsClosed m.author m.may_follow t (first ∷ seats_of after) h mark change
    = subst (λ l. IsClosed m.author m.may_follow t l h mark change) c.unpack.ensures.seats (record { legal = e.legal; begins = e.begins; mine = e.mine; others = e.others; marked = e.marked; told = e.change }) in
    let few : c.args.batchers ≤ length hs = (let b = c.requires.batchers in let l = c.requires.callers in omega (arith, b, l, many)) in
    let here = first_seated m t seen told first hs begun in
    later_whole m t seen told first hs begun c.args.batchers after have first here h mark change closed few

pub returns-clause-change : goal.returns-clause-change
returns-clause-change g c = λ seen told began.
    let m = meanings g.T.Kept g.T.Pooled g.C.Clock g.F.Caller in
    let t = c.args.turn in
    let first = c.pack-first.result in
    let hs = c.pack-first.new.hands.items in
    let begun : HasBegun m t seen told (first ∷ seats_of hs) = subst (HasBegun m t seen told) (sym c.pack-first.ensures.seats.1) began in
    let after = c.call_some-short.new.hands.items in
    let have = c.call_some-short.ensures.worked in
    let book = c.close-book.result in
    let h = g.T.Kept.history book in
    let mark = g.T.Kept.mark book in
    let change = g.T.Kept.change book in
    let e = c.close-book.ensures in
    let closed : IsClosed m.author m.may_follow t (first ∷ seats_of after) h mark change
    = subst (λ l. IsClosed m.author m.may_follow t l h mark change) c.unpack.ensures.seats (record { legal = e.legal; begins = e.begins; mine = e.mine; others = e.others; marked = e.marked; told = e.change }) in
    let here = first_seated m t seen told first hs begun in
    change_is m t seen told first hs begun c.args.batchers after have first here h mark change closed ∙ ap (λ (v : SeatView). v.change) (first_is m t seen told first hs begun)
