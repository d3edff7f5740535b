use Rattle.std.proofs.Common.{◌≡◌, ◌≤◌, List, [], ◌∷◌, length, refl, ap, sym, ◌∙◌, subst, arith, Option, None}
use Rattle.esm_model.specs.declared.book.Change.{Change}
use Rattle.esm_turn.specs.Seats.{SeatView, AreAllSeats}
use Rattle.esm_workers.specs.Hands.{meanings, HasBegun, TellsOf}
use Rattle.esm_workers.specs.Packs.{seats_of}
use Rattle.esm_workers.proofs.Packed.{callers_length}
use Rattle.esm_workers.proofs.Closed.{IsClosed, all_back}
use Rattle.esm_workers.proofs.Whole.{Stays, ready, first_is, first_seated, seats, seats_count, on_first, change_is, tells_whole}
use Rattle.esm_workers.proofs.running.read_along.Goals as goal

pub read_and_call-short-requires-clause-few : goal.read_and_call-short-requires-clause-few
read_and_call-short-requires-clause-few g c κs within =
    let hs = c.pack-seat.new.hands.items in
    let many : length hs ≡ length c.args.callers.items = sym (callers_length hs) ∙ ap length c.pack-seat.ensures.callers.1 in
    let b = c.requires.batchers in
    let l = c.requires.callers in
    (omega (arith, b, l, many), omega (arith, l, many))

pub read_and_call-short-requires-clause-seated : goal.read_and_call-short-requires-clause-seated
read_and_call-short-requires-clause-seated g c κs within =
    let m = meanings g.T.Kept g.T.Pooled g.C.Clock g.F.Caller in
    let t = c.args.turn in
    let seat = c.pack-seat.result in
    let hs = c.pack-seat.new.hands.items in
    let begun : HasBegun m t [] None (seat ∷ seats_of hs) = subst (HasBegun m t [] None) (sym c.pack-seat.ensures.seats.1) (record { begun = c.requires.begun; legal = tt; given = tt; unused = λ n lt. refl }) in
    first_seated m t [] None seat hs begun

pub read_and_call-short-requires-clause-unused : goal.read_and_call-short-requires-clause-unused
read_and_call-short-requires-clause-unused g c κs within =
    let m = meanings g.T.Kept g.T.Pooled g.C.Clock g.F.Caller in
    let t = c.args.turn in
    let seat = c.pack-seat.result in
    let hs = c.pack-seat.new.hands.items in
    let begun : HasBegun m t [] None (seat ∷ seats_of hs) = subst (HasBegun m t [] None) (sym c.pack-seat.ensures.seats.1) (record { begun = c.requires.begun; legal = tt; given = tt; unused = λ n lt. refl }) in
    ap (λ (v : SeatView). v.mine) (first_is m t [] None seat hs begun)

pub read_and_call-short-requires-clause-told : goal.read_and_call-short-requires-clause-told
read_and_call-short-requires-clause-told g c κs within =
    let m = meanings g.T.Kept g.T.Pooled g.C.Clock g.F.Caller in
    let t = c.args.turn in
    let seat = c.pack-seat.result in
    let hs = c.pack-seat.new.hands.items in
    let begun : HasBegun m t [] None (seat ∷ seats_of hs) = subst (HasBegun m t [] None) (sym c.pack-seat.ensures.seats.1) (record { begun = c.requires.begun; legal = tt; given = tt; unused = λ n lt. refl }) in
    ap (λ (v : SeatView). v.change) (first_is m t [] None seat hs begun)

pub read_and_call-short-requires-clause-ready : goal.read_and_call-short-requires-clause-ready
read_and_call-short-requires-clause-ready g c κs within =
    let m = meanings g.T.Kept g.T.Pooled g.C.Clock g.F.Caller in
    let t = c.args.turn in
    let seat = c.pack-seat.result in
    let hs = c.pack-seat.new.hands.items in
    let begun : HasBegun m t [] None (seat ∷ seats_of hs) = subst (HasBegun m t [] None) (sym c.pack-seat.ensures.seats.1) (record { begun = c.requires.begun; legal = tt; given = tt; unused = λ n lt. refl }) in
    ready m t [] None seat hs begun

pub unpack-requires-clause-room : goal.unpack-requires-clause-room
unpack-requires-clause-room g c =
    let hs = c.pack-seat.new.hands.items in
    let many : length hs ≡ length c.args.callers.items = sym (callers_length hs) ∙ ap length c.pack-seat.ensures.callers.1 in
    let same = c.read_and_call-short.ensures.worked.as_many in
    let one = c.pack-seat.ensures.room.0 in
    let two = c.pack-seat.ensures.room.1 in
    let begun = c.requires.begun.count in
    let places = c.requires.seats in
    let l = c.requires.callers in
    let a = c.args.seats.ok in
    let b = c.args.callers.ok in
    (omega (arith, many, same, one, begun, places, l, a.0, a.1), omega (arith, many, same, two, l, b.0, b.1))

pub close-book-requires : goal.close-book-requires
close-book-requires g c =
    let m = meanings g.T.Kept g.T.Pooled g.C.Clock g.F.Caller in
    let t = c.args.turn in
    let seat = c.pack-seat.result in
    let hs = c.pack-seat.new.hands.items in
    let begun : HasBegun m t [] None (seat ∷ seats_of hs) = subst (HasBegun m t [] None) (sym c.pack-seat.ensures.seats.1) (record { begun = c.requires.begun; legal = tt; given = tt; unused = λ n lt. refl }) in
    let after = c.read_and_call-short.new.hands.items in
    let have = c.read_and_call-short.ensures.worked in
    let first = c.read_and_call-short.new.reader.seat in
    let here = c.read_and_call-short.ensures.seated in
    record {
      all = subst (AreAllSeats t) (sym c.unpack.ensures.seats)
          (all_back m.author m.may_follow m.outside.gave t (first ∷ seats_of after) (seats_count m t [] None seat hs begun c.args.batchers after have first here) (seats m t [] None seat hs begun c.args.batchers after have first here));
    }

pub returns-clause-read : goal.returns-clause-read
returns-clause-read g c =
    let m = meanings g.T.Kept g.T.Pooled g.C.Clock g.F.Caller in
    let t = c.args.turn in
    let seat = c.pack-seat.result in
    let hs = c.pack-seat.new.hands.items in
    let begun : HasBegun m t [] None (seat ∷ seats_of hs) = subst (HasBegun m t [] None) (sym c.pack-seat.ensures.seats.1) (record { begun = c.requires.begun; legal = tt; given = tt; unused = λ n lt. refl }) in
    let after = c.read_and_call-short.new.hands.items in
    let have = c.read_and_call-short.ensures.worked in
    let first = c.read_and_call-short.new.reader.seat in
    let here = c.read_and_call-short.ensures.seated in
    let h = g.T.Kept.history c.close-book.result in
    let mark = g.T.Kept.mark c.close-book.result in
    let change = g.T.Kept.change c.close-book.result in
    let e = c.close-book.ensures in
    let closed : IsClosed m.author m.may_follow t (first ∷ seats_of after) h mark change
    = subst (λ l. IsClosed m.author m.may_follow t l h mark change) c.unpack.ensures.seats (record { legal = e.legal; begins = e.begins; mine = e.mine; others = e.others; marked = e.marked; told = e.change }) in
    let on = on_first m t [] None seat hs begun c.args.batchers after have first here h mark change closed in
    let did = c.read_and_call-short.ensures.read in
    let told : change ≡ first.change = change_is m t [] None seat hs begun c.args.batchers after have first here h mark change closed in
    record {
      seen = first.seen;
      rest = on.rest;
      whole = on.whole;
      others = on.others;
      seen_mark = first.mark;
      marked = closed.marked 0 first (omega arith);
      was_short = did.0;
      long = did.1;
      did = subst (λ (c' : Option Change). g.W.Reading.read t.setup c.args.reader c.read_and_call-short.new.reader.reader first.seen first.mark c' did.0) (sym told) did.2;
    }

pub returns-clause-tells : goal.returns-clause-tells
returns-clause-tells g c =
    let m = meanings g.T.Kept g.T.Pooled g.C.Clock g.F.Caller in
    let t = c.args.turn in
    let seat = c.pack-seat.result in
    let hs = c.pack-seat.new.hands.items in
    let begun : HasBegun m t [] None (seat ∷ seats_of hs) = subst (HasBegun m t [] None) (sym c.pack-seat.ensures.seats.1) (record { begun = c.requires.begun; legal = tt; given = tt; unused = λ n lt. refl }) in
    let many : length hs ≡ length c.args.callers.items = sym (callers_length hs) ∙ ap length c.pack-seat.ensures.callers.1 in
    let after = c.read_and_call-short.new.hands.items in
    let have = c.read_and_call-short.ensures.worked in
    let first = c.read_and_call-short.new.reader.seat in
    let here = c.read_and_call-short.ensures.seated in
    let h = g.T.Kept.history c.close-book.result in
    let mark = g.T.Kept.mark c.close-book.result in
    let change = g.T.Kept.change c.close-book.result in
    let e = c.close-book.ensures in
    let closed : IsClosed m.author m.may_follow t (first ∷ seats_of after) h mark change
    = subst (λ l. IsClosed m.author m.may_follow t l h mark change) c.unpack.ensures.seats (record { legal = e.legal; begins = e.begins; mine = e.mine; others = e.others; marked = e.marked; told = e.change }) in
    let few : c.args.batchers ≤ length hs = (let b = c.requires.batchers in let l = c.requires.callers in omega (arith, b, l, many)) in
    let stays : Stays m = record { no_calls = c.begins.ensures.calls; at_rest = c.begins.ensures.rests; calls = c.stays.ensures.calls; rests = c.stays.ensures.rests; runs = c.stays.ensures.runs; finished = c.stays.ensures.finished; spent = c.stays.ensures.spent } in
    subst (λ (z : List g.row.F.Denot × List g.row.F.Denot). TellsOf m t.setup c.args.batchers h mark c.read_and_call-short.result z.0 z.1) (λ i. (c.pack-seat.ensures.callers.1 i, sym c.unpack.ensures.callers i))
    (tells_whole m t [] None seat hs begun c.args.batchers after have first here h mark change closed few stays c.read_and_call-short.result c.read_and_call-short.ensures.long)
