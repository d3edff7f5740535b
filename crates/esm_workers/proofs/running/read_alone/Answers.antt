use Rattle.std.proofs.Common.{◌≡◌, ◌<◌, true, length, length-set, get_or, set, sym, ◌∙◌, subst, arith, Option}
use Rattle.esm_model.specs.declared.book.Change.{Change}
use Rattle.esm_turn.specs.Seats.{SeatView}
use Rattle.esm_workers.specs.Hands.{GoesOnFrom}
use Rattle.esm_workers.proofs.Closed.{IsClosed, on, change_of_first, none_of, moments, alone, alone_mine, first_of_set}
use Rattle.esm_workers.proofs.Read.{shut_whole}
use Rattle.esm_workers.proofs.running.read_alone.Goals as goal

pub returns-clause-moments : goal.returns-clause-moments
returns-clause-moments g c =
    let author = g.T.Kept.author in
    let may_follow = g.T.Kept.may_follow in
    let gave = g.C.Clock.gave in
    let t = c.args.turn in
    let first = c.read-short.new.seat in
    let ss = set c.args.seats.items 0 first in
    let h = g.T.Kept.history c.close.result in
    let mark = g.T.Kept.mark c.close.result in
    let change = g.T.Kept.change c.close.result in
    let count : length ss ≡ t.seats = length-set c.args.seats.items 0 first ∙ c.requires.begun.count in
    let seated = alone author may_follow gave t c.args.seats.items c.requires.begun first c.read-short.ensures.seated in
    let e = c.close.ensures in
    let closed : IsClosed author may_follow t ss h mark change = record { legal = e.legal; begins = e.begins; mine = e.mine; others = e.others; marked = e.marked; told = e.change } in
    moments author may_follow gave t ss count seated h mark change closed

pub returns-clause-unused : goal.returns-clause-unused
returns-clause-unused g c = λ n pos.
    let author = g.T.Kept.author in
    let may_follow = g.T.Kept.may_follow in
    let gave = g.C.Clock.gave in
    let t = c.args.turn in
    let first = c.read-short.new.seat in
    let ss = set c.args.seats.items 0 first in
    let h = g.T.Kept.history c.close.result in
    let mark = g.T.Kept.mark c.close.result in
    let change = g.T.Kept.change c.close.result in
    let count : length ss ≡ t.seats = length-set c.args.seats.items 0 first ∙ c.requires.begun.count in
    let seated = alone author may_follow gave t c.args.seats.items c.requires.begun first c.read-short.ensures.seated in
    let e = c.close.ensures in
    let closed : IsClosed author may_follow t ss h mark change = record { legal = e.legal; begins = e.begins; mine = e.mine; others = e.others; marked = e.marked; told = e.change } in
    none_of author may_follow gave t ss count seated h mark change closed n (λ s lt. alone_mine author may_follow gave t c.args.seats.items c.requires.begun first n pos s lt)

pub returns-clause-read : goal.returns-clause-read
returns-clause-read g c =
    let author = g.T.Kept.author in
    let may_follow = g.T.Kept.may_follow in
    let gave = g.C.Clock.gave in
    let t = c.args.turn in
    let first = c.read-short.new.seat in
    let ss = set c.args.seats.items 0 first in
    let h = g.T.Kept.history c.close.result in
    let mark = g.T.Kept.mark c.close.result in
    let change = g.T.Kept.change c.close.result in
    let count : length ss ≡ t.seats = length-set c.args.seats.items 0 first ∙ c.requires.begun.count in
    let seated = alone author may_follow gave t c.args.seats.items c.requires.begun first c.read-short.ensures.seated in
    let e = c.close.ensures in
    let closed : IsClosed author may_follow t ss h mark change = record { legal = e.legal; begins = e.begins; mine = e.mine; others = e.others; marked = e.marked; told = e.change } in
    let some : 0 < length c.args.seats.items = (let a = c.requires.begun.count in let b = c.requires.seats in omega (arith, a, b)) in
    let inside : 0 < length ss = (let a = length-set c.args.seats.items 0 first in omega (arith, a, some)) in
    let is : get_or ss 0 first ≡ first = first_of_set c.args.seats.items first first some in
    let here : GoesOnFrom author may_follow t.setup 0 first.seen h = subst (λ (v : SeatView). GoesOnFrom author may_follow t.setup 0 v.seen h) is (on author may_follow gave t ss count seated h mark change closed 0 first inside) in
    let marked : first.mark ≡ true → mark ≡ true = subst (λ (v : SeatView). v.mark ≡ true → mark ≡ true) is (e.marked 0 first inside) in
    let told : change ≡ first.change = subst (λ (v : SeatView). change ≡ v.change) is (change_of_first author may_follow gave t ss count seated h mark change closed first inside) in
    record {
      seen = first.seen;
      rest = here.rest;
      whole = here.whole;
      others = here.others;
      seen_mark = first.mark;
      marked = marked;
      was_short = c.read-short.result;
      long = λ long. long;
      did = subst (λ (c' : Option Change). g.W.Reading.read t.setup c.args.reader.now c.read-short.new.reader first.seen first.mark c' c.read-short.result) (sym told) c.read-short.ensures.read;
    }

pub returns-clause-shut : goal.returns-clause-shut
returns-clause-shut g c =
    let author = g.T.Kept.author in
    let may_follow = g.T.Kept.may_follow in
    let gave = g.C.Clock.gave in
    let t = c.args.turn in
    let first = c.read-short.new.seat in
    let ss = set c.args.seats.items 0 first in
    let h = g.T.Kept.history c.close.result in
    let mark = g.T.Kept.mark c.close.result in
    let change = g.T.Kept.change c.close.result in
    let count : length ss ≡ t.seats = length-set c.args.seats.items 0 first ∙ c.requires.begun.count in
    let seated = alone author may_follow gave t c.args.seats.items c.requires.begun first c.read-short.ensures.seated in
    let e = c.close.ensures in
    let closed : IsClosed author may_follow t ss h mark change = record { legal = e.legal; begins = e.begins; mine = e.mine; others = e.others; marked = e.marked; told = e.change } in
    let some : 0 < length c.args.seats.items = (let a = c.requires.begun.count in let b = c.requires.seats in omega (arith, a, b)) in
    let inside : 0 < length ss = (let a = length-set c.args.seats.items 0 first in omega (arith, a, some)) in
    let is : get_or ss 0 first ≡ first = first_of_set c.args.seats.items first first some in
    let here : GoesOnFrom author may_follow t.setup 0 first.seen h = subst (λ (v : SeatView). GoesOnFrom author may_follow t.setup 0 v.seen h) is (on author may_follow gave t ss count seated h mark change closed 0 first inside) in
    let marked : first.mark ≡ true → mark ≡ true = subst (λ (v : SeatView). v.mark ≡ true → mark ≡ true) is (e.marked 0 first inside) in
    shut_whole author may_follow t.setup 0 first.seen h first.mark mark here marked c.read-short.ensures.shut
