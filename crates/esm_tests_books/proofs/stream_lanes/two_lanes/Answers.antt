use Rattle.std.proofs.Common.{◌≢◌, ℕ, arith, sym, subst}
use Rattle.esm_stream_core.specs.Calls.{IsResting}
use Rattle.esm_tests_books.specs.Streams.{Runs}
use Rattle.esm_tests_books.proofs.stream_lanes.two_lanes.Goals as goal

-- the call of batcher 1 goes on while that of batcher 0 begins and ends
pub end-requires-2 : goal.end-requires-2
end-requires-2 g c =
    let job = c.in_ok-first.first.job in
    let apart : 1 ≢ c.in_ok-second.second.batcher = (let mine = c.in_ok-second.ensures.mine in omega (arith, mine)) in
    let not_0 : 1 ≢ 0 = omega arith in
    subst (λ (k : ℕ). Runs c.end.new.book.core k job) (sym c.in_ok-first.ensures.mine)
    (c.in_ok-end.ensures.others.run 1 job apart (c.in_ok-second.ensures.others.run 1 job not_0 c.in_ok-first.ensures.runs))

pub pause-requires : goal.pause-requires
pause-requires g c = subst (λ (k : ℕ). IsResting c.end-2.new.book.core k) c.in_ok-first.ensures.mine c.in_ok-end-2.ensures.rests

-- batcher 0 rests while batcher 1 goes on
pub finish-requires : goal.finish-requires
finish-requires g c =
    let not_first : 0 ≢ c.in_ok-first.first.batcher = (let mine = c.in_ok-first.ensures.mine in omega (arith, mine)) in
    let not_again : 0 ≢ c.in_ok-again.again.batcher = (let mine = c.in_ok-again.ensures.mine in omega (arith, mine)) in
    let not_1 : 0 ≢ 1 = omega arith in
    let rests : IsResting c.end.new.book.core 0 = subst (λ (k : ℕ). IsResting c.end.new.book.core k) c.in_ok-second.ensures.mine c.in_ok-end.ensures.rests in
    c.in_ok-shut.ensures 0
    (c.in_ok-end-3.ensures.others.rest 0 not_again
    (c.in_ok-again.ensures.others.rest 0 not_1
    (c.in_ok-pause.ensures.others.rest 0 not_1
    (c.in_ok-end-2.ensures.others.rest 0 not_first rests))))

pub finish-requires-2 : goal.finish-requires-2
finish-requires-2 g c =
    let not_0 : 1 ≢ 0 = omega arith in
    c.in_ok-finish.ensures.rest 1 not_0
    (c.in_ok-shut.ensures 1 (subst (λ (k : ℕ). IsResting c.end-3.new.book.core k) c.in_ok-again.ensures.mine c.in_ok-end-3.ensures.rests))
