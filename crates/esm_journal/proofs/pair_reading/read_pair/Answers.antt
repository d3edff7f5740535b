use Rattle.std.proofs.Common.{inl, inr, arith, sym, ap, subst, ◌∙◌}
use Rattle.std.proofs.lemmas.Result.{err_from_is_err_and}
use Rattle.esm_journal.specs.File.{IsFile, opened_rest}
use Rattle.esm_journal.specs.Head.{IsHead}
use Rattle.esm_journal.specs.Pair.{beside}
use Rattle.esm_journal.proofs.Pairs.{first_taken, second_taken, taken_header, taken_beside}
use Rattle.esm_journal.proofs.Runs.{refused_more}
use Rattle.esm_journal.proofs.pair_reading.read_pair.Goals as goal

pub returns-in_err-found-clause-refused : goal.returns-in_err-found-clause-refused
returns-in_err-found-clause-refused g c =
    let p = err_from_is_err_and c.from_residual-in_err-found.result c.from_residual-in_err-found.ensures.1 in
    let settled = c.settle.ensures.only_read.never_falls in
    let read = c.read_head.ensures.only_read.never_falls in
    rw (p.1, p.2) (refused_more _ _ _ _ _ _ c.in_err-found.field-0.0 c.in_err-found.ensures.refused (λ first none. absurd none)
    (λ place bad h1 h2.
    let one_bytes = g.D.Disk.content c.args.first.now in
    let two_bytes = g.D.Disk.content c.args.second.now in
    let one = subst (λ l. IsHead l c.in_ok-one.one) (c.settle.ensures.only_read.same h1) (c.in_ok-one.ensures.head (c.settle.ensures.only_read.honesty ∙ h1)) in
    let two = subst (λ l. IsHead l c.in_ok-two.two) (c.settle-2.ensures.only_read.same h2) (c.in_ok-two.ensures.head (c.settle-2.ensures.only_read.honesty ∙ h2)) in
    let taken = sym (c.takes.ensures.taken one_bytes two_bytes one two) ∙ c.if-takes.true in
    let same = c.read_head.ensures.only_read.same (c.settle.ensures.only_read.honesty ∙ h1) ∙ c.settle.ensures.only_read.same h1 in
    let honest = c.read_head.ensures.only_read.honesty ∙ c.settle.ensures.only_read.honesty ∙ h1 in
    first_taken c.args.header one_bytes two_bytes taken ∙ ap (λ n. beside (opened_rest one_bytes) n) (sym two.size) ∙ ap (λ l. beside (opened_rest l) c.in_ok-two.two.size) (sym same) ∙ bad honest)
    (λ rose. inl (λ top. omega (arith, rose top))))

pub returns-then-takes-clause-taken : goal.returns-then-takes-clause-taken
returns-then-takes-clause-taken g c = λ h1 h2.
    let one_bytes = g.D.Disk.content c.args.first.now in
    let two_bytes = g.D.Disk.content c.args.second.now in
    let one = subst (λ l. IsHead l c.in_ok-one.one) (c.settle.ensures.only_read.same h1) (c.in_ok-one.ensures.head (c.settle.ensures.only_read.honesty ∙ h1)) in
    let two = subst (λ l. IsHead l c.in_ok-two.two) (c.settle-2.ensures.only_read.same h2) (c.in_ok-two.ensures.head (c.settle-2.ensures.only_read.honesty ∙ h2)) in
    let taken = sym (c.takes.ensures.taken one_bytes two_bytes one two) ∙ c.if-takes.true in
    let same = c.read_head.ensures.only_read.same (c.settle.ensures.only_read.honesty ∙ h1) ∙ c.settle.ensures.only_read.same h1 in
    let honest = c.read_head.ensures.only_read.honesty ∙ c.settle.ensures.only_read.honesty ∙ h1 in
    let found = c.in_ok-found.found in
    let first = one.first ∙ taken_header c.args.header one_bytes two_bytes taken in
    let file = subst (λ l. IsFile l found.epoch found.payloads.items one_bytes) first (subst (IsFile c.in_ok-one.one.first found.epoch found.payloads.items) same (c.in_ok-found.ensures.found honest)) in
    let long = c.in_ok-found.ensures.long in
    let size = two.size in
    record {
      file = file;
      beside = taken_beside c.args.header one_bytes two_bytes found.epoch taken (sym (c.in_ok-found.ensures.epoch ∙ one.epoch)) (omega (arith, long, size));
    }

pub returns-in_err-found-2-clause-refused : goal.returns-in_err-found-2-clause-refused
returns-in_err-found-2-clause-refused g c =
    let p = err_from_is_err_and c.from_residual-in_err-found-2.result c.from_residual-in_err-found-2.ensures.1 in
    let settled = c.settle-2.ensures.only_read.never_falls in
    let read = c.read_head-2.ensures.only_read.never_falls in
    rw (p.1, p.2) (refused_more _ _ _ _ _ _ c.in_err-found-2.field-0.0 c.in_err-found-2.ensures.refused (λ first none. absurd none)
    (λ place bad h1 h2.
    let one_bytes = g.D.Disk.content c.args.first.now in
    let two_bytes = g.D.Disk.content c.args.second.now in
    let one = subst (λ l. IsHead l c.in_ok-one.one) (c.settle.ensures.only_read.same h1) (c.in_ok-one.ensures.head (c.settle.ensures.only_read.honesty ∙ h1)) in
    let two = subst (λ l. IsHead l c.in_ok-two.two) (c.settle-2.ensures.only_read.same h2) (c.in_ok-two.ensures.head (c.settle-2.ensures.only_read.honesty ∙ h2)) in
    let not_first = sym (c.takes.ensures.taken one_bytes two_bytes one two) ∙ c.if-takes.false in
    let taken = sym (c.takes-2.ensures.taken two_bytes one_bytes two one) ∙ c.if-takes-2.true in
    let same = c.read_head-2.ensures.only_read.same (c.settle-2.ensures.only_read.honesty ∙ h2) ∙ c.settle-2.ensures.only_read.same h2 in
    let honest = c.read_head-2.ensures.only_read.honesty ∙ c.settle-2.ensures.only_read.honesty ∙ h2 in
    second_taken c.args.header one_bytes two_bytes not_first taken ∙ ap (λ n. beside (opened_rest two_bytes) n) (sym one.size) ∙ ap (λ l. beside (opened_rest l) c.in_ok-one.one.size) (sym same) ∙ bad honest)
    (λ rose. inr (λ top. omega (arith, rose top))))

pub returns-then-takes-2-clause-taken : goal.returns-then-takes-2-clause-taken
returns-then-takes-2-clause-taken g c = λ h1 h2.
    let one_bytes = g.D.Disk.content c.args.first.now in
    let two_bytes = g.D.Disk.content c.args.second.now in
    let one = subst (λ l. IsHead l c.in_ok-one.one) (c.settle.ensures.only_read.same h1) (c.in_ok-one.ensures.head (c.settle.ensures.only_read.honesty ∙ h1)) in
    let two = subst (λ l. IsHead l c.in_ok-two.two) (c.settle-2.ensures.only_read.same h2) (c.in_ok-two.ensures.head (c.settle-2.ensures.only_read.honesty ∙ h2)) in
    let not_first = sym (c.takes.ensures.taken one_bytes two_bytes one two) ∙ c.if-takes.false in
    let taken = sym (c.takes-2.ensures.taken two_bytes one_bytes two one) ∙ c.if-takes-2.true in
    let same = c.read_head-2.ensures.only_read.same (c.settle-2.ensures.only_read.honesty ∙ h2) ∙ c.settle-2.ensures.only_read.same h2 in
    let honest = c.read_head-2.ensures.only_read.honesty ∙ c.settle-2.ensures.only_read.honesty ∙ h2 in
    let found = c.in_ok-found-2.found in
    let first = two.first ∙ taken_header c.args.header two_bytes one_bytes taken in
    let file = subst (λ l. IsFile l found.epoch found.payloads.items two_bytes) first (subst (IsFile c.in_ok-two.two.first found.epoch found.payloads.items) same (c.in_ok-found-2.ensures.found honest)) in
    let long = c.in_ok-found-2.ensures.long in
    let size = one.size in
    record {
      file = file;
      beside = taken_beside c.args.header two_bytes one_bytes found.epoch taken (sym (c.in_ok-found-2.ensures.epoch ∙ two.epoch)) (omega (arith, long, size));
    }

pub returns-then-takes-clause-first_file : goal.returns-then-takes-clause-first_file
returns-then-takes-clause-first_file g c = λ h1 used.
    let found = c.in_ok-found.found in
    let same = c.read_head.ensures.only_read.same (c.settle.ensures.only_read.honesty ∙ h1) ∙ c.settle.ensures.only_read.same h1 in
    let honest = c.read_head.ensures.only_read.honesty ∙ c.settle.ensures.only_read.honesty ∙ h1 in
    subst (λ l. IsFile l found.epoch found.payloads.items (g.D.Disk.content c.args.first.now)) (c.takes.ensures.headed c.if-takes.true)
    (subst (IsFile c.in_ok-one.one.first found.epoch found.payloads.items) same (c.in_ok-found.ensures.found honest))

pub returns-then-takes-2-clause-second_file : goal.returns-then-takes-2-clause-second_file
returns-then-takes-2-clause-second_file g c = λ h2 used.
    let found = c.in_ok-found-2.found in
    let same = c.read_head-2.ensures.only_read.same (c.settle-2.ensures.only_read.honesty ∙ h2) ∙ c.settle-2.ensures.only_read.same h2 in
    let honest = c.read_head-2.ensures.only_read.honesty ∙ c.settle-2.ensures.only_read.honesty ∙ h2 in
    subst (λ l. IsFile l found.epoch found.payloads.items (g.D.Disk.content c.args.second.now)) (c.takes-2.ensures.headed c.if-takes-2.true)
    (subst (IsFile c.in_ok-two.two.first found.epoch found.payloads.items) same (c.in_ok-found-2.ensures.found honest))
