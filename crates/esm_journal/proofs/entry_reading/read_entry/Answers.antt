use Rattle.std.proofs.Common.{◌+◌, take, drop, arith, sym, ap, ◌∙◌}
use Rattle.esm_journal.specs.File.{number_in, Damaged}
use Rattle.esm_journal.proofs.Entries.{too_long, cut_short, whole_entry}
use Rattle.esm_journal.proofs.entry_reading.read_entry.Goals as goal

pub returns-then-count-gt-MAX_PAYLOAD-clause-refused :
    goal.returns-then-count-gt-MAX_PAYLOAD-clause-refused
returns-then-count-gt-MAX_PAYLOAD-clause-refused g c = λ h epoch.
    let content = g.D.Disk.content c.args.disk.now in
    let read = c.byte_at.ensures.only_read in
    let size = c.requires.size h in
    let same = read.same h in
    let gate = sym (c.in_ok-byte_at.ensures.byte h) ∙ c.if-branch-ne1.false in
    let number = c.in_ok-count.ensures.number (read.honesty ∙ h) ∙ ap (λ l. number_in (drop (c.args.place + 1) l)) same in
    too_long content c.args.place _ (omega arith) gate number (omega arith) epoch

pub returns-then-left-from-clause-refused : goal.returns-then-left-from-clause-refused
returns-then-left-from-clause-refused g c = λ h epoch.
    let content = g.D.Disk.content c.args.disk.now in
    let read = c.byte_at.ensures.only_read in
    let size = c.requires.size h in
    let same = read.same h in
    let gate = sym (c.in_ok-byte_at.ensures.byte h) ∙ c.if-branch-ne1.false in
    let number = c.in_ok-count.ensures.number (read.honesty ∙ h) ∙ ap (λ l. number_in (drop (c.args.place + 1) l)) same in
    cut_short content c.args.place _ (omega arith) gate number (omega arith) (omega arith) epoch ∙ ap Damaged (sym size)

pub returns-clause-whole : goal.returns-clause-whole
returns-clause-whole g c = λ h.
    let content = g.D.Disk.content c.args.disk.now in
    let read = c.byte_at.ensures.only_read in
    let size = c.requires.size h in
    let same = read.same h in
    let gate = sym (c.in_ok-byte_at.ensures.byte h) ∙ c.if-branch-ne1.false in
    let written = c.in_ok-count.ensures.written (read.honesty ∙ h) ∙ ap (λ l. take 4 (drop (c.args.place + 1) l)) same in
    let same_twice = c.number_at.ensures.only_read.same (read.honesty ∙ h) ∙ same in
    let taken = c.in_ok-payload.ensures.bytes (c.number_at.ensures.only_read.honesty ∙ read.honesty ∙ h) ∙ ap (λ l. take c.in_ok-count.count (drop (c.args.place + 5) l)) same_twice in
    whole_entry content c.in_ok-payload.payload c.args.place c.in_ok-count.count (omega arith) gate written taken c.in_ok-payload.ensures.size
