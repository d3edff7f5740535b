use Rattle.std.proofs.Common.{◌∙◌, sym, ap, subst}
use Rattle.esm_io.specs.Images.{overwritten}
use Rattle.esm_journal.specs.Replace.{IsUnsealed}
use Rattle.esm_journal.proofs.Replaced.{listed, listed_bytes}
use Rattle.esm_journal.proofs.replace.write_list.Goals as goal

pub returns-clause-written : goal.returns-clause-written
returns-clause-written g c = λ h payloads is.
    let h1 = c.write_apart.ensures.honesty ∙ h in
    let h2 = c.write_apart-2.ensures.honesty ∙ h1 in
    let old = g.D.Disk.content c.args.disk.now in
    let whole =
    c.sync.ensures.same h2 ∙ c.in_ok-write_apart-2.ensures.written h1 ∙ ap (λ l. overwritten l 17 c.args.list.now) (c.in_ok-write_apart.ensures.written h) in
    subst (IsUnsealed c.args.header c.args.epoch payloads) (sym whole)
    (listed c.args.header c.args.epoch payloads old c.head_bytes.result c.args.list.now c.requires.eight c.head_bytes.ensures is (c.requires.closed h))

pub returns-clause-bytes : goal.returns-clause-bytes
returns-clause-bytes g c = λ h.
    let h1 = c.write_apart.ensures.honesty ∙ h in
    let h2 = c.write_apart-2.ensures.honesty ∙ h1 in
    let closed = c.requires.closed h in
    c.sync.ensures.same h2 ∙ c.in_ok-write_apart-2.ensures.written h1 ∙ ap (λ l. overwritten l 17 c.args.list.now) (c.in_ok-write_apart.ensures.written h)
    ∙ listed_bytes c.args.header c.args.epoch (g.D.Disk.content c.args.disk.now) c.head_bytes.result c.args.list.now c.requires.eight c.head_bytes.ensures closed.long
