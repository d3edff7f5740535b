use Rattle.std.proofs.Common.{if◌then◌else◌, refl, sym, subst, Bool}
use Rattle.esm_io.specs.Meanings.{disk}
use Rattle.esm_journal.specs.File.{header_of, IsFile}
use Rattle.esm_journal.specs.Pair.{IsSpare}
use Rattle.esm_journal.proofs.Pairs.{keeps_pair, sealed_file, used_first, used_second}
use Rattle.esm_journal.proofs.pair.Pair.open.Goals as goal

pub returns-then-swapped-clause-opened : goal.returns-then-swapped-clause-opened
returns-then-swapped-clause-opened g c = λ h1 h2.
    let one = g.D.Disk.content c.args.journal in
    let two = g.D.Disk.content c.args.spare in
    let found = c.in-Ok.taken.found in
    let taken = c.in-Ok.ensures.taken h1 h2 in
    let file = subst (λ (b : Bool). IsFile (header_of 2) found.epoch found.payloads.items (if b then two else one)) c.if-swapped.true taken.file in
    let beside = subst (λ (b : Bool). IsSpare (header_of 2) found.epoch (if b then one else two)) c.if-swapped.true taken.beside in
    used_second (header_of 2) found.epoch found.payloads.items two one (sealed_file (header_of 2) found.epoch found.payloads.items two refl file) beside

pub returns-else-swapped-clause-opened : goal.returns-else-swapped-clause-opened
returns-else-swapped-clause-opened g c = λ h1 h2.
    let one = g.D.Disk.content c.args.journal in
    let two = g.D.Disk.content c.args.spare in
    let found = c.in-Ok.taken.found in
    let taken = c.in-Ok.ensures.taken h1 h2 in
    let file = subst (λ (b : Bool). IsFile (header_of 2) found.epoch found.payloads.items (if b then two else one)) c.if-swapped.false taken.file in
    let beside = subst (λ (b : Bool). IsSpare (header_of 2) found.epoch (if b then one else two)) c.if-swapped.false taken.beside in
    used_first (header_of 2) found.epoch found.payloads.items one two (sealed_file (header_of 2) found.epoch found.payloads.items one refl file) beside

pub returns-else-swapped-clause-kept : goal.returns-else-swapped-clause-kept
returns-else-swapped-clause-kept g c = λ h1 h2.
    let one = g.D.Disk.content c.args.journal in
    let two = g.D.Disk.content c.args.spare in
    let found = c.in-Ok.taken.found in
    let taken = c.in-Ok.ensures.taken h1 h2 in
    let file = subst (λ (b : Bool). IsFile (header_of 2) found.epoch found.payloads.items (if b then two else one)) c.if-swapped.false taken.file in
    let beside = subst (λ (b : Bool). IsSpare (header_of 2) found.epoch (if b then one else two)) c.if-swapped.false taken.beside in
    keeps_pair (disk g.D.Disk) (header_of 2) found.epoch found.payloads.items c.read_pair.new.first c.read_pair.new.second refl
    (subst (IsFile (header_of 2) found.epoch found.payloads.items) (sym (c.read_pair.ensures.first_read.same h1)) file) (c.in-Ok.ensures.durable h1)
    (subst (IsSpare (header_of 2) found.epoch) (sym (c.read_pair.ensures.second_read.same h2)) beside) (c.in-Ok.ensures.spare_durable h2)

pub returns-then-swapped-clause-kept : goal.returns-then-swapped-clause-kept
returns-then-swapped-clause-kept g c = λ h2 h1.
    let one = g.D.Disk.content c.args.journal in
    let two = g.D.Disk.content c.args.spare in
    let found = c.in-Ok.taken.found in
    let taken = c.in-Ok.ensures.taken h2 h1 in
    let file = subst (λ (b : Bool). IsFile (header_of 2) found.epoch found.payloads.items (if b then two else one)) c.if-swapped.true taken.file in
    let beside = subst (λ (b : Bool). IsSpare (header_of 2) found.epoch (if b then one else two)) c.if-swapped.true taken.beside in
    keeps_pair (disk g.D.Disk) (header_of 2) found.epoch found.payloads.items c.read_pair.new.second c.read_pair.new.first refl
    (subst (IsFile (header_of 2) found.epoch found.payloads.items) (sym (c.read_pair.ensures.second_read.same h1)) file) (c.in-Ok.ensures.spare_durable h1)
    (subst (IsSpare (header_of 2) found.epoch) (sym (c.read_pair.ensures.first_read.same h2)) beside) (c.in-Ok.ensures.durable h2)
