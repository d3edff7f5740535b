use Rattle.std.proofs.Common.{◌∙◌, ◌∷◌, [], ap, slice_index, sym, subst, inl}
use Rattle.esm_io.specs.Images.{overwritten}
use Rattle.esm_journal.specs.Pair.{IsSpare}
use Rattle.esm_journal.specs.File.{IsFile}
use Rattle.esm_journal.specs.Replace.{IsClosed, IsSpareOrNew}
use Rattle.esm_io.proofs.Leaving.{weaker, goes_on}
use Rattle.esm_journal.proofs.Replaced.{closed_spare, file_of_sealed, spare_or_new, whole_list}
use Rattle.esm_journal.proofs.replace.replace_file.Goals as goal

pub returns-in_err-close_seal-clause-any_moment : goal.returns-in_err-close_seal-clause-any_moment
returns-in_err-close_seal-clause-any_moment g c = λ h payloads short is kept lower spare.
    weaker g.D.Disk.moment g.D.Disk.image_since c.args.disk.now c.close_seal.new.disk (IsSpare kept lower) (IsSpareOrNew kept lower c.args.header c.args.epoch payloads)
    (c.close_seal.ensures.any_moment h kept lower spare) (λ image p. inl p)

pub returns-in_err-write_list-clause-any_moment : goal.returns-in_err-write_list-clause-any_moment
returns-in_err-write_list-clause-any_moment g c = λ h payloads short is kept lower spare.
    let h1 = c.close_seal.ensures.honesty ∙ h in
    let P = IsSpareOrNew kept lower c.args.header c.args.epoch payloads in
    goes_on g.D.Disk.moment g.D.Disk.image_since c.args.disk.now c.close_seal.new.disk c.write_list.new.disk (IsSpare kept lower) IsClosed P
    (c.close_seal.ensures.any_moment h kept lower spare) (c.write_list.ensures.any_moment h1) (λ image p. inl p) (λ image closed. inl (closed_spare kept lower image closed))

pub returns-in_err-write_through-clause-any_moment : goal.returns-in_err-write_through-clause-any_moment
returns-in_err-write_through-clause-any_moment g c = λ h payloads short is kept lower spare.
    let h1 = c.close_seal.ensures.honesty ∙ h in
    let h2 = c.write_list.ensures.honesty ∙ h1 in
    let P = IsSpareOrNew kept lower c.args.header c.args.epoch payloads in
    goes_on g.D.Disk.moment g.D.Disk.image_since c.args.disk.now c.write_list.new.disk c.write_through.new.disk P _ P
    (goes_on g.D.Disk.moment g.D.Disk.image_since c.args.disk.now c.close_seal.new.disk c.write_list.new.disk (IsSpare kept lower) IsClosed P
    (c.close_seal.ensures.any_moment h kept lower spare) (c.write_list.ensures.any_moment h1) (λ image p. inl p) (λ image closed. inl (closed_spare kept lower image closed)))
    (c.write_through.ensures.any_moment h2) (λ image p. p)
    (λ image torn. spare_or_new c.args.header c.args.epoch payloads c.requires.eight c.ranges.epoch.fits short kept lower (g.D.Disk.content c.write_list.new.disk) image
    (c.in_ok-write_list.ensures.closed h1).long (c.in_ok-write_list.ensures.written h1 payloads is) torn)

pub returns-clause-file : goal.returns-clause-file
returns-clause-file g c = λ h payloads short is.
    let h1 = c.close_seal.ensures.honesty ∙ h in
    let h2 = c.write_list.ensures.honesty ∙ h1 in
    subst (IsFile c.args.header c.args.epoch payloads) (sym (c.in_ok-write_through.ensures.written h2))
    (file_of_sealed c.args.header c.args.epoch payloads c.requires.eight c.ranges.epoch.fits short (g.D.Disk.content c.write_list.new.disk) (c.in_ok-write_list.ensures.written h1 payloads is))

pub returns-clause-any_moment : goal.returns-clause-any_moment
returns-clause-any_moment g c = λ h payloads short is kept lower spare.
    let h1 = c.close_seal.ensures.honesty ∙ h in
    let h2 = c.write_list.ensures.honesty ∙ h1 in
    let P = IsSpareOrNew kept lower c.args.header c.args.epoch payloads in
    goes_on g.D.Disk.moment g.D.Disk.image_since c.args.disk.now c.write_list.new.disk c.write_through.new.disk P _ P
    (goes_on g.D.Disk.moment g.D.Disk.image_since c.args.disk.now c.close_seal.new.disk c.write_list.new.disk (IsSpare kept lower) IsClosed P
    (c.close_seal.ensures.any_moment h kept lower spare) (c.write_list.ensures.any_moment h1) (λ image p. inl p) (λ image closed. inl (closed_spare kept lower image closed)))
    (c.write_through.ensures.any_moment h2) (λ image p. p)
    (λ image torn. spare_or_new c.args.header c.args.epoch payloads c.requires.eight c.ranges.epoch.fits short kept lower (g.D.Disk.content c.write_list.new.disk) image
    (c.in_ok-write_list.ensures.closed h1).long (c.in_ok-write_list.ensures.written h1 payloads is) torn)

pub returns-clause-bytes : goal.returns-clause-bytes
returns-clause-bytes g c = λ h payloads is.
    let h1 = c.close_seal.ensures.honesty ∙ h in
    let h2 = c.write_list.ensures.honesty ∙ h1 in
    let closed = g.D.Disk.content c.close_seal.new.disk in
    c.in_ok-write_through.ensures.written h2 ∙ ap (λ l. overwritten l 16 (1 ∷ [])) (c.in_ok-write_list.ensures.bytes h1)
    ∙ whole_list c.args.header c.args.epoch payloads (g.D.Disk.content c.args.disk.now) closed c.args.list.now (slice_index closed 16) c.requires.eight is (c.in_ok-close_seal.ensures.behind h)
