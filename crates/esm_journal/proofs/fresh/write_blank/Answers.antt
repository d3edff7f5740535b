use Rattle.std.proofs.Common.{◌∙◌, ◌≡◌, length, List, ℕ, inl, inr, ap, sym}
use Rattle.esm_io.specs.Images.{Torn}
use Rattle.esm_io.specs.Meanings.{disk}
use Rattle.esm_io.proofs.Leaving.{goes_on, weaker}
use Rattle.esm_journal.specs.Fresh.{WasOrHoldsNone}
use Rattle.esm_journal.proofs.FreshFiles.{torn_blank}
use Rattle.esm_journal.proofs.Runs.{reads_on}
use Rattle.esm_journal.proofs.fresh.write_blank.Goals as goal

pub returns-in_err-settle-clause-any_moment : goal.returns-in_err-settle-clause-any_moment
returns-in_err-settle-clause-any_moment g c = λ h.
    let before = g.D.Disk.image c.args.disk.now in
    weaker g.D.Disk.moment g.D.Disk.image_since c.args.disk.now c.settle.new.disk before (WasOrHoldsNone before) (c.settle.ensures.only_read.any_moment h) (λ image was. inl was)

pub returns-in_err-size-clause-any_moment : goal.returns-in_err-size-clause-any_moment
returns-in_err-size-clause-any_moment g c = λ h.
    let before = g.D.Disk.image c.args.disk.now in
    let read = reads_on (disk g.D.Disk) c.args.disk.now c.settle.new.disk c.size_of.new.disk c.settle.ensures.only_read c.size_of.ensures.only_read in
    weaker g.D.Disk.moment g.D.Disk.image_since c.args.disk.now c.size_of.new.disk before (WasOrHoldsNone before) (read.any_moment h) (λ image was. inl was)

pub returns-then-size-ne0-clause-any_moment : goal.returns-then-size-ne0-clause-any_moment
returns-then-size-ne0-clause-any_moment g c = λ h.
    let before = g.D.Disk.image c.args.disk.now in
    let read = reads_on (disk g.D.Disk) c.args.disk.now c.settle.new.disk c.size_of.new.disk c.settle.ensures.only_read c.size_of.ensures.only_read in
    weaker g.D.Disk.moment g.D.Disk.image_since c.args.disk.now c.size_of.new.disk before (WasOrHoldsNone before) (read.any_moment h) (λ image was. inl was)

pub returns-in_err-write_through-clause-any_moment : goal.returns-in_err-write_through-clause-any_moment
returns-in_err-write_through-clause-any_moment g c = λ h.
    let before = g.D.Disk.image c.args.disk.now in
    let read = reads_on (disk g.D.Disk) c.args.disk.now c.settle.new.disk c.size_of.new.disk c.settle.ensures.only_read c.size_of.ensures.only_read in
    let was = g.D.Disk.content c.size_of.new.disk in
    let settled = c.settle.ensures.only_read.honesty ∙ h in
    let empty : length was ≡ 0 = ap (λ (l : List ℕ). length l) (c.size_of.ensures.only_read.same settled) ∙ sym (c.in_ok-size.ensures.size settled) ∙ c.if-size-ne0.false in
    goes_on g.D.Disk.moment g.D.Disk.image_since c.args.disk.now c.size_of.new.disk c.write_through.new.disk before (Torn 0 (length c.blank_bytes.result) was) (WasOrHoldsNone before)
    (read.any_moment h) (c.write_through.ensures.any_moment (read.honesty ∙ h)) (λ image p. inl p) (λ image torn. inr (torn_blank c.args.header c.args.epoch c.blank_bytes.result was image c.requires c.blank_bytes.ensures empty torn))

pub returns-clause-any_moment : goal.returns-clause-any_moment
returns-clause-any_moment g c = λ h.
    let before = g.D.Disk.image c.args.disk.now in
    let read = reads_on (disk g.D.Disk) c.args.disk.now c.settle.new.disk c.size_of.new.disk c.settle.ensures.only_read c.size_of.ensures.only_read in
    let was = g.D.Disk.content c.size_of.new.disk in
    let settled = c.settle.ensures.only_read.honesty ∙ h in
    let empty : length was ≡ 0 = ap (λ (l : List ℕ). length l) (c.size_of.ensures.only_read.same settled) ∙ sym (c.in_ok-size.ensures.size settled) ∙ c.if-size-ne0.false in
    goes_on g.D.Disk.moment g.D.Disk.image_since c.args.disk.now c.size_of.new.disk c.write_through.new.disk before (Torn 0 (length c.blank_bytes.result) was) (WasOrHoldsNone before)
    (read.any_moment h) (c.write_through.ensures.any_moment (read.honesty ∙ h)) (λ image p. inl p) (λ image torn. inr (torn_blank c.args.header c.args.epoch c.blank_bytes.result was image c.requires c.blank_bytes.ensures empty torn))
