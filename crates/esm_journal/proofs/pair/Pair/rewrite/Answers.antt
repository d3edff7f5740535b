use Rattle.std.proofs.Common.{true, ◌+◌, ◌∙◌, refl, rules, sym, subst}
use Rattle.esm_io.specs.Meanings.{disk}
use Rattle.esm_journal.specs.File.{header_of, IsFile}
use Rattle.esm_journal.proofs.Adds.{on_ok_told}
use Rattle.esm_journal.proofs.Lists.{all_short, none_too_long}
use Rattle.esm_journal.proofs.Rewrites.{resting, images_before, images_after, is_pair_over, pair_keeps}
use Rattle.esm_journal.proofs.Stops.{is_log_stopped, is_pair_stopped}
use Rattle.esm_journal.proofs.pair.Pair.rewrite.Goals as goal

pub returns-in-Some-clause-any_moment : goal.returns-in-Some-clause-any_moment
returns-in-Some-clause-any_moment g c =
    rw (← c.self.view_is) (λ h1 h2 up. resting (disk g.D.Disk) g.met.D.Disk.only_now
    c.self.inside.log c.self.inside.spare c.self.inside.spare_sealed c.self.invariant.0 c.self.invariant.1 h1 h2 up c.args.payloads.now)

pub returns-in-Some-clause-pair_images : goal.returns-in-Some-clause-pair_images
returns-in-Some-clause-pair_images g c =
    rw (← c.self.view_is) (λ h1 h2 up. images_before (disk g.D.Disk) g.met.D.Disk.only_now
    c.self.inside.log c.self.inside.spare c.self.inside.spare_sealed c.self.invariant.0 c.self.invariant.1 h1 h2 up c.args.payloads.now c.self.inside.swapped c.self.inside.spare
    (resting (disk g.D.Disk) g.met.D.Disk.only_now
    c.self.inside.log c.self.inside.spare c.self.inside.spare_sealed c.self.invariant.0 c.self.invariant.1 h1 h2 up c.args.payloads.now))

pub prepare-requires-clause-short : goal.prepare-requires-clause-short
prepare-requires-clause-short g c = all_short c.args.payloads.now (sym c.first_too_long.ensures ∙ c.in_default.is)

pub returns-in_default-prepare-clause-any_moment : goal.returns-in_default-prepare-clause-any_moment
returns-in_default-prepare-clause-any_moment g c =
    rw (← c.self.view_is) (λ h1 h2 up. resting (disk g.D.Disk) g.met.D.Disk.only_now
    c.self.inside.log c.self.inside.spare c.self.inside.spare_sealed c.self.invariant.0 c.self.invariant.1 h1 h2 up c.args.payloads.now)

pub returns-in_default-prepare-clause-pair_images : goal.returns-in_default-prepare-clause-pair_images
returns-in_default-prepare-clause-pair_images g c =
    rw (← c.self.view_is) (λ h1 h2 up. images_before (disk g.D.Disk) g.met.D.Disk.only_now
    c.self.inside.log c.self.inside.spare c.self.inside.spare_sealed c.self.invariant.0 c.self.invariant.1 h1 h2 up c.args.payloads.now c.self.inside.swapped c.self.inside.spare
    (resting (disk g.D.Disk) g.met.D.Disk.only_now
    c.self.inside.log c.self.inside.spare c.self.inside.spare_sealed c.self.invariant.0 c.self.invariant.1 h1 h2 up c.args.payloads.now))

pub returns-then-is_err-clause-any_moment : goal.returns-then-is_err-clause-any_moment
returns-then-is_err-clause-any_moment g c =
    rw (← c.self.view_is) (λ h1 h2 up. c.replace_file.ensures.any_moment h2 c.args.payloads.now (all_short c.args.payloads.now (sym c.first_too_long.ensures ∙ c.in_default.is))
    (c.deref.ensures.value ∙ c.in-Ok.ensures.bytes) (header_of 2) c.self.inside.log.epoch (c.self.invariant.1.beside h1 h2 up))

pub returns-then-is_err-clause-pair_images : goal.returns-then-is_err-clause-pair_images
returns-then-is_err-clause-pair_images g c =
    rw (← c.self.view_is) (λ h1 h2 up. images_before (disk g.D.Disk) g.met.D.Disk.only_now
    c.self.inside.log c.self.inside.spare c.self.inside.spare_sealed c.self.invariant.0 c.self.invariant.1 h1 h2 up c.args.payloads.now c.self.inside.swapped c.replace_file.new.disk
    (c.replace_file.ensures.any_moment h2 c.args.payloads.now (all_short c.args.payloads.now (sym c.first_too_long.ensures ∙ c.in_default.is))
    (c.deref.ensures.value ∙ c.in-Ok.ensures.bytes) (header_of 2) c.self.inside.log.epoch (c.self.invariant.1.beside h1 h2 up)))

pub move_over-requires-clause-file : goal.move_over-requires-clause-file
move_over-requires-clause-file g c = λ h.
    let payloads = c.args.payloads.now in
    let bytes = g.D.Disk.content c.replace_file.new.disk in
    let went_well = sym c.is_err.ensures.value ∙ c.if-is_err.false in
    let file : IsFile (header_of 2) (c.self.inside.log.epoch + 1) payloads bytes =
    on_ok_told c.replace_file.result went_well (c.replace_file.ensures.file (sym c.replace_file.ensures.honesty ∙ h) payloads (all_short payloads (sym c.first_too_long.ensures ∙ c.in_default.is)) (c.deref.ensures.value ∙ c.in-Ok.ensures.bytes)) in
    subst (λ l. IsFile l (c.self.inside.log.epoch + 1) c.in-Ok.list.payloads.items bytes) (sym c.self.invariant.1.header)
    (subst (λ l. IsFile (header_of 2) (c.self.inside.log.epoch + 1) l bytes) (sym c.in-Ok.ensures.payloads) file)

pub invariant_of-self-2 : goal.invariant_of-self-2
invariant_of-self-2 g c = (
  c.move_over.ensures.log,
  rw c.move_over.ensures.disk_before (is_pair_over (disk g.D.Disk) g.met.D.Disk.only_now
      c.self.inside.log c.self.inside.spare c.self.inside.spare_sealed c.self.invariant.0 c.self.invariant.1
      c.move_over.new.self c.move_over.ensures.log c.if-self.false c.move_over.ensures.down c.move_over.ensures.header c.move_over.ensures.epoch),
)

pub returns-clause-kept : goal.returns-clause-kept
returns-clause-kept g c =
    rw c.move_over.ensures.disk_before (pair_keeps (disk g.D.Disk) g.met.D.Disk.only_now
    c.move_over.new.self c.self.inside.log.disk true c.move_over.ensures.log (is_pair_over (disk g.D.Disk) g.met.D.Disk.only_now
    c.self.inside.log c.self.inside.spare c.self.inside.spare_sealed c.self.invariant.0 c.self.invariant.1
    c.move_over.new.self c.move_over.ensures.log c.if-self.false c.move_over.ensures.down c.move_over.ensures.header c.move_over.ensures.epoch))

pub returns-clause-any_moment : goal.returns-clause-any_moment
returns-clause-any_moment g c =
    rw (← c.self.view_is, c.move_over.ensures.disk) (λ h1 h2 up. c.replace_file.ensures.any_moment h2 c.args.payloads.now (all_short c.args.payloads.now (sym c.first_too_long.ensures ∙ c.in_default.is))
    (c.deref.ensures.value ∙ c.in-Ok.ensures.bytes) (header_of 2) c.self.inside.log.epoch (c.self.invariant.1.beside h1 h2 up))

pub returns-clause-pair_images : goal.returns-clause-pair_images
returns-clause-pair_images g c =
    rw (← c.self.view_is, c.move_over.ensures.disk, c.move_over.ensures.disk_before) (λ h1 h2 up. images_after (disk g.D.Disk) g.met.D.Disk.only_now
    c.self.inside.log c.self.inside.spare c.self.inside.spare_sealed c.self.invariant.0 c.self.invariant.1 h1 h2 up c.args.payloads.now c.self.inside.swapped c.replace_file.new.disk
    (c.replace_file.ensures.any_moment h2 c.args.payloads.now (all_short c.args.payloads.now (sym c.first_too_long.ensures ∙ c.in_default.is))
    (c.deref.ensures.value ∙ c.in-Ok.ensures.bytes) (header_of 2) c.self.inside.log.epoch (c.self.invariant.1.beside h1 h2 up)))

pub returns-in-Some-clause-kept : goal.returns-in-Some-clause-kept
returns-in-Some-clause-kept g c =
    rw (← c.self.view_is) (pair_keeps (disk g.D.Disk) g.met.D.Disk.only_now
    c.self.inside.log c.self.inside.spare c.self.inside.spare_sealed c.self.invariant.0 c.self.invariant.1)

pub returns-in_default-prepare-clause-kept : goal.returns-in_default-prepare-clause-kept
returns-in_default-prepare-clause-kept g c =
    rw (← c.self.view_is) (pair_keeps (disk g.D.Disk) g.met.D.Disk.only_now
    c.self.inside.log c.self.inside.spare c.self.inside.spare_sealed c.self.invariant.0 c.self.invariant.1)

pub invariant_of-self : goal.invariant_of-self
invariant_of-self g c = (
  is_log_stopped (disk g.D.Disk) c.self.inside.log c.self.inside.spare c.self.inside.spare_sealed c.self.invariant.0 c.self.invariant.1 c.if-self.false,
  is_pair_stopped (disk g.D.Disk) c.self.inside.log c.self.inside.spare c.self.inside.spare_sealed c.self.invariant.0 c.self.invariant.1 c.if-self.false
      g.met.D.Disk.counts_now c.replace_file.new.disk c.replace_file.ensures.honesty c.replace_file.ensures.count.greatest c.args.payloads.now
      (λ h. c.replace_file.ensures.any_moment h c.args.payloads.now (all_short c.args.payloads.now (sym c.first_too_long.ensures ∙ c.in_default.is)) (c.deref.ensures.value ∙ c.in-Ok.ensures.bytes)),
)

pub returns-in-Some-clause-told : goal.returns-in-Some-clause-told
returns-in-Some-clause-told g c = record {
  written = tt;
  next_epoch = tt;
  bytes = λ h. tt;
  room = tt;
  up = tt;
  replaced = tt;
  changed_over = tt;
  not_written = refl;
  fault = λ e. cc;
  cause = λ e. cc;
  no_memory = λ e. refl;
  down = λ e. search rules;
  is_down = search rules;
  too_long = search rules;
  is_too_long = search rules;
  short_enough = λ short n e. none_too_long c.args.payloads.now c.in-Some.size short (sym c.first_too_long.ensures ∙ c.in-Some.is);
  honesty = refl;
  count = search rules;
}
