use Rattle.std.proofs.Common.{refl, ap, subst, sym, ◌∙◌}
use Rattle.esm_journal.specs.File.{header_of, IsFile}
use Rattle.esm_journal.specs.Pair.{IsOther}
use Rattle.esm_journal.specs.Migrate.{with_next_epoch}
use Rattle.esm_journal.specs.Taken.{IsTaken}
use Rattle.esm_journal.proofs.Migrations.{taken_opened, greatest_epoch}
use Rattle.esm_journal.proofs.old_pair.read_old_pair.Goals as goal

pub returns-then-taken-clause-refused : goal.returns-then-taken-clause-refused
returns-then-taken-clause-refused g c = λ h1 h2.
    let taken = c.in_ok-taken.taken in
    ap with_next_epoch (taken_opened (header_of 1) (g.D.Disk.content c.args.first.now) (g.D.Disk.content c.args.second.now) taken refl (c.in_ok-taken.ensures.taken h1 h2))
    ∙ greatest_epoch taken.found.epoch taken.found.payloads.items c.if-taken.true

pub returns-clause-read : goal.returns-clause-read
returns-clause-read g c =
    let taken = c.in_ok-taken.taken in
    let found = taken.found in
    let of = c.in_ok-taken.ensures in
    let first = c.read_pair.ensures.first_read in
    let second = c.read_pair.ensures.second_read in
    let one = g.D.Disk.content c.args.first.now in
    let two = g.D.Disk.content c.args.second.now in
    record {
      taken_is = λ h1 h2. let h1' = sym first.honesty ∙ h1 in let h2' = sym second.honesty ∙ h2 in
          subst (λ l. IsTaken (header_of 1) (g.D.Disk.content c.read_pair.new.first) l taken) (sym (second.same h2')) (subst (λ l. IsTaken (header_of 1) l two taken) (sym (first.same h1')) (of.taken h1' h2'));
      first_file = λ h swapped. let h' = sym first.honesty ∙ h in subst (IsFile (header_of 1) found.epoch found.payloads.items) (sym (first.same h')) (of.first_file h' swapped);
      second_file = λ h swapped. let h' = sym second.honesty ∙ h in subst (IsFile (header_of 1) found.epoch found.payloads.items) (sym (second.same h')) (of.second_file h' swapped);
      first_other = λ h swapped. let h' = sym first.honesty ∙ h in subst (IsOther taken.spare_sealed) (sym (first.same h')) (of.first_other h' swapped);
      second_other = λ h swapped. let h' = sym second.honesty ∙ h in subst (IsOther taken.spare_sealed) (sym (second.same h')) (of.second_other h' swapped);
      end = of.end;
      short = of.short;
      durable = λ h. of.durable (sym first.honesty ∙ h);
      spare_durable = λ h. of.spare_durable (sym second.honesty ∙ h);
      faults_fit = of.faults;
      spare_faults_fit = of.spare_faults;
    }
