use Rattle.std.proofs.Common.{◌≡◌, ◌+◌, ◌∙◌, Bool, true, false, if◌then◌else◌, rules, sym, ap, subst}
use Rattle.esm_io.specs.Meanings.{disk}
use Rattle.esm_journal.specs.File.{Holding}
use Rattle.esm_journal.specs.Pair.{first_disk, second_disk}
use Rattle.esm_journal.specs.Migrate.{with_next_epoch}
use Rattle.esm_journal.proofs.Migrations.{written_anew, opened_before, lower_epoch, read_since, untouched, moves_first, moves_second}
use Rattle.esm_journal.proofs.Runs.{reads_on}
use Rattle.esm_journal.proofs.pair.Pair.open_old.Goals as goal

pub returns-in-Ok-write_anew-clause-opened : goal.returns-in-Ok-write_anew-clause-opened
returns-in-Ok-write_anew-clause-opened g c = record {
  found = λ h1 h2.
      let found = c.in-Ok.field-0.taken.found in (
        found.epoch,
        ap with_next_epoch (opened_before (disk g.D.Disk) c.args.journal c.args.spare c.read_old_pair.new.first c.read_old_pair.new.second c.args.journal c.in-Ok.field-0.taken c.in-Ok.ensures.read c.read_old_pair.ensures.first_read c.read_old_pair.ensures.second_read h1 h2)
            ∙ lower_epoch found.epoch found.payloads.items c.in-Ok.ensures.below_greatest ∙ ap (Holding found.epoch) (sym c.in-Ok-write_anew.ensures.made.payloads_are),
        c.in-Ok-write_anew.ensures.made.next_epoch,
      );
  bytes = λ h1 h2.
      let found = c.in-Ok.field-0.taken.found in
      let read = c.read_old_pair.ensures.first_read in
      let other_read = c.read_old_pair.ensures.second_read in
      let made = c.in-Ok-write_anew.ensures.made in
      written_anew g.D.Disk.content c.args.journal c.args.spare c.in-Ok-write_anew.pair c.read_old_pair.new.first (found.epoch + 1) found.payloads.items false made.next_epoch made.payloads_are made.order
      (made.bytes (read.honesty ∙ h1)) (read.same h1) (ap g.D.Disk.content made.spare ∙ other_read.same h2);
  up = c.in-Ok-write_anew.ensures.made.up;
  room = c.in-Ok-write_anew.ensures.made.room;
  kept = search rules;
  images = λ first second one_read two_read h1 h2 version only second_only epoch payloads opens one two was_one was_two.
      let pair = c.in-Ok-write_anew.pair in
      let e1 : first_disk pair ≡ pair.used = ap (λ (b : Bool). if b then pair.spare else pair.used) c.in-Ok-write_anew.ensures.made.order in
      let e2 : second_disk pair ≡ c.read_old_pair.new.second = ap (λ (b : Bool). if b then pair.used else pair.spare) c.in-Ok-write_anew.ensures.made.order ∙ c.in-Ok-write_anew.ensures.made.spare in
      moves_first (disk g.D.Disk) first second c.read_old_pair.new.first c.read_old_pair.new.second pair.used c.in-Ok.field-0.taken c.in-Ok.ensures.read (reads_on (disk g.D.Disk) first c.args.journal c.read_old_pair.new.first one_read c.read_old_pair.ensures.first_read) (reads_on (disk g.D.Disk) second c.args.spare c.read_old_pair.new.second two_read c.read_old_pair.ensures.second_read) h1 h2 version only second_only epoch payloads opens one two c.if-swapped.true c.in-Ok-write_anew.ensures.made.over.any_moment
      (subst (λ d. g.D.Disk.image_since d (g.D.Disk.moment first) one) e1 was_one) (subst (λ d. g.D.Disk.image_since d (g.D.Disk.moment second) two) e2 was_two);
  honesty = search rules;
  faults = search rules;
}

pub returns-in-Err-write_anew-clause-refused : goal.returns-in-Err-write_anew-clause-refused
returns-in-Err-write_anew-clause-refused g c = record {
  refused = search rules;
  first_back = search rules;
  second_back = search rules;
  images = λ first second one_read two_read h1 h2 version only second_only epoch payloads opens one two was_one was_two.
      moves_first (disk g.D.Disk) first second c.read_old_pair.new.first c.read_old_pair.new.second c.in-Err-write_anew.other c.in-Ok.field-0.taken c.in-Ok.ensures.read (reads_on (disk g.D.Disk) first c.args.journal c.read_old_pair.new.first one_read c.read_old_pair.ensures.first_read) (reads_on (disk g.D.Disk) second c.args.spare c.read_old_pair.new.second two_read c.read_old_pair.ensures.second_read) h1 h2 version only second_only epoch payloads opens one two c.if-swapped.true c.in-Err-write_anew.ensures.back.over.any_moment
      was_one (subst (λ d. g.D.Disk.image_since d (g.D.Disk.moment second) two) c.in-Err-write_anew.ensures.back.kept was_two);
  honesty = search rules;
  faults = search rules;
}

pub returns-in-Ok-write_anew-2-clause-opened : goal.returns-in-Ok-write_anew-2-clause-opened
returns-in-Ok-write_anew-2-clause-opened g c = record {
  found = λ h1 h2.
      let found = c.in-Ok.field-0.taken.found in (
        found.epoch,
        ap with_next_epoch (opened_before (disk g.D.Disk) c.args.journal c.args.spare c.read_old_pair.new.first c.read_old_pair.new.second c.args.journal c.in-Ok.field-0.taken c.in-Ok.ensures.read c.read_old_pair.ensures.first_read c.read_old_pair.ensures.second_read h1 h2)
            ∙ lower_epoch found.epoch found.payloads.items c.in-Ok.ensures.below_greatest ∙ ap (Holding found.epoch) (sym c.in-Ok-write_anew-2.ensures.made.payloads_are),
        c.in-Ok-write_anew-2.ensures.made.next_epoch,
      );
  bytes = λ h1 h2.
      let found = c.in-Ok.field-0.taken.found in
      let read = c.read_old_pair.ensures.first_read in
      let other_read = c.read_old_pair.ensures.second_read in
      let made = c.in-Ok-write_anew-2.ensures.made in
      written_anew g.D.Disk.content c.args.journal c.args.spare c.in-Ok-write_anew-2.pair c.read_old_pair.new.second (found.epoch + 1) found.payloads.items true made.next_epoch made.payloads_are made.order
      (made.bytes (other_read.honesty ∙ h2)) (other_read.same h2) (ap g.D.Disk.content made.spare ∙ read.same h1);
  up = c.in-Ok-write_anew-2.ensures.made.up;
  room = c.in-Ok-write_anew-2.ensures.made.room;
  kept = search rules;
  images = λ first second one_read two_read h1 h2 version only second_only epoch payloads opens one two was_one was_two.
      let pair = c.in-Ok-write_anew-2.pair in
      let e1 : first_disk pair ≡ c.read_old_pair.new.first = ap (λ (b : Bool). if b then pair.spare else pair.used) c.in-Ok-write_anew-2.ensures.made.order ∙ c.in-Ok-write_anew-2.ensures.made.spare in
      let e2 : second_disk pair ≡ pair.used = ap (λ (b : Bool). if b then pair.used else pair.spare) c.in-Ok-write_anew-2.ensures.made.order in
      moves_second (disk g.D.Disk) first second c.read_old_pair.new.first c.read_old_pair.new.second pair.used c.in-Ok.field-0.taken c.in-Ok.ensures.read (reads_on (disk g.D.Disk) first c.args.journal c.read_old_pair.new.first one_read c.read_old_pair.ensures.first_read) (reads_on (disk g.D.Disk) second c.args.spare c.read_old_pair.new.second two_read c.read_old_pair.ensures.second_read) h1 h2 version only second_only epoch payloads opens one two c.if-swapped.false c.in-Ok-write_anew-2.ensures.made.over.any_moment
      (subst (λ d. g.D.Disk.image_since d (g.D.Disk.moment first) one) e1 was_one) (subst (λ d. g.D.Disk.image_since d (g.D.Disk.moment second) two) e2 was_two);
  honesty = search rules;
  faults = search rules;
}

pub returns-in-Err-write_anew-2-clause-refused : goal.returns-in-Err-write_anew-2-clause-refused
returns-in-Err-write_anew-2-clause-refused g c = record {
  refused = search rules;
  first_back = search rules;
  second_back = search rules;
  images = λ first second one_read two_read h1 h2 version only second_only epoch payloads opens one two was_one was_two.
      moves_second (disk g.D.Disk) first second c.read_old_pair.new.first c.read_old_pair.new.second c.in-Err-write_anew-2.back.1 c.in-Ok.field-0.taken c.in-Ok.ensures.read (reads_on (disk g.D.Disk) first c.args.journal c.read_old_pair.new.first one_read c.read_old_pair.ensures.first_read) (reads_on (disk g.D.Disk) second c.args.spare c.read_old_pair.new.second two_read c.read_old_pair.ensures.second_read) h1 h2 version only second_only epoch payloads opens one two c.if-swapped.false c.in-Err-write_anew-2.ensures.back.over.any_moment
      (subst (λ d. g.D.Disk.image_since d (g.D.Disk.moment first) one) c.in-Err-write_anew-2.ensures.back.kept was_one) was_two;
  honesty = search rules;
  faults = search rules;
}

pub returns-in-Err-clause-refused : goal.returns-in-Err-clause-refused
returns-in-Err-clause-refused g c = record {
  refused = search rules;
  first_back = search rules;
  second_back = search rules;
  images = λ first second one_read two_read h1 h2 version only second_only epoch payloads opens one two was_one was_two.
      untouched epoch payloads one two (g.D.Disk.content first) (g.D.Disk.content second)
      (read_since (disk g.D.Disk) first c.read_old_pair.new.first (reads_on (disk g.D.Disk) first c.args.journal c.read_old_pair.new.first one_read c.read_old_pair.ensures.first_read) h1 only one was_one)
      (read_since (disk g.D.Disk) second c.read_old_pair.new.second (reads_on (disk g.D.Disk) second c.args.spare c.read_old_pair.new.second two_read c.read_old_pair.ensures.second_read) h2 second_only two was_two) version opens;
  honesty = search rules;
  faults = search rules;
}
