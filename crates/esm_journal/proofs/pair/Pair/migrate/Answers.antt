use Rattle.std.proofs.Common.{◌∙◌, refl, rules, sym, ap}
use Rattle.esm_io.specs.Meanings.{disk}
use Rattle.esm_journal.specs.File.{header_of, eight_at}
use Rattle.esm_journal.specs.Pair.{first_disk, second_disk}
use Rattle.esm_journal.specs.Migrate.{with_next_epoch}
use Rattle.esm_journal.proofs.Migrations.{anew_before, as_version_1, as_version_2, same_pair, rose_earlier, read_since, untouched}
use Rattle.esm_journal.proofs.Runs.{reads_on, refused_more}
use Rattle.esm_journal.proofs.pair.Pair.migrate.Goals as goal

pub returns-in-Ok-clause-migrated : goal.returns-in-Ok-clause-migrated
returns-in-Ok-clause-migrated g c = rw (c.of.ensures.pair, c.of.ensures.was) (record {
  version = search rules;
  found = λ h1 h2.
      let read = c.has_version_2.ensures.first_read in
      let other_read = c.has_version_2.ensures.second_read in
      (c.in-Ok.pair.epoch, as_version_2 (g.D.Disk.content c.args.journal) (g.D.Disk.content c.args.spare) (sym (c.in-Ok-true.ensures.version h1 h2) ∙ c.in-Ok-true.field-0-test) ∙ same_pair (header_of 2) (g.D.Disk.content c.args.journal) (g.D.Disk.content c.args.spare) (g.D.Disk.content c.has_version_2.new.first) (g.D.Disk.content c.has_version_2.new.second) (read.same h1) (other_read.same h2) ∙ c.in-Ok.ensures.opened (read.honesty ∙ h1) (other_read.honesty ∙ h2), refl);
  bytes = search rules;
  first_read = λ was. reads_on (disk g.D.Disk) c.args.journal c.has_version_2.new.first (first_disk c.in-Ok.pair) c.has_version_2.ensures.first_read c.in-Ok.ensures.first_read;
  second_read = λ was. reads_on (disk g.D.Disk) c.args.spare c.has_version_2.new.second (second_disk c.in-Ok.pair) c.has_version_2.ensures.second_read c.in-Ok.ensures.second_read;
  up = search rules;
  room = search rules;
  kept = search rules;
  images = search rules;
  honesty = search rules;
  faults = search rules;
})

pub returns-in-Err-open-clause-refused : goal.returns-in-Err-open-clause-refused
returns-in-Err-open-clause-refused g c = record {
  refused =
      let read = c.has_version_2.ensures.first_read in
      let other_read = c.has_version_2.ensures.second_read in
      refused_more _ _ _ _ _ _ c.in-Err-open.refused.why c.in-Err-open.ensures.refused
      (λ first foreign h1 h2. let is = foreign (read.honesty ∙ h1) (other_read.honesty ∙ h2) in
      (as_version_2 (g.D.Disk.content c.args.journal) (g.D.Disk.content c.args.spare) (sym (c.in-Ok-true.ensures.version h1 h2) ∙ c.in-Ok-true.field-0-test) ∙ same_pair (header_of 2) (g.D.Disk.content c.args.journal) (g.D.Disk.content c.args.spare) (g.D.Disk.content c.has_version_2.new.first) (g.D.Disk.content c.has_version_2.new.second) (read.same h1) (other_read.same h2) ∙ is.0, is.1 ∙ ap (λ l. eight_at l 0) (read.same h1)))
      (λ place damaged h1 h2. as_version_2 (g.D.Disk.content c.args.journal) (g.D.Disk.content c.args.spare) (sym (c.in-Ok-true.ensures.version h1 h2) ∙ c.in-Ok-true.field-0-test) ∙ same_pair (header_of 2) (g.D.Disk.content c.args.journal) (g.D.Disk.content c.args.spare) (g.D.Disk.content c.has_version_2.new.first) (g.D.Disk.content c.has_version_2.new.second) (read.same h1) (other_read.same h2) ∙ damaged (read.honesty ∙ h1) (other_read.honesty ∙ h2))
      (rose_earlier _ _ _ _ _ _ read.never_falls other_read.never_falls);
  first_back = search rules;
  second_back = search rules;
  unwritten = search rules;
  images = search rules;
  honesty = search rules;
  faults = search rules;
}

pub returns-in-Ok-open_old-clause-migrated : goal.returns-in-Ok-open_old-clause-migrated
returns-in-Ok-open_old-clause-migrated g c = rw (c.of-in-Ok-open_old.ensures.pair, c.of-in-Ok-open_old.ensures.was) (record {
  version = search rules;
  found = λ h1 h2.
      let read = c.has_version_2.ensures.first_read in
      let other_read = c.has_version_2.ensures.second_read in
      let is = c.in-Ok-open_old.ensures.opened.found (read.honesty ∙ h1) (other_read.honesty ∙ h2) in
      (is.0, as_version_1 (g.D.Disk.content c.args.journal) (g.D.Disk.content c.args.spare) (sym (c.in-Ok-false.ensures.version h1 h2) ∙ c.in-Ok-false.field-0-test) ∙ ap with_next_epoch (same_pair (header_of 1) (g.D.Disk.content c.args.journal) (g.D.Disk.content c.args.spare) (g.D.Disk.content c.has_version_2.new.first) (g.D.Disk.content c.has_version_2.new.second) (read.same h1) (other_read.same h2)) ∙ is.1, is.2);
  bytes = λ h1 h2 _.
      let read = c.has_version_2.ensures.first_read in
      let other_read = c.has_version_2.ensures.second_read in
      anew_before g.D.Disk.content c.args.journal c.args.spare c.in-Ok-open_old.pair c.has_version_2.new.first c.has_version_2.new.second (read.same h1) (other_read.same h2)
      (c.in-Ok-open_old.ensures.opened.bytes (read.honesty ∙ h1) (other_read.honesty ∙ h2));
  first_read = search rules;
  second_read = search rules;
  up = search rules;
  room = search rules;
  kept = search rules;
  images = c.in-Ok-open_old.ensures.opened.images c.args.journal c.args.spare c.has_version_2.ensures.first_read c.has_version_2.ensures.second_read;
  honesty = search rules;
  faults = search rules;
})

pub returns-in-Err-open_old-clause-refused : goal.returns-in-Err-open_old-clause-refused
returns-in-Err-open_old-clause-refused g c = record {
  refused =
      let read = c.has_version_2.ensures.first_read in
      let other_read = c.has_version_2.ensures.second_read in
      refused_more _ _ _ _ _ _ c.in-Err-open_old.refused.why c.in-Err-open_old.ensures.refused.refused
      (λ first foreign h1 h2. let is = foreign (read.honesty ∙ h1) (other_read.honesty ∙ h2) in
      (as_version_1 (g.D.Disk.content c.args.journal) (g.D.Disk.content c.args.spare) (sym (c.in-Ok-false.ensures.version h1 h2) ∙ c.in-Ok-false.field-0-test) ∙ ap with_next_epoch (same_pair (header_of 1) (g.D.Disk.content c.args.journal) (g.D.Disk.content c.args.spare) (g.D.Disk.content c.has_version_2.new.first) (g.D.Disk.content c.has_version_2.new.second) (read.same h1) (other_read.same h2)) ∙ is.0, is.1 ∙ ap (λ l. eight_at l 0) (read.same h1)))
      (λ place damaged h1 h2. as_version_1 (g.D.Disk.content c.args.journal) (g.D.Disk.content c.args.spare) (sym (c.in-Ok-false.ensures.version h1 h2) ∙ c.in-Ok-false.field-0-test) ∙ ap with_next_epoch (same_pair (header_of 1) (g.D.Disk.content c.args.journal) (g.D.Disk.content c.args.spare) (g.D.Disk.content c.has_version_2.new.first) (g.D.Disk.content c.has_version_2.new.second) (read.same h1) (other_read.same h2)) ∙ damaged (read.honesty ∙ h1) (other_read.honesty ∙ h2))
      (rose_earlier _ _ _ _ _ _ read.never_falls other_read.never_falls);
  first_back = search rules;
  second_back = search rules;
  unwritten = search rules;
  images = c.in-Err-open_old.ensures.refused.images c.args.journal c.args.spare c.has_version_2.ensures.first_read c.has_version_2.ensures.second_read;
  honesty = search rules;
  faults = search rules;
}

pub returns-in-Err-clause-refused : goal.returns-in-Err-clause-refused
returns-in-Err-clause-refused g c = record {
  refused = search rules;
  first_back = search rules;
  second_back = search rules;
  unwritten = search rules;
  images = λ h1 h2 version only second_only epoch payloads opens one two was_one was_two.
      untouched epoch payloads one two (g.D.Disk.content c.args.journal) (g.D.Disk.content c.args.spare)
      (read_since (disk g.D.Disk) c.args.journal c.has_version_2.new.first c.has_version_2.ensures.first_read h1 only one was_one)
      (read_since (disk g.D.Disk) c.args.spare c.has_version_2.new.second c.has_version_2.ensures.second_read h2 second_only two was_two) version opens;
  honesty = search rules;
  faults = search rules;
}
