use Rattle.std.proofs.Common.{◌≡◌, ◌+◌, ◌∙◌, true, false, refl, sym, rules}
use Rattle.esm_io.specs.Meanings.{disk}
use Rattle.esm_journal.specs.File.{header_of}
use Rattle.esm_journal.proofs.Adds.{on_ok_told}
use Rattle.esm_journal.proofs.Migrations.{old_beside}
use Rattle.esm_journal.proofs.Pairs.{keeps_pair}
use Rattle.esm_journal.proofs.Rewrites.{other_of_file}
use Rattle.esm_journal.proofs.pair.Pair.write_anew.Goals as goal

clash : false ≡ true → ⊥
clash e = cc

pub returns-then-is_err-clause-back : goal.returns-then-is_err-clause-back
returns-then-is_err-clause-back g c = record {
  kept = refl;
  over = record {
    any_moment = λ h kept lower harmless. c.replace_file.ensures.any_moment h c.args.found.payloads.items c.requires.short (c.deref.ensures.value ∙ c.requires.bytes) kept lower harmless;
    honesty = c.replace_file.ensures.honesty;
    count = c.replace_file.ensures.count;
  };
  cause = search rules;
}

pub invariant_of-result : goal.invariant_of-result
invariant_of-result g c =
    let payloads = c.args.found.payloads.items in
    let went_well = sym c.is_err.ensures.value ∙ c.if-is_err.false in (
      record {
        header = refl;
        file = λ h up. on_ok_told c.replace_file.result went_well (c.replace_file.ensures.file (sym c.replace_file.ensures.honesty ∙ h) payloads c.requires.short (c.deref.ensures.value ∙ c.requires.bytes));
        synced = λ h up. on_ok_told c.replace_file.result went_well (c.replace_file.ensures.durable (sym c.replace_file.ensures.honesty ∙ h));
        stopped = λ h down. absurd (clash down);
        end = c.requires.end;
        faults_fit = c.replace_file.ensures.count.greatest;
        spares = search rules;
        total = search rules;
        places = search rules;
      },
      record {
        header = refl;
        beside = λ h1 h2 up. old_beside c.args.found.epoch (c.args.found.epoch + 1) payloads (g.D.Disk.content c.args.used) (c.requires.file h2);
        settled = λ h up. c.requires.durable h;
        other = λ h up. other_of_file (header_of 1) c.args.found.epoch payloads (g.D.Disk.content c.args.used) refl (c.requires.file h);
        stopped = λ h1 h2 down. absurd (clash down);
        faults_fit = c.requires.faults;
      },
    )

pub returns-clause-made : goal.returns-clause-made
returns-clause-made g c =
    let payloads = c.args.found.payloads.items in
    let went_well = sym c.is_err.ensures.value ∙ c.if-is_err.false in
    record {
      payloads_are = refl;
      next_epoch = refl;
      bytes = λ h. on_ok_told c.replace_file.result went_well (c.replace_file.ensures.bytes h payloads (c.deref.ensures.value ∙ c.requires.bytes));
      up = refl;
      room = search rules;
      spare = refl;
      order = refl;
      kept = λ h1 h2.
          keeps_pair (disk g.D.Disk) (header_of 2) (c.args.found.epoch + 1) payloads c.replace_file.new.disk c.args.used refl
          (on_ok_told c.replace_file.result went_well (c.replace_file.ensures.file (sym c.replace_file.ensures.honesty ∙ h1) payloads c.requires.short (c.deref.ensures.value ∙ c.requires.bytes)))
          (on_ok_told c.replace_file.result went_well (c.replace_file.ensures.durable (sym c.replace_file.ensures.honesty ∙ h1)))
          (old_beside c.args.found.epoch (c.args.found.epoch + 1) payloads (g.D.Disk.content c.args.used) (c.requires.file h2)) (c.requires.durable h2);
      over = record {
        any_moment = λ h kept lower harmless. c.replace_file.ensures.any_moment h payloads c.requires.short (c.deref.ensures.value ∙ c.requires.bytes) kept lower harmless;
        honesty = c.replace_file.ensures.honesty;
        count = c.replace_file.ensures.count;
      };
    }
