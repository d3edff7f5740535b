use Rattle.std.proofs.Common.{◌≡◌, true, false, sym, ap, ◌∙◌, subst, append-nil}
use Rattle.std.specs.Prelude.{Err, IfOk, OnErr}
use Rattle.std.proofs.lemmas.Bool.{false≢true}
use Rattle.esm_io.specs.Meanings.{disk as meaning}
use Rattle.esm_registry.specs.Machine.{asked}
use Rattle.esm_api.specs.Judged.{judgement_of}
use Rattle.esm_api.specs.Response.{applied_status, applied_text}
use Rattle.esm_api.specs.Serving.{IsApplied}
use Rattle.esm_api.specs.Given.{Gives, Stands}
use Rattle.esm_api.proofs.ServeLemmas.{gives_applied, stands_applied}
use Rattle.esm_api.proofs.respond.respond.Goals as goal

pub returns-in-Ok-clause-given : goal.returns-in-Ok-clause-given
returns-in-Ok-clause-given g c =
    let m = (meaning g.D.Disk) in
    let old = c.args.registry.now in
    let new = c.apply.new.self in
    let done = c.in-Ok.ensures in
    let applied : IsApplied m old new (asked c.in-Asks.command) c.args.moment false = record {
      mappings = done.mappings;
      payloads = done.payloads;
      down = done.up;
      cause = λ e. absurd (false≢true e);
      any_moment = λ honest. done.any_moment honest c.requires;
      kept = done.kept;
      stopped = done.stopped;
    } in
    let r = c.answer_to.result in
    subst (λ j. IfOk r (Gives m old new (judgement_of j) c.args.moment)) (sym c.in-Asks.is)
    (gives_applied m old new (asked c.in-Asks.command) c.args.moment false r applied
    (subst (λ a. IfOk r (λ given. given.status ≡ applied_status a)) done.answer c.answer_to.ensures.status)
    (subst (λ a. IfOk r (λ given. given.text.items ≡ applied_text a)) done.answer c.answer_to.ensures.text))

pub returns-in-Ok-clause-unanswered : goal.returns-in-Ok-clause-unanswered
returns-in-Ok-clause-unanswered g c =
    let m = (meaning g.D.Disk) in
    let old = c.args.registry.now in
    let new = c.apply.new.self in
    let done = c.in-Ok.ensures in
    let applied : IsApplied m old new (asked c.in-Asks.command) c.args.moment false = record {
      mappings = done.mappings;
      payloads = done.payloads;
      down = done.up;
      cause = λ e. absurd (false≢true e);
      any_moment = λ honest. done.any_moment honest c.requires;
      kept = done.kept;
      stopped = done.stopped;
    } in
    let r = c.answer_to.result in
    subst (λ j. OnErr r (Stands m old new (judgement_of j) c.args.moment)) (sym c.in-Asks.is)
    (stands_applied m old new (asked c.in-Asks.command) c.args.moment false r applied)

pub returns-in-Err-DiskFault-clause-given : goal.returns-in-Err-DiskFault-clause-given
returns-in-Err-DiskFault-clause-given g c =
    let m = (meaning g.D.Disk) in
    let old = c.args.registry.now in
    let new = c.apply.new.self in
    let stopped = c.in-Err-DiskFault.ensures in
    let is = c.in-Err-DiskFault.field-0-is in
    let applied : IsApplied m old new (asked c.in-Asks.command) c.args.moment true = record {
      mappings = stopped.same_mappings;
      payloads = stopped.same_payloads ∙ sym (append-nil _);
      down = stopped.fault (ap Err is);
      cause = λ _. stopped.cause (ap Err is);
      any_moment = λ honest. stopped.any_moment honest c.requires;
      kept = stopped.kept;
      stopped = stopped.stopped;
    } in
    let r = c.disk_failed.result in
    subst (λ j. IfOk r (Gives m old new (judgement_of j) c.args.moment)) (sym c.in-Asks.is)
    (gives_applied m old new (asked c.in-Asks.command) c.args.moment true r applied c.disk_failed.ensures.status c.disk_failed.ensures.text)

pub returns-in-Err-DiskFault-clause-unanswered : goal.returns-in-Err-DiskFault-clause-unanswered
returns-in-Err-DiskFault-clause-unanswered g c =
    let m = (meaning g.D.Disk) in
    let old = c.args.registry.now in
    let new = c.apply.new.self in
    let stopped = c.in-Err-DiskFault.ensures in
    let is = c.in-Err-DiskFault.field-0-is in
    let applied : IsApplied m old new (asked c.in-Asks.command) c.args.moment true = record {
      mappings = stopped.same_mappings;
      payloads = stopped.same_payloads ∙ sym (append-nil _);
      down = stopped.fault (ap Err is);
      cause = λ _. stopped.cause (ap Err is);
      any_moment = λ honest. stopped.any_moment honest c.requires;
      kept = stopped.kept;
      stopped = stopped.stopped;
    } in
    let r = c.disk_failed.result in
    subst (λ j. OnErr r (Stands m old new (judgement_of j) c.args.moment)) (sym c.in-Asks.is)
    (stands_applied m old new (asked c.in-Asks.command) c.args.moment true r applied)
