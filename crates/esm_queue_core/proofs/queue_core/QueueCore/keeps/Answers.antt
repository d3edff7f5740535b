use Rattle.std.proofs.Common.{◌≡◌, ◌≤◌, false, [], subst}
use Rattle.esm_model.specs.declared.moment.TheConstants.{MAX_MOMENT}
use Rattle.esm_model.specs.Entries.{last_moment}
use Rattle.esm_model.specs.Valid.{is_stream}
use Rattle.esm_queue_model.specs.QueueBooks.{messages_told}
use Rattle.esm_queue_core.specs.CoreView.{CoreView}
use Rattle.esm_queue_core.specs.Told.{told_of}
use Rattle.esm_queue_core.specs.Inside.{parts_of}
use Rattle.esm_queue_core.proofs.ToldMessages.{messages_kept, rests_kept, in_time_kept}
use Rattle.esm_queue_core.proofs.queue_core.QueueCore.keeps.Goals as goal

pub returns-clause-queue : goal.returns-clause-queue
returns-clause-queue c =
    subst (λ (v : CoreView). is_stream v.setting.config.kind ≡ false) c.self.view_is c.self.invariant.config.kind

pub returns-clause-messages : goal.returns-clause-messages
returns-clause-messages c =
    subst (λ (v : CoreView). v.setting.messages ≡ messages_told (told_of v)) c.self.view_is (messages_kept (parts_of c.self.inside) c.self.invariant)

pub returns-clause-rests : goal.returns-clause-rests
returns-clause-rests c =
    subst (λ (v : CoreView). v.owed ≡ [] → v.coming ≡ []) c.self.view_is (rests_kept (parts_of c.self.inside) c.self.invariant)

pub returns-clause-in_time : goal.returns-clause-in_time
returns-clause-in_time c =
    subst (λ (v : CoreView). last_moment v.past ≤ MAX_MOMENT) c.self.view_is (in_time_kept (parts_of c.self.inside) c.self.invariant)
