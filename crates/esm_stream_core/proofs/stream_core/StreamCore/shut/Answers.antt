use Rattle.std.proofs.Common.{◌∙◌, ℕ, List, length, refl, sym, ap}
use Rattle.std.specs.Prelude.{◌==◌}
use Rattle.esm_model.specs.declared.entry.Entry.TheVariants.{Shut}
use Rattle.esm_model.specs.Entries.{is_shut}
use Rattle.esm_model.specs.Step.{IsLater}
use Rattle.esm_ledger.specs.Ledger.{past_of}
use Rattle.esm_stream_core.specs.declared.owed.Owed.{Owed}
use Rattle.esm_stream_core.specs.CoreView.{CoreView, noted_shut}
use Rattle.esm_stream_core.specs.Standing.{is_whole}
use Rattle.esm_stream_core.specs.Inside.{view_of}
use Rattle.esm_stream_core.proofs.Keeping.{IsCoreOf}
use Rattle.esm_stream_core.proofs.Ledgers.{moment_is, is_later}
use Rattle.esm_stream_core.proofs.Shutting.{shut_quiet, room_for, can_shut, core_shut}
use Rattle.esm_stream_core.proofs.stream_core.StreamCore.shut.Goals as goal
use Rattle.esm_stream_core.proofs.stream_core.StreamCore.shut.Goals.{After-standing-1}

pub shut-requires-clause-whole : goal.shut-requires-clause-whole
shut-requires-clause-whole c = λ whole.
    let x = c.self.inside in
    let m = c.raised_to-now.result in
    let later : IsLater (past_of x.ledger) m = is_later (view_of x) x m refl c.self.invariant c.raised_to-now.ensures.goes_on c.raised_to-now.ensures.in_time in
    can_shut x c.is_empty.result m c.self.invariant (sym (c.is_whole.ensures ∙ ap is_whole c.shut-standing.ensures) ∙ whole) (ap (λ (v : CoreView). is_shut v.past) c.self.view_is ∙ c.requires.going) later

pub shut-requires-clause-room : goal.shut-requires-clause-room
shut-requires-clause-room c =
    let x = c.self.inside in
    let m = c.raised_to-now.result in
    room_for x (Shut m) c.self.invariant (shut_quiet (past_of x.ledger) m (ap (λ (v : CoreView). is_shut v.past) c.self.view_is ∙ c.requires.going) c.raised_to-now.ensures.in_time)

all_shut : (c : After-standing-1) → IsCoreOf (noted_shut (view_of c.self.inside) (Shut c.raised_to-now.result)) (record c.self.inside { ledger = c.shut.new.ledger; standing = c.shut-standing.result })
all_shut c =
    let x = c.self.inside in
    let told = c.is_whole.ensures ∙ ap is_whole c.shut-standing.ensures in
    core_shut c.progress_stays.ensures x c.shut.new.ledger c.is_empty.result c.raised_to-now.result c.shut-standing.result
    (record {
      core = c.self.invariant;
      going = ap (λ (v : CoreView). is_shut v.past) c.self.view_is ∙ c.requires.going;
      within = c.raised_to-now.ensures.in_time;
      empty = c.is_empty.ensures ∙ ap (λ (os : List Owed). length os == 0) c.as_slice.ensures.value;
      added = λ whole. c.shut.ensures.added (told ∙ whole);
      pushed = λ left. c.shut.ensures.pushed (told ∙ left);
    })
    c.shut-standing.ensures

pub invariant_of-self : goal.invariant_of-self
invariant_of-self c = (all_shut c).core

pub returns : goal.returns
returns c =
    let v = c.args.self.now in
    (all_shut c).is
    ∙ ap (λ (w : CoreView). noted_shut w (Shut c.raised_to-now.result)) c.self.view_is
    ∙ ap (λ (m : ℕ). noted_shut v (Shut m)) (moment_is v c.self.inside c.args.moment c.raised_to-now.result c.self.view_is c.self.invariant c.raised_to-now.ensures.value)
