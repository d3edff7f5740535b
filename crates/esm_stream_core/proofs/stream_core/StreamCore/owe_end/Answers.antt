use Rattle.std.proofs.Common.{◌≡◌, ◌∙◌, ◌∷◌, ◌+◌, ℕ, [], List, Vec, Global, map, reverse, refl, sym, ap, subst}
use Rattle.std.proofs.lemmas.List.{reverse-append}
use Rattle.esm_model.specs.declared.entry.Entry.{Entry}
use Rattle.esm_model.specs.declared.entry.Entry.TheVariants.{Ended}
use Rattle.esm_model.specs.Setting.{Setting}
use Rattle.esm_model.specs.Tries.{verdict_after}
use Rattle.esm_ledger.specs.Ledger.{past_of, setting_of, HasRoom}
use Rattle.esm_outcome.specs.Dues.{due_entry}
use Rattle.esm_outcome.specs.Ending.{MaySettle}
use Rattle.esm_outcome.specs.Preparing.{PreparesEnd}
use Rattle.esm_stream_core.specs.declared.owed.Owed.{Owed}
use Rattle.esm_stream_core.specs.Acts.{AreWritable, AllNameOpen}
use Rattle.esm_stream_core.proofs.Deciding.{Begins, begun, begun_sound, begun_as, Decided, undecided, moved}
use Rattle.esm_stream_core.proofs.Endings.{end_act, end_next, end_decided}
use Rattle.esm_stream_core.proofs.stream_core.StreamCore.owe_end.Goals as goal
use Rattle.esm_stream_core.proofs.stream_core.StreamCore.owe_end.Goals.{After-prepare_end, After-drop-replace}

begins : (c : After-prepare_end) → Begins c.args.self.now c.self.inside
begins c = begun c.args.self.now c.self.inside c.self.view_is c.requires.settled c.self.invariant c.requires.whole

may : (c : After-prepare_end) → MaySettle (setting_of c.self.inside.ledger) (past_of c.self.inside.ledger) (Ended c.args.lane c.args.reply c.args.moment ∷ map (due_entry c.args.lane c.args.moment) c.args.outcome.dues.items)
may c =
    begun_as c.args.self.now c.self.inside (λ (s : Setting) (h : List Entry). MaySettle s h (Ended c.args.lane c.args.reply c.args.moment ∷ map (due_entry c.args.lane c.args.moment) c.args.outcome.dues.items)) (begins c) c.requires.may

pub prepare_end-requires-clause-kept : goal.prepare_end-requires-clause-kept
prepare_end-requires-clause-kept c =
    (begun_sound c.args.self.now c.self.inside (begun c.args.self.now c.self.inside c.self.view_is c.requires.settled c.self.invariant c.requires.whole)).keeps

pub dues_owed-requires-clause-writable : goal.dues_owed-requires-clause-writable
dues_owed-requires-clause-writable c =
    let x = c.self.inside in
    let a = c.args in
    let at = (goal.at.dues_owed-requires-clause-writable c).After-prepare_end in
    let sound = begun_sound a.self.now x (begins at) in
    subst (λ (s : Setting). AreWritable s (map (due_entry a.lane a.moment) a.outcome.dues.items)) (sym c.prepare_end.ensures.same.setting)
    (c.next_may_be_written.ensures (setting_of x.ledger) (Ended a.lane a.reply a.moment ∷ past_of x.ledger) (map (due_entry a.lane a.moment) a.outcome.dues.items) sound.bounds sound.keeps.config
    (end_next x.ledger a.lane a.reply a.moment a.outcome.dues.items sound (may at)))

pub dues_owed-requires-clause-open : goal.dues_owed-requires-clause-open
dues_owed-requires-clause-open c =
    let x = c.self.inside in
    let a = c.args in
    let at = (goal.at.dues_owed-requires-clause-open c).After-prepare_end in
    let es = map (due_entry a.lane a.moment) a.outcome.dues.items in
    moved x.ledger c.prepare_end.new.ledger (λ (s : Setting) (h : List Entry). AllNameOpen s h es) c.prepare_end.ensures.same
    (begun_as a.self.now x (λ (s : Setting) (h : List Entry). AllNameOpen s h es) (begins at) c.requires.open)

pub invariant_of-self : goal.invariant_of-self
invariant_of-self c =
    (undecided c.args.self.now c.self.inside c.prepare_end.new.ledger c.self.inside.owed (begins (goal.at.invariant_of-self c).After-prepare_end) c.prepare_end.ensures.same refl).core

pub invariant_of-self-in_err-owed : goal.invariant_of-self-in_err-owed
invariant_of-self-in_err-owed c =
    (undecided c.args.self.now c.self.inside c.prepare_end.new.ledger c.self.inside.owed (begins (goal.at.invariant_of-self-in_err-owed c).After-prepare_end) c.prepare_end.ensures.same refl).core

pub invariant_of-self-in_err-push : goal.invariant_of-self-in_err-push
invariant_of-self-in_err-push c =
    (undecided c.args.self.now c.self.inside c.prepare_end.new.ledger c.self.inside.owed (begins (goal.at.invariant_of-self-in_err-push c).After-prepare_end) c.prepare_end.ensures.same refl).core

all_decided : (c : After-drop-replace)
    → Decided c.args.self.now (record c.self.inside { ledger = c.prepare_end.new.ledger; owed = c.replace.new.dest }) [] (Ended c.args.lane c.args.reply c.args.moment ∷ map (due_entry c.args.lane c.args.moment) c.args.outcome.dues.items)
all_decided c =
    let v = c.args.self.now in
    let x = c.self.inside in
    let a = c.args in
    let at = (goal.at.invariant_of-self-2 c).After-prepare_end in
    let b = begins at in
    let order : reverse c.replace.new.dest.items ≡ end_act a.lane a.reply a.outcome.verdict a.moment ∷ reverse c.in_ok-owed.owed.items =
    ap (λ (os : Vec Owed Global). reverse os.items) c.replace.ensures.after
    ∙ ap reverse c.in_ok-push.ensures.items
    ∙ reverse-append c.in_ok-owed.owed.items (end_act a.lane a.reply a.outcome.verdict a.moment ∷ []) in
    end_decided v x c.prepare_end.new.ledger c.replace.new.dest a.lane a.reply a.outcome.verdict a.outcome.window a.moment a.outcome.dues.items (reverse c.in_ok-owed.owed.items) b
    (record {
      sound = begun_sound v x b;
      same = c.prepare_end.ensures.same;
      room = subst (λ (n : ℕ). HasRoom c.prepare_end.new.ledger (n + 1)) (c.len.ensures ∙ a.outcome.dues.ok.0) c.in_ok-prepare_end.ensures.room;
      memory = c.in_ok-prepare_end.ensures.window;
      ruled = begun_as v x (λ (s : Setting) (h : List Entry). a.outcome.verdict ≡ verdict_after s h a.lane a.reply) b c.requires.verdict;
      may = may at;
      lines = c.requires.lines;
      prepared = begun_as v x (λ (s : Setting) (h : List Entry). PreparesEnd h a.lane a.outcome.window) b c.requires.prepared;
      states = c.requires.states;
      are = c.in_ok-owed.ensures;
    })
    order

pub invariant_of-self-2 : goal.invariant_of-self-2
invariant_of-self-2 c = (all_decided c).core

pub returns-clause-owes : goal.returns-clause-owes
returns-clause-owes c = (all_decided c).owes

pub returns-clause-undone : goal.returns-clause-undone
returns-clause-undone c = (all_decided c).undone

pub returns-clause-legal : goal.returns-clause-legal
returns-clause-legal c = (all_decided c).legal

pub returns-clause-settled : goal.returns-clause-settled
returns-clause-settled c = (all_decided c).settled
