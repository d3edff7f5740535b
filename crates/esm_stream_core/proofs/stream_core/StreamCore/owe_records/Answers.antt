use Rattle.std.proofs.Common.{List, Vec, Global, map, refl, sym, subst}
use Rattle.esm_model.specs.declared.entry.Entry.{Entry}
use Rattle.esm_model.specs.Setting.{Setting}
use Rattle.esm_ledger.specs.declared.coming.Coming.{Coming}
use Rattle.esm_ingest.specs.Parts.{part}
use Rattle.esm_ingest.specs.Entries.{part_entries}
use Rattle.esm_stream_core.specs.declared.owed.Owed.{Owed}
use Rattle.esm_stream_core.specs.Calls.{streams_of}
use Rattle.esm_stream_core.specs.Gathered.{MayBring}
use Rattle.esm_stream_core.proofs.Deciding.{begun, begun_sound, begun_as, Decided, undecided}
use Rattle.esm_stream_core.proofs.Arrivals.{arrival_decided}
use Rattle.esm_stream_core.proofs.stream_core.StreamCore.owe_records.Goals as goal
use Rattle.esm_stream_core.proofs.stream_core.StreamCore.owe_records.Goals.{After-drop-replace-2}

pub prepare_arrival-requires-clause-kept : goal.prepare_arrival-requires-clause-kept
prepare_arrival-requires-clause-kept c =
    (begun_sound c.args.self.now c.self.inside (begun c.args.self.now c.self.inside c.self.view_is c.requires.settled c.self.invariant c.requires.whole)).keeps

pub prepare_arrival-requires-clause-bounds : goal.prepare_arrival-requires-clause-bounds
prepare_arrival-requires-clause-bounds c =
    (begun_sound c.args.self.now c.self.inside (begun c.args.self.now c.self.inside c.self.view_is c.requires.settled c.self.invariant c.requires.whole)).bounds

pub prepare_arrival-requires-clause-may : goal.prepare_arrival-requires-clause-may
prepare_arrival-requires-clause-may c =
    begun_as c.args.self.now c.self.inside (λ (s : Setting) (h : List Entry). MayBring s h (map part c.args.parts.items) c.args.moment)
    (begun c.args.self.now c.self.inside c.self.view_is c.requires.settled c.self.invariant c.requires.whole) c.requires.may

pub invariant_of-self : goal.invariant_of-self
invariant_of-self c =
    let b = begun c.args.self.now c.self.inside c.self.view_is c.requires.settled c.self.invariant c.requires.whole in
    (undecided c.args.self.now c.self.inside c.prepare_arrival.new.ledger c.self.inside.owed b c.prepare_arrival.ensures.same refl).core

all_decided : (c : After-drop-replace-2)
    → Decided c.args.self.now (record c.self.inside { ledger = c.prepare_arrival.new.ledger; coming = c.replace-2.new.dest; owed = c.replace.new.dest }) (streams_of (map part c.args.parts.items)) (part_entries c.args.moment (map part c.args.parts.items))
all_decided c =
    let a = c.args in
    let x = c.self.inside in
    let d = c.prepare_arrival.new.ledger in
    let ps = map part a.parts.items in
    let arrived = c.in_ok-arrived.arrived in
    let ok = c.in_ok-arrived.ensures in
    subst (λ (zs : Vec Coming Global). Decided a.self.now (record x { ledger = d; coming = zs; owed = c.replace.new.dest }) (streams_of ps) (part_entries a.moment ps)) (sym c.replace-2.ensures.after)
    (subst (λ (ys : Vec Owed Global). Decided a.self.now (record x { ledger = d; coming = arrived.coming; owed = ys }) (streams_of ps) (part_entries a.moment ps)) (sym c.replace.ensures.after)
    (arrival_decided a.self.now x d arrived.coming arrived.owed ps a.moment (begun a.self.now x c.self.view_is c.requires.settled c.self.invariant c.requires.whole) c.requires.may ok.decides ok.coming ok.owed))

pub invariant_of-self-2 : goal.invariant_of-self-2
invariant_of-self-2 c = (all_decided c).core

pub returns-clause-owes : goal.returns-clause-owes
returns-clause-owes c = (all_decided c).owes

pub returns-clause-undone : goal.returns-clause-undone
returns-clause-undone c = (all_decided c).undone

pub returns-clause-legal : goal.returns-clause-legal
returns-clause-legal c = (all_decided c).legal

pub returns-clause-settled : goal.returns-clause-settled
returns-clause-settled c = (all_decided c).settled
