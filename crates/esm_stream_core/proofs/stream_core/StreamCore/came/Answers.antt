use Rattle.std.proofs.Common.{◌≡◌, ◌∙◌, None, map, sym, refl, ap, subst}
use Rattle.esm_ledger.specs.Ledger.{past_of, setting_of}
use Rattle.esm_ingest.specs.Coming.{FitPlaces}
use Rattle.esm_ingest.specs.Changes.{first_change}
use Rattle.esm_ingest.specs.Parts.{part}
use Rattle.esm_stream_core.specs.Calls.{moment_for}
use Rattle.esm_stream_core.specs.Inside.{view_of}
use Rattle.esm_stream_core.proofs.Deciding.{ledger_of}
use Rattle.esm_stream_core.proofs.Ledgers.{moment_is, is_later, may_come, none_differs, owes_came}
use Rattle.esm_stream_core.proofs.stream_core.StreamCore.came.Goals as goal

pub fit_places-requires : goal.fit_places-requires
fit_places-requires c = (ledger_of (view_of c.self.inside) c.self.inside refl c.self.invariant (sym c.is_whole.ensures ∙ c.if-not-is_whole.false)).keeps

pub first_change-requires-clause-kept : goal.first_change-requires-clause-kept
first_change-requires-clause-kept c = (ledger_of (view_of c.self.inside) c.self.inside refl c.self.invariant (sym c.is_whole.ensures ∙ c.if-not-is_whole.false)).keeps

pub by_shard-requires-clause-kept : goal.by_shard-requires-clause-kept
by_shard-requires-clause-kept c = (ledger_of (view_of c.self.inside) c.self.inside refl c.self.invariant (sym c.is_whole.ensures ∙ c.if-not-is_whole.false)).keeps

pub by_shard-requires-clause-judged : goal.by_shard-requires-clause-judged
by_shard-requires-clause-judged c = c.self.invariant.seen.judges

pub by_shard-requires-clause-places : goal.by_shard-requires-clause-places
by_shard-requires-clause-places c = subst (FitPlaces (past_of c.self.inside.ledger)) c.as_slice.ensures.value (c.fit_places.ensures c.if-not-fit_places.false)

pub owe_records-requires-clause-may : goal.owe_records-requires-clause-may
owe_records-requires-clause-may c =
    let x = c.self.inside in
    let v = c.args.self.now in
    let s = setting_of x.ledger in
    let h = past_of x.ledger in
    let items = c.args.items.items in
    let m = c.raised_to-now.result in
    let is = ledger_of v x c.self.view_is c.self.invariant (sym c.is_whole.ensures ∙ c.if-not-is_whole.false) in
    let told : c.in_ok-told.field-0 ≡ None = c.in_default.is in
    let same : first_change s h items ≡ None = ap (first_change s h) (sym c.as_slice-2.ensures.value) ∙ (sym c.in_ok-told.ensures ∙ told) in
    let fits : FitPlaces h items = subst (FitPlaces h) c.as_slice.ensures.value (c.fit_places.ensures c.if-not-fit_places.false) in
    may_come v x.ledger items (map part c.in_ok-parts.parts.items) m is c.requires.going (is_later v x m c.self.view_is c.self.invariant c.raised_to-now.ensures.goes_on c.raised_to-now.ensures.in_time) same c.requires.valid c.requires.few fits c.in_ok-parts.ensures.parts

pub returns-clause-owes : goal.returns-clause-owes
returns-clause-owes c =
    let v = c.args.self.now in
    let x = c.self.inside in
    let m = c.raised_to-now.result in
    let ps = map part c.in_ok-parts.parts.items in
    owes_came v c.owe_records.new.self x.ledger c.args.items.items ps m (moment_for v.past c.args.moment)
    (ledger_of v x c.self.view_is c.self.invariant (sym c.is_whole.ensures ∙ c.if-not-is_whole.false)) c.in_ok-parts.ensures.parts
    (moment_is v x c.args.moment m c.self.view_is c.self.invariant c.raised_to-now.ensures.value)
    c.in_ok-owe_records.ensures.owes

pub returns-clause-same : goal.returns-clause-same
returns-clause-same c =
    let x = c.self.inside in
    let s = setting_of x.ledger in
    let h = past_of x.ledger in
    let told : c.in_ok-told.field-0 ≡ None = c.in_default.is in
    none_differs c.args.self.now x.ledger c.args.items.items (ledger_of c.args.self.now x c.self.view_is c.self.invariant (sym c.is_whole.ensures ∙ c.if-not-is_whole.false))
    (ap (first_change s h) (sym c.as_slice-2.ensures.value) ∙ (sym c.in_ok-told.ensures ∙ told))

pub returns-clause-before : goal.returns-clause-before
returns-clause-before c = (ledger_of c.args.self.now c.self.inside c.self.view_is c.self.invariant (sym c.is_whole.ensures ∙ c.if-not-is_whole.false)).legal
