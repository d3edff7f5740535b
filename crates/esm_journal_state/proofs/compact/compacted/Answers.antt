use Rattle.std.proofs.Common.{◌∙◌, ◌≤◌, ap, sym, subst, length}
use Rattle.std.specs.List.{All}
use Rattle.std.specs.Prelude.{reverse, map}
use Rattle.esm_journal_record.specs.Payload.{payload_of}
use Rattle.esm_journal_state.specs.Meaning.{history}
use Rattle.esm_journal_state.proofs.Histories.{good_from}
use Rattle.esm_model.specs.declared.limits.TheConstants.{MAX_PAYLOAD}
use Rattle.esm_journal_state.proofs.Compacting.{all_may, compacts}
use Rattle.esm_journal_state.proofs.Lengths.{compacted_short}
use Rattle.esm_journal_state.proofs.Determined.{same_told}
use Rattle.esm_journal_state.proofs.compact.compacted.Goals as goal

pub payloads_of-requires : goal.payloads_of-requires
payloads_of-requires c =
    let h = history (reverse c.args.payloads.now) in
    let listed = c.in_ok-saids.ensures h c.in_ok-table.ensures.table c.in_ok-moment.ensures.moment in
    rw c.deref.ensures.value (all_may h c.in_ok-saids.saids.items listed c.in_ok-moment.ensures.said)

pub returns-clause-listed : goal.returns-clause-listed
returns-clause-listed c =
    let h = history (reverse c.args.payloads.now) in
    (c.in_ok-saids.saids.items, c.in_ok-saids.ensures h c.in_ok-table.ensures.table c.in_ok-moment.ensures.moment, c.in_ok-payloads_of.ensures ∙ ap (map payload_of) c.deref.ensures.value)

pub returns-clause-same : goal.returns-clause-same
returns-clause-same c =
    let h = history (reverse c.args.payloads.now) in
    let listed = c.in_ok-saids.ensures h c.in_ok-table.ensures.table c.in_ok-moment.ensures.moment in
    (compacts c.read_again.ensures h c.in_ok-saids.saids.items c.in_ok-payloads_of.field-0.items listed c.in_ok-moment.ensures.said (good_from (reverse c.args.payloads.now) c.in_ok-table.ensures.good)
    (c.in_ok-payloads_of.ensures ∙ ap (map payload_of) c.deref.ensures.value)).1

pub returns-clause-fine : goal.returns-clause-fine
returns-clause-fine c =
    let h = history (reverse c.args.payloads.now) in
    let listed = c.in_ok-saids.ensures h c.in_ok-table.ensures.table c.in_ok-moment.ensures.moment in
    (compacts c.read_again.ensures h c.in_ok-saids.saids.items c.in_ok-payloads_of.field-0.items listed c.in_ok-moment.ensures.said (good_from (reverse c.args.payloads.now) c.in_ok-table.ensures.good)
    (c.in_ok-payloads_of.ensures ∙ ap (map payload_of) c.deref.ensures.value)).0

pub returns-clause-equal : goal.returns-clause-equal
returns-clause-equal c = λ t u tells order told orders.
    let h = history (reverse c.args.payloads.now) in
    let listed = c.in_ok-saids.ensures h c.in_ok-table.ensures.table c.in_ok-moment.ensures.moment in
    let same = (compacts c.read_again.ensures h c.in_ok-saids.saids.items c.in_ok-payloads_of.field-0.items listed c.in_ok-moment.ensures.said (good_from (reverse c.args.payloads.now) c.in_ok-table.ensures.good)
    (c.in_ok-payloads_of.ensures ∙ ap (map payload_of) c.deref.ensures.value)).1 in
    same_told t u (history (reverse c.in_ok-payloads_of.field-0.items)) h tells told same order orders

pub returns-clause-short : goal.returns-clause-short
returns-clause-short c =
    let h = history (reverse c.args.payloads.now) in
    let listed = c.in_ok-saids.ensures h c.in_ok-table.ensures.table c.in_ok-moment.ensures.moment in
    subst (All (λ payload. length payload ≤ MAX_PAYLOAD)) (sym (c.in_ok-payloads_of.ensures ∙ ap (map payload_of) c.deref.ensures.value)) (compacted_short h c.in_ok-saids.saids.items listed c.in_ok-moment.ensures.said)
