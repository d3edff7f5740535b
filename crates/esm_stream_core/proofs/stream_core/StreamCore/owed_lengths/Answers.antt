use Rattle.std.proofs.Common.{◌∙◌, List, reverse, sym, ap, subst}
use Rattle.std.specs.Prelude.{All}
use Rattle.esm_ledger.specs.Ledger.{setting_of}
use Rattle.esm_stream_core.specs.declared.owed.Owed.{Owed}
use Rattle.esm_stream_core.specs.CoreView.{CoreView, setting_with, payloads_of}
use Rattle.esm_book.specs.Decided.{lengths_of}
use Rattle.esm_stream_core.specs.Acts.{parts_of, payloads_in, HasShortPayload}
use Rattle.esm_stream_core.proofs.Lengths.{payloads_written, short_payloads}
use Rattle.esm_stream_core.proofs.stream_core.StreamCore.owed_lengths.Goals as goal

pub lengths_in-requires : goal.lengths_in-requires
lengths_in-requires c =
    let x = c.self.inside in
    let s = setting_with (setting_of x.ledger) (parts_of (reverse x.coming.items)) in
    subst (λ (xs : List Owed). All HasShortPayload xs) (sym c.as_slice.ensures.value) (short_payloads s x.owed.items c.self.invariant.kept.written)

pub returns : goal.returns
returns c =
    let x = c.self.inside in
    let s = setting_with (setting_of x.ledger) (parts_of (reverse x.coming.items)) in
    c.in_ok-lengths.ensures
    ∙ ap (λ (xs : List Owed). lengths_of (payloads_in (reverse xs))) c.as_slice.ensures.value
    ∙ ap lengths_of (sym (payloads_written s (reverse x.owed.items) c.self.invariant.kept.written))
    ∙ ap (λ (v : CoreView). lengths_of (payloads_of v v.owed)) c.self.view_is
