use Rattle.std.proofs.Common.{◌≡◌, ◌<◌, [], length, take, reverse, subst}
use Rattle.std.specs.List.{filter_map}
use Rattle.esm_model.specs.Books.{streams_told}
use Rattle.esm_stream_core.specs.CoreView.{CoreView, full_setting, payloads_of, HandFollows}
use Rattle.esm_journal_record.specs.EntryPayload.{entry_payload}
use Rattle.esm_stream_core.specs.Inside.{view_of}
use Rattle.esm_stream_core.specs.Told.{told_of}
use Rattle.esm_stream_core.proofs.ToldRecords.{streams_kept}
use Rattle.esm_stream_core.proofs.Bringing.{rests_brought, alone_written, first_alone}
use Rattle.esm_stream_core.proofs.Leaving.{hand_in}
use Rattle.esm_stream_core.proofs.stream_core.StreamCore.keeps.Goals as goal

pub returns-clause-records : goal.returns-clause-records
returns-clause-records c =
    subst (λ (v : CoreView). v.setting.streams ≡ streams_told (told_of v)) c.self.view_is (streams_kept (view_of c.self.inside) c.self.invariant.seen.told)

pub returns-clause-rests : goal.returns-clause-rests
returns-clause-rests c =
    let v = view_of c.self.inside in
    subst (λ (w : CoreView). w.owed ≡ [] → w.coming ≡ []) c.self.view_is (rests_brought v.past v.coming v.owed c.self.invariant.seen.brought)

pub returns-clause-first : goal.returns-clause-first
returns-clause-first c =
    let v = view_of c.self.inside in
    subst (λ (w : CoreView). payloads_of w (take 1 w.owed) ≡ filter_map (entry_payload w.setting) (take 1 w.owed)) c.self.view_is (first_alone v.setting v.past v.coming v.owed c.self.invariant.seen.brought)

pub returns-clause-alone : goal.returns-clause-alone
returns-clause-alone c =
    let v = view_of c.self.inside in
    subst (λ (w : CoreView). 0 < length (payloads_of w (take 1 w.owed)) → w.coming ≡ []) c.self.view_is (alone_written (full_setting v) v.past v.coming v.owed c.self.invariant.seen.brought)

pub returns-clause-hand : goal.returns-clause-hand
returns-clause-hand c =
    let x = c.self.inside in
    subst HandFollows c.self.view_is (hand_in x.ledger (reverse x.coming.items) (reverse x.owed.items) x.standing c.self.invariant.kept.stands)
