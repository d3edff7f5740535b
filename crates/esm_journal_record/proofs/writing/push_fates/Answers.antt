use Rattle.std.proofs.Common.{◌≡◌, length, ap, sym}
use Rattle.esm_model.specs.Sequence.{is_sequence}
use Rattle.esm_journal_record.specs.Payload.{names_bytes}
use Rattle.esm_journal_record.specs.Fronts.{fates_front}
use Rattle.esm_journal_record.proofs.WordLemmas.{all_short, sequence_short}
use Rattle.esm_journal_record.proofs.Fronts.{fates_join, behind}
use Rattle.esm_journal_record.proofs.writing.push_fates.Goals as goal

pub push_names-requires-clause-short : goal.push_names-requires-clause-short
push_names-requires-clause-short c = rw c.as_slice-3.ensures (all_short is_sequence sequence_short c.args.texts.now c.requires.4.spelled)

pub returns : goal.returns
returns c =
    let x = c.args in
    let count = length c.as_slice.result.now in
    let counted : length x.places.now ≡ count = ap length (sym c.as_slice.ensures) in
    let written = rw (c.as_slice-2.ensures, c.as_slice-3.ensures) at c.in_ok-push_names.ensures in
    behind x.out.now.items (fates_front x.shard x.fate x.moment x.state.now count) (names_bytes x.places.now x.texts.now) _ c.push_fates_front.new.out.items c.push_names.new.out.items
    c.in_ok-push_fates_front.ensures written (fates_join x.shard x.fate x.moment x.state.now count x.places.now x.texts.now counted)
