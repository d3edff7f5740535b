use Rattle.std.proofs.Common.{◌≡◌, ◌∙◌, ℕ, ◌<◌, true, List, length, refl, sym, ap, Option, Some, None}
use Rattle.std.specs.Prelude.{is_some}
use Rattle.esm_model.specs.Records.{Record}
use Rattle.esm_model.specs.declared.entry.Entry.{Entry}
use Rattle.esm_model.specs.Setting.{Setting, record_at}
use Rattle.esm_model.specs.Entries.{came_count, came_moment}
use Rattle.esm_model.specs.EventText.{record_text}
use Rattle.esm_model.specs.FailureLine.{arrival_at}
use Rattle.esm_model.specs.Step.{Legal}
use Rattle.esm_next.specs.declared.piece.SizedItem.{SizedItem}
use Rattle.esm_ledger.specs.Ledger.{past_of, setting_of}
use Rattle.esm_ledger.proofs.Ledgers.{own_legal}
use Rattle.esm_next.specs.Gathering.{element_bytes, window_in, piece_of}
use Rattle.esm_next.proofs.Bounds.{came_stands}
use Rattle.esm_next.proofs.batch.piece.Goals as goal

-- the bytes of a record that stands
bytes_are : (s : Setting) (n i bytes : ℕ) (o : Option Record) → record_at s n i ≡ o → is_some o ≡ true → ((r : Record) → o ≡ Some r → bytes ≡ length (record_text s.config r)) → bytes ≡ element_bytes s n i
bytes_are s n i bytes None is some each = cc
bytes_are s n i bytes (Some r) is some each =
    let here : element_bytes s n i ≡ length (record_text s.config r) = rw is refl in
    each r refl ∙ sym here

abbrev made : ℕ → ℕ → ℕ → ℕ → SizedItem
made b k a w = record { bytes = b; came = k; arrival = a; window = w }

piece_made : (s : Setting) (h : List Entry) (n i b k a w : ℕ) → Legal s h → i < came_count h n → ((r : Record) → record_at s n i ≡ Some r → b ≡ length (record_text s.config r)) → k ≡ came_moment h n i → a ≡ arrival_at s n i → w ≡ window_in s n i
    → made b k a w ≡ piece_of s h n i
piece_made s h n i b k a w legal came each moment arrival window =
    ap (λ (j : ℕ). made j k a w) (bytes_are s n i b (record_at s n i) refl (came_stands s h legal n i came) each)
    ∙ (ap (λ (j : ℕ). made (element_bytes s n i) j a w) moment
    ∙ (ap (λ (j : ℕ). made (element_bytes s n i) (came_moment h n i) j w) arrival
    ∙ ap (λ (j : ℕ). made (element_bytes s n i) (came_moment h n i) (arrival_at s n i) j) window))

pub returns : goal.returns
returns c =
    let s = setting_of c.args.ledger.now in
    let h = past_of c.args.ledger.now in
    piece_made s h c.args.shard c.args.place c.element_length.result c.came_moment.result c.arrival.result c.window_in.result (own_legal s h c.requires.kept.rests.legal) c.requires.came
    (λ r is. c.element_length.ensures r is) c.came_moment.ensures c.arrival.ensures c.window_in.ensures
