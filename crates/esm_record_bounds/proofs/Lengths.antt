-- No payload of an entry that names few places is too long for a journal.
use Rattle.std.proofs.Common.{◌≡◌, ℕ, ◌*◌, ◌≤◌, true, List, [], ◌∷◌, ◌++◌, length, Option, Some, None, refl, arith}
use Rattle.std.specs.Prelude.{IfSome}
use Rattle.std.specs.List.{list_all}
use Rattle.std.proofs.lemmas.Bool.{and_parts}
use Rattle.std.proofs.lemmas.List.{length-append}
use Rattle.esm_model.specs.declared.limits.TheConstants.{MAX_PAYLOAD}
use Rattle.esm_model.specs.declared.entry.WindowState.{WindowState}
use Rattle.esm_model.specs.declared.entry.Entry.{Entry}
use Rattle.esm_model.specs.declared.entry.Entry.TheVariants.{Came, Began, Ended, Gave, Tried, Closed, Replayed, Shut}
use Rattle.esm_model.specs.Sequence.{is_sequence}
use Rattle.esm_model.specs.Valid.{IsStreamConfig}
use Rattle.esm_model.specs.Setting.{Setting, sequences_at}
use Rattle.esm_model.specs.Step.{Legal}
use Rattle.esm_journal_record.specs.Payload.{eight, four, fate_byte, flagged_bytes, text_bytes, name_bytes, names_bytes, named_bytes, payload_of, AreNamed, IsState}
use Rattle.esm_journal_record.specs.EntryPayload.{entry_said}
use Rattle.esm_record_bounds.specs.Bounds.{AreWithinBounds, AreCountedInFourBytes, FiltersFew}
use Rattle.esm_record_bounds.proofs.Lines.{sequence_short}
use Rattle.esm_record_bounds.proofs.Few.{NamesFew, names_few}
use Rattle.esm_record_bounds.proofs.Saying.{MayBeSaid, may_be_said}

four_size : (n : ℕ) → length (four n) ≡ 4
unfolding four
four_size n = refl

eight_size : (n : ℕ) → length (eight n) ≡ 8
unfolding eight
eight_size n = refl

-- a place, a length and a sequence number
names_size : (places : List ℕ) (texts : List (List ℕ)) → list_all is_sequence texts ≡ true → length (names_bytes places texts) ≤ length places * 134
names_size [] texts all = omega arith
names_size (place ∷ places) [] all = omega arith
names_size (place ∷ places) (text ∷ texts) all =
    let parts = and_parts (is_sequence text) (list_all is_sequence texts) all in
    omega (arith, length-append (name_bytes place text) (names_bytes places texts), length-append (four place) (length text ∷ text), four_size place, sequence_short text parts.0, names_size places texts parts.1)

named_size : (places : List ℕ) (texts : List (List ℕ)) → AreNamed is_sequence places texts → length places ≤ 10000 → length (named_bytes places texts) ≤ 1340004
unfolding named_bytes
named_size places texts named few =
    omega (arith, length-append (four (length places)) (names_bytes places texts), four_size (length places), names_size places texts named.spelled, few)

flagged_size : (state : Option WindowState) → IfSome state IsState → length (flagged_bytes state) ≤ 1048589
flagged_size None is = omega arith
flagged_size (Some state) is =
    omega (arith, length-append (eight state.window) (text_bytes state.text), eight_size state.window, length-append (four (length state.text)) state.text, four_size (length state.text), is.1)

-- of what is said of an entry
entry_size : (s : Setting) (e : Entry) → NamesFew e → MayBeSaid s e → IfSome (entry_said s e) (λ x. length (payload_of x) ≤ MAX_PAYLOAD)
entry_size s (Gave by shard places fate line state m) few is =
    let texts = sequences_at s shard places in
    let behind = flagged_bytes state ++ named_bytes places texts in
    omega (
      arith,
      length-append (eight shard) (fate_byte fate ∷ (eight m ++ behind)),
      eight_size shard,
      length-append (eight m) behind,
      eight_size m,
      length-append (flagged_bytes state) (named_bytes places texts),
      flagged_size state is.2,
      named_size places texts is.4 few,
    )
entry_size s (Tried lane places None tries m) few is =
    let named = named_bytes places (sequences_at s lane.shard places) in
    omega (
      arith,
      length-append (eight lane.shard) (eight m ++ (four tries ++ named)),
      eight_size lane.shard,
      length-append (eight m) (four tries ++ named),
      eight_size m,
      length-append (four tries) named,
      four_size tries,
      named_size places (sequences_at s lane.shard places) is.3 few,
    )
entry_size s (Tried lane places (Some window) tries m) few is =
    omega (
      arith,
      length-append (eight lane.shard) (eight window ++ (eight m ++ four tries)),
      eight_size lane.shard,
      length-append (eight window) (eight m ++ four tries),
      eight_size window,
      length-append (eight m) (four tries),
      eight_size m,
      four_size tries,
    )
entry_size s (Closed lane window m) few is =
    omega (arith, length-append (eight lane.shard) (eight window ++ eight m), eight_size lane.shard, length-append (eight window) (eight m), eight_size window, eight_size m)
entry_size s (Replayed shard places m) few is =
    let named = named_bytes places (sequences_at s shard places) in
    omega (
      arith,
      length-append (eight shard) (eight m ++ named),
      eight_size shard,
      length-append (eight m) named,
      eight_size m,
      named_size places (sequences_at s shard places) is.2 few,
    )
entry_size s (Came n first count m) few is = tt
entry_size s (Began lane places closing m) few is = tt
entry_size s (Ended lane reply m) few is = tt
entry_size s (Shut m) few is = tt

pub payload_short : (s : Setting) (h : List Entry) (e : Entry) → AreWithinBounds s → IsStreamConfig s.config → Legal s (e ∷ h) → AreCountedInFourBytes h → FiltersFew e → IfSome (entry_said s e) (λ x. length (payload_of x) ≤ MAX_PAYLOAD)
payload_short s h e bounds config legal counted few = entry_size s e (names_few s h e config legal few) (may_be_said s h e bounds legal counted)
