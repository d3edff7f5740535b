-- How far the input of a redrive was read, where want of memory stopped it.
use Rattle.std.proofs.Common.{◌≡◌, ◌∙◌, ℕ, Bool, true, false, List, [], ◌++◌, Option, Some, None, ap, append-nil, inl, inr, refl, subst, sym}
use Rattle.std.specs.Prelude.{◌⊎◌, IsSome}
use Rattle.esm_io.specs.Told.{IsAtEnd, TakesFront}
use Rattle.esm_model.specs.declared.config.Config.{Config}
use Rattle.esm_model.specs.declared.config.Start.{Start}
use Rattle.esm_model.specs.declared.entry.Entry.{Entry}
use Rattle.esm_model.specs.declared.item.Item.{Item}
use Rattle.esm_model.specs.declared.item.LineKind.{LineKind}
use Rattle.esm_model.specs.Coming.{AreSomeCome}
use Rattle.esm_input.specs.declared.ending.InputEnd.{InputEnd}
use Rattle.esm_input.specs.Positions.{from_start}
use Rattle.esm_input.specs.Reading.{EndsBy, InputState, StandsSo, handed, items_read}
use Rattle.esm_queue_book.specs.Coming.{messages_in_items}
use Rattle.esm_redrive_model.specs.RedriveSetting.{RedriveSetting}
use Rattle.esm_runner.specs.QueueEnded.{line_kind}
use Rattle.esm_serial.specs.declared.serial.Serial.{Ghosts as Serial}
use Rattle.esm_serial.specs.Ran as serial
use Rattle.esm_redrive_run.specs.Ended.{AllCame, HasNotCalled, HasReadAll, messages_read}
use Rattle.esm_redrive_run.specs.Headline.{Words}
use Rattle.esm_redrive_run.specs.Runs.{new_input}

-- the input was made for the configuration, over this source
pub record IsMadeFor {S : Type 0} (config : Config) (old : S) (i : InputState S) : Type 0 where
  pub kind : i.kind ≡ line_kind config
  pub factor : i.factor ≡ config.factor
  pub start : i.start ≡ config.start
  pub found : i.found ≡ old

pub made_for : {S : Type 0} (config : Config) (old : S) (begun i : InputState S) → begun ≡ new_input config old → serial.IsSameInput begun i → IsMadeFor config old i
made_for {S} config old begun i is same = record {
  kind = same.kind ∙ ap (λ (j : InputState S). j.kind) is;
  factor = same.factor ∙ ap (λ (j : InputState S). j.factor) is;
  start = same.start ∙ ap (λ (j : InputState S). j.start) is;
  found = same.found ∙ ap (λ (j : InputState S). j.found) is;
}

-- the messages of bytes, by the input and by the words
pub read_as : {S : Type 0} (w : Words) (old : S) (i : InputState S) (whole : Bool) (bytes : List ℕ) → IsMadeFor w.config old i → messages_in_items (from_start i.start (items_read i.kind i.factor whole bytes).items) ≡ messages_read w whole bytes
read_as w old i whole bytes made =
    ap (λ (k : LineKind). messages_in_items (from_start i.start (items_read k i.factor whole bytes).items)) made.kind
    ∙ (ap (λ (n : ℕ). messages_in_items (from_start i.start (items_read (line_kind w.config) n whole bytes).items)) made.factor
    ∙ ap (λ (s : Start). messages_in_items (from_start s (items_read (line_kind w.config) w.config.factor whole bytes).items)) made.start)

-- the reading's end, by the input and by the words
ends_as : {S : Type 0} (faults : S → ℕ) (w : Words) (old : S) (i : InputState S) (why : InputEnd) → IsMadeFor w.config old i → EndsBy i.kind i.factor (faults i.found) (faults i.source) i.whole i.bytes why
    → EndsBy (line_kind w.config) w.config.factor (faults old) (faults i.source) i.whole i.bytes why
ends_as {S} faults w old i why made ends =
    subst (λ (k : LineKind). EndsBy k w.config.factor (faults old) (faults i.source) i.whole i.bytes why) made.kind
    (subst (λ (n : ℕ). EndsBy i.kind n (faults old) (faults i.source) i.whole i.bytes why) made.factor
    (subst (λ (s : S). EndsBy i.kind i.factor (faults s) (faults i.source) i.whole i.bytes why) made.found ends))

some_end : (o : Option InputEnd) → IsSome o → (why : InputEnd) × (o ≡ Some why)
some_end (Some why) some = (why, refl)
some_end None some = absurd (let clash : false ≡ true = some in cc)

-- these bytes were read of the input, the items of their lines came, or the first of them, and what was called before
pub record IsReadSo {S : Type 0} (faults : S → ℕ) (left : S → Option (List ℕ)) (w : Words) (old : S) (i : InputState S) (came : ℕ → List Item) (s : RedriveSetting) (h : List Entry) : Type 0 where
  pub bytes : List ℕ
  pub more : List ℕ
  pub whole : Bool
  pub taken : TakesFront (left i.found) (left i.source) (bytes ++ more)
  pub at_end : whole ≡ true → IsAtEnd (left i.source)
  pub some : AreSomeCome came (from_start i.start (items_read i.kind i.factor whole bytes).items)
  pub after : HasReadAll faults w old i.source whole bytes more s h i.end ⊎ HasNotCalled h

pub read_whole : {B S : Type 0} (m : Serial B) (faults : S → ℕ) (left : S → Option (List ℕ)) (w : Words) (old : S) (i : InputState S) (b : B) (s : RedriveSetting) (h : List Entry) → IsMadeFor w.config old i → AllCame s h (messages_in_items (handed i)) → serial.WasRead m faults left b i
    → IsReadSo faults left w old i (m.items b) s h
read_whole m faults left w old i b s h made all was =
    let end = some_end i.end was.all.ended in
    record {
      bytes = i.bytes;
      more = [];
      whole = i.whole;
      taken = subst (TakesFront (left i.found) (left i.source)) (sym (append-nil i.bytes)) was.read.taken;
      at_end = was.read.at_end;
      some = λ n. ([], sym (was.all.items n) ∙ sym (append-nil (m.items b n)));
      after = inl (record {
        all = subst (AllCame s h) (read_as w old i i.whole i.bytes made) all;
        no_more = refl;
        why = end.0;
        read_to = end.1;
        ends = ends_as faults w old i end.0 made (subst (StandsSo i.kind i.factor (faults i.found) (faults i.source) i.whole i.bytes) end.1 (was.read.stands was.good));
      });
    }

pub read_in_part : {S : Type 0} (faults : S → ℕ) (left : S → Option (List ℕ)) (w : Words) (old : S) (i : InputState S) (came : ℕ → List Item) (s : RedriveSetting) (h : List Entry) → serial.IsCut left i came → HasNotCalled h → IsReadSo faults left w old i came s h
read_in_part faults left w old i came s h cut none = record {
  bytes = cut.bytes;
  more = cut.more;
  whole = cut.whole;
  taken = cut.taken;
  at_end = cut.at_end;
  some = cut.some;
  after = inr none;
}
