-- What the layer over devices tells of a call, in the words of replays.
use Rattle.std.proofs.Common.{◌≡◌, ℕ, List, ◌++◌, reverse, sym, ap, ap₂, ◌∙◌}
use Rattle.esm_io.specs.Meanings.{DiskMeaning, DestMeaning}
use Rattle.esm_journal.specs.Pair.{PairState}
use Rattle.esm_model.specs.Records.{Record}
use Rattle.esm_model.specs.declared.entry.Entry.{Entry}
use Rattle.esm_book.specs.declared.nowhere.Nowhere.{Nowhere}
use Rattle.esm_book.specs.Decided.{written_of}
use Rattle.esm_book.specs.Meanings.{CoreMeaning}
use Rattle.esm_book.specs.Growth.{LeavesFronts, OpensToFront}
use Rattle.esm_replay.specs.Records.{setting_with}
use Rattle.esm_replay_core.specs.declared.decisions.Opened.{Opened}
use Rattle.esm_replay_core.specs.declared.decisions.ReplayEntry.{ReplayEntry}
use Rattle.esm_replay_core.specs.View.{ReplayView, setting_of}
use Rattle.esm_replay_core.specs.Told.{history_of, owed_of, payload_in, no_line}
use Rattle.esm_replay_book.specs.Books.{BookState, payloads_in, OpensToFirst, LeavesFirst}
use Rattle.esm_replay_book.specs.Calls.{Added}
use Rattle.esm_replay_book.proofs.Entries.{records_in, entries_in, past_grows, records_grow, written-append}

-- how a core means its history and what it owes
abbrev pub replay_meaning : CoreMeaning ReplayView ReplayEntry
replay_meaning = record { history = history_of; owed = owed_of; payload = payload_in; line = no_line }

-- these entries went to the history, and their payloads to the journal
pub record Went {D : Type 0} (old new : BookState D) (X : List ReplayEntry) : Type 0 where
  pub history : history_of new.core ≡ reverse X ++ history_of old.core
  pub origin : new.core.opened ≡ old.core.opened
  pub payloads : new.pair.payloads ≡ old.pair.payloads ++ written_of payload_in X
  pub found : new.found ≡ old.found

-- the setting is as it was over the same records
pub same_setting : (v w : ReplayView) → v.opened ≡ w.opened → v.records ≡ w.records → setting_of v ≡ setting_of w
same_setting v w opened records = ap₂ (λ (o : Opened) (rs : List Record). setting_with o.config o.calls o.said o.ranges rs) opened records

-- what a crash leaves

pub opens_first : (n : DestMeaning Nowhere) (epoch : ℕ) (before : List (List ℕ)) (dest dest' : Nowhere) (X : List ReplayEntry) (payloads : List (List ℕ)) (one other : List ℕ) → written_of payload_in X ≡ payloads
    → OpensToFront replay_meaning n epoch before dest dest' X one other → OpensToFirst epoch before payloads one other
opens_first n epoch before dest dest' X payloads one other is o = record {
  front = written_of payload_in o.front;
  rest = written_of payload_in o.rest;
  split = sym (written-append o.front o.rest) ∙ (ap (written_of payload_in) o.split ∙ is);
  opens = o.opens;
}

pub leaves_first : {D : Type 0} (m : DiskMeaning D) (n : DestMeaning Nowhere) (pair pair' : PairState D) (dest dest' : Nowhere) (X : List ReplayEntry) (payloads : List (List ℕ)) → written_of payload_in X ≡ payloads
    → LeavesFronts replay_meaning m n pair pair' dest dest' X → LeavesFirst m pair pair' payloads
leaves_first m n pair pair' dest dest' X payloads is leaves honest spare one other i j =
    opens_first n pair.epoch pair.payloads dest dest' X payloads one other is (leaves honest spare one other i j)

-- what was added

pub added_so : {D : Type 0} (old new : BookState D) (X : List ReplayEntry) (records : List Record) (es : List Entry) → Went old new X → old.core.records ++ records_in X ≡ records → entries_in X ≡ es
    → written_of payload_in X ≡ payloads_in (setting_of new.core) es → Added records old new es
added_so old new X records es w came is written = record {
  past = past_grows old.core new.core X w.history ∙ ap (λ (xs : List Entry). reverse xs ++ old.core.past) is;
  records_are = records_grow old.core new.core X w.history ∙ came;
  opened = w.origin;
  payloads = w.payloads ∙ ap (λ (texts : List (List ℕ)). old.pair.payloads ++ texts) written;
  found = w.found;
}
