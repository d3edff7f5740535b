-- What may be written of entries, and what is written of them.
use Rattle.std.proofs.Common.{◌≡◌, ℕ, ◌≤◌, List, [], ◌∷◌, length, refl, sym, ap₂, subst, Option, Some, None}
use Rattle.std.specs.Prelude.{IfSome, option_map}
use Rattle.esm_model.specs.declared.limits.TheConstants.{MAX_PAYLOAD}
use Rattle.esm_model.specs.declared.lane.LaneId.{LaneId}
use Rattle.esm_model.specs.declared.entry.Entry.{Entry}
use Rattle.esm_model.specs.Setting.{Setting}
use Rattle.esm_model.specs.Valid.{IsStreamConfig}
use Rattle.esm_model.specs.Step.{Legal}
use Rattle.esm_model.specs.Books.{entry_line}
use Rattle.esm_journal_record.specs.declared.said.Said.{Said}
use Rattle.esm_journal_record.specs.Payload.{payload_of, IsSaid}
use Rattle.esm_journal_record.specs.EntryPayload.{entry_said, entry_payload, AllMayBeSaid}
use Rattle.esm_record_bounds.specs.Bounds.{AreWithinBounds, AreCountedInFourBytes, FiltersFew}
use Rattle.esm_outcome.specs.declared.outcome.Due.{Due}
use Rattle.esm_outcome.specs.declared.outcome.Due.TheVariants as due
use Rattle.esm_outcome.specs.Dues.{due_entry}
use Rattle.esm_stream_core.specs.declared.owed.Act.{Act}
use Rattle.esm_stream_core.specs.declared.owed.Owed.{Owed}
use Rattle.esm_stream_core.specs.Acts.{act_entry, IsWritten, IsWritable, AreWritable, AreNext, due_act}

-- entries that may follow a history

each_some : (o : Option (List ℕ)) (P : List ℕ → Type 0) → ((x : List ℕ) → o ≡ Some x → P x) → IfSome o P
each_some None P each = tt
each_some (Some x) P each = each x refl

pub next_writable : ((s : Setting) (h : List Entry) → AreWithinBounds s → Legal s h → AreCountedInFourBytes h → AllMayBeSaid s h)
    → ((s : Setting) (h : List Entry) (e : Entry) → AreWithinBounds s → IsStreamConfig s.config → Legal s (e ∷ h) → AreCountedInFourBytes h → FiltersFew e → IfSome (entry_said s e) (λ said. length (payload_of said) ≤ MAX_PAYLOAD))
    → ((s : Setting) (h : List Entry) (e : Entry) (line : List ℕ) → AreWithinBounds s → IsStreamConfig s.config → Legal s (e ∷ h) → entry_line e ≡ Some line → length line ≤ MAX_PAYLOAD)
    → (s : Setting) (h es : List Entry) → AreWithinBounds s → IsStreamConfig s.config → AreNext s h es → AreWritable s es
next_writable said short line s h [] bounds config next = tt
next_writable said short line s h (e ∷ es) bounds config next =
    let x = next.0 in (
      record {
        said = (said s (e ∷ h) bounds x.legal x.after).1;
        short = short s h e bounds config x.legal x.before x.few;
        line = each_some (entry_line e) (λ (bytes : List ℕ). length bytes ≤ MAX_PAYLOAD) (λ bytes is. line s h e bytes bounds config x.legal is);
        in_time = x.legal.1.0.within;
      },
      next_writable said short line s (e ∷ h) es bounds config next.1,
    )

-- what is written

pub said_is : (s : Setting) (e : Entry) (said : Said) → IsWritable s e → entry_said s e ≡ Some said → IsSaid said
said_is s e said w is = subst (λ (o : Option Said). IfSome o IsSaid) is w.said

short_said : (o : Option Said) → IfSome o (λ (y : Said). length (payload_of y) ≤ MAX_PAYLOAD) → IfSome (option_map payload_of o) (λ (bytes : List ℕ). length bytes ≤ MAX_PAYLOAD)
short_said None short = tt
short_said (Some y) short = short

pub written_with : (s : Setting) (o : Owed) (a : Act) (bytes : List ℕ) → IsWritable s (act_entry a) → entry_payload s (act_entry a) ≡ Some bytes → o.act ≡ a → o.payload ≡ Some bytes → IsWritten s o
written_with s o a bytes w is act payload =
    subst (λ (x : Owed). IsWritten s x) (sym (ap₂ (λ (b : Act) (p : Option (List ℕ)). record { act = b; payload = p }) act payload))
    (record {
      payload = is;
      short = subst (λ (p : Option (List ℕ)). IfSome p (λ (x : List ℕ). length x ≤ MAX_PAYLOAD)) is (short_said (entry_said s (act_entry a)) w.short);
      line = w.line;
      in_time = w.in_time;
    })

-- what the end of a call calls for
pub due_act_entry : (lane : LaneId) (m : ℕ) (d : Due) → act_entry (due_act lane m d) ≡ due_entry lane m d
due_act_entry lane m (due.Gave places fate line state) = refl
due_act_entry lane m (due.Tried places closing tries) = refl
due_act_entry lane m (due.Closed window) = refl
