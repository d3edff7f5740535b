-- The entry in hand: the first owed one, where a disk of the journal failed; and the tried one, where the destination failed.
use Rattle.std.proofs.Common.{◌≡◌, ℕ, ◌<◌, List, [], ◌∷◌, length, take, refl, sym, ap, ◌∙◌, subst, arith, Option, Some, None}
use Rattle.std.specs.Prelude.{filter_map}
use Rattle.std.specs.List.{cons_option}
use Rattle.esm_model.specs.declared.book.Trouble.{Trouble}
use Rattle.esm_model.specs.declared.book.Trouble.TheVariants.{Disk, Dest, Changed}
use Rattle.esm_model.specs.declared.entry.Entry.{Entry}
use Rattle.esm_model.specs.declared.entry.Entry.TheVariants.{Came, Began, Ended, Gave, Tried, Closed, Replayed, Shut}
use Rattle.esm_model.specs.Books.{entry_line}
use Rattle.esm_model.specs.Setting.{Setting, Stream}
use Rattle.esm_journal_record.specs.EntryPayload.{entry_payload}
use Rattle.esm_book.specs.Decided.{written_of}
use Rattle.esm_book.specs.State.{in_hand, in_delivery}
use Rattle.esm_stream_core.specs.CoreView.{CoreView, full_setting, setting_with, MayFollowFront, HandFollows, lines_of}
use Rattle.esm_stream_core.specs.Told.{owed_of}
use Rattle.esm_stream_book.specs.Books.{payloads_in}
use Rattle.esm_stream_book.proofs.Entries.{take-entries}
use Rattle.esm_stream_book.proofs.Tellings.{payload_in, payloads_told}

-- none is, where nothing is owed
pub none_in_hand : (why : Option Trouble) (owed : List Entry) (e : Entry) → owed ≡ [] → in_hand why owed ≡ e ∷ [] → ⊥
none_in_hand None owed e none some = absurd (cc)
none_in_hand (Some Disk) [] e none some = absurd (cc)
none_in_hand (Some Disk) (x ∷ owed) e none some = absurd (cc)
none_in_hand (Some Dest) owed e none some = absurd (cc)
none_in_hand (Some (Changed change)) owed e none some = absurd (cc)

-- and none, where the destination failed
pub none_delivered : (why : Option Trouble) (owed : List Entry) (e : Entry) → why ≡ Some Dest → in_hand why owed ≡ e ∷ [] → ⊥
none_delivered why owed e is some =
    let never : ◌≡◌ {A = List Entry} [] (e ∷ []) = subst (λ (t : Option Trouble). in_hand t owed ≡ e ∷ []) is some in
    absurd (cc)

-- one whose payload was being written may follow a front of the history, over the records that came: no others are coming
pub hand_follows : (v : CoreView) (why : Option Trouble) (e : Entry) → HandFollows v → (0 < length (payloads_in (full_setting v) (take 1 v.owed)) → v.coming ≡ []) → 0 < length (written_of payload_in (take 1 (owed_of v)))
    → why ≡ Some Disk → in_hand why v.owed ≡ e ∷ [] → MayFollowFront v.setting v.past e
hand_follows v why e follows alone writing is some =
    let first : take 1 v.owed ≡ e ∷ [] = subst (λ (t : Option Trouble). in_hand t v.owed ≡ e ∷ []) is some in
    let written : 0 < length (payloads_in (full_setting v) (take 1 v.owed)) =
    subst (λ (texts : List (List ℕ)). 0 < length texts) (ap (written_of payload_in) (take-entries (full_setting v) v.owed) ∙ payloads_told (full_setting v) (take 1 v.owed)) writing in
    subst (λ (parts : List Stream). MayFollowFront (setting_with v.setting parts) v.past e) (alone written) (follows e first)

-- none is tried, where nothing is owed
pub none_in_delivery : (why : Option Trouble) (owed : List Entry) (e : Entry) → owed ≡ [] → in_delivery why owed ≡ e ∷ [] → ⊥
none_in_delivery None owed e none some = absurd (cc)
none_in_delivery (Some Disk) owed e none some = absurd (cc)
none_in_delivery (Some Dest) [] e none some = absurd (cc)
none_in_delivery (Some Dest) (x ∷ owed) e none some = absurd (cc)
none_in_delivery (Some (Changed change)) owed e none some = absurd (cc)

-- and none, where a disk failed
pub none_tried : (why : Option Trouble) (owed : List Entry) (e : Entry) → why ≡ Some Disk → in_delivery why owed ≡ e ∷ [] → ⊥
none_tried why owed e is some =
    let never : ◌≡◌ {A = List Entry} [] (e ∷ []) = subst (λ (t : Option Trouble). in_delivery t owed ≡ e ∷ []) is some in
    absurd (cc)

no_line : {A : Type 0} → 0 < 0 → A
no_line none = absurd (omega (arith, none))

-- an entry that has a line has a payload
lined_written : (s : Setting) (e : Entry) → 0 < length (lines_of (e ∷ [])) → 0 < length (payloads_in s (e ∷ []))
lined_written s (Came shard first count moment) lined = no_line lined
lined_written s (Began lane places closing moment) lined = no_line lined
lined_written s (Ended lane reply moment) lined = no_line lined
lined_written s (Gave by shard places fate line state moment) lined = omega arith
lined_written s (Tried lane places closing tries moment) lined = no_line lined
lined_written s (Closed lane window moment) lined = no_line lined
lined_written s (Replayed shard places moment) lined = no_line lined
lined_written s (Shut moment) lined = no_line lined

-- one whose line was being delivered may follow a front of the history, over the records that came
pub tried_follows : (v : CoreView) (why : Option Trouble) (e : Entry) → HandFollows v → (0 < length (payloads_in (full_setting v) (take 1 v.owed)) → v.coming ≡ []) → 0 < length (lines_of (take 1 v.owed))
    → why ≡ Some Dest → in_delivery why v.owed ≡ e ∷ [] → MayFollowFront v.setting v.past e
tried_follows v why e follows alone writing is some =
    let first : take 1 v.owed ≡ e ∷ [] = subst (λ (t : Option Trouble). in_delivery t v.owed ≡ e ∷ []) is some in
    let lined : 0 < length (lines_of (e ∷ [])) = subst (λ (es : List Entry). 0 < length (lines_of es)) first writing in
    let written : 0 < length (payloads_in (full_setting v) (take 1 v.owed)) =
    subst (λ (es : List Entry). 0 < length (payloads_in (full_setting v) es)) (sym first) (lined_written (full_setting v) e lined) in
    subst (λ (parts : List Stream). MayFollowFront (setting_with v.setting parts) v.past e) (alone written) (follows e first)

-- exactly one

one_has : (text : Entry → Option (List ℕ)) (e : Entry) (o : Option (List ℕ)) → text e ≡ o → 0 < length (cons_option o []) → (x : Entry) × (written : List ℕ) × (e ∷ [] ≡ x ∷ []) × (text x ≡ Some written)
one_has text e None is some = no_line some
one_has text e (Some written) is some = (e, written, refl, is)

-- the first of these entries, where something is written of it
first_has : (text : Entry → Option (List ℕ)) (es : List Entry) → 0 < length (filter_map text (take 1 es)) → (e : Entry) × (written : List ℕ) × (take 1 es ≡ e ∷ []) × (text e ≡ Some written)
first_has text [] some = no_line some
first_has text (e ∷ es) some = one_has text e (text e) refl some

-- is in hand where a disk failed, and its payload stands over the records that came
pub one_in_hand : (v : CoreView) (why : Option Trouble) → (0 < length (payloads_in (full_setting v) (take 1 v.owed)) → v.coming ≡ []) → 0 < length (written_of payload_in (take 1 (owed_of v)))
    → why ≡ Some Disk → (e : Entry) × (payload : List ℕ) × (in_hand why v.owed ≡ e ∷ []) × (entry_payload v.setting e ≡ Some payload)
one_in_hand v why alone writing is =
    let written : 0 < length (payloads_in (full_setting v) (take 1 v.owed)) =
    subst (λ (texts : List (List ℕ)). 0 < length texts) (ap (written_of payload_in) (take-entries (full_setting v) v.owed) ∙ payloads_told (full_setting v) (take 1 v.owed)) writing in
    let own : 0 < length (payloads_in v.setting (take 1 v.owed)) = subst (λ (parts : List Stream). 0 < length (payloads_in (setting_with v.setting parts) (take 1 v.owed))) (alone written) written in
    let first = first_has (entry_payload v.setting) v.owed own in
    (first.0, first.1, ap (λ (t : Option Trouble). in_hand t v.owed) is ∙ first.2, first.3)

-- and is tried where the destination failed
pub one_tried : (owed : List Entry) (why : Option Trouble) → 0 < length (lines_of (take 1 owed)) → why ≡ Some Dest → (e : Entry) × (line : List ℕ) × (in_delivery why owed ≡ e ∷ []) × (entry_line e ≡ Some line)
one_tried owed why writing is =
    let first = first_has entry_line owed writing in
    (first.0, first.1, ap (λ (t : Option Trouble). in_delivery t owed) is ∙ first.2, first.3)
