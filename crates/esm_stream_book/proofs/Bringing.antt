-- Which entries of a call bring records, and that all that are coming come with them.
use Rattle.std.proofs.Common.{◌≡◌, ℕ, Bool, true, false, cond, List, [], ◌∷◌, ◌++◌, map, length, reverse, refl, sym, ap, ◌∙◌, subst, inl, inr, arith, append_assoc, length-append, Option, Some, None}
use Rattle.std.specs.Prelude.{◌==◌, ⊤, if◌then◌else◌}
use Rattle.std.proofs.lemmas.Bool.{cases_Bool, eqb-true, false_from_ne_true}
use Rattle.std.proofs.lemmas.List.{reverse-append}
use Rattle.std.proofs.lemmas.List.Elements.{filter_map-append}
use Rattle.esm_model.specs.Records.{Record}
use Rattle.esm_model.specs.declared.lane.LaneId.{LaneId}
use Rattle.esm_model.specs.declared.entry.Entry.{Entry}
use Rattle.esm_model.specs.declared.entry.Entry.TheVariants as entry
use Rattle.esm_model.specs.declared.book.Next.{Next}
use Rattle.esm_model.specs.declared.book.Next.TheVariants as next
use Rattle.esm_model.specs.Setting.{Setting, Stream, records_in}
use Rattle.esm_model.specs.Entries.{holds, came_count}
use Rattle.esm_model.specs.Owed.{Debt, Success, GiveUp, Try, Close, debt_entry}
use Rattle.esm_model.specs.Books.{entry_line}
use Rattle.esm_model.proofs.Lists.{In, apart, Distinct}
use Rattle.esm_ledger.specs.Coming.{with_list, grown}
use Rattle.esm_ingest.specs.Entries.{came_part, came_parts, filtered_at, filtered_parts, part_entries}
use Rattle.esm_ingest.specs.Parts.{Part, parts_of}
use Rattle.esm_ingest.proofs.Places.{shards, Every, every_map, in_list, IsPartOf, parts_are, parts_distinct}
use Rattle.esm_next.specs.Following.{expiry_entries, next_entries}
use Rattle.esm_stream_core.specs.Calls.{streams_of}
use Rattle.esm_stream_core.specs.CoreView.{setting_with, lines_of}
use Rattle.esm_stream_book.proofs.Records.{names, AllCame}

-- the entry is no `Came`
abbrev pub BringsNone : Entry → Type 0
BringsNone (entry.Came shard first count moment) = ⊥
BringsNone _ = ⊤

abbrev pub BringNone : List Entry → Type 0
BringNone [] = ⊤
BringNone (e ∷ es) = BringsNone e × BringNone es

-- the entry is the `Came` of all these records
abbrev pub Brings : List Entry → Stream → Entry → Type 0
Brings h p (entry.Came shard first count moment) = (shard ≡ p.shard) × (first ≡ came_count h shard) × (count ≡ length p.records)
Brings h p _ = ⊥

-- the first of the entries bring the lists one by one, and the others bring none
abbrev pub BringAll : List Entry → List Stream → List Entry → Type 0
BringAll h [] es = BringNone es
BringAll h (p ∷ parts) [] = ⊥
BringAll h (p ∷ parts) (e ∷ es) = Brings h p e × BringAll (e ∷ h) parts es

-- an entry that brings none

stays_none : (s : Setting) (h : List Entry) (e : Entry) → BringsNone e → AllCame s h → AllCame s (e ∷ h)
stays_none s h (entry.Came k first count m) none all = absurd none
stays_none s h (entry.Began lane places closing m) none all = record { shards = all.shards; counted = all.counted }
stays_none s h (entry.Ended lane reply m) none all = record { shards = all.shards; counted = all.counted }
stays_none s h (entry.Gave by k places f line state m) none all = record { shards = all.shards; counted = all.counted }
stays_none s h (entry.Tried lane places closing t m) none all = record { shards = all.shards; counted = all.counted }
stays_none s h (entry.Closed lane w m) none all = record { shards = all.shards; counted = all.counted }
stays_none s h (entry.Replayed k places m) none all = record { shards = all.shards; counted = all.counted }
stays_none s h (entry.Shut m) none all = record { shards = all.shards; counted = all.counted }

-- an entry that brings records

names_list : (ts : List Stream) (n : ℕ) (rs : List Record) → names (with_list ts n rs) ≡ (if holds (names ts) n then names ts else names ts ++ n ∷ [])
names_list [] n rs = refl
names_list (t ∷ ts) n rs = elim (cases_Bool (t.shard == n)) [
  | inl here ↦ rw here refl
  | inr off ↦ rw off (ap (λ (ns : List ℕ). t.shard ∷ ns) (names_list ts n rs) ∙ front (holds (names ts) n))
]
  where
    front : (b : Bool) → t.shard ∷ cond b (names ts) (names ts ++ n ∷ []) ≡ cond b (t.shard ∷ names ts) (t.shard ∷ (names ts ++ n ∷ []))
    front true = refl
    front false = refl

counted_more : (s : Setting) (h : List Entry) (p : Stream) (first m : ℕ) → AllCame s h → (n : ℕ) → came_count (entry.Came p.shard first (length p.records) m ∷ h) n ≡ length (records_in (with_list s.streams p.shard p.records) n)
counted_more s h p first m all n =
    let before : came_count h n ≡ length (records_in s.streams n) = all.counted n in
    elim (cases_Bool (p.shard == n)) [
      | inl same ↦ (
          let now : records_in (with_list s.streams p.shard p.records) n ≡ records_in s.streams n ++ p.records = in_list s.streams p.shard p.records n ∙ rw same refl in
          rw same (rw now (omega (arith, before, length-append (records_in s.streams n) p.records))))
      | inr off ↦ (
          let now : records_in (with_list s.streams p.shard p.records) n ≡ records_in s.streams n = in_list s.streams p.shard p.records n ∙ rw off refl in
          rw off (rw now before))
    ]

came_with_all : (s : Setting) (h : List Entry) (p : Stream) (k first count m : ℕ) → k ≡ p.shard → count ≡ length p.records → AllCame s h → AllCame (grown s p.shard p.records) (entry.Came k first count m ∷ h)
came_with_all s h p k first count m shard_is count_is all =
    subst (λ (i : ℕ). AllCame (grown s p.shard p.records) (entry.Came k first i m ∷ h)) (sym count_is)
    (subst (λ (i : ℕ). AllCame (grown s p.shard p.records) (entry.Came i first (length p.records) m ∷ h)) (sym shard_is)
    (record {
      shards = names_list s.streams p.shard p.records ∙ ap (λ (ns : List ℕ). if holds ns p.shard then ns else ns ++ p.shard ∷ []) all.shards;
      counted = counted_more s h p first m all;
    }))

brought_one : (s : Setting) (h : List Entry) (p : Stream) (e : Entry) → Brings h p e → AllCame s h → AllCame (grown s p.shard p.records) (e ∷ h)
brought_one s h p (entry.Came k first count m) is all = came_with_all s h p k first count m is.0 is.2 all
brought_one s h p (entry.Began lane places closing m) is all = absurd is
brought_one s h p (entry.Ended lane reply m) is all = absurd is
brought_one s h p (entry.Gave by k places f line state m) is all = absurd is
brought_one s h p (entry.Tried lane places closing t m) is all = absurd is
brought_one s h p (entry.Closed lane w m) is all = absurd is
brought_one s h p (entry.Replayed k places m) is all = absurd is
brought_one s h p (entry.Shut m) is all = absurd is

-- all that is coming

pub regrouped : (e : Entry) (es h : List Entry) → reverse (e ∷ es) ++ h ≡ reverse es ++ (e ∷ h)
regrouped e es h = ap (λ (xs : List Entry). xs ++ h) (reverse-append (e ∷ []) es) ∙ append_assoc (reverse es) (e ∷ []) h

pub all_brought : (s : Setting) (h : List Entry) (parts : List Stream) (es : List Entry) → BringAll h parts es → AllCame s h → AllCame (setting_with s parts) (reverse es ++ h)
all_brought s h [] [] brought all = record { shards = all.shards; counted = all.counted }
all_brought s h [] (e ∷ es) brought all = subst (AllCame (setting_with s [])) (sym (regrouped e es h)) (all_brought s (e ∷ h) [] es brought.1 (stays_none s h e brought.0 all))
all_brought s h (p ∷ parts) [] brought all = absurd brought
all_brought s h (p ∷ parts) (e ∷ es) brought all =
    subst (AllCame (setting_with s (p ∷ parts))) (sym (regrouped e es h)) (all_brought (grown s p.shard p.records) (e ∷ h) parts es brought.1 (brought_one s h p e brought.0 all))

-- records that come

none_after : (es more : List Entry) → BringNone es → BringNone more → BringNone (es ++ more)
none_after [] more none rest = rest
none_after (e ∷ es) more none rest = (none.0, none_after es more none.1 rest)

filtered_none : (m n : ℕ) (places : List ℕ) → BringNone (filtered_at m n places)
filtered_none m n [] = tt
filtered_none m n (i ∷ places) = (tt, tt)

parts_none : (m : ℕ) (ps : List Part) → BringNone (filtered_parts m ps)
parts_none m [] = tt
parts_none m (p ∷ ps) = none_after (filtered_at m p.shard p.refused) (filtered_parts m ps) (filtered_none m p.shard p.refused) (parts_none m ps)

-- each part begins where the records of its shard end
abbrev StartNext : List Entry → List Part → Type 0
StartNext h ps = Every (λ (p : Part). p.first ≡ came_count h p.shard) ps

parts_come : (h : List Entry) (m : ℕ) (ps : List Part) (es : List Entry) → Distinct (shards ps) → StartNext h ps → BringNone es → BringAll h (streams_of ps) (came_parts m ps ++ es)
parts_come h m [] es d start none = none
parts_come h m (p ∷ ps) es d start none = (
  (refl, start.0, refl),
  parts_come (came_part m p ∷ h) m ps es d.1
      (every_map (λ (q : Part). q.first ≡ came_count h q.shard) (λ (q : Part). q.first ≡ came_count (came_part m p ∷ h) q.shard) ps
      (λ q member is.
      let off : (p.shard == q.shard) ≡ false = false_from_ne_true (p.shard == q.shard) (λ same. apart (shards ps) p.shard d.0 (subst (In (shards ps)) (sym (eqb-true p.shard q.shard same)) member)) in
      is ∙ rw off refl)
      start.1)
      none,
)

pub list_brings : (s : Setting) (h : List Entry) (items : List Record) (m : ℕ) → BringAll h (streams_of (parts_of s h items)) (part_entries m (parts_of s h items))
list_brings s h items m =
    let ps = parts_of s h items in
    parts_come h m ps (filtered_parts m ps) (parts_distinct s h items) (every_map (IsPartOf s h items) (λ (p : Part). p.first ≡ came_count h p.shard) ps (λ p member is. is.first) (parts_are s h items)) (parts_none m ps)

-- no failure line is delivered of them

lines_apart : (es more : List Entry) → lines_of es ≡ [] → lines_of more ≡ [] → lines_of (es ++ more) ≡ []
lines_apart es more none rest = filter_map-append entry_line es more ∙ (ap (λ (texts : List (List ℕ)). texts ++ lines_of more) none ∙ rest)

came_silent : (m : ℕ) (ps : List Part) → lines_of (came_parts m ps) ≡ []
came_silent m [] = refl
came_silent m (p ∷ ps) = came_silent m ps

filtered_silent : (m n : ℕ) (places : List ℕ) → lines_of (filtered_at m n places) ≡ []
filtered_silent m n [] = refl
filtered_silent m n (i ∷ places) = refl

all_filtered_silent : (m : ℕ) (ps : List Part) → lines_of (filtered_parts m ps) ≡ []
all_filtered_silent m [] = refl
all_filtered_silent m (p ∷ ps) = lines_apart (filtered_at m p.shard p.refused) (filtered_parts m ps) (filtered_silent m p.shard p.refused) (all_filtered_silent m ps)

pub parts_silent : (m : ℕ) (ps : List Part) → lines_of (part_entries m ps) ≡ []
parts_silent m ps = lines_apart (came_parts m ps) (filtered_parts m ps) (came_silent m ps) (all_filtered_silent m ps)

-- the end of a call, and what a batcher begins

pub debts_none : (s : Setting) (h : List Entry) (lane : LaneId) (m : ℕ) (debts : List Debt) → BringNone (map (debt_entry s h lane m) debts)
debts_none s h lane m [] = tt
debts_none s h lane m (Success places state ∷ debts) = (tt, debts_none s h lane m debts)
debts_none s h lane m (GiveUp places ∷ debts) = (tt, debts_none s h lane m debts)
debts_none s h lane m (Try places closing tries ∷ debts) = (tt, debts_none s h lane m debts)
debts_none s h lane m (Close window ∷ debts) = (tt, debts_none s h lane m debts)

expiry_none : (s : Setting) (h : List Entry) (m : ℕ) (lane : Option LaneId) → BringNone (expiry_entries s h m lane)
expiry_none s h m None = tt
expiry_none s h m (Some lane) = (tt, tt)

pub next_none : (s : Setting) (h : List Entry) (k m : ℕ) (n : Next) → BringNone (next_entries s h k m n)
next_none s h k m (next.Call job) = (tt, tt)
next_none s h k m (next.Gave count) = expiry_none s h m _
next_none s h k m (next.Idle until) = tt
next_none s h k m next.Spent = tt
next_none s h k m next.Finished = tt
