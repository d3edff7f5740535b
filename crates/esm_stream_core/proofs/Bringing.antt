-- What stays true of the records that came to a core, and of those that are coming, entry by entry.
use Rattle.std.proofs.Common.{◌≡◌, ℕ, ◌<◌, Bool, true, false, cond, List, [], ◌∷◌, ◌++◌, map, length, take, drop, refl, sym, ap, ◌∙◌, subst, inl, inr, arith, length-append}
use Rattle.std.specs.Prelude.{◌==◌, if◌then◌else◌}
use Rattle.std.specs.List.{filter_map}
use Rattle.std.proofs.lemmas.Bool.{cases_Bool, eqb-true, false_from_ne_true}
use Rattle.esm_model.specs.Records.{Record}
use Rattle.esm_model.specs.declared.lane.LaneId.{LaneId}
use Rattle.esm_model.specs.declared.entry.Entry.{Entry}
use Rattle.esm_model.specs.declared.entry.Entry.TheVariants as entry
use Rattle.esm_model.specs.Setting.{Setting, Stream, records_in}
use Rattle.esm_model.specs.Entries.{holds, came_after, came_count, shards_that_came}
use Rattle.esm_model.proofs.Lists.{In, apart, Distinct}
use Rattle.esm_ledger.specs.Coming.{with_list, grown}
use Rattle.esm_ingest.specs.Entries.{came_part, came_parts, filtered_at, filtered_parts, part_entries}
use Rattle.esm_ingest.specs.Parts.{Part}
use Rattle.esm_ingest.proofs.Places.{shards, Every, every_map, in_list}
use Rattle.esm_outcome.specs.declared.outcome.Due.{Due}
use Rattle.esm_outcome.specs.declared.outcome.Due.TheVariants.{Gave, Tried, Closed}
use Rattle.esm_outcome.specs.Dues.{due_entry}
use Rattle.esm_stream_core.specs.Calls.{streams_of}
use Rattle.esm_stream_core.specs.CoreView.{setting_after, setting_with}
use Rattle.esm_journal_record.specs.EntryPayload.{entry_payload}
use Rattle.esm_stream_core.specs.Inside.{GoesOn, AreTold, BringsNone, BringNone, Brings, BringAll}

-- an entry that brings none

pub record StaysOver (h : List Entry) (e : Entry) : Type 0 where
  pub counted : (n : ℕ) → came_count (e ∷ h) n ≡ came_count h n
  pub shards : shards_that_came (e ∷ h) ≡ shards_that_came h
  pub goes_on : GoesOn h e

pub stays_over : (h : List Entry) (e : Entry) → BringsNone e → StaysOver h e
stays_over h (entry.Came k first count m) none = absurd none
stays_over h (entry.Began lane places closing m) none = record { counted = λ n. refl; shards = refl; goes_on = tt }
stays_over h (entry.Ended lane reply m) none = record { counted = λ n. refl; shards = refl; goes_on = tt }
stays_over h (entry.Gave by k places f line state m) none = record { counted = λ n. refl; shards = refl; goes_on = tt }
stays_over h (entry.Tried lane places closing t m) none = record { counted = λ n. refl; shards = refl; goes_on = tt }
stays_over h (entry.Closed lane w m) none = record { counted = λ n. refl; shards = refl; goes_on = tt }
stays_over h (entry.Replayed k places m) none = record { counted = λ n. refl; shards = refl; goes_on = tt }
stays_over h (entry.Shut m) none = record { counted = λ n. refl; shards = refl; goes_on = tt }

pub told_alone : (s : Setting) (h : List Entry) (e : Entry) → BringsNone e → AreTold s h → AreTold s (e ∷ h)
told_alone s h e none told =
    let stays = stays_over h e none in
    record {
      shards = told.shards ∙ sym stays.shards;
      counted = λ n. stays.counted n ∙ told.counted n;
      go_on = (stays.goes_on, told.go_on);
    }

-- an entry that brings records

names_list : (ts : List Stream) (n : ℕ) (rs : List Record)
    → map (λ (t : Stream). t.shard) (with_list ts n rs) ≡ (if holds (map (λ (t : Stream). t.shard) ts) n then map (λ (t : Stream). t.shard) ts else map (λ (t : Stream). t.shard) ts ++ n ∷ [])
names_list [] n rs = refl
names_list (t ∷ ts) n rs = elim (cases_Bool (t.shard == n)) [
  | inl here ↦ rw here refl
  | inr off ↦ rw off (ap (λ (ns : List ℕ). t.shard ∷ ns) (names_list ts n rs) ∙ front (holds (map (λ (u : Stream). u.shard) ts) n))
]
  where
    front : (b : Bool) → t.shard ∷ cond b (map (λ (u : Stream). u.shard) ts) (map (λ (u : Stream). u.shard) ts ++ n ∷ []) ≡ cond b (t.shard ∷ map (λ (u : Stream). u.shard) ts) (t.shard ∷ (map (λ (u : Stream). u.shard) ts ++ n ∷ []))
    front true = refl
    front false = refl

counted_more : (s : Setting) (h : List Entry) (p : Stream) (first m : ℕ) → AreTold s h → (n : ℕ) → came_count (entry.Came p.shard first (length p.records) m ∷ h) n ≡ length (records_in (with_list s.streams p.shard p.records) n)
counted_more s h p first m told n =
    let before : came_count h n ≡ length (records_in s.streams n) = told.counted n in
    elim (cases_Bool (p.shard == n)) [
      | inl same ↦ (
          let now : records_in (with_list s.streams p.shard p.records) n ≡ records_in s.streams n ++ p.records = in_list s.streams p.shard p.records n ∙ rw same refl in
          rw same (rw now (omega (arith, before, length-append (records_in s.streams n) p.records))))
      | inr off ↦ (
          let now : records_in (with_list s.streams p.shard p.records) n ≡ records_in s.streams n = in_list s.streams p.shard p.records n ∙ rw off refl in
          rw off (rw now before))
    ]

told_came : (s : Setting) (h : List Entry) (p : Stream) (k first count m : ℕ) → k ≡ p.shard → first ≡ came_count h k → count ≡ length p.records → AreTold s h → AreTold (grown s p.shard p.records) (entry.Came k first count m ∷ h)
told_came s h p k first count m shard_is first_is count_is told =
    subst (λ (i : ℕ). AreTold (grown s p.shard p.records) (entry.Came k first i m ∷ h)) (sym count_is)
    (subst (λ (i : ℕ). first ≡ came_count h i → AreTold (grown s p.shard p.records) (entry.Came i first (length p.records) m ∷ h)) (sym shard_is)
    (λ start. record {
      shards = names_list s.streams p.shard p.records ∙ ap (λ (ns : List ℕ). if holds ns p.shard then ns else ns ++ p.shard ∷ []) told.shards;
      counted = counted_more s h p first m told;
      go_on = (start, told.go_on);
    }) first_is)

pub told_brought : (s : Setting) (h : List Entry) (p : Stream) (e : Entry) → Brings h p e → AreTold s h → AreTold (grown s p.shard p.records) (e ∷ h)
told_brought s h p (entry.Came k first count m) is told = told_came s h p k first count m is.0 is.1 is.2 told
told_brought s h p (entry.Began lane places closing m) is told = absurd is
told_brought s h p (entry.Ended lane reply m) is told = absurd is
told_brought s h p (entry.Gave by k places f line state m) is told = absurd is
told_brought s h p (entry.Tried lane places closing t m) is told = absurd is
told_brought s h p (entry.Closed lane w m) is told = absurd is
told_brought s h p (entry.Replayed k places m) is told = absurd is
told_brought s h p (entry.Shut m) is told = absurd is

-- the first owed entry is added

pub told_paid : (s : Setting) (h : List Entry) (parts : List Stream) (es : List Entry) → 0 < length es → BringAll h parts es → AreTold s h → AreTold (setting_after s parts) (take 1 es ++ h)
told_paid s h [] [] some brought told = absurd (omega (arith, some))
told_paid s h [] (e ∷ es) some brought told = told_alone s h e brought.0 told
told_paid s h (p ∷ parts) [] some brought told = absurd brought
told_paid s h (p ∷ parts) (e ∷ es) some brought told = told_brought s h p e brought.0 told

pub brought_paid : (h : List Entry) (parts : List Stream) (es : List Entry) → 0 < length es → BringAll h parts es → BringAll (take 1 es ++ h) (drop 1 parts) (drop 1 es)
brought_paid h [] [] some brought = absurd (omega (arith, some))
brought_paid h [] (e ∷ es) some brought = brought.1
brought_paid h (p ∷ parts) [] some brought = absurd brought
brought_paid h (p ∷ parts) (e ∷ es) some brought = brought.1

-- an entry is added past what is owed

brings_same : (h g : List Entry) (p : Stream) (e : Entry) → ((n : ℕ) → came_count g n ≡ came_count h n) → Brings h p e → Brings g p e
brings_same h g p (entry.Came k first count m) same is = (is.0, is.1 ∙ sym (same k), is.2)
brings_same h g p (entry.Began lane places closing m) same is = absurd is
brings_same h g p (entry.Ended lane reply m) same is = absurd is
brings_same h g p (entry.Gave by k places f line state m) same is = absurd is
brings_same h g p (entry.Tried lane places closing t m) same is = absurd is
brings_same h g p (entry.Closed lane w m) same is = absurd is
brings_same h g p (entry.Replayed k places m) same is = absurd is
brings_same h g p (entry.Shut m) same is = absurd is

pub brought_over : (h g : List Entry) (parts : List Stream) (es : List Entry) → ((n : ℕ) → came_count g n ≡ came_count h n) → BringAll h parts es → BringAll g parts es
brought_over h g [] es same brought = brought
brought_over h g (p ∷ parts) [] same brought = brought
brought_over h g (p ∷ parts) (e ∷ es) same brought = (
  brings_same h g p e same brought.0,
  brought_over (e ∷ h) (e ∷ g) parts es (λ n. ap (λ (before : ℕ). came_after n before e) (same n)) brought.1,
)

-- what comes to be owed

none_after : (es more : List Entry) → BringNone es → BringNone more → BringNone (es ++ more)
none_after [] more none rest = rest
none_after (e ∷ es) more none rest = (none.0, none_after es more none.1 rest)

filtered_none : (m n : ℕ) (places : List ℕ) → BringNone (filtered_at m n places)
filtered_none m n [] = tt
filtered_none m n (i ∷ places) = (tt, tt)

parts_none : (m : ℕ) (ps : List Part) → BringNone (filtered_parts m ps)
parts_none m [] = tt
parts_none m (p ∷ ps) = none_after (filtered_at m p.shard p.refused) (filtered_parts m ps) (filtered_none m p.shard p.refused) (parts_none m ps)

-- each part begins where the records of its shard end
abbrev pub StartNext : List Entry → List Part → Type 0
StartNext h ps = Every (λ (p : Part). p.first ≡ came_count h p.shard) ps

parts_come : (h : List Entry) (m : ℕ) (ps : List Part) (es : List Entry) → Distinct (shards ps) → StartNext h ps → BringNone es → BringAll h (streams_of ps) (came_parts m ps ++ es)
parts_come h m [] es d start none = none
parts_come h m (p ∷ ps) es d start none = (
  (refl, start.0, refl),
  parts_come (came_part m p ∷ h) m ps es d.1
      (every_map (λ (q : Part). q.first ≡ came_count h q.shard) (λ (q : Part). q.first ≡ came_count (came_part m p ∷ h) q.shard) ps
      (λ q member is.
      let off : (p.shard == q.shard) ≡ false = false_from_ne_true (p.shard == q.shard) (λ same. apart (shards ps) p.shard d.0 (subst (In (shards ps)) (sym (eqb-true p.shard q.shard same)) member)) in
      is ∙ rw off refl)
      start.1)
      none,
)

pub brought_parts : (h : List Entry) (m : ℕ) (ps : List Part) → Distinct (shards ps) → StartNext h ps → BringAll h (streams_of ps) (part_entries m ps)
brought_parts h m ps d start = parts_come h m ps (filtered_parts m ps) d start (parts_none m ps)

pub dues_none : (lane : LaneId) (m : ℕ) (dues : List Due) → BringNone (map (due_entry lane m) dues)
dues_none lane m [] = tt
dues_none lane m (Gave places fate line state ∷ dues) = (tt, dues_none lane m dues)
dues_none lane m (Tried places closing tries ∷ dues) = (tt, dues_none lane m dues)
dues_none lane m (Closed window ∷ dues) = (tt, dues_none lane m dues)

-- where nothing is owed nothing is coming
pub rests_brought : (h : List Entry) (parts : List Stream) (es : List Entry) → BringAll h parts es → es ≡ [] → parts ≡ []
rests_brought h [] es brought none = refl
rests_brought h (p ∷ parts) [] brought none = absurd brought
rests_brought h (p ∷ parts) (e ∷ es) brought none = absurd (cc)

-- where the first owed entry has a payload no records are coming, since it is no `Came`
pub alone_written : (s : Setting) (h : List Entry) (coming : List Stream) (owed : List Entry) → BringAll h coming owed → 0 < length (filter_map (entry_payload s) (take 1 owed)) → coming ≡ []
alone_written s h [] owed brought written = refl
alone_written s h (p ∷ parts) [] brought written = absurd brought
alone_written s h (p ∷ parts) (entry.Came n first count m ∷ owed) brought written = absurd (omega (arith, written))
alone_written s h (p ∷ parts) (entry.Began lane places closing m ∷ owed) brought written = absurd brought.0
alone_written s h (p ∷ parts) (entry.Ended lane reply m ∷ owed) brought written = absurd brought.0
alone_written s h (p ∷ parts) (entry.Gave by k places f line state m ∷ owed) brought written = absurd brought.0
alone_written s h (p ∷ parts) (entry.Tried lane places closing t m ∷ owed) brought written = absurd brought.0
alone_written s h (p ∷ parts) (entry.Closed lane w m ∷ owed) brought written = absurd brought.0
alone_written s h (p ∷ parts) (entry.Replayed k places m ∷ owed) brought written = absurd brought.0
alone_written s h (p ∷ parts) (entry.Shut m ∷ owed) brought written = absurd brought.0

-- the first owed entry is a `Came`, of which nothing is written, or no records are coming

pub first_alone : (s : Setting) (h : List Entry) (coming : List Stream) (owed : List Entry) → BringAll h coming owed → filter_map (entry_payload (setting_with s coming)) (take 1 owed) ≡ filter_map (entry_payload s) (take 1 owed)
first_alone s h [] owed brought = refl
first_alone s h (p ∷ parts) [] brought = absurd brought
first_alone s h (p ∷ parts) (entry.Came n first count m ∷ owed) brought = refl
first_alone s h (p ∷ parts) (entry.Began lane places closing m ∷ owed) brought = absurd brought.0
first_alone s h (p ∷ parts) (entry.Ended lane reply m ∷ owed) brought = absurd brought.0
first_alone s h (p ∷ parts) (entry.Gave by k places f line state m ∷ owed) brought = absurd brought.0
first_alone s h (p ∷ parts) (entry.Tried lane places closing t m ∷ owed) brought = absurd brought.0
first_alone s h (p ∷ parts) (entry.Closed lane w m ∷ owed) brought = absurd brought.0
first_alone s h (p ∷ parts) (entry.Replayed k places m ∷ owed) brought = absurd brought.0
first_alone s h (p ∷ parts) (entry.Shut m ∷ owed) brought = absurd brought.0
