-- The records that a history tells, where it is legal: the first of those of each shard, as many as came.
use Rattle.std.proofs.Common.{◌≡◌, ℕ, zero, suc, ◌+◌, ◌≤◌, true, false, List, [], ◌∷◌, ◌++◌, map, length, take, drop, reverse, refl, sym, ap, ap₂, ◌∙◌, subst, inl, inr, arith, append-nil, Some}
use Rattle.std.specs.Prelude.{◌==◌, slice_get}
use Rattle.std.specs.List.{All}
use Rattle.std.proofs.Math.Seq.{take-add}
use Rattle.std.proofs.lemmas.Bool.{cases_Bool, eq-eqb, eqb-true}
use Rattle.std.proofs.lemmas.List.{reverse-reverse, length-map, length-take, length-drop, take_all}
use Rattle.std.proofs.lemmas.List.Elements.{All-nil, All-push, All-take, All-drop}
use Rattle.std.proofs.lemmas.Option.{slice_get-get_or}
use Rattle.esm_model.specs.Records.{Record}
use Rattle.esm_model.specs.declared.setup.Told.{Told}
use Rattle.esm_model.specs.declared.entry.Entry.{Entry}
use Rattle.esm_model.specs.declared.entry.Entry.TheVariants.{Came, Began, Ended, Gave, Tried, Closed, Replayed, Shut}
use Rattle.esm_model.specs.Setting.{Setting, Stream, Extends, records_in, records_of}
use Rattle.esm_model.specs.Entries.{holds, came_count, shards_that_came}
use Rattle.esm_model.specs.Step.{Legal}
use Rattle.esm_model.specs.Valid.{IsValidRecord}
use Rattle.esm_model.specs.Books.{entries_told, came_with, records_told, stream_told, streams_told, IsOfStream}
use Rattle.esm_model.proofs.Lists.{Distinct}
use Rattle.esm_model.proofs.BookLaws.{count_told}
use Rattle.esm_model.proofs.TellingFacts.{records-append, records_in_told}
use Rattle.esm_ledger.proofs.Ledgers.{shards_distinct}
use Rattle.esm_ingest.proofs.Shards.{or_off}
use Rattle.esm_record_bounds.specs.Bounds.{AreWithinBounds}
use Rattle.esm_stream_core.specs.declared.decisions.StreamEntry.{StreamEntry}
use Rattle.esm_stream_core.specs.Told.{covered, stream_entry, stream_entries, told_entries}
use Rattle.esm_stream_book.proofs.Entries.{joined_alike}
use Rattle.esm_stream_book.proofs.Tellings.{told_more, entries_back}

-- an entry brings the records that it tells
records_more : (s : Setting) (n : ℕ) (e : Entry) (h : List Entry) → records_told n (told_entries s (reverse (e ∷ h))) ≡ records_told n (told_entries s (reverse h)) ++ came_with n (covered s e) e
records_more s n e h =
    ap (records_told n) (told_more s e h)
    ∙ (records-append n (told_entries s (reverse h)) (told_entries s (e ∷ []))
    ∙ ap (λ (rs : List Record). records_told n (told_entries s (reverse h)) ++ rs) (append-nil (came_with n (covered s e) e)))

-- one that brings none
more_none : (s : Setting) (n : ℕ) (e : Entry) (h : List Entry) → came_with n (covered s e) e ≡ [] → records_told n (told_entries s (reverse (e ∷ h))) ≡ records_told n (told_entries s (reverse h))
more_none s n e h none =
    records_more s n e h
    ∙ (ap (λ (rs : List Record). records_told n (told_entries s (reverse h)) ++ rs) none
    ∙ append-nil (records_told n (told_entries s (reverse h))))

records_first : (s : Setting) (h : List Entry) (n : ℕ) → Legal s h → records_told n (told_entries s (reverse h)) ≡ take (came_count h n) (records_of s n)
records_first s [] n legal = refl
records_first s (Came k first count m ∷ h) n legal = elim (cases_Bool (k == n)) [
  | inl same ↦ (
      let here : k ≡ n = eqb-true k n same in
      let start : first ≡ came_count h n = subst (λ (i : ℕ). first ≡ came_count h i) here legal.1.1.next in
      let brings : came_with n (covered s (Came k first count m)) (Came k first count m) ≡ take count (drop (came_count h n) (records_of s n)) =
      rw same (ap₂ (λ (i j : ℕ). take count (drop i (records_of s j))) start here) in
      let order : count + came_count h n ≡ came_count h n + count = omega arith in
      records_more s n (Came k first count m) h
      ∙ (ap₂ (λ (xs ys : List Record). xs ++ ys) (records_first s h n legal.0) brings
      ∙ (sym (take-add (came_count h n) count (records_of s n))
      ∙ rw same (ap (λ (i : ℕ). take i (records_of s n)) (sym order)))))
  | inr off ↦ (
      let none : came_with n (covered s (Came k first count m)) (Came k first count m) ≡ [] = rw off refl in
      more_none s n (Came k first count m) h none ∙ (records_first s h n legal.0 ∙ rw off refl))
]
records_first s (Began lane places closing m ∷ h) n legal = more_none s n (Began lane places closing m) h refl ∙ records_first s h n legal.0
records_first s (Ended lane reply m ∷ h) n legal = more_none s n (Ended lane reply m) h refl ∙ records_first s h n legal.0
records_first s (Gave by k places f line state m ∷ h) n legal = more_none s n (Gave by k places f line state m) h refl ∙ records_first s h n legal.0
records_first s (Tried lane places closing t m ∷ h) n legal = more_none s n (Tried lane places closing t m) h refl ∙ records_first s h n legal.0
records_first s (Closed lane w m ∷ h) n legal = more_none s n (Closed lane w m) h refl ∙ records_first s h n legal.0
records_first s (Replayed k places m ∷ h) n legal = more_none s n (Replayed k places m) h refl ∙ records_first s h n legal.0
records_first s (Shut m ∷ h) n legal = more_none s n (Shut m) h refl ∙ records_first s h n legal.0

-- the lists go on from those that are told

get_taken : (k : ℕ) (xs : List Record) (i : ℕ) (r : Record) → slice_get (take k xs) i ≡ Some r → slice_get xs i ≡ Some r
get_taken zero xs i r at = absurd (cc)
get_taken (suc k) [] i r at = at
get_taken (suc k) (x ∷ xs) zero r at = at
get_taken (suc k) (x ∷ xs) (suc i) r at = get_taken k xs i r at

pub told_front : (s : Setting) (h : List Entry) → Legal s h → Extends (streams_told (told_entries s (reverse h))) s.streams
told_front s h legal n i r at =
    get_taken (came_count h n) (records_of s n) i r
    (ap (λ (rs : List Record). slice_get rs i) (sym (records_in_told (told_entries s (reverse h)) n ∙ records_first s h n legal)) ∙ at)

-- all of a setting's records came

abbrev pub names : List Stream → List ℕ
names ts = map (λ (t : Stream). t.shard) ts

-- the lists are of the shards that came, in their order, and each has as many records as came of its shard
pub record AllCame (s : Setting) (h : List Entry) : Type 0 where
  pub shards : names s.streams ≡ shards_that_came h
  pub counted : (n : ℕ) → came_count h n ≡ length (records_of s n)

abbrev list_of : List Stream → ℕ → Stream
list_of ts n = record { shard = n; records = records_in ts n }

others_same : (t : Stream) (ts us : List Stream) → holds (names us) t.shard ≡ false → map (list_of (t ∷ ts)) (names us) ≡ map (list_of ts) (names us)
others_same t ts [] none = refl
others_same t ts (u ∷ us) none =
    let off = or_off (u.shard == t.shard) (holds (names us) t.shard) none in
    let apart : (t.shard == u.shard) ≡ false = elim (cases_Bool (t.shard == u.shard)) [
      | inl same ↦ absurd (let clash : true ≡ false = sym (eq-eqb u.shard t.shard (sym (eqb-true t.shard u.shard same))) ∙ off.0 in cc)
      | inr other ↦ other
    ] in
    let first : list_of (t ∷ ts) u.shard ≡ list_of ts u.shard = rw apart refl in
    ap₂ (λ (x : Stream) (xs : List Stream). x ∷ xs) first (others_same t ts us off.1)

lists_same : (ts : List Stream) → Distinct (names ts) → map (list_of ts) (names ts) ≡ ts
lists_same [] d = refl
lists_same (t ∷ ts) d =
    let first : list_of (t ∷ ts) t.shard ≡ t = rw (eq-eqb t.shard t.shard refl) refl in
    ap₂ (λ (x : Stream) (xs : List Stream). x ∷ xs) first (others_same t ts ts d.0 ∙ lists_same ts d.1)

pub entries_same : (s : Setting) (h : List Entry) → entries_told (told_entries s (reverse h)) ≡ h
entries_same s h = ap reverse (entries_back s (reverse h)) ∙ reverse-reverse h

told_all : (s : Setting) (h : List Entry) → Legal s h → AllCame s h → (n : ℕ) → records_told n (told_entries s (reverse h)) ≡ records_of s n
told_all s h legal all n = records_first s h n legal ∙ take_all (came_count h n) (records_of s n) (let same : came_count h n ≡ length (records_of s n) = all.counted n in omega (arith, same))

streams_same : (s : Setting) (h : List Entry) → Legal s h → AllCame s h → (ns : List ℕ) → map (stream_told (told_entries s (reverse h))) ns ≡ map (list_of s.streams) ns
streams_same s h legal all [] = refl
streams_same s h legal all (n ∷ ns) =
    let first : stream_told (told_entries s (reverse h)) n ≡ list_of s.streams n = ap (λ (rs : List Record). record { shard = n; records = rs }) (told_all s h legal all n) in
    ap₂ (λ (x : Stream) (xs : List Stream). x ∷ xs) first (streams_same s h legal all ns)

pub told_streams : (s : Setting) (h : List Entry) → Legal s h → AllCame s h → streams_told (told_entries s (reverse h)) ≡ s.streams
told_streams s h legal all =
    let ts = s.streams in
    ap (λ (g : List Entry). map (stream_told (told_entries s (reverse h))) (shards_that_came g)) (entries_same s h)
    ∙ (streams_same s h legal all (shards_that_came h)
    ∙ (ap (map (list_of ts)) (sym all.shards)
    ∙ lists_same ts (subst Distinct (sym all.shards) (shards_distinct h))))

-- and back

names_told : (history : List Told) (ns : List ℕ) → names (map (stream_told history) ns) ≡ ns
names_told history [] = refl
names_told history (n ∷ ns) = ap (λ (ks : List ℕ). n ∷ ks) (names_told history ns)

pub all_came : (s : Setting) (h : List Entry) (history : List Told) → entries_told history ≡ h → s.streams ≡ streams_told history → All IsOfStream history → AllCame s h
all_came s h history entries streams all = record {
  shards = ap names streams ∙ (names_told history (shards_that_came (entries_told history)) ∙ ap shards_that_came entries);
  counted = λ n.
      ap (λ (g : List Entry). came_count g n) (sym entries)
      ∙ (count_told history n all ∙ ap (λ (rs : List Record). length rs) (sym (records_in_told history n) ∙ ap (λ (ts : List Stream). records_in ts n) (sym streams)));
}

-- each `Came` stands with those that it covers

within_first : (first count len : ℕ) (xs : List Record) → length xs ≡ len → first + count ≤ len → length (take count (drop first xs)) ≡ count
within_first first count len xs is low = omega (arith, length-take count (drop first xs), length-drop first xs, is, low)

own_all : (f : Setting) (n : ℕ) → AreWithinBounds f → All (λ (r : Record). r.shard ≡ n) (records_of f n)
own_all f n bounds k d low = bounds.own_shard n k _ (slice_get-get_or (records_of f n) k d low)

valid_all : (f : Setting) (n : ℕ) → AreWithinBounds f → All IsValidRecord (records_of f n)
valid_all f n bounds k d low = bounds.valid n k _ (slice_get-get_or (records_of f n) k d low)

of_one : (f s : Setting) (h : List Entry) (e : Entry) → AreWithinBounds f → Legal s (e ∷ h) → covered f e ≡ covered s e → IsOfStream (record { entry = e; records = covered s e; messages = [] })
of_one f s h (Came n first count m) bounds legal same = record {
  records = record {
    number = within_first first count (length (records_of s n)) (records_of s n) refl legal.1.1.within;
    own_shard = subst (All (λ (r : Record). r.shard ≡ n)) same (All-take (λ (r : Record). r.shard ≡ n) count (drop first (records_of f n)) (All-drop (λ (r : Record). r.shard ≡ n) first (records_of f n) (own_all f n bounds)));
    valid = subst (All IsValidRecord) same (All-take IsValidRecord count (drop first (records_of f n)) (All-drop IsValidRecord first (records_of f n) (valid_all f n bounds)));
  };
  no_messages = refl;
}
of_one f s h (Began lane places closing m) bounds legal same = record { records = refl; no_messages = refl }
of_one f s h (Ended lane reply m) bounds legal same = record { records = refl; no_messages = refl }
of_one f s h (Gave by n places fate line state m) bounds legal same = record { records = refl; no_messages = refl }
of_one f s h (Tried lane places closing tries m) bounds legal same = record { records = refl; no_messages = refl }
of_one f s h (Closed lane w m) bounds legal same = record { records = refl; no_messages = refl }
of_one f s h (Replayed n places m) bounds legal same = record { records = refl; no_messages = refl }
of_one f s h (Shut m) bounds legal same = record { records = refl; no_messages = refl }

length_told : (s : Setting) (es : List Entry) → length (told_entries s es) ≡ length es
length_told s es = length-map (stream_entries s es) (λ (x : StreamEntry). x.told) ∙ length-map es (stream_entry s)

abbrev records_first_of : List Told → List Record
records_first_of [] = []
records_first_of (t ∷ ts) = t.records

pub all_of_stream : (f s : Setting) (h : List Entry) → AreWithinBounds f → Legal s h → told_entries f (reverse h) ≡ told_entries s (reverse h) → All IsOfStream (told_entries s (reverse h))
all_of_stream f s [] bounds legal same = All-nil IsOfStream
all_of_stream f s (e ∷ h) bounds legal same =
    let alike = joined_alike (told_entries f (reverse h)) (told_entries f (e ∷ [])) (told_entries s (reverse h)) (told_entries s (e ∷ []))
    (sym (told_more f e h) ∙ (same ∙ told_more s e h)) (length_told f (reverse h) ∙ sym (length_told s (reverse h))) in
    subst (All IsOfStream) (sym (told_more s e h))
    (All-push IsOfStream (told_entries s (reverse h)) (record { entry = e; records = covered s e; messages = [] }) (all_of_stream f s h bounds legal.0 alike.0)
    (of_one f s h e bounds legal (ap records_first_of alike.1)))
