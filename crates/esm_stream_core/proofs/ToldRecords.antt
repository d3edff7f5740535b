-- The records that came to a core are those that its history tells.
use Rattle.std.proofs.Common.{◌≡◌, ℕ, ◌+◌, true, false, List, [], ◌∷◌, ◌++◌, map, take, drop, reverse, refl, sym, ap, ap₂, ◌∙◌, subst, inl, inr, append_assoc, append-nil, arith}
use Rattle.std.specs.Prelude.{◌==◌}
use Rattle.std.proofs.Math.Seq.{take-add, take-append_seam}
use Rattle.std.proofs.lemmas.Bool.{cases_Bool, eq-eqb, eqb-true}
use Rattle.std.proofs.lemmas.List.{map-append, reverse-append, reverse-reverse}
use Rattle.esm_model.specs.Records.{Record}
use Rattle.esm_model.specs.declared.setup.Told.{Told}
use Rattle.esm_model.specs.declared.entry.Entry.{Entry}
use Rattle.esm_model.specs.declared.entry.Entry.TheVariants.{Came, Began, Ended, Gave, Tried, Closed, Replayed, Shut}
use Rattle.esm_model.specs.Setting.{Setting, Stream, records_in, records_of}
use Rattle.esm_model.specs.Entries.{holds, came_count, shards_that_came}
use Rattle.esm_model.specs.Books.{entries_told, came_with, records_told, stream_told, streams_told}
use Rattle.esm_model.proofs.Lists.{Distinct}
use Rattle.esm_model.proofs.TellingFacts.{records-append}
use Rattle.esm_ledger.specs.Coming.{with_list}
use Rattle.esm_ledger.proofs.Ledgers.{shards_distinct}
use Rattle.esm_ingest.proofs.Shards.{or_off}
use Rattle.esm_ingest.proofs.Places.{in_list}
use Rattle.esm_stream_core.specs.CoreView.{CoreView, with_coming, full_setting}
use Rattle.esm_stream_core.specs.declared.decisions.StreamEntry.{StreamEntry}
use Rattle.esm_stream_core.specs.Told.{covered, stream_entry, stream_entries, told_entries, told_of}
use Rattle.esm_stream_core.specs.Inside.{GoOn, AreTold}

-- what is told of entries

told-append : (s : Setting) (es more : List Entry) → told_entries s (es ++ more) ≡ told_entries s es ++ told_entries s more
told-append s es more =
    ap (map (λ (x : StreamEntry). x.told)) (map-append (stream_entry s) es more)
    ∙ map-append (λ (x : StreamEntry). x.told) (stream_entries s es) (stream_entries s more)

entries_same : (s : Setting) (es : List Entry) → map (λ (t : Told). t.entry) (told_entries s es) ≡ es
entries_same s [] = refl
entries_same s (e ∷ es) = ap (λ (xs : List Entry). e ∷ xs) (entries_same s es)

-- an entry brings the records that it tells
records_more : (s : Setting) (n : ℕ) (e : Entry) (h : List Entry) → records_told n (told_entries s (reverse (e ∷ h))) ≡ records_told n (told_entries s (reverse h)) ++ came_with n (covered s e) e
records_more s n e h =
    ap (λ (es : List Entry). records_told n (told_entries s es)) (reverse-append (e ∷ []) h)
    ∙ (ap (records_told n) (told-append s (reverse h) (e ∷ []))
    ∙ (records-append n (told_entries s (reverse h)) (told_entries s (e ∷ []))
    ∙ ap (λ (rs : List Record). records_told n (told_entries s (reverse h)) ++ rs) (append-nil (came_with n (covered s e) e))))

-- an entry that brings none
more_none : (s : Setting) (n : ℕ) (e : Entry) (h : List Entry) → came_with n (covered s e) e ≡ [] → records_told n (told_entries s (reverse (e ∷ h))) ≡ records_told n (told_entries s (reverse h))
more_none s n e h none =
    records_more s n e h
    ∙ (ap (λ (rs : List Record). records_told n (told_entries s (reverse h)) ++ rs) none
    ∙ append-nil (records_told n (told_entries s (reverse h))))

-- the shard's first records, as many as came
pub records_first : (s : Setting) (h : List Entry) (n : ℕ) → GoOn h → records_told n (told_entries s (reverse h)) ≡ take (came_count h n) (records_of s n)
records_first s [] n on = refl
records_first s (Came k first count m ∷ h) n on = elim (cases_Bool (k == n)) [
  | inl same ↦ (
      let here : k ≡ n = eqb-true k n same in
      let start : first ≡ came_count h n = subst (λ (i : ℕ). first ≡ came_count h i) here on.0 in
      let brings : came_with n (covered s (Came k first count m)) (Came k first count m) ≡ take count (drop (came_count h n) (records_of s n)) =
      rw same (ap₂ (λ (i j : ℕ). take count (drop i (records_of s j))) start here) in
      let order : count + came_count h n ≡ came_count h n + count = omega arith in
      records_more s n (Came k first count m) h
      ∙ (ap₂ (λ (xs ys : List Record). xs ++ ys) (records_first s h n on.1) brings
      ∙ (sym (take-add (came_count h n) count (records_of s n))
      ∙ rw same (ap (λ (i : ℕ). take i (records_of s n)) (sym order)))))
  | inr off ↦ (
      let none : came_with n (covered s (Came k first count m)) (Came k first count m) ≡ [] = rw off refl in
      more_none s n (Came k first count m) h none ∙ (records_first s h n on.1 ∙ rw off refl))
]
records_first s (Began lane places closing m ∷ h) n on = more_none s n (Began lane places closing m) h refl ∙ records_first s h n on.1
records_first s (Ended lane reply m ∷ h) n on = more_none s n (Ended lane reply m) h refl ∙ records_first s h n on.1
records_first s (Gave by k places f line state m ∷ h) n on = more_none s n (Gave by k places f line state m) h refl ∙ records_first s h n on.1
records_first s (Tried lane places closing t m ∷ h) n on = more_none s n (Tried lane places closing t m) h refl ∙ records_first s h n on.1
records_first s (Closed lane w m ∷ h) n on = more_none s n (Closed lane w m) h refl ∙ records_first s h n on.1
records_first s (Replayed k places m ∷ h) n on = more_none s n (Replayed k places m) h refl ∙ records_first s h n on.1
records_first s (Shut m ∷ h) n on = more_none s n (Shut m) h refl ∙ records_first s h n on.1

-- lists by their shards

abbrev pub names : List Stream → List ℕ
names ts = map (λ (t : Stream). t.shard) ts

abbrev list_of : List Stream → ℕ → Stream
list_of ts n = record { shard = n; records = records_in ts n }

others_same : (t : Stream) (ts us : List Stream) → holds (names us) t.shard ≡ false → map (list_of (t ∷ ts)) (names us) ≡ map (list_of ts) (names us)
others_same t ts [] none = refl
others_same t ts (u ∷ us) none =
    let off = or_off (u.shard == t.shard) (holds (names us) t.shard) none in
    let apart : (t.shard == u.shard) ≡ false = elim (cases_Bool (t.shard == u.shard)) [
      | inl same ↦ absurd (let clash : true ≡ false = sym (eq-eqb u.shard t.shard (sym (eqb-true t.shard u.shard same))) ∙ off.0 in cc)
      | inr other ↦ other
    ] in
    let first : list_of (t ∷ ts) u.shard ≡ list_of ts u.shard = rw apart refl in
    ap₂ (λ (x : Stream) (xs : List Stream). x ∷ xs) first (others_same t ts us off.1)

lists_same : (ts : List Stream) → Distinct (names ts) → map (list_of ts) (names ts) ≡ ts
lists_same [] d = refl
lists_same (t ∷ ts) d =
    let first : list_of (t ∷ ts) t.shard ≡ t = rw (eq-eqb t.shard t.shard refl) refl in
    ap₂ (λ (x : Stream) (xs : List Stream). x ∷ xs) first (others_same t ts ts d.0 ∙ lists_same ts d.1)

-- records that are coming stand behind those that came

pub record StandBehind (ts us : List Stream) (n : ℕ) : Type 0 where
  pub more : List Record
  pub is : records_in us n ≡ records_in ts n ++ more

behind_list : (ts : List Stream) (k : ℕ) (rs : List Record) (n : ℕ) → StandBehind ts (with_list ts k rs) n
behind_list ts k rs n = elim (cases_Bool (k == n)) [
  | inl same ↦ record { more = rs; is = in_list ts k rs n ∙ rw same refl }
  | inr off ↦ record { more = []; is = in_list ts k rs n ∙ rw off (sym (append-nil (records_in ts n))) }
]

behind_then : (ts us vs : List Stream) (n : ℕ) → StandBehind ts us n → StandBehind us vs n → StandBehind ts vs n
behind_then ts us vs n a b = record {
  more = a.more ++ b.more;
  is = b.is ∙ (ap (λ (rs : List Record). rs ++ b.more) a.is ∙ append_assoc (records_in ts n) a.more b.more);
}

behind_coming : (ts parts : List Stream) (n : ℕ) → StandBehind ts (with_coming ts parts) n
behind_coming ts [] n = record { more = []; is = sym (append-nil (records_in ts n)) }
behind_coming ts (p ∷ parts) n =
    let us = with_list ts p.shard p.records in
    behind_then ts us (with_coming us parts) n (behind_list ts p.shard p.records n) (behind_coming us parts n)

-- the records of a core

told_records : (v : CoreView) → AreTold v.setting v.past → (n : ℕ) → records_told n (told_of v) ≡ records_of v.setting n
told_records v told n =
    let behind = behind_coming v.setting.streams v.coming n in
    records_first (full_setting v) v.past n told.go_on
    ∙ (ap₂ (λ (i : ℕ) (rs : List Record). take i rs) (told.counted n) behind.is
    ∙ take-append_seam (records_of v.setting n) behind.more)

entries_of : (v : CoreView) → entries_told (told_of v) ≡ v.past
entries_of v = ap reverse (entries_same (full_setting v) (reverse v.past)) ∙ reverse-reverse v.past

streams_same : (v : CoreView) → AreTold v.setting v.past → (ns : List ℕ) → map (stream_told (told_of v)) ns ≡ map (list_of v.setting.streams) ns
streams_same v told [] = refl
streams_same v told (n ∷ ns) =
    let first : stream_told (told_of v) n ≡ list_of v.setting.streams n = ap (λ (rs : List Record). record { shard = n; records = rs }) (told_records v told n) in
    ap₂ (λ (x : Stream) (xs : List Stream). x ∷ xs) first (streams_same v told ns)

pub streams_kept : (v : CoreView) → AreTold v.setting v.past → v.setting.streams ≡ streams_told (told_of v)
streams_kept v told =
    let ts = v.setting.streams in
    sym (ap (λ (h : List Entry). map (stream_told (told_of v)) (shards_that_came h)) (entries_of v)
    ∙ (streams_same v told (shards_that_came v.past)
    ∙ (ap (map (list_of ts)) (sym told.shards)
    ∙ lists_same ts (subst Distinct (sym told.shards) (shards_distinct v.past)))))
