-- Records of several shards that a ledger takes one part after the other, and then what is filtered of them.
use Rattle.std.proofs.Common.{◌≡◌, ℕ, suc, ◌+◌, ◌-◌, ◌*◌, ◌^◌, min, ◌<◌, ◌≤◌, false, List, [], ◌∷◌, ◌++◌, length, drop, reverse, refl, sym, ap, ap₂, ◌∙◌, subst, append_assoc, append-nil, arith, None, Vec, Global}
use Rattle.std.specs.Prelude.{◌==◌}
use Rattle.std.proofs.lemmas.Bool.{eqb-true, false_from_ne_true}
use Rattle.std.proofs.lemmas.List.{map-append}
use Rattle.esm_model.specs.declared.limits.TheConstants.{MAX_ENTRIES}
use Rattle.esm_model.specs.Records.{Record}
use Rattle.esm_model.specs.declared.entry.Fate.TheVariants.{Filtered, Expired}
use Rattle.esm_model.specs.declared.entry.Entry.{Entry}
use Rattle.esm_model.specs.declared.entry.Entry.TheVariants as entry
use Rattle.esm_model.specs.Valid.{IsStreamConfig}
use Rattle.esm_model.specs.Setting.{Setting, Stream, over}
use Rattle.esm_model.specs.Entries.{holds, came_count}
use Rattle.esm_model.proofs.Lists.{In, apart, Distinct}
use Rattle.esm_ledger.specs.declared.ledger.Ledger.{Ledger}
use Rattle.esm_ledger.specs.declared.coming.Coming.{Coming}
use Rattle.esm_ledger.specs.Ledger.{past_of, setting_of, HasRoom, HasShardRoom}
use Rattle.esm_ledger.specs.Coming.{with_list}
use Rattle.esm_outcome.specs.Ending.{SettledOver}
use Rattle.esm_ingest.specs.Parts.{Part, parts_of as parts_in, grown_by}
use Rattle.esm_ingest.specs.Entries.{with_entries, came_part, came_parts, filtered_at, filtered_parts, part_entries, arrival_entries}
use Rattle.esm_ingest.specs.Sound.{with_all, MayArrive}
use Rattle.esm_ingest.proofs.Places.{shards, Every, every_map, IsPartOf, parts_are, parts_distinct}
use Rattle.esm_ingest.proofs.Streams.{names, grown_parts}
use Rattle.esm_ingest.proofs.Arriving.{after_parts}
use Rattle.esm_ingest.proofs.Filtering.{entries_append}
use Rattle.esm_ingest.proofs.Soundness.{comes_next, arrives_legally, arrives_settled}
use Rattle.esm_record_bounds.specs.Bounds.{AreWithinBounds}
use Rattle.esm_stream_core.specs.declared.owed.Owed.{Owed}
use Rattle.esm_stream_core.specs.declared.arriving.Gathered.{Gathered}
use Rattle.esm_stream_core.specs.declared.stream_core.StreamCore.TheInside.{Inside}
use Rattle.esm_stream_core.specs.Inside.{BringAll}
use Rattle.esm_stream_core.specs.CoreView.{CoreView, with_coming, setting_with, lines_of}
use Rattle.esm_stream_core.specs.Kept.{MayAdd, Decides, IsSame}
use Rattle.esm_stream_core.specs.Gathered.{MayBring, filtered_if_any, filtered_of, all_came, all_filtered, AreComing, IsGathered}
use Rattle.esm_stream_core.specs.Calls.{stream_of, streams_of}
use Rattle.esm_stream_core.specs.Acts.{owed_entry, entries_of, part_of, parts_of, AreWritten}
use Rattle.esm_stream_core.specs.Adding.{costs, ArePayable}
use Rattle.esm_stream_core.proofs.Deciding.{Begins, Decided, decided}
use Rattle.esm_stream_core.proofs.Keeping.{brought_arrival}
use Rattle.esm_stream_core.proofs.Parts.{moved_coming, names_of}
use Rattle.esm_stream_core.proofs.Sayable.{bounds_all, all_written}

-- the entries

entries_came : (m : ℕ) (ps : List Part) → entries_of (all_came m ps) ≡ came_parts m ps
entries_came m [] = refl
entries_came m (p ∷ ps) = ap (λ (es : List Entry). came_part m p ∷ es) (entries_came m ps)

entries_if_any : (m : ℕ) (p : Part) (xs : List ℕ) → p.refused ≡ xs → entries_of (filtered_if_any m p xs) ≡ filtered_at m p.shard xs
entries_if_any m p [] is = refl
entries_if_any m p (x ∷ xs) is = ap (λ (ys : List ℕ). entry.Gave None p.shard ys Filtered None None m ∷ []) is

entries_filtered : (m : ℕ) (ps : List Part) → entries_of (all_filtered m ps) ≡ filtered_parts m ps
entries_filtered m [] = refl
entries_filtered m (p ∷ ps) =
    map-append owed_entry (filtered_of m p) (all_filtered m ps)
    ∙ ap₂ (λ (xs ys : List Entry). xs ++ ys) (entries_if_any m p p.refused refl) (entries_filtered m ps)

pub entries_all : (m : ℕ) (ps : List Part) → entries_of (all_came m ps ++ all_filtered m ps) ≡ part_entries m ps
entries_all m ps = map-append owed_entry (all_came m ps) (all_filtered m ps) ∙ ap₂ (λ (xs ys : List Entry). xs ++ ys) (entries_came m ps) (entries_filtered m ps)

-- none has a line

lines_came : (m : ℕ) (ps : List Part) (es : List Entry) → lines_of (came_parts m ps ++ es) ≡ lines_of es
lines_came m [] es = refl
lines_came m (p ∷ ps) es = lines_came m ps es

lines_filtered : (m : ℕ) (ps : List Part) → lines_of (filtered_parts m ps) ≡ []
lines_filtered m [] = refl
lines_filtered m (p ∷ ps) = first p.refused (lines_filtered m ps)
  where
    first : (xs : List ℕ) → lines_of (filtered_parts m ps) ≡ [] → lines_of (filtered_at m p.shard xs ++ filtered_parts m ps) ≡ []
    first [] rest = rest
    first (x ∷ xs) rest = rest

no_lines : (m : ℕ) (ps : List Part) → lines_of (entries_of (all_came m ps ++ all_filtered m ps)) ≡ []
no_lines m ps = ap lines_of (entries_all m ps) ∙ (lines_came m ps (filtered_parts m ps) ∙ lines_filtered m ps)

-- their places in the history

costs_came : (m : ℕ) (ps : List Part) (owed : List Owed) → costs (all_came m ps ++ owed) ≡ length ps + costs owed
costs_came m [] owed = omega arith
costs_came m (p ∷ ps) owed = (let rest = costs_came m ps owed in omega (arith, rest))

costs_filtered : (m : ℕ) (ps : List Part) → costs (all_filtered m ps) ≤ length ps
costs_filtered m [] = omega arith
costs_filtered m (p ∷ ps) = first p.refused (costs_filtered m ps)
  where
    first : (xs : List ℕ) → costs (all_filtered m ps) ≤ length ps → costs (filtered_if_any m p xs ++ all_filtered m ps) ≤ length (p ∷ ps)
    first [] rest = omega (arith, rest)
    first (x ∷ xs) rest = omega (arith, rest)

room_less : (c : Ledger) (n k : ℕ) → k ≤ n → HasRoom c n → HasRoom c k
room_less c n k less r = record {
  room = (let q = r.room in omega (arith, q, less));
  short = (let q = r.short in omega (arith, q, less));
}

pub room_all : (c : Ledger) (m n : ℕ) (ps : List Part) → length ps + length ps ≤ n → HasRoom c n → HasRoom c (costs (all_came m ps ++ all_filtered m ps))
room_all c m n ps enough room =
    let came = costs_came m ps (all_filtered m ps) in
    let filtered = costs_filtered m ps in
    room_less c n (costs (all_came m ps ++ all_filtered m ps)) (omega (arith, came, filtered, enough)) room

-- each can be added when those before it were

filtered_payable : (c : Ledger) (m : ℕ) (ps : List Part) → ArePayable c [] (all_filtered m ps)
filtered_payable c m [] = refl
filtered_payable c m (p ∷ ps) = first p.refused (λ d. filtered_payable d m ps)
  where
    first : (xs : List ℕ) → ((d : Ledger) → ArePayable d [] (all_filtered m ps)) → ArePayable c [] (filtered_if_any m p xs ++ all_filtered m ps)
    first [] rest = rest c
    first (x ∷ xs) rest = (((λ (same : Filtered ≡ Expired). cc), refl, tt), λ d added. rest d)

-- the part's first place is the next of its shard
abbrev IsNext : Ledger → Part → Type 0
IsNext c p = p.first ≡ came_count (past_of c) p.shard

pub all_payable : (c : Ledger) (m : ℕ) (xs : List Coming) (ps left : List Part) → parts_of xs ≡ streams_of ps → AreComing c xs → Distinct (shards ps) → Every (IsNext c) ps → HasShardRoom c (length ps) → ArePayable c xs (all_came m ps ++ all_filtered m left)
all_payable c m [] [] left same coming distinct next room = filtered_payable c m left
all_payable c m (x ∷ xs) [] left same coming distinct next room = absurd (let long : length (parts_of (x ∷ xs)) ≡ 0 = ap (λ (ts : List Stream). length ts) same in omega (arith, long))
all_payable c m [] (p ∷ ps) left same coming distinct next room = absurd (let long : 0 ≡ length (streams_of (p ∷ ps)) = ap (λ (ts : List Stream). length ts) same in omega (arith, long))
all_payable c m (x ∷ xs) (p ∷ ps) left same coming distinct next room =
    let head : part_of x ≡ stream_of p = ap (λ (ts : List Stream). first_of (stream_of p) ts) same in
    let tail : parts_of xs ≡ streams_of ps = ap (λ (ts : List Stream). drop 1 ts) same in
    let shard : x.shard ≡ p.shard = ap (λ (t : Stream). t.shard) head in
    let records : x.arriving.records.items ≡ p.records = ap (λ (t : Stream). t.records) head in (
      record {
        coming = coming.0;
        room = omega (arith, room);
        shard_is = sym shard;
        first_is = next.0 ∙ ap (came_count (past_of c)) (sym shard);
        count_is = ap (λ (rs : List Record). length rs) (sym records);
      },
      λ d added.
          (let none : holds (names (parts_of xs)) x.shard ≡ false = ap₂ (λ (ts : List Stream) (n : ℕ). holds (names ts) n) tail shard ∙ (ap (λ (ns : List ℕ). holds ns p.shard) (names_of ps) ∙ distinct.0) in
          let after : past_of d ≡ came_part m p ∷ past_of c = added.past in
          all_payable d m xs ps left tail (moved_coming c d x.shard added.stays.elsewhere xs none coming.1) distinct.1
          (every_map (IsNext c) (IsNext d) ps (λ q member is.
          (let off : (p.shard == q.shard) ≡ false = false_from_ne_true (p.shard == q.shard) (λ e. apart (shards ps) p.shard distinct.0 (subst (In (shards ps)) (sym (eqb-true p.shard q.shard e)) member)) in
          is ∙ (sym (rw off refl) ∙ ap (λ (h : List Entry). came_count h q.shard) (sym after)))) next.1)
          (added.stays.shards (length ps) (let e : suc (length ps) ≡ length ps + 1 = omega arith in subst (HasShardRoom c) e room))),
    )
  where
    first_of : Stream → List Stream → Stream
    first_of t [] = t
    first_of t (u ∷ us) = u

-- over the lists with them

with_parts : (ts : List Stream) (ps : List Part) → with_coming ts (streams_of ps) ≡ grown_by ts ps
with_parts ts [] = refl
with_parts ts (p ∷ ps) = with_parts (with_list ts p.shard p.records) ps

grown_last : (ts : List Stream) (ps : List Part) (p : Part) → grown_by ts (ps ++ p ∷ []) ≡ with_list (grown_by ts ps) p.shard p.records
grown_last ts [] p = refl
grown_last ts (q ∷ ps) p = grown_last (with_list ts q.shard q.records) ps p

came_last : (g : List Entry) (m : ℕ) (ps : List Part) (p : Part) → after_parts g m (ps ++ p ∷ []) ≡ came_part m p ∷ after_parts g m ps
came_last g m [] p = refl
came_last g m (q ∷ ps) p = came_last (came_part m q ∷ g) m ps p

module _ (s : Setting) (h : List Entry) (rs : List Record) (m : ℕ) (may : MayArrive s h rs m) where
  pub all_with : setting_with s (streams_of (parts_in s h rs)) ≡ with_all s rs
  all_with = ap (over s) (with_parts s.streams (parts_in s h rs) ∙ grown_parts s h rs s.streams)

  filtered_add : (front es : List Entry) → front ++ es ≡ arrival_entries s h rs m → MayAdd (with_all s rs) (with_entries h front) [] es
  filtered_add front [] is = subst (λ (es : List Entry). SettledOver (with_all s rs) (with_entries h es)) (sym (sym (append-nil front) ∙ is)) (arrives_settled s h rs m may)
  filtered_add front (e ∷ es) is = (
    arrives_legally s h rs m may front e es is,
    subst (λ (g : List Entry). MayAdd (with_all s rs) g [] es) (entries_append h front (e ∷ [])) (filtered_add (front ++ e ∷ []) es (append_assoc front (e ∷ []) es ∙ is)),
  )

  -- of the parts so far
  so_far : List Part → Setting
  so_far ps = over s (grown_by s.streams ps)

  parts_add : (before left : List Part) → before ++ left ≡ parts_in s h rs → MayAdd (over s (grown_by s.streams before)) (after_parts h m before) (streams_of left) (came_parts m left ++ filtered_parts m (parts_in s h rs))
  parts_add before [] is =
      let whole : before ≡ parts_in s h rs = sym (append-nil before) ∙ is in
      subst (λ (ps : List Part). MayAdd (over s (grown_by s.streams ps)) (after_parts h m ps) [] (filtered_parts m (parts_in s h rs))) (sym whole)
      (subst (λ (ts : List Stream). MayAdd (over s ts) (after_parts h m (parts_in s h rs)) [] (filtered_parts m (parts_in s h rs))) (sym (grown_parts s h rs s.streams))
      (filtered_add (came_parts m (parts_in s h rs)) (filtered_parts m (parts_in s h rs)) refl))
  parts_add before (p ∷ left) is = (
    (comes_next s h rs m may before p left is).legal,
    subst (λ (g : List Entry). MayAdd (over s (with_list (grown_by s.streams before) p.shard p.records)) g (streams_of left) (came_parts m left ++ filtered_parts m (parts_in s h rs))) (came_last h m before p)
        (subst (λ (ts : List Stream). MayAdd (over s ts) (after_parts h m (before ++ p ∷ [])) (streams_of left) (came_parts m left ++ filtered_parts m (parts_in s h rs))) (grown_last s.streams before p)
        (parts_add (before ++ p ∷ []) left (append_assoc before (p ∷ []) left ∙ is))),
  )

  pub all_add : MayAdd s h (streams_of (parts_in s h rs)) (part_entries m (parts_in s h rs))
  all_add = parts_add [] (parts_in s h rs) refl

-- all is decided

next_parts : (c d : Ledger) (rs : List Record) (s : Setting) (ps : List Part) → past_of d ≡ past_of c → Every (IsPartOf s (past_of c) rs) ps → Every (IsNext d) ps
next_parts c d rs s [] past are = tt
next_parts c d rs s (p ∷ ps) past are = (are.0.first ∙ ap (λ (h : List Entry). came_count h p.shard) (sym past), next_parts c d rs s ps past are.1)

module _ (c d : Ledger) (m : ℕ) (ps : List Part) (g : Gathered) (coming : List Coming) (owed : List Owed) (may : MayBring (setting_of c) (past_of c) ps m) (gathered : IsGathered d m ps g) (is_coming : coming ≡ g.coming.items) (is_owed : owed ≡ g.came.items ++ g.filtered.items) where
  all_owed : owed ≡ all_came m ps ++ all_filtered m ps
  all_owed = is_owed ∙ ap₂ (λ (xs ys : List Owed). xs ++ ys) gathered.came gathered.filtered

  pub coming_is : parts_of coming ≡ streams_of ps
  coming_is = ap parts_of is_coming ∙ gathered.coming

  pub owed_is : entries_of owed ≡ part_entries m ps
  owed_is = ap entries_of all_owed ∙ entries_all m ps

  full : setting_with (setting_of c) (parts_of coming) ≡ with_all (setting_of c) may.items
  full = ap (setting_with (setting_of c)) (coming_is ∙ ap streams_of may.parts) ∙ all_with (setting_of c) (past_of c) may.items m may.may

  pub arrival_decides : (n : ℕ) → AreWithinBounds (setting_of c) → IsStreamConfig c.config → IsSame c d → length ps + length ps ≤ n → HasRoom d n → HasShardRoom d (length ps) → Decides c d coming owed
  arrival_decides n bounds config same enough room shard_room =
      let s = setting_of c in
      let h = past_of c in
      record {
        same = same;
        room = subst (λ (os : List Owed). HasRoom d (costs os)) (sym all_owed) (room_all d m n ps enough room);
        payable = subst (ArePayable d coming) (sym all_owed) (subst (λ (xs : List Coming). ArePayable d xs (all_came m ps ++ all_filtered m ps)) (sym is_coming)
            (all_payable d m g.coming.items ps ps gathered.coming gathered.prepared
            (subst (λ (qs : List Part). Distinct (shards qs)) (sym may.parts) (parts_distinct s h may.items))
            (next_parts c d may.items s ps same.past (subst (Every (IsPartOf s h may.items)) (sym may.parts) (parts_are s h may.items))) shard_room));
        may = subst (λ (ts : List Stream). MayAdd s h ts (entries_of owed)) (sym coming_is) (subst (MayAdd s h (streams_of ps)) (sym owed_is)
            (subst (λ (qs : List Part). MayAdd s h (streams_of qs) (part_entries m qs)) (sym may.parts) (all_add s h may.items m may.may)));
        written = subst (λ (t : Setting). AreWritten t owed) (sym full) (subst (AreWritten (with_all s may.items)) (sym (all_owed ∙ ap (λ (qs : List Part). all_came m qs ++ all_filtered m qs) may.parts))
            (all_written s h may.items m may.may may.valid may.few may.places bounds config));
        lines = (let none : length (lines_of (entries_of owed)) ≡ 0 = ap (λ (ls : List (List ℕ)). length ls) (ap (λ (os : List Owed). lines_of (entries_of os)) all_owed ∙ no_lines m ps) in omega (arith, none));
        bounds = subst AreWithinBounds (sym full) (bounds_all s h may.items m may.may may.valid may.few may.places bounds config);
      }

-- so many entries as two for each part, where the history stays short
pub doubled : (n k : ℕ) → k ≡ min (n * 2) (2 ^ 64 - 1) → k < MAX_ENTRIES → n + n ≤ k
doubled n k is low = omega (arith, is, low)

-- what a decision promises then

pub arrival_decided : (v : CoreView) (x : Inside) (d : Ledger) (zs : Vec Coming Global) (ys : Vec Owed Global) (ps : List Part) (m : ℕ) → Begins v x → MayBring v.setting v.past ps m
    → Decides x.ledger d (reverse zs.items) (reverse ys.items) → parts_of (reverse zs.items) ≡ streams_of ps → entries_of (reverse ys.items) ≡ part_entries m ps
    → Decided v (record x { ledger = d; coming = zs; owed = ys }) (streams_of ps) (part_entries m ps)
arrival_decided v x d zs ys ps m b may decides streams entries =
    let y : Inside = record x { ledger = d; coming = zs; owed = ys } in
    let brought : BringAll v.past (parts_of (reverse zs.items)) (entries_of (reverse ys.items)) =
    subst (λ (ts : List Stream). BringAll v.past ts (entries_of (reverse ys.items))) (sym streams) (subst (BringAll v.past (streams_of ps)) (sym entries) (brought_arrival v.setting v.past ps m may)) in
    subst (λ (ts : List Stream). Decided v y ts (part_entries m ps)) streams
    (subst (Decided v y (parts_of (reverse zs.items))) entries (decided v x d zs ys (reverse zs.items) (reverse ys.items) b refl refl decides brought))
