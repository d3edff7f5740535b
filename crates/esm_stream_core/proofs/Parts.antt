-- One more part of the records that come.
use Rattle.std.proofs.Common.{◌≡◌, ◌≢◌, ℕ, Bool, true, false, List, [], ◌∷◌, ◌++◌, length, refl, sym, ap, ◌∙◌, subst, append-nil, append_assoc, arith}
use Rattle.std.specs.Prelude.{◌==◌}
use Rattle.std.proofs.lemmas.Bool.{eqb-true, eq-eqb}
use Rattle.std.proofs.lemmas.List.{map-append}
use Rattle.esm_model.specs.declared.entry.Entry.{Entry}
use Rattle.esm_model.specs.Valid.{IsStreamConfig}
use Rattle.esm_model.specs.Setting.{Setting, Stream}
use Rattle.esm_model.specs.Entries.{holds}
use Rattle.esm_model.proofs.Lists.{In-here, not_in, Distinct, Distinct-apart}
use Rattle.esm_ledger.specs.declared.ledger.Ledger.{Ledger}
use Rattle.esm_ledger.specs.declared.coming.Coming.{Coming}
use Rattle.esm_ledger.specs.Prepared.{StaysElsewhere}
use Rattle.esm_ledger.specs.Coming.{IsComing}
use Rattle.esm_ingest.specs.Parts.{Part}
use Rattle.esm_ingest.proofs.Places.{shards, Every, every_at, parts_distinct}
use Rattle.esm_ingest.proofs.Shards.{or_off}
use Rattle.esm_ingest.proofs.Streams.{names}
use Rattle.esm_record_bounds.specs.Bounds.{AreWithinBounds}
use Rattle.esm_stream_core.specs.declared.owed.Owed.{Owed}
use Rattle.esm_stream_core.specs.declared.arriving.Gathered.{Gathered}
use Rattle.esm_stream_core.specs.Gathered.{MayBring, came_owed, filtered_owed, filtered_if_any, filtered_of, all_filtered, CanTake, AreComing, IsGathered, IsTaken}
use Rattle.esm_stream_core.specs.Calls.{stream_of, streams_of}
use Rattle.esm_stream_core.specs.Acts.{part_of, parts_of}
use Rattle.esm_stream_core.proofs.Sayable.{can_take}

if_some : (m : ℕ) (p : Part) (xs : List ℕ) → (length xs == 0) ≡ false → filtered_if_any m p xs ≡ filtered_owed m p ∷ []
if_some m p [] some = absurd (let clash : true ≡ false = some in cc)
if_some m p (x ∷ xs) some = refl

if_none : (m : ℕ) (p : Part) (xs : List ℕ) → (length xs == 0) ≡ true → filtered_if_any m p xs ≡ []
if_none m p [] none = refl
if_none m p (x ∷ xs) none = absurd (omega (arith, eqb-true (length (x ∷ xs)) 0 none))

-- some of its places are refused
pub filtered_more : (m : ℕ) (p : Part) (zs : List ℕ) (b : Bool) (gift : Owed) (old now : List Owed) → zs ≡ p.refused → b ≡ (length zs == 0) → b ≡ false → gift ≡ filtered_owed m p → now ≡ old ++ gift ∷ [] → now ≡ old ++ filtered_of m p
filtered_more m p zs b gift old now same empty some is more =
    let off : (length p.refused == 0) ≡ false = ap (λ (xs : List ℕ). length xs == 0) (sym same) ∙ (sym empty ∙ some) in
    more ∙ (ap (λ (o : Owed). old ++ o ∷ []) is ∙ ap (λ (os : List Owed). old ++ os) (sym (if_some m p p.refused off)))

-- none is
pub filtered_none : (m : ℕ) (p : Part) (zs : List ℕ) (b : Bool) (old now : List Owed) → zs ≡ p.refused → b ≡ (length zs == 0) → b ≡ true → now ≡ old → now ≡ old ++ filtered_of m p
filtered_none m p zs b old now same empty none is =
    let on : (length p.refused == 0) ≡ true = ap (λ (xs : List ℕ). length xs == 0) (sym same) ∙ (sym empty ∙ none) in
    is ∙ (sym (append-nil old) ∙ ap (λ (os : List Owed). old ++ os) (sym (if_none m p p.refused on)))

-- prepared records

-- each finds its memory after another shard was prepared
pub moved_coming : (c d : Ledger) (n : ℕ) → StaysElsewhere c d n → (xs : List Coming) → holds (names (parts_of xs)) n ≡ false → AreComing c xs → AreComing d xs
moved_coming c d n stays [] none all = tt
moved_coming c d n stays (x ∷ xs) none all =
    let off = or_off (x.shard == n) (holds (names (parts_of xs)) n) none in
    let other : x.shard ≢ n = λ (same : x.shard ≡ n). (let clash : true ≡ false = sym (eq-eqb x.shard n same) ∙ off.0 in cc) in
    (stays.comings x other all.0, moved_coming c d n stays xs off.1 all.1)

coming_last : (c : Ledger) (xs : List Coming) (x : Coming) → AreComing c xs → IsComing c x → AreComing c (xs ++ x ∷ [])
coming_last c [] x all last = (last, tt)
coming_last c (y ∷ xs) x all last = (all.0, coming_last c xs x all.1 last)

pub names_of : (ps : List Part) → names (streams_of ps) ≡ shards ps
names_of [] = refl
names_of (p ∷ ps) = ap (λ (ns : List ℕ). p.shard ∷ ns) (names_of ps)

-- the part's shard is none of those before it
apart_before : (done : List Part) (p : Part) (left : List Part) → Distinct (shards (done ++ p ∷ left)) → holds (shards done) p.shard ≡ false
apart_before done p left d =
    let split : shards (done ++ p ∷ left) ≡ shards done ++ shards (p ∷ left) = map-append (λ (q : Part). q.shard) done (p ∷ left) in
    not_in (shards done) p.shard (λ member. Distinct-apart (shards done) (shards (p ∷ left)) p.shard (subst Distinct split d) member (In-here p.shard (shards left) p.shard refl))

filtered_last : (m : ℕ) (ps : List Part) (p : Part) → all_filtered m (ps ++ p ∷ []) ≡ all_filtered m ps ++ filtered_of m p
filtered_last m [] p = append-nil (filtered_of m p)
filtered_last m (q ∷ ps) p = ap (λ (os : List Owed). filtered_of m q ++ os) (filtered_last m ps p) ∙ sym (append_assoc (filtered_of m q) (all_filtered m ps) (filtered_of m p))

-- the first of the parts are gathered
pub record IsHalf (c : Ledger) (m : ℕ) (all left : List Part) (g : Gathered) : Type 0 where
  pub done : List Part
  pub whole : done ++ left ≡ all
  pub gathered : IsGathered c m done g

pub half_more : (c d : Ledger) (m : ℕ) (all : List Part) (p : Part) (left : List Part) (g now : Gathered) → Distinct (shards all) → IsHalf c m all (p ∷ left) g → StaysElsewhere c d p.shard → IsTaken d p g.coming.items now.coming.items
    → now.came.items ≡ g.came.items ++ came_owed m p ∷ [] → now.filtered.items ≡ g.filtered.items ++ filtered_of m p → IsHalf d m all left now
half_more c d m all p left g now distinct half stays taken came filtered =
    let done = half.done in
    let was = half.gathered in
    let x = taken.item in
    let new : holds (shards half.done) p.shard ≡ false = apart_before done p left (subst (λ (ps : List Part). Distinct (shards ps)) (sym half.whole) distinct) in
    let none : holds (names (parts_of g.coming.items)) p.shard ≡ false = ap (λ (ts : List Stream). holds (names ts) p.shard) was.coming ∙ (ap (λ (ns : List ℕ). holds ns p.shard) (names_of done) ∙ new) in
    record {
      done = done ++ p ∷ [];
      whole = append_assoc done (p ∷ []) left ∙ half.whole;
      gathered = record {
        coming = ap parts_of taken.items ∙ (map-append part_of g.coming.items (x ∷ [])
            ∙ (ap (λ (ts : List Stream). ts ++ part_of x ∷ []) was.coming
            ∙ (ap (λ (t : Stream). streams_of done ++ t ∷ []) taken.part
            ∙ sym (map-append stream_of done (p ∷ [])))));
        prepared = subst (AreComing d) (sym taken.items) (coming_last d g.coming.items x (moved_coming c d p.shard stays g.coming.items none was.prepared) taken.coming);
        came = came ∙ (ap (λ (os : List Owed). os ++ came_owed m p ∷ []) was.came ∙ sym (map-append (came_owed m) done (p ∷ [])));
        filtered = filtered ∙ (ap (λ (os : List Owed). os ++ filtered_of m p) was.filtered ∙ sym (filtered_last m done p));
      };
    }

pub half_done : (c : Ledger) (m : ℕ) (all left : List Part) (g : Gathered) → left ≡ [] → IsHalf c m all left g → IsGathered c m all g
half_done c m all left g none half =
    let whole : half.done ≡ all = sym (append-nil half.done) ∙ (ap (λ (ps : List Part). half.done ++ ps) (sym none) ∙ half.whole) in
    subst (λ (ps : List Part). IsGathered c m ps g) whole half.gathered

-- of a list of records that may come

pub parts_taken : (s : Setting) (h : List Entry) (ps : List Part) (m : ℕ) → MayBring s h ps m → AreWithinBounds s → IsStreamConfig s.config → Every (CanTake s h m) ps
parts_taken s h ps m may bounds config = subst (Every (CanTake s h m)) (sym may.parts) (can_take s h may.items m may.may may.valid may.few may.places bounds config)

pub parts_apart : (s : Setting) (h : List Entry) (ps : List Part) (m : ℕ) → MayBring s h ps m → Distinct (shards ps)
parts_apart s h ps m may = subst (λ (qs : List Part). Distinct (shards qs)) (sym may.parts) (parts_distinct s h may.items)

pub next_taken : (s : Setting) (h : List Entry) (m : ℕ) (c : Ledger) (all : List Part) (p : Part) (left : List Part) (g : Gathered) → Every (CanTake s h m) all → IsHalf c m all (p ∷ left) g → CanTake s h m p
next_taken s h m c all p left g can half = every_at (CanTake s h m) half.done p left (subst (Every (CanTake s h m)) (sym half.whole) can)
