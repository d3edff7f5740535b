-- What may be said of the records that come, over all lists with them.
use Rattle.std.proofs.Common.{◌≡◌, ℕ, zero, suc, ◌+◌, ◌-◌, ◌≤◌, true, false, cond, List, [], ◌∷◌, ◌++◌, map, length, refl, sym, ap, ◌∙◌, subst, inl, inr, arith, Some, None}
use Rattle.std.specs.Prelude.{◌==◌, All, filter_map, slice_get, IfSome, ⊤}
use Rattle.std.specs.List.{AllByRecursion}
use Rattle.std.proofs.lemmas.Bool.{cases_Bool, eqb-true}
use Rattle.std.proofs.lemmas.List.Elements.{recursion_from_All, All-from_recursion}
use Rattle.esm_model.specs.declared.limits.TheConstants.{MAX_BATCH, MAX_PAYLOAD}
use Rattle.esm_model.specs.Records.{Record}
use Rattle.esm_model.specs.declared.entry.Fate.TheVariants.{Filtered}
use Rattle.esm_model.specs.declared.entry.Entry.{Entry}
use Rattle.esm_model.specs.declared.entry.Entry.TheVariants.{Gave}
use Rattle.esm_model.specs.Valid.{IsValidRecord, IsStreamConfig}
use Rattle.esm_model.specs.Setting.{Setting, Stream, Extends, records_in, record_at, sequences_at}
use Rattle.esm_model.specs.Entries.{holds, came_count}
use Rattle.esm_model.specs.Step.{Legal}
use Rattle.esm_model.proofs.Lists.{In}
use Rattle.esm_model.proofs.Steps.{came_grows}
use Rattle.esm_journal_record.specs.declared.said.Said.{Said}
use Rattle.esm_journal_record.specs.declared.said.Said.TheVariants.{Fates}
use Rattle.esm_journal_record.specs.Payload.{payload_of, IsSaid}
use Rattle.esm_journal_record.specs.EntryPayload.{entry_said}
use Rattle.esm_ledger.specs.Coming.{with_list}
use Rattle.esm_ingest.specs.Coming.{with_records, of_shard, count_of, FitPlaces}
use Rattle.esm_ingest.specs.Parts.{Part, refused_from, parts_of, grown_by, CanCome}
use Rattle.esm_ingest.specs.Entries.{with_entries, came_parts, filtered_at, filtered_parts, arrival_entries}
use Rattle.esm_ingest.specs.Sound.{with_all, MayArrive}
use Rattle.esm_ingest.proofs.Places.{shards, Every, every_both, IsPartOf, parts_are, parts_distinct, in_list, get_some, Stands, parts_stand}
use Rattle.esm_ingest.proofs.Streams.{grown_parts}
use Rattle.esm_ingest.proofs.Partwise.{parts_can}
use Rattle.esm_ingest.proofs.Arriving.{after_parts, count_off, count_after}
use Rattle.esm_ingest.proofs.Filtering.{entries_append, legal_front}
use Rattle.esm_ingest.proofs.Soundness.{all_settled}
use Rattle.esm_record_bounds.specs.Bounds.{AreWithinBounds, AreCountedInFourBytes, FiltersFew}
use Rattle.esm_record_bounds.proofs.Saying.{all_said}
use Rattle.esm_record_bounds.proofs.Lengths.{payload_short}
use Rattle.esm_stream_core.specs.declared.owed.Owed.{Owed}
use Rattle.esm_stream_core.specs.Acts.{AreWritten}
use Rattle.esm_stream_core.specs.Gathered.{IsFrom, names_in, part_said, filtered_if_any, all_came, all_filtered, CanTake}
use Rattle.esm_stream_core.proofs.Places.{refused_within, refused_few}

-- each record stands in the list of its own shard and is valid

abbrev IsOwn : ℕ → Record → Type 0
IsOwn n r = (r.shard ≡ n) × IsValidRecord r

abbrev AreOwn : List Stream → Type 0
AreOwn ts = (n i : ℕ) (r : Record) → slice_get (records_in ts n) i ≡ Some r → IsOwn n r

have_at : (Q : Record → Type 0) (xs : List Record) → AllByRecursion Q xs → (i : ℕ) (r : Record) → slice_get xs i ≡ Some r → Q r
have_at Q [] all i r at = cc
have_at Q (x ∷ xs) all zero r at = (let same : x ≡ r = some_same x r at in subst Q same all.0)
  where
    some_same : (a b : Record) → Some a ≡ Some b → a ≡ b
    some_same a b is = cc
have_at Q (x ∷ xs) all (suc i) r at = have_at Q xs all.1 i r at

append_have : (Q : Record → Type 0) (xs ys : List Record) → ((i : ℕ) (r : Record) → slice_get xs i ≡ Some r → Q r) → AllByRecursion Q ys → (i : ℕ) (r : Record) → slice_get (xs ++ ys) i ≡ Some r → Q r
append_have Q [] ys have all i r at = have_at Q ys all i r at
append_have Q (x ∷ xs) ys have all zero r at = have 0 r at
append_have Q (x ∷ xs) ys have all (suc i) r at = append_have Q xs ys (λ j q there. have (suc j) q there) all i r at

list_own : (ts : List Stream) (n : ℕ) (xs : List Record) → AreOwn ts → AllByRecursion (IsOwn n) xs → AreOwn (with_list ts n xs)
list_own ts n xs own all k i r at =
    let here : slice_get (cond (n == k) (records_in ts k ++ xs) (records_in ts k)) i ≡ Some r = subst (λ (ys : List Record). slice_get ys i ≡ Some r) (in_list ts n xs k) at in
    elim (cases_Bool (n == k)) [
      | inl same ↦ (
          let mine : AllByRecursion (IsOwn k) xs = subst (λ (j : ℕ). AllByRecursion (IsOwn j) xs) (eqb-true n k same) all in
          append_have (IsOwn k) (records_in ts k) xs (own k) mine i r (rw same at here))
      | inr off ↦ own k i r (rw off at here)
    ]

grown_own : (ts : List Stream) (ps : List Part) → AreOwn ts → Every (λ (p : Part). AllByRecursion (IsOwn p.shard) p.records) ps → AreOwn (grown_by ts ps)
grown_own ts [] own all = own
grown_own ts (p ∷ ps) own all = grown_own (with_list ts p.shard p.records) ps (list_own ts p.shard p.records own all.0) all.1

shard_own : (rs : List Record) (n : ℕ) → AllByRecursion IsValidRecord rs → AllByRecursion (IsOwn n) (of_shard n rs)
shard_own [] n valid = tt
shard_own (r ∷ rs) n valid = elim (cases_Bool (r.shard == n)) [
  | inl same ↦ rw same ((eqb-true r.shard n same, valid.0), shard_own rs n valid.1)
  | inr off ↦ rw off (shard_own rs n valid.1)
]

all_valid : (n : ℕ) (xs : List Record) → AllByRecursion (IsOwn n) xs → AllByRecursion IsValidRecord xs
all_valid n [] own = tt
all_valid n (x ∷ xs) own = (own.0.1, all_valid n xs own.1)

shard_few : (rs : List Record) (n : ℕ) → length (of_shard n rs) ≤ length rs
shard_few [] n = omega arith
shard_few (r ∷ rs) n =
    let rest = shard_few rs n in
    elim (cases_Bool (r.shard == n)) [
      | inl same ↦ rw same (omega (arith, rest))
      | inr off ↦ rw off (omega (arith, rest))
    ]

every_in : (Q : ℕ → Type 0) (ps : List Part) → Every (λ (p : Part). Q p.shard) ps → (n : ℕ) → In (shards ps) n → Q n
every_in Q [] all n member = absurd (let clash : false ≡ true = member in cc)
every_in Q (p ∷ ps) all n member = elim (cases_Bool (p.shard == n)) [
  | inl same ↦ subst Q (eqb-true p.shard n same) all.0
  | inr off ↦ every_in Q ps all.1 n (rw off at member)
]

-- what is said of entries

abbrev Fits : Setting → Entry → Type 0
Fits s e = IfSome (entry_said s e) IsSaid × IfSome (entry_said s e) (λ (said : Said). length (payload_of said) ≤ MAX_PAYLOAD)

abbrev AllFit : Setting → List Entry → Type 0
AllFit s [] = ⊤
AllFit s (e ∷ es) = Fits s e × AllFit s es

abbrev AllFew : List Entry → Type 0
AllFew [] = ⊤
AllFew (e ∷ es) = FiltersFew e × AllFew es

counts_grow : (h es : List Entry) (n : ℕ) → came_count h n ≤ came_count (with_entries h es) n
counts_grow h [] n = omega arith
counts_grow h (e ∷ es) n =
    let one = came_grows e h n in
    let rest = counts_grow (e ∷ h) es n in
    omega (arith, one, rest)

all_fit : (s : Setting) (h es : List Entry) → AreWithinBounds s → IsStreamConfig s.config → Legal s (with_entries h es) → AreCountedInFourBytes (with_entries h es) → AllFew es → AllFit s es
all_fit s h [] bounds config legal counted few = tt
all_fit s h (e ∷ es) bounds config legal counted few =
    let here : Legal s (e ∷ h) = legal_front s (e ∷ h) es legal in
    let now : AreCountedInFourBytes (e ∷ h) = λ n. (let more = counts_grow (e ∷ h) es n in let most = counted n in omega (arith, more, most)) in
    let before : AreCountedInFourBytes h = λ n. (let more = counts_grow h (e ∷ es) n in let most = counted n in omega (arith, more, most)) in
    (((all_said s (e ∷ h) bounds here now).1, payload_short s h e bounds config here before few.0), all_fit s (e ∷ h) es bounds config legal counted few.1)

fit_after : (s : Setting) (xs ys : List Entry) → AllFit s (xs ++ ys) → AllFit s ys
fit_after s [] ys fit = fit
fit_after s (x ∷ xs) ys fit = fit_after s xs ys fit.1

abbrev PartFits : Setting → ℕ → Part → Type 0
PartFits s m p = 1 ≤ length p.refused → Fits s (Gave None p.shard p.refused Filtered None None m)

parts_fit : (s : Setting) (m : ℕ) (ps : List Part) → AllFit s (filtered_parts m ps) → Every (PartFits s m) ps
parts_fit s m [] fit = tt
parts_fit s m (p ∷ ps) fit = (let both = first p.refused fit in (both.0, parts_fit s m ps both.1))
  where
    first : (xs : List ℕ) → AllFit s (filtered_at m p.shard xs ++ filtered_parts m ps) → (1 ≤ length xs → Fits s (Gave None p.shard xs Filtered None None m)) × AllFit s (filtered_parts m ps)
    first [] all = (λ some. absurd (omega (arith, some)), all)
    first (x ∷ xs) all = (λ some. all.0, all.1)

few_came : (m : ℕ) (ps : List Part) (es : List Entry) → AllFew es → AllFew (came_parts m ps ++ es)
few_came m [] es few = few
few_came m (p ∷ ps) es few = (tt, few_came m ps es few)

few_filtered : (m : ℕ) (ps : List Part) → Every (λ (p : Part). length p.refused ≤ MAX_BATCH) ps → AllFew (filtered_parts m ps)
few_filtered m [] all = tt
few_filtered m (p ∷ ps) all = first p.refused all.0 (few_filtered m ps all.1)
  where
    first : (xs : List ℕ) → length xs ≤ MAX_BATCH → AllFew (filtered_parts m ps) → AllFew (filtered_at m p.shard xs ++ filtered_parts m ps)
    first [] few rest = rest
    first (x ∷ xs) few rest = (few, rest)

filtered_counts : (g : List Entry) (m : ℕ) (ps : List Part) (n : ℕ) → came_count (with_entries g (filtered_parts m ps)) n ≡ came_count g n
filtered_counts g m [] n = refl
filtered_counts g m (p ∷ ps) n = first p.refused (λ before. filtered_counts before m ps n)
  where
    first : (xs : List ℕ) → ((before : List Entry) → came_count (with_entries before (filtered_parts m ps)) n ≡ came_count before n) → came_count (with_entries g (filtered_at m p.shard xs ++ filtered_parts m ps)) n ≡ came_count g n
    first [] rest = rest g
    first (x ∷ xs) rest = rest (Gave None p.shard (x ∷ xs) Filtered None None m ∷ g)

-- the names of the places

names_same : (s : Setting) (n first : ℕ) (rs : List Record) (places : List ℕ) → ((k : ℕ) (r : Record) → slice_get rs k ≡ Some r → record_at s n (first + k) ≡ Some r) → AllByRecursion (IsFrom first (length rs)) places
    → names_in first rs places ≡ sequences_at s n places
names_same s n first rs places stands within = ap (map (λ (r : Record). r.seq)) (same places within)
  where
    same : (xs : List ℕ) → AllByRecursion (IsFrom first (length rs)) xs → filter_map (λ (i : ℕ). slice_get rs (i - first)) xs ≡ filter_map (record_at s n) xs
    same [] all = refl
    same (i ∷ xs) all =
        let from = all.0.0 in
        let under = all.0.1 in
        let has = get_some rs (i - first) (omega (arith, from, under)) in
        let e : first + (i - first) ≡ i = omega (arith, from) in
        let here : record_at s n i ≡ Some has.item = subst (λ (j : ℕ). record_at s n j ≡ Some has.item) e (stands (i - first) has.item has.at) in
        rw (has.at, here) (ap (λ (ys : List Record). has.item ∷ ys) (same xs all.1))

-- of a list of records that may come

module _ (s : Setting) (h : List Entry) (rs : List Record) (m : ℕ) (may : MayArrive s h rs m) (valid : All IsValidRecord rs) (few : length rs ≤ MAX_BATCH) (fit : FitPlaces h rs) (bounds : AreWithinBounds s) (config : IsStreamConfig s.config) where
  valid_each : AllByRecursion IsValidRecord rs
  valid_each = recursion_from_All IsValidRecord rs valid

  own_parts : Every (λ (p : Part). AllByRecursion (IsOwn p.shard) p.records) (parts_of s h rs)
  own_parts =
      every_both (IsPartOf s h rs) (IsPartOf s h rs) (λ (p : Part). AllByRecursion (IsOwn p.shard) p.records) (parts_of s h rs)
      (λ p is also. subst (AllByRecursion (IsOwn p.shard)) (sym is.records) (shard_own rs p.shard valid_each))
      (parts_are s h rs) (parts_are s h rs)

  own_all : AreOwn (with_records s.streams rs)
  own_all = subst AreOwn (grown_parts s h rs s.streams) (grown_own s.streams (parts_of s h rs) (λ n i r at. (bounds.own_shard n i r at, bounds.valid n i r at)) own_parts)

  pub bounds_all : AreWithinBounds (with_all s rs)
  bounds_all = record {
    own_shard = λ n i r at. (own_all n i r at).0;
    valid = λ n i r at. (own_all n i r at).1;
    states = bounds.states;
  }

  counted_parts : (n : ℕ) → came_count (after_parts h m (parts_of s h rs)) n ≤ came_count h n + count_of n rs
  counted_parts n = elim (cases_Bool (holds (shards (parts_of s h rs)) n)) [
    | inl known ↦ every_in (λ (k : ℕ). came_count (after_parts h m (parts_of s h rs)) k ≤ came_count h k + count_of k rs) (parts_of s h rs)
        (every_both (λ (p : Part). came_count (after_parts h m (parts_of s h rs)) p.shard ≡ length p.records + came_count h p.shard) (IsPartOf s h rs) (λ (p : Part). came_count (after_parts h m (parts_of s h rs)) p.shard ≤ came_count h p.shard + count_of p.shard rs) (parts_of s h rs)
        (λ p count is. (let e : length p.records ≡ count_of p.shard rs = ap (λ (xs : List Record). length xs) is.records in omega (arith, count, e)))
        (count_after h m (parts_of s h rs) (parts_distinct s h rs)) (parts_are s h rs))
        n known
    | inr new ↦ (let e = count_off h m (parts_of s h rs) n new in omega (arith, e))
  ]

  counted_all : AreCountedInFourBytes (with_entries h (arrival_entries s h rs m))
  counted_all n =
      let whole : came_count (with_entries h (arrival_entries s h rs m)) n ≡ came_count (after_parts h m (parts_of s h rs)) n
      = ap (λ (g : List Entry). came_count g n) (entries_append h (came_parts m (parts_of s h rs)) (filtered_parts m (parts_of s h rs))) ∙ filtered_counts (after_parts h m (parts_of s h rs)) m (parts_of s h rs) n in
      let most = counted_parts n in
      let fits = fit n in
      omega (arith, whole, most, fits)

  few_parts : Every (λ (p : Part). length p.refused ≤ MAX_BATCH) (parts_of s h rs)
  few_parts =
      every_both (IsPartOf s h rs) (IsPartOf s h rs) (λ (p : Part). length p.refused ≤ MAX_BATCH) (parts_of s h rs)
      (λ p is also.
      (let a : length p.refused ≡ length (refused_from s p.shard p.first p.records) = ap (λ (xs : List ℕ). length xs) is.refused in
      let b = refused_few s p.shard p.first p.records in
      let c : length p.records ≡ length (of_shard p.shard rs) = ap (λ (xs : List Record). length xs) is.records in
      let d = shard_few rs p.shard in
      omega (arith, a, b, c, d, few)))
      (parts_are s h rs) (parts_are s h rs)

  entries_fit : AllFit (with_all s rs) (arrival_entries s h rs m)
  entries_fit =
      all_fit (with_all s rs) h (arrival_entries s h rs m) bounds_all config (all_settled s h rs m may (with_records s.streams rs) (λ n i r at. at)).legal counted_all
      (few_came m (parts_of s h rs) (filtered_parts m (parts_of s h rs)) (few_filtered m (parts_of s h rs) few_parts))

  fits : Every (PartFits (with_all s rs) m) (parts_of s h rs)
  fits = parts_fit (with_all s rs) m (parts_of s h rs) (fit_after (with_all s rs) (came_parts m (parts_of s h rs)) (filtered_parts m (parts_of s h rs)) entries_fit)

  stand : Every (Stands (with_all s rs)) (parts_of s h rs)
  stand =
      parts_stand s h rs (parts_of s h rs) (with_records s.streams rs) may.all (parts_distinct s h rs) (parts_are s h rs)
      (subst (λ (ts : List Stream). Extends ts (with_records s.streams rs)) (sym (grown_parts s h rs s.streams)) (λ n i r at. at))

  named : Every (λ (p : Part). names_in p.first p.records p.refused ≡ sequences_at (with_all s rs) p.shard p.refused) (parts_of s h rs)
  named =
      every_both (IsPartOf s h rs) (Stands (with_all s rs)) (λ (p : Part). names_in p.first p.records p.refused ≡ sequences_at (with_all s rs) p.shard p.refused) (parts_of s h rs)
      (λ p is stands. names_same (with_all s rs) p.shard p.first p.records p.refused stands
      (recursion_from_All (IsFrom p.first (length p.records)) p.refused (subst (All (IsFrom p.first (length p.records))) (sym is.refused) (refused_within s p.shard p.first p.records))))
      (parts_are s h rs) stand

  -- what is said of a part's refused places may be said, and is short
  record IsSayable (p : Part) : Type 0 where
    said : 1 ≤ length p.refused → IsSaid (part_said m p)
    short : 1 ≤ length p.refused → length (payload_of (part_said m p)) ≤ MAX_PAYLOAD
    is : part_said m p ≡ Fates p.shard Filtered m None p.refused (sequences_at (with_all s rs) p.shard p.refused)

  sayable : Every IsSayable (parts_of s h rs)
  sayable =
      every_both (PartFits (with_all s rs) m) (λ (p : Part). names_in p.first p.records p.refused ≡ sequences_at (with_all s rs) p.shard p.refused) IsSayable (parts_of s h rs)
      (λ p fits names.
      (let is : part_said m p ≡ Fates p.shard Filtered m None p.refused (sequences_at (with_all s rs) p.shard p.refused) = ap (Fates p.shard Filtered m None p.refused) names in
      record {
        said = λ some. subst IsSaid (sym is) (fits some).0;
        short = λ some. subst (λ (x : Said). length (payload_of x) ≤ MAX_PAYLOAD) (sym is) (fits some).1;
        is = is;
      }))
      fits named

  from_each : (P : Part → Type 0) (ps : List Part) → AllByRecursion P ps → Every P ps
  from_each P [] all = tt
  from_each P (p ∷ ps) all = (all.0, from_each P ps all.1)

  can_come : Every (CanCome h) (parts_of s h rs)
  can_come = from_each (CanCome h) (parts_of s h rs) (recursion_from_All (CanCome h) (parts_of s h rs) (parts_can s h rs (parts_of s h rs) fit refl))

  pub can_take : Every (CanTake s h m) (parts_of s h rs)
  can_take =
      every_both (λ (p : Part). CanCome h p × IsSayable p) (λ (p : Part). IsPartOf s h rs p × AllByRecursion (IsOwn p.shard) p.records) (CanTake s h m) (parts_of s h rs)
      (λ p can is. record {
        can = can.0;
        valid = All-from_recursion IsValidRecord p.records (all_valid p.shard p.records is.1);
        refused = is.0.refused;
        said = can.1.said;
      })
      (every_both (CanCome h) IsSayable (λ (p : Part). CanCome h p × IsSayable p) (parts_of s h rs) (λ p can says. (can, says)) can_come sayable)
      (every_both (IsPartOf s h rs) (λ (p : Part). AllByRecursion (IsOwn p.shard) p.records) (λ (p : Part). IsPartOf s h rs p × AllByRecursion (IsOwn p.shard) p.records) (parts_of s h rs) (λ p is own. (is, own)) (parts_are s h rs) own_parts)

  -- what is written of all

  written_filtered : (ps : List Part) → Every IsSayable ps → AreWritten (with_all s rs) (all_filtered m ps)
  written_filtered [] all = tt
  written_filtered (p ∷ ps) all = first p.refused (λ some. all.0.short some) (written_filtered ps all.1)
    where
      first : (xs : List ℕ) → (1 ≤ length xs → length (payload_of (part_said m p)) ≤ MAX_PAYLOAD) → AreWritten (with_all s rs) (all_filtered m ps) → AreWritten (with_all s rs) (filtered_if_any m p xs ++ all_filtered m ps)
      first [] short rest = rest
      first (x ∷ xs) short rest = (
        record {
          payload = ap (λ (said : Said). Some (payload_of said)) (sym all.0.is);
          short = short (omega arith);
          line = tt;
          in_time = may.later.within;
        },
        rest,
      )

  written_came : (ps : List Part) (owed : List Owed) → AreWritten (with_all s rs) owed → AreWritten (with_all s rs) (all_came m ps ++ owed)
  written_came [] owed written = written
  written_came (p ∷ ps) owed written = (record { payload = refl; short = tt; line = tt; in_time = may.later.within }, written_came ps owed written)

  pub all_written : AreWritten (with_all s rs) (all_came m (parts_of s h rs) ++ all_filtered m (parts_of s h rs))
  all_written = written_came (parts_of s h rs) (all_filtered m (parts_of s h rs)) (written_filtered (parts_of s h rs) sayable)
