-- The pieces that the rows make are those that a replay begins with.
use Rattle.std.proofs.Common.{◌≡◌, ℕ, suc, ◌<◌, ◌≤◌, Bool, true, false, ◌||◌, List, [], ◌∷◌, ◌++◌, length, refl, sym, ap, ◌∙◌, subst, inl, inr, arith, Option, Some, None, append_assoc}
use Rattle.std.specs.Prelude.{◌==◌, map, filter, slice_get, is_some}
use Rattle.std.specs.List.{All, list_any, AllByRecursion}
use Rattle.std.specs.List.Sorted.{IsStrictlySortedBy}
use Rattle.std.specs.Ordering.{nat_cmp}
use Rattle.std.specs.declared.cmp.Ordering.TheVariants.{Less}
use Rattle.std.specs.Map.{lookup, keys_of}
use Rattle.std.specs.BTreeMap.{is_at, get, IsOrdered, BTreeMap}
use Rattle.std.specs.BTreeSet.{BTreeSet}
use Rattle.std.proofs.lemmas.Bool.{cases_Bool, eqb-true, lt-ltb, false_from_ne_true}
use Rattle.std.proofs.lemmas.Cmp.{nat_cmp_total}
use Rattle.std.proofs.lemmas.List.{take_all}
use Rattle.std.proofs.lemmas.List.Elements.{All-nil, All-cons}
use Rattle.std.proofs.lemmas.Map.Lookups.{btree_set_from_contains, exact_unsigned}
use Rattle.std.proofs.lemmas.Map.Entries.{btree_map_get_place}
use Rattle.esm_model.specs.declared.config.Config.{Config}
use Rattle.esm_model.specs.Records.{Record}
use Rattle.esm_model.specs.Setting.{records_of}
use Rattle.esm_model.specs.Fates.{below}
use Rattle.esm_journal_state.specs.SaidLists.{SaidLists}
use Rattle.esm_journal_state.proofs.Pairs.{is_eq-nat}
use Rattle.esm_journal_state.proofs.Finding.{eqb-flip}
use Rattle.esm_replay_model.specs.declared.range.Range.{Range}
use Rattle.esm_replay_model.specs.ReplaySetting.{ReplaySetting, is_named, named_places}
use Rattle.esm_replay_model.specs.Pieces.{ReplayPiece, ahead, inserted, rising_shards, named_pieces, first_pieces}
use Rattle.esm_replay_model.proofs.Counting.{Above, Rising, Rising-inserted}
use Rattle.esm_replay.specs.declared.rows.Named.{Named}
use Rattle.esm_replay.specs.declared.rows.Row.{Row}
use Rattle.esm_replay.specs.Records.{shards_of, of_shard, stream_of, setting_with}
use Rattle.esm_replay.specs.Rows.{places_of, Stands, IsRow, IsRowAt, count_in}
use Rattle.esm_replay.specs.Waiting.{NamedPiece, seen_pieces, put_ahead, pieces_in, IsPlaced}
use Rattle.esm_replay.proofs.Gathering.{held_inserted, none_of_shard, records_are}

-- pieces

pub put_behind : (n : ℕ) (ds : List Named) (before others : List NamedPiece) → (before ++ put_ahead n ds []) ++ others ≡ before ++ put_ahead n ds others
put_behind n [] before others = append_assoc before [] others
put_behind n (d ∷ ds) before others = append_assoc before (record { shard = n; named = d ∷ ds } ∷ []) others

pub seen_ahead : (n : ℕ) (ds : List Named) (others : List NamedPiece) → seen_pieces (put_ahead n ds others) ≡ ahead n (places_of ds) (seen_pieces others)
seen_ahead n [] others = refl
seen_ahead n (d ∷ ds) others = refl

pub placed_ahead : (s : ReplaySetting) (rs : List Record) (n : ℕ) (ds : List Named) (others : List NamedPiece) → All (Stands s rs n) ds → All (IsPlaced s rs) others → All (IsPlaced s rs) (put_ahead n ds others)
placed_ahead s rs n [] others own all = all
placed_ahead s rs n (d ∷ ds) others own all = All-cons (IsPlaced s rs) (record { shard = n; named = d ∷ ds }) others own all

-- rows that are those of a setting, each at its key

abbrev pub AreRows : ReplaySetting → List Record → List (ℕ × Row) → Type 0
AreRows s rs es = (i n : ℕ) (row : Row) → slice_get es i ≡ Some (n, row) → IsRow s rs n (length (of_shard n rs)) row

rows_seen : (s : ReplaySetting) (rs : List Record) (es : List (ℕ × Row)) → ((n : ℕ) → records_of s.base n ≡ of_shard n rs) → AreRows s rs es → seen_pieces (pieces_in es) ≡ named_pieces s (keys_of es)
rows_seen s rs [] long are = refl
rows_seen s rs (e ∷ es) long are =
    let own : IsRow s rs e.0 (length (of_shard e.0 rs)) e.1 = are 0 e.0 e.1 refl in
    let places : places_of e.1.named.items ≡ named_places s e.0 = own.places ∙ ap (λ (xs : List Record). filter (is_named s e.0) (below (length xs))) (sym (long e.0)) in
    seen_ahead e.0 e.1.named.items (pieces_in es)
    ∙ ap (λ (xs : List ℕ). ahead e.0 xs (seen_pieces (pieces_in es))) places
    ∙ ap (λ (ps : List ReplayPiece). ahead e.0 (named_places s e.0) ps) (rows_seen s rs es long (λ i n row at. are (suc i) n row at))

rows_placed : (s : ReplaySetting) (rs : List Record) (es : List (ℕ × Row)) → AreRows s rs es → All (IsPlaced s rs) (pieces_in es)
rows_placed s rs [] are = All-nil (IsPlaced s rs)
rows_placed s rs (e ∷ es) are =
    let own : IsRow s rs e.0 (length (of_shard e.0 rs)) e.1 = are 0 e.0 e.1 refl in
    placed_ahead s rs e.0 e.1.named.items (pieces_in es) own.stand (rows_placed s rs es (λ i n row at. are (suc i) n row at))

-- the keys are the shards of the records

rising_again : (rs : List Record) (ns : List ℕ) → Rising ns → rising_shards (map (stream_of rs) ns) ≡ ns
rising_again rs [] rising = refl
rising_again rs (n ∷ ns) rising = ap (inserted n) (rising_again rs ns rising.1) ∙ first n ns rising.0
  where
    first : (n : ℕ) (ns : List ℕ) → Above n ns → inserted n ns ≡ n ∷ ns
    first n [] above = refl
    first n (m ∷ ms) above =
        let less : n < m = above.0 in
        let other : (n == m) ≡ false = false_from_ne_true (n == m) (λ same. let e : n ≡ m = eqb-true n m same in absurd (omega arith)) in
        rw other (rw (lt-ltb n m less) refl)

pub rising_records : (rs : List Record) → Rising (shards_of rs)
rising_records [] = tt
rising_records (r ∷ rs) = Rising-inserted r.shard (shards_of rs) (rising_records rs)

less_cmp : (n m : ℕ) → n < m → nat_cmp n m ≡ Less
less_cmp n m l = rw (lt-ltb n m l) refl

all_less : (n : ℕ) (ms : List ℕ) → Above n ms → AllByRecursion (λ y. nat_cmp n y ≡ Less) ms
all_less n [] above = tt
all_less n (m ∷ ms) above = (less_cmp n m above.0, all_less n ms above.1)

sorted_rising : (ns : List ℕ) → Rising ns → IsStrictlySortedBy nat_cmp ns
unfolding IsStrictlySortedBy
sorted_rising [] rising = tt
sorted_rising (n ∷ ns) rising = (all_less n ns rising.0, sorted_rising ns rising.1)

any_key : (q : ℕ) (es : List (ℕ × Row)) → list_any (is_at (nat_cmp q)) (keys_of es) ≡ is_some (lookup (is_at (nat_cmp q)) es)
any_key q [] = refl
any_key q (e ∷ es) = elim (cases_Bool (is_at (nat_cmp q) e.0)) [ inl here ↦ rw here refl | inr other ↦ rw other (any_key q es) ]

any_shard : (q : ℕ) (ns : List ℕ) → list_any (is_at (nat_cmp q)) ns ≡ list_any (λ m. m == q) ns
any_shard q [] = refl
any_shard q (n ∷ ns) = ap (λ (b : Bool). b || list_any (is_at (nat_cmp q)) ns) (is_eq-nat q n ∙ eqb-flip q n) ∙ ap (λ (b : Bool). (n == q) || b) (any_shard q ns)

held_some : (q : ℕ) (rs : List Record) → list_any (λ m. m == q) (shards_of rs) ≡ true → 1 ≤ length (of_shard q rs)
held_some q [] is = cc
held_some q (r ∷ rs) is =
    elim (cases_Bool (r.shard == q)) [
      | inl here ↦ rw here (omega arith)
      | inr other ↦ rw other (held_some q rs (sym (ap (λ (b : Bool). b || list_any (λ m. m == q) (shards_of rs)) other) ∙ sym (held_inserted r.shard q (shards_of rs)) ∙ is))
    ]

same_members : (s : ReplaySetting) (rs : List Record) (q : ℕ) (o : Option Row) → IsRowAt s rs q (length (of_shard q rs)) o → is_some o ≡ list_any (λ m. m == q) (shards_of rs)
same_members s rs q None none = sym (false_from_ne_true (list_any (λ m. m == q) (shards_of rs)) (λ is. let some : 1 ≤ length (of_shard q rs) = held_some q rs is in let empty : length (of_shard q rs) ≡ 0 = none in absurd (omega arith)))
same_members s rs q (Some row) is =
    elim (cases_Bool (list_any (λ m. m == q) (shards_of rs))) [
      | inl held ↦ sym held
      | inr none ↦ (let empty : length (of_shard q rs) ≡ 0 = ap (λ (xs : List Record). length xs) (none_of_shard q rs none) in let some : 1 ≤ length (of_shard q rs) = is.some in absurd (omega arith))
    ]

keys_are : (s : ReplaySetting) (rs : List Record) (m : BTreeMap ℕ Row) → IsOrdered nat_cmp m → ((q : ℕ) → IsRowAt s rs q (length (of_shard q rs)) (get nat_cmp m q)) → keys_of m.entries ≡ shards_of rs
keys_are s rs m ordered rows =
    let own : BTreeSet ℕ = record { keys = keys_of m.entries } in
    let all : BTreeSet ℕ = record { keys = shards_of rs } in
    btree_set_from_contains nat_cmp_total own all ordered (sorted_rising (shards_of rs) (rising_records rs))
    (λ q. any_key q m.entries ∙ same_members s rs q (get nat_cmp m q) (rows q) ∙ sym (any_shard q (shards_of rs))) exact_unsigned

-- the whole

module _ (config : Config) (calls : ℕ) (told : SaidLists) (ranges : List Range) (rs : List Record) (m : BTreeMap ℕ Row) (ordered : IsOrdered nat_cmp m)
    (rows : (q : ℕ) → IsRowAt (setting_with config calls told ranges rs) rs q (count_in q rs (length rs)) (get nat_cmp m q)) where
  all_rows : (q : ℕ) → IsRowAt (setting_with config calls told ranges rs) rs q (length (of_shard q rs)) (get nat_cmp m q)
  all_rows q = subst (λ (xs : List Record). IsRowAt (setting_with config calls told ranges rs) rs q (length (of_shard q xs)) (get nat_cmp m q)) (take_all (length rs) rs (omega arith)) (rows q)

  are_rows : AreRows (setting_with config calls told ranges rs) rs m.entries
  are_rows i n row at = subst (λ (o : Option Row). IsRowAt (setting_with config calls told ranges rs) rs n (length (of_shard n rs)) o) (btree_map_get_place nat_cmp_total m i n row ordered at) (all_rows n)

  pub first_seen : seen_pieces (pieces_in m.entries) ≡ first_pieces (setting_with config calls told ranges rs)
  first_seen =
      rows_seen (setting_with config calls told ranges rs) rs m.entries (λ n. records_are n rs) are_rows
      ∙ ap (named_pieces (setting_with config calls told ranges rs)) (keys_are (setting_with config calls told ranges rs) rs m ordered all_rows ∙ sym (rising_again rs (shards_of rs) (rising_records rs)))

  pub first_placed : All (IsPlaced (setting_with config calls told ranges rs) rs) (pieces_in m.entries)
  first_placed = rows_placed (setting_with config calls told ranges rs) rs m.entries are_rows
