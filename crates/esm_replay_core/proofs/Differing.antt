-- The first record that differs, record by record.
use Rattle.std.proofs.Common.{◌≡◌, ℕ, zero, suc, ◌+◌, ◌<◌, ◌≤◌, List, [], ◌∷◌, ◌++◌, length, get_or, take, drop, refl, sym, ap, ap₂, ◌∙◌, arith, true, false, add-one, append_assoc, Option, Some, None}
use Rattle.std.specs.Prelude.{◌==◌, ◌&&◌, not, Bool, is_some, option_map, unwrap_or}
use Rattle.std.specs.Option.{option_or}
use Rattle.std.specs.Ordering.{nat_cmp}
use Rattle.std.specs.Map.{count_at}
use Rattle.std.specs.BTreeMap.{BTreeMap, get}
use Rattle.std.proofs.Math.Seq.{drop-cons}
use Rattle.std.proofs.lemmas.List.{length-append, take_more, length-take-le}
use Rattle.std.proofs.lemmas.List.Elements.{filter-append}
use Rattle.esm_model.specs.Records.{Record}
use Rattle.esm_model.specs.declared.book.Change.{Change}
use Rattle.esm_model.specs.declared.setup.FoundFate.{FoundFate}
use Rattle.esm_model.specs.declared.setup.FoundTries.{FoundTries}
use Rattle.esm_journal_state.specs.declared.kept.KeptFate.{KeptFate}
use Rattle.esm_journal_state.specs.declared.kept.KeptTries.{KeptTries}
use Rattle.esm_journal_state.specs.SaidLists.{SaidLists, fate_told, tries_told, is_replay_told}
use Rattle.esm_journal_state.specs.Tells.{fate_of_found, tries_of_found}
use Rattle.esm_journal_state.specs.Meaning.{is_failure}
use Rattle.esm_replay_model.specs.declared.range.Range.{Range}
use Rattle.esm_replay_model.specs.ReplaySetting.{is_in_ranges}
use Rattle.esm_replay.specs.Records.{of_shard, names, are_named}
use Rattle.esm_replay.proofs.Naming.{named_append}
use Rattle.esm_replay.specs.Coming.{other_text, kept_otherwise, change_of, change_at, first_change}
use Rattle.esm_replay_core.specs.Counts.{AreCounted}
use Rattle.esm_replay_core.proofs.Standing.{few_of_shard}

-- the first records of a list are not more of a shard than of all
pub few_front : (items : List Record) (i q : ℕ) → i ≤ length items → length (of_shard q (take i items)) ≤ i
few_front items i q low =
    let few : length (of_shard q (take i items)) ≤ length (take i items) = few_of_shard q (take i items) in
    let long : length (take i items) ≡ i = length-take-le i items low in
    omega arith

-- a record that comes after these stands at this place of its shard
pub place_is : (m : BTreeMap ℕ ℕ) (before front : List Record) (q : ℕ) → AreCounted m before → count_at (get nat_cmp m) q + length (of_shard q front) ≡ length (of_shard q (before ++ front))
place_is m before front q are =
    ap (λ (a : ℕ). a + length (of_shard q front)) (are q)
    ∙ sym (ap (λ (xs : List Record). length xs) (filter-append (λ (x : Record). x.shard == q) before front) ∙ length-append (of_shard q before) (of_shard q front))

pub front_more : (items : List Record) (i : ℕ) (item : Record) → i < length items → item ≡ get_or items i item → take (i + 1) items ≡ take i items ++ item ∷ []
front_more items i item low at = take_more items i item low ∙ ap (λ (x : Record). take i items ++ x ∷ []) (sym at)

pub rest_less : (items : List Record) (i : ℕ) (item : Record) → i < length items → item ≡ get_or items i item → drop i items ≡ item ∷ drop (i + 1) items
rest_less items i item low at = drop-cons items i item low ∙ ap (λ (k : ℕ). get_or items i item ∷ drop k items) (sym (add-one i)) ∙ ap (λ (x : Record). x ∷ drop (i + 1) items) (sym at)

pub or_some : (o x : Option Change) → is_some o ≡ true → option_or o x ≡ o
or_some (Some c) x some = refl
or_some None x some = absurd (cc)

pub or_none : (o x : Option Change) → is_some o ≡ false → option_or o x ≡ x
or_none (Some c) x none = absurd (cc)
or_none None x none = refl

-- the next record is looked at
module _ (told : SaidLists) (m : BTreeMap ℕ ℕ) (items : List Record) (i : ℕ) (item : Record) (place : ℕ) (change : Option Change) (low : i < length items) (at : item ≡ get_or items i item)
    (place_of : place ≡ count_at (get nat_cmp m) item.shard + length (of_shard item.shard (take i items)))
    (change_is : change ≡ option_map (change_of item place) (kept_otherwise told item.shard place item.seq)) (before : List Record) (are : AreCounted m before) where
  here : change ≡ change_at told (before ++ take i items) item
  here = change_is ∙ ap (λ (k : ℕ). option_map (change_of item k) (kept_otherwise told item.shard k item.seq)) (place_of ∙ place_is m before (take i items) item.shard are)

  pub looked : first_change told (before ++ take i items) (drop i items) ≡ option_or change (first_change told (before ++ take (i + 1) items) (drop (i + 1) items))
  looked =
      ap (first_change told (before ++ take i items)) (rest_less items i item low at)
      ∙ ap₂ (λ (c : Option Change) (rs : List Record). option_or c (first_change told rs (drop (i + 1) items))) (sym here)
      (append_assoc before (take i items) (item ∷ []) ∙ ap (λ (rs : List Record). before ++ rs) (sym (front_more items i item low at)))

pub none_after : (told : SaidLists) (before items : List Record) (i : ℕ) → length items ≤ i → first_change told before (drop i items) ≡ None
none_after told before items i high = ap (first_change told before) (drop_all items i high)
  where
    drop_all : (xs : List Record) (i : ℕ) → length xs ≤ i → drop i xs ≡ []
    drop_all [] zero high = refl
    drop_all [] (suc i) high = refl
    drop_all (x ∷ xs) zero high = absurd (omega arith)
    drop_all (x ∷ xs) (suc i) high = drop_all xs i (omega arith)

-- the texts that are kept

pub fate_kept_text : (o : Option FoundFate) (x : Option KeptFate) → x ≡ option_map fate_of_found o → option_map (λ (k : KeptFate). k.text) x ≡ option_map (λ (f : FoundFate). f.text) o
fate_kept_text o x is = ap (option_map (λ (k : KeptFate). k.text)) is ∙ both o
  where
    both : (o : Option FoundFate) → option_map (λ (k : KeptFate). k.text) (option_map fate_of_found o) ≡ option_map (λ (f : FoundFate). f.text) o
    both None = refl
    both (Some f) = refl

pub tries_kept_text : (o : Option FoundTries) (x : Option KeptTries) → x ≡ option_map tries_of_found o → option_map (λ (k : KeptTries). k.text) x ≡ option_map (λ (f : FoundTries). f.text) o
tries_kept_text o x is = ap (option_map (λ (k : KeptTries). k.text)) is ∙ both o
  where
    both : (o : Option FoundTries) → option_map (λ (k : KeptTries). k.text) (option_map tries_of_found o) ≡ option_map (λ (f : FoundTries). f.text) o
    both None = refl
    both (Some f) = refl

pub fate_kept_fate : (o : Option FoundFate) (x : Option KeptFate) → x ≡ option_map fate_of_found o → option_map (λ (k : KeptFate). k.fate) x ≡ option_map (λ (f : FoundFate). f.fate) o
fate_kept_fate o x is = ap (option_map (λ (k : KeptFate). k.fate)) is ∙ both o
  where
    both : (o : Option FoundFate) → option_map (λ (k : KeptFate). k.fate) (option_map fate_of_found o) ≡ option_map (λ (f : FoundFate). f.fate) o
    both None = refl
    both (Some f) = refl

pub no_fate : (o : Option FoundFate) → None ≡ option_map fate_of_found o → o ≡ None
no_fate None none = refl
no_fate (Some f) none = absurd (cc)

-- what is kept of a record's place, by the text of its fate
pub change_by : (told : SaidLists) (item : Record) (place : ℕ) (text kept : Option (List ℕ)) (change : Option Change) → text ≡ option_map (λ (f : FoundFate). f.text) (fate_told told item.shard place)
    → kept ≡ option_or (other_text item.seq text) (other_text item.seq (option_map (λ (f : FoundTries). f.text) (tries_told told item.shard place))) → change ≡ option_map (change_of item place) kept
    → change ≡ option_map (change_of item place) (kept_otherwise told item.shard place item.seq)
change_by told item place text kept change text_is kept_is is =
    is ∙ ap (option_map (change_of item place)) (kept_is ∙ ap (λ (o : Option (List ℕ)). option_or (other_text item.seq o) (other_text item.seq (option_map (λ (f : FoundTries). f.text) (tries_told told item.shard place)))) text_is)

-- a record without a fate is not named
pub not_named : (told : SaidLists) (ranges : List Range) (item : Record) (place : ℕ) → fate_told told item.shard place ≡ None → false ≡ names told ranges item place
not_named told ranges item place none =
    ap (λ (o : Option FoundFate). unwrap_or (option_map (λ (f : FoundFate). is_failure f.fate) o) false && (is_in_ranges ranges item.shard item.seq && not (is_replay_told told item.shard place))) (sym none)

-- one more record is looked at
pub named_more : (told : SaidLists) (ranges : List Range) (m : BTreeMap ℕ ℕ) (before items : List Record) (i : ℕ) (item : Record) (place : ℕ) (b : Bool) (old new : List Bool) → i < length items → item ≡ get_or items i item
    → AreCounted m before → place ≡ count_at (get nat_cmp m) item.shard + length (of_shard item.shard (take i items)) → b ≡ names told ranges item place
    → old ≡ are_named told ranges before (take i items) → new ≡ old ++ b ∷ [] → new ≡ are_named told ranges before (take (i + 1) items)
named_more told ranges m before items i item place b old new low at are place_of is olds news =
    news
    ∙ ap₂ (λ (bs : List Bool) (x : Bool). bs ++ x ∷ []) olds (is ∙ ap (names told ranges item) (place_of ∙ place_is m before (take i items) item.shard are))
    ∙ sym (ap (are_named told ranges before) (front_more items i item low at) ∙ named_append told ranges before (take i items) (item ∷ []))
