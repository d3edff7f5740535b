-- No payload of a legal history is bad for a book. Only this crate's proofs cite this.
use Rattle.std.proofs.Common.{◌≡◌, ℕ, ◌+◌, ◌<◌, ◌≤◌, Bool, true, false, not, ◌&&◌, List, [], ◌∷◌, ◌++◌, length, drop, map, refl, sym, ap, ◌∙◌, subst, inl, inr, arith, Option, Some, None}
use Rattle.std.specs.Prelude.{◌==◌, nat_eq, find, filter_map, is_none, is_some, option_map, reverse, IfSome, if◌then◌else◌}
use Rattle.std.specs.Option.{option_or}
use Rattle.std.specs.List.{cons_option}
use Rattle.std.specs.Cmp.Lexicographic.{pointwise}
use Rattle.std.proofs.lemmas.List.Elements.{filter_map-append}
use Rattle.std.proofs.lemmas.Bool.{cases_Bool, cases_lt, and_parts, and_from, or_from, eqb-true, eq-eqb, false_from_ne_true}
use Rattle.std.proofs.lemmas.Option.{same_Some, slice_get_cases}
use Rattle.esm_model.specs.Records.{Record}
use Rattle.esm_model.specs.declared.lane.LaneId.{LaneId}
use Rattle.esm_model.specs.declared.entry.Fate.{Fate}
use Rattle.esm_model.specs.declared.entry.Entry.{Entry}
use Rattle.esm_model.specs.declared.entry.Entry.TheVariants.{Came, Began, Ended, Gave, Tried, Closed, Replayed, Shut}
use Rattle.esm_model.specs.declared.setup.FoundTries.{FoundTries}
use Rattle.esm_model.specs.Setting.{Setting, record_at, records_of, records_at, sequences_at, found_try}
use Rattle.esm_model.specs.Entries.{came_count, holds, last_moment}
use Rattle.esm_model.specs.Fates.{fate, lacks_fate}
use Rattle.esm_model.specs.Owed.{Debt, Success, GiveUp, Try, Close, debts, debt_entry}
use Rattle.esm_model.specs.Step.{Legal}
use Rattle.esm_model.proofs.Lists.{In, In-here, In-there, In-append_left}
use Rattle.esm_model.proofs.Steps.{came_grows}
use Rattle.esm_model.proofs.Debts.{first_debt}
use Rattle.esm_model.proofs.Paid.{gave_open}
use Rattle.esm_model.proofs.NamedPlaces.{names_came}
use Rattle.esm_journal_record.specs.declared.said.Said.{Said}
use Rattle.esm_journal_record.specs.Payload.{payload_of, IsSaid}
use Rattle.esm_journal_record.specs.Parsing.{said_of}
use Rattle.esm_journal_record.specs.EntryPayload.{entry_said, entry_payload, AllMayBeSaid}
use Rattle.esm_journal_record.proofs.Payloads.{said_again}
use Rattle.esm_journal_state.specs.declared.kept.KeptFate.{KeptFate}
use Rattle.esm_journal_state.specs.declared.kept.KeptTries.{KeptTries}
use Rattle.esm_journal_state.specs.Meaning.{text_named, only_at, tries_kept, fate_said, tries_said, tries_text, differs, any_named, known, is_spent, is_bad, is_good, is_good_said, are_good, history}
use Rattle.esm_journal_state.specs.SaidLists.{tries_told}
use Rattle.esm_journal_state.specs.Tells.{tries_of_found}
use Rattle.esm_history.specs.Content.{IsOpenedOver, content_after}
use Rattle.esm_history.proofs.Saids.{saids_again, content_reversed, content_said, covered_stand, text_there, text_is}
use Rattle.esm_history.proofs.OwedTries.{try_places}
use Rattle.esm_history.proofs.OpenTries.{tries_open}
use Rattle.esm_history.proofs.GoesOn.{fates_after}

-- the text with which a record's tries are kept is its own

some_out : (o : Option (List ℕ)) → is_some o ≡ false → o ≡ None
some_out None is = refl
some_out (Some t) is = cc

not_held : (s : Setting) (h : List Entry) (n : ℕ) (places : List ℕ) (i : ℕ) → ((j : ℕ) → In places j → j < came_count h n) → came_count h n ≤ i → holds places i ≡ false
not_held s h n places i came high = false_from_ne_true (holds places i) (λ member. (let low : i < came_count h n = came i member in omega (arith, low, high)))

-- a place that did not come is named by no payload of the history
unnamed : (s : Setting) (old : List Said) (h : List Entry) → Legal s h → (n i : ℕ) → came_count h n ≤ i → tries_said (filter_map (entry_said s) h ++ old) n i ≡ tries_said old n i
unnamed s old [] legal n i high = refl
unnamed s old (Came k first count m ∷ h) legal n i high = unnamed s old h legal.0 n i (let more : came_count h n ≤ came_count (Came k first count m ∷ h) n = came_grows (Came k first count m) h n in omega (arith, more, high))
unnamed s old (Gave by k places f line state m ∷ h) legal n i high =
    elim (cases_Bool ((k == n) && holds places i)) [
      | inr other ↦ ap (λ b. if b then None else tries_said (filter_map (entry_said s) h ++ old) n i) other ∙ unnamed s old h legal.0 n i high
      | inl named ↦ (
          let parts = and_parts (k == n) (holds places i) named in
          let low : i < came_count h k = names_came s h (Gave by k places f line state m) legal i parts.1 in
          let same : came_count h k ≡ came_count h n = ap (came_count h) (eqb-true k n parts.0) in
          absurd (omega (arith, low, same, high)))
    ]
unnamed s old (Tried at places None t m ∷ h) legal n i high =
    elim (cases_Bool (at.shard == n)) [
      | inr other ↦ ap (λ b. option_or (only_at b (option_map (tries_kept t) (text_named places (sequences_at s at.shard places) i))) (tries_said (filter_map (entry_said s) h ++ old) n i)) other ∙ unnamed s old h legal.0 n i high
      | inl same ↦ (
          let came = names_came s h (Tried at places None t m) legal in
          let shard : at.shard ≡ n = eqb-true at.shard n same in
          let out : holds places i ≡ false = not_held s h at.shard places i came (subst (λ k. came_count h k ≤ i) (sym shard) high) in
          let none : text_named places (sequences_at s at.shard places) i ≡ None = some_out (text_named places (sequences_at s at.shard places) i) (text_there s at.shard places (covered_stand s h at.shard places legal.0 came) i ∙ out) in
          ap (λ o. option_or (only_at (at.shard == n) (option_map (tries_kept t) o)) (tries_said (filter_map (entry_said s) h ++ old) n i)) none
          ∙ ap (λ b. option_or (only_at b None) (tries_said (filter_map (entry_said s) h ++ old) n i)) same
          ∙ unnamed s old h legal.0 n i high)
    ]
unnamed s old (Tried at places (Some w) t m ∷ h) legal n i high = unnamed s old h legal.0 n i high
unnamed s old (Began at places c m ∷ h) legal n i high = unnamed s old h legal.0 n i high
unnamed s old (Ended at reply m ∷ h) legal n i high = unnamed s old h legal.0 n i high
unnamed s old (Closed at w m ∷ h) legal n i high = unnamed s old h legal.0 n i high
unnamed s old (Replayed k places m ∷ h) legal n i high = absurd legal.1.1
unnamed s old (Shut m ∷ h) legal n i high = unnamed s old h legal.0 n i high

-- what was found with a place has the text that is said
abbrev FoundTexts : Setting → List Said → Type 0
FoundTexts s old = (n i : ℕ) (k : KeptTries) → tries_said old n i ≡ Some k → (f : FoundTries) × (found_try s n i ≡ Some f) × (f.text ≡ k.text)

abbrev TextsAre : Setting → List Said → List Entry → Type 0
TextsAre s old h = (n i : ℕ) (k : KeptTries) (r : Record) → tries_said (filter_map (entry_said s) h ++ old) n i ≡ Some k → i < came_count h n → record_at s n i ≡ Some r → k.text ≡ r.seq

texts_came : (s : Setting) (old : List Said) (h : List Entry) (k first count m : ℕ) → FoundTexts s old → Legal s (Came k first count m ∷ h) → TextsAre s old h → TextsAre s old (Came k first count m ∷ h)
texts_came s old h k first count m found legal before n i t r said low at =
    elim (cases_lt i (came_count h n)) [
      | inl came ↦ before n i t r said came at
      | inr new ↦ elim (cases_Bool (k == n)) [
        | inr other ↦ (let old_low : i < came_count h n = rw other at low in absurd (omega (arith, old_low, new)))
        | inl same ↦ (
            let shard : k ≡ n = eqb-true k n same in
            let within : i < count + came_count h n = rw same at low in
            let next : first ≡ came_count h n = subst (λ z. first ≡ came_count h z) shard legal.1.1.next in
            let was = found n i t (sym (unnamed s old h legal.0 n i new) ∙ said) in
            let own : r.seq ≡ was.0.text = legal.1.1.kept.tries i was.0 r (omega (arith, new, next)) (omega (arith, within, next)) (subst (λ z. record_at s z i ≡ Some r) (sym shard) at) (subst (λ z. found_try s z i ≡ Some was.0) (sym shard) was.1) in
            sym was.2 ∙ sym own)
      ]
    ]

texts_tried : (s : Setting) (old : List Said) (h : List Entry) (at : LaneId) (places : List ℕ) (t m : ℕ) → Legal s (Tried at places None t m ∷ h) → TextsAre s old h → TextsAre s old (Tried at places None t m ∷ h)
texts_tried s old h at places t m legal before n i k r said low here =
    elim (cases_Bool (at.shard == n)) [
      | inr other ↦ before n i k r (sym (ap (λ b. option_or (only_at b (option_map (tries_kept t) (text_named places (sequences_at s at.shard places) i))) (tries_said (filter_map (entry_said s) h ++ old) n i)) other) ∙ said) low here
      | inl same ↦ by_text (text_named places (sequences_at s at.shard places) i) refl (eqb-true at.shard n same) (sym (ap (λ b. option_or (only_at b (option_map (tries_kept t) (text_named places (sequences_at s at.shard places) i))) (tries_said (filter_map (entry_said s) h ++ old) n i)) same) ∙ said)
    ]
  where
    by_text : (o : Option (List ℕ)) → text_named places (sequences_at s at.shard places) i ≡ o → at.shard ≡ n → option_or (option_map (tries_kept t) (text_named places (sequences_at s at.shard places) i)) (tries_said (filter_map (entry_said s) h ++ old) n i) ≡ Some k → k.text ≡ r.seq
    by_text None is shard now = before n i k r (sym (ap (λ o. option_or (option_map (tries_kept t) o) (tries_said (filter_map (entry_said s) h ++ old) n i)) is) ∙ now) low here
    by_text (Some text) is shard now =
        let mine : tries_kept t text ≡ k = same_Some (tries_kept t text) k (sym (ap (λ o. option_or (option_map (tries_kept t) o) (tries_said (filter_map (entry_said s) h ++ old) n i)) is) ∙ now) in
        let own : text ≡ r.seq = text_is s at.shard places (covered_stand s h at.shard places legal.0 (names_came s h (Tried at places None t m) legal)) i text r is (subst (λ z. record_at s z i ≡ Some r) (sym shard) here) in
        ap (λ (x : KeptTries). x.text) (sym mine) ∙ own

texts_gave : (b : Bool) (o : Option KeptTries) (k : KeptTries) → (if b then None else o) ≡ Some k → o ≡ Some k
texts_gave true o k is = cc
texts_gave false o k is = is

texts_are : (s : Setting) (old : List Said) (h : List Entry) → FoundTexts s old → Legal s h → TextsAre s old h
texts_are s old [] found legal n i k r said low at = absurd (omega (arith, low))
texts_are s old (Came k first count m ∷ h) found legal n i t r said low here = texts_came s old h k first count m found legal (texts_are s old h found legal.0) n i t r said low here
texts_are s old (Tried at places None t m ∷ h) found legal n i k r said low here = texts_tried s old h at places t m legal (texts_are s old h found legal.0) n i k r said low here
texts_are s old (Gave by k places f line state m ∷ h) found legal n i t r said low at =
    texts_are s old h found legal.0 n i t r (texts_gave ((k == n) && holds places i) (tries_said (filter_map (entry_said s) h ++ old) n i) t said) low at
texts_are s old (Tried at places (Some w) t m ∷ h) found legal n i k r said low here = texts_are s old h found legal.0 n i k r said low here
texts_are s old (Began at places c m ∷ h) found legal n i k r said low here = texts_are s old h found legal.0 n i k r said low here
texts_are s old (Ended at reply m ∷ h) found legal n i k r said low here = texts_are s old h found legal.0 n i k r said low here
texts_are s old (Closed at w m ∷ h) found legal n i k r said low here = texts_are s old h found legal.0 n i k r said low here
texts_are s old (Replayed k places m ∷ h) found legal n i t r said low here = absurd legal.1.1
texts_are s old (Shut m ∷ h) found legal n i k r said low here = texts_are s old h found legal.0 n i k r said low here

-- one payload

abbrev only_fate : Option KeptFate → Option Fate
only_fate o = option_map (λ (k : KeptFate). k.fate) o

none_kept : (o : Option KeptFate) (f : Option Fate) → only_fate o ≡ f → is_none f ≡ true → o ≡ None
none_kept None f is lacks = refl
none_kept (Some k) None is lacks = cc
none_kept (Some k) (Some g) is lacks = cc

same_differs : (o : Option KeptTries) (text : List ℕ) → ((k : KeptTries) → o ≡ Some k → k.text ≡ text) → differs (tries_text o) text ≡ false
same_differs None text same = refl
same_differs (Some k) text same = ap not (subst (λ xs. pointwise nat_eq k.text xs ≡ true) (same k refl) (pointwise_same k.text))
  where
    pointwise_same : (xs : List ℕ) → pointwise nat_eq xs xs ≡ true
    pointwise_same [] = refl
    pointwise_same (x ∷ xs) = and_from (nat_eq x x) (pointwise nat_eq xs xs) (eq-eqb x x refl) (pointwise_same xs)

-- the record has no fate, and had no other text
not_spent : (s : Setting) (old : List (List ℕ)) (h : List Entry) (n i : ℕ) (r : Record) → Legal s h → AllMayBeSaid s h → IsOpenedOver s old → TextsAre s (history (reverse old)) h → lacks_fate s h n i ≡ true → i < came_count h n → record_at s n i ≡ Some r
    → is_spent (known (filter_map (entry_said s) h ++ history (reverse old))) n i r.seq ≡ false
not_spent s old h n i r legal may opened texts lacks low at =
    let g = filter_map (entry_said s) h ++ history (reverse old) in
    let fates : only_fate (fate_said (filter_map (entry_said s) h ++ history (reverse old)) n i) ≡ fate s h n i = ap (λ x. only_fate (fate_said x n i)) (sym (content_said s h old may)) ∙ fates_after s h old legal may opened n i in
    let none : fate_said (filter_map (entry_said s) h ++ history (reverse old)) n i ≡ None = none_kept (fate_said (filter_map (entry_said s) h ++ history (reverse old)) n i) (fate s h n i) fates lacks in
    rw none (same_differs (tries_said (filter_map (entry_said s) h ++ history (reverse old)) n i) r.seq (λ k said. texts n i k r said low at))

-- none of the places with their records' texts fails
none_named : (s : Setting) (n : ℕ) (fails : ℕ → List ℕ → Bool) (places : List ℕ) → ((i : ℕ) → In places i → i < length (records_of s n)) → ((i : ℕ) (r : Record) → In places i → record_at s n i ≡ Some r → fails i r.seq ≡ false) → any_named fails places (sequences_at s n places) ≡ false
none_named s n fails [] stand passes = refl
none_named s n fails (j ∷ places) stand passes =
    elim (slice_get_cases (records_of s n) j).1 [
      | inl there ↦ ap (λ o. any_named fails (j ∷ places) (map (λ (x : Record). x.seq) (cons_option o (records_at s n places)))) there.2
          ∙ or_from (fails j there.0.seq) (any_named fails places (sequences_at s n places)) (passes j there.0 (In-here j places j refl) there.2)
          (none_named s n fails places (λ i member. stand i (In-there j places i member)) (λ i r member at. passes i r (In-there j places i member) at))
      | inr past ↦ (let inside : j < length (records_of s n) = stand j (In-here j places j refl) in absurd (omega (arith, inside, past.0)))
    ]

tried_lacks : (s : Setting) (h : List Entry) (at : LaneId) (m : ℕ) (d : Debt) (ds : List Debt) (places : List ℕ) (t k i : ℕ) → debt_entry s h at m d ≡ Tried at places None t k → In places i → In (try_places (d ∷ ds)) i
tried_lacks s h at m (Try own None number) ds places t k i is member = (let same : own ≡ places = cc in In-append_left own (try_places ds) i (subst (λ xs. In xs i) (sym same) member))
tried_lacks s h at m (Try own (Some w) number) ds places t k i is member = cc
tried_lacks s h at m (Success own state) ds places t k i is member = cc
tried_lacks s h at m (GiveUp own) ds places t k i is member = cc
tried_lacks s h at m (Close w) ds places t k i is member = cc

-- the payload of an entry is good after those before it
good_entry : (s : Setting) (old : List (List ℕ)) (h : List Entry) (e : Entry) (one : Said) → Legal s (e ∷ h) → AllMayBeSaid s h → IsOpenedOver s old → TextsAre s (history (reverse old)) h → entry_said s e ≡ Some one → is_bad (known (filter_map (entry_said s) h ++ history (reverse old))) one ≡ false
good_entry s old h (Gave by k places f line state m) one legal may opened texts is =
    subst (λ x. is_bad (known (filter_map (entry_said s) h ++ history (reverse old))) x ≡ false) (same_Some _ one is)
    (none_named s k (is_spent (known (filter_map (entry_said s) h ++ history (reverse old))) k) places (covered_stand s h k places legal.0 (names_came s h (Gave by k places f line state m) legal))
    (λ i r member at. not_spent s old h k i r legal.0 may opened texts (gave_open s h by k places f line state m legal i member) (names_came s h (Gave by k places f line state m) legal i member) at))
good_entry s old h (Tried at places None t m) one legal may opened texts is =
    subst (λ x. is_bad (known (filter_map (entry_said s) h ++ history (reverse old))) x ≡ false) (same_Some _ one is)
    (none_named s at.shard (is_spent (known (filter_map (entry_said s) h ++ history (reverse old))) at.shard) places (covered_stand s h at.shard places legal.0 (names_came s h (Tried at places None t m) legal))
    (λ i r member here. (
    let first = first_debt s h at (Tried at places None t m) legal.1.1 in
    let owed : In (try_places (debts s h at)) i = subst (λ ds. In (try_places ds) i) (sym first.parts) (tried_lacks s h at (last_moment h) first.first (drop 1 (debts s h at)) places t m i first.brings member) in
    not_spent s old h at.shard i r legal.0 may opened texts ((tries_open s h legal.0).lacks at i owed) (names_came s h (Tried at places None t m) legal i member) here)))
good_entry s old h (Tried at places (Some w) t m) one legal may opened texts is = subst (λ x. is_bad (known (filter_map (entry_said s) h ++ history (reverse old))) x ≡ false) (same_Some _ one is) refl
good_entry s old h (Closed at w m) one legal may opened texts is = subst (λ x. is_bad (known (filter_map (entry_said s) h ++ history (reverse old))) x ≡ false) (same_Some _ one is) refl
good_entry s old h (Replayed k places m) one legal may opened texts is = absurd legal.1.1
good_entry s old h (Came k first count m) one legal may opened texts is = cc
good_entry s old h (Began at places c m) one legal may opened texts is = cc
good_entry s old h (Ended at reply m) one legal may opened texts is = cc
good_entry s old h (Shut m) one legal may opened texts is = cc

good_payload : (s : Setting) (old : List (List ℕ)) (h : List Entry) (o : Option Said) → AllMayBeSaid s h → IfSome o IsSaid → ((one : Said) → o ≡ Some one → is_bad (known (filter_map (entry_said s) h ++ history (reverse old))) one ≡ false)
    → are_good (filter_map (entry_payload s) h ++ reverse old) ≡ true → are_good (cons_option (option_map payload_of o) (filter_map (entry_payload s) h) ++ reverse old) ≡ true
good_payload s old h None may is good before = before
good_payload s old h (Some one) may is good before =
    let said_now : history (filter_map (entry_payload s) h ++ reverse old) ≡ filter_map (entry_said s) h ++ history (reverse old) =
    filter_map-append said_of (filter_map (entry_payload s) h) (reverse old) ∙ ap (λ g. g ++ history (reverse old)) (saids_again s h may) in
    and_from (are_good (filter_map (entry_payload s) h ++ reverse old)) (is_good (history (filter_map (entry_payload s) h ++ reverse old)) (payload_of one)) before
    (ap (λ x. is_good_said (history (filter_map (entry_payload s) h ++ reverse old)) x) (said_again one is)
    ∙ ap (λ g. not (is_bad (known g) one)) said_now ∙ ap not (good one refl))

found_texts : (s : Setting) (old : List (List ℕ)) → IsOpenedOver s old → FoundTexts s (history (reverse old))
found_texts s old is n i k said = by_found (tries_told is.told n i) refl (is.tells.tries n i ∙ said)
  where
    by_found : (o : Option FoundTries) → tries_told is.told n i ≡ o → option_map tries_of_found (tries_told is.told n i) ≡ Some k → (f : FoundTries) × (found_try s n i ≡ Some f) × (f.text ≡ k.text)
    by_found None told now = (let clash : None ≡ Some k = sym (ap (option_map tries_of_found) told) ∙ now in cc)
    by_found (Some f) told now = (
      f,
      ap (λ fs. find (λ (x : FoundTries). (x.shard == n) && (x.place == i)) fs) is.found.tries ∙ told,
      ap (λ (x : KeptTries). x.text) (same_Some (tries_of_found f) k (sym (ap (option_map tries_of_found) told) ∙ now)),
    )

good_all : (s : Setting) (old : List (List ℕ)) (h : List Entry) → are_good (reverse old) ≡ true → Legal s h → AllMayBeSaid s h → IsOpenedOver s old → are_good (filter_map (entry_payload s) h ++ reverse old) ≡ true
good_all s old [] good legal may opened = good
good_all s old (e ∷ h) good legal may opened =
    good_payload s old h (entry_said s e) may.0 may.1
    (λ one is. good_entry s old h e one legal may.0 opened (texts_are s (history (reverse old)) h (found_texts s old opened) legal.0) is)
    (good_all s old h good legal.0 may.0 opened)

pub stays_good : (s : Setting) (h : List Entry) (old : List (List ℕ)) → are_good (reverse old) ≡ true → Legal s h → AllMayBeSaid s h → IsOpenedOver s old → are_good (reverse (content_after s h old)) ≡ true
stays_good s h old good legal may opened = ap are_good (content_reversed s h old) ∙ good_all s old h good legal may opened
