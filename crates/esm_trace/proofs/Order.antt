-- The replies of a history from one of its entries on, taken from the lists of its batchers.
use Rattle.std.proofs.Common.{◌≡◌, ◌∙◌, ℕ, zero, suc, ◌+◌, ◌<◌, Bool, true, false, refl, sym, ap, subst, inl, inr, List, [], ◌∷◌, ◌++◌, append_assoc, append-nil, length, map, drop, get_or, reverse, Option, Some, None, add-one, arith}
use Rattle.std.specs.Prelude.{◌==◌, slice_index_or, slice_set, IfSome}
use Rattle.std.specs.List.{filter_map, cons_option, position_or_len}
use Rattle.std.specs.Option.{option_to_list}
use Rattle.std.proofs.Math.Seq.{drop-cons}
use Rattle.std.proofs.lemmas.List.{reverse-append, reverse-reverse, length-map, map-append, map-set, get_or-map, get_or-set_same, get_or-set_other, length-set}
use Rattle.std.proofs.lemmas.Bool.{cases_Bool, eq-eqb, eqb-true}
use Rattle.esm_model.specs.declared.lane.LaneId.{LaneId}
use Rattle.esm_model.specs.declared.entry.Entry.{Entry}
use Rattle.esm_model.specs.declared.entry.Entry.TheVariants.{Came, Began, Ended, Gave, Tried, Closed, Replayed, Shut}
use Rattle.esm_model.specs.declared.entry.Reply.{Reply}
use Rattle.esm_model.specs.Entries.{holds, shards_after, shards_that_came}
use Rattle.esm_trace.specs.declared.batchers.Batchers.{Batchers}
use Rattle.esm_trace.specs.InOrder.{AreOfBatchers, number_in, replies_after, replies_by}
use Rattle.esm_trace.specs.Onward.{AreLeft, HasReply, IsMoved, left_of, replies_from, reply_before}
use Rattle.esm_trace.specs.Trace.{reply_in, replies_of}

-- the rest of a list

next : {A : Type 0} (xs : List A) (i : ℕ) (x : A) → i < length xs → x ≡ get_or xs i x → drop i xs ≡ x ∷ drop (i + 1) xs
next xs i x below at = drop-cons xs i x below ∙ ap (λ y. y ∷ drop (suc i) xs) (sym at) ∙ ap (λ n. x ∷ drop n xs) (sym (add-one i))

-- the index of a shard

abbrev pub place : ℕ → List ℕ → ℕ
place shard shards = position_or_len (λ n. n == shard) shards

pub place_onward : (shards : List ℕ) (shard i x : ℕ) → place shard shards ≡ i + place shard (drop i shards) → i < length shards → x ≡ get_or shards i x → (x == shard) ≡ false
    → place shard shards ≡ i + 1 + place shard (drop (i + 1) shards)
place_onward shards shard i x is below at other =
    let step : place shard (drop i shards) ≡ 1 + place shard (drop (i + 1) shards) =
    ap (place shard) (next shards i x below at) ∙ (rw other refl) in
    omega (arith, is, step)

pub place_here : (shards : List ℕ) (shard i x : ℕ) → place shard shards ≡ i + place shard (drop i shards) → i < length shards → x ≡ get_or shards i x → (x == shard) ≡ true
    → place shard shards ≡ i
place_here shards shard i x is below at same =
    let none : place shard (drop i shards) ≡ 0 = ap (place shard) (next shards i x below at) ∙ (rw same refl) in
    omega (arith, is, none)

-- the shards that came

pub shard_added : (shards seen now : List ℕ) (e : Entry) (n first count m : ℕ) (found : Bool) → seen ≡ shards → e ≡ Came n first count m → found ≡ holds seen n → found ≡ false
    → now ≡ shards ++ n ∷ [] → now ≡ shards_after shards e
shard_added shards seen now e n first count m found same is held none grown =
    let new : holds shards n ≡ false = ap (λ ns. holds ns n) (sym same) ∙ sym held ∙ none in
    let after : shards_after shards (Came n first count m) ≡ shards ++ n ∷ [] = rw new refl in
    grown ∙ sym after ∙ ap (shards_after shards) (sym is)

pub shard_known : (shards seen : List ℕ) (e : Entry) (n first count m : ℕ) (found : Bool) → seen ≡ shards → e ≡ Came n first count m → found ≡ holds seen n → found ≡ true
    → shards ≡ shards_after shards e
shard_known shards seen e n first count m found same is held one =
    let old : holds shards n ≡ true = ap (λ ns. holds ns n) (sym same) ∙ sym held ∙ one in
    let after : shards_after shards (Came n first count m) ≡ shards = rw old refl in
    sym after ∙ ap (shards_after shards) (sym is)

-- one entry

same_rest : (by : Batchers) (shards : List ℕ) (k : ℕ) (e : Entry) (a b : List Reply) → reply_before by shards k e a ≡ reply_before by shards k e b → a ≡ b
same_rest by shards k (Ended lane reply m) a b is = elim (cases_Bool (number_in by shards lane == k)) [
  | inl same ↦ (let both : reply ∷ a ≡ reply ∷ b = rw same at is in ap (drop 1) both)
  | inr other ↦ rw other at is
]
same_rest by shards k (Came n first count m) a b is = is
same_rest by shards k (Began lane places closing m) a b is = is
same_rest by shards k (Gave from n places f line state m) a b is = is
same_rest by shards k (Tried lane places closing t m) a b is = is
same_rest by shards k (Closed lane w m) a b is = is
same_rest by shards k (Replayed n places m) a b is = is
same_rest by shards k (Shut m) a b is = is

moves_on : (by : Batchers) (h : List Entry) (k : ℕ) (e : Entry) (before rest : List Reply)
    → replies_after by h k before e ++ rest ≡ before ++ reply_before by (shards_that_came h) k e rest
moves_on by h k (Ended lane reply m) before rest = elim (cases_Bool (number_in by (shards_that_came h) lane == k)) [
  | inl same ↦ rw same (append_assoc before (reply ∷ []) rest)
  | inr other ↦ rw other refl
]
moves_on by h k (Came n first count m) before rest = refl
moves_on by h k (Began lane places closing m) before rest = refl
moves_on by h k (Gave from n places f line state m) before rest = refl
moves_on by h k (Tried lane places closing t m) before rest = refl
moves_on by h k (Closed lane w m) before rest = refl
moves_on by h k (Replayed n places m) before rest = refl
moves_on by h k (Shut m) before rest = refl

-- a history

onward : (by : Batchers) (later before : List Entry) (k : ℕ) → replies_by by (reverse later ++ before) k ≡ replies_by by before k ++ replies_from by (shards_that_came before) later k
onward by [] before k = sym (append-nil (replies_by by before k))
onward by (e ∷ later) before k =
    ap (λ h. replies_by by (h ++ before) k) (reverse-append (e ∷ []) later)
    ∙ ap (λ h. replies_by by h k) (append_assoc (reverse later) (e ∷ []) before)
    ∙ onward by later (e ∷ before) k
    ∙ moves_on by before k e (replies_by by before k) (replies_from by (shards_after (shards_that_came before) e) later k)

turned_at : (lists : List (List Reply)) (k : ℕ) → slice_index_or (map reverse lists) k [] ≡ reverse (slice_index_or lists k [])
turned_at [] k = refl
turned_at (l ∷ lists) zero = refl
turned_at (l ∷ lists) (suc k) = turned_at lists k

pub begins : (by : Batchers) (history : List Entry) (lists turned : List (List Reply)) → AreOfBatchers by (reverse history) lists → turned ≡ map reverse lists
    → AreLeft by [] turned history
begins by history lists turned are is k within =
    let as_many : length turned ≡ length lists = ap length is ∙ length-map lists reverse in
    ap (λ ls. left_of ls k) is
    ∙ ap reverse (turned_at lists k)
    ∙ reverse-reverse (slice_index_or lists k [])
    ∙ are k (omega (arith, within, as_many))
    ∙ ap (λ h. replies_by by h k) (sym (append-nil (reverse history)))
    ∙ onward by history [] k

-- a step of the walk

pub has_reply : (by : Batchers) (shards : List ℕ) (lists : List (List Reply)) (history : List Entry) (i : ℕ) (e : Entry)
    → AreLeft by shards lists (drop i history) → i < length history → e ≡ get_or history i e → HasReply by shards lists e
has_reply by shards lists history i e left below at lane reply m is within =
    let k = number_in by shards lane in
    let rest = replies_from by (shards_after shards e) (drop (i + 1) history) k in
    let first : reply_before by shards k (Ended lane reply m) rest ≡ reply ∷ rest = rw (eq-eqb k k refl) refl in
    (rest, left k within ∙ ap (λ es. replies_from by shards es k) (next history i e below at) ∙ ap (λ x. reply_before by shards k x rest) is ∙ first)

pub left_onward : (by : Batchers) (shards now : List ℕ) (lists more : List (List Reply)) (history : List Entry) (i : ℕ) (e : Entry)
    → AreLeft by shards lists (drop i history) → i < length history → e ≡ get_or history i e → IsMoved by shards e lists more → now ≡ shards_after shards e
    → AreLeft by now more (drop (i + 1) history)
left_onward by shards now lists more history i e left below at moved is k within =
    let there : k < length lists = omega (arith, within, moved.as_many) in
    same_rest by shards k e (left_of more k) (replies_from by (shards_after shards e) (drop (i + 1) history) k)
    (sym (moved.moved k there) ∙ left k there ∙ ap (λ es. replies_from by shards es k) (next history i e below at))
    ∙ ap (λ s. replies_from by s (drop (i + 1) history) k) (sym is)

one_told : (o : Option Reply) (rest : List Reply) → option_to_list o ++ rest ≡ cons_option o rest
one_told None rest = refl
one_told (Some x) rest = refl

pub told_onward : (history : List Entry) (i : ℕ) (e : Entry) (replies more : List Reply)
    → replies ++ filter_map reply_in (drop i history) ≡ filter_map reply_in history → i < length history → e ≡ get_or history i e
    → more ≡ replies ++ option_to_list (reply_in e) → more ++ filter_map reply_in (drop (i + 1) history) ≡ filter_map reply_in history
told_onward history i e replies more all below at is =
    ap (λ rs. rs ++ filter_map reply_in (drop (i + 1) history)) is
    ∙ append_assoc replies (option_to_list (reply_in e)) (filter_map reply_in (drop (i + 1) history))
    ∙ ap (λ rs. replies ++ rs) (one_told (reply_in e) (filter_map reply_in (drop (i + 1) history)))
    ∙ ap (λ es. replies ++ filter_map reply_in es) (sym (next history i e below at))
    ∙ all

-- a list whose last reply is taken

last_first : (lists more : List (List Reply)) (k : ℕ) (last : Reply) → slice_index_or lists k [] ≡ slice_index_or more k [] ++ last ∷ [] → left_of lists k ≡ last ∷ left_of more k
last_first lists more k last is = ap reverse is ∙ reverse-append (slice_index_or more k []) (last ∷ [])

pub last_is : (lists more : List (List Reply)) (k : ℕ) (last reply : Reply) (rest : List Reply) → slice_index_or lists k [] ≡ slice_index_or more k [] ++ last ∷ []
    → left_of lists k ≡ reply ∷ rest → last ≡ reply
last_is lists more k last reply rest taken is = ap (λ l. get_or l 0 last) (sym (last_first lists more k last taken) ∙ is)

pub end_moved : (by : Batchers) (shards : List ℕ) (lists more : List (List Reply)) (lane : LaneId) (last reply : Reply) (m : ℕ)
    → length more ≡ length lists
    → slice_index_or lists (number_in by shards lane) [] ≡ slice_index_or more (number_in by shards lane) [] ++ last ∷ [] → last ≡ reply
    → ((j : ℕ) → (j ≡ number_in by shards lane → ⊥) → slice_index_or more j [] ≡ slice_index_or lists j [])
    → IsMoved by shards (Ended lane reply m) lists more
end_moved by shards lists more lane last reply m as_many taken is others = record {
  as_many = as_many;
  moved = λ k within. elim (cases_Bool (number_in by shards lane == k)) [
    | inl same ↦ rw same (let at : number_in by shards lane ≡ k = eqb-true (number_in by shards lane) k same in
        subst (λ j. left_of lists j ≡ reply ∷ left_of more j) at (last_first lists more (number_in by shards lane) last taken ∙ ap (λ x. x ∷ left_of more (number_in by shards lane)) is))
    | inr off ↦ rw off (ap reverse (sym (others k (λ at. let clash : true ≡ false = sym (eq-eqb (number_in by shards lane) k (sym at)) ∙ off in cc))))
  ];
}

pub none_moved : (by : Batchers) (shards : List ℕ) (e : Entry) (lists : List (List Reply)) → reply_in e ≡ None → IsMoved by shards e lists lists
none_moved by shards e lists none = record { as_many = refl; moved = λ k within. at k e none }
  where
    at : (k : ℕ) (x : Entry) → reply_in x ≡ None → left_of lists k ≡ reply_before by shards k x (left_of lists k)
    at k (Ended lane reply m) none = absurd (cc)
    at k (Came n first count m) none = refl
    at k (Began lane places closing m) none = refl
    at k (Gave from n places f line state m) none = refl
    at k (Tried lane places closing t m) none = refl
    at k (Closed lane w m) none = refl
    at k (Replayed n places m) none = refl
    at k (Shut m) none = refl

-- vectors of replies

pub turned_each : {V : Type 0} (items : V → List Reply) (lists : List V) → map (λ v. reverse (items v)) lists ≡ map reverse (map items lists)
turned_each items [] = refl
turned_each items (v ∷ lists) = ap (λ ls. reverse (items v) ∷ ls) (turned_each items lists)

pub map_reverse : {A B : Type 0} (f : A → B) (xs : List A) → map f (reverse xs) ≡ reverse (map f xs)
map_reverse f [] = refl
map_reverse f (x ∷ xs) =
    ap (map f) (reverse-append (x ∷ []) xs)
    ∙ map-append f (reverse xs) (x ∷ [])
    ∙ ap (λ ys. ys ++ f x ∷ []) (map_reverse f xs)
    ∙ sym (reverse-append (f x ∷ []) (map f xs))

pub last_taken : {V : Type 0} (items : V → List Reply) (lists : List V) (k : ℕ) (old new : V) (o : Option Reply) → k < length lists → old ≡ get_or lists k old
    → items old ≡ items new ++ option_to_list o
    → IfSome o (λ reply. slice_index_or (map items lists) k [] ≡ slice_index_or (map items (slice_set lists k new)) k [] ++ reply ∷ [])
last_taken items lists k old new None within at is = tt
last_taken items lists k old new (Some reply) within at is =
    let there : k < length (slice_set lists k new) = subst (λ n. k < n) (sym (length-set lists k new)) within in
    let before : slice_index_or (map items lists) k [] ≡ items old = get_or-map items lists k old [] within ∙ ap items (sym at) in
    let after : slice_index_or (map items (slice_set lists k new)) k [] ≡ items new = get_or-map items (slice_set lists k new) k old [] there ∙ ap items (get_or-set_same lists k new old within) in
    before ∙ is ∙ ap (λ rs. rs ++ reply ∷ []) (sym after)

pub others_stay : {V : Type 0} (items : V → List Reply) (lists : List V) (k : ℕ) (new : V) (j : ℕ) → (j ≡ k → ⊥)
    → slice_index_or (map items (slice_set lists k new)) j [] ≡ slice_index_or (map items lists) j []
others_stay items lists k new j apart =
    ap (λ ls. slice_index_or ls j []) (map-set items lists k new) ∙ get_or-set_other (map items lists) k j (items new) [] apart

end_taken : (by : Batchers) (shards : List ℕ) (lists more : List (List Reply)) (e : Entry) (lane : LaneId) (reply last : Reply) (m k : ℕ)
    → HasReply by shards lists e → e ≡ Ended lane reply m → k ≡ number_in by shards lane → k < length lists
    → slice_index_or lists k [] ≡ slice_index_or more k [] ++ last ∷ [] → last ≡ reply
end_taken by shards lists more e lane reply last m k next is at within taken =
    let first = next lane reply m is (subst (λ j. j < length lists) at within) in
    last_is lists more (number_in by shards lane) last reply first.0 (subst (λ j. slice_index_or lists j [] ≡ slice_index_or more j [] ++ last ∷ []) at taken) first.1

module _ {V : Type 0} (items : V → List Reply) (by : Batchers) (shards : List ℕ) (left now : List V) (e : Entry) (lane : LaneId) (reply last : Reply) (m k : ℕ)
    (next_is : HasReply by shards (map items left) e) (is : e ≡ Ended lane reply m) (at : k ≡ number_in by shards lane) (within : k < length left)
    (taken : slice_index_or (map items left) k [] ≡ slice_index_or (map items now) k [] ++ last ∷ []) where
  last_reply : last ≡ reply
  last_reply = end_taken by shards (map items left) (map items now) e lane reply last m k next_is is at (subst (λ n. k < n) (sym (length-map left items)) within) taken

  pub told_end : (before after : List Reply) → after ≡ before ++ last ∷ [] → after ≡ before ++ option_to_list (reply_in e)
  told_end before after grown =
      grown ∙ ap (λ r. before ++ r ∷ []) last_reply ∙ ap (λ x. before ++ option_to_list (reply_in x)) (sym is)

  pub moved_end : length now ≡ length left → ((j : ℕ) → (j ≡ k → ⊥) → slice_index_or (map items now) j [] ≡ slice_index_or (map items left) j [])
      → IsMoved by shards e (map items left) (map items now)
  moved_end as_many others =
      subst (λ x. IsMoved by shards x (map items left) (map items now)) (sym is)
      (end_moved by shards (map items left) (map items now) lane last reply m (length-map now items ∙ as_many ∙ sym (length-map left items))
      (subst (λ j. slice_index_or (map items left) j [] ≡ slice_index_or (map items now) j [] ++ last ∷ []) at taken) last_reply
      (λ j apart. others j (λ same. apart (same ∙ at))))

pub all_told : (history : List Entry) (replies : List Reply) → replies ++ [] ≡ filter_map reply_in history → replies ≡ replies_of (reverse history)
all_told history replies all = sym (append-nil replies) ∙ all ∙ ap (filter_map reply_in) (sym (reverse-reverse history))
