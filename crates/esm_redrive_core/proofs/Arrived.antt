-- The messages of a list that come: which of them are known, and which are dropped; and what is promised of the core of a
-- redrive where the list is taken or refused.
use Rattle.std.proofs.Common.{◌≡◌, ℕ, zero, suc, ◌+◌, ◌<◌, ◌≤◌, ◌^◌, Bool, true, false, not, cond, List, [], ◌∷◌, ◌++◌, length, take, drop, get_or, max, min, reverse, refl, sym, ap, ap₂, ◌∙◌, subst, arith, append_assoc, Some, None}
use Rattle.std.specs.Prelude.{option_map}
use Rattle.std.specs.List.{All}
use Rattle.std.proofs.Math.Seq.{drop-cons}
use Rattle.std.proofs.lemmas.Option.{same_Some}
use Rattle.std.proofs.lemmas.List.{length-append, length-map, take_all}
use Rattle.std.proofs.lemmas.List.Elements.{All-nil, All-cons, All-append}
use Rattle.serde_json.specs.Read.{read}
use Rattle.esm_model.specs.declared.moment.TheConstants.{MAX_MOMENT}
use Rattle.esm_model.specs.declared.item.Message.{Message}
use Rattle.esm_model.specs.declared.book.Change.{Change}
use Rattle.esm_model.specs.declared.entry.Fate.TheVariants.{Filtered, Exhausted}
use Rattle.esm_model.specs.declared.entry.Entry.{Entry}
use Rattle.esm_model.specs.declared.entry.Entry.TheVariants as entry
use Rattle.esm_model.specs.Filter.{patterns_pass, in_message, passes_message}
use Rattle.esm_model.specs.ValidMessage.{IsValidMessage}
use Rattle.esm_book.specs.Decided.{written_of, IsRefused}
use Rattle.esm_book.specs.declared.error.Refusal.TheVariants as refusal
use Rattle.esm_filter.specs.Criteria.{patterns_of}
use Rattle.esm_filter.specs.declared.criteria.Criteria.{Criteria}
use Rattle.esm_journal_state.specs.declared.kept.KeptFate.{KeptFate}
use Rattle.esm_journal_state.specs.SaidLists.{SaidLists, deletion_told}
use Rattle.esm_journal_state.specs.Tells.{deletion_of_found}
use Rattle.esm_queue_model.specs.declared.stored.Stored.{Stored}
use Rattle.esm_queue_model.specs.Queue.{QueueState}
use Rattle.esm_queue_model.specs.QueueSetting.{is_found}
use Rattle.esm_queue_core.specs.declared.owed.First.TheVariants.{Came}
use Rattle.esm_queue_core.specs.Coming.{gave_entries, HasChangedFirst, NoneHasChanged, IsChangeOf}
use Rattle.esm_queue_core.specs.CoreView.{moment_for}
use Rattle.esm_queue_core.specs.Kept.{messages_stored}
use Rattle.esm_queue_core.proofs.Judging.{found_told, found_some, found_none, at_of}
use Rattle.esm_redrive.specs.Limited.{Limited}
use Rattle.esm_redrive.specs.ReadsBack.{IsUtf8Message}
use Rattle.esm_redrive_model.specs.RedriveSetting.{RedriveSetting, has_dead_id, stands_among}
use Rattle.esm_redrive_core.specs.declared.owed.Gift.{Gift}
use Rattle.esm_redrive_core.specs.Adding.{came_from, came_entries}
use Rattle.esm_redrive_core.specs.Coming.{places_from, is_known_at, is_dropped_at, known_from, dropped_from}
use Rattle.esm_redrive_core.specs.Judged.{IsJudgedBy}
use Rattle.esm_redrive_core.specs.Kept.{Parts, IsKept, IsGiftOf, own, setting_of, seen_of, gift_line, gift_entries, owed_entries}
use Rattle.esm_redrive_core.specs.RedriveView.{RedriveView}
use Rattle.esm_redrive_core.specs.Refusing.{IsFirstChange}
use Rattle.esm_redrive_core.proofs.Keeping.{own_valid}
use Rattle.esm_redrive_core.proofs.Deciding.{IsDecided, left_with, is_decided, came_decides}

-- one message

pub known_found : (s : RedriveSetting) (said : SaidLists) (i : ℕ) (m : Message) (x : KeptFate) → s.queue.deletions ≡ said.deletions → Some x ≡ option_map deletion_of_found (deletion_told said i) → false ≡ is_known_at s i m
known_found s said i m x same is =
    let e : is_found s.queue i ≡ true = found_told s.queue said i same ∙ found_some (deletion_told said i) x is in
    rw e refl

pub known_free : (s : RedriveSetting) (said : SaidLists) (dead : List (List ℕ)) (i : ℕ) (m : Message) (b : Bool) → s.queue.deletions ≡ said.deletions → s.dead_ids ≡ dead → None ≡ option_map deletion_of_found (deletion_told said i) → b ≡ stands_among dead m.id → b ≡ is_known_at s i m
known_free s said dead i m b same ids is stands =
    let e : is_found s.queue i ≡ false = found_told s.queue said i same ∙ found_none (deletion_told said i) is in
    rw e (stands ∙ ap (λ (xs : List (List ℕ)). stands_among xs m.id) (sym ids))

pub dropped_found : (s : RedriveSetting) (said : SaidLists) (dead : List (List ℕ)) (criteria : Criteria) (i : ℕ) (m : Message) (x : KeptFate) → IsJudgedBy s said dead criteria → Some x ≡ option_map deletion_of_found (deletion_told said i) → false ≡ is_dropped_at s i m
dropped_found s said dead criteria i m x j is =
    let e : is_found s.queue i ≡ true = found_told s.queue said i j.deletions ∙ found_some (deletion_told said i) x is in
    rw e refl

pub dropped_known : (s : RedriveSetting) (said : SaidLists) (dead : List (List ℕ)) (criteria : Criteria) (i : ℕ) (m : Message) → IsJudgedBy s said dead criteria → None ≡ option_map deletion_of_found (deletion_told said i) → stands_among dead m.id ≡ true → false ≡ is_dropped_at s i m
dropped_known s said dead criteria i m j is stands =
    let e : is_found s.queue i ≡ false = found_told s.queue said i j.deletions ∙ found_none (deletion_told said i) is in
    let k : has_dead_id s m ≡ true = ap (λ (xs : List (List ℕ)). stands_among xs m.id) j.dead_ids ∙ stands in
    rw (e, k) refl

pub dropped_free : (s : RedriveSetting) (said : SaidLists) (dead : List (List ℕ)) (criteria : Criteria) (i : ℕ) (m : Message) (b : Bool) → IsJudgedBy s said dead criteria → None ≡ option_map deletion_of_found (deletion_told said i) → stands_among dead m.id ≡ false → b ≡ patterns_pass (patterns_of criteria) (in_message m (read m.body)) → not b ≡ is_dropped_at s i m
dropped_free s said dead criteria i m b j is stands passes =
    let e : is_found s.queue i ≡ false = found_told s.queue said i j.deletions ∙ found_none (deletion_told said i) is in
    let k : has_dead_id s m ≡ false = ap (λ (xs : List (List ℕ)). stands_among xs m.id) j.dead_ids ∙ stands in
    let p : b ≡ passes_message s.queue.config.filters m = passes ∙ j.judges m j.queue in
    rw (e, k) (ap not p)

-- one more message of a list

next_message : (xs : List Message) (i : ℕ) (x : Message) → i < length xs → x ≡ get_or xs i x → drop i xs ≡ x ∷ drop (i + 1) xs
next_message xs i x l at =
    let e : suc i ≡ i + 1 = omega arith in
    drop-cons xs i x l ∙ ap₂ (λ (y : Message) (n : ℕ). y ∷ drop n xs) (sym at) e

places_more : (test : ℕ → Message → Bool) (from : ℕ) (items : List Message) (i : ℕ) (x : Message) (places places' : List ℕ) (b : Bool) → i < length items → x ≡ get_or items i x → b ≡ test (from + i) x → places' ≡ cond b (places ++ (from + i) ∷ []) places
    → places ++ places_from test (from + i) (drop i items) ≡ places_from test from items → places' ++ places_from test (from + (i + 1)) (drop (i + 1) items) ≡ places_from test from items
places_more test from items i x places places' b l at is next so_far =
    let e : from + (i + 1) ≡ (from + i) + 1 = omega arith in
    let rest = places_from test ((from + i) + 1) (drop (i + 1) items) in
    let whole : places ++ cond b ((from + i) ∷ rest) rest ≡ places_from test from items
    = ap (λ (c : Bool). places ++ cond c ((from + i) ∷ rest) rest) is ∙ (ap (λ (xs : List Message). places ++ places_from test (from + i) xs) (sym (next_message items i x l at)) ∙ so_far) in
    ap₂ (λ (xs : List ℕ) (k : ℕ). xs ++ places_from test k (drop (i + 1) items)) next e ∙ (joined b places (from + i) rest ∙ whole)
  where
    joined : (b : Bool) (places : List ℕ) (k : ℕ) (rest : List ℕ) → cond b (places ++ k ∷ []) places ++ rest ≡ places ++ cond b (k ∷ rest) rest
    joined true places k rest = append_assoc places (k ∷ []) rest
    joined false places k rest = refl

pub known_more : (s : RedriveSetting) (from : ℕ) (items : List Message) (i : ℕ) (x : Message) (places places' : List ℕ) (b : Bool) → i < length items → x ≡ get_or items i x → b ≡ is_known_at s (from + i) x → places' ≡ cond b (places ++ (from + i) ∷ []) places
    → places ++ known_from s (from + i) (drop i items) ≡ known_from s from items → places' ++ known_from s (from + (i + 1)) (drop (i + 1) items) ≡ known_from s from items
known_more s from items i x places places' b l at is next so_far = places_more (is_known_at s) from items i x places places' b l at is next so_far

pub dropped_more : (s : RedriveSetting) (from : ℕ) (items : List Message) (i : ℕ) (x : Message) (places places' : List ℕ) (b : Bool) → i < length items → x ≡ get_or items i x → b ≡ is_dropped_at s (from + i) x → places' ≡ cond b (places ++ (from + i) ∷ []) places
    → places ++ dropped_from s (from + i) (drop i items) ≡ dropped_from s from items → places' ++ dropped_from s (from + (i + 1)) (drop (i + 1) items) ≡ dropped_from s from items
dropped_more s from items i x places places' b l at is next so_far = places_more (is_dropped_at s) from items i x places places' b l at is next so_far

-- the texts of the first messages, and of one more

first_more : (xs : List Message) (i : ℕ) (x : Message) → i < length xs → x ≡ get_or xs i x → take (i + 1) xs ≡ take i xs ++ x ∷ []
first_more [] i x low at = absurd (omega arith)
first_more (y ∷ xs) zero x low at = ap (λ (z : Message). z ∷ []) (sym at)
first_more (y ∷ xs) (suc i) x low at = let next : suc i + 1 ≡ suc (i + 1) = omega arith in rw next (ap (λ (zs : List Message). y ∷ zs) (first_more xs i x (omega arith) at))

pub texts_more : (items : List Message) (i : ℕ) (x : Message) → i < length items → x ≡ get_or items i x → IsUtf8Message x → All IsUtf8Message (take i items) → All IsUtf8Message (take (i + 1) items)
texts_more items i x low at own so_far = subst (All IsUtf8Message) (sym (first_more items i x low at)) (All-append IsUtf8Message (take i items) (x ∷ []) so_far (All-cons IsUtf8Message x [] own (All-nil IsUtf8Message)))

pub texts_all : (items : List Message) (i : ℕ) → length items ≤ i → All IsUtf8Message (take i items) → All IsUtf8Message items
texts_all items i past so_far = subst (All IsUtf8Message) (take_all i items past) so_far

-- a list that is refused

abbrev change_with : ℕ → ℕ → List ℕ → List ℕ → Change
change_with shard place kept given = record { shard = shard; place = place; kept = kept; given = given }

-- one place has one change
change_same : (p : Parts) (place : ℕ) (m : Message) (a b : Change) → IsChangeOf p.deletions place m a → IsChangeOf p.deletions place m b → b ≡ a
change_same p place m a b x y =
    let text : y.found.text ≡ x.found.text = ap (λ g. g.text) (same_Some y.found x.found (sym y.deletion ∙ x.deletion)) in
    let ends : change_with b.shard b.place b.kept b.given ≡ change_with a.shard a.place b.kept b.given = ap₂ (λ (s n : ℕ). change_with s n b.kept b.given) (y.queue ∙ sym x.queue) (y.place_is ∙ sym x.place_is) in
    let texts : change_with a.shard a.place b.kept b.given ≡ change_with a.shard a.place a.kept a.given = ap₂ (λ (k g : List ℕ). change_with a.shard a.place k g) (y.kept ∙ (text ∙ sym x.kept)) (y.given ∙ sym x.given) in
    ends ∙ texts

start_is : (p : Parts) (from : ℕ) → from ≡ length p.limited.state.messages → from ≡ length (messages_stored p.limited.state)
start_is p from is = is ∙ sym (length-map p.limited.state.messages (λ (y : Stored). y.message))

module _ (p : Parts) (items : List Message) (from j : ℕ) (x : Message) (from_is : from ≡ length p.limited.state.messages) (l : j < length items) (at : x ≡ get_or items j x) (first : HasChangedFirst p.deletions from items j) where
  first_change : (change : Change) → IsChangeOf p.deletions (from + j) x change → IsFirstChange (seen_of p) items change
  first_change change is =
      let start = start_is p from from_is in
      let same : x ≡ first.message = same_Some x first.message (sym (at_of items j x l at) ∙ first.at) in
      record {
        position = j;
        message = first.message;
        at = first.at;
        change_is = subst (λ (n : ℕ). IsChangeOf p.deletions (n + j) first.message change) start (subst (λ (m : Message). IsChangeOf p.deletions (from + j) m change) same is);
        before = subst (λ (n : ℕ). NoneHasChanged p.deletions n items j) start first.before;
      }

  -- it is told, twice alike
  pub refused_for : (v : RedriveView) (y : Message) (told kept : Change) → seen_of p ≡ v → y ≡ get_or items j y → IsChangeOf p.deletions (from + j) x told → IsChangeOf p.deletions (from + j) y kept → IsRefused (IsFirstChange v items) (refusal.Changed told kept)
  refused_for v y told kept seen again one other =
      let same : y ≡ x = same_Some y x (sym (at_of items j y l again) ∙ at_of items j x l at) in
      subst (λ (w : RedriveView). IsRefused (IsFirstChange w items) (refusal.Changed told kept)) seen
      (first_change told one, change_same p (from + j) x told kept one (subst (λ (m : Message). IsChangeOf p.deletions (from + j) m kept) same other))

-- a list that is taken

came_some : (s : RedriveSetting) (k : ℕ) (xs : List Message) (m : ℕ) → 1 ≤ length xs → came_from s k xs m ≡ entry.Came 0 k (length xs) m ∷ (gave_entries None (known_from s k xs) Exhausted m ++ gave_entries None (dropped_from s k xs) Filtered m)
came_some s k [] m some = absurd (omega (arith, some))
came_some s k (x ∷ xs) m some = refl

module _ (p : Parts) (v : RedriveView) (items slice : List Message) (from m : ℕ) (k : IsKept p) (seen : seen_of p ≡ v) (same : slice ≡ items) (from_is : from ≡ length p.limited.state.messages)
    (valid : All (IsValidMessage v.setting.queue.config.kind) items) (few : length v.setting.queue.messages + length items < 2 ^ 32) where
  items_valid : All (IsValidMessage p.config.kind) items
  items_valid = subst (λ (w : RedriveView). All (IsValidMessage w.setting.queue.config.kind) items) (sym seen) valid

  items_few : length (messages_stored p.limited.state) + length items < 2 ^ 32
  items_few = subst (λ (w : RedriveView). length w.setting.queue.messages + length items < 2 ^ 32) (sym seen) few

  all_few : length (messages_stored p.limited.state ++ items) < 2 ^ 32
  all_few = let a = length-append (messages_stored p.limited.state) items in let b = items_few in omega (arith, a, b)

  -- the places are numbers of 32 bits
  pub places_few : from + length slice < 2 ^ 32
  places_few = subst (λ (xs : List Message). from + length xs < 2 ^ 32) (sym same) (subst (λ (n : ℕ). n + length items < 2 ^ 32) (sym (start_is p from from_is)) items_few)

  pub slice_valid : (state : QueueState) → state ≡ p.limited.state → All (IsValidMessage p.config.kind) (messages_stored state ++ slice)
  slice_valid state is =
      subst (λ (r : QueueState). All (IsValidMessage p.config.kind) (messages_stored r ++ slice)) (sym is)
      (subst (λ (xs : List Message). All (IsValidMessage p.config.kind) (messages_stored p.limited.state ++ xs)) (sym same)
      (All-append (IsValidMessage p.config.kind) (messages_stored p.limited.state) items (own_valid p k) items_valid))

  pub slice_few : (state : QueueState) → state ≡ p.limited.state → length (messages_stored state ++ slice) < 2 ^ 32
  slice_few state is = subst (λ (r : QueueState). length (messages_stored r ++ slice) < 2 ^ 32) (sym is) (subst (λ (xs : List Message). length (messages_stored p.limited.state ++ xs) < 2 ^ 32) (sym same) all_few)

  pub none_changed : NoneHasChanged p.deletions from slice (length slice) → NoneHasChanged v.setting.queue.deletions (length v.setting.queue.messages) items (length items)
  none_changed none =
      subst (λ (w : RedriveView). NoneHasChanged w.setting.queue.deletions (length w.setting.queue.messages) items (length items)) seen
      (subst (λ (n : ℕ). NoneHasChanged p.deletions n items (length items)) (start_is p from from_is) (subst (λ (xs : List Message). NoneHasChanged p.deletions from xs (length xs)) same none))

  -- what is promised of the core
  pub came_decided : (q : Limited) (capacity : ℕ) (old new : List Entry) (said : SaidLists) (dead : List (List ℕ)) (gifts : List Gift) (state : QueueState) (count moment : ℕ) → p.deletions ≡ said.deletions → p.dead ≡ dead → state ≡ p.limited.state → count ≡ length items → 1 ≤ length items
      → q.state ≡ p.limited.state → q.max_receives ≡ p.limited.max_receives → length items ≤ q.spare → m ≡ min (max moment p.last) MAX_MOMENT
      → ((s : RedriveSetting) → IsJudgedBy s said dead p.criteria → gift_entries (reverse gifts) ≡ gave_entries None (known_from s from slice) Exhausted m ++ gave_entries None (dropped_from s from slice) Filtered m)
      → All IsUtf8Message slice → All (IsGiftOf (messages_stored state ++ slice)) (reverse gifts) → written_of gift_line (reverse gifts) ≡ [] → length gifts ≤ 2 → length (reverse gifts) ≡ length gifts → p.number + 5 ≤ capacity → p.number + 5 ≤ 2 ^ 40 → p.past ≡ reverse old → p.number ≡ length old → new ≡ old
      → IsDecided (left_with p q capacity new items (Some (Came from count m)) (reverse gifts)) v items (came_entries v items moment)
  came_decided q capacity old new said dead gifts state count moment deletions ids state_is count_is some q_is limit spare now entries texts written no_lines low sized room short past_is number_is new_is =
      let front = messages_stored p.limited.state in
      let start = start_is p from from_is in
      let within : m ≤ MAX_MOMENT = omega (arith, now) in
      let moment_is : m ≡ moment_for p.past moment = now ∙ ap (λ (n : ℕ). min (max moment n) MAX_MOMENT) k.last in
      let judged = entries (setting_of p) (record { deletions = deletions; dead_ids = ids; judges = k.criteria; queue = k.config.kind }) in
      let given = gave_entries None (known_from (setting_of p) from items) Exhausted m ++ gave_entries None (dropped_from (setting_of p) from items) Filtered m in
      let gifts_are : gift_entries (reverse gifts) ≡ given = judged ∙ ap (λ (xs : List Message). gave_entries None (known_from (setting_of p) from xs) Exhausted m ++ gave_entries None (dropped_from (setting_of p) from xs) Filtered m) same in
      let owed : owed_entries (Some (Came from count m)) (reverse gifts) ≡ came_entries v items moment =
      ap₂ (λ (n : ℕ) (es : List Entry). entry.Came 0 from n m ∷ es) count_is gifts_are
      ∙ (sym (came_some (setting_of p) from items m some)
      ∙ (ap₂ (λ (a b : ℕ). came_from (setting_of p) a items b) start moment_is
      ∙ ap (λ (w : RedriveView). came_entries w items moment) seen)) in
      let whole : All (IsGiftOf (front ++ items)) (reverse gifts) = subst (λ (xs : List Message). All (IsGiftOf (front ++ xs)) (reverse gifts)) same (subst (λ (r : QueueState). All (IsGiftOf (messages_stored r ++ slice)) (reverse gifts)) state_is written) in
      is_decided p v q capacity old new items (Some (Came from count m)) (reverse gifts) (came_entries v items moment) k seen
      (came_decides p q capacity items (reverse gifts) from count m k from_is count_is q_is limit items_valid (subst (λ (xs : List Message). All IsUtf8Message xs) same texts) all_few spare within whole no_lines (omega (arith, low, sized)) room short)
      owed past_is number_is new_is
