-- The items of an input that came, as the reader knows it.
use Rattle.std.proofs.Common.{◌≡◌, ◌≤◌, ℕ, suc, Bool, true, false, cond, List, [], ◌∷◌, ◌++◌, length, refl, sym, ap, ◌∙◌, subst, append-nil, append_assoc, arith, Option, Some, None, Bor, is_some, inl, inr}
use Rattle.std.specs.Prelude.{IsSome, filter}
use Rattle.std.specs.Option.{option_copied}
use Rattle.std.proofs.lemmas.Bool.{cases_Bool}
use mathlib.Core.List.{IsPrefix}
use Rattle.esm_io.specs.Told.{TakesFront}
use Rattle.esm_model.specs.declared.book.Change.{Change}
use Rattle.esm_model.specs.declared.config.Start.{Start}
use Rattle.esm_model.specs.declared.limits.TheConstants.{MAX_RECORDS}
use Rattle.esm_model.specs.declared.setup.Setup.{Setup}
use Rattle.esm_model.specs.declared.setup.Told.{Told}
use Rattle.esm_model.specs.declared.item.Item.{Item}
use Rattle.esm_model.specs.declared.item.LineKind.{LineKind}
use Rattle.esm_input.specs.Positions.{from_start}
use Rattle.esm_input.specs.Reading.{InputState, IsInput, items_read, handed}
use Rattle.esm_input.specs.Within.{HandedWithin}
use Rattle.esm_model.specs.Coming.{is_of, items_of, Come, SomeCome, AreCome, AreSomeCome, FitBehind}
use Rattle.esm_pool.specs.Ran.{IsChangeOf, IsCut}
use Rattle.esm_pool.specs.Readings.{IsStopFor, IsStopAt, IsStopOf}
use Rattle.esm_pool.specs.declared.coming.Stop.{Stop}
use Rattle.esm_pool.specs.declared.coming.Stop.TheVariants.{Down, Spent, OutOfMemory}
use Rattle.esm_pool.proofs.Arriving.{items_both}

filter_shorter : (p : Item → Bool) (xs : List Item) → length (filter p xs) ≤ length xs
filter_shorter p [] = omega arith
filter_shorter p (x ∷ xs) = elim (cases_Bool (p x)) [
  | inl picked ↦ (let is : filter p (x ∷ xs) ≡ x ∷ filter p xs = ap (λ b. cond b (x ∷ filter p xs) (filter p xs)) picked in let more = filter_shorter p xs in subst (λ l. length l ≤ suc (length xs)) (sym is) (omega arith))
  | inr other ↦ (let is : filter p (x ∷ xs) ≡ filter p xs = ap (λ b. cond b (x ∷ filter p xs) (filter p xs)) other in let more = filter_shorter p xs in subst (λ l. length l ≤ suc (length xs)) (sym is) (omega arith))
]

pub come_none : (came : ℕ → List Item) (items : List Item) → ((n : ℕ) → came n ≡ []) → items ≡ [] → AreCome came items
come_none came items none empty n = none n ∙ ap (items_of n) (sym empty)

-- an input that was asked whether a read would wait handed out what it had
pub asked_come : {S : Type 0} (came : ℕ → List Item) (i j : InputState S) → j ≡ record i { source = j.source } → AreCome came (handed i) → AreCome came (handed j)
asked_come came i j same come = (let is : handed j ≡ handed i = ap handed same in subst (λ l. AreCome came l) (sym is) come)

with_more : (came : ℕ → List Item) (before items all : List Item) (n : ℕ) → all ≡ before ++ items → AreCome came before → items_of n all ≡ came n ++ items_of n items
with_more came before items all n is come = ap (items_of n) is ∙ (items_both n before items ∙ ap (λ l. l ++ items_of n items) (sym (come n)))

pub come_more : (came new : ℕ → List Item) (before items all : List Item) → all ≡ before ++ items → AreCome came before → Come came new items → AreCome new all
come_more came new before items all is come added n = added n ∙ sym (with_more came before items all n is come)

pub come_some : (came new : ℕ → List Item) (before items all : List Item) → all ≡ before ++ items → AreCome came before → SomeCome came new items → AreSomeCome new all
come_some came new before items all is come some n = ((some n).0, with_more came before items all n is come ∙ (some n).1)

pub some_of_all : (came : ℕ → List Item) (items : List Item) → AreCome came items → AreSomeCome came items
some_of_all came items come n = ([], sym (come n) ∙ sym (append-nil (came n)))

-- what is handed out next fits behind what came
pub next_fits : {S : Type 0} (within : HandedWithin) (came : ℕ → List Item) (i j : InputState S) (items : List Item) → handed j ≡ handed i ++ items → AreCome came (handed i) → FitBehind came items
next_fits within came i j items is come n =
    let few : length (handed j) ≤ MAX_RECORDS = (within j.kind j.factor j.start j.whole j.bytes (handed j) [] (sym (append-nil (handed j)))).few in
    let short : length (items_of n (handed j)) ≤ length (handed j) = filter_shorter (is_of n) (handed j) in
    let both : length (items_of n (handed j)) ≤ MAX_RECORDS = omega arith in
    subst (λ l. length l ≤ MAX_RECORDS) (with_more came (handed i) items (handed j) n is come) both

behind_front : (a b c d : List Item) → a ++ ((b ++ c) ++ d) ≡ ((a ++ b) ++ c) ++ d
behind_front a b c d =
    let one : a ++ ((b ++ c) ++ d) ≡ (a ++ (b ++ c)) ++ d = sym (append_assoc a (b ++ c) d) in
    let two : a ++ (b ++ c) ≡ (a ++ b) ++ c = sym (append_assoc a b c) in
    one ∙ ap (λ l. l ++ d) two

-- why reading stopped

module _ {S : Type 0} (left : S → Option (List ℕ)) (items : List Told → ℕ → List Item) (differs : Setup → List Told → List Item → Change → Type 0) (spent : Setup → List Told → Type 0) (setup : Setup) where
  -- at a list
  pub come_stop : (i j : InputState S) (seen new : List Told) (list : List Item) (marked : Bool) (told : Option Change) (t : Stop)
      → handed j ≡ handed i ++ list → AreCome (items seen) (handed i) → IsCut left j (items new) → IsStopFor items differs setup seen list new marked told t → IsStopOf left items differs spent setup j new marked told t
  come_stop i j seen new list marked told Down is come short stop = (
    stop.0,
    λ change is_change. let next = stop.1 change is_change in record {
      before = next.before;
      later = next.later;
      history = next.history;
      front = handed i ++ next.front;
      list = next.next;
      rest = next.rest;
      handed_out = is ∙ (ap (λ l. handed i ++ l) next.parts ∙ behind_front (handed i) next.front next.next next.rest);
      came = come_more (items seen) (items next.before) (handed i) next.front (handed i ++ next.front) refl come next.came;
      differs_so = next.differs_so;
    },
  )
  come_stop i j seen new list marked told Spent is come short stop = absurd stop
  come_stop i j seen new list marked told OutOfMemory is come short stop = (stop, short)

  -- while more was awaited
  pub wait_stop : (i : InputState S) (seen : List Told) (marked : Bool) (told : Option Change) (t : Stop)
      → told ≡ None → AreCome (items seen) (handed i) → i.end ≡ None → left i.source ≡ None → IsStopAt spent setup seen marked t → IsStopOf left items differs spent setup i seen marked told t
  wait_stop i seen marked told Down none come going untold stop = (stop, λ change is_change. absurd (let h = none in let k = is_change in cc))
  wait_stop i seen marked told Spent none come going untold stop = (none, record { calls = stop; came = come; going = going; untold = untold })
  wait_stop i seen marked told OutOfMemory none come going untold stop = absurd stop

takes_then : (a b c : Option (List ℕ)) (x y : List ℕ) → TakesFront a b x → TakesFront b c y → TakesFront a c (x ++ y)
takes_then None None c x y first second = second
takes_then None (Some b) c x y first second = absurd (cc)
takes_then (Some a) None c x y first second = absurd (let e = first.2 in cc)
takes_then (Some a) (Some b) c x y first second =
    let rest_is : first.0 ≡ b = (let e = first.2 in cc) in
    (second.0, first.1 ∙ ap (λ l. x ++ l) (rest_is ∙ second.1) ∙ sym (append_assoc x y second.0), second.2)

-- memory was wanting while items came
pub cut_coming : {S : Type 0} (faults : S → ℕ) (left : S → Option (List ℕ)) (i : InputState S) (came : ℕ → List Item) → IsInput faults left i → AreSomeCome came (handed i) → IsCut left i came
cut_coming faults left i came input some = record {
  bytes = i.bytes;
  more = [];
  whole = i.whole;
  taken = subst (TakesFront (left i.found) (left i.source)) (sym (append-nil i.bytes)) input.taken;
  some = some;
}

-- or while more was read
pub cut_reading : {S : Type 0} (faults : S → ℕ) (left : S → Option (List ℕ)) (i j : InputState S) (came : ℕ → List Item) → IsInput faults left i
    → (j.kind ≡ i.kind) × (j.factor ≡ i.factor) × (j.start ≡ i.start) → j.found ≡ i.found → (more : List ℕ) × TakesFront (left i.source) (left j.source) more → AreCome came (handed i) → IsCut left j came
cut_reading {S} faults left i j came input kept found taken come = record {
  bytes = i.bytes;
  more = taken.0;
  whole = i.whole;
  taken = subst (λ (s : S). TakesFront (left s) (left j.source) (i.bytes ++ taken.0)) (sym found) (takes_then (left i.found) (left i.source) (left j.source) i.bytes taken.0 input.taken taken.1);
  some =
      let same : handed i ≡ from_start j.start (items_read j.kind j.factor i.whole i.bytes).items =
      ap (λ (k : Start). from_start k (items_read i.kind i.factor i.whole i.bytes).items) (sym kept.2)
      ∙ ap (λ f. from_start j.start (items_read i.kind f i.whole i.bytes).items) (sym kept.1)
      ∙ ap (λ (k : LineKind). from_start j.start (items_read k j.factor i.whole i.bytes).items) (sym kept.0) in
      subst (AreSomeCome came) same (some_of_all came (handed i) come);
}

-- over a history that tells the same items

module _ (before after : ℕ → List Item) (same : (n : ℕ) → after n ≡ before n) where
  pub some_as : (items : List Item) → AreSomeCome before items → AreSomeCome after items
  some_as items some n = ((some n).0, (some n).1 ∙ ap (λ l. l ++ (some n).0) (sym (same n)))

  pub come_as : (items : List Item) → AreCome before items → AreCome after items
  come_as items come n = same n ∙ come n

  pub cut_as : {S : Type 0} (left : S → Option (List ℕ)) (i : InputState S) → IsCut left i before → IsCut left i after
  cut_as left i cut = record {
    bytes = cut.bytes;
    more = cut.more;
    whole = cut.whole;
    taken = cut.taken;
    some = some_as (from_start i.start (items_read i.kind i.factor cut.whole cut.bytes).items) cut.some;
  }

-- a change of a history that goes on
pub change_as : {S : Type 0} (items : List Told → ℕ → List Item) (differs : Setup → List Told → List Item → Change → Type 0) (setup : Setup) (seen new : List Told) (i : InputState S) (change : Change)
    → IsPrefix seen new → IsChangeOf items differs setup seen i change → IsChangeOf items differs setup new i change
change_as items differs setup seen new i change begins was = record {
  before = was.before;
  later = was.later ++ begins.0;
  history = sym begins.1 ∙ (ap (λ l. l ++ begins.0) was.history ∙ append_assoc was.before was.later begins.0);
  front = was.front;
  list = was.list;
  rest = was.rest;
  handed_out = was.handed_out;
  came = was.came;
  differs_so = was.differs_so;
}

-- a source that is not ready does not tell its bytes
pub untold : (o : Option (List ℕ)) (ready : Bool) → (IsSome o → ready ≡ true) → ready ≡ false → o ≡ None
untold None ready tells not = refl
untold (Some bytes) ready tells not = absurd (let clash : true ≡ false = sym (tells refl) ∙ not in cc)

-- an input whose end is not told has none
pub end_none : {X : Type 0} (o : Option (Bor X)) (e : Option X) → option_copied o ≡ e → is_some o ≡ false → e ≡ None
end_none None e is none = sym is
end_none (Some x) e is none = absurd (let clash : true ≡ false = none in cc)
