-- The items of an input that came, piece by piece.
use Rattle.std.proofs.Common.{◌≡◌, ◌≤◌, ℕ, suc, Bool, false, cond, List, [], ◌∷◌, ◌++◌, length, sym, ap, ◌∙◌, subst, append-nil, append_assoc, arith, Option, Some, None, inl, inr}
use Rattle.std.specs.Prelude.{filter}
use Rattle.std.proofs.lemmas.Bool.{cases_Bool}
use Rattle.esm_io.specs.Told.{TakesFront}
use Rattle.esm_model.specs.declared.config.Start.{Start}
use Rattle.esm_model.specs.declared.limits.TheConstants.{MAX_RECORDS}
use Rattle.esm_model.specs.declared.item.Item.{Item}
use Rattle.esm_model.specs.declared.item.LineKind.{LineKind}
use Rattle.esm_model.specs.Coming.{is_of, items_of, Come, SomeCome, AreCome, AreSomeCome, FitBehind}
use Rattle.esm_input.specs.Positions.{from_start}
use Rattle.esm_input.specs.Reading.{InputState, IsInput, StandsSo, items_read, handed}
use Rattle.esm_input.specs.Within.{HandedWithin}
use Rattle.esm_serial.specs.declared.reading.Stop.{Stop}
use Rattle.esm_serial.specs.declared.reading.Stop.TheVariants.{Down, OutOfMemory}
use Rattle.esm_serial.specs.declared.serial.Serial.{Ghosts as Serial}
use Rattle.esm_serial.specs.Ran.{IsCut}
use Rattle.esm_serial.specs.Readings.{Brings, IsStopFor, IsStopOf}
use Rattle.esm_serial.proofs.Handing.{IsHanding, items_both, change_within}

filter_shorter : (p : Item → Bool) (xs : List Item) → length (filter p xs) ≤ length xs
filter_shorter p [] = omega arith
filter_shorter p (x ∷ xs) = elim (cases_Bool (p x)) [
  | inl picked ↦ (let is : filter p (x ∷ xs) ≡ x ∷ filter p xs = ap (λ b. cond b (x ∷ filter p xs) (filter p xs)) picked in let more = filter_shorter p xs in subst (λ l. length l ≤ suc (length xs)) (sym is) (omega arith))
  | inr other ↦ (let is : filter p (x ∷ xs) ≡ filter p xs = ap (λ b. cond b (x ∷ filter p xs) (filter p xs)) other in let more = filter_shorter p xs in subst (λ l. length l ≤ suc (length xs)) (sym is) (omega arith))
]

with_more : (came : ℕ → List Item) (before items all : List Item) (n : ℕ) → all ≡ before ++ items → AreCome came before → items_of n all ≡ came n ++ items_of n items
with_more came before items all n is come = ap (items_of n) is ∙ (items_both n before items ∙ ap (λ l. l ++ items_of n items) (sym (come n)))

pub come_more : (came new : ℕ → List Item) (before items all : List Item) → all ≡ before ++ items → AreCome came before → Come came new items → AreCome new all
come_more came new before items all is come added n = added n ∙ sym (with_more came before items all n is come)

pub come_some : (came new : ℕ → List Item) (before items all : List Item) → all ≡ before ++ items → AreCome came before → SomeCome came new items → AreSomeCome new all
come_some came new before items all is come some n = ((some n).0, with_more came before items all n is come ∙ (some n).1)

pub some_of_all : (came : ℕ → List Item) (items : List Item) → AreCome came items → AreSomeCome came items
some_of_all came items come n = ([], sym (come n) ∙ sym (append-nil (came n)))

-- what is handed out next fits behind what came
pub next_fits : {S : Type 0} (within : HandedWithin) (came : ℕ → List Item) (i j : InputState S) (items : List Item) → handed j ≡ handed i ++ items → AreCome came (handed i) → FitBehind came items
next_fits within came i j items is come n =
    let few : length (handed j) ≤ MAX_RECORDS = (within j.kind j.factor j.start j.whole j.bytes (handed j) [] (sym (append-nil (handed j)))).few in
    let short : length (items_of n (handed j)) ≤ length (handed j) = filter_shorter (is_of n) (handed j) in
    let both : length (items_of n (handed j)) ≤ MAX_RECORDS = omega arith in
    subst (λ l. length l ≤ MAX_RECORDS) (with_more came (handed i) items (handed j) n is come) both

takes_then : (a b c : Option (List ℕ)) (x y : List ℕ) → TakesFront a b x → TakesFront b c y → TakesFront a c (x ++ y)
takes_then None None c x y first second = second
takes_then None (Some b) c x y first second = absurd (cc)
takes_then (Some a) None c x y first second = absurd (let e = first.2 in cc)
takes_then (Some a) (Some b) c x y first second =
    let rest_is : first.0 ≡ b = (let e = first.2 in cc) in
    (second.0, first.1 ∙ ap (λ l. x ++ l) (rest_is ∙ second.1) ∙ sym (append_assoc x y second.0), second.2)

-- memory was wanting while items came
pub cut_coming : {S : Type 0} (faults : S → ℕ) (left : S → Option (List ℕ)) (i : InputState S) (came : ℕ → List Item) → IsInput faults left i → AreSomeCome came (handed i) → IsCut left i came
cut_coming faults left i came input some = record {
  bytes = i.bytes;
  more = [];
  whole = i.whole;
  taken = subst (TakesFront (left i.found) (left i.source)) (sym (append-nil i.bytes)) input.taken;
  at_end = input.at_end;
  some = some;
}

-- the source of an input that has not ended may have more
not_whole : {S : Type 0} (faults : S → ℕ) (left : S → Option (List ℕ)) (i : InputState S) → IsInput faults left i → i.failed ≡ false → i.end ≡ None → i.whole ≡ false
not_whole faults left i input good going = (subst (StandsSo i.kind i.factor (faults i.found) (faults i.source) i.whole i.bytes) going (input.stands good)).0

-- or while more was read
pub cut_reading : {S : Type 0} (faults : S → ℕ) (left : S → Option (List ℕ)) (i j : InputState S) (came : ℕ → List Item) → IsInput faults left i → i.failed ≡ false → i.end ≡ None
    → (j.kind ≡ i.kind) × (j.factor ≡ i.factor) × (j.start ≡ i.start) → j.found ≡ i.found → (more : List ℕ) × TakesFront (left i.source) (left j.source) more → AreCome came (handed i) → IsCut left j came
cut_reading {S} faults left i j came input good going kept found taken come = record {
  bytes = i.bytes;
  more = taken.0;
  whole = i.whole;
  taken = subst (λ (s : S). TakesFront (left s) (left j.source) (i.bytes ++ taken.0)) (sym found) (takes_then (left i.found) (left i.source) (left j.source) i.bytes taken.0 input.taken taken.1);
  at_end = λ whole. absurd (let other = not_whole faults left i input good going in cc);
  some =
      let same : handed i ≡ from_start j.start (items_read j.kind j.factor i.whole i.bytes).items =
      ap (λ (k : Start). from_start k (items_read i.kind i.factor i.whole i.bytes).items) (sym kept.2)
      ∙ ap (λ f. from_start j.start (items_read i.kind f i.whole i.bytes).items) (sym kept.1)
      ∙ ap (λ (k : LineKind). from_start j.start (items_read k j.factor i.whole i.bytes).items) (sym kept.0) in
      subst (AreSomeCome came) same (some_of_all came (handed i) come);
}

-- why reading stopped at a list
pub come_stop : {B S : Type 0} (m : Serial B) (gave : ℕ → Bool) (left : S → Option (List ℕ)) (old mid new : B) (i j : InputState S) (list : List Item) (t : Stop)
    → Brings m gave old mid → handed j ≡ handed i ++ list → AreCome (m.items mid) (handed i) → SomeCome (m.items mid) (m.items new) list → IsCut left j (m.items new)
    → IsStopFor m gave mid list new t → IsStopOf m gave left old j new t
come_stop m gave left old mid new i j list Down brings is come some short stop = record {
  down = stop.0;
  some = come_some (m.items mid) (m.items new) (handed i) list (handed j) is come some;
  changed = λ change told.
      let handing : IsHanding (λ _. []) (m.items mid) (handed j) list = record { front = handed i; parts = is; came = come } in
      change_within m gave old mid new (λ _. []) brings (handed j) list list [] handing (sym (append-nil list)) change (stop.1 change told);
}
come_stop m gave left old mid new i j list OutOfMemory brings is come some short stop = (stop, short)

-- over a book that tells the same items

module _ (before after : ℕ → List Item) (same : (n : ℕ) → after n ≡ before n) where
  pub some_as : (items : List Item) → AreSomeCome before items → AreSomeCome after items
  some_as items some n = ((some n).0, (some n).1 ∙ ap (λ l. l ++ (some n).0) (sym (same n)))

  pub come_as : (items : List Item) → AreCome before items → AreCome after items
  come_as items come n = same n ∙ come n

  pub cut_as : {S : Type 0} (left : S → Option (List ℕ)) (i : InputState S) → IsCut left i before → IsCut left i after
  cut_as left i cut = record {
    bytes = cut.bytes;
    more = cut.more;
    whole = cut.whole;
    taken = cut.taken;
    at_end = cut.at_end;
    some = some_as (from_start i.start (items_read i.kind i.factor cut.whole cut.bytes).items) cut.some;
  }
