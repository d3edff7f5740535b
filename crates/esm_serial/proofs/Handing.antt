-- Items that are handed on list by list.
use Rattle.std.proofs.Common.{◌≡◌, ℕ, Bool, List, [], ◌++◌, refl, sym, ap, ◌∙◌, subst, append-nil, append_assoc, arith, Result, Ok, Err, OnOk, IfErr}
use Rattle.std.specs.Prelude.{◌≤◌, IsErrAnd, take, drop, length}
use Rattle.std.proofs.lemmas.List.{length-append, take-append-drop}
use Rattle.std.proofs.lemmas.List.Elements.{filter-append}
use Rattle.esm_model.specs.declared.book.Change.{Change}
use Rattle.esm_model.specs.declared.item.Item.{Item}
use Rattle.esm_model.specs.declared.limits.TheConstants.{MAX_RECORDS}
use Rattle.esm_model.specs.Coming.{is_of, items_of, Come, SomeCome, FitBehind}
use Rattle.esm_serial.specs.declared.reading.Stop.{Stop}
use Rattle.esm_serial.specs.declared.reading.Stop.TheVariants.{Down, OutOfMemory}
use Rattle.esm_serial.specs.declared.serial.Serial.{Ghosts as Serial}
use Rattle.esm_serial.specs.Readings.{Brings, IsNextChange, IsStopFor}
use Rattle.esm_serial.proofs.Bringing.{brings_then}

-- of all items the front has come
pub record IsHanding (before now : ℕ → List Item) (all rest : List Item) : Type 0 where
  pub front : List Item
  pub parts : all ≡ front ++ rest
  pub came : Come before now front

pub items_both : (n : ℕ) (xs ys : List Item) → items_of n (xs ++ ys) ≡ items_of n xs ++ items_of n ys
items_both n xs ys = filter-append (is_of n) xs ys

pub handing_none : (before : ℕ → List Item) (all : List Item) → IsHanding before before all all
handing_none before all = record { front = []; parts = refl; came = λ n. sym (append-nil (before n)) }

module _ (before now : ℕ → List Item) (all rest : List Item) (handing : IsHanding before now all rest) where
  pub behind : (n : ℕ) → now n ++ items_of n rest ≡ before n ++ items_of n all
  behind n =
      ap (λ l. l ++ items_of n rest) (handing.came n) ∙ (append_assoc (before n) (items_of n handing.front) (items_of n rest)
      ∙ ap (λ l. before n ++ l) (sym (items_both n handing.front rest) ∙ ap (items_of n) (sym handing.parts)))

  -- what came where nothing more did
  pub some_none : SomeCome before now all
  some_none n = (items_of n rest, sym (behind n))

  module _ (now' : ℕ → List Item) (list rest' : List Item) (parts : rest ≡ list ++ rest') where
    pub handing_on : Come now now' list → IsHanding before now' all rest'
    handing_on came = record {
      front = handing.front ++ list;
      parts = handing.parts ∙ (ap (λ l. handing.front ++ l) parts ∙ sym (append_assoc handing.front list rest'));
      came = λ n. came n ∙ (ap (λ l. l ++ items_of n list) (handing.came n) ∙ (append_assoc (before n) (items_of n handing.front) (items_of n list) ∙ ap (λ l. before n ++ l) (sym (items_both n handing.front list))));
    }

    pub handing_some : SomeCome now now' list → SomeCome before now' all
    handing_some some n = (
      (some n).0 ++ items_of n rest',
      sym (behind n) ∙ (ap (λ l. now n ++ l) (ap (items_of n) parts ∙ items_both n list rest') ∙ (sym (append_assoc (now n) (items_of n list) (items_of n rest'))
          ∙ (ap (λ l. l ++ items_of n rest') (some n).1 ∙ append_assoc (now' n) (some n).0 (items_of n rest')))),
    )

    -- the lists within the rest fit too
    pub fits : FitBehind before all → FitBehind now list
    fits fit n =
        let long : length (now n ++ items_of n rest) ≤ MAX_RECORDS = subst (λ l. length l ≤ MAX_RECORDS) (sym (behind n)) (fit n) in
        let is : now n ++ items_of n rest ≡ (now n ++ items_of n list) ++ items_of n rest'
        = ap (λ l. now n ++ l) (ap (items_of n) parts ∙ items_both n list rest') ∙ sym (append_assoc (now n) (items_of n list) (items_of n rest')) in
        let sum = length-append (now n ++ items_of n list) (items_of n rest') in
        let same = ap length is in
        omega arith

pub handing_all : (before now : ℕ → List Item) (all : List Item) → IsHanding before now all [] → Come before now all
handing_all before now all handing n = sym (append-nil (now n)) ∙ behind before now all [] handing n

-- a list is the front of the rest
pub split_parts : (k : ℕ) (rest list later : List Item) → list ≡ take k rest → later ≡ drop k rest → rest ≡ list ++ later
split_parts k rest list later front back = sym (take-append-drop k rest) ∙ (ap (λ l. l ++ drop k rest) (sym front) ∙ ap (λ l. list ++ l) (sym back))

regrouped : (a b c d e : List Item) → a ++ (((b ++ c) ++ d) ++ e) ≡ ((a ++ b) ++ c) ++ (d ++ e)
regrouped a b c d e =
    let one : ((b ++ c) ++ d) ++ e ≡ (b ++ c) ++ (d ++ e) = append_assoc (b ++ c) d e in
    let two : a ++ ((b ++ c) ++ (d ++ e)) ≡ (a ++ (b ++ c)) ++ (d ++ e) = sym (append_assoc a (b ++ c) (d ++ e)) in
    let three : a ++ (b ++ c) ≡ (a ++ b) ++ c = sym (append_assoc a b c) in
    ap (λ l. a ++ l) one ∙ (two ∙ ap (λ l. l ++ (d ++ e)) three)

module _ {B : Type 0} (m : Serial B) (gave : ℕ → Bool) (old mid new : B) (were : ℕ → List Item) (brings : Brings m gave old mid) (all rest list later : List Item)
    (handing : IsHanding were (m.items mid) all rest) (parts : rest ≡ list ++ later) where
  -- a change among the items of the list is one among all
  pub change_within : (change : Change) → IsNextChange m gave mid (m.items mid) list new change → IsNextChange m gave old were all new change
  change_within change next = record {
    before = next.before;
    brings = brings_then m gave old mid next.before brings next.brings;
    front = handing.front ++ next.front;
    list = next.list;
    rest = next.rest ++ later;
    few = next.few;
    parts = handing.parts ∙ (ap (λ l. handing.front ++ l) (parts ∙ ap (λ l. l ++ later) next.parts) ∙ regrouped handing.front next.front next.list next.rest later);
    came = λ n. next.came n ∙ (ap (λ l. l ++ items_of n next.front) (handing.came n)
        ∙ (append_assoc (were n) (items_of n handing.front) (items_of n next.front) ∙ ap (λ l. were n ++ l) (sym (items_both n handing.front next.front))));
    stay = next.stay;
    differs_so = next.differs_so;
  }

module _ {B : Type 0} (m : Serial B) (gave : ℕ → Bool) (old mid new : B) (brings : Brings m gave old mid) (all rest list later : List Item)
    (handing : IsHanding (m.items old) (m.items mid) all rest) (parts : rest ≡ list ++ later) where
  pub handing_stop : (t : Stop) → IsStopFor m gave mid list new t → IsStopFor m gave old all new t
  handing_stop Down stop = (stop.0, λ change is. change_within m gave old mid new (m.items old) brings all rest list later handing parts change (stop.1 change is))
  handing_stop OutOfMemory stop = stop

  pub handing_stop_if : (r : Result (Unit {0}) Stop) → IfErr r (IsStopFor m gave mid list new) → IfErr r (IsStopFor m gave old all new)
  handing_stop_if (Ok u) stop = tt
  handing_stop_if (Err t) stop = handing_stop t stop

-- an error that was passed on
pub err_as : {E : Type 0} (r : Result (Unit {0}) E) (x : E) (P : E → Type 0) → IsErrAnd r (λ e. e ≡ x) → P x → IfErr r P
err_as (Ok u) x P is holds = tt
err_as (Err e) x P is holds = subst P (sym is) holds

pub on_ok : {A E : Type 0} (r : Result A E) (P Q : Type 0) → (P → Q) → OnOk r P → OnOk r Q
on_ok (Ok a) P Q step holds = step holds
on_ok (Err e) P Q step holds = tt
