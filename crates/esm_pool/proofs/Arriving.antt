-- Items that come to a book at the reader's seat.
use Rattle.std.proofs.Common.{◌≡◌, ℕ, ◌⊎◌, Bool, true, List, [], ◌++◌, refl, sym, ap, ◌∙◌, subst, append-nil, append_assoc, Option, Some, None, Result, Ok, Err, OnOk, IfErr, inl, inr}
use Rattle.std.specs.Prelude.{◌≤◌, IsErrOf, IsErrAnd, take, drop, length}
use Rattle.std.proofs.Common.{arith}
use Rattle.std.proofs.lemmas.List.{length-append, take-append-drop}
use Rattle.esm_model.specs.declared.limits.TheConstants.{MAX_RECORDS}
use Rattle.std.proofs.lemmas.List.Elements.{filter-append}
use Rattle.esm_model.specs.declared.book.CameError.{CameError}
use Rattle.esm_model.specs.declared.book.CameError.TheVariants as refusal
use Rattle.esm_model.specs.declared.book.Change.{Change}
use Rattle.esm_model.specs.declared.setup.Setup.{Setup}
use Rattle.esm_model.specs.declared.setup.Told.{Told}
use Rattle.esm_model.specs.Kept.{added}
use Rattle.esm_model.specs.declared.item.Item.{Item}
use Rattle.esm_model.specs.GoingOn.{change_told}
use Rattle.esm_model.specs.Coming.{is_of, items_of, Come, SomeCome, FitBehind}
use Rattle.esm_pool.specs.declared.coming.Stop.{Stop}
use Rattle.esm_pool.specs.declared.coming.Stop.TheVariants.{Down, Spent, OutOfMemory}
use Rattle.esm_pool.specs.Readings.{IsStopFor, stop_of}

pub ok_stop : (r : Result (Unit {0}) CameError) (q : Result (Unit {0}) Stop) (P Q : Type 0) → (P → Q) → q ≡ stop_of r → OnOk r P → OnOk q Q
ok_stop (Ok u) q P Q step is holds = subst (λ z. OnOk z Q) (sym is) (step holds)
ok_stop (Err (refusal.StreamChanged change)) q P Q step is holds = subst (λ z. OnOk z Q) (sym is) tt
ok_stop (Err refusal.DiskFault) q P Q step is holds = subst (λ z. OnOk z Q) (sym is) tt
ok_stop (Err refusal.Down) q P Q step is holds = subst (λ z. OnOk z Q) (sym is) tt
ok_stop (Err refusal.OutOfMemory) q P Q step is holds = subst (λ z. OnOk z Q) (sym is) tt

-- a change that came is told, and no other
told_none : (r : Result (Unit {0}) CameError) (before told : Option Change) → before ≡ None → told ≡ change_told before r → OnOk r (told ≡ None)
told_none (Ok u) before told none is = is ∙ none
told_none (Err e) before told none is = tt

pub unchanged_stop : (r : Result (Unit {0}) CameError) (q : Result (Unit {0}) Stop) (before told now : Option Change) → q ≡ stop_of r → before ≡ None → told ≡ change_told before r → now ≡ told → OnOk q (now ≡ None)
unchanged_stop r q before told now is none told_is now_is = ok_stop r q (told ≡ None) (now ≡ None) (λ holds. now_is ∙ holds) is (told_none r before told none told_is)

module _ (items : List Told → ℕ → List Item) (differs : Setup → List Told → List Item → Change → Type 0) (setup setup' : Setup) (x y seen now : List Told) (list : List Item) (marked mark : Bool) (told : Option Change) where
  down_as : (e : CameError) → (e ≡ refusal.OutOfMemory → ⊥) → y ≡ x ++ added x y → ((n : ℕ) → items x n ≡ items seen n) → now ≡ y → mark ≡ marked → (e ≡ refusal.OutOfMemory) ⊎ (marked ≡ true)
      → ((change : Change) → told ≡ Some change → differs setup' x list change) → IsStopFor items differs setup' seen list now mark told Down
  down_as e other goes same is is_mark down changed = (
    elim down [ inl none ↦ absurd (other none) | inr down_now ↦ is_mark ∙ down_now ],
    λ change is_change. record {
      before = x;
      later = added x y;
      history = is ∙ goes;
      front = [];
      next = list;
      rest = [];
      parts = sym (append-nil list);
      came = λ n. same n ∙ sym (append-nil (items seen n));
      differs_so = changed change is_change;
    },
  )

  stop_as : (r : Result (Unit {0}) CameError) → setup ≡ setup' → y ≡ x ++ added x y → ((n : ℕ) → items x n ≡ items seen n) → now ≡ y → mark ≡ marked → told ≡ change_told None r
      → IfErr r (λ e. (e ≡ refusal.OutOfMemory) ⊎ (marked ≡ true)) → ((change : Change) → IsErrOf r (refusal.StreamChanged change) → differs setup x list change)
      → IfErr (stop_of r) (IsStopFor items differs setup' seen list now mark told)
  stop_as (Ok u) same_setup goes same is is_mark tells down changed = tt
  stop_as (Err (refusal.StreamChanged change)) same_setup goes same is is_mark tells down changed = down_as (refusal.StreamChanged change) (λ e. absurd (let h = e in cc)) goes same is is_mark down
      (λ other is_other. let the_same : change ≡ other = (let h = tells in let i = is_other in cc) in
      subst (λ u. differs u x list other) same_setup (changed other (ap (λ (z : Change). Err (refusal.StreamChanged z)) the_same)))
  stop_as (Err refusal.DiskFault) same_setup goes same is is_mark tells down changed = down_as refusal.DiskFault (λ e. absurd (let h = e in cc)) goes same is is_mark down (λ other is_other. absurd (let h = tells in let i = is_other in cc))
  stop_as (Err refusal.Down) same_setup goes same is is_mark tells down changed = down_as refusal.Down (λ e. absurd (let h = e in cc)) goes same is is_mark down (λ other is_other. absurd (let h = tells in let i = is_other in cc))
  stop_as (Err refusal.OutOfMemory) same_setup goes same is is_mark tells down changed = tells

pub err_stop : (items : List Told → ℕ → List Item) (differs : Setup → List Told → List Item → Change → Type 0) (setup setup' : Setup) (x y seen now : List Told) (list : List Item) (marked mark : Bool) (before told told' : Option Change)
    (r : Result (Unit {0}) CameError) (q : Result (Unit {0}) Stop) → q ≡ stop_of r → setup ≡ setup' → y ≡ x ++ added x y → ((n : ℕ) → items x n ≡ items seen n) → now ≡ y → mark ≡ marked
    → before ≡ None → told ≡ change_told before r → told' ≡ told
    → IfErr r (λ e. (e ≡ refusal.OutOfMemory) ⊎ (marked ≡ true)) → ((change : Change) → IsErrOf r (refusal.StreamChanged change) → differs setup x list change)
    → IfErr q (IsStopFor items differs setup' seen list now mark told')
err_stop items differs setup setup' x y seen now list marked mark before told told' r q is_stop same_setup goes same is is_mark none tells told_is down changed =
    subst (λ z. IfErr z (IsStopFor items differs setup' seen list now mark told')) (sym is_stop)
    (stop_as items differs setup setup' x y seen now list marked mark told' r same_setup goes same is is_mark (told_is ∙ (tells ∙ ap (λ b. change_told b r) none)) down changed)

-- handing items on, list by list

-- of all items the front has come
pub record IsHanding (before now : ℕ → List Item) (all rest : List Item) : Type 0 where
  pub front : List Item
  pub parts : all ≡ front ++ rest
  pub came : Come before now front

pub items_both : (n : ℕ) (xs ys : List Item) → items_of n (xs ++ ys) ≡ items_of n xs ++ items_of n ys
items_both n xs ys = filter-append (is_of n) xs ys

pub handing_none : (before : ℕ → List Item) (all : List Item) → IsHanding before before all all
handing_none before all = record { front = []; parts = refl; came = λ n. sym (append-nil (before n)) }

module _ (before now : ℕ → List Item) (all rest : List Item) (handing : IsHanding before now all rest) where
  pub behind : (n : ℕ) → now n ++ items_of n rest ≡ before n ++ items_of n all
  behind n =
      ap (λ l. l ++ items_of n rest) (handing.came n) ∙ (append_assoc (before n) (items_of n handing.front) (items_of n rest)
      ∙ ap (λ l. before n ++ l) (sym (items_both n handing.front rest) ∙ ap (items_of n) (sym handing.parts)))

  module _ (now' : ℕ → List Item) (list rest' : List Item) (parts : rest ≡ list ++ rest') where
    pub handing_on : Come now now' list → IsHanding before now' all rest'
    handing_on came = record {
      front = handing.front ++ list;
      parts = handing.parts ∙ (ap (λ l. handing.front ++ l) parts ∙ sym (append_assoc handing.front list rest'));
      came = λ n. came n ∙ (ap (λ l. l ++ items_of n list) (handing.came n) ∙ (append_assoc (before n) (items_of n handing.front) (items_of n list) ∙ ap (λ l. before n ++ l) (sym (items_both n handing.front list))));
    }

    pub handing_some : SomeCome now now' list → SomeCome before now' all
    handing_some some n = (
      (some n).0 ++ items_of n rest',
      sym (behind n) ∙ (ap (λ l. now n ++ l) (ap (items_of n) parts ∙ items_both n list rest') ∙ (sym (append_assoc (now n) (items_of n list) (items_of n rest'))
          ∙ (ap (λ l. l ++ items_of n rest') (some n).1 ∙ append_assoc (now' n) (some n).0 (items_of n rest')))),
    )

pub handing_all : (before now : ℕ → List Item) (all : List Item) → IsHanding before now all [] → Come before now all
handing_all before now all handing n = sym (append-nil (now n)) ∙ behind before now all [] handing n

-- a list is the front of the rest
pub split_parts : (k : ℕ) (rest list later : List Item) → list ≡ take k rest → later ≡ drop k rest → rest ≡ list ++ later
split_parts k rest list later front back = sym (take-append-drop k rest) ∙ (ap (λ l. l ++ drop k rest) (sym front) ∙ ap (λ l. list ++ l) (sym back))

-- the lists within the rest fit too
pub fits : (before now : ℕ → List Item) (all rest list later : List Item) → IsHanding before now all rest → rest ≡ list ++ later → FitBehind before all → FitBehind now list
fits before now all rest list later handing parts fit n =
    let long : length (now n ++ items_of n rest) ≤ MAX_RECORDS = subst (λ l. length l ≤ MAX_RECORDS) (sym (behind before now all rest handing n)) (fit n) in
    let is : now n ++ items_of n rest ≡ (now n ++ items_of n list) ++ items_of n later
    = ap (λ l. now n ++ l) (ap (items_of n) parts ∙ items_both n list later) ∙ sym (append_assoc (now n) (items_of n list) (items_of n later)) in
    let sum = length-append (now n ++ items_of n list) (items_of n later) in
    let same = ap length is in
    omega arith

regrouped : (a b c d e : List Item) → a ++ (((b ++ c) ++ d) ++ e) ≡ ((a ++ b) ++ c) ++ (d ++ e)
regrouped a b c d e =
    let one : ((b ++ c) ++ d) ++ e ≡ (b ++ c) ++ (d ++ e) = append_assoc (b ++ c) d e in
    let two : a ++ ((b ++ c) ++ (d ++ e)) ≡ (a ++ (b ++ c)) ++ (d ++ e) = sym (append_assoc a (b ++ c) (d ++ e)) in
    let three : a ++ (b ++ c) ≡ (a ++ b) ++ c = sym (append_assoc a b c) in
    ap (λ l. a ++ l) one ∙ (two ∙ ap (λ l. l ++ (d ++ e)) three)

module _ (items : List Told → ℕ → List Item) (differs : Setup → List Told → List Item → Change → Type 0) (setup : Setup) (seen mid now : List Told) (all rest list later : List Item) (mark : Bool) (told : Option Change)
    (handing : IsHanding (items seen) (items mid) all rest) (parts : rest ≡ list ++ later) where
  pub handing_stop : (t : Stop) → IsStopFor items differs setup mid list now mark told t → IsStopFor items differs setup seen all now mark told t
  handing_stop Down stop = (
    stop.0,
    λ change is. let next = stop.1 change is in record {
      before = next.before;
      later = next.later;
      history = next.history;
      front = handing.front ++ next.front;
      next = next.next;
      rest = next.rest ++ later;
      parts = handing.parts ∙ (ap (λ l. handing.front ++ l) (parts ∙ ap (λ l. l ++ later) next.parts) ∙ regrouped handing.front next.front next.next next.rest later);
      came = λ n. next.came n ∙ (ap (λ l. l ++ items_of n next.front) (handing.came n)
          ∙ (append_assoc (items seen n) (items_of n handing.front) (items_of n next.front) ∙ ap (λ l. items seen n ++ l) (sym (items_both n handing.front next.front))));
      differs_so = next.differs_so;
    },
  )
  handing_stop Spent stop = stop
  handing_stop OutOfMemory stop = stop

  pub handing_stop_if : (r : Result (Unit {0}) Stop) → IfErr r (IsStopFor items differs setup mid list now mark told) → IfErr r (IsStopFor items differs setup seen all now mark told)
  handing_stop_if (Ok u) stop = tt
  handing_stop_if (Err t) stop = handing_stop t stop

-- an error that was passed on
pub err_as : {E : Type 0} (r : Result (Unit {0}) E) (x : E) (P : E → Type 0) → IsErrAnd r (λ e. e ≡ x) → P x → IfErr r P
err_as (Ok u) x P is holds = tt
err_as (Err e) x P is holds = subst P (sym is) holds

-- what came where nothing more did
pub some_none : (before now : ℕ → List Item) (all rest : List Item) → IsHanding before now all rest → SomeCome before now all
some_none before now all rest handing n = (items_of n rest, sym (behind before now all rest handing n))
