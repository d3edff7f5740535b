-- What a reader that stopped says of the book in which the end was noted then.
use Rattle.std.proofs.Common.{◌≡◌, ℕ, ◌⊎◌, Bool, true, false, List, refl, sym, ◌∙◌, subst, Option, Some, None, Result, Ok, Err, OnOk, OnErr, IfErr, inl, inr}
use Rattle.std.specs.Prelude.{IsErrOf, IsSome}
use mathlib.Core.List.{IsPrefix}
use Rattle.esm_model.specs.declared.book.Change.{Change}
use Rattle.esm_model.specs.declared.setup.Setup.{Setup}
use Rattle.esm_model.specs.declared.setup.Told.{Told}
use Rattle.esm_model.specs.Books.{entries_told}
use Rattle.esm_model.specs.Entries.{is_shut}
use Rattle.esm_model.specs.declared.item.Item.{Item}
use Rattle.esm_input.specs.Reading.{InputState, handed}
use Rattle.esm_model.specs.Coming.{AreCome}
use Rattle.esm_pool.specs.Ran.{AllCame, IsChangeOf, IsCut}
use Rattle.esm_pool.specs.Readings.{IsStopAt, IsStopOf, IsReadInPart, MayGoOn}
use Rattle.esm_pool.specs.declared.coming.Stop.{Stop}
use Rattle.esm_pool.specs.declared.coming.Stop.TheVariants.{Down, Spent, OutOfMemory}
use Rattle.esm_pool.proofs.Reading.{come_as, cut_as, change_as}

-- the book's word, told of the seat that gave the book back as it was
pub stop_at_as : (spent : Setup → List Told → Type 0) (setup setup' : Setup) (h seen : List Told) (mark marked : Bool) → setup ≡ setup' → seen ≡ h → marked ≡ mark
    → (r : Result (Unit {0}) Stop) → IfErr r (IsStopAt spent setup h mark) → IfErr r (IsStopAt spent setup' seen marked)
stop_at_as spent setup setup' h seen mark marked same_setup is is_mark (Ok u) stop = tt
stop_at_as spent setup setup' h seen mark marked same_setup is is_mark (Err Down) stop = is_mark ∙ stop
stop_at_as spent setup setup' h seen mark marked same_setup is is_mark (Err Spent) stop = subst (λ (z : Setup × List Told). spent z.0 z.1) (λ i. (same_setup i, sym is i)) stop
stop_at_as spent setup setup' h seen mark marked same_setup is is_mark (Err OutOfMemory) stop = stop

pub goes_on_as : (spent : Setup → List Told → Type 0) (setup setup' : Setup) (h seen : List Told) (mark marked : Bool) → setup ≡ setup' → seen ≡ h → marked ≡ mark
    → (r : Result (Unit {0}) Stop) → OnOk r (MayGoOn spent setup h mark) → OnOk r (MayGoOn spent setup' seen marked)
goes_on_as spent setup setup' h seen mark marked same_setup is is_mark (Ok u) up = (
  is_mark ∙ up.0,
  λ all. up.1 (subst (λ (z : Setup × List Told). spent z.0 z.1) (λ i. (sym same_setup i, is i)) all),
)
goes_on_as spent setup setup' h seen mark marked same_setup is is_mark (Err t) up = tt

module _ {S : Type 0} (left : S → Option (List ℕ)) (items : List Told → ℕ → List Item) (differs : Setup → List Told → List Item → Change → Type 0) (spent : Setup → List Told → Type 0) (setup : Setup) (i : InputState S)
    (seen new : List Told) (marked marked' : Bool) (told told' : Option Change) (same : (n : ℕ) → items new n ≡ items seen n) where
  pub read_so : (r : Result (Unit {0}) Stop) → (IsErrOf r OutOfMemory → ⊥) → OnOk r (AreCome (items seen) (handed i)) → OnOk r (IsSome i.end) → IfErr r (IsStopOf left items differs spent setup i seen marked told)
      → (marked ≡ true → marked' ≡ true) → (spent setup seen → spent setup new) → (marked' ≡ false → is_shut (entries_told new) ≡ true)
      → marked' ≡ false → AllCame i (items new) new ⊎ IsReadInPart left items spent setup i new
  read_so (Ok u) other came end stop marks spends shuts up = inl (record { items = come_as (items seen) (items new) same (handed i) came; ended = end; shut = shuts up })
  read_so (Err Down) other came end stop marks spends shuts up = absurd (let down = marks stop.0 in let clash : true ≡ false = sym down ∙ up in cc)
  read_so (Err Spent) other came end stop marks spends shuts up = inr (record {
    calls = spends stop.1.calls;
    came = record { items = come_as (items seen) (items new) same (handed i) stop.1.came; going = stop.1.going; untold = stop.1.untold; shut = shuts up };
  })
  read_so (Err OutOfMemory) other came end stop marks spends shuts up = absurd (other refl)

  pub changed_so : (r : Result (Unit {0}) Stop) → (IsErrOf r OutOfMemory → ⊥) → OnOk r (told ≡ None) → IfErr r (IsStopOf left items differs spent setup i seen marked told)
      → told' ≡ told → IsPrefix seen new → (change : Change) → told' ≡ Some change → IsChangeOf items differs setup new i change
  changed_so (Ok u) other none stop is begins change is_change = absurd (let h = none in let j = is in let k = is_change in cc)
  changed_so (Err Down) other none stop is begins change is_change = change_as items differs setup seen new i change begins (stop.1 change (sym is ∙ is_change))
  changed_so (Err Spent) other none stop is begins change is_change = absurd (let h = stop.0 in let j = is in let k = is_change in cc)
  changed_so (Err OutOfMemory) other none stop is begins change is_change = absurd (other refl)

  pub cut_so : (r : Result (Unit {0}) Stop) → IsErrOf r OutOfMemory → IfErr r (IsStopOf left items differs spent setup i seen marked told)
      → told' ≡ told → (told' ≡ None) × IsCut left i (items new)
  cut_so (Ok u) short stop told_is = absurd (let h = short in cc)
  cut_so (Err t) short stop told_is =
      let is : t ≡ OutOfMemory = (let h = short in cc) in
      let both : (told ≡ None) × IsCut left i (items seen) = subst (IsStopOf left items differs spent setup i seen marked told) is stop in
      (told_is ∙ both.0, cut_as (items seen) (items new) same left i both.1)

pub on_ok : {A E : Type 0} (r : Result A E) (P Q : Type 0) → (P → Q) → OnOk r P → OnOk r Q
on_ok (Ok a) P Q step holds = step holds
on_ok (Err e) P Q step holds = tt

pub on_err : {A E : Type 0} (r : Result A E) (P Q : Type 0) → (P → Q) → OnErr r P → OnErr r Q
on_err (Ok a) P Q step holds = tt
on_err (Err e) P Q step holds = step holds
