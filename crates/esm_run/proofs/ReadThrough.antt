-- An input that tells good bytes, of a source that did not fail, ends with these bytes where its reading ends, and hands out the
-- first of their items.
use Rattle.std.proofs.Common.{◌≡◌, ◌∙◌, ℕ, true, List, [], ◌++◌, Option, Some, None, ap, refl, subst, sym}
use Rattle.esm_input.specs.declared.ending.InputEnd.{InputEnd}
use Rattle.esm_input.specs.declared.ending.InputEnd.TheVariants as ends
use Rattle.esm_input.specs.Limits.{Limited}
use Rattle.esm_input.specs.Positions.{from_start}
use Rattle.esm_input.specs.Reading.{InputState, IsGood, handed, items_read}
use Rattle.esm_io.specs.Faults.{Rose}
use Rattle.esm_io.specs.Told.{IsAtEnd, TakesFront}
use Rattle.esm_model.specs.declared.config.Start.{Start}
use Rattle.esm_model.specs.declared.item.Item.{Item}
use Rattle.esm_model.specs.declared.item.LineKind.{LineKind}
use Rattle.esm_run.proofs.Fronts.{IsFront, start_front}
use Rattle.esm_run.proofs.MoreBytes.{ends_in, front_in}
use Rattle.esm_run.proofs.OneReading.{IsReadFrom, WholeGoesOn, at_end, ends_by, handed_is, taken_is}

-- what is left of a source of these bytes

record LeavesRest (bytes read : List ℕ) (left : Option (List ℕ)) : Type 0 where
  rest : List ℕ
  split : bytes ≡ read ++ rest
  is : left ≡ Some rest

rest_of : (before left : Option (List ℕ)) (bytes read : List ℕ) → before ≡ Some bytes → TakesFront before left read → LeavesRest bytes read left
rest_of None left bytes read told taken = absurd (let clash : ◌≡◌ {A = Option (List ℕ)} None (Some bytes) = told in cc)
rest_of (Some old) left bytes read told taken =
    let same : old ≡ bytes = cc in
    record { rest = taken.0; split = sym same ∙ taken.1; is = taken.2 }

nothing_left : (left : Option (List ℕ)) (rest : List ℕ) → left ≡ Some rest → IsAtEnd left → rest ≡ []
nothing_left left rest is ended = subst IsAtEnd is ended

-- the items of the bytes
abbrev pub items_given : LineKind → ℕ → Start → List ℕ → List Item
items_given kind factor start bytes = from_start start (items_read kind factor true bytes).items

-- the input ends well, with all of these items handed out, or has handed out the first of them
pub record IsReadThrough {S : Type 0} (i : InputState S) (items : List Item) : Type 0 where
  pub ended : (e : InputEnd) → i.end ≡ Some e → (e ≡ ends.End) × (handed i ≡ items)
  pub front : IsFront (handed i) items

pub read_through : {S : Type 0} (faults : S → ℕ) (left : S → Option (List ℕ)) (kind : LineKind) (factor : ℕ) (start : Start) (old new : S) (bytes : List ℕ) (i : InputState S)
    → WholeGoesOn → left old ≡ Some bytes → ¬ Rose (faults old) (faults new) → IsGood kind factor true bytes → IsReadFrom faults left kind factor start old new i
    → IsReadThrough i (items_given kind factor start bytes)
read_through {S} faults left kind factor start old new bytes i goes told sound good read =
    let rest : LeavesRest bytes i.bytes (left new) = rest_of (left old) (left new) bytes i.bytes told (taken_is faults left kind factor start old new i read) in
    let all_read : i.whole ≡ true → rest.rest ≡ [] =
    λ whole. nothing_left (left new) rest.rest rest.is (subst (λ (s : S). IsAtEnd (left s)) read.source (read.read.at_end whole)) in
    let front : IsFront (items_read kind factor i.whole i.bytes).items (items_read kind factor true bytes).items = front_in kind factor i.whole i.bytes rest.rest bytes goes rest.split all_read in
    record {
      ended = λ e ended. (
          let all = ends_in kind factor (faults old) (faults new) i.whole i.bytes rest.rest bytes e goes sound rest.split all_read (ends_by faults left kind factor start old new i e read ended) in
          let own = at_end kind factor (faults old) (faults new) true bytes ends.End sound (goes kind bytes) (refl, good) in (
            all.0 ∙ sym own.0,
            handed_is faults left kind factor start old new i read ∙ ap (λ (l : Limited). from_start start l.items) all.1,
          )
          );
      front = subst (λ (xs : List Item). IsFront xs (from_start start (items_read kind factor true bytes).items)) (sym (handed_is faults left kind factor start old new i read))
          (start_front start (items_read kind factor i.whole i.bytes).items (items_read kind factor true bytes).items front);
    }
