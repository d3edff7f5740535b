-- A source that tells its bytes and did not fail determines what was read of it, and why its reading ended.
use Rattle.std.proofs.Common.{◌≡◌, ℕ, Bool, true, false, List, [], ◌++◌, refl, sym, ap, ◌∙◌, subst, Option, Some, None}
use Rattle.std.specs.Prelude.{IsSome, is_some}
use Rattle.std.proofs.lemmas.List.{append_cancel_right}
use Rattle.esm_io.specs.Told.{TakesFront}
use Rattle.esm_io.specs.Faults.{Rose}
use Rattle.esm_model.specs.declared.config.Start.{Start}
use Rattle.esm_record.specs.declared.error.BadLine.{BadLine}
use Rattle.esm_model.specs.declared.item.LineKind.{LineKind}
use Rattle.esm_record.specs.Input.{Input, input_so_far, input_of}
use Rattle.esm_record.specs.GoesOn.{GoesOnFrom}
use Rattle.esm_model.specs.declared.names.LimitName.{LimitName}
use Rattle.esm_input.specs.declared.ending.InputEnd.{InputEnd}
use Rattle.esm_input.specs.declared.ending.InputEnd.TheVariants as ends
use Rattle.esm_input.specs.Limits.{Limited, limited_after}
use Rattle.esm_input.specs.Positions.{from_start}
use Rattle.esm_input.specs.Reading.{EndsBy, InputState, IsInput, StandsSo, handed, input_read, items_read}
use Rattle.esm_run.proofs.Fronts.{IsFront, front_same, limit_stays, limited_more, start_front}

-- the law of the lines
abbrev pub WholeGoesOn : Type 0
WholeGoesOn = (kind : LineKind) (bytes : List ℕ) → GoesOnFrom (input_so_far kind bytes) (input_of kind bytes)

-- which bytes were read

pub same_bytes : (before left : Option (List ℕ)) (x y : List ℕ) → IsSome before → TakesFront before left x → TakesFront before left y → x ≡ y
same_bytes None left x y some one other = absurd (cc)
same_bytes (Some old) left x y some one other =
    let rest : one.0 ≡ other.0 = (let same : Some one.0 ≡ Some other.0 = sym one.2 ∙ other.2 in cc) in
    append_cancel_right x y other.0 (ap (λ (l : List ℕ). x ++ l) (sym rest) ∙ sym one.1 ∙ other.1)

-- the end of a reading, by the limit that was passed and the bad line

end_by : Option LimitName → Option BadLine → InputEnd
end_by (Some limit) bad = ends.Limit limit
end_by None (Some bad) = ends.BadLine bad
end_by None None = ends.End

pub end_at : LineKind → ℕ → Bool → List ℕ → InputEnd
end_at kind factor whole bytes = end_by (items_read kind factor whole bytes).limit (input_read kind whole bytes).bad

limit_end : (limit : Option LimitName) (bad : Option BadLine) (l : LimitName) → limit ≡ Some l → ends.Limit l ≡ end_by limit bad
unfolding end_by
limit_end limit bad l is = ap (λ o. end_by o bad) (sym is)

bad_end : (limit : Option LimitName) (bad : Option BadLine) (b : BadLine) → limit ≡ None → bad ≡ Some b → ends.BadLine b ≡ end_by limit bad
unfolding end_by
bad_end limit bad b none is = ap (end_by None) (sym is) ∙ ap (λ o. end_by o bad) (sym none)

good_end : (limit : Option LimitName) (bad : Option BadLine) → limit ≡ None → bad ≡ None → ends.End ≡ end_by limit bad
unfolding end_by
good_end limit bad none is = ap (end_by None) (sym is) ∙ ap (λ o. end_by o bad) (sym none)

end_is : (kind : LineKind) (factor before now : ℕ) (whole : Bool) (bytes : List ℕ) (e : InputEnd) → ¬ Rose before now → EndsBy kind factor before now whole bytes e → e ≡ end_at kind factor whole bytes
unfolding end_at
end_is kind factor before now whole bytes ends.End sound cause = good_end (items_read kind factor whole bytes).limit (input_read kind whole bytes).bad cause.1.no_limit cause.1.no_bad_line
end_is kind factor before now whole bytes (ends.BadLine bad) sound cause = bad_end (items_read kind factor whole bytes).limit (input_read kind whole bytes).bad bad cause.no_limit cause.first
end_is kind factor before now whole bytes ends.Fault sound cause = absurd (sound cause.1)
end_is kind factor before now whole bytes (ends.Limit limit) sound cause = limit_end (items_read kind factor whole bytes).limit (input_read kind whole bytes).bad limit cause

-- a reading that ended before the source did would have ended so at the source's end
record IsSettled (kind : LineKind) (factor : ℕ) (bytes : List ℕ) : Type 0 where
  end : end_at kind factor false bytes ≡ end_at kind factor true bytes
  items : items_read kind factor false bytes ≡ items_read kind factor true bytes

bad_settled : (kind : LineKind) (factor : ℕ) (bytes : List ℕ) (bad : BadLine) → GoesOnFrom (input_so_far kind bytes) (input_of kind bytes) → (input_so_far kind bytes).bad ≡ Some bad → IsSettled kind factor bytes
unfolding end_at
bad_settled kind factor bytes bad goes is =
    let same : input_so_far kind bytes ≡ input_of kind bytes = sym (goes.stopped (ap is_some is)) in
    record {
      end = ap (λ (i : Input). end_by (limited_after factor [] i.items).limit i.bad) same;
      items = ap (λ (i : Input). limited_after factor [] i.items) same;
    }

limit_settled : (kind : LineKind) (factor : ℕ) (bytes : List ℕ) (limit : LimitName) → GoesOnFrom (input_so_far kind bytes) (input_of kind bytes) → (items_read kind factor false bytes).limit ≡ Some limit → IsSettled kind factor bytes
unfolding end_at
limit_settled kind factor bytes limit goes is =
    let same : items_read kind factor true bytes ≡ items_read kind factor false bytes =
    ap (limited_after factor []) goes.items ∙ limit_stays factor [] (input_so_far kind bytes).items goes.more limit is in
    record {
      end = sym (limit_end (items_read kind factor false bytes).limit (input_read kind false bytes).bad limit is)
          ∙ limit_end (items_read kind factor true bytes).limit (input_read kind true bytes).bad limit (ap (λ (v : Limited). v.limit) same ∙ is);
      items = sym same;
    }

settled : (kind : LineKind) (factor before now : ℕ) (bytes : List ℕ) (e : InputEnd) → ¬ Rose before now → GoesOnFrom (input_so_far kind bytes) (input_of kind bytes) → EndsBy kind factor before now false bytes e → IsSettled kind factor bytes
settled kind factor before now bytes ends.End sound goes cause = (let untrue : false ≡ true = cause.0 in absurd (cc))
settled kind factor before now bytes (ends.BadLine bad) sound goes cause = bad_settled kind factor bytes bad goes cause.first
settled kind factor before now bytes ends.Fault sound goes cause = absurd (sound cause.1)
settled kind factor before now bytes (ends.Limit limit) sound goes cause = limit_settled kind factor bytes limit goes cause

-- as at the source's end
pub at_end : (kind : LineKind) (factor before now : ℕ) (whole : Bool) (bytes : List ℕ) (e : InputEnd) → ¬ Rose before now → GoesOnFrom (input_so_far kind bytes) (input_of kind bytes) → EndsBy kind factor before now whole bytes e
    → (e ≡ end_at kind factor true bytes) × (items_read kind factor whole bytes ≡ items_read kind factor true bytes)
at_end kind factor before now true bytes e sound goes cause = (end_is kind factor before now true bytes e sound cause, refl)
at_end kind factor before now false bytes e sound goes cause =
    let same = settled kind factor before now bytes e sound goes cause in
    (end_is kind factor before now false bytes e sound cause ∙ same.end, same.items)

-- what was read so far is a front of what is read at the source's end
pub front_of_all : (kind : LineKind) (factor : ℕ) (whole : Bool) (bytes : List ℕ) → GoesOnFrom (input_so_far kind bytes) (input_of kind bytes) → IsFront (items_read kind factor whole bytes).items (items_read kind factor true bytes).items
front_of_all kind factor true bytes goes = front_same (items_read kind factor true bytes).items
front_of_all kind factor false bytes goes =
    subst (λ items. IsFront (items_read kind factor false bytes).items (limited_after factor [] items).items) (sym goes.items)
    (limited_more factor [] (input_so_far kind bytes).items goes.more)

-- an input of lines of this kind, with this factor of the limits and from this starting position on, as it was read; its source
-- goes from the one to the other

pub record IsReadFrom {S : Type 0} (faults : S → ℕ) (left : S → Option (List ℕ)) (kind : LineKind) (factor : ℕ) (start : Start) (old new : S) (i : InputState S) : Type 0 where
  pub kind_is : i.kind ≡ kind
  pub factor_is : i.factor ≡ factor
  pub start_is : i.start ≡ start
  pub found : i.found ≡ old
  pub source : i.source ≡ new
  pub good : i.failed ≡ false
  pub read : IsInput faults left i

pub handed_is : {S : Type 0} (faults : S → ℕ) (left : S → Option (List ℕ)) (kind : LineKind) (factor : ℕ) (start : Start) (old new : S) (i : InputState S)
    → IsReadFrom faults left kind factor start old new i → handed i ≡ from_start start (items_read kind factor i.whole i.bytes).items
handed_is faults left kind factor start old new i is =
    ap (λ position. from_start position (items_read i.kind i.factor i.whole i.bytes).items) is.start_is
    ∙ ap (λ k. from_start start (items_read k i.factor i.whole i.bytes).items) is.kind_is
    ∙ ap (λ f. from_start start (items_read kind f i.whole i.bytes).items) is.factor_is

pub taken_is : {S : Type 0} (faults : S → ℕ) (left : S → Option (List ℕ)) (kind : LineKind) (factor : ℕ) (start : Start) (old new : S) (i : InputState S)
    → IsReadFrom faults left kind factor start old new i → TakesFront (left old) (left new) i.bytes
taken_is faults left kind factor start old new i is =
    subst (λ s. TakesFront (left old) (left s) i.bytes) is.source (subst (λ s. TakesFront (left s) (left i.source) i.bytes) is.found is.read.taken)

pub ends_by : {S : Type 0} (faults : S → ℕ) (left : S → Option (List ℕ)) (kind : LineKind) (factor : ℕ) (start : Start) (old new : S) (i : InputState S) (e : InputEnd)
    → IsReadFrom faults left kind factor start old new i → i.end ≡ Some e → EndsBy kind factor (faults old) (faults new) i.whole i.bytes e
ends_by faults left kind factor start old new i e is ended =
    subst (λ k. EndsBy k factor (faults old) (faults new) i.whole i.bytes e) is.kind_is
    (subst (λ f. EndsBy i.kind f (faults old) (faults new) i.whole i.bytes e) is.factor_is
    (subst (λ s. EndsBy i.kind i.factor (faults old) (faults s) i.whole i.bytes e) is.source
    (subst (λ s. EndsBy i.kind i.factor (faults s) (faults i.source) i.whole i.bytes e) is.found
    (subst (StandsSo i.kind i.factor (faults i.found) (faults i.source) i.whole i.bytes) ended (is.read.stands is.good)))))

-- what an input that was read to an end ended by, and what was read of it, are those of its bytes
ended_at : {S : Type 0} (faults : S → ℕ) (left : S → Option (List ℕ)) (kind : LineKind) (factor : ℕ) (start : Start) (old new : S) (i : InputState S) (e : InputEnd)
    → WholeGoesOn → ¬ Rose (faults old) (faults new) → IsReadFrom faults left kind factor start old new i → i.end ≡ Some e
    → (e ≡ end_at kind factor true i.bytes) × (items_read kind factor i.whole i.bytes ≡ items_read kind factor true i.bytes)
ended_at faults left kind factor start old new i e goes sound is ended =
    at_end kind factor (faults old) (faults new) i.whole i.bytes e sound (goes kind i.bytes) (ends_by faults left kind factor start old new i e is ended)

-- two inputs of one run

both_bytes : {S : Type 0} (faults : S → ℕ) (left : S → Option (List ℕ)) (kind : LineKind) (factor : ℕ) (start : Start) (old new : S) (i j : InputState S)
    → IsSome (left old) → IsReadFrom faults left kind factor start old new i → IsReadFrom faults left kind factor start old new j → i.bytes ≡ j.bytes
both_bytes faults left kind factor start old new i j told one other =
    same_bytes (left old) (left new) i.bytes j.bytes told (taken_is faults left kind factor start old new i one) (taken_is faults left kind factor start old new j other)

pub one_end : {S : Type 0} (faults : S → ℕ) (left : S → Option (List ℕ)) (kind : LineKind) (factor : ℕ) (start : Start) (old new : S) (i j : InputState S) (e d : InputEnd)
    → WholeGoesOn → IsSome (left old) → ¬ Rose (faults old) (faults new) → IsReadFrom faults left kind factor start old new i → IsReadFrom faults left kind factor start old new j
    → i.end ≡ Some e → j.end ≡ Some d → e ≡ d
one_end faults left kind factor start old new i j e d goes told sound one other first second =
    (ended_at faults left kind factor start old new i e goes sound one first).0
    ∙ ap (end_at kind factor true) (both_bytes faults left kind factor start old new i j told one other)
    ∙ sym (ended_at faults left kind factor start old new j d goes sound other second).0

-- both of which were read to an end: they handed out the same
pub one_handed : {S : Type 0} (faults : S → ℕ) (left : S → Option (List ℕ)) (kind : LineKind) (factor : ℕ) (start : Start) (old new : S) (i j : InputState S) (e d : InputEnd)
    → WholeGoesOn → IsSome (left old) → ¬ Rose (faults old) (faults new) → IsReadFrom faults left kind factor start old new i → IsReadFrom faults left kind factor start old new j
    → i.end ≡ Some e → j.end ≡ Some d → handed i ≡ handed j
one_handed faults left kind factor start old new i j e d goes told sound one other first second =
    handed_is faults left kind factor start old new i one
    ∙ ap (λ (v : Limited). from_start start v.items) (ended_at faults left kind factor start old new i e goes sound one first).1
    ∙ ap (λ bytes. from_start start (items_read kind factor true bytes).items) (both_bytes faults left kind factor start old new i j told one other)
    ∙ sym (ap (λ (v : Limited). from_start start v.items) (ended_at faults left kind factor start old new j d goes sound other second).1)
    ∙ sym (handed_is faults left kind factor start old new j other)

-- the one of which was: what the other handed out is a front of its own
pub one_front : {S : Type 0} (faults : S → ℕ) (left : S → Option (List ℕ)) (kind : LineKind) (factor : ℕ) (start : Start) (old new : S) (i j : InputState S) (e : InputEnd)
    → WholeGoesOn → IsSome (left old) → ¬ Rose (faults old) (faults new) → IsReadFrom faults left kind factor start old new i → IsReadFrom faults left kind factor start old new j
    → i.end ≡ Some e → IsFront (handed j) (handed i)
one_front faults left kind factor start old new i j e goes told sound one other ended =
    let all : items_read kind factor true j.bytes ≡ items_read kind factor i.whole i.bytes =
    ap (items_read kind factor true) (both_bytes faults left kind factor start old new j i told other one)
    ∙ sym (ended_at faults left kind factor start old new i e goes sound one ended).1 in
    let front : IsFront (items_read kind factor j.whole j.bytes).items (items_read kind factor i.whole i.bytes).items =
    subst (λ (v : Limited). IsFront (items_read kind factor j.whole j.bytes).items v.items) all (front_of_all kind factor j.whole j.bytes (goes kind j.bytes)) in
    subst (λ items. IsFront items (handed i)) (sym (handed_is faults left kind factor start old new j other))
    (subst (λ items. IsFront (from_start start (items_read kind factor j.whole j.bytes).items) items) (sym (handed_is faults left kind factor start old new i one))
    (start_front start (items_read kind factor j.whole j.bytes).items (items_read kind factor i.whole i.bytes).items front))

-- that it was is seen
pub some_of : (o : Option InputEnd) → IsSome o → (e : InputEnd) × (o ≡ Some e)
some_of None some = absurd (cc)
some_of (Some e) some = (e, refl)

-- a source that tells its bytes goes on to tell them

still_told : (before left : Option (List ℕ)) (bytes : List ℕ) → IsSome before → TakesFront before left bytes → IsSome left
still_told None left bytes told taken = absurd (cc)
still_told (Some old) left bytes told taken = subst IsSome (sym taken.2) refl

pub told_still : {S : Type 0} (faults : S → ℕ) (left : S → Option (List ℕ)) (kind : LineKind) (factor : ℕ) (start : Start) (old new : S) (i : InputState S)
    → IsSome (left old) → IsReadFrom faults left kind factor start old new i → IsSome (left new)
told_still faults left kind factor start old new i told is = still_told (left old) (left new) i.bytes told (taken_is faults left kind factor start old new i is)
