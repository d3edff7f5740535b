-- What the history of a stream's book tells is within the bounds of a stream.
use Rattle.std.proofs.Common.{◌≡◌, ℕ, zero, suc, Bool, true, false, cond, ◌&&◌, List, [], ◌∷◌, ◌++◌, map, refl, ◌∙◌, subst, inl, inr, Option, Some}
use Rattle.std.specs.Prelude.{◌==◌, slice_get, find, option_map}
use Rattle.std.specs.List.{All}
use Rattle.std.proofs.lemmas.Bool.{cases_Bool, and_parts, eqb-true}
use Rattle.std.proofs.lemmas.Option.{none-some, same_Some}
use Rattle.std.proofs.lemmas.List.Elements.{All-nil, All-head, All-tail, All-append}
use Rattle.esm_model.specs.Records.{Record}
use Rattle.esm_model.specs.declared.entry.Entry.{Entry}
use Rattle.esm_model.specs.declared.entry.Entry.TheVariants.{Came, Began, Ended, Gave, Tried, Closed, Replayed, Shut}
use Rattle.esm_model.specs.declared.setup.FoundState.{FoundState}
use Rattle.esm_model.specs.declared.setup.Told.{Told}
use Rattle.esm_model.specs.declared.setup.Setup.{Setup}
use Rattle.esm_model.specs.Setting.{records_in}
use Rattle.esm_model.specs.Entries.{shards_that_came}
use Rattle.esm_model.specs.Kept.{MayFollowAll, IsLegal}
use Rattle.esm_model.specs.Books.{entries_told, came_with, records_told, stream_told, setting_told, StandWith, stream_may_follow}
use Rattle.esm_model.specs.Valid.{IsValidRecord}
use Rattle.esm_record_bounds.specs.Bounds.{IsStateWithin, AreStatesWithin, AreWithinBounds}

-- records

abbrev IsOfShard : ℕ → Record → Type 0
IsOfShard n r = (r.shard ≡ n) × IsValidRecord r

came_fit : (n : ℕ) (records : List Record) (e : Entry) → StandWith e records → All (IsOfShard n) (came_with n records e)
came_fit n records (Came shard first count moment) covered =
    elim (cases_Bool (shard == n)) [
      | inl is ↦ rw is (λ k d within. (covered.own_shard k d within ∙ eqb-true shard n is, covered.valid k d within))
      | inr fails ↦ rw fails (All-nil (IsOfShard n))
    ]
came_fit n records (Began lane places closing m) none = All-nil (IsOfShard n)
came_fit n records (Ended lane reply m) none = All-nil (IsOfShard n)
came_fit n records (Gave by shard places f line state m) none = All-nil (IsOfShard n)
came_fit n records (Tried lane places closing t m) none = All-nil (IsOfShard n)
came_fit n records (Closed lane w m) none = All-nil (IsOfShard n)
came_fit n records (Replayed shard places m) none = All-nil (IsOfShard n)
came_fit n records (Shut m) none = All-nil (IsOfShard n)

told_fit : (setup : Setup) (n : ℕ) (before history : List Told) → MayFollowAll (stream_may_follow setup) before history → All (IsOfShard n) (records_told n history)
told_fit setup n before [] legal = All-nil (IsOfShard n)
told_fit setup n before (t ∷ history) legal =
    All-append (IsOfShard n) (came_with n t.records t.entry) (records_told n history)
    (came_fit n t.records t.entry legal.0.of_stream.records) (told_fit setup n (before ++ t ∷ []) history legal.1)

pick : (b : Bool) (xs ys : List Record) (i : ℕ) (r : Record) (P : Type 0) → (b ≡ true → slice_get xs i ≡ Some r → P) → (slice_get ys i ≡ Some r → P) → slice_get (cond b xs ys) i ≡ Some r → P
pick true xs ys i r P first second at = first refl at
pick false xs ys i r P first second at = second at

-- a record of a told list is one of the shard's
listed : (history : List Told) (shards : List ℕ) (n i : ℕ) (r : Record) → slice_get (records_in (map (stream_told history) shards) n) i ≡ Some r → slice_get (records_told n history) i ≡ Some r
listed history [] n i r at = absurd (none-some r at)
listed history (k ∷ shards) n i r at =
    pick (k == n) (records_told k history) (records_in (map (stream_told history) shards) n) i r (slice_get (records_told n history) i ≡ Some r)
    (λ is here. subst (λ j. slice_get (records_told j history) i ≡ Some r) (eqb-true k n is) here) (listed history shards n i r) at

record_fit : (P : Record → Type 0) (xs : List Record) (i : ℕ) (r : Record) → All P xs → slice_get xs i ≡ Some r → P r
record_fit P [] i r all at = absurd (none-some r at)
record_fit P (x ∷ xs) zero r all at = subst P (same_Some x r at) (All-head P x xs all)
record_fit P (x ∷ xs) (suc i) r all at = record_fit P xs i r (All-tail P x xs all) at

-- states

found_fit : (states : List FoundState) (n w : ℕ) (text : List ℕ) → AreStatesWithin states → option_map (λ (f : FoundState). f.text) (find (λ (f : FoundState). (f.shard == n) && (f.window == w)) states) ≡ Some text → IsStateWithin w text
found_fit [] n w text all is = absurd (none-some text is)
found_fit (f ∷ states) n w text all is =
    picked ((f.shard == n) && (f.window == w)) (find (λ (g : FoundState). (g.shard == n) && (g.window == w)) states)
    (λ same. eqb-true f.window w (and_parts (f.shard == n) (f.window == w) same).1)
    (All-head (λ (g : FoundState). IsStateWithin g.window g.text) f states all)
    (found_fit states n w text (All-tail (λ (g : FoundState). IsStateWithin g.window g.text) f states all)) is
  where
    picked : (b : Bool) (o : Option FoundState) → (b ≡ true → f.window ≡ w) → IsStateWithin f.window f.text → (option_map (λ (g : FoundState). g.text) o ≡ Some text → IsStateWithin w text) → option_map (λ (g : FoundState). g.text) (cond b (Some f) o) ≡ Some text → IsStateWithin w text
    picked true o same here rest is = subst (λ (xs : List ℕ). IsStateWithin w xs) (same_Some f.text text is) (subst (λ v. IsStateWithin v f.text) (same refl) here)
    picked false o same here rest is = rest is

pub told_within : (setup : Setup) (history : List Told) → AreStatesWithin setup.states → IsLegal (stream_may_follow setup) history → AreWithinBounds (setting_told setup history)
told_within setup history states legal =
    let fit : (n i : ℕ) (r : Record) → slice_get (records_in (map (stream_told history) (shards_that_came (entries_told history))) n) i ≡ Some r → IsOfShard n r =
    λ n i r at. record_fit (IsOfShard n) (records_told n history) i r (told_fit setup n [] history legal) (listed history (shards_that_came (entries_told history)) n i r at) in
    record {
      own_shard = λ n i r at. (fit n i r at).0;
      valid = λ n i r at. (fit n i r at).1;
      states = λ n w text is. found_fit setup.states n w text states is;
    }
