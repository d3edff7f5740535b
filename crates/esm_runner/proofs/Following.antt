-- Calls that began after the input's end, in a history that threads shared.
use Rattle.std.proofs.Common.{◌≡◌, ℕ, suc, ◌+◌, true, List, [], ◌∷◌, ◌++◌, sym, subst, append_assoc, arith}
use Rattle.std.proofs.lemmas.List.{append-nil}
use Rattle.esm_model.specs.declared.entry.Entry.{Entry}
use Rattle.esm_model.specs.declared.entry.Entry.TheVariants.{Came, Began, Ended, Gave, Tried, Closed, Replayed, Shut}
use Rattle.esm_model.specs.declared.setup.Setup.{Setup}
use Rattle.esm_model.specs.declared.setup.Told.{Told}
use Rattle.esm_model.specs.Setting.{Setting}
use Rattle.esm_model.specs.Entries.{is_beginning, batcher, CallsFollowShut}
use Rattle.esm_model.specs.Books.{entries_told, setting_told, lane_of_entry, seat_of, author}
use Rattle.esm_model.proofs.TellingFacts.{entries_more}
use Rattle.esm_model.specs.GoingOn.{OwnFollowShut}
use Rattle.esm_stream_core.specs.Told.{told_of}
use Rattle.esm_stream_book.specs.Books.{BookState}
use Rattle.esm_runner.proofs.Bridges.{past_is}

-- batchers alone begin calls, and each entry of a batcher comes after the input's end
module _ (by : List Told → Told → ℕ) (begins : (h : List Told) (t : Told) → is_beginning t.entry ≡ true → (k : ℕ) × (by h t ≡ k + 1)) where
  pub follow_shut : (h es : List Told) → CallsFollowShut (entries_told h) → ((k : ℕ) → OwnFollowShut by (k + 1) h es) → CallsFollowShut (entries_told (h ++ es))
  follow_shut h [] before own = subst (λ l. CallsFollowShut (entries_told l)) (sym (append-nil h)) before
  follow_shut h (t ∷ es) before own =
      let here : CallsFollowShut (entries_told (h ++ t ∷ []))
      = subst CallsFollowShut (sym (entries_more h t)) ((λ is. (own (begins h t is).0).0 (begins h t is).1), before) in
      subst (λ l. CallsFollowShut (entries_told l)) (append_assoc h (t ∷ []) es) (follow_shut (h ++ t ∷ []) es here (λ k. (own k).1))

begun_by : (s : Setting) (h : List Entry) (e : Entry) → is_beginning e ≡ true → (k : ℕ) × (seat_of s h (lane_of_entry e) ≡ k + 1)
begun_by s h (Came shard first count m) is = absurd (cc)
begun_by s h (Began lane places closing m) is =
    let k : ℕ = batcher s h lane in
    let next : suc k ≡ k + 1 = omega arith in
    (k, next)
begun_by s h (Ended lane reply m) is = absurd (cc)
begun_by s h (Gave by shard places f line state m) is = absurd (cc)
begun_by s h (Tried lane places closing tries m) is = absurd (cc)
begun_by s h (Closed lane w m) is = absurd (cc)
begun_by s h (Replayed shard places m) is = absurd (cc)
begun_by s h (Shut m) is = absurd (cc)

pub left_follow : {D T : Type 0} (setup : Setup) (v : BookState D T) → ((k : ℕ) → OwnFollowShut (author setup) (k + 1) [] (told_of v.core)) → CallsFollowShut v.core.past
left_follow setup v own =
    subst CallsFollowShut (past_is v) (follow_shut (author setup) (λ h t. begun_by (setting_told setup h) (entries_told h) t.entry) [] (told_of v.core) tt own)
