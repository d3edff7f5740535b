-- What the reader's call of a book leaves, told of the history: how that goes on, and the items that came.
use Rattle.std.proofs.Common.{◌≡◌, ℕ, ◌≤◌, Bool, List, [], ◌∷◌, ◌++◌, length, drop, refl, sym, ap, ◌∙◌, subst, inl, inr, Option, Some, arith}
use Rattle.std.specs.Prelude.{◌==◌, map, unwrap_or, All, Result, Ok, Err, OnOk}
use Rattle.std.specs.Coded.{Coded}
use Rattle.std.proofs.lemmas.Bool.{cases_Bool}
use Rattle.std.proofs.lemmas.List.{map-append}
use Rattle.std.proofs.lemmas.List.Elements.{All-nil, All-cons, All-head, All-tail}
use Rattle.std.proofs.Math.Seq.{drop-append_seam}
use Rattle.esm_journal.specs.Pair.{PairState, pair_code}
use Rattle.esm_model.specs.Records.{Record}
use Rattle.esm_model.specs.declared.book.CameError.{CameError}
use Rattle.esm_model.specs.declared.book.Change.{Change}
use Rattle.esm_model.specs.declared.setup.Setup.{Setup}
use Rattle.esm_model.specs.declared.setup.Told.{Told}
use Rattle.esm_model.specs.Setup.{no_setup}
use Rattle.esm_model.specs.Setting.{Setting, over}
use Rattle.esm_model.specs.Entries.{is_shut}
use Rattle.esm_model.specs.Kept.{added, IsLegal, MayFollowAll, AllBy}
use Rattle.esm_model.specs.Books.{author, stream_may_follow, setting_told, entries_told, seat_of, records_told}
use Rattle.esm_model.specs.Valid.{IsValidRecord}
use Rattle.esm_model.specs.declared.item.Item.{Item}
use Rattle.esm_model.specs.declared.item.Item.TheVariants.{Stream, Queue}
use Rattle.esm_model.specs.declared.item.LineKind.TheVariants as kinds
use Rattle.esm_model.specs.Items.{IsValidItem}
use Rattle.esm_ingest.specs.Changes.{first_change}
use Rattle.esm_ingest.specs.Coming.{of_shard}
use Rattle.esm_model.specs.Coming.{items_of, Come, SomeCome, StayAsTheyAre}
use Rattle.esm_model.specs.GoingOn.{GoesOn, AllAt}
use Rattle.esm_stream_book.specs.Items.{item_of, items_told, records_in_items, DiffersTold}
use Rattle.esm_stream_core.specs.Calls.{Differs}
use Rattle.esm_stream_core.specs.Told.{told_of}
use Rattle.esm_stream_book.specs.Books.{BookState, setup_of}
use Rattle.esm_stream_book.specs.Keeping.{IsSound, IsSetupOf}
use Rattle.esm_stream_book.proofs.PoolingCame.{AreReaders, IsBrought, come_by, AreAdded, SomeAdded, past_is}
use Rattle.esm_stream_book.proofs.PoolingSteps.{as_kept, may_back, still_told}

-- the reader's entries are those without a lane
readers_own : (setup : Setup) (h es : List Told) → AreReaders es → AllBy (author setup) 0 h es
readers_own setup h [] own = tt
readers_own setup h (t ∷ es) own = (ap (seat_of (setting_told setup h) (entries_told h)) own.0, readers_own setup (h ++ t ∷ []) es own.1)

module _ {D T : Type 0} (code : Coded D) (dest : Coded T) (lines : T → Option (List (List ℕ))) where
  -- the setup over these parts of a book
  abbrev setup_over : Setting → PairState D → T → Setup
  setup_over s found found_dest = record no_setup {
    config = s.config;
    calls = s.calls;
    fates = s.fates;
    tries = s.tries;
    states = s.states;
    window_tries = s.window_tries;
    payloads = found.payloads;
    pair = (pair_code code).code found;
    lines = unwrap_or (lines found_dest) [];
    dest = dest.code found_dest;
  }

  module _ (moment : ℕ) (v w : BookState D T) (brought : IsBrought moment v w) where
    setup_kept : setup_of code dest lines w ≡ setup_of code dest lines v
    setup_kept =
        ap (λ (s : Setting). setup_over s w.found w.found_dest) brought.setting
        ∙ ap (λ (p : PairState D). setup_over (over v.core.setting w.core.setting.streams) p w.found_dest) brought.found
        ∙ ap (λ (d : T). setup_over (over v.core.setting w.core.setting.streams) v.found d) brought.found_dest

    setup_is : IsSetupOf (setup_of code dest lines w) w
    setup_is = record { config = refl; calls = refl; fates = refl; tries = refl; states = refl; window_tries = refl }

    more_is : added (told_of v.core) (told_of w.core) ≡ brought.more
    more_is = ap (drop (length (told_of v.core))) brought.told ∙ drop-append_seam (told_of v.core) brought.more

    pub read_goes_on : ((setup : Setup) → IsSetupOf setup w → IsLegal (stream_may_follow setup) (told_of w.core))
        → GoesOn (as_kept code dest lines) 0 v w
    read_goes_on law =
        let setup : Setup = setup_of code dest lines v in
        let whole : IsLegal (stream_may_follow setup) (told_of v.core ++ brought.more)
        = subst (IsLegal (stream_may_follow setup)) brought.told (subst (λ u. IsLegal (stream_may_follow u) (told_of w.core)) setup_kept (law (setup_of code dest lines w) setup_is)) in
        record {
          setup_is = setup_kept;
          history_is = brought.told ∙ ap (λ (ts : List Told). told_of v.core ++ ts) (sym more_is);
          legal = subst (MayFollowAll (stream_may_follow setup) (told_of v.core)) (sym more_is) (may_back (stream_may_follow setup) [] (told_of v.core) brought.more whole);
          own = subst (AllBy (author setup) 0 (told_of v.core)) (sym more_is) (readers_own setup (told_of v.core) brought.more brought.own);
          marked = brought.down;
          unchanged = λ batcher. absurd (batcher refl);
        }

    pub read_moments : AllAt moment (told_of v.core) (added (told_of v.core) (told_of w.core))
    read_moments = subst (AllAt moment (told_of v.core)) (sym more_is) brought.moments

  -- a change that a record brings, told of the history
  pub differs_told : (v : BookState D T) (list : List Item) (change : Change) → IsSound v → Differs v.core (records_in_items list) change → DiffersTold (setup_of code dest lines v) (told_of v.core) list change
  differs_told v list change sound differs = still_told code dest lines v 0 sound (λ s h. first_change s h (records_in_items list) ≡ Some change) differs

pub read_shut : {D T : Type 0} (v : BookState D T) (b : Bool) → is_shut v.core.past ≡ b → is_shut (entries_told (told_of v.core)) ≡ b
read_shut v b is = ap is_shut (past_is v) ∙ is

pub shut_read : {D T : Type 0} (v : BookState D T) (b : Bool) → is_shut (entries_told (told_of v.core)) ≡ b → is_shut v.core.past ≡ b
shut_read v b is = ap is_shut (sym (past_is v)) ∙ is

-- items and their records

first_valid : (x : Item) (list : List Item) → All (IsValidItem kinds.Stream) (x ∷ list) → IsValidItem kinds.Stream x
first_valid x list valid = All-head (IsValidItem kinds.Stream) x list valid

rest_valid : (x : Item) (list : List Item) → All (IsValidItem kinds.Stream) (x ∷ list) → All (IsValidItem kinds.Stream) list
rest_valid x list valid = All-tail (IsValidItem kinds.Stream) x list valid

pub records_valid : (list : List Item) → All (IsValidItem kinds.Stream) list → All IsValidRecord (records_in_items list)
records_valid [] valid = All-nil IsValidRecord
records_valid (Stream r ∷ list) valid = All-cons IsValidRecord r (records_in_items list) (first_valid (Stream r) list valid) (records_valid list (rest_valid (Stream r) list valid))
records_valid (Queue m ∷ list) valid = absurd (first_valid (Queue m) list valid)

pub records_few : (list : List Item) → length (records_in_items list) ≤ length list
records_few [] = omega arith
records_few (Stream r ∷ list) = (let rest = records_few list in omega (arith, rest))
records_few (Queue m ∷ list) = (let rest = records_few list in omega (arith, rest))

of_shard_items : (n : ℕ) (list : List Item) → All (IsValidItem kinds.Stream) list → map item_of (of_shard n (records_in_items list)) ≡ items_of n list
of_shard_items n [] valid = refl
of_shard_items n (Stream r ∷ list) valid =
    let rest = of_shard_items n list (rest_valid (Stream r) list valid) in
    elim (cases_Bool (r.shard == n)) [
      | inl here ↦ rw here (ap (λ xs. Stream r ∷ xs) rest)
      | inr off ↦ rw off rest
    ]
of_shard_items n (Queue m ∷ list) valid = absurd (first_valid (Queue m) list valid)

come_items : (a b : List Told) (list : List Item) → All (IsValidItem kinds.Stream) list → AreAdded (come_by a) (come_by b) (records_in_items list) → Come (items_told a) (items_told b) list
come_items a b list valid come n =
    ap (map item_of) (come n) ∙ map-append item_of (come_by a n) (of_shard n (records_in_items list)) ∙ ap (λ xs. items_told a n ++ xs) (of_shard_items n list valid)

pub come_if : (a b : List Told) (list : List Item) (r : Result (Unit {0}) CameError) → All (IsValidItem kinds.Stream) list → OnOk r (AreAdded (come_by a) (come_by b) (records_in_items list)) → OnOk r (Come (items_told a) (items_told b) list)
come_if a b list (Ok u) valid come = come_items a b list valid come
come_if a b list (Err e) valid come = tt

pub some_items : (a b : List Told) (list : List Item) → All (IsValidItem kinds.Stream) list → SomeAdded (come_by a) (come_by b) (records_in_items list) → SomeCome (items_told a) (items_told b) list
some_items a b list valid some n =
    let rest : List Record = (some n).0 in (
      map item_of rest,
      ap (λ xs. items_told a n ++ xs) (sym (of_shard_items n list valid)) ∙ sym (map-append item_of (come_by a n) (of_shard n (records_in_items list)))
          ∙ ap (map item_of) (some n).1 ∙ map-append item_of (come_by b n) rest,
    )

-- none of them came
pub none_items : (a : List Told) (list : List Item) → SomeCome (items_told a) (items_told a) list
none_items a list n = (items_of n list, refl)

pub same_items : (a b : List Told) → ((n : ℕ) → records_told n b ≡ records_told n a) → StayAsTheyAre (items_told a) (items_told b)
same_items a b same n = ap (map item_of) (same n)
