-- What the reader's hand leaves, told of the whole history.
use Rattle.std.proofs.Common.{◌≡◌, ◌⊎◌, ◌<◌, ℕ, Bool, true, false, List, [], ◌++◌, refl, sym, ap, ◌∙◌, subst, Option, Some, None, Result, Ok, Err, IfOk, OnOk, OnErr, Bor, is_some, not, inl, inr}
use Rattle.std.specs.Prelude.{IsSome}
use Rattle.std.specs.Option.{option_copied}
use Rattle.esm_io.specs.Told.{TakesFront}
use Rattle.esm_model.specs.declared.book.Change.{Change}
use Rattle.esm_model.specs.declared.config.Start.{Start}
use Rattle.esm_model.specs.declared.config.Start.TheVariants.{TrimHorizon, Latest, At}
use Rattle.esm_model.specs.declared.memory.OutOfMemory.{OutOfMemory}
use Rattle.esm_model.specs.declared.setup.Setup.{Setup}
use Rattle.esm_model.specs.declared.setup.Told.{Told}
use Rattle.esm_model.specs.Books.{entries_told}
use Rattle.esm_model.specs.Entries.{is_shut}
use Rattle.esm_model.specs.declared.item.Item.{Item}
use Rattle.esm_model.specs.declared.item.LineKind.{LineKind}
use Rattle.esm_model.specs.declared.item.LineKind.TheVariants as kinds
use Rattle.esm_record.specs.Input.{input_so_far}
use Rattle.esm_input.specs.Positions.{from_start}
use Rattle.esm_input.specs.Reading.{InputState, items_read, handed}
use Rattle.esm_input.specs.declared.ending.InputEnd.{InputEnd}
use Rattle.esm_model.specs.Coming.{items_of, StayAsTheyAre, AreSomeCome}
use Rattle.esm_model.specs.GoingOn.{OthersFollow}
use Rattle.esm_workers.specs.Shared.{WasRead}
use Rattle.esm_pool.specs.declared.running.RunEnd.{RunEnd}
use Rattle.esm_pool.specs.declared.running.RunEnd.TheVariants.{Finished, Spent, Down}
use Rattle.esm_pool.specs.Ran.{AllCame, HasLeftOne, EndsSo, CameSo, IsChangeOf, IsCut}
use Rattle.esm_pool.specs.Readings.{HasRead, IsReadInPart, IsUnread}
use Rattle.esm_pool.proofs.Reading.{some_as, come_as, cut_as, change_as, cut_coming, end_none}

not_marked : (b mark : Bool) → (b ≡ true → mark ≡ true) → mark ≡ false → b ≡ false
not_marked true mark marked up = absurd (let yes : mark ≡ true = marked refl in let clash : true ≡ false = sym yes ∙ up in cc)
not_marked false mark marked up = refl

module _ {S : Type 0} (author : Setup → List Told → Told → ℕ) (may : Setup → List Told → Told → Type 0) (items : List Told → ℕ → List Item) (differs : Setup → List Told → List Item → Change → Type 0) (spent : Setup → List Told → Type 0) (setup : Setup)
    (faults : S → ℕ) (left : S → Option (List ℕ)) (before after : InputState S) (h : List Told) (mark : Bool) (told : Option Change) (short : Bool)
    (stay : (h es : List Told) → OthersFollow author may setup 0 h es → StayAsTheyAre (items h) (items (h ++ es)))
    (was : WasRead author may (λ seen marked told was_short. HasRead faults left items differs spent setup before after seen marked told was_short) setup h mark told short) where
  same : (n : ℕ) → items h n ≡ items was.seen n
  same n = ap (λ (l : List Told). items l n) was.whole ∙ stay was.seen was.rest was.others n

  pub read_whole : ((h es : List Told) → OthersFollow author may setup 0 h es → is_shut (entries_told (h ++ es)) ≡ is_shut (entries_told h))
      → ((h es : List Told) → OthersFollow author may setup 0 h es → spent setup h → spent setup (h ++ es)) → short ≡ false → mark ≡ false → AllCame after (items h) h ⊎ IsReadInPart left items spent setup after h
  read_whole still calls long up =
      let shut_so : is_shut (entries_told was.seen) ≡ true → is_shut (entries_told h) ≡ true
      = λ shut. ap (λ (l : List Told). is_shut (entries_told l)) was.whole ∙ (still was.seen was.rest was.others ∙ shut) in
      elim (was.did.whole (was.long long) (not_marked was.seen_mark mark was.marked up)) [
        | inl all ↦ inl (record { items = come_as (items was.seen) (items h) same (handed after) all.items; ended = all.ended; shut = shut_so all.shut })
        | inr part ↦ inr (record {
          calls = subst (λ (l : List Told). spent setup l) (sym was.whole) (calls was.seen was.rest was.others part.calls);
          came = record { items = come_as (items was.seen) (items h) same (handed after) part.came.items; going = part.came.going; untold = part.came.untold; shut = shut_so part.came.shut };
        })
      ]

  pub some_came : short ≡ false → AreSomeCome (items h) (handed after)
  some_came long = some_as (items was.seen) (items h) same (handed after) (was.did.some (was.long long))

  pub change_of : short ≡ false → (change : Change) → told ≡ Some change → IsChangeOf items differs setup h after change
  change_of long change is = change_as items differs setup was.seen h after change (was.rest, sym was.whole) (was.did.changed (was.long long) change is)

  cut_seen : (b : Bool) → was.was_short ≡ b → IsCut left after (items was.seen)
  cut_seen true is = (was.did.cut is).1
  cut_seen false is = cut_coming faults left after (items was.seen) (was.did.read is) (was.did.some is)

  pub cut_of : IsCut left after (items h)
  cut_of = cut_as (items was.seen) (items h) same left after (cut_seen was.was_short refl)

-- whether the input had not ended

pub left_none : {X : Type 0} (o : Option (Bor X)) (e : Option X) (b : Bool) → option_copied o ≡ e → is_some o ≡ not b → b ≡ true → e ≡ None
left_none o e b is known on = end_none o e is (known ∙ ap not on)

pub left_some : {X : Type 0} (o : Option (Bor X)) (e : Option X) (b : Bool) → option_copied o ≡ e → is_some o ≡ not b → b ≡ false → e ≡ None → ⊥
left_some None e b is known off none = absurd (let clash : false ≡ true = known ∙ ap not off in cc)
left_some (Some x) e b is known off none = absurd (let clash : Some x.now ≡ None = is ∙ none in cc)

none_some : (o : Option InputEnd) → o ≡ None → IsSome o → ⊥
none_some None is some = absurd (let clash : false ≡ true = some in cc)
none_some (Some x) is some = absurd (cc)

-- how it ended

pub shut_so : {S : Type 0} (left : S → Option (List ℕ)) (items : List Told → ℕ → List Item) (spent : Setup → List Told → Type 0) (setup : Setup) (i : InputState S) (h : List Told) (mark : Bool)
    → (mark ≡ false → AllCame i (items h) h ⊎ IsReadInPart left items spent setup i h) → mark ≡ false → is_shut (entries_told h) ≡ true
shut_so left items spent setup i h mark read up = elim (read up) [ inl all ↦ all.shut | inr part ↦ part.came.shut ]

module _ {S : Type 0} (left : S → Option (List ℕ)) (items : List Told → ℕ → List Item) (finished some_left : Setup → List Told → ℕ → Type 0) (spent : Setup → List Told → Type 0) (setup : Setup) (i : InputState S) (h : List Told) (mark : Bool) (batchers : ℕ) (left_off : Bool)
    (is_left : left_off ≡ true → i.end ≡ None) (is_whole : left_off ≡ false → i.end ≡ None → ⊥) (read : mark ≡ false → AllCame i (items h) h ⊎ IsReadInPart left items spent setup i h) where
  came_whole : left_off ≡ false → mark ≡ false → AllCame i (items h) h
  came_whole whole up = elim (read up) [ inl all ↦ all | inr part ↦ absurd (is_whole whole part.came.going) ]

  pub came_so : (r : Result RunEnd OutOfMemory) → (r ≡ Ok Finished → (left_off ≡ false) × (mark ≡ false) × ((k : ℕ) → k < batchers → finished setup h k))
      → (r ≡ Ok Spent → (mark ≡ false) × (HasLeftOne some_left setup h batchers ⊎ (left_off ≡ true))) → AreSomeCome (items h) (handed i) → IfOk r (CameSo left i (items h) h)
  came_so (Ok Finished) whole leaves some = came_whole (whole refl).0 (whole refl).1
  came_so (Ok Spent) whole leaves some = elim (read (leaves refl).0) [ inl all ↦ inl all | inr part ↦ inr part.came ]
  came_so (Ok Down) whole leaves some = some
  came_so (Err e) whole leaves some = tt

  pub left_so : (r : Result RunEnd OutOfMemory) → (r ≡ Ok Spent → (mark ≡ false) × (HasLeftOne some_left setup h batchers ⊎ (left_off ≡ true))) → r ≡ Ok Spent → HasLeftOne some_left setup h batchers ⊎ (i.end ≡ None)
  left_so r leaves is = elim (leaves is).1 [ inl one ↦ inl one | inr off ↦ inr (is_left off) ]

  spent_so : ((k : ℕ) → finished setup h k → some_left setup h k → ⊥) → ((k : ℕ) → k < batchers → finished setup h k ⊎ spent setup h) → mark ≡ false → HasLeftOne some_left setup h batchers ⊎ (left_off ≡ true) → spent setup h
  spent_so excludes each up leaves = elim leaves [
    | inl one ↦ elim (each one.0 one.1) [ inl over ↦ absurd (excludes one.0 over one.2) | inr all ↦ all ]
    | inr off ↦ elim (read up) [ inl all ↦ absurd (none_some i.end (is_left off) all.ended) | inr part ↦ part.calls ]
  ]

  pub ends_so : (r : Result RunEnd OutOfMemory) → ((k : ℕ) → finished setup h k → some_left setup h k → ⊥) → (mark ≡ false → (k : ℕ) → k < batchers → finished setup h k ⊎ spent setup h)
      → (r ≡ Ok Finished → (left_off ≡ false) × (mark ≡ false) × ((k : ℕ) → k < batchers → finished setup h k))
      → (r ≡ Ok Spent → (mark ≡ false) × (HasLeftOne some_left setup h batchers ⊎ (left_off ≡ true))) → (r ≡ Ok Down → mark ≡ true) → IfOk r (EndsSo finished spent setup h mark batchers)
  ends_so (Ok Finished) excludes each whole leaves down = ((whole refl).1, (whole refl).2)
  ends_so (Ok Spent) excludes each whole leaves down = ((leaves refl).0, spent_so excludes (each (leaves refl).0) (leaves refl).0 (leaves refl).1)
  ends_so (Ok Down) excludes each whole leaves down = down refl
  ends_so (Err e) excludes each whole leaves down = tt

-- an input of which nothing was read

nothing_read : (start : Start) (kind : LineKind) (factor : ℕ) → from_start start (items_read kind factor false []).items ≡ []
unfolding input_so_far
nothing_read TrimHorizon kinds.Stream factor = refl
nothing_read TrimHorizon (kinds.Queue fifo) factor = refl
nothing_read Latest kinds.Stream factor = refl
nothing_read Latest (kinds.Queue fifo) factor = refl
nothing_read (At moment) kinds.Stream factor = refl
nothing_read (At moment) (kinds.Queue fifo) factor = refl

pub unread : {S : Type 0} (i : InputState S) (kind : LineKind) → i.kind ≡ kind → i ≡ record i { found = i.source; bytes = []; whole = false; end = None; failed = false } → IsUnread kind i
unread {S} i kind kind_is is = record {
  kind_is = kind_is;
  good = ap (λ (j : InputState S). j.failed) is;
  unread = ap (λ (j : InputState S). handed j) is ∙ nothing_read i.start i.kind i.factor;
}

pub cut_unread : {S : Type 0} (left : S → Option (List ℕ)) (i : InputState S) (came : ℕ → List Item) → ((n : ℕ) → came n ≡ []) → i ≡ record i { found = i.source; bytes = []; whole = false; end = None; failed = false } → IsCut left i came
cut_unread {S} left i came none is = record {
  bytes = [];
  more = [];
  whole = false;
  taken = subst (λ (s : S). TakesFront (left s) (left i.source) []) (sym (ap (λ (j : InputState S). j.found) is)) (takes_none (left i.source));
  some = λ n. (
    items_of n (from_start i.start (items_read i.kind i.factor false []).items),
    ap (λ l. l ++ items_of n (from_start i.start (items_read i.kind i.factor false []).items)) (sym (none n)),
  );
}
  where
    takes_none : (o : Option (List ℕ)) → TakesFront o o []
    takes_none None = refl
    takes_none (Some l) = (l, refl, refl)

-- of a result

pub on_ok_always : {A E : Type 0} (r : Result A E) (P : Type 0) → P → OnOk r P
on_ok_always (Ok a) P holds = holds
on_ok_always (Err e) P holds = tt

pub on_err_always : {A E : Type 0} (r : Result A E) (P : Type 0) → P → OnErr r P
on_err_always (Ok a) P holds = tt
on_err_always (Err e) P holds = holds
