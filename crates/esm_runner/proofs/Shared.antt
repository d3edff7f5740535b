-- What a run of a stream's book leaves, from what its threads did over the history that they shared.
use Rattle.std.proofs.Common.{◌≡◌, ◌<◌, ◌≤◌, ◌*◌, ℕ, true, false, List, [], length, refl, sym, ap, ◌∙◌, subst, arith, inl, inr, Result, Ok, Err, Option, Some, None}
use Rattle.std.specs.Prelude.{◌⊎◌, is_err, is_some, min, IfOk, OnOk, OnErr, IsSome}
use Rattle.std.specs.Coded.{Coded}
use Rattle.std.proofs.lemmas.List.{append-nil}
use Rattle.esm_io.specs.Told.{TakesFront}
use Rattle.esm_model.specs.declared.book.Change.{Change}
use Rattle.esm_model.specs.declared.book.Trouble.{Trouble}
use Rattle.esm_model.specs.declared.book.Trouble.TheVariants.{Disk, Dest, Changed}
use Rattle.esm_model.specs.declared.config.Config.{Config}
use Rattle.esm_model.specs.Records.{Record}
use Rattle.esm_model.specs.declared.memory.OutOfMemory.{OutOfMemory}
use Rattle.esm_model.specs.declared.entry.Entry.{Entry}
use Rattle.esm_model.specs.declared.setup.Setup.{Setup}
use Rattle.esm_model.specs.Kept.{change_of}
use Rattle.esm_model.specs.Setting.{Setting, over, records_of}
use Rattle.esm_model.specs.Books.{entries_told, setting_told}
use Rattle.esm_model.specs.Entries.{came_count, is_shut, calls_begun, shards_that_came}
use Rattle.esm_model.specs.Valid.{IsStreamConfig}
use Rattle.esm_ledger.proofs.Fitting.{begun_within}
use Rattle.esm_input.specs.Limits.{shards_in}
use Rattle.esm_input.specs.Positions.{from_start}
use Rattle.esm_input.specs.Reading.{InputState, IsInput, items_read, handed}
use Rattle.esm_input.specs.Within.{HandedWithin}
use Rattle.esm_model.specs.GoingOn.{AllGiven}
use Rattle.esm_workers.specs.Working.{Outside}
use Rattle.esm_workers.specs.Shared.{HaveCalled}
use Rattle.esm_pool.specs.declared.running.RunEnd.{RunEnd}
use Rattle.esm_pool.specs.declared.running.RunEnd.TheVariants as ends
use Rattle.esm_pool.specs.Ran as pool
use Rattle.esm_stream_book.specs.Batchers.{calls_told, Rests, RunsJob}
use Rattle.esm_stream_core.specs.Quiet.{IsQuiet, IsWanting}
use Rattle.esm_stream_book.specs.Finishing.{HasFinished, HasLeft, AreSpent}
use Rattle.esm_stream_book.specs.Items.{items_told, records_in_items, DiffersTold}
use Rattle.esm_stream_core.specs.Told.{told_of}
use Rattle.esm_stream_book.specs.Books.{BookState, setup_of, is_down}
use Rattle.esm_stream_book.specs.Keeping.{IsSound}
use Rattle.esm_stream_book.specs.Moments.{IsTimedView}
use Rattle.esm_runner.specs.Coming.{SomeCame, HaveCome, AllCame}
use Rattle.esm_runner.specs.Ran.{HasRun, HasStopped, EndsSo, CameSo, IsDownFor, IsUnfinished, IsOfRecord, IsFirstChange, IsCutInput}
use Rattle.esm_runner.proofs.Setups.{setting_of_setup, found_of_setup, found_dest_of_setup, setting_is}
use Rattle.esm_runner.proofs.Bridges.{past_is, moments_are, none_runs, calls_made, calls_logged}
use Rattle.esm_runner.proofs.Configs.{factor_some, one_lane, lanes_within}
use Rattle.esm_runner.proofs.Lanes.{AllQuiet, few_shards, all_fated, none_outstanding, is_wanting}
use Rattle.esm_runner.proofs.Items.{all_came, some_came, some_of_all, change_is}
use Rattle.esm_runner.proofs.FirstChange.{first_is, legal_own}
use Rattle.esm_runner.proofs.Records.{came_all}

-- what a run of any book says of a stream's: it went from v to w, the input to j, and the callers from the ones to the others
pub record BookRan {S D T F : Type 0} (code : Coded D) (dest : Coded T) (lines : T → Option (List (List ℕ))) (o : Outside F) (faults : S → ℕ) (left : S → Option (List ℕ)) (v w : BookState D T) (j : InputState S) (batchers : ℕ) (old new : List F) (r : Result RunEnd OutOfMemory) : Type 0 where
  pub setup_is : setup_of code dest lines w ≡ setup_of code dest lines v
  pub moments : AllGiven o.gave [] (told_of w.core)
  pub timed : IsTimedView o.gave w.core
  pub called : HaveCalled calls_told Rests RunsJob o (setup_of code dest lines v) (told_of w.core) (is_err r) batchers old new
  pub ended : IfOk r (pool.EndsSo HasFinished AreSpent (setup_of code dest lines v) (told_of w.core) (is_down w) batchers)
  pub left_one : r ≡ Ok ends.Spent → pool.HasLeftOne HasLeft (setup_of code dest lines v) (told_of w.core) batchers ⊎ (j.end ≡ None)
  pub came : IfOk r (pool.CameSo left j (items_told (told_of w.core)) (told_of w.core))
  pub changed : OnOk r ((change : Change) → change_of w.trouble ≡ Some change → pool.IsChangeOf items_told DiffersTold (setup_of code dest lines v) (told_of w.core) j change)
  pub read : OnOk r (IsInput faults left j)
  pub good : OnOk r (j.failed ≡ false)
  pub cut : OnErr r (pool.IsCut left j (items_told (told_of w.core)))

-- how the book stands

pub no_trouble : (t : Option Trouble) → is_some t ≡ false → t ≡ None
no_trouble None up = refl
no_trouble (Some x) up = absurd (cc)

-- what came

all_so : {S D T : Type 0} (w : BookState D T) (j : InputState S) → IsSound w → pool.AllCame j (items_told (told_of w.core)) (told_of w.core) → AllCame w (records_in_items (handed j)) × IsSome j.end
all_so w j sound all = (record { came = all_came w (handed j) sound all.items; shut = ap is_shut (sym (past_is w)) ∙ all.shut }, all.ended)

-- all that were handed out came, also where the input had not ended
left_so : {S D T : Type 0} (left : S → Option (List ℕ)) (w : BookState D T) (j : InputState S) → IsSound w → pool.AllCame j (items_told (told_of w.core)) (told_of w.core) ⊎ pool.IsLeftOff left j (items_told (told_of w.core)) (told_of w.core)
    → AllCame w (records_in_items (handed j))
left_so left w j sound (inl all) = (all_so w j sound all).0
left_so left w j sound (inr off) = record { came = all_came w (handed j) sound off.items; shut = ap is_shut (sym (past_is w)) ∙ off.shut }

down_for : (s : Setting) (records : List Record) (t : Option Trouble) → ((change : Change) → change_of t ≡ Some change → IsOfRecord records change × IsFirstChange s records change) → IsDownFor s records t
down_for s records None changed = tt
down_for s records (Some Disk) changed = tt
down_for s records (Some Dest) changed = tt
down_for s records (Some (Changed change)) changed = changed change refl

come_so : {S D T : Type 0} (left : S → Option (List ℕ)) (setup : Setup) (w : BookState D T) (j : InputState S) (e : RunEnd) → IsSound w → setting_told setup (told_of w.core) ≡ w.core.setting
    → ((change : Change) → change_of w.trouble ≡ Some change → pool.IsChangeOf items_told DiffersTold setup (told_of w.core) j change) → pool.CameSo left j (items_told (told_of w.core)) (told_of w.core) e → CameSo j w e
come_so left setup w j ends.Finished sound is changed came = all_so w j sound came
come_so left setup w j ends.Spent sound is changed came = left_so left w j sound came
come_so left setup w j ends.Down sound is changed came =
    let some = some_came w (handed j) sound came in (
      some,
      down_for w.core.setting (records_in_items (handed j)) w.trouble (λ change told. (
        change_is setup (told_of w.core) j change sound.of_stream (changed change told),
        first_is setup w j change sound is some (changed change told),
      )),
    )

-- the first of what was handed out came
some_so : {S D T : Type 0} (left : S → Option (List ℕ)) (w : BookState D T) (j : InputState S) (e : RunEnd) → IsSound w → pool.CameSo left j (items_told (told_of w.core)) (told_of w.core) e → SomeCame w (records_in_items (handed j))
some_so left w j ends.Finished sound came = some_of_all w (records_in_items (handed j)) (all_came w (handed j) sound came.items)
some_so left w j ends.Spent sound came = some_of_all w (records_in_items (handed j)) (left_so left w j sound came).came
some_so left w j ends.Down sound came = some_came w (handed j) sound came

cut_so : {S D T : Type 0} (faults : S → ℕ) (left : S → Option (List ℕ)) (w : BookState D T) (j : InputState S) (r : Result RunEnd OutOfMemory) → IsSound w → IfOk r (pool.CameSo left j (items_told (told_of w.core)) (told_of w.core)) → OnOk r (IsInput faults left j)
    → OnErr r (pool.IsCut left j (items_told (told_of w.core))) → IsCutInput left j w
cut_so faults left w j (Ok e) sound came read cut = record {
  bytes = j.bytes;
  more = [];
  whole = j.whole;
  taken = subst (TakesFront (left j.found) (left j.source)) (sym (append-nil j.bytes)) read.taken;
  came = some_so left w j e sound came;
}
cut_so faults left w j (Err x) sound came read cut = record {
  bytes = cut.bytes;
  more = cut.more;
  whole = cut.whole;
  taken = cut.taken;
  came = some_came w (from_start j.start (items_read j.kind j.factor cut.whole cut.bytes).items) sound cut.some;
}

-- how it ended

-- of the book what is told of it
onto_book : {D T : Type 0} (setup : Setup) (w : BookState D T) (P : Setting → List Entry → Type 0) → setting_told setup (told_of w.core) ≡ w.core.setting → P (setting_told setup (told_of w.core)) (entries_told (told_of w.core)) → P w.core.setting w.core.past
onto_book setup w P is at = subst (λ (h : List Entry). P w.core.setting h) (past_is w) (subst (λ (s : Setting). P s (entries_told (told_of w.core))) is at)

ends_finished : {S D T : Type 0} (left : S → Option (List ℕ)) (setup : Setup) (w : BookState D T) (j : InputState S) (batchers : ℕ) → HandedWithin → IsStreamConfig w.core.setting.config → batchers ≡ min (16 * w.core.setting.config.factor) 64 → j.factor ≡ w.core.setting.config.factor
    → IsSound w → setting_told setup (told_of w.core) ≡ w.core.setting → HaveCome w (records_in_items (handed j)) → w.trouble ≡ None → ((k : ℕ) → k < batchers → HasFinished setup (told_of w.core) k) → EndsSo left j w ends.Finished
ends_finished left setup w j batchers within config number factor sound is come up finished =
    let s = w.core.setting in
    let h = w.core.past in
    let some : 0 < s.config.factor = factor_some s.config config in
    let count : (n : ℕ) → came_count h n ≡ length (records_of s n) = came_all w.core sound.records sound.of_stream in
    let fits = within j.kind j.factor j.start j.whole j.bytes (handed j) [] (sym (append-nil (handed j))) in
    let lanes : length (shards_in (handed j)) * s.config.factor ≤ 64 = subst (λ f. length (shards_in (handed j)) * f ≤ 64) factor fits.lanes in
    let shards : length (shards_that_came h) ≤ length (shards_in (handed j)) = few_shards s h (handed j) (legal_own w sound) (λ n. count n ∙ ap (λ (rs : List Record). length rs) (come n)) in
    let few : length (shards_that_came h) * s.config.factor ≤ batchers = lanes_within (length (shards_that_came h)) (length (shards_in (handed j))) s.config.factor batchers number shards fits.shards lanes in
    let quiet : AllQuiet s h batchers = λ k low. onto_book setup w (λ t l. IsQuiet t l k) is (finished k low).quiet in
    (up, all_fated s h batchers quiet some few count, none_outstanding s h batchers quiet some (one_lane s.config config) few)

-- the reading ended and something is left for a batcher, or the input had not ended
unfinished : {S D T : Type 0} (left : S → Option (List ℕ)) (setup : Setup) (w : BookState D T) (j : InputState S) (batchers : ℕ) → setting_told setup (told_of w.core) ≡ w.core.setting
    → pool.AllCame j (items_told (told_of w.core)) (told_of w.core) ⊎ pool.IsLeftOff left j (items_told (told_of w.core)) (told_of w.core)
    → pool.HasLeftOne HasLeft setup (told_of w.core) batchers ⊎ (j.end ≡ None) → IsUnfinished w.core.setting w.core.past j.end (left j.source)
unfinished left setup w j batchers is (inl all) (inl one) = inl (all.ended, is_wanting w.core.setting w.core.past one.0 (onto_book setup w (λ t l. IsWanting t l one.0) is one.2))
unfinished left setup w j batchers is (inl all) (inr going) = absurd (let ended = all.ended in let none = going in cc)
unfinished left setup w j batchers is (inr off) one = inr (off.going, off.untold)

ends_spent : {S D T : Type 0} (left : S → Option (List ℕ)) (setup : Setup) (w : BookState D T) (j : InputState S) (batchers : ℕ) → IsSound w → setting_told setup (told_of w.core) ≡ w.core.setting → w.trouble ≡ None → AreSpent setup (told_of w.core)
    → pool.AllCame j (items_told (told_of w.core)) (told_of w.core) ⊎ pool.IsLeftOff left j (items_told (told_of w.core)) (told_of w.core)
    → pool.HasLeftOne HasLeft setup (told_of w.core) batchers ⊎ (j.end ≡ None) → EndsSo left j w ends.Spent
ends_spent left setup w j batchers sound is up spent came one =
    let s = w.core.setting in
    let h = w.core.past in
    let most : calls_begun h ≤ s.calls = begun_within s h (legal_own w sound) in
    let all : s.calls ≤ calls_begun h = onto_book setup w (λ t l. t.calls ≤ calls_begun l) is spent in
    let same : calls_begun h ≡ s.calls = omega (arith, most, all) in
    (up, same, unfinished left setup w j batchers is came one)

some_trouble : (t : Option Trouble) → is_some t ≡ true → IsSome t
some_trouble t down = down

end_so : {S D T : Type 0} (left : S → Option (List ℕ)) (setup : Setup) (w : BookState D T) (j : InputState S) (batchers : ℕ) (e : RunEnd) → HandedWithin → IsStreamConfig w.core.setting.config → batchers ≡ min (16 * w.core.setting.config.factor) 64
    → j.factor ≡ w.core.setting.config.factor → IsSound w → setting_told setup (told_of w.core) ≡ w.core.setting → pool.CameSo left j (items_told (told_of w.core)) (told_of w.core) e
    → pool.EndsSo HasFinished AreSpent setup (told_of w.core) (is_down w) batchers e → (e ≡ ends.Spent → pool.HasLeftOne HasLeft setup (told_of w.core) batchers ⊎ (j.end ≡ None)) → EndsSo left j w e
end_so left setup w j batchers ends.Finished within config number factor sound is came ended one =
    ends_finished left setup w j batchers within config number factor sound is (all_came w (handed j) sound came.items) (no_trouble w.trouble ended.0) ended.1
end_so left setup w j batchers ends.Spent within config number factor sound is came ended one = ends_spent left setup w j batchers sound is (no_trouble w.trouble ended.0) ended.1 came (one refl)
end_so left setup w j batchers ends.Down within config number factor sound is came ended one = some_trouble w.trouble ended

-- the whole

module _ {S D T F : Type 0} (code : Coded D) (dest : Coded T) (lines : T → Option (List (List ℕ))) (o : Outside F) (faults : S → ℕ) (left : S → Option (List ℕ)) (v w : BookState D T) (j : InputState S) (batchers : ℕ) (old new : List F) (r : Result RunEnd OutOfMemory)
    (sound : IsSound w) (did : BookRan code dest lines o faults left v w j batchers old new r) where
  setting_so : setting_told (setup_of code dest lines v) (told_of w.core) ≡ w.core.setting
  setting_so = setting_is code dest lines v w did.setup_is sound

  opened_so : w.core.setting ≡ over v.core.setting w.core.setting.streams
  opened_so = setting_of_setup code dest lines v w did.setup_is

  pub ran_so : (e : RunEnd) → r ≡ Ok e → HasRun o v w old new
  ran_so e is =
      let long : is_err r ≡ false = ap (λ (x : Result RunEnd OutOfMemory). is_err x) is in
      record {
        opened = opened_so;
        found = found_of_setup code dest lines v w did.setup_is;
        found_dest = found_dest_of_setup code dest lines v w did.setup_is;
        moments = moments_are o.gave w did.moments;
        timed = did.timed;
        rests = none_runs (setup_of code dest lines v) w (did.called.rest long);
        as_many = did.called.as_many;
        calls_made = calls_made o (setup_of code dest lines v) w (is_err r) batchers old new setting_so did.called long;
      }

  pub stopped_so : HasStopped o v w old new
  stopped_so = record {
    opened = opened_so;
    found = found_of_setup code dest lines v w did.setup_is;
    found_dest = found_dest_of_setup code dest lines v w did.setup_is;
    moments = moments_are o.gave w did.moments;
    timed = did.timed;
    as_many = did.called.as_many;
    calls_made = calls_logged o (setup_of code dest lines v) w (is_err r) batchers old new setting_so did.called;
  }

  came_told : (e : RunEnd) → r ≡ Ok e → pool.CameSo left j (items_told (told_of w.core)) (told_of w.core) e
  came_told e is = subst (λ (x : Result RunEnd OutOfMemory). IfOk x (pool.CameSo left j (items_told (told_of w.core)) (told_of w.core))) is did.came

  pub came_so : (e : RunEnd) → r ≡ Ok e → CameSo j w e
  came_so e is =
      come_so left (setup_of code dest lines v) w j e sound setting_so
      (subst (λ (x : Result RunEnd OutOfMemory). OnOk x ((change : Change) → change_of w.trouble ≡ Some change → pool.IsChangeOf items_told DiffersTold (setup_of code dest lines v) (told_of w.core) j change)) is did.changed)
      (came_told e is)

  pub ended_so : (e : RunEnd) → HandedWithin → IsStreamConfig v.core.setting.config → batchers ≡ min (16 * v.core.setting.config.factor) 64 → j.factor ≡ v.core.setting.config.factor → r ≡ Ok e → EndsSo left j w e
  ended_so e within config number factor is =
      let same : w.core.setting.config ≡ v.core.setting.config = ap (λ (s : Setting). s.config) opened_so in
      end_so left (setup_of code dest lines v) w j batchers e within (subst (λ (c : Config). IsStreamConfig c) (sym same) config) (subst (λ (c : Config). batchers ≡ min (16 * c.factor) 64) (sym same) number) (subst (λ (c : Config). j.factor ≡ c.factor) (sym same) factor)
      sound setting_so (came_told e is)
      (subst (λ (x : Result RunEnd OutOfMemory). IfOk x (pool.EndsSo HasFinished AreSpent (setup_of code dest lines v) (told_of w.core) (is_down w) batchers)) is did.ended)
      (λ (spent : e ≡ ends.Spent). did.left_one (is ∙ ap (λ (x : RunEnd). Ok x) spent))

  pub cut_came : IsCutInput left j w
  cut_came = cut_so faults left w j r sound did.came did.read did.cut

-- of an end

pub if_ran : (P : RunEnd → Type 0) (r : Result RunEnd OutOfMemory) → ((e : RunEnd) → r ≡ Ok e → P e) → IfOk r P
if_ran P (Ok e) then = then e refl
if_ran P (Err x) then = tt

pub on_ran : (P : Type 0) (r : Result RunEnd OutOfMemory) → ((e : RunEnd) → r ≡ Ok e → P) → OnOk r P
on_ran P (Ok e) then = then e refl
on_ran P (Err x) then = tt
