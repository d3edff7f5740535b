-- A book to which a batcher added entries of its own: how its history goes on, and what the batcher knows of it then.
use Rattle.std.proofs.Common.{◌≡◌, ℕ, ◌+◌, ◌≤◌, true, List, [], ◌∷◌, ◌++◌, length, drop, reverse, refl, sym, ap, ap₂, ◌∙◌, subst, Option, Some, append_assoc, append-nil}
use Rattle.std.specs.Prelude.{max, is_some}
use Rattle.std.specs.Coded.{Coded}
use Rattle.std.proofs.Math.Seq.{drop-append_seam}
use Rattle.esm_io.specs.Meanings.{DiskMeaning, DestMeaning}
use Rattle.esm_journal.specs.Pair.{PairState}
use Rattle.esm_model.specs.declared.book.Job.{Job}
use Rattle.esm_model.specs.declared.book.Trouble.{Trouble}
use Rattle.esm_model.specs.declared.setup.Setup.{Setup}
use Rattle.esm_model.specs.declared.setup.Told.{Told}
use Rattle.esm_model.specs.declared.entry.Entry.{Entry}
use Rattle.esm_model.specs.Setting.{Setting, Stream, over}
use Rattle.esm_model.specs.Moment.{capped_moment}
use Rattle.esm_model.specs.Entries.{last_moment, came_count, is_running, batcher, last_call, batch_of, shards_that_came}
use Rattle.esm_model.specs.Calls.{calls, last_event}
use Rattle.esm_model.specs.Kept.{Meaning, change_of, added, IsLegal, MayFollowAll, AllBy}
use Rattle.esm_model.specs.Books.{entries_told, streams_told, setting_told, author, stream_may_follow}
use Rattle.esm_model.specs.GoingOn.{GoesOn, AllAt}
use Rattle.esm_stream_book.specs.Batchers.{calls_told, Rests, RunsJob}
use Rattle.esm_stream_book.proofs.OneMore.{AllRest}
use Rattle.esm_stream_core.specs.CoreView.{full_setting}
use Rattle.esm_stream_core.specs.Calls.{moment_for}
use Rattle.esm_stream_core.specs.Told.{told_entries, told_of}
use Rattle.esm_stream_book.specs.Books.{BookState, setup_of, is_down}
use Rattle.esm_stream_book.specs.Calls.{AddedAll, AddedSome, AddedOne, IsSame}
use Rattle.esm_stream_book.specs.Keeping.{IsSound, IsSetupOf}
use Rattle.esm_stream_book.proofs.Records.{entries_same}
use Rattle.esm_stream_book.proofs.PoolingChanges.{none_while_up, none_by_fault}
use Rattle.esm_stream_book.proofs.PoolingEntries.{AreOwn, all_own, all_at, streams_own}

-- a book, as a value that has a history
abbrev pub as_kept : {D T : Type 0} → Coded D → Coded T → (T → Option (List (List ℕ))) → Meaning (BookState D T)
as_kept code dest_code lines = record {
  setup = λ b. setup_of code dest_code lines b;
  history = λ b. told_of b.core;
  mark = λ b. is_down b;
  change = λ b. change_of b.trouble;
  author = author;
  may_follow = stream_may_follow;
}

-- the batcher's own entries were added, no records came, and the book was told no change
pub record HasAdded {D T : Type 0} (old new : BookState D T) (k m : ℕ) (es : List Entry) : Type 0 where
  pub setting : new.core.setting ≡ old.core.setting
  pub past : new.core.past ≡ reverse es ++ old.core.past
  pub told : told_of new.core ≡ told_of old.core ++ told_entries old.core.setting es
  pub found : new.found ≡ old.found
  pub found_dest : new.found_dest ≡ old.found_dest
  pub marked : is_down old ≡ true → is_down new ≡ true
  pub unchanged : change_of new.trouble ≡ change_of old.trouble
  pub own : AreOwn old.core.setting old.core.past k m es

-- what was added by a call, as far as it came

down_by : {D T : Type 0} (old new : BookState D T) (trouble : Trouble) → new.trouble ≡ Some trouble → is_down old ≡ true → is_down new ≡ true
down_by old new trouble is was = ap is_some is

pub added_all : {D T : Type 0} (d : DiskMeaning D) (n : DestMeaning T) (old new : BookState D T) (k m : ℕ) (es : List Entry) → AddedAll d n old.core.setting old new es → (is_down old ≡ true → ⊥) → AreOwn old.core.setting old.core.past k m es → HasAdded old new k m es
added_all d n old new k m es all up own = record {
  setting = all.setting;
  past = all.added.past;
  told = all.added.told;
  found = all.added.found;
  found_dest = all.added.found_dest;
  marked = λ was. absurd (up was);
  unchanged = ap change_of all.trouble ∙ sym (none_while_up old.trouble up);
  own = own;
}

pub added_some : {D T : Type 0} (d : DiskMeaning D) (n : DestMeaning T) (old new : BookState D T) (k m : ℕ) (es : List Entry) (trouble : Trouble) (some : AddedSome d n old.core.setting old new es trouble) → (is_down old ≡ true → ⊥) → IsSound old → IsSound new
    → AreOwn old.core.setting old.core.past k m some.front → HasAdded old new k m some.front
added_some d n old new k m es trouble some up before after own =
    let s = old.core.setting in
    let streams : new.core.setting.streams ≡ s.streams =
    after.records ∙ ap streams_told some.added.told ∙ streams_own s s old.core.past k m (told_of old.core) some.front own ∙ sym before.records in
    record {
      setting = some.added.opened ∙ ap (λ (ts : List Stream). over s ts) streams;
      past = some.added.past;
      told = some.added.told;
      found = some.added.found;
      found_dest = some.added.found_dest;
      marked = down_by old new trouble some.trouble_is;
      unchanged = ap change_of some.trouble_is ∙ none_by_fault trouble old.core.setting some.rest some.writing ∙ sym (none_while_up old.trouble up);
      own = own;
    }

pub added_one : {D T : Type 0} (old new : BookState D T) (k m : ℕ) (e : Entry) → AddedOne old new e → AreOwn old.core.setting old.core.past k m (e ∷ []) → HasAdded old new k m (e ∷ [])
added_one {D} {T} old new k m e one own = record {
  setting = one.setting;
  past = one.past;
  told = one.told;
  found = ap (λ (b : BookState D T). b.found) one.rest;
  found_dest = ap (λ (b : BookState D T). b.found_dest) one.rest;
  marked = λ was. ap (λ (b : BookState D T). is_down b) one.rest ∙ was;
  unchanged = ap (λ (b : BookState D T). change_of b.trouble) one.rest;
  own = own;
}

pub added_none : {D T : Type 0} (old : BookState D T) (k m : ℕ) → HasAdded old old k m []
added_none old k m = record {
  setting = refl;
  past = refl;
  told = sym (append-nil (told_of old.core));
  found = refl;
  found_dest = refl;
  marked = λ was. was;
  unchanged = refl;
  own = tt;
}

pub added_same : {D T : Type 0} (n : DestMeaning T) (old new : BookState D T) (k m : ℕ) → IsSame n old new → HasAdded old new k m []
added_same {D} {T} n old new k m same = record {
  setting = ap (λ (b : BookState D T). b.core.setting) same.rest;
  past = ap (λ (b : BookState D T). b.core.past) same.rest;
  told = ap (λ (b : BookState D T). told_of b.core) same.rest ∙ sym (append-nil (told_of old.core));
  found = ap (λ (b : BookState D T). b.found) same.rest;
  found_dest = ap (λ (b : BookState D T). b.found_dest) same.rest;
  marked = λ was. ap (λ (b : BookState D T). is_down b) same.rest ∙ was;
  unchanged = ap (λ (b : BookState D T). change_of b.trouble) same.rest;
  own = tt;
}

-- what the batcher knows, over a setting and entries

pub record RunsOver (s : Setting) (h : List Entry) (k : ℕ) (job : Job) : Type 0 where
  pub served : batcher s h job.lane ≡ k
  pub came : 1 ≤ came_count h job.lane.shard
  pub running : is_running h job.lane ≡ true
  pub places : job.places ≡ batch_of (last_call h job.lane)
  pub event : job.event ≡ last_event s h job.lane

runs_so : (setup : Setup) (history : List Told) (k : ℕ) (job : Job) → RunsOver (setting_told setup history) (entries_told history) k job → RunsJob setup history k job
runs_so setup history k job runs = record { served = runs.served; came = runs.came; running = runs.running; places = runs.places; event = runs.event }

so_runs : (setup : Setup) (history : List Told) (k : ℕ) (job : Job) → RunsJob setup history k job → RunsOver (setting_told setup history) (entries_told history) k job
so_runs setup history k job runs = record { served = runs.served; came = runs.came; running = runs.running; places = runs.places; event = runs.event }

pub may_back : (may : List Told → Told → Type 0) (h xs ys : List Told) → MayFollowAll may h (xs ++ ys) → MayFollowAll may (h ++ xs) ys
may_back may h [] ys all = subst (λ g. MayFollowAll may g ys) (sym (append-nil h)) all
may_back may h (x ∷ xs) ys all = subst (λ g. MayFollowAll may g ys) (append_assoc h (x ∷ []) xs) (may_back may (h ++ x ∷ []) xs ys all.1)

module _ {D T : Type 0} (code : Coded D) (dest_code : Coded T) (lines : T → Option (List (List ℕ))) where
  abbrev setup_at : BookState D T → Setup
  setup_at b = setup_of code dest_code lines b

  setup_same : (old new : BookState D T) (k m : ℕ) (es : List Entry) → HasAdded old new k m es → setup_at new ≡ setup_at old
  setup_same old new k m es g =
      ap (λ (s : Setting). setup_at (record new { core = record new.core { setting = s } })) g.setting
      ∙ ap (λ (f : PairState D). setup_at (record old { found = f; found_dest = new.found_dest })) g.found
      ∙ ap (λ (f : T). setup_at (record old { found_dest = f })) g.found_dest

  module _ (old new : BookState D T) (k m : ℕ) (es : List Entry) (g : HasAdded old new k m es) where
    abbrev more : List Told
    more = told_entries old.core.setting es

    added_is : added (told_of old.core) (told_of new.core) ≡ more
    added_is = ap (drop (length (told_of old.core))) g.told ∙ drop-append_seam (told_of old.core) more

    entries_before : entries_told (told_of old.core) ≡ old.core.past
    entries_before = entries_same (full_setting old.core) old.core.past

    pub goes_on : ((setup : Setup) → IsSetupOf setup new → IsLegal (stream_may_follow setup) (told_of new.core))
        → GoesOn (as_kept code dest_code lines) (k + 1) old new
    goes_on law =
        let setup = setup_at old in
        let is : IsSetupOf setup new = record {
          config = ap (λ (s : Setting). s.config) (sym g.setting);
          calls = ap (λ (s : Setting). s.calls) (sym g.setting);
          fates = ap (λ (s : Setting). s.fates) (sym g.setting);
          tries = ap (λ (s : Setting). s.tries) (sym g.setting);
          states = ap (λ (s : Setting). s.states) (sym g.setting);
          window_tries = ap (λ (s : Setting). s.window_tries) (sym g.setting);
        } in
        let whole : IsLegal (stream_may_follow setup) (told_of old.core ++ more) = subst (IsLegal (stream_may_follow setup)) g.told (law setup is) in
        record {
          setup_is = setup_same old new k m es g;
          history_is = g.told ∙ ap (λ (ts : List Told). told_of old.core ++ ts) (sym added_is);
          legal = subst (MayFollowAll (stream_may_follow setup) (told_of old.core)) (sym added_is) (may_back (stream_may_follow setup) [] (told_of old.core) more whole);
          own = subst (AllBy (author setup) (k + 1) (told_of old.core)) (sym added_is)
              (all_own setup old.core.setting old.core.setting old.core.past k m (told_of old.core) es refl (ap shards_that_came entries_before) g.own);
          marked = g.marked;
          unchanged = λ batcher. g.unchanged;
        }

    pub at_moment : (t : ℕ) → m ≡ moment_for old.core.past t → AllAt t (told_of old.core) (added (told_of old.core) (told_of new.core))
    at_moment t is =
        subst (AllAt t (told_of old.core)) (sym added_is)
        (all_at old.core.setting old.core.setting old.core.past k m t (told_of old.core) es
        (is ∙ ap (λ (h : List Entry). capped_moment (max t (last_moment h))) (sym entries_before)) g.own)

    -- as told

    module _ (sound : IsSound new) where
      setting_now : setting_told (setup_at old) (told_of new.core) ≡ old.core.setting
      setting_now = ap (λ (ts : List Stream). over old.core.setting ts) (sym sound.records ∙ ap (λ (s : Setting). s.streams) g.setting)

      entries_now : entries_told (told_of new.core) ≡ reverse es ++ old.core.past
      entries_now = entries_same (full_setting new.core) new.core.past ∙ g.past

      pub onto : (P : Setting → List Entry → Type 0) → P old.core.setting (reverse es ++ old.core.past) → P (setting_told (setup_at old) (told_of new.core)) (entries_told (told_of new.core))
      onto P at = subst (λ (s : Setting). P s (entries_told (told_of new.core))) (sym setting_now) (subst (P old.core.setting) (sym entries_now) at)

      back : (P : Setting → List Entry → Type 0) → P (setting_told (setup_at old) (told_of new.core)) (entries_told (told_of new.core)) → P old.core.setting (reverse es ++ old.core.past)
      back P at = subst (P old.core.setting) entries_now (subst (λ (s : Setting). P s (entries_told (told_of new.core))) setting_now at)

      pub calls_now : (sends : List ℕ → List ℕ) → calls_told (setup_at old) sends (told_of new.core) k ≡ calls old.core.setting sends (reverse es ++ old.core.past) k
      calls_now sends = ap₂ (λ (s : Setting) (h : List Entry). calls s sends h k) setting_now entries_now

      pub rests_now : AllRest old.core.setting (reverse es ++ old.core.past) k → Rests (setup_at old) (told_of new.core) k
      rests_now rest = onto (λ s h. AllRest s h k) rest

      pub now_rests : Rests (setup_at old) (told_of new.core) k → AllRest old.core.setting (reverse es ++ old.core.past) k
      now_rests rest = back (λ s h. AllRest s h k) rest

      pub runs_now : (job : Job) → RunsOver old.core.setting (reverse es ++ old.core.past) k job → RunsJob (setup_at old) (told_of new.core) k job
      runs_now job runs = runs_so (setup_at old) (told_of new.core) k job (onto (λ s h. RunsOver s h k job) runs)

      pub now_runs : (job : Job) → RunsJob (setup_at old) (told_of new.core) k job → RunsOver old.core.setting (reverse es ++ old.core.past) k job
      now_runs job runs = back (λ s h. RunsOver s h k job) (so_runs (setup_at old) (told_of new.core) k job runs)

  -- of the book as it stands
  module _ (b : BookState D T) (k : ℕ) (sound : IsSound b) where
    pub still_told : (P : Setting → List Entry → Type 0) → P b.core.setting b.core.past → P (setting_told (setup_at b) (told_of b.core)) (entries_told (told_of b.core))
    still_told P at = onto b b k 0 [] (added_none b k 0) sound P at

    pub told_still : (P : Setting → List Entry → Type 0) → P (setting_told (setup_at b) (told_of b.core)) (entries_told (told_of b.core)) → P b.core.setting b.core.past
    told_still P at = back b b k 0 [] (added_none b k 0) sound P at

    pub calls_still : (sends : List ℕ → List ℕ) → calls_told (setup_at b) sends (told_of b.core) k ≡ calls b.core.setting sends b.core.past k
    calls_still sends = calls_now b b k 0 [] (added_none b k 0) sound sends

    pub rests_still : Rests (setup_at b) (told_of b.core) k → AllRest b.core.setting b.core.past k
    rests_still rest = now_rests b b k 0 [] (added_none b k 0) sound rest

    pub runs_still : (job : Job) → RunsJob (setup_at b) (told_of b.core) k job → RunsOver b.core.setting b.core.past k job
    runs_still job runs = now_runs b b k 0 [] (added_none b k 0) sound job runs
