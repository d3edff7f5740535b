-- Where a clock gave the moments of what a book has and owes, it did so after each call of a reader or a batcher at a moment
-- that it gave.
use Rattle.std.proofs.Common.{◌≡◌, ℕ, Bool, true, List, refl, sym, ap, subst}
use Rattle.std.specs.Prelude.{Result, Ok, Err, OnOk, OnErr}
use Rattle.esm_io.specs.Meanings.{DiskMeaning, DestMeaning}
use Rattle.esm_journal.specs.Pair.{PairState}
use Rattle.esm_model.specs.declared.book.BookError.{BookError}
use Rattle.esm_model.specs.declared.book.BookError.TheVariants as why
use Rattle.esm_model.specs.declared.book.CameError.{CameError}
use Rattle.esm_model.specs.declared.book.CameError.TheVariants as refusal
use Rattle.esm_model.specs.declared.book.Job.{Job}
use Rattle.esm_model.specs.declared.book.Next.{Next}
use Rattle.esm_model.specs.declared.book.Trouble.TheVariants.{Disk, Dest}
use Rattle.esm_model.specs.declared.config.Config.{Config}
use Rattle.esm_model.specs.declared.entry.Entry.TheVariants.{Shut, Ended}
use Rattle.esm_model.specs.declared.entry.Reply.{Reply}
use Rattle.esm_model.specs.Records.{Record}
use Rattle.esm_ingest.specs.Parts.{parts_of}
use Rattle.esm_stream_core.specs.Calls.{moment_for, coming_lists, came_entries, ended_entries}
use Rattle.esm_stream_core.specs.CoreView.{setting_with}
use Rattle.esm_stream_book.specs.Books.{BookState}
use Rattle.esm_stream_book.specs.Calls.{AddedOne, IsSame, next_entries_now, next_now}
use Rattle.esm_stream_book.specs.Moments.{IsTimedView}
use Rattle.esm_stream_book.specs.Opening.{IsOpened}
use Rattle.esm_stream_book.proofs.PoolingAsked.{NextSays}
use Rattle.esm_stream_book.proofs.PoolingCame.{CameSays}
use Rattle.esm_stream_book.proofs.PoolingEnded.{DoneSays}
use Rattle.esm_stream_book.proofs.Timed.{all_timed, some_timed, one_timed, parts_have, next_has, ended_have}

module _ (gave : ℕ → Bool) where
  still_timed : {D T : Type 0} (old new : BookState D T) → new.core ≡ old.core → IsTimedView gave old.core → IsTimedView gave new.core
  still_timed old new same timed = subst (IsTimedView gave) (sym same) timed

  same_timed : {D T : Type 0} (n : DestMeaning T) (old new : BookState D T) → IsSame n old new → IsTimedView gave old.core → IsTimedView gave new.core
  same_timed {D} {T} n old new same timed = still_timed old new (ap (λ (b : BookState D T). b.core) same.rest) timed

  pub came_timed : {D T : Type 0} (d : DiskMeaning D) (n : DestMeaning T) (list : List Record) (moment : ℕ) (old new : BookState D T) (r : Result (Unit {0}) CameError) → CameSays d n list moment old new r
      → gave moment ≡ true → IsTimedView gave old.core → IsTimedView gave new.core
  came_timed d n list moment old new (Ok u) says clock timed =
      let s = setting_with old.core.setting (coming_lists old.core list) in
      let m = moment_for old.core.past moment in
      all_timed gave d n moment s (came_entries old.core list m) old new clock timed (parts_have m (parts_of old.core.setting old.core.past list)) says.added
  came_timed d n list moment old new (Err refusal.DiskFault) says clock timed =
      let s = setting_with old.core.setting (coming_lists old.core list) in
      let m = moment_for old.core.past moment in
      some_timed gave d n moment s (came_entries old.core list m) Disk old new clock timed (parts_have m (parts_of old.core.setting old.core.past list)) (says.stopped refl)
  came_timed {D} {T} d n list moment old new (Err (refusal.StreamChanged change)) says clock timed =
      still_timed old new (ap (λ (b : BookState D T). b.core) (says.changed change refl).2) timed
  came_timed {D} {T} d n list moment old new (Err refusal.Down) says clock timed =
      still_timed old new (ap (λ (b : BookState D T). b.core) (says.left refl)) timed
  came_timed d n list moment old new (Err refusal.OutOfMemory) says clock timed = same_timed n old new (says.no_memory refl) timed

  pub shut_timed : {D T : Type 0} (moment : ℕ) (old new : BookState D T) (r : Result (Unit {0}) BookError) → OnOk r (AddedOne old new (Shut (moment_for old.core.past moment))) → OnErr r (new ≡ old)
      → gave moment ≡ true → IsTimedView gave old.core → IsTimedView gave new.core
  shut_timed moment old new (Ok u) added left clock timed = one_timed gave moment (Shut (moment_for old.core.past moment)) old new clock timed refl added
  shut_timed {D} {T} moment old new (Err e) added left clock timed = still_timed old new (ap (λ (b : BookState D T). b.core) left) timed

  pub asked_timed : {D T : Type 0} (d : DiskMeaning D) (n : DestMeaning T) (k moment : ℕ) (old new : BookState D T) (r : Result Next BookError) → NextSays d n k moment old new r
      → gave moment ≡ true → IsTimedView gave old.core → IsTimedView gave new.core
  asked_timed d n k moment old new (Ok x) says clock timed =
      let m = moment_for old.core.past moment in
      all_timed gave d n moment old.core.setting (next_entries_now old.core k moment) old new clock timed (next_has old.core.setting old.core.past k m (next_now old.core k moment)) says.added
  asked_timed d n k moment old new (Err why.DiskFault) says clock timed =
      let m = moment_for old.core.past moment in
      some_timed gave d n moment old.core.setting (next_entries_now old.core k moment) Disk old new clock timed (next_has old.core.setting old.core.past k m (next_now old.core k moment)) (says.stopped refl)
  asked_timed d n k moment old new (Err why.DestFault) says clock timed =
      let m = moment_for old.core.past moment in
      some_timed gave d n moment old.core.setting (next_entries_now old.core k moment) Dest old new clock timed (next_has old.core.setting old.core.past k m (next_now old.core k moment)) (says.undelivered refl)
  asked_timed {D} {T} d n k moment old new (Err why.Down) says clock timed =
      still_timed old new (ap (λ (b : BookState D T). b.core) (says.left refl)) timed
  asked_timed d n k moment old new (Err why.OutOfMemory) says clock timed = same_timed n old new (says.no_memory refl) timed

  pub ended_timed : {D T : Type 0} (d : DiskMeaning D) (n : DestMeaning T) (job : Job) (reply : Reply) (moment : ℕ) (old new : BookState D T) (r : Result ℕ BookError) → DoneSays d n job reply moment old new r
      → gave moment ≡ true → IsTimedView gave old.core → IsTimedView gave new.core
  ended_timed d n job reply moment old new (Ok count) says clock timed =
      let m = moment_for old.core.past moment in
      all_timed gave d n moment old.core.setting (ended_entries old.core job.lane reply m) old new clock timed (ended_have old.core job.lane reply m) says.added
  ended_timed d n job reply moment old new (Err why.DiskFault) says clock timed =
      let m = moment_for old.core.past moment in
      some_timed gave d n moment old.core.setting (ended_entries old.core job.lane reply m) Disk old new clock timed (ended_have old.core job.lane reply m) (says.stopped refl)
  ended_timed d n job reply moment old new (Err why.DestFault) says clock timed =
      let m = moment_for old.core.past moment in
      some_timed gave d n moment old.core.setting (ended_entries old.core job.lane reply m) Dest old new clock timed (ended_have old.core job.lane reply m) (says.undelivered refl)
  ended_timed d n job reply moment old new (Err why.Down) says clock timed =
      one_timed gave moment (Ended job.lane reply (moment_for old.core.past moment)) old new clock timed refl (says.noted refl)
  ended_timed d n job reply moment old new (Err why.OutOfMemory) says clock timed = same_timed n old new (says.no_memory refl) timed

  -- and a book that was just opened has and owes no entry
  pub opened_timed : {D T : Type 0} (config : Config) (calls : ℕ) (pair : PairState D) (dest : T) (b : BookState D T) → IsOpened config calls pair dest b → IsTimedView gave b.core
  opened_timed config calls pair dest b opened = subst (IsTimedView gave) (sym opened.core.is) (record { past = tt; owed = tt })
