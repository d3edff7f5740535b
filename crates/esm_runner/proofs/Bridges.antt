-- A history that threads shared, in the words of its book.
use Rattle.std.proofs.Common.{◌≡◌, ◌<◌, ℕ, Bool, false, List, [], ◌∷◌, ◌++◌, length, refl, sym, ap, ◌∙◌, subst, inl, inr, Option, append_assoc}
use Rattle.std.specs.Prelude.{reverse, slice_index_or}
use Rattle.std.proofs.lemmas.List.{append-nil}
use Rattle.esm_io.specs.Told.{Grows}
use Rattle.esm_model.specs.declared.called.Called.{Called}
use Rattle.esm_model.specs.declared.setup.Setup.{Setup}
use Rattle.esm_model.specs.declared.setup.Told.{Told}
use Rattle.esm_model.specs.declared.entry.Entry.{Entry}
use Rattle.esm_model.specs.Setting.{Setting}
use Rattle.esm_model.specs.Entries.{is_running, batcher}
use Rattle.esm_model.specs.Calls.{calls}
use Rattle.esm_model.specs.Books.{entries_told, setting_told}
use Rattle.esm_model.proofs.TellingFacts.{entries_more}
use Rattle.esm_model.specs.GoingOn.{AllGiven}
use Rattle.esm_stream_book.specs.Batchers.{calls_told, Rests, RunsJob}
use Rattle.esm_workers.specs.Working.{Outside}
use Rattle.esm_workers.specs.Working as working
use Rattle.esm_workers.specs.Shared.{HaveCalled}
use Rattle.esm_stream_core.specs.CoreView.{full_setting}
use Rattle.esm_stream_core.specs.Told.{told_entries, told_of}
use Rattle.esm_stream_book.specs.Books.{BookState}
use Rattle.esm_runner.specs.Given.{AreGiven}
use Rattle.esm_runner.specs.Ran.{NoneRuns}
use Rattle.esm_runner.specs.Stopping.{HasLogged}
use Rattle.esm_stream_book.proofs.Records.{entries_same}

-- the history

pub past_is : {D T : Type 0} (v : BookState D T) → entries_told (told_of v.core) ≡ v.core.past
past_is v = entries_same (full_setting v.core) v.core.past

-- a book in which nothing was done tells nothing
pub told_new : {D T : Type 0} (v : BookState D T) → v.core.past ≡ [] → told_of v.core ≡ []
told_new v new = ap (λ h. told_entries (full_setting v.core) (reverse h)) new

-- moments

pub given_on : (gave : ℕ → Bool) (h es : List Told) → AreGiven gave (entries_told h) → AllGiven gave h es → AreGiven gave (entries_told (h ++ es))
given_on gave h [] before all = subst (λ l. AreGiven gave (entries_told l)) (sym (append-nil h)) before
given_on gave h (t ∷ es) before all =
    let here : AreGiven gave (entries_told (h ++ t ∷ [])) = subst (AreGiven gave) (sym (entries_more h t)) (before, all.0) in
    subst (λ l. AreGiven gave (entries_told l)) (append_assoc h (t ∷ []) es) (given_on gave (h ++ t ∷ []) es here all.1)

pub moments_are : {D T : Type 0} (gave : ℕ → Bool) (v : BookState D T) → AllGiven gave [] (told_of v.core) → AreGiven gave v.core.past
moments_are gave v all = subst (AreGiven gave) (past_is v) (given_on gave [] (told_of v.core) tt all)

-- batchers

pub none_runs : {D T : Type 0} (setup : Setup) (v : BookState D T) → ((k : ℕ) → Rests setup (told_of v.core) k) → NoneRuns v.core.past
none_runs setup v rest lane =
    ap (λ h. is_running h lane) (sym (past_is v)) ∙ rest (batcher (setting_told setup (told_of v.core)) (entries_told (told_of v.core)) lane) lane refl

calls_are : {D T : Type 0} (setup : Setup) (sends : List ℕ → List ℕ) (v : BookState D T) (k : ℕ) → setting_told setup (told_of v.core) ≡ v.core.setting → calls_told setup sends (told_of v.core) k ≡ calls v.core.setting sends v.core.past k
calls_are setup sends v k is =
    ap (λ (s : Setting). calls s sends (entries_told (told_of v.core)) k) is ∙ ap (λ h. calls v.core.setting sends h k) (past_is v)

-- a call that runs
logged_more : (sends : List ℕ → List ℕ) (setup : Setup) (h : List Told) (k : ℕ) (old new : Option (List Called))
    → working.HasOneMore (RunsJob setup h k) setup sends (calls_told setup sends h k) old new → HasLogged sends (setting_told setup h) (entries_told h) k old new
logged_more sends setup h k old new more = inr (record {
  lane = more.job.lane;
  mine = more.running.served;
  runs = more.running.running;
  reply = more.reply;
  logged = subst (λ (e : List ℕ). Grows old new (calls_told setup sends h k ++ record { name = setup.config.function; event = sends e; reply = more.reply } ∷ [])) more.running.event more.logged;
})

logged_told : (sends : List ℕ → List ℕ) (setup : Setup) (h : List Told) (k : ℕ) (old new : Option (List Called))
    → working.HasLogged (RunsJob setup h k) setup sends (calls_told setup sends h k) old new → HasLogged sends (setting_told setup h) (entries_told h) k old new
logged_told sends setup h k old new logged = elim logged [ inl grows ↦ inl grows | inr more ↦ logged_more sends setup h k old new more ]

module _ {D T F : Type 0} (o : Outside F) (setup : Setup) (v : BookState D T) (short : Bool) (batchers : ℕ) (old new : List F) (is : setting_told setup (told_of v.core) ≡ v.core.setting)
    (called : HaveCalled calls_told Rests RunsJob o setup (told_of v.core) short batchers old new) where
  pub calls_made : short ≡ false → (k : ℕ) (d : F) → k < length old → Grows (o.log (slice_index_or old k d)) (o.log (slice_index_or new k d)) (calls v.core.setting o.sends v.core.past k)
  calls_made long k d within = subst (Grows (o.log (slice_index_or old k d)) (o.log (slice_index_or new k d))) (calls_are setup o.sends v k is) (called.called long k d within)

  pub calls_logged : (k : ℕ) (d : F) → k < length old → HasLogged o.sends v.core.setting v.core.past k (o.log (slice_index_or old k d)) (o.log (slice_index_or new k d))
  calls_logged k d within =
      let a = o.log (slice_index_or old k d) in
      let b = o.log (slice_index_or new k d) in
      let told : HasLogged o.sends (setting_told setup (told_of v.core)) (entries_told (told_of v.core)) k a b = logged_told o.sends setup (told_of v.core) k a b (called.logged k d within) in
      subst (λ (h : List Entry). HasLogged o.sends v.core.setting h k a b) (past_is v)
      (subst (λ (s : Setting). HasLogged o.sends s (entries_told (told_of v.core)) k a b) is told)
