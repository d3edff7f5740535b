-- What the journal says after a run: its payloads say what its history did.
use Rattle.std.proofs.Common.{◌≡◌, ◌∙◌, ℕ, Bool, ◌||◌, List, [], ◌∷◌, ◌++◌, Some, None, ap, refl, sym}
use Rattle.std.specs.Prelude.{filter_map, reverse}
use Rattle.esm_model.specs.declared.entry.Entry.{Entry}
use Rattle.esm_model.specs.declared.entry.Entry.TheVariants.{Came, Began, Ended, Gave, Tried, Closed, Replayed, Shut}
use Rattle.esm_journal_record.specs.declared.said.Said.{Said}
use Rattle.esm_journal_record.specs.EntryPayload.{entry_said, AllMayBeSaid}
use Rattle.esm_journal_state.specs.Meaning.{history, state_said, window_tries_said, replayed_said}
use Rattle.esm_replay_model.proofs.Sayings.{history_says}
use Rattle.esm_replay_model.specs.ReplaySetting.{ReplaySetting, is_found_replayed}
use Rattle.esm_replay_model.specs.ReplayReport.{is_replayed}
use Rattle.esm_replay_model.specs.ReplayRun.{IsReplay}
use Rattle.esm_runner.specs.Files.{FilesState}
use Rattle.esm_replay_run.specs.Headline.{said_before, JournalSays}
use Rattle.esm_replay_run.specs.Laws.{AreLaws}

-- windows, by what a run says over what was said
record WindowsOf (s : ReplaySetting) (h : List Entry) (old : List Said) (n w : ℕ) : Type 0 where
  states : state_said (filter_map (entry_said s.base) h ++ old) n w ≡ state_said old n w
  tries : window_tries_said (filter_map (entry_said s.base) h ++ old) n w ≡ window_tries_said old n w

windows_of : (s : ReplaySetting) (h : List Entry) (old : List Said) (n w : ℕ) → IsReplay s h → WindowsOf s h old n w
windows_of s [] old n w run = record { states = refl; tries = refl }
windows_of s (Began lane places None m ∷ h) old n w run =
    let before : WindowsOf s h old n w = windows_of s h old n w run.0 in
    record { states = before.states; tries = before.tries }
windows_of s (Began lane places (Some window) m ∷ h) old n w run = absurd run.1.1
windows_of s (Ended lane reply m ∷ h) old n w run =
    let before : WindowsOf s h old n w = windows_of s h old n w run.0 in
    record { states = before.states; tries = before.tries }
windows_of s (Replayed shard places m ∷ h) old n w run =
    let before : WindowsOf s h old n w = windows_of s h old n w run.0 in
    record { states = before.states; tries = before.tries }
windows_of s (Came shard first count m ∷ h) old n w run = absurd run.1.1
windows_of s (Gave by shard places fate line state m ∷ h) old n w run = absurd run.1.1
windows_of s (Tried lane places closing tries m ∷ h) old n w run = absurd run.1.1
windows_of s (Closed lane window m ∷ h) old n w run = absurd run.1.1
windows_of s (Shut m ∷ h) old n w run = absurd run.1.1

pub says_after : {D : Type 0} (f : FilesState D) (s : ReplaySetting) (h : List Entry) → AreLaws → IsReplay s h → AllMayBeSaid s.base h → ((n i : ℕ) → is_found_replayed s n i ≡ replayed_said (said_before f) n i) → JournalSays f s h
says_after f s h laws run may found =
    let old = f.pair.payloads in
    let says = laws.says s h old run may in
    let is = history_says s.base h old may in
    record {
      fates = says.fates;
      tries = says.tries;
      states = λ n w. ap (λ (g : List Said). state_said g n w) is ∙ (windows_of s h (history (reverse old)) n w run).states;
      window_tries = λ n w. ap (λ (g : List Said). window_tries_said g n w) is ∙ (windows_of s h (history (reverse old)) n w run).tries;
      replays = λ n i. says.replays n i ∙ ap (λ (b : Bool). b || is_replayed h n i) (sym (found n i));
    }
