-- A book's setup, and what the book was opened with.
use Rattle.std.proofs.Common.{◌≡◌, ℕ, List, sym, ap, ◌∙◌, Option}
use Rattle.std.specs.Coded.{Coded}
use Rattle.esm_journal.specs.Pair.{pair_code}
use Rattle.esm_model.specs.declared.setup.Setup.{Setup}
use Rattle.esm_model.specs.Setting.{Setting, Stream, over}
use Rattle.esm_model.specs.Books.{setting_told}
use Rattle.esm_stream_core.specs.Told.{told_of}
use Rattle.esm_stream_book.specs.Books.{BookState, setup_of}
use Rattle.esm_stream_book.specs.Keeping.{IsSound}

module _ {D T : Type 0} (code : Coded D) (dest : Coded T) (lines : T → Option (List (List ℕ))) where
  module _ (v w : BookState D T) (same : setup_of code dest lines w ≡ setup_of code dest lines v) where
    abbrev setting_from : Setup → Setting
    setting_from s = record { config = s.config; calls = s.calls; streams = w.core.setting.streams; fates = s.fates; tries = s.tries; states = s.states; window_tries = s.window_tries }

    pub setting_of_setup : w.core.setting ≡ over v.core.setting w.core.setting.streams
    setting_of_setup = ap setting_from same

    pub found_of_setup : w.found ≡ v.found
    found_of_setup = (pair_code code).inj w.found v.found (ap (λ (s : Setup). s.pair) same)

    pub found_dest_of_setup : w.found_dest ≡ v.found_dest
    found_dest_of_setup = dest.inj w.found_dest v.found_dest (ap (λ (s : Setup). s.dest) same)

    -- the setting is what the setup and the history tell
    pub setting_is : IsSound w → setting_told (setup_of code dest lines v) (told_of w.core) ≡ w.core.setting
    setting_is sound =
        ap (λ (s : Setup). setting_told s (told_of w.core)) (sym same)
        ∙ ap (λ (ts : List Stream). over w.core.setting ts) (sym sound.records)
