-- The setup of a queue's book, and what the book was opened with.
use Rattle.std.proofs.Common.{◌≡◌, List, sym, ap, ◌∙◌}
use Rattle.std.specs.Coded.{Coded}
use Rattle.esm_journal.specs.Pair.{PairState, pair_code}
use Rattle.esm_model.specs.declared.item.Message.{Message}
use Rattle.esm_model.specs.declared.setup.Setup.{Setup}
use Rattle.esm_model.specs.Setup.{no_setup}
use Rattle.esm_queue_model.specs.QueueSetting.{QueueSetting, over_messages}
use Rattle.esm_queue_model.specs.QueueBooks.{queue_setting_told}
use Rattle.esm_queue_core.specs.Told.{told_of}
use Rattle.esm_queue_book.specs.Books.{BookState, setup_of}
use Rattle.esm_queue_book.specs.Keeping.{IsSound}

-- the setting over these messages of a book that was opened with the setup
abbrev setting_with : List Message → Setup → QueueSetting
setting_with messages s = record { config = s.config; calls = s.calls; visibility = s.visibility_ms; messages = messages; deletions = s.deletions }

module _ {D : Type 0} (code : Coded D) where
  -- the setup over these parts of a book
  abbrev setup_over : QueueSetting → PairState D → Setup
  setup_over s found = record no_setup {
    config = s.config;
    calls = s.calls;
    visibility_ms = s.visibility;
    deletions = s.deletions;
    payloads = found.payloads;
    pair = (pair_code code).code found;
  }

  module _ (v w : BookState D) (same : setup_of code w ≡ setup_of code v) where
    pub setting_of_setup : w.core.setting ≡ over_messages v.core.setting w.core.setting.messages
    setting_of_setup = ap (setting_with w.core.setting.messages) same

    pub found_of_setup : w.found ≡ v.found
    found_of_setup = (pair_code code).inj w.found v.found (ap (λ (s : Setup). s.pair) same)

    -- the setting is what the setup and the history tell
    pub setting_is : IsSound w → queue_setting_told (setup_of code v) (told_of w.core) ≡ w.core.setting
    setting_is sound =
        ap (λ (s : Setup). queue_setting_told s (told_of w.core)) (sym same)
        ∙ ap (λ (ms : List Message). over_messages w.core.setting ms) (sym sound.messages)
